-- `base_codes::types::equality` meets its contract: std_logic and integer are a stretch, computed. Assumes nothing.
use mathlib.Core.Path.{refl}
use mathlib.Core.Option.{bind}
use Prim.Native.Nat.{ℕ}
use native.Mathlib.Omega.{arith}
use borrow.Author.Rules.{rules}
use Rattle.spec_design.specs.Expression.{equality_type}
use Rattle.base_codes.specs.Types.{tag_or, type_of_tag, type_after}
use Rattle.base_codes.proofs.Finite.{all, answers}
use Rattle.base_codes.proofs.types.equality.Goals as goal

table : ℕ → ℕ
table t = tag_or (type_after equality_type t)

pub returns-in-0 : goal.returns-in-0
unfolding table all bind type_of_tag equality_type
returns-in-0 c = answers table _ 2 0 refl _ (omega arith) c.in-0.is

pub returns-in_default : goal.returns-in_default
unfolding table all bind type_of_tag equality_type
returns-in_default c = answers table _ 254 2 refl _ c.in_default.if-t-lt2-own.false (search rules)
