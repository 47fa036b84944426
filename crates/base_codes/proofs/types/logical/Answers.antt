-- `base_codes::types::logical` meets its contract: std_logic and boolean, computed. Assumes nothing.
use mathlib.Core.Path.{refl, sym, ap}
use mathlib.Core.Bool.{◌||◌}
use mathlib.Core.Option.{bind}
use Prim.Native.Nat.{ℕ}
use native.Mathlib.Omega.{arith}
use lib.Dec.{eqb}
use borrow.Author.Tests.{ne_eqb}
use borrow.Author.Rules.{rules}
use Rattle.spec_design.specs.Expression.{logical_type}
use Rattle.base_codes.specs.Types.{tag_or, type_of_tag, type_after}
use Rattle.base_codes.proofs.Finite.{all, answers_but}
use Rattle.base_codes.proofs.types.logical.Goals as goal

table : ℕ → ℕ
table t = tag_or (type_after logical_type t)

pub returns-in-0 : goal.returns-in-0
unfolding table bind type_of_tag logical_type
returns-in-0 c = ap table (sym c.in-0.is)

pub returns-in-254 : goal.returns-in-254
unfolding table bind type_of_tag logical_type
returns-in-254 c = ap table (sym c.in-254.is)

pub returns-in_default : goal.returns-in_default
unfolding table all bind type_of_tag logical_type
returns-in_default c =
    answers_but (λ k. eqb k 0 || eqb k 254) table _ 256 0 refl c.args.t (omega arith) (search rules)
    (rw (ne_eqb _ 0 c.in_default.in_default-own.rest.0.1, ne_eqb _ 254 c.in_default.in_default-own.rest.1))
