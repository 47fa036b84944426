-- `base_codes::types::order` meets its contract: integers, computed. Assumes nothing.
use mathlib.Core.Path.{refl, sym, ap}
use mathlib.Core.Option.{bind}
use Prim.Native.Nat.{ℕ}
use native.Mathlib.Omega.{arith}
use lib.Dec.{eqb}
use borrow.Author.Tests.{ne_eqb}
use borrow.Author.Rules.{rules}
use Rattle.spec_design.specs.Expression.{order_type}
use Rattle.base_codes.specs.Types.{tag_or, type_of_tag, type_after}
use Rattle.base_codes.proofs.Finite.{all, answers_but}
use Rattle.base_codes.proofs.types.order.Goals as goal

table : ℕ → ℕ
table t = tag_or (type_after order_type t)

pub returns-in-1 : goal.returns-in-1
unfolding table bind type_of_tag order_type
returns-in-1 c = ap table (sym c.in-1.is)

pub returns-in_default : goal.returns-in_default
unfolding table all bind type_of_tag order_type
returns-in_default c =
    answers_but (λ k. eqb k 1) table _ 256 0 refl c.args.t (omega arith) (search rules) (ne_eqb _ 1 c.in_default.in_default-own.rest.1)
