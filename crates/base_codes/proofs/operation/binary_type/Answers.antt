-- `base_codes::operation::binary_type` meets its contract: codes whose operators do the same with types are stretches, computed. Assumes nothing.
use mathlib.Core.Path.{refl, ◌∙◌}
use mathlib.Core.Option.{bind}
use native.Mathlib.Omega.{arith}
use borrow.Author.Rules.{rules}
use Rattle.spec_design.specs.Expression.{sum_type, order_type, equality_type, logical_type, type_of_binary}
use Rattle.base_codes.specs.Types.{binary_of}
use Rattle.base_codes.proofs.Finite.{all}
use Rattle.base_codes.proofs.TypeLaws.{agrees, stretch, stretch_none}
use Rattle.base_codes.proofs.operation.binary_type.Goals as goal
use Rattle.base_codes.proofs.operation.binary_type.Goals.{then-op-lt20, else-op-lt20+else-op-lt22+else-op-lt26+else-op-lt29+then-op-lt33}

pub returns-in-20 : goal.returns-in-20
unfolding all agrees bind binary_of type_of_binary equality_type
returns-in-20 c =
    c.equality.ensures ∙ stretch equality_type binary_of 2 20 refl _ c.in-20.if-op-lt20-own.false c.in-20.if-op-lt22-own.true _

pub returns-in-22 : goal.returns-in-22
unfolding all agrees bind binary_of type_of_binary order_type
returns-in-22 c =
    c.order.ensures ∙ stretch order_type binary_of 4 22 refl _ c.in-22.if-op-lt22-own.false c.in-22.if-op-lt26-own.true _

pub returns-in-26 : goal.returns-in-26
unfolding all agrees bind binary_of type_of_binary logical_type
returns-in-26 c =
    c.logical.ensures ∙ stretch logical_type binary_of 3 26 refl _ c.in-26.if-op-lt26-own.false c.in-26.if-op-lt29-own.true _

pub returns-in-18 : goal.returns-in-18
unfolding all agrees bind binary_of type_of_binary sum_type
returns-in-18 c =
    c.sum.ensures
    ∙ (elim c.in-18-1.branch [
      | then-op-lt20 w ↦ stretch sum_type binary_of 2 18 refl c.args.op (omega arith) (omega arith) c.args.t
      | else-op-lt20+else-op-lt22+else-op-lt26+else-op-lt29+then-op-lt33 w ↦ stretch sum_type binary_of 4 29 refl c.args.op (omega arith) (omega arith) c.args.t
    ])

pub returns-in_default : goal.returns-in_default
unfolding all agrees bind binary_of type_of_binary
returns-in_default c = stretch_none binary_of 18 0 refl c.args.op (omega arith) c.in_default.if-op-lt18-own.true _

pub returns-in_default-2 : goal.returns-in_default-2
unfolding all agrees bind binary_of type_of_binary
returns-in_default-2 c = stretch_none binary_of 223 33 refl _ c.in_default.if-op-lt33-own.false (search rules) _
