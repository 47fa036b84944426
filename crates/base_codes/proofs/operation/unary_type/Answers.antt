-- `base_codes::operation::unary_type` meets its contract: the sign and not, and no other code. Assumes nothing.
use mathlib.Core.Path.{sym, ◌∙◌, ap}
use mathlib.Core.Option.{bind}
use borrow.Author.Tests.{ne_eqb}
use Rattle.spec_design.specs.Expression.{sign, invert, type_of_unary}
use Rattle.base_codes.specs.Types.{tag_or}
use Rattle.base_codes.proofs.TypeLaws.{unary_type_is, unary_type_no}
use Rattle.base_codes.proofs.operation.unary_type.Goals as goal

pub returns-in-16 : goal.returns-in-16
unfolding bind type_of_unary
returns-in-16 c = c.sum.ensures ∙ sym (ap tag_or (unary_type_is c.args.op sign (rw c.in-16.is) c.args.t))

pub returns-in-17 : goal.returns-in-17
unfolding bind type_of_unary
returns-in-17 c = c.logical.ensures ∙ sym (ap tag_or (unary_type_is c.args.op invert (rw c.in-17.is) c.args.t))

pub returns-in_default : goal.returns-in_default
returns-in_default c =
    sym (ap tag_or (unary_type_no c.args.op (rw (ne_eqb _ 16 c.in_default.in_default-own.rest.0.1, ne_eqb _ 17 c.in_default.in_default-own.rest.1)) c.args.t))
