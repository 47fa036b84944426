-- `base_codes::operation::operands` meets its contract: the codes of operators of one operand and of two are two stretches, computed. Assumes nothing.
use mathlib.Core.Path.{refl}
use native.Mathlib.Omega.{arith}
use borrow.Author.Rules.{rules}
use Rattle.base_codes.specs.Operation.{count_or, operands_of}
use Rattle.base_codes.proofs.Finite.{all, answers}
use Rattle.base_codes.proofs.operation.operands.Goals as goal

pub returns-in-16 : goal.returns-in-16
unfolding all operands_of count_or
returns-in-16 c = answers operands_of _ 2 16 refl _ c.in-16.if-op-lt16-own.false c.in-16.if-op-lt18-own.true

pub returns-in-18 : goal.returns-in-18
unfolding all operands_of count_or
returns-in-18 c = answers operands_of _ 15 18 refl _ c.in-18.if-op-lt18-own.false c.in-18.if-op-lt33-own.true

pub returns-in_default : goal.returns-in_default
unfolding all operands_of count_or
returns-in_default c = answers operands_of _ 16 0 refl _ (omega arith) c.in_default.if-op-lt16-own.true

pub returns-in_default-2 : goal.returns-in_default-2
unfolding all operands_of count_or
returns-in_default-2 c = answers operands_of _ 223 33 refl _ c.in_default.if-op-lt33-own.false (search rules)
