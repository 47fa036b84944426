-- `base_codes::operation::operation_of` meets its contract: each kind has its row. Assumes nothing.
use mathlib.Core.Path.{sym, ap}
use Rattle.base_codes.specs.Operation.{operator_of, code_or, operation_of}
use Rattle.base_codes.proofs.OperationLaws.{no_operation}
use Rattle.base_codes.proofs.operation.operation_of.Goals as goal

pub returns-in-11 : goal.returns-in-11
unfolding operation_of code_or operator_of
returns-in-11 c = ap operation_of (sym c.in-11.is)

pub returns-in-12 : goal.returns-in-12
unfolding operation_of code_or operator_of
returns-in-12 c = ap operation_of (sym c.in-12.is)

pub returns-in-13 : goal.returns-in-13
unfolding operation_of code_or operator_of
returns-in-13 c = ap operation_of (sym c.in-13.is)

pub returns-in-14 : goal.returns-in-14
unfolding operation_of code_or operator_of
returns-in-14 c = ap operation_of (sym c.in-14.is)

pub returns-in-15 : goal.returns-in-15
unfolding operation_of code_or operator_of
returns-in-15 c = ap operation_of (sym c.in-15.is)

pub returns-in-16 : goal.returns-in-16
unfolding operation_of code_or operator_of
returns-in-16 c = ap operation_of (sym c.in-16.is)

pub returns-in-17 : goal.returns-in-17
unfolding operation_of code_or operator_of
returns-in-17 c = ap operation_of (sym c.in-17.is)

pub returns-in-18 : goal.returns-in-18
unfolding operation_of code_or operator_of
returns-in-18 c = ap operation_of (sym c.in-18.is)

pub returns-in-19 : goal.returns-in-19
unfolding operation_of code_or operator_of
returns-in-19 c = ap operation_of (sym c.in-19.is)

pub returns-in-20 : goal.returns-in-20
unfolding operation_of code_or operator_of
returns-in-20 c = ap operation_of (sym c.in-20.is)

pub returns-in-21 : goal.returns-in-21
unfolding operation_of code_or operator_of
returns-in-21 c = ap operation_of (sym c.in-21.is)

pub returns-in-44 : goal.returns-in-44
unfolding operation_of code_or operator_of
returns-in-44 c = ap operation_of (sym c.in-44.is)

pub returns-in-45 : goal.returns-in-45
unfolding operation_of code_or operator_of
returns-in-45 c = ap operation_of (sym c.in-45.is)

pub returns-in-46 : goal.returns-in-46
unfolding operation_of code_or operator_of
returns-in-46 c = ap operation_of (sym c.in-46.is)

pub returns-in-47 : goal.returns-in-47
unfolding operation_of code_or operator_of
returns-in-47 c = ap operation_of (sym c.in-47.is)

pub returns-in_default : goal.returns-in_default
returns-in_default c =
    no_operation _ c.in_default.in_default-own.rest.0.0.0.0.0.0.0.0.0.0.0.0.0.0.1 c.in_default.in_default-own.rest.0.0.0.0.0.0.0.0.0.0.0.0.0.1
    c.in_default.in_default-own.rest.0.0.0.0.0.0.0.0.0.0.0.0.1 c.in_default.in_default-own.rest.0.0.0.0.0.0.0.0.0.0.0.1
    c.in_default.in_default-own.rest.0.0.0.0.0.0.0.0.0.0.1 c.in_default.in_default-own.rest.0.0.0.0.0.0.0.0.0.1 c.in_default.in_default-own.rest.0.0.0.0.0.0.0.0.1
    c.in_default.in_default-own.rest.0.0.0.0.0.0.0.1 c.in_default.in_default-own.rest.0.0.0.0.0.0.1 c.in_default.in_default-own.rest.0.0.0.0.0.1 c.in_default.in_default-own.rest.0.0.0.0.1
    c.in_default.in_default-own.rest.0.0.0.1 c.in_default.in_default-own.rest.0.0.1 c.in_default.in_default-own.rest.0.1 c.in_default.in_default-own.rest.1
