-- `base_codes::operation::width` meets its contract: the codes of literals and names, computed. Assumes nothing.
use mathlib.Core.Path.{refl, sym, ap}
use native.Mathlib.Omega.{arith}
use borrow.Author.Rules.{rules}
use Rattle.base_codes.specs.Operation.{width_of}
use Rattle.base_codes.proofs.Finite.{all, answers}
use Rattle.base_codes.proofs.operation.width.Goals as goal

pub returns-then-op-eq-INTEGER : goal.returns-then-op-eq-INTEGER
unfolding width_of
returns-then-op-eq-INTEGER c = record { value = ap width_of (sym c.if-op-eq-INTEGER.true); upper_bound = omega arith }

pub returns-in-2 : goal.returns-in-2
unfolding all width_of
returns-in-2 c =
    record { value = answers width_of _ 3 2 refl c.args.op c.in-2.if-op-lt2-own.false c.in-2.if-op-lt5-own.true; upper_bound = omega arith }

pub returns-in_default : goal.returns-in_default
unfolding all width_of
returns-in_default c =
    record {
      value = answers width_of _ 1 0 refl c.args.op (omega arith)
          (let n = c.if-op-eq-INTEGER.false in let l = c.in_default.if-op-lt2-own.true in omega arith);
      upper_bound = omega arith;
    }

pub returns-in_default-2 : goal.returns-in_default-2
unfolding all width_of
returns-in_default-2 c =
    record { value = answers width_of _ 251 5 refl c.args.op c.in_default.if-op-lt5-own.false (search rules); upper_bound = omega arith }
