-- The operations of an expression stand behind their operands, so that the law of postfix items (spec_design/proofs/Postfix.antt) is theirs. Assumes nothing.
use mathlib.Core.Path.{refl}
use lib.IntN.{pos}
use Rattle.spec_design.specs.Types.{ExprTy}
use Rattle.spec_design.specs.Expression.{Unary, Binary}
use Rattle.spec_design.proofs.Postfix.{Lays}
use Rattle.base_ir.specs.Operations.{Op, op, leaf_op, ops}
use Rattle.base_codes.specs.Types.{tag_of}
use Rattle.base_codes.specs.Operation.{unary_code, binary_code}

-- an operator's operation, with the type of its operands
abbrev pub unary_op : Unary → ExprTy → Op
unary_op o t = op (unary_code o) (pos (tag_of t))

abbrev pub binary_op : Binary → ExprTy → Op
binary_op o t = op (binary_code o) (pos (tag_of t))

pub ops_laid : Lays leaf_op unary_op binary_op ops
unfolding ops
ops_laid = record { leaf = λ l. refl; unary = λ o t a. refl; binary = λ o t a b. refl }
