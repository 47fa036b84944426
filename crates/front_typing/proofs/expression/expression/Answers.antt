-- `front_typing::expression::expression` meets its contract: the stack is empty at first, and its top is the type. Assumes nothing.
use native.Mathlib.Omega.{arith}
use mathlib.Core.Path.{refl}
use Rattle.front_typing.proofs.StatementLaws.{judged_whole}
use Rattle.front_typing.proofs.expression.expression.Goals as goal

pub run-p-requires : goal.run-p-requires
run-p-requires c = (record { size = refl; depth = omega arith }, c.requires)

pub top-requires : goal.top-requires
top-requires c = c.run-p.ensures.room.depth

pub returns : goal.returns
returns c = judged_whole _ c.run-p.result _ c.top.result c.run-p.ensures c.top.ensures
