-- `image_evaluator::evaluate` meets its contract: the part of the code is within the section, and its value is that of the run. Assumes nothing.
use native.Mathlib.Omega.{arith}
use Rattle.image_evaluator.specs.Value.{machine_for}
use Rattle.image_evaluator.proofs.LoopLaws.{part_outside, part_within}
use Rattle.image_evaluator.proofs.evaluate.Goals as goal

pub returns-then-code-start : goal.returns-then-code-start
returns-then-code-start c =
    let s = c.args in
    let M = machine_for s.inputs.now.kinds.now s.variables.now.kinds.now s.inputs.now.values.now s.variables.now.values.now in
    record { value = part_outside M s.code.now s.start s.size (let h = c.if-code-start.true in omega arith); room = c.requires }

pub returns-then-code-start-2 : goal.returns-then-code-start-2
returns-then-code-start-2 c =
    let s = c.args in
    let M = machine_for s.inputs.now.kinds.now s.variables.now.kinds.now s.inputs.now.values.now s.variables.now.values.now in
    record { value = part_outside M s.code.now s.start s.size (let h = c.if-code-start-2.true in omega arith); room = c.requires }

pub run-requires : goal.run-requires
run-requires c = c.requires

pub returns : goal.returns
returns c =
    let s = c.args in
    let M = machine_for s.inputs.now.kinds.now s.variables.now.kinds.now s.inputs.now.values.now s.variables.now.values.now in record {
      value = part_within M s.code.now s.start s.size (let h = c.if-code-start-2.false in omega arith)
          c.run.ensures.value;
      room = c.run.ensures.room;
    }
