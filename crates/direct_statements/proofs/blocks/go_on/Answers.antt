-- `direct_statements::blocks::go_on` meets its contract: a passed answer goes on with the statements, any other stays. Assumes nothing.
use mathlib.Core.Path.{ap}
use native.Mathlib.Omega.{arith}
use Rattle.direct_statements.specs.Standing.{counted}
use Rattle.direct_statements.specs.declared.Progress.{Progress}
use Rattle.direct_statements.proofs.ResumeLaws.{on_passed, on_reached, on_refused}
use Rattle.direct_statements.proofs.blocks.go_on.Goals as goal

pub start-requires : goal.start-requires
start-requires c =
    let b = rw c.in-Passed.is at c.requires in
    record { order = b.order; few = b.few; room = b.room }

pub returns-in-Passed : goal.returns-in-Passed
returns-in-Passed c =
    let u = c.start.ensures.result_bound in
    let e = ap (λ (x : Progress). counted x) c.in-Passed.is in record {
      result_bound = omega arith;
      goes_on = (λ R q s h. on_passed c.args.codes.now
          c.args.args.now
          c.args.rows.now
          c.args.inputs.now
          c.args.from
          c.args.end R q
          c.args.r
          c.args.outputs.now
          c.args.variables.now
          c.in-Passed.n c.start.result _ _ s
          c.in-Passed.is h c.start.ensures.starts);
    }

pub returns-in-Reached : goal.returns-in-Reached
returns-in-Reached c =
    let e = ap (λ (x : Progress). counted x) c.in-Reached.is in record {
      result_bound = omega arith;
      goes_on = (λ R q s h. on_reached c.args.codes.now c.args.args.now
          c.args.rows.now c.args.inputs.now
          c.args.from c.args.end R q
          c.args.r c.args.outputs.now
          c.args.variables.now c.in-Reached.p c.in-Reached.n s
          c.in-Reached.is);
    }

pub returns-in-Refused : goal.returns-in-Refused
returns-in-Refused c =
    record {
      result_bound = omega arith;
      goes_on = (λ R q s h. on_refused c.args.codes.now c.args.args.now
          c.args.rows.now c.args.inputs.now
          c.args.from c.args.end R q
          c.args.r c.args.outputs.now
          c.args.variables.now c.in-Refused.q c.in-Refused.x s
          c.in-Refused.is);
    }
