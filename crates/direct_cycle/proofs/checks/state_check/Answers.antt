-- `direct_cycle::checks::state_check` meets its contract: place, outputs and variables in turn. Assumes nothing.
use Rattle.direct_cycle.proofs.CallLaws.{state_third, state_second, state_first}
use borrow.Author.Rules.{rules}
use Rattle.direct_cycle.proofs.checks.state_check.Goals as goal

pub returns-then-also : goal.returns-then-also
returns-then-also c =
    record {
      value = state_third c.args.rows.now
          c.args.size
          c.args.output_types.now
          c.args.variable_types.now
          c.args.s
          c.place_right-right.result c.slots_right-also.result
          c.slots_right.result c.place_right-right.ensures
          c.if-right.true c.slots_right-also.ensures
          c.if-also.true c.slots_right.ensures;
      outputs_len = (search rules, search rules);
    }

pub returns-else-also : goal.returns-else-also
returns-else-also c =
    record {
      value = state_second c.args.rows.now
          c.args.size
          c.args.output_types.now
          c.args.variable_types.now
          c.args.s
          c.place_right-right.result c.slots_right-also.result
          c.place_right-right.ensures c.if-right.true c.slots_right-also.ensures
          c.if-also.false;
      outputs_len = (search rules, search rules);
    }

pub returns-else-right : goal.returns-else-right
returns-else-right c =
    record {
      value = state_first c.args.rows.now c.args.size
          c.args.output_types.now
          c.args.variable_types.now
          c.args.s c.place_right-right.result c.place_right-right.ensures c.if-right.false;
      outputs_len = (search rules, search rules);
    }
