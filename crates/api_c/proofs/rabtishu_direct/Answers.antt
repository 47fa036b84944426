-- `api_c::rabtishu_direct` meets its contract: the new state is stored where the cycle was performed. Assumes nothing.
use Rattle.base_answers.specs.declared.State.{State}
use Rattle.spec_semantics.specs.Calls.{Called}
use Rattle.spec_behaviour.specs.Direct.{direct_of}
use Rattle.direct_cycle.specs.Calls.{call_of}
use Rattle.api_c.proofs.CallLaws.{cycled_stored, cycled_kept}
use Rattle.api_c.proofs.NarrowLaws.{direct_narrow}
use Rattle.api_c.proofs.rabtishu_direct.Goals as goal

pub answered-requires : goal.answered-requires
answered-requires c =
    let a = c.args in
    direct_narrow a.text.now c.to_state-s.result (call_of a.inputs.now a.row.now) c.run-a.result.answer
    c.run-a.ensures.0

pub returns-then-is_ok : goal.returns-then-is_ok
returns-then-is_ok c =
    let call : State → Called = (λ s. direct_of c.args.text.now s
    (call_of c.args.inputs.now
    c.args.row.now)) in
    cycled_stored call c.args.state.now _ _
    c.run-a.result.answer _ _ _ _
    c.to_state-s.ensures
    c.run-a.ensures.0 c.run-a.ensures.1
    c.run-a.ensures.2 c.answered.ensures
    c.is_ok.ensures.value c.if-is_ok.true c.from_state.ensures

pub returns-else-is_ok : goal.returns-else-is_ok
returns-else-is_ok c =
    let call : State → Called = (λ s. direct_of c.args.text.now s
    (call_of c.args.inputs.now
    c.args.row.now)) in
    cycled_kept call c.args.state.now _
    c.run-a.result.answer _ _ _ c.to_state-s.ensures
    c.run-a.ensures.0 c.run-a.ensures.2 c.answered.ensures
    c.is_ok.ensures.value c.if-is_ok.false
