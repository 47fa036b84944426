-- `api_c::rabtishu_cycle` meets its contract: the new state is stored where the cycle was performed. Assumes nothing.
use Rattle.base_answers.specs.declared.State.{State}
use Rattle.spec_format.specs.Cycle.{cycle_of}
use Rattle.spec_semantics.specs.Calls.{Called}
use Rattle.api_c.proofs.CallLaws.{cycled_stored, cycled_kept}
use native.Mathlib.Omega.{arith}
use Rattle.image_runtime.proofs.OpenedImage.{all_bytes}
use Rattle.spec_simulation.proofs.Places.{cycle_narrow}
use Rattle.api_c.proofs.rabtishu_cycle.Goals as goal

pub answered-requires : goal.answered-requires
answered-requires c =
    let a = c.args in
    let h = all_bytes a.image.now (λ k. omega (arith, c.shared_slice_known-1.given k)) in
    cycle_narrow a.image.now h c.to_state-s.result a.inputs.now a.row.now c.cycle-a.result.answer
    c.cycle-a.ensures.0

pub returns-then-is_ok : goal.returns-then-is_ok
returns-then-is_ok c =
    let call : State → Called = (λ s. cycle_of c.args.image.now s
    c.args.inputs.now
    c.args.row.now) in
    cycled_stored call c.args.state.now _ _
    c.cycle-a.result.answer _ _ _ _
    c.to_state-s.ensures
    c.cycle-a.ensures.0 c.cycle-a.ensures.1
    c.cycle-a.ensures.2 c.answered.ensures
    c.is_ok.ensures.value c.if-is_ok.true c.from_state.ensures

pub returns-else-is_ok : goal.returns-else-is_ok
returns-else-is_ok c =
    let call : State → Called = (λ s. cycle_of c.args.image.now s
    c.args.inputs.now
    c.args.row.now) in
    cycled_kept call c.args.state.now _
    c.cycle-a.result.answer _ _ _ c.to_state-s.ensures
    c.cycle-a.ensures.0 c.cycle-a.ensures.2 c.answered.ensures
    c.is_ok.ensures.value c.if-is_ok.false
