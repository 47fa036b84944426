-- `direct_cycle::calls::judged` meets its contract: 15 is judged as the definition judges it. Assumes nothing.
use mathlib.Core.Path.{◌≡◌, sym, ◌∙◌}
use mathlib.Core.Bool.{true, false}
use lib.ListN.{length}
use Rattle.spec_semantics.specs.DirectRow.{fits_text}
use Rattle.direct_cycle.specs.Checks.{in_use}
use Rattle.direct_cycle.proofs.CallLaws.{design_held, names_held, state_law, names_count, room_right, call_cycled, call_state}
use Rattle.direct_cycle.proofs.calls.judged.Goals as goal

pub returns-then-right : goal.returns-then-right
returns-then-right c =
    λ p h w z.
    let a = c.args in
    let d = design_held p a.codes.now a.args.now a.rows.now a.d.operations a.d.statements h.body w in
    let lo : length a.s.outputs ≡ 16 = c.state_right-right.ensures.outputs_len.0 in
    let lv : length a.s.variables ≡ 32 = c.state_right-right.ensures.outputs_len.1 in
    let f : fits_text p a.s ≡ true = sym (state_law p a.codes.now a.args.now a.rows.now a.d.statements (in_use a.d.inputs)
    (in_use a.d.outputs) (in_use a.d.variables) a.s d (names_held p a.d h.declared) lo lv)
    ∙ (sym c.state_right-right.ensures.value ∙ c.if-right.true) in
    let k = names_count p a.d h.declared in
    call_cycled p a.s a.inputs.now a.row.now c.run.result _ z f
    (c.run.ensures p d k.0 k.1 (room_right p a.inputs.now (length a.row.now) z) f)

pub returns : goal.returns
returns c =
    λ p h w z.
    let a = c.args in
    let d = design_held p a.codes.now a.args.now a.rows.now a.d.operations a.d.statements h.body w in
    let lo : length a.s.outputs ≡ 16 = c.state_right-right.ensures.outputs_len.0 in
    let lv : length a.s.variables ≡ 32 = c.state_right-right.ensures.outputs_len.1 in
    let f : fits_text p a.s ≡ false = sym (state_law p a.codes.now a.args.now a.rows.now a.d.statements (in_use a.d.inputs)
    (in_use a.d.outputs) (in_use a.d.variables) a.s d (names_held p a.d h.declared) lo lv)
    ∙ (sym c.state_right-right.ensures.value ∙ c.if-right.false) in
    call_state p a.s a.inputs.now a.row.now z f c.refused.result c.refused.ensures
