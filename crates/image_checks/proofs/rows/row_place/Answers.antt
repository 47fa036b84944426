-- `image_checks::rows::row_place` meets its contract: the counts that are read are the signature's, and so are the type bytes. Assumes nothing.
use mathlib.Core.Path.{sym, ◌∙◌}
use Rattle.image_checks.proofs.Judged.{inputs_wrong, room_wrong, values_judged}
use Rattle.image_checks.proofs.rows.row_place.Goals as goal
use Rattle.image_checks.proofs.rows.row_place.Goals.{then-inputs-count-via-then-inputs-count, then-inputs-count-via-else-inputs-count+then-room-count}

pub returns-then-inputs-count : goal.returns-then-inputs-count
returns-then-inputs-count c =
    let a = c.args in
    elim c.then-inputs-count.branch [
      | then-inputs-count-via-then-inputs-count w ↦
          inputs_wrong a.signature.now a.inputs.now a.room (λ e. w.if-inputs-count.true (e ∙ sym c.count.ensures.value))
      | then-inputs-count-via-else-inputs-count+then-room-count w ↦
          room_wrong a.signature.now a.inputs.now a.room (w.if-inputs-count.false ∙ c.count.ensures.value)
          (λ e. w.if-room-count.true (e ∙ sym w.count-else-inputs-count.ensures.value))
    ]

pub returns : goal.returns
returns c =
    let a = c.args in
    λ σ e. c.first_wrong.ensures ∙ values_judged a.signature.now a.inputs.now a.room
    (c.if-inputs-count.false ∙ c.count.ensures.value) (c.if-room-count.false ∙ c.count-else-inputs-count.ensures.value) σ e
