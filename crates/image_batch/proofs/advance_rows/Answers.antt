-- `image_batch::advance_rows` meets its contract: where no row was performed, the state that is kept is the one that the call has. Assumes nothing.
use mathlib.Core.Path.{sym, ◌∙◌}
use Rattle.spec_format.proofs.Unmoved.{not_moved}
use Rattle.image_batch.proofs.advance_rows.Goals as goal

pub returns-else-r : goal.returns-else-r
returns-else-r c =
    let a = c.args in
    let e = c.cycles-r.ensures in (
      e.answer,
      sym (not_moved a.image.now a.state.now a.count a.inputs.now a.outputs.now a.answers.now (sym e.performed ∙ c.if-r.false)),
      e.rows,
      e.answers,
    )
