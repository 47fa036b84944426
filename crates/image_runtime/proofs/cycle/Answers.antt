-- `image_runtime::cycle` meets its contract: the opener refuses the image, or the cycle on its sections is the cycle on the image. Assumes nothing.
use mathlib.Core.Path.{sym, ◌∙◌, ap}
use native.Mathlib.Omega.{arith}
use Rattle.base_answers.specs.Answers.{told}
use Rattle.image_runtime.proofs.OpenedImage.{all_bytes}
use Rattle.image_runtime.proofs.Whole.{refused_advance, whole}
use Rattle.image_runtime.proofs.cycle.Goals as goal

pub cycle_opened-requires : goal.cycle_opened-requires
cycle_opened-requires c = sym (ap told c.in-Ok.is) ∙ c.«open».ensures

pub returns-in-Ok : goal.returns-in-Ok
returns-in-Ok c =
    let a = c.args in
    whole a.image.now (all_bytes a.image.now
    (λ k. omega (arith, c.type_inv.image k))) a.s a.inputs.now a.row.now _ _
    c.cycle_opened.ensures

pub returns-in-Err : goal.returns-in-Err
returns-in-Err c =
    let a = c.args in
    whole a.image.now (all_bytes a.image.now (λ k. omega (arith, c.type_inv.image k))) a.s
    a.inputs.now a.row.now _ _
    (refused_advance a.image.now c.in-Err.r
    (sym (ap told c.in-Err.is) ∙ c.«open».ensures) a.s a.inputs.now a.row.now _ c.refused.ensures)
