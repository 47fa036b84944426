-- `trace_lines::fill` meets its contract: the opener accepts the image, and lines are put, or it refuses the image. Assumes nothing.
use mathlib.Core.Path.{sym, ◌∙◌, ap}
use Rattle.trace_lines.proofs.FillLaws.{fill_opened, fill_refused}
use Rattle.base_answers.specs.Answers.{told}
use Rattle.trace_lines.proofs.fill.Goals as goal

pub fill_opened-requires : goal.fill_opened-requires
fill_opened-requires c = sym (ap told c.in-Ok.is) ∙ c.open-opened.ensures

pub returns-in-Ok : goal.returns-in-Ok
returns-in-Ok c =
    fill_opened _ _ _ _ _ _ _ (sym (ap told c.in-Ok.is)
    ∙ c.open-opened.ensures) c.fill_opened.ensures

pub returns-in-Err : goal.returns-in-Err
returns-in-Err c = fill_refused _ _ _ _ c.in-Err.field-0 (sym (ap told c.in-Err.is) ∙ c.open-opened.ensures)
