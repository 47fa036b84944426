-- `image_runtime::fresh` meets its contract: the opener refuses the image, or its signature section gives the fresh state. Assumes nothing.
use mathlib.Core.Path.{sym, ◌∙◌, ap}
use Rattle.base_answers.specs.Answers.{told}
use Rattle.image_runtime.proofs.Start.{fresh_answer_lem, fresh_refused}
use Rattle.image_runtime.proofs.fresh.Goals as goal

pub fresh_on_sections-requires : goal.fresh_on_sections-requires
fresh_on_sections-requires c = sym (ap told c.in-Ok.is) ∙ c.«open».ensures

pub returns-in-Ok : goal.returns-in-Ok
returns-in-Ok c = (
  fresh_answer_lem c.args.image.now c.in-Ok.at
      (sym (ap told c.in-Ok.is) ∙ c.«open».ensures),
  c.fresh_on_sections.ensures,
)

pub returns-in-Err : goal.returns-in-Err
returns-in-Err c =
    fresh_refused c.args.image.now c.in-Err.r
    (sym (ap told c.in-Err.is) ∙ c.«open».ensures) _ c.blank.ensures
