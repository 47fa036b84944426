-- `image_loader::open` meets its contract: without sections 11, else by its sections. Assumes nothing.
use mathlib.Core.Path.{sym, ◌∙◌}
use Rattle.image_loader.proofs.OpenLaws.{open_11}
use Rattle.image_loader.proofs.open.Goals as goal

pub returns-then-not-has_sections : goal.returns-then-not-has_sections
returns-then-not-has_sections c = open_11 c.args.image.now (sym c.has_sections.ensures ∙ c.if-not-has_sections.true)
