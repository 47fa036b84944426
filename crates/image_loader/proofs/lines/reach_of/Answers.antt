-- `image_loader::lines::reach_of` meets its contract: the two bytes of the line that hold its reach. Assumes nothing.
use mathlib.Core.Path.{◌∙◌}
use Rattle.image_loader.proofs.LineLaws.{reaches_get}
use Rattle.image_loader.proofs.lines.reach_of.Goals as goal

pub returns : goal.returns
returns c =
    let args = c.args in record { value = c.short.ensures.value ∙ reaches_get args.n args.k args.lines.now c.requires.k_lt_n; upper_bound = c.short.ensures.upper_bound }
