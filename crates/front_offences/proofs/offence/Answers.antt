-- `front_offences::offence` meets its contract. Assumes nothing.
use mathlib.Core.Path.{sym, ap, ◌∙◌}
use Rattle.std.specs.Prelude.{Some}
use Rattle.front_offences.proofs.Lowest.{lowest_unless, lowest_fine}
use Rattle.front_offences.proofs.offence.Goals as goal

pub returns-then-ok : goal.returns-then-ok
returns-then-ok c = sym (lowest_fine _ _ c.if-ok.true)

pub returns-else-ok : goal.returns-else-ok
returns-else-ok c = ap Some c.from.ensures ∙ sym (lowest_unless _ c.args.place c.if-ok.false)
