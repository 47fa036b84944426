-- `front_offences::lower` meets its contract. Assumes nothing.
use Rattle.std.proofs.Common.{rules}
use Rattle.front_offences.specs.Lowest.{lower}
use Rattle.front_offences.proofs.Lowest.{lower_none}
use Rattle.front_offences.proofs.lower.Goals as goal

pub returns-in-Some-Some : goal.returns-in-Some-Some
unfolding lower
returns-in-Some-Some c = search rules

pub returns-in-None-default : goal.returns-in-None-default
unfolding lower
returns-in-None-default c = search rules

pub returns-in_default-None : goal.returns-in_default-None
returns-in_default-None c = search (rules, lower_none)
