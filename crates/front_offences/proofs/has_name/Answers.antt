-- `front_offences::has_name` meets its contract: the three kinds are the first, computed; a later one is none of them. Assumes nothing.
use mathlib.Core.Path.{refl}
use native.Mathlib.Omega.{arith}
use borrow.Author.Tests.{ne_eqb}
use Rattle.base_codes.proofs.Finite.{all, holds}
use Rattle.front_offences.specs.Positions.{has_name}
use Rattle.front_offences.proofs.has_name.Goals as goal

pub returns-in-0 : goal.returns-in-0
unfolding all has_name
returns-in-0 c = holds has_name 3 0 refl c.args.kind (omega arith) c.in-0.is

pub returns-in_default : goal.returns-in_default
unfolding has_name
returns-in_default c =
    rw (
      ne_eqb c.args.kind 0 (λ z. omega arith),
      ne_eqb c.args.kind 1 (λ z. omega arith),
      ne_eqb c.args.kind 2
          (λ z. omega arith),
    )
