-- `direct_cycle::checks::slot_right` meets its contract: the test is that of the definition. Assumes nothing.
use native.Mathlib.Omega.{arith}
use lib.IntN.{pos}
use mir.Syntax.{w32}
use mir.Val.{SFits}
use Rattle.base_signed.proofs.Range.{equal_bits}
use lib.ListN.{length}
use borrow.Author.Tests.{lt-ltb, le-ltb}
use mir.Facts.{to_z-of_z}
use Rattle.direct_cycle.proofs.checks.slot_right.Goals as goal

pub returns-then-k-types : goal.returns-then-k-types
returns-then-k-types c =
    rw (lt-ltb c.args.k (length c.args.types.now)
    c.if-k-types.true) (rw (to_z-of_z c.ranges.v) at c.in_type.ensures)

pub returns-else-k-types : goal.returns-else-k-types
returns-else-k-types c =
    rw (le-ltb c.args.k (length c.args.types.now) c.if-k-types.false)
    (let zero : SFits w32 (pos 0) = record { sfits = omega arith } in equal_bits c.ranges.v zero)
