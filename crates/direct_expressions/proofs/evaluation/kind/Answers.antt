-- `direct_expressions::evaluation::kind` meets its contract, by its test. Assumes nothing.
use mathlib.Core.Path.{◌≡◌}
use Prim.Native.Nat.{ℕ, ◌≤◌, ◌<◌}
use borrow.Author.Tests.{lt-ltb, le-ltb}
use lib.IntN.{ℤ}
use mir.Facts.{to_z-of_z}
use Rattle.spec_semantics.specs.Twos.{unsigned32}
use Rattle.direct_expressions.specs.Machine.{kind_of}
use Rattle.direct_expressions.proofs.evaluation.kind.Goals as goal

small : (n : ℕ) (z : ℤ) → n ≡ unsigned32 z → n < 255 → n ≡ kind_of z
small n z e h = rw (← e, lt-ltb n 255 h)

large : (n : ℕ) (z : ℤ) → n ≡ unsigned32 z → 255 ≤ n → 255 ≡ kind_of z
large n z e h = rw (← e, le-ltb n 255 h)

pub returns-then-n : goal.returns-then-n
returns-then-n c = small _ c.args.arg (rw (to_z-of_z c.ranges.arg) at c.to_bits-n.ensures) c.if-n.true

pub returns-else-n : goal.returns-else-n
returns-else-n c = large _ c.args.arg (rw (to_z-of_z c.ranges.arg) at c.to_bits-n.ensures) c.if-n.false
