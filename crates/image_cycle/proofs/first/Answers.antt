-- `image_cycle::first` meets its contract: all of a slice that is shorter, or the part from its beginning. Assumes nothing.
use mathlib.Core.Path.{sym}
use Prim.Native.Nat.{◌≤◌}
use lib.ListN.{length}
use lib.Seq.{take_all}
use borrow.Author.Rules.{rules}
use Rattle.image_cycle.proofs.Runs.{part_first}
use Rattle.image_cycle.proofs.first.Goals as goal

pub returns-then-s-n : goal.returns-then-s-n
returns-then-s-n c = let h : length c.args.s.now ≤ c.args.n = search rules in sym (take_all c.args.n c.args.s.now h)

pub returns : goal.returns
returns c = part_first c.args.s.now c.args.n
