-- `image_batch::rows` meets its contract. The invariant: what is written so far, and behind it what the rows to come leave, is what all rows leave. Assumes
-- nothing.
use Prim.Native.Nat.{◌-◌}
use mathlib.Core.Path.{◌≡◌}
use native.Mathlib.Omega.{arith}
use borrow.Author.Rules.{rules}
use Rattle.image_runtime.proofs.OpenedImage.{all_bytes}
use Rattle.image_batch.proofs.RowLaws.{rest_first, rest_room, rest_again, rest_end}
use Rattle.image_batch.proofs.rows.Goals as goal

pub loop-init : goal.loop-init
loop-init c = let e : c.args.count - 0 ≡ c.args.count = omega arith in rw e (rest_first c.requires.due)

pub row-p-requires-clause-parts : goal.row-p-requires-clause-parts
row-p-requires-clause-parts c = let t = c.loop-test.true in rest_room c.loop.invariant (omega arith)

pub loop-preserved : goal.loop-preserved
loop-preserved c =
    let h = all_bytes c.args.image.now (λ k. omega (arith, c.type_inv.image k)) in
    let t = c.loop-test.true in
    rest_again c.loop.invariant (omega arith) h c.row-p.ensures (search rules) (search rules)

pub returns : goal.returns
returns c = let t = c.loop-test.false in rest_end c.loop.invariant (omega arith)
