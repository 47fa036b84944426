-- `image_walk::settle` meets its contract: a branch, or the two rows of which one is stored into. Assumes nothing.
use mir.Syntax.{w32}
use mir.Val.{SFits}
use mir.Facts.{to_z-of_z}
use Rattle.image_walk.proofs.Steps.{branch_at, store_at}
use borrow.Author.Rules.{rules}
use Rattle.image_walk.proofs.settle.Goals as goal

pub returns-then-k-eq-BRANCH : goal.returns-then-k-eq-BRANCH
returns-then-k-eq-BRANCH c =
    let h : SFits w32 c.args.f.value = search rules in
    branch_at c.kind-k.ensures c.if-k-eq-BRANCH.true (rw (to_z-of_z h) at c.branch-line.ensures)

pub returns : goal.returns
returns c =
    let h : SFits w32 c.args.f.value = search rules in
    store_at c.kind-k.ensures
    c.requires
    c.if-k-eq-BRANCH.false c.next.ensures
    c.target-n.ensures
    (rw (to_z-of_z h) at c.store.ensures) (rw (to_z-of_z h) at c.store-2.ensures)
