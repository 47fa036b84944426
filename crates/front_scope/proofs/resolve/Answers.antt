-- `front_scope::resolve` meets its contract. The invariant: what the rest makes of the array is what the whole makes of it; the law ties it to the tree.
-- Assumes nothing.
use mathlib.Core.Path.{◌∙◌, ap}
use Prim.Native.Nat.{ℕ}
use Rattle.front_scope.specs.Positions.{owner_in, fill_from}
use Rattle.front_scope.proofs.Owning.{filling_first, filling_again, filling_stop}
use Rattle.front_scope.proofs.Resolved.{resolves}
use Rattle.front_scope.proofs.resolve.Goals as goal

pub loop-i-init : goal.loop-i-init
loop-i-init c = filling_first _ _ _ _

pub loop-i-preserved : goal.loop-i-preserved
loop-i-preserved c = filling_again _ _ _ _ _ _ _ c.loop-i-test.true c.settle.ensures c.loop-i.invariant

pub returns : goal.returns
returns c =
    resolves c.args.text.now c.args.kinds.now
    c.args.starts.now c.args.sizes.now c.args.n
    c.args.decls.now c.args.d _ _
    (filling_stop _ _ _ _ _ _ c.loop-i-test.false c.loop-i.invariant
    ∙ ap (λ (m : ℕ). fill_from
    (owner_in c.args.text.now c.args.starts.now
    c.args.sizes.now c.args.n c.args.decls.now
    c.args.d) c.args.kinds.now 0 m
    c.args.owners.now) c.min-end.ensures)
