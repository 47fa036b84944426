-- `front_scope::owners::owner_of` meets its contract. The invariant: no declared name before this one is the name. Assumes nothing.
use mathlib.Core.Path.{◌∙◌, ap}
use Rattle.front_scope.specs.Positions.{owner_from}
use Rattle.front_scope.proofs.Owning.{owning_first, owning_found, owning_again, owning_stop}
use Rattle.front_scope.proofs.owners.owner_of.Goals as goal

pub loop-j-init : goal.loop-j-init
loop-j-init c = owning_first _ _ _ _ _ _ _

pub returns-then-same_at : goal.returns-then-same_at
returns-then-same_at c =
    owning_found _ _ _ _ _ _ _ _ _ _ c.loop-j-test.true c.from-name.ensures
    c.same_at.ensures c.loop-j.invariant c.if-same_at.true
    ∙ ap (owner_from _ _ _ _ _ _ 0) c.min-end.ensures

pub loop-j-preserved : goal.loop-j-preserved
loop-j-preserved c =
    owning_again _ _ _ _ _ _ _ _ _ _ c.loop-j-test.true c.from-name.ensures
    c.same_at.ensures c.loop-j.invariant c.if-same_at.false

pub returns : goal.returns
returns c =
    owning_stop _ _ _ _ _ _ _ _ c.loop-j-test.false c.loop-j.invariant ∙ ap (owner_from _ _ _ _ _ _ 0) c.min-end.ensures
