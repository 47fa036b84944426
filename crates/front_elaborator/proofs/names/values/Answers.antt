-- `front_elaborator::names::values` meets its contract. The invariant: what is still to be appended makes the array of the contract. Assumes nothing.
use Rattle.std.proofs.Common.{◌∙◌, sym, rules}
use mir.Syntax.{w32}
use mir.Val.{SFits}
use mir.Facts.{to_z-of_z}
use Rattle.front_elaborator.specs.Names.{values_of}
use Rattle.front_elaborator.proofs.NameLaws.{pick_first, pick_more, pick_none, pick_full, pick_end}
use Rattle.front_elaborator.proofs.names.values.Goals as goal

pub loop-k-init : goal.loop-k-init
loop-k-init c = pick_first _ _ _ _

pub loop-k-preserved-then-not-belongs : goal.loop-k-preserved-then-not-belongs
loop-k-preserved-then-not-belongs c = pick_none _ _ _ _ c.loop-k-test.true (sym c.if-not-belongs.true ∙ c.belongs.ensures) c.loop-k.invariant

pub loop-k-preserved : goal.loop-k-preserved
loop-k-preserved c =
    let fit : SFits w32 c.initial.result = search rules in
    pick_more _ _ _ _ c.loop-k-test.true c.if-n-eq-VARIABLES.false (sym c.if-not-belongs.false ∙ c.belongs.ensures)
    (to_z-of_z fit ∙ c.initial.ensures) c.loop-k.invariant

pub returns-then-n-eq-VARIABLES : goal.returns-then-n-eq-VARIABLES
unfolding values_of
returns-then-n-eq-VARIABLES c =
    let f = pick_full _ _ _ _ c.if-n-eq-VARIABLES.true c.loop-k.invariant in
    rw (sym c.min-k-end.ensures) f.contents

pub returns : goal.returns
unfolding values_of
returns c =
    let f = pick_end _ _ _ _ c.loop-k-test.false c.loop-k.invariant in
    rw (sym c.min-k-end.ensures) f.contents
