-- `front_elaborator::names::declared` meets its contract. The invariant: what is still to be appended makes the arrays of the contract. Assumes nothing.
use Rattle.std.proofs.Common.{◌∙◌, sym}
use Rattle.front_elaborator.proofs.NameLaws.{pick_more, pick_none, pick_full, pick_end, heads_filled}
use Rattle.front_elaborator.proofs.names.declared.Goals as goal

pub loop-k-preserved-then-not-belongs : goal.loop-k-preserved-then-not-belongs
loop-k-preserved-then-not-belongs c =
    let i = c.loop-k.invariant in
    let e = sym c.if-not-belongs.true ∙ c.belongs.ensures in
    record {
      type = pick_none _ _ _ _ c.loop-k-test.true e i.type;
      start = pick_none _ _ _ _ c.loop-k-test.true e i.start;
      size = pick_none _ _ _ _ c.loop-k-test.true e i.size;
      value = i.value;
    }

pub loop-k-preserved : goal.loop-k-preserved
loop-k-preserved c =
    let i = c.loop-k.invariant in
    let e = sym c.if-not-belongs.false ∙ c.belongs.ensures in
    record {
      type = pick_more _ _ _ _ c.loop-k-test.true c.if-n-eq-VARIABLES.false e c.type_at.ensures i.type;
      start = pick_more _ _ _ _ c.loop-k-test.true c.if-n-eq-VARIABLES.false e c.place_at.ensures i.start;
      size = pick_more _ _ _ _ c.loop-k-test.true c.if-n-eq-VARIABLES.false e c.place_at-in-loop-k.ensures i.size;
      value = i.value;
    }

pub returns-then-n-eq-VARIABLES-clause-heads : goal.returns-then-n-eq-VARIABLES-clause-heads
returns-then-n-eq-VARIABLES-clause-heads c =
    let i = c.loop-k.invariant in
    heads_filled _ _ _ _ _ _ _ c.min-k-end.ensures (pick_full _ _ _ _ c.if-n-eq-VARIABLES.true i.type) (pick_full _ _ _ _ c.if-n-eq-VARIABLES.true i.start)
    (pick_full _ _ _ _ c.if-n-eq-VARIABLES.true i.size)

pub returns-clause-heads : goal.returns-clause-heads
returns-clause-heads c =
    let i = c.loop-k.invariant in
    heads_filled _ _ _ _ _ _ _ c.min-k-end.ensures (pick_end _ _ _ _ c.loop-k-test.false i.type) (pick_end _ _ _ _ c.loop-k-test.false i.start)
    (pick_end _ _ _ _ c.loop-k-test.false i.size)
