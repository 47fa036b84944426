-- `direct_cycle::checks::slots_right` meets its contract: the slots from an index on answer what all answer; the measure is the slots left. Assumes nothing.
use Rattle.std.specs.Prelude.{true, false}
use Rattle.std.specs.Prelude.{◌≡◌}
use mathlib.Core.Path.{refl, sym, ◌∙◌}
use native.Mathlib.Omega.{arith}
use borrow.Author.Rules.{rules}
use lib.ListN.{get_or}
use lib.IntN.{pos}
use mir.Syntax.{w32}
use mir.Val.{SFits}
use mir.Facts.{to_z-of_z}
use Rattle.direct_cycle.proofs.CheckLaws.{slots_again, slots_wrong, slots_end}
use Rattle.direct_cycle.proofs.checks.slots_right.Goals as goal

pub loop-k-init : goal.loop-k-init
loop-k-init c = (search rules, refl)

pub loop-k-preserved : goal.loop-k-preserved
loop-k-preserved c =
    let t : c.slot_right.result ≡ true = search rules in
    let h : SFits w32 (get_or c.args.slots.now c.loop-k.k (pos 0)) =
    search rules in
    let u = c.loop-k-test.true in (
      omega arith,
      slots_again c.args.types.now
          c.args.slots.now c.loop-k.k
          c.loop-k-test.true (sym (rw (to_z-of_z h) at c.slot_right.ensures) ∙ t)
          ∙ c.loop-k.invariant.1,
    )

pub returns-then-not-slot_right : goal.returns-then-not-slot_right
returns-then-not-slot_right c =
    let t : c.slot_right.result ≡ false = search rules in
    let h : SFits w32 (get_or c.args.slots.now c.loop-k.k (pos 0)) =
    search rules in
    slots_wrong c.args.types.now c.args.slots.now
    c.loop-k.k c.loop-k-test.true
    (sym (rw (to_z-of_z h) at c.slot_right.ensures) ∙ t) ∙ c.loop-k.invariant.1

pub returns : goal.returns
returns c =
    slots_end c.args.types.now c.args.slots.now c.loop-k.k
    c.loop-k.invariant.0 c.loop-k-test.false ∙ c.loop-k.invariant.1
