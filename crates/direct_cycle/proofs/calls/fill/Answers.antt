-- `direct_cycle::calls::fill` meets its contract. The loop's invariant: the first `k` slots hold what they are to hold. The measure is what is left of the
-- slots. Assumes nothing.
use Prim.Native.Nat.{◌<◌, ◌≤◌}
use mathlib.Core.Path.{refl, ◌∙◌}
use native.Mathlib.Omega.{arith}
use borrow.Author.Rules.{rules}
use lib.ListN.{length, length-set}
use lib.Seq.{take_all}
use mir.Syntax.{w32}
use mir.Val.{SFits}
use mir.Facts.{to_z-of_z}
use Rattle.spec_semantics.specs.Records.{pad}
use Rattle.spec_semantics.proofs.Slots.{pad_length, row_more, row_whole}
use Rattle.direct_cycle.proofs.CallLaws.{padded_at}
use Rattle.direct_cycle.proofs.calls.fill.Goals as goal

pub loop-k-init : goal.loop-k-init
loop-k-init c = (refl, search rules, refl)

pub offset_bounds-slots-k : goal.offset_bounds-slots-k
offset_bounds-slots-k c = omega arith

pub bounds-slots-k : goal.bounds-slots-k
bounds-slots-k c = omega arith

pub loop-k-preserved : goal.loop-k-preserved
loop-k-preserved c =
    let a = c.args in
    let m = length a.slots.now in
    let p = pad_length m a.values.now in
    let u = c.loop-k-test.true in
    let e = c.loop-k.invariant.0 in
    let h : c.loop-k.k < length c.loop-k.slots = omega arith in
    let j : c.loop-k.k < m = omega arith in
    let g : c.loop-k.k < length (pad m a.values.now) = omega arith in
    let fit : SFits w32 c.number.result = search rules in
    (simp length-set c.loop-k.invariant.0, omega arith, row_more _ _ _ _ h g c.loop-k.invariant.2 (to_z-of_z fit ∙ c.number.ensures ∙ padded_at a.values.now m c.loop-k.k j))

pub shape_of-slots : goal.shape_of-slots
shape_of-slots c = c.loop-k.invariant.0

pub returns : goal.returns
returns c =
    let a = c.args in
    let m = length a.slots.now in
    let p = pad_length m a.values.now in
    let u = c.loop-k-test.false in
    let e = c.loop-k.invariant.0 in
    let l : length c.loop-k.slots ≤ c.loop-k.k = omega arith in
    row_whole _ _ _ _ e c.loop-k.invariant.1 l c.loop-k.invariant.2 ∙ take_all m _ (omega arith)
