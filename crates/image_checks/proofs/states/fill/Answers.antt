-- `image_checks::states::fill` meets its contract. The loop's invariant: the first `k` slots hold what they are to hold. Assumes nothing.
use Prim.Native.Nat.{◌<◌}
use mathlib.Core.Path.{◌≡◌, ◌∙◌}
use native.Mathlib.Omega.{arith}
use borrow.Author.Rules.{rules}
use lib.ListN.{length}
use lib.Seq.{take_all}
use mir.Syntax.{w32}
use mir.Val.{SFits}
use mir.Facts.{to_z-of_z}
use Rattle.spec_semantics.specs.Records.{pad}
use Rattle.spec_semantics.proofs.Slots.{pad_length, row_more, row_whole}
use Rattle.image_checks.specs.Places.{initials_at}
use Rattle.image_checks.proofs.Steps.{filled_at}
use Rattle.image_checks.proofs.states.fill.Goals as goal

pub loop-k-preserved : goal.loop-k-preserved
loop-k-preserved c =
    let a = c.args in
    let m = length a.slots.now in
    let p = pad_length m (initials_at a.signature.now a.at a.n) in
    let j = c.loop-k-test.true in
    let h : c.loop-k.k < length c.loop-k.slots = omega arith in
    let g : c.loop-k.k < length (pad m (initials_at a.signature.now a.at a.n)) = omega arith in
    let fit : SFits w32 c.initial.result = search rules in
    row_more _ _ _ _ h g c.loop-k.invariant (to_z-of_z fit ∙ c.initial.ensures ∙ filled_at a.signature.now a.at a.n m c.loop-k.k j)

pub returns : goal.returns
returns c =
    let a = c.args in
    let m = length a.slots.now in
    let p = pad_length m (initials_at a.signature.now a.at a.n) in
    let e : length c.loop-k.slots ≡ m = c.loop-k.auto.slots in
    let t = c.loop-k-test.false in
    row_whole _ _ _ _ e (omega arith) (omega arith) c.loop-k.invariant ∙ take_all m _ (omega arith)
