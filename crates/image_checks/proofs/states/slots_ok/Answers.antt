-- `image_checks::states::slots_ok` meets its contract. The loop's invariant: the slots from `k` on answer what all slots answer. Assumes nothing.
use mathlib.Core.Path.{sym, ap, ◌∙◌}
use native.Mathlib.Omega.{arith}
use borrow.Author.Rules.{rules}
use Prim.Native.Nat.{◌<◌}
use lib.ListN.{get_or}
use lib.IntN.{pos}
use mir.Syntax.{w32}
use mir.Val.{SFits}
use mir.Facts.{to_z-of_z}
use Rattle.std.proofs.lemmas.List.{get_or-take}
use Rattle.spec_semantics.specs.Records.{zeros}
use Rattle.image_checks.proofs.Steps.{slots_again, slots_wrong, slots_end, slots_short}
use Rattle.image_checks.proofs.states.slots_ok.Goals as goal

pub returns-then-slots-n : goal.returns-then-slots-n
returns-then-slots-n c = slots_short c.args.signature.now c.args.at c.args.n c.args.slots.now c.if-slots-n.true

pub returns-then-not-value_ok : goal.returns-then-not-value_ok
returns-then-not-value_ok c =
    let a = c.args in
    let l = c.loop-k in
    let h : l.k < a.n = omega arith in
    let f : SFits w32 (get_or c.split_at.result.0.now l.k (pos 0)) = search rules in
    let i = ap (λ x. get_or x l.k (pos 0)) c.split_at.ensures.front ∙ get_or-take a.n a.slots.now l.k (pos 0) h in
    slots_wrong a.signature.now a.at a.n a.slots.now l.k h (omega arith) (sym (rw (to_z-of_z f, i) at c.value_ok.ensures) ∙ c.if-not-value_ok.true) ∙ l.invariant

pub loop-k-preserved : goal.loop-k-preserved
loop-k-preserved c =
    let a = c.args in
    let l = c.loop-k in
    let h : l.k < a.n = omega arith in
    let f : SFits w32 (get_or c.split_at.result.0.now l.k (pos 0)) = search rules in
    let i = ap (λ x. get_or x l.k (pos 0)) c.split_at.ensures.front ∙ get_or-take a.n a.slots.now l.k (pos 0) h in
    slots_again a.signature.now a.at a.n a.slots.now l.k h (omega arith) (sym (rw (to_z-of_z f, i) at c.value_ok.ensures) ∙ c.if-not-value_ok.false) ∙ l.invariant

pub returns : goal.returns
returns c =
    let a = c.args in
    c.unused_ok.ensures ∙ ap zeros c.split_at.ensures.back
    ∙ slots_end a.signature.now a.at a.n a.slots.now c.loop-k.k (omega arith) (omega arith) ∙ c.loop-k.invariant
