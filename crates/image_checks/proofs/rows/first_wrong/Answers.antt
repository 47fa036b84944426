-- `image_checks::rows::first_wrong` meets its contract. The loop's invariant: the values from `k` on answer what the whole row answers. Assumes nothing.
use mathlib.Core.Path.{sym, ap, ◌∙◌}
use borrow.Author.Rules.{rules}
use lib.ListN.{get_or}
use lib.IntN.{pos}
use mir.Syntax.{w32}
use mir.Val.{SFits}
use mir.Facts.{to_z-of_z}
use Rattle.image_checks.specs.Answers.{check_of}
use Rattle.image_checks.proofs.Steps.{wrong_again, wrong_here, wrong_end}
use Rattle.image_checks.proofs.rows.first_wrong.Goals as goal

pub returns-then-not-value_ok : goal.returns-then-not-value_ok
returns-then-not-value_ok c =
    let a = c.args in
    let l = c.loop-k in
    let h : SFits w32 (get_or a.inputs.now l.k (pos 0)) = search rules in
    ap check_of (wrong_here a.signature.now a.inputs.now l.k c.loop-k-test.true
    (sym (rw (to_z-of_z h) at c.value_ok.ensures) ∙ c.if-not-value_ok.true) ∙ l.invariant)

pub loop-k-preserved : goal.loop-k-preserved
loop-k-preserved c =
    let a = c.args in
    let l = c.loop-k in
    let h : SFits w32 (get_or a.inputs.now l.k (pos 0)) = search rules in
    wrong_again a.signature.now a.inputs.now l.k c.loop-k-test.true
    (sym (rw (to_z-of_z h) at c.value_ok.ensures) ∙ c.if-not-value_ok.false) ∙ l.invariant

pub returns : goal.returns
returns c =
    let a = c.args in
    ap check_of (wrong_end a.signature.now a.inputs.now c.loop-k.k c.loop-k-test.false ∙ c.loop-k.invariant)
