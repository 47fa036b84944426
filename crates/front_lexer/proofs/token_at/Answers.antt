-- `front_lexer::token_at` meets its contract. The invariant: the rest from here hands out what the whole text hands out. Assumes nothing.
use mathlib.Core.Path.{refl, sym, ◌∙◌}
use native.Mathlib.Omega.{arith}
use borrow.Author.Tests.{eq-eqb, ne_eqb}
use Rattle.spec_language.specs.Lexer.{token_at}
use Rattle.front_lexer.proofs.Advance.{gapped, blank_gapped, tokened, stopped, nothing_left, token_past}
use Rattle.front_token.proofs.ByteKinds.{flag}
use borrow.Author.Rules.{rules}
use Rattle.front_lexer.proofs.token_at.Goals as goal

pub loop-i-init : goal.loop-i-init
unfolding token_at
loop-i-init c = (search rules, refl)

pub returns-then-place-i : goal.returns-then-place-i
returns-then-place-i c = sym (token_past _ 0 _ _ c.if-place-i.true) ∙ c.loop-i.invariant.1

pub loop-i-preserved-then-is_blank : goal.loop-i-preserved-then-is_blank
loop-i-preserved-then-is_blank c =
    let g = blank_gapped _ _ c.loop-i-test.true (flag c.is_blank.ensures c.if-is_blank.true) in
    (g.within, sym (g.hands _) ∙ c.loop-i.invariant.1)

pub loop-i-smaller-in-Gap : goal.loop-i-smaller-in-Gap
loop-i-smaller-in-Gap c =
    let g = gapped _ _ _ c.loop-i-test.true c.piece_at.ensures _
    c.in-Gap.is in omega arith

pub loop-i-preserved-in-Gap : goal.loop-i-preserved-in-Gap
loop-i-preserved-in-Gap c =
    let g = gapped _ _ _ c.loop-i-test.true c.piece_at.ensures _
    c.in-Gap.is in (g.within, sym (g.hands _) ∙ c.loop-i.invariant.1)

pub slice_bounds-result-end-then-i-place : goal.slice_bounds-result-end-then-i-place
slice_bounds-result-end-then-i-place c =
    let g = tokened _ _ _ c.loop-i-test.true
    c.piece_at.ensures _ _ c.in-Token.is in let w = g.within in omega arith

pub returns-then-i-place : goal.returns-then-i-place
returns-then-i-place c =
    let g = tokened _ _ _ c.loop-i-test.true
    c.piece_at.ensures _ _ c.in-Token.is in
    sym (g.hands _ ∙ rw (eq-eqb _ _ c.if-i-place.true)) ∙ c.loop-i.invariant.1

pub loop-i-smaller : goal.loop-i-smaller
loop-i-smaller c =
    let g = tokened _ _ _ c.loop-i-test.true
    c.piece_at.ensures _ _ c.in-Token.is in omega arith

pub loop-i-preserved : goal.loop-i-preserved
loop-i-preserved c =
    let g = tokened _ _ _ c.loop-i-test.true
    c.piece_at.ensures _ _ c.in-Token.is in
    (g.within, sym (g.hands _ ∙ rw (ne_eqb _ _ c.if-i-place.false)) ∙ c.loop-i.invariant.1)

pub returns-in-Nothing : goal.returns-in-Nothing
returns-in-Nothing c =
    let g = stopped _ _ _ c.loop-i-test.true c.piece_at.ensures
    c.in-Nothing.is in sym (g.hands _) ∙ c.loop-i.invariant.1

pub returns : goal.returns
returns c = sym ((nothing_left _ _ c.loop-i-test.false).2 _) ∙ c.loop-i.invariant.1
