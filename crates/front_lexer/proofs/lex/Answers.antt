-- `front_lexer::lex` meets its contract. The invariant: the tokens so far stand in the arrays, and with those of the rest they are the text's; the measure is
-- what is left of the text. Assumes nothing.
use native.Mathlib.Omega.{arith}
use Rattle.front_lexer.proofs.Advance.{gapped, blank_gapped, tokened, stopped}
use Rattle.front_lexer.proofs.Filling.{fill_first, fill_gap, fill_token, fill_end, fill_stop, too_long}
use Rattle.front_token.proofs.ByteKinds.{flag}
use Rattle.front_lexer.proofs.lex.Goals as goal

pub returns-then-text-gt-TEXT : goal.returns-then-text-gt-TEXT
returns-then-text-gt-TEXT c = too_long _ _ _ _ c.if-text-gt-TEXT.true

pub loop-i-init : goal.loop-i-init
loop-i-init c = fill_first _ _ _ _

pub loop-i-preserved-then-is_blank : goal.loop-i-preserved-then-is_blank
loop-i-preserved-then-is_blank c =
    fill_gap _ _ _ _ _ _ _ _ _ c.loop-i.invariant _
    (blank_gapped _ _ c.loop-i-test.true (flag c.is_blank.ensures c.if-is_blank.true))

pub loop-i-smaller-in-Gap : goal.loop-i-smaller-in-Gap
loop-i-smaller-in-Gap c =
    let g = gapped _ _ _ c.loop-i-test.true
    c.piece_at.ensures _
    c.in-Gap.is in omega arith

pub loop-i-preserved-in-Gap : goal.loop-i-preserved-in-Gap
loop-i-preserved-in-Gap c =
    fill_gap _ _ _ _ _ _ _ _ _ c.loop-i.invariant _
    (gapped _ _ _ c.loop-i-test.true c.piece_at.ensures _
    c.in-Gap.is)

pub overflow_cast-sizes : goal.overflow_cast-sizes
overflow_cast-sizes c =
    let g = tokened _ _ _ c.loop-i-test.true
    c.piece_at.ensures _ _
    c.in-Token.is in omega arith

pub loop-i-smaller : goal.loop-i-smaller
loop-i-smaller c =
    let g = tokened _ _ _ c.loop-i-test.true
    c.piece_at.ensures _ _
    c.in-Token.is in omega arith

pub loop-i-preserved : goal.loop-i-preserved
loop-i-preserved c =
    fill_token _ _ _ _ _ _ _ _ _ c.loop-i.invariant _ _
    (tokened _ _ _ c.loop-i-test.true
    c.piece_at.ensures _ _ c.in-Token.is)

pub returns-in-Nothing : goal.returns-in-Nothing
returns-in-Nothing c =
    fill_stop _ _ _ _ _ _ _ _ _ c.loop-i.invariant
    c.if-text-gt-TEXT.false
    (stopped _ _ _ c.loop-i-test.true c.piece_at.ensures
    c.in-Nothing.is)

pub returns : goal.returns
returns c = fill_end _ _ _ _ _ _ _ _ _ c.loop-i.invariant c.if-text-gt-TEXT.false c.loop-i-test.false
