-- `front_token::pieces::word_at` meets its contract: the part up to the end of the run is the word. Assumes nothing.
use native.Mathlib.Omega.{arith}
use Rattle.spec_language.specs.Bytes.{in_word}
use Rattle.front_token.proofs.ByteKinds.{flag}
use Rattle.front_token.proofs.RunLaws.{run_within}
use Rattle.front_token.proofs.PieceLaws.{word_bad, word_good}
use Rattle.front_token.proofs.pieces.word_at.Goals as goal

pub slice_bounds-word-end : goal.slice_bounds-word-end
slice_bounds-word-end c =
    let w = run_within in_word c.args.text.now c.args.at c.requires.1 in
    let e = c.word_end-end.ensures in omega arith

pub returns-else-well_made : goal.returns-else-well_made
returns-else-well_made c = word_bad _ _ _ c.word_end-end.ensures (flag c.well_made.ensures c.if-well_made.false)

pub returns-then-well_made : goal.returns-then-well_made
returns-then-well_made c =
    word_good _ _ _ c.word_end-end.ensures _
    (flag c.well_made.ensures c.if-well_made.true) c.word_kind.ensures
