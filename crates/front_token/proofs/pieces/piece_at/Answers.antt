-- `front_token::pieces::piece_at` meets its contract: a case for each kind of byte. Assumes nothing.
use mathlib.Core.Path.{◌∙◌}
use Rattle.front_token.proofs.PieceLaws.{piece_word, piece_blank, piece_number, piece_fixed, piece_nothing}
use Rattle.front_token.proofs.pieces.piece_at.Goals as goal

pub returns-in-Letter : goal.returns-in-Letter
returns-in-Letter c = c.word_at.ensures ∙ piece_word _ _ c.if-at-text.false c.in-Letter.ensures

pub returns-in-Blank : goal.returns-in-Blank
returns-in-Blank c = piece_blank _ _ c.if-at-text.false c.in-Blank.ensures

pub returns-in-Digit : goal.returns-in-Digit
returns-in-Digit c = c.number_at.ensures ∙ piece_number _ _ c.if-at-text.false c.in-Digit.ensures

pub returns-in-Quote : goal.returns-in-Quote
returns-in-Quote c = c.mark_at.ensures ∙ piece_fixed _ _ c.if-at-text.false _ c.kind_of.ensures c.in-Quote.is

pub returns-in-Underscore : goal.returns-in-Underscore
returns-in-Underscore c = piece_nothing _ _ c.if-at-text.false _ c.kind_of.ensures c.in-Underscore.is
