-- `front_token::bytes::in_word` meets its contract: the three kinds that stand in a word, and no other. Assumes nothing.
use Rattle.front_token.proofs.ByteKinds.{word_one, word_not}
use Rattle.front_token.proofs.bytes.in_word.Goals as goal

pub returns-in-Letter : goal.returns-in-Letter
returns-in-Letter c = word_one c.args.b c.kind_of.result c.kind_of.ensures c.in-Letter.is

pub returns-in_default : goal.returns-in_default
returns-in_default c =
    word_not c.args.b c.kind_of.result c.kind_of.ensures c.in_default.not-Letter c.in_default.not-Digit c.in_default.not-Underscore
