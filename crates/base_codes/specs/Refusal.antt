-- The refusals that definitions speak of by number: of tokens, of a row, of an operator. Assumes nothing.
use Rattle.std.specs.Prelude.{ℕ}

abbrev pub NO_SENTENCE : ℕ
NO_SENTENCE = 3

abbrev pub LIMIT_PASSED : ℕ
LIMIT_PASSED = 4

abbrev pub BAD_ROW : ℕ
BAD_ROW = 14

abbrev pub ZERO_DIVISOR : ℕ
ZERO_DIVISOR = 18
