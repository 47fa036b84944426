-- Rows of declared names by number: modes, kinds of initial values, and where each number of a row stands. Assumes nothing.
use Rattle.std.specs.Prelude.{ℕ}

-- modes
abbrev pub IN : ℕ
IN = 0

abbrev pub OUT : ℕ
OUT = 1

abbrev pub VARIABLE : ℕ
VARIABLE = 2

-- the mode and the type of a name that is not declared
abbrev pub NO_MODE : ℕ
NO_MODE = 3

abbrev pub NO_TYPE : ℕ
NO_TYPE = 255

-- initial values: none, a number, '0' or '1', a number after a sign
abbrev pub NONE : ℕ
NONE = 0

abbrev pub NUMBER : ℕ
NUMBER = 1

abbrev pub BIT : ℕ
BIT = 2

abbrev pub NEGATIVE : ℕ
NEGATIVE = 3

-- six numbers: the name's token, mode, type, kind of initial value, the value's first token, the first name of the group
abbrev pub ROW : ℕ
ROW = 6

abbrev pub MODE : ℕ
MODE = 1

abbrev pub TYPE : ℕ
TYPE = 2

abbrev pub INIT : ℕ
INIT = 3

abbrev pub VALUE : ℕ
VALUE = 4

abbrev pub FIRST : ℕ
FIRST = 5
