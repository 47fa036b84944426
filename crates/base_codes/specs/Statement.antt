-- Rows of statements by number: kinds, and where each number of a row stands. Assumes nothing.
use Rattle.std.specs.Prelude.{ℕ}

abbrev pub WAIT : ℕ
WAIT = 0

abbrev pub OUTPUT : ℕ
OUTPUT = 1

abbrev pub VARIABLE : ℕ
VARIABLE = 2

abbrev pub IF : ℕ
IF = 3

abbrev pub NULL : ℕ
NULL = 4

abbrev pub WHILE : ℕ
WHILE = 5

-- six numbers: kind; token, or in a design target; items or operations from and to; first statement of the second part; the statement after the last
abbrev pub ROW : ℕ
ROW = 6

abbrev pub TOKEN : ℕ
TOKEN = 1

abbrev pub TARGET : ℕ
TARGET = 1

abbrev pub FROM : ℕ
FROM = 2

abbrev pub TO : ℕ
TO = 3

abbrev pub OTHER : ℕ
OTHER = 4

abbrev pub END : ℕ
END = 5
