-- The limits of document 01, which are the sizes of arrays. Assumes nothing.
use Rattle.std.specs.Prelude.{ℕ}

-- bytes of a text; it has no more tokens, and no more items in its expressions
abbrev pub TEXT : ℕ
TEXT = 16384

-- statements of a text, lines of an image
abbrev pub STATEMENTS : ℕ
STATEMENTS = 512

-- the place of a state at the beginning
abbrev pub BEGINNING : ℕ
BEGINNING = 512

-- literals, names and operators of an expression
abbrev pub ITEMS : ℕ
ITEMS = 64

-- data inputs, outputs, variables; declared names in all
abbrev pub INPUTS : ℕ
INPUTS = 16

abbrev pub OUTPUTS : ℕ
OUTPUTS = 16

abbrev pub VARIABLES : ℕ
VARIABLES = 32

abbrev pub NAMES : ℕ
NAMES = 65

-- bytes of a name
abbrev pub NAME : ℕ
NAME = 32

-- bytes of an image
abbrev pub IMAGE : ℕ
IMAGE = 65535

-- the greatest integer, and so the greatest literal
abbrev pub INTEGER : ℕ
INTEGER = 2147483647

-- bytes of the rows of a trace
abbrev pub TRACED : ℕ
TRACED = 65536
