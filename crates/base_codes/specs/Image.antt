-- The bytes of an image by number: where the parts of its header, its signature and a line stand, and how long they are. Assumes nothing.
use Rattle.std.specs.Prelude.{ℕ}

-- the form and the number of sections, each in two bytes; then each section's start and length, each in four
abbrev pub FORM : ℕ
FORM = 0

abbrev pub SECTIONS : ℕ
SECTIONS = 2

abbrev pub SIGNATURE : ℕ
SIGNATURE = 4

abbrev pub SIGNATURE_SIZE : ℕ
SIGNATURE_SIZE = 8

abbrev pub LINES : ℕ
LINES = 12

abbrev pub LINES_SIZE : ℕ
LINES_SIZE = 16

abbrev pub CODE : ℕ
CODE = 20

abbrev pub CODE_SIZE : ℕ
CODE_SIZE = 24

-- "the first starts at byte 28"
abbrev pub HEADER : ℕ
HEADER = 28

-- "Two-byte form 1, two-byte count 3"
abbrev pub FORM_1 : ℕ
FORM_1 = 1

abbrev pub THREE : ℕ
THREE = 3

-- the signature: three counts, then a byte for each input and a slot for each output and variable
abbrev pub OUTPUTS : ℕ
OUTPUTS = 1

abbrev pub VARIABLES : ℕ
VARIABLES = 2

abbrev pub COUNTS : ℕ
COUNTS = 3

abbrev pub SLOT : ℕ
SLOT = 5

-- where the count of outputs stands in an image
abbrev pub OUTPUT_COUNT : ℕ
OUTPUT_COUNT = 29

-- the bytes of a line, and where each part behind the kind stands
abbrev pub LINE : ℕ
LINE = 12

abbrev pub LINE_TARGET : ℕ
LINE_TARGET = 1

abbrev pub LINE_CODE : ℕ
LINE_CODE = 2

abbrev pub LINE_CODE_SIZE : ℕ
LINE_CODE_SIZE = 4

abbrev pub LINE_NEXT : ℕ
LINE_NEXT = 6

abbrev pub LINE_OTHER : ℕ
LINE_OTHER = 8

abbrev pub LINE_REACH : ℕ
LINE_REACH = 10

-- "0 wait, 1 output, 2 variable, 3 branch, 4 null"
abbrev pub WAIT : ℕ
WAIT = 0

abbrev pub OUTPUT : ℕ
OUTPUT = 1

abbrev pub VARIABLE : ℕ
VARIABLE = 2

abbrev pub BRANCH : ℕ
BRANCH = 3

abbrev pub NULL : ℕ
NULL = 4
