-- The bytes of an image by position: what the arrays of a design and the lines' followers and reaches come to. Assumes nothing.
use Rattle.std.specs.Prelude.{cond, List, [], ◌∷◌, ◌++◌, ℕ, zero, suc, ◌+◌, ◌-◌, ◌*◌, ◌%◌, min, ℤ, pos, get_or, eqb}
use Rattle.base_codes.specs.Statement as S
use Rattle.base_codes.specs.Limit as L
use Rattle.base_codes.specs.Image as M
use Rattle.base_codes.specs.Operation.{INTEGER, width_of}
use Rattle.base_ir.specs.declared.Declared.{Declared}
use Rattle.base_ir.specs.Arrays.{Row, row_in}
use Rattle.spec_format.specs.Words.{bytes2, bytes4}
use Rattle.spec_semantics.specs.Twos.{unsigned32}
use Rattle.spec_format.specs.Image.{RawLine, raw}
use Rattle.image_flow.specs.declared.followers.Links.{Links}

-- the bytes of an operation: "1 integer (4 bytes), 2 std_logic (1 byte), 3 input, 4 variable (1-byte index)", and the operators
unfoldable pub op_bytes : ℕ → ℤ → List ℕ
op_bytes c z = cond (eqb c INTEGER) (c ∷ bytes4 (unsigned32 z)) (cond (eqb (width_of c) 1) (c ∷ []) (c ∷ unsigned32 z % 256 ∷ []))

-- the bytes of the operations from index i on, c of them
unfoldable pub code_from : List ℕ → List ℤ → ℕ → ℕ → List ℕ
code_from codes args i zero = []
code_from codes args i (suc c) = op_bytes (get_or codes i 0) (get_or args i (pos 0)) ++ code_from codes args (i + 1) c

-- how many they are
unfoldable pub width_from : List ℕ → ℕ → ℕ → ℕ
width_from codes i zero = 0
width_from codes i (suc c) = width_of (get_or codes i 0) + width_from codes (i + 1) c

-- how many of the statement's expression are: its operations stand below index 16384
abbrev pub run_width : List ℕ → ℕ → ℕ → ℕ
run_width codes from to = width_from codes from (min to L.TEXT - from)

-- "0 wait, 1 output, 2 variable, 3 branch, 4 null": a while is a branch too
abbrev pub kind_byte : ℕ → ℕ
kind_byte k = cond (eqb k S.WHILE) M.BRANCH (k % 256)

-- the fields of a line, from its statement's row, its code's offset and length, its followers and its reach
abbrev pub line_at : Row → ℕ → ℕ → ℕ → ℕ → ℕ → RawLine
line_at r p size f g q = raw (kind_byte r.kind) (r.target % 256) p size f g q

-- the lines of the statements from j on, c of them, the first one's code at the offset p
unfoldable pub lines_from : List ℕ → List ℕ → Links → List ℕ → ℕ → ℕ → ℕ → List RawLine
lines_from codes rows x r j zero p = []
lines_from codes rows x r j (suc c) p =
    line_at (row_in rows j) p (run_width codes (row_in rows j).from (row_in rows j).to) (get_or x.next j 0) (get_or x.other j 0) (get_or r j 0)
    ∷ lines_from codes rows x r (j + 1) c (p + run_width codes (row_in rows j).from (row_in rows j).to)

-- "a type byte per input": those from index k on, c of them
unfoldable pub types_from : List ℕ → ℕ → ℕ → List ℕ
types_from types k zero = []
types_from types k (suc c) = get_or types k 0 ∷ types_from types (k + 1) c

-- "type and 4-byte initial value"
unfoldable pub cells_from : List ℕ → List ℤ → ℕ → ℕ → List ℕ
cells_from types values k zero = []
cells_from types values k (suc c) = get_or types k 0 ∷ (bytes4 (unsigned32 (get_or values k (pos 0))) ++ cells_from types values (k + 1) c)

-- "for each output, then variable, type and .. initial value"
abbrev pub slots_from : Declared → List ℕ
slots_from d = cells_from d.outputs.types d.outputs.values 0 d.outputs.count
    ++ cells_from d.variables.types d.variables.values 0 d.variables.count

-- "bytes for the counts of data inputs .., outputs, variables ..; a type byte per input ..", and those
abbrev pub signature_from : Declared → List ℕ
signature_from d =
    d.inputs.count ∷ d.outputs.count ∷ d.variables.count ∷ (types_from d.inputs.types 0 d.inputs.count ++ slots_from d)

-- how many bytes these are, and those of the lines
abbrev pub signature_size : Declared → ℕ
signature_size d = M.COUNTS + d.inputs.count + M.SLOT * d.outputs.count + M.SLOT * d.variables.count

abbrev pub lines_size : Declared → ℕ
lines_size d = M.LINE * d.statements

-- "pairs of four-byte offset and length", of sections of these lengths; "the first starts at byte 28, no gaps"
abbrev pub sections_of : ℕ → ℕ → ℕ → List ℕ
sections_of s l c =
    bytes4 M.HEADER ++ (bytes4 s ++ (bytes4 (M.HEADER + s) ++ (bytes4 l ++ (bytes4 (M.HEADER + s + l) ++ bytes4 c))))

-- "Two-byte form 1, two-byte count 3, then pairs"
abbrev pub header_of : ℕ → ℕ → ℕ → List ℕ
header_of s l c = bytes2 M.FORM_1 ++ (bytes2 M.THREE ++ sections_of s l c)
