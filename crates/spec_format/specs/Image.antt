-- Image, form 1: tables and their bytes (document 01, "Image, form 1"). Assumes nothing.
use Rattle.std.specs.Prelude.{List, [], ◌∷◌, ◌++◌, ℕ, ◌+◌, ◌*◌, length}
use Rattle.spec_design.specs.Statement.{output, variable, null}
use Rattle.spec_format.specs.Words.{bytes2, bytes4}
use Rattle.spec_format.specs.Code.{code}
use Rattle.spec_format.specs.Signature.{Signature, signature_bytes}
use Rattle.spec_format.specs.Lines.{Line, waits, acts, branches}

-- what an image says: its signature, its lines with the expressions of their code, and their reaches
pub record Table : Type 0 where
  pub signature : Signature
  pub lines : List Line
  pub reaches : List ℕ

-- "kind byte .., target byte, then two bytes each for code offset .., code length, next, other, reach"
pub record RawLine : Type 0 where
  pub kind : ℕ
  pub target : ℕ
  pub offset : ℕ
  pub size : ℕ
  pub next : ℕ
  pub other : ℕ
  pub reach : ℕ

-- the 12 bytes of a line
abbrev pub raw_bytes : RawLine → List ℕ
raw_bytes w =
    w.kind ∷ w.target ∷ (bytes2 w.offset ++ (bytes2 w.size ++ (bytes2 w.next ++ (bytes2 w.other ++ bytes2 w.reach))))

-- the lines section
unfoldable pub raws_bytes : List RawLine → List ℕ
raws_bytes [] = []
raws_bytes (w ∷ ws) = raw_bytes w ++ raws_bytes ws

-- a line's code; "a line without code has length 0"
unfoldable pub code_of_line : Line → List ℕ
code_of_line (waits f) = []
code_of_line (acts (output k e) f) = code e
code_of_line (acts (variable k e) f) = code e
code_of_line (acts null f) = []
code_of_line (branches e f g) = code e

-- "Code runs of successive lines adjoin and fill the section"
unfoldable pub code_of_lines : List Line → List ℕ
code_of_lines [] = []
code_of_lines (l ∷ ls) = code_of_line l ++ code_of_lines ls

-- a line by its fields in their order
abbrev pub raw : ℕ → ℕ → ℕ → ℕ → ℕ → ℕ → ℕ → RawLine
raw k t p n f g q = record { kind = k; target = t; offset = p; size = n; next = f; other = g; reach = q }

-- "0 wait, 1 output, 2 variable, 3 branch, 4 null"; "Unused fields are 0": the line l with the reach q, its code at the offset p
unfoldable pub raw_of : ℕ → Line → ℕ → RawLine
raw_of p (waits f) q = raw 0 0 p 0 f 0 q
raw_of p (acts (output k e) f) q = raw 1 k p (length (code e)) f 0 q
raw_of p (acts (variable k e) f) q = raw 2 k p (length (code e)) f 0 q
raw_of p (acts null f) q = raw 4 0 p 0 f 0 q
raw_of p (branches e f g) q = raw 3 0 p (length (code e)) f g q

-- lines with their reaches, the first line's code at the offset p: "a line without code has .. the offset where the run before ended"
unfoldable pub raws_of : ℕ → List Line → List ℕ → List RawLine
raws_of p [] qs = []
raws_of p (l ∷ ls) [] = []
raws_of p (l ∷ ls) (q ∷ qs) = raw_of p l q ∷ raws_of (p + length (code_of_line l)) ls qs

-- "pairs of four-byte offset and length" of sections, the first of which starts at the offset o: "no gaps"
unfoldable pub pairs : ℕ → List (List ℕ) → List ℕ
pairs o [] = []
pairs o (s ∷ ss) = bytes4 o ++ (bytes4 (length s) ++ pairs (o + length s) ss)

-- sections one after the other
unfoldable pub joined : List (List ℕ) → List ℕ
joined [] = []
joined (s ∷ ss) = s ++ joined ss

-- where the first of n sections starts: 28 for three
abbrev pub start : ℕ → ℕ
start n = 4 + 8 * n

-- "Two-byte form .., two-byte count .., then pairs .., sorted by offset ..; the first starts at byte 28, no gaps, the last ends the image"
unfoldable pub image : ℕ → List (List ℕ) → List ℕ
image form ss = bytes2 form ++ (bytes2 (length ss) ++ (pairs (start (length ss)) ss ++ joined ss))

-- "pairs .. for signature, lines, code"
pub record Sections : Type 0 where
  pub signature : List ℕ
  pub lines : List ℕ
  pub code : List ℕ

-- "Two-byte form 1, two-byte count 3"
unfoldable pub form1 : Sections → List ℕ
form1 x = image 1 (x.signature ∷ x.lines ∷ x.code ∷ [])

-- the three sections of a table
unfoldable pub sections_for : Table → Sections
sections_for t =
    record {
      signature = signature_bytes t.signature;
      lines = raws_bytes (raws_of 0 t.lines t.reaches);
      code = code_of_lines t.lines;
    }

-- the image of a table
unfoldable pub encode_table : Table → List ℕ
encode_table t = form1 (sections_for t)
