-- The sections of an image by their places: 28 bytes of header, then the three lengths that it gives (document 01, "Image, form 1").
-- `sections_read` ties the tests to `sections_of` of the crate spec_format. Assumes nothing.
use Rattle.std.specs.Prelude.{Bool, true, false, ◌&&◌, List, ℕ, ◌+◌, ◌/◌, ◌%◌, length, take, drop, leb, eqb}
use Rattle.std.proofs.Math.Option.{Option, none, some}
use Rattle.base_codes.specs.Image.{FORM, SECTIONS, SIGNATURE, SIGNATURE_SIZE, LINES, LINES_SIZE, CODE, CODE_SIZE, HEADER, FORM_1, THREE, LINE}
use Rattle.base_codes.specs.Limit.{STATEMENTS, IMAGE}
use Rattle.spec_format.specs.Words.{word2_at, word4_at}
use Rattle.spec_format.specs.Image.{Sections}

-- there is a value
abbrev pub is_some : {X : Type 0} → Option X → Bool
is_some none = false
is_some (some x) = true

-- "pairs of four-byte offset and length": the length of the signature section, of the lines section, of the code section
abbrev pub signature_length : List ℕ → ℕ
signature_length b = word4_at b SIGNATURE_SIZE

abbrev pub lines_length : List ℕ → ℕ
lines_length b = word4_at b LINES_SIZE

abbrev pub code_length : List ℕ → ℕ
code_length b = word4_at b CODE_SIZE

-- "the first starts at byte 28, no gaps": where the lines section and the code section start
abbrev pub lines_start : List ℕ → ℕ
lines_start b = HEADER + signature_length b

abbrev pub code_start : List ℕ → ℕ
code_start b = HEADER + signature_length b + lines_length b

-- the n bytes from the place o on
abbrev pub part : List ℕ → ℕ → ℕ → List ℕ
part b o n = take n (drop o b)

-- the three sections
unfoldable pub parts : List ℕ → Sections
parts b =
    record {
      signature = part b HEADER (signature_length b);
      lines = part b (lines_start b) (lines_length b);
      code = part b (code_start b) (code_length b);
    }

-- "at most 65,535 bytes", with a header; "Two-byte form 1, two-byte count 3"
unfoldable pub headed : List ℕ → Bool
headed b = leb (length b) IMAGE && (leb HEADER (length b) && (eqb (word2_at b FORM) FORM_1 && eqb (word2_at b SECTIONS) THREE))

-- "sorted by offset ..; the first starts at byte 28, no gaps, the last ends the image"
unfoldable pub paired : List ℕ → Bool
paired b =
    eqb (word4_at b SIGNATURE) HEADER
    && (eqb (word4_at b LINES) (lines_start b) && (eqb (word4_at b CODE) (code_start b) && eqb (length b) (code_start b + code_length b)))

-- a lines section of n bytes has "1 to 512 whole lines"
unfoldable pub whole : ℕ → Bool
whole n = eqb (n % LINE) 0 && (leb 1 (n / LINE) && leb (n / LINE) STATEMENTS)

-- all that refusal 11 asks
unfoldable pub sectioned : List ℕ → Bool
sectioned b = headed b && (paired b && whole (lines_length b))
