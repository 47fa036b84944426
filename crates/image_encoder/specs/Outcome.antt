-- What encoding into a lent buffer answers and leaves there: refusal 10 with the bytes needed, or the image's own bytes and no other. Assumes nothing.
use Rattle.std.specs.Prelude.{◌≡◌, Bool, ◌&&◌, List, ◌++◌, ℕ, ℤ, leb, Result, Ok, Err}
use Rattle.std.proofs.lemmas.List.Edits.{sets}
use Rattle.base_answers.specs.Answers.{Told, done, refusal}
use Rattle.base_codes.specs.Limit as L
use Rattle.spec_design.specs.Process.{Process, WellFormed}
use Rattle.base_ir.specs.declared.Declared.{Declared}
use Rattle.base_ir.specs.Arrays.{BodyIn, Holds}
use Rattle.spec_format.specs.Lines.{lines_of, reaches_of}
use Rattle.spec_format.specs.Image.{raws_of, raws_bytes, code_of_lines}
use Rattle.spec_format.specs.Encode.{encode}
use Rattle.spec_format.specs.Writing.{written_into}
use Rattle.image_encoder.specs.declared.TooShort.{TooShort}

-- what is told of it: the bytes written; or 10, "image buffer too short", at "bytes needed"
abbrev pub encoded_told : Result ℕ TooShort → Told ℕ
encoded_told (Ok n) = done n
encoded_told (Err e) = refusal 10 e.needed

-- the lines section of a process
abbrev pub lines_bytes : Process → List ℕ
lines_bytes p = raws_bytes (raws_of 0 (lines_of p.body) (reaches_of p.body))

-- of every process whose body the arrays hold: its lines section is stored from a place on, and all else is as it was
abbrev pub LinesStored : List ℕ → List ℕ → ℕ → ℕ → List ℕ → List ℕ → Type 0
LinesStored codes rows n at before after =
    (p : Process) (args : List ℤ) (k : ℕ) → BodyIn p codes args rows k n → WellFormed p → after ≡ sets before at (lines_bytes p)

-- and behind it the code section
abbrev pub BodyStored : List ℕ → List ℤ → List ℕ → ℕ → ℕ → ℕ → List ℕ → List ℕ → Type 0
BodyStored codes args rows k n at before after =
    (p : Process) → BodyIn p codes args rows k n → WellFormed p → after ≡ sets before at (lines_bytes p ++ code_of_lines (lines_of p.body))

-- of every process that is held: the answer, and the buffer as it is left
abbrev pub Encodes : List ℕ → List ℤ → List ℕ → Declared → List ℕ → List ℕ → Result ℕ TooShort → Type 0
Encodes codes args rows d before after answer =
    (p : Process) → Holds p d codes args rows → WellFormed p
    → (encoded_told answer ≡ (written_into (encode p) before).answer) × (after ≡ (written_into (encode p) before).buffer)

-- "Limits": counts that a design can have; a text of 16,384 bytes has no more operations. Other counts get no byte written and 0 bytes needed
abbrev pub counts_ok : Declared → Bool
counts_ok d =
    leb d.operations L.TEXT && (leb d.statements L.STATEMENTS &&
    (leb d.inputs.count L.INPUTS && (leb d.outputs.count L.OUTPUTS && leb d.variables.count L.VARIABLES)))
