-- What a compile writes: an image that fits, that the opener accepts, and whose fresh state is the design's (document 01, "Image, form 1", "State").
-- Assumes nothing.
use Rattle.std.specs.Prelude.{◌≡◌, List, [], ◌∷◌, ℕ, ◌<◌, ◌≤◌, length}
use Rattle.spec_design.specs.Process.{Process}
use Rattle.spec_language.specs.Verdict.{accepted, verdict}
use Rattle.spec_semantics.specs.Rows.{kept_at_first}
use Rattle.spec_format.specs.Words.{Bytes}
use Rattle.spec_format.specs.Lines.{lines_of, reaches_of}
use Rattle.spec_format.specs.Image.{RawLine, raws_of}
use Rattle.spec_format.specs.Opening.{opened, open_of}
use Rattle.spec_format.specs.State.{fresh_of}
use Rattle.spec_semantics.specs.Records.{fresh}
use Rattle.spec_format.specs.Encode.{table_of, encode}
use Rattle.spec_semantics.specs.Comparison.{laid}

-- "two bytes each for code offset .., code length, next, other, reach": none has more
abbrev pub TwoBytes : RawLine → Type 0
TwoBytes w = (w.offset < 65536) × (w.size < 65536) × (w.next < 65536) × (w.other < 65536) × (w.reach < 65536)

-- every line's fields
abbrev pub AllTwoBytes : List RawLine → Type 0
AllTwoBytes [] = Unit {0}
AllTwoBytes (w ∷ ws) = TwoBytes w × AllTwoBytes ws

-- "at most 65,535 bytes": the image of a process, its one-byte numbers, the two-byte fields of its lines; and the opener reads back all that was put in
pub record Fits (p : Process) : Type 0 where
  pub whole : length (encode p) ≤ 65535
  pub bytes : Bytes (encode p)
  pub fields : AllTwoBytes (raws_of 0 (lines_of p.body) (reaches_of p.body))
  pub reads : open_of (encode p) ≡ opened (table_of p)

-- the bytes are the image of the text's design, the opener gives back its table, and "The fresh state has place 512 and the initial values"
pub record OpensAs (text image : List ℕ) : Type 0 where
  pub process : Process
  pub accepts : verdict text ≡ accepted process
  pub is : image ≡ encode process
  pub opens : open_of image ≡ opened (table_of process)
  pub starts : fresh_of image ≡ fresh (laid (kept_at_first process))
