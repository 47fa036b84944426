-- The trace in chunks, by an image: the line of each row, and where the trace stands after it. The theorems of proofs/Whole.antt tie it to `trace_of`.
-- Assumes nothing.
use Rattle.std.specs.Prelude.{Option, None, Some, Result, Ok, Err, ◌≡◌, Bool, true, false, cond, ◌&&◌, List, [], ◌∷◌, ◌++◌, ℕ, zero, suc, ◌+◌, ◌-◌, min, length, get_or, drop, replicate, ℤ, pos, leb, ltb}
use Rattle.std.proofs.lemmas.List.Edits.{sets}
use Rattle.base_codes.specs.Limit as L
use Rattle.base_codes.specs.Image as M
use Rattle.base_codes.specs.Refusal as F
use Rattle.base_answers.specs.Answers.{Told, done, refusal, count_of}
use Rattle.base_answers.specs.declared.State.{State}
use Rattle.base_answers.specs.declared.Sections.{Sections}
use Rattle.spec_format.specs.Opening.{Opened, opened, not_opened, open_of}
use Rattle.spec_format.specs.State.{fresh_of}
use Rattle.spec_format.specs.Cycle.{cycle_of}
use Rattle.spec_semantics.specs.Calls.{Called}
use Rattle.spec_semantics.specs.Advances.{cycle_answer, start_of}
use Rattle.image_loader.specs.Open.{open_answer}
use Rattle.front_token.specs.Places.{part}
use Rattle.trace_lines.specs.Rows.{decimals, rows_in}
use Rattle.trace_lines.specs.Reading.{part_end, short}
use Rattle.trace_lines.specs.Printing.{performed_line, refused_line, refused_text}
use Rattle.trace_lines.specs.Trace.{row_values}
use Rattle.trace_lines.specs.declared.Progress.{Progress}
use Rattle.trace_lines.specs.declared.Filled.{Filled}
use Rattle.trace_lines.specs.declared.OnlyLine.{OnlyLine}
use Rattle.trace_lines.specs.Stored.{Puts}

-- the opener accepts the image b, and its sections stand at these places
abbrev pub OpenedAt : List ℕ → Sections → Type 0
OpenedAt b at = done at ≡ open_answer b (open_of b)

-- the line of the row n for a cycle's answer, the place after it and its output row
abbrev pub line_of : ℕ → Told ℕ → ℕ → List ℤ → List ℕ
line_of n (done lines) place row = performed_line n place lines row
line_of n (refusal q k) place row = refused_line n q

-- the line of the row n for a call
abbrev pub shown : ℕ → Called → List ℕ
shown n c = line_of n (cycle_answer c.answer) c.state.place c.row

-- the number of outputs, which an image has in the second byte of its signature
abbrev pub room : List ℕ → ℕ
room b = min (get_or b M.OUTPUT_COUNT 0) L.OUTPUTS

-- the line of the row n and the state after it; an unreadable row leaves the state as it was
abbrev pub row_shown : List ℕ → State → ℕ → Option (List ℤ) → List ℕ × State
row_shown b s n None = (refused_line n F.BAD_ROW, s)
row_shown b s n (Some v) = let c = cycle_of b s v (replicate (room b) (pos 0)) in (shown n c, c.state)

-- the state t after the row and the line in the buffer, o before and u after, of which r bytes stand there
pub record Shows (b : List ℕ) (s : State) (n : ℕ) (v : Option (List ℤ)) (o : List ℕ) (t : State) (u : List ℕ) (r : ℕ) : Type 0 where
  pub state : t ≡ (row_shown b s n v).1
  pub line : Puts o 0 (row_shown b s n v).0 u r

-- there is a row at the place: rows of above 65,536 bytes are not traced
unfoldable pub goes_on : ℕ → ℕ → ℕ → Bool
goes_on length number at = leb length L.TRACED && (ltb at length && ltb number L.TRACED)

-- where the trace of an image stands before the first row
abbrev pub first_of : List ℕ → Progress
first_of b = record { state = start_of (fresh_of b); number = 0; at = 0 }

-- the values of the row at a place
abbrev pub row_at : List ℕ → ℕ → Option (List ℤ)
row_at rows at = short (decimals (part rows at (part_end 10 rows at - at)))

-- where the trace stands behind a row, the state after it being s
abbrev pub passed : List ℕ → Progress → State → Progress
passed rows p s = record { state = s; number = p.number + 1; at = min (part_end 10 rows p.at + 1) (length rows) }

-- the line of the next row, and where the trace stands after it; no bytes where there is no row
abbrev pub onward : Bool → List ℕ → List ℕ → Progress → List ℕ × Progress
onward true b rows p = let r = row_shown b p.state p.number (row_at rows p.at) in (r.0, passed rows p r.1)
onward false b rows p = ([], p)

unfoldable pub next_of : List ℕ → List ℕ → Progress → List ℕ × Progress
next_of b rows p = onward (goes_on (length rows) p.number p.at) b rows p

-- a line more is put: 512 bytes of room are left, which every line fits into, and there is a row
unfoldable pub has_more : ℕ → ℕ → Progress → Bool
has_more free length p = leb 512 free && goes_on length p.number p.at

-- the bytes l, then those of the rest
abbrev pub ahead : List ℕ → List ℕ × Progress → List ℕ × Progress
ahead l r = (l ++ r.0, r.1)

-- at most f lines, one behind another, while there is more to put, and where the trace stands behind them
unfoldable pub fill_by : ℕ → List ℕ → List ℕ → Progress → ℕ → List ℕ × Progress
fill_by zero b rows p free = ([], p)
fill_by (suc f) b rows p free =
    let r = next_of b rows p in cond (has_more free (length rows) p) (ahead r.0 (fill_by f b rows r.1 (free - length r.0))) ([], p)

-- the lines of an image that opens: there are no more than the rows have bytes; a refused image has none
abbrev pub fill_on : Opened → List ℕ → List ℕ → Progress → ℕ → List ℕ × Progress
fill_on (opened t) b rows p free = fill_by (length rows) b rows p free
fill_on (not_opened number place) b rows p free = ([], p)

-- the lines that a buffer of so many bytes has room for, from where the trace stands at p on, and where it stands behind them
unfoldable pub fill_of : List ℕ → List ℕ → Progress → ℕ → List ℕ × Progress
fill_of b rows p free = fill_on (open_of b) b rows p free

-- the answer r is the progress and the number of the bytes of x, and the bytes stand in the buffer, o before and u after, from its beginning on
pub record Fills (x : List ℕ × Progress) (o : List ℕ) (r : Filled) (u : List ℕ) : Type 0 where
  pub progress : r.progress ≡ x.1
  pub size : r.size ≡ length x.0
  pub buffer : u ≡ sets o 0 x.0

-- "A refused text prints only `refused`, number, place"; "with above 65,536 bytes of rows it prints only `refused 14 0`"; else there is no only line
abbrev pub only_line : Told ℕ → ℕ → Option (List ℕ)
only_line (done n) rows = cond (leb rows L.TRACED) None (Some (refused_text F.BAD_ROW 0))
only_line (refusal q k) rows = Some (refused_text q k)

abbrev pub begun_by : Option (List ℕ) → ℕ → List ℕ → Result ℕ OnlyLine × List ℕ
begun_by None n o = (Ok n, o)
begun_by (Some l) n o = (Err (record { size = min (length l) (length o) }), sets o 0 l)

-- how a trace begins after this compile, over rows of so many bytes, and the buffer o as it is left
unfoldable pub begun_of : Told ℕ → ℕ → List ℕ → Result ℕ OnlyLine × List ℕ
begun_of c rows o = begun_by (only_line c rows) (count_of c) o

-- rows as they are read, at most 16 values each
unfoldable pub shorts : List (Option (List ℤ)) → List (Option (List ℤ))
shorts [] = []
shorts (v ∷ vs) = short v ∷ shorts vs

-- the lines of rows on an image, from the state s and the row n on
unfoldable pub image_lines : List ℕ → State → ℕ → List (Option (List ℤ)) → List ℕ
image_lines b s n [] = []
image_lines b s n (v ∷ vs) = let r = row_shown b s n v in r.0 ++ image_lines b r.1 (suc n) vs

-- what is still to be printed where the trace stands at p
abbrev pub pending : List ℕ → List ℕ → Progress → List ℕ
pending b rows p = image_lines b p.state p.number (shorts (row_values (rows_in (drop p.at rows))))

-- the bytes l, then the rest; where there are none, nothing
abbrev pub unless_none : List ℕ → List ℕ → List ℕ
unless_none [] rest = []
unless_none (b ∷ l) rest = b ∷ (l ++ rest)

-- what is put by calls of `fill` with a buffer of so many bytes, the first one where the trace stands at p: until one puts no bytes, and at most f calls
unfoldable pub fills : ℕ → List ℕ → List ℕ → Progress → ℕ → List ℕ
fills zero b rows p free = []
fills (suc f) b rows p free = let r = fill_of b rows p free in unless_none r.0 (fills f b rows r.1 free)
