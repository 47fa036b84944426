-- An image opened: its table, or refusal 11, 12 or 13 with its place (document 01, "Image, form 1", "Turned back"). Assumes nothing.
use Rattle.std.specs.Prelude.{Bool, true, false, cond, ◌&&◌, List, [], ◌∷◌, map, ℕ, zero, suc, ◌+◌, ◌/◌, ◌%◌, length, get_or, take, drop, leb, eqb}
use Rattle.std.proofs.Math.Option
use Rattle.std.proofs.Math.Option.{Option, none, some, bind}
use Rattle.spec_design.specs.Types.{Ty}
use Rattle.spec_design.specs.Statement.{output, variable, null}
use Rattle.spec_format.specs.Words.{word2_at, word4_at, only_if}
use Rattle.spec_format.specs.Code.{decode}
use Rattle.spec_format.specs.Signature.{Signature, types, signature_of}
use Rattle.spec_format.specs.Lines.{Line, waits, acts, branches}
use Rattle.spec_format.specs.Image.{Table, RawLine, raw, start, Sections}
use Rattle.spec_format.specs.Good.{good_line}

-- the sections of n pairs h, the first at the offset o, where b is the image from there on; none where an offset is another, a section is
-- longer than what is left, or bytes are left
unfoldable pub read_sections : ℕ → ℕ → List ℕ → List ℕ → Option (List (List ℕ))
read_sections zero o h [] = some []
read_sections zero o h (k ∷ b) = none
read_sections (suc n) o h b =
    only_if (eqb (word4_at h 0) o && leb (word4_at h 4) (length b))
    (Option.map (λ ss. take (word4_at h 4) b ∷ ss) (read_sections n (o + word4_at h 4) (drop 8 h) (drop (word4_at h 4) b)))

-- the n sections of an image of that form
unfoldable pub read_image : ℕ → ℕ → List ℕ → Option (List (List ℕ))
read_image form n b =
    only_if (leb (start n) (length b) && (eqb (word2_at b 0) form && eqb (word2_at b 2) n))
    (read_sections n (start n) (drop 4 b) (drop (start n) b))

-- "lines section .. 1 to 512 whole lines"
unfoldable pub whole_lines : List ℕ → Bool
whole_lines l = eqb (length l % 12) 0 && (leb 1 (length l / 12) && leb (length l / 12) 512)

-- the sections of an image; none is refusal 11, "form, count, pairs, image length, lines section not 1 to 512 whole lines"
unfoldable pub sections_of : List ℕ → Option Sections
sections_of b =
    only_if (leb (length b) 65535)
    (bind (read_image 1 3 b) (λ ss.
    only_if (whole_lines (get_or ss 1 [])) (some (record { signature = get_or ss 0 []; lines = get_or ss 1 []; code = get_or ss 2 [] }))))

-- the fields of the line whose 12 bytes come first
abbrev pub raw_line_at : List ℕ → RawLine
raw_line_at s = raw (get_or s 0 0) (get_or s 1 0) (word2_at s 2) (word2_at s 4) (word2_at s 6) (word2_at s 8) (word2_at s 10)

-- the fields of n lines
unfoldable pub raws : ℕ → List ℕ → List RawLine
raws zero s = []
raws (suc n) s = raw_line_at s ∷ raws n (drop 12 s)

-- a line without code
abbrev pub is_empty : List ℕ → Bool
is_empty [] = true
is_empty (k ∷ s) = false

-- the line of kind k with the target t, the code c and the followers f and g; none where the kind is another, an unused field is not 0 or the
-- code is no expression
unfoldable pub line_of : List Ty → List Ty → ℕ → ℕ → List ℕ → ℕ → ℕ → Option Line
line_of is vs k t c f g =
    cond (eqb k 0) (only_if (eqb t 0 && (eqb g 0 && is_empty c)) (some (waits f)))
    (cond (eqb k 1) (only_if (eqb g 0) (Option.map (λ e. acts (output t e.1) f) (decode is vs c)))
    (cond (eqb k 2) (only_if (eqb g 0) (Option.map (λ e. acts (variable t e.1) f) (decode is vs c)))
    (cond (eqb k 3) (only_if (eqb t 0) (Option.map (λ e. branches e.1 f g) (decode is vs c)))
    (cond (eqb k 4) (only_if (eqb t 0 && (eqb g 0 && is_empty c)) (some (acts null f))) none))))

-- the line with the fields w in a table of n lines with the reaches rs; the runs before it end at the offset p, and c is the code from there on
unfoldable pub open_line : Signature → ℕ → List ℕ → ℕ → List ℕ → RawLine → Option Line
open_line σ n rs p c w =
    only_if (eqb w.offset p && leb w.size (length c))
    (bind (line_of σ.inputs (types σ.variables) w.kind w.target (take w.size c) w.next w.other) (λ l.
    only_if (good_line σ n rs w.reach l) (some l)))

-- all lines, or the place of refusal 13
pub data Lined : Type 0 where
  lined : List Line → Lined
  bad_at : ℕ → Lined

-- a line in front of those after it
abbrev pub with : Line → Lined → Lined
with l (lined ls) = lined (l ∷ ls)
with l (bad_at x) = bad_at x

-- the line x is bad, or the lines after it follow
abbrev pub go_on : Option Line → ℕ → (Line → Lined) → Lined
go_on none x k = bad_at x
go_on (some l) x k = k l

-- the lines from the line x on: "lowest bad line; the line count if only the code section is not filled"
unfoldable pub open_lines : Signature → ℕ → List ℕ → ℕ → ℕ → List ℕ → List RawLine → Lined
open_lines σ n rs x p [] [] = lined []
open_lines σ n rs x p (k ∷ c) [] = bad_at x
open_lines σ n rs x p c (w ∷ ws) =
    go_on (open_line σ n rs p c w) x (λ l. with l (open_lines σ n rs (suc x) (p + w.size) (drop w.size c) ws))

-- the reaches that the lines have in the image
abbrev pub raw_reaches : List RawLine → List ℕ
raw_reaches ws = map (λ (w : RawLine). w.reach) ws

-- an image opened, or a refusal's number and place
pub data Opened : Type 0 where
  opened : Table → Opened
  not_opened : (number place : ℕ) → Opened

-- the table of the lines, or refusal 13
abbrev pub tabled : Signature → List ℕ → Lined → Opened
tabled σ rs (lined ls) = opened (record { signature = σ; lines = ls; reaches = rs })
tabled σ rs (bad_at x) = not_opened 13 x

-- the table of a signature, the fields of the lines and the code section
unfoldable pub open_table : Signature → List RawLine → List ℕ → Opened
open_table σ ws c = tabled σ (raw_reaches ws) (open_lines σ (length ws) (raw_reaches ws) 0 0 c ws)

-- refusal 12, or what is done with the signature
abbrev pub unless12 : Option Signature → (Signature → Opened) → Opened
unless12 none k = not_opened 12 0
unless12 (some σ) k = k σ

-- the fields of all lines of the lines section
abbrev pub raw_lines : Sections → List RawLine
raw_lines x = raws (length x.lines / 12) x.lines

-- the table of the sections, or refusal 12 or 13
unfoldable pub open_sections : Sections → Opened
open_sections x = unless12 (signature_of x.signature) (λ σ. open_table σ (raw_lines x) x.code)

-- refusal 11, or what is done with the sections
abbrev pub unless11 : Option Sections → (Sections → Opened) → Opened
unless11 none k = not_opened 11 0
unless11 (some x) k = k x

-- the table of an image, or refusal 11, 12 or 13 with its place
unfoldable pub open_of : List ℕ → Opened
open_of b = unless11 (sections_of b) open_sections
