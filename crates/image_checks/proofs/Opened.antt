-- What the sections of an image that opens hold: its signature, as many lines as its table, and each line by position.
-- By cases on the steps of the opening, and by induction on the lines. Assumes nothing.
use Prim.Native.Nat.{ℕ, zero, suc, ◌+◌, ◌*◌, ◌/◌, ◌<◌}
use native.Mathlib.Omega.{arith}
use mathlib.Core.Path.{◌≡◌, refl, sym, ap, subst, ◌∙◌}
use mathlib.Core.Bool.{◌&&◌}
use mathlib.Core.Option.{Option, none, some}
use mathlib.Core.List.{List, [], ◌∷◌}
use lib.ListN.{length, get_or, drop}
use lib.Seq.{get_or-drop, drop-drop}
use lib.Dec.{leb, eqb}
use Rattle.spec_semantics.proofs.Basic.{eqb-true, and_left}
use Rattle.spec_format.specs.Words.{word2_at}
use Rattle.spec_format.specs.Signature.{Signature, signature_bytes, signature_of}
use Rattle.spec_format.specs.Lines.{Line, line}
use Rattle.spec_format.specs.Image.{Table, RawLine, raw, raws_bytes, raws_of, code_of_lines, Sections, sections_for, encode_table}
use Rattle.spec_format.specs.Good.{GoodTable}
use Rattle.spec_format.specs.Opening.{raw_line_at, raws, raw_reaches, open_line, Lined, lined, bad_at, with, go_on, open_lines, opened, tabled, open_table, open_sections}
use Rattle.spec_format.specs.Opening.{sections_of, unless11, open_of}
use Rattle.spec_format.proofs.Sections.{whole_lines_lem, form1_read}
use Rattle.spec_format.proofs.Lines.{raws_bytes_length, raws_length}
use Rattle.spec_format.proofs.Opens.{table_opens, unless11_opened, unless12_opened}
use Rattle.spec_format.proofs.Basic.{only_if_some}
use Rattle.image_checks.specs.Places.{Opens}
use Rattle.image_checks.proofs.Positions.{here}

-- The steps of the opening.

lined_injective : (a b : List Line) → lined a ≡ lined b → a ≡ b
lined_injective a b e = cc

tabled_opened : (σ : Signature) (rs : List ℕ) (r : Lined) (t : Table) → tabled σ rs r ≡ opened t
    → (σ ≡ t.signature) × (r ≡ lined t.lines) × (rs ≡ t.reaches)
tabled_opened σ rs (lined ls) t e =
    let q : ◌≡◌ {A = Table} (record { signature = σ; lines = ls; reaches = rs }) t = cc in
    (ap (λ u. u.signature) q, ap (λ u. lined u.lines) q, ap (λ u. u.reaches) q)
tabled_opened σ rs (bad_at x) t e = absurd (let z : ◌≡◌ {A = ℕ} 0 1 = cc in omega arith)

go_on_lined : (o : Option Line) (x : ℕ) (k : Line → Lined) (ls : List Line) → go_on o x k ≡ lined ls → (l : Line) × (o ≡ some l) × (k l ≡ lined ls)
go_on_lined none x k ls e = absurd (let z : ◌≡◌ {A = ℕ} 0 1 = cc in omega arith)
go_on_lined (some l) x k ls e = (l, refl, e)

with_lined : (l : Line) (r : Lined) (ls : List Line) → with l r ≡ lined ls → (ks : List Line) × (r ≡ lined ks) × (l ∷ ks ≡ ls)
with_lined l (lined ks) ls e = (ks, refl, cc)
with_lined l (bad_at x) ls e = absurd (let z : ◌≡◌ {A = ℕ} 0 1 = cc in omega arith)

module _ (s l c : List ℕ) (t : Table) (e : Opens s l c t) where
  opens_parts : (signature_of s ≡ some t.signature)
      × (open_lines t.signature (length (raws (length l / 12) l)) t.reaches 0 0 c (raws (length l / 12) l) ≡ lined t.lines)
      × (raw_reaches (raws (length l / 12) l) ≡ t.reaches)
  unfolding open_sections open_table
  opens_parts =
      let ws = raws (length l / 12) l in
      let g = unless12_opened (signature_of s) _ t e in
      let k = tabled_opened g.0 (raw_reaches ws) (open_lines g.0 (length ws) (raw_reaches ws) 0 0 c ws) t g.2 in (
        g.1 ∙ ap some k.0,
        ap (λ σ. open_lines σ (length ws) t.reaches 0 0 c ws) (sym k.0) ∙ ap (λ rs. open_lines g.0 (length ws) rs 0 0 c ws) (sym k.2) ∙ k.1,
        k.2,
      )

  -- the signature of the opened table
  pub opens_signature : signature_of s ≡ some t.signature
  opens_signature = opens_parts.0

-- the sections of an image that opens
pub image_opens : (b : List ℕ) (t : Table) → open_of b ≡ opened t → (x : Sections) × (sections_of b ≡ some x) × Opens x.signature x.lines x.code t
unfolding open_of
image_opens b t e = unless11_opened (sections_of b) open_sections t e

-- the sections of a good table open to it
pub good_opens : (t : Table) → GoodTable t
    → Opens (signature_bytes t.signature) (raws_bytes (raws_of 0 t.lines t.reaches)) (code_of_lines t.lines) t
unfolding open_of encode_table sections_for
good_opens t g =
    let n = length t.lines in
    let ws = raws_of 0 t.lines t.reaches in
    let b : length (raws_bytes ws) ≡ 12 * n = raws_bytes_length ws
    ∙ ap (λ k. 12 * k) (raws_length t.signature n t.reaches 0 t.lines t.reaches g.lines) in
    let e = form1_read (sections_for t) (whole_lines_lem (raws_bytes ws) n b g.some_line g.few_lines) g.bytes in
    ap (λ o. unless11 o open_sections) (sym e) ∙ table_opens t g

-- Lines by position.

-- the fields of the line k: its 12 bytes
abbrev pub fields_of : List ℕ → ℕ → RawLine
fields_of l k = raw_line_at (drop (k * 12) l)

word_at : (s : List ℕ) (p j : ℕ) → word2_at (drop p s) j ≡ word2_at s (p + j)
word_at s p j = let e : p + (j + 1) ≡ p + j + 1 = omega arith in rw (get_or-drop p s j 0, get_or-drop p s (j + 1) 0, e)

-- each field where document 01 has it
pub fields_at : (l : List ℕ) (k : ℕ)
    → fields_of l k
    ≡ raw (get_or l (k * 12) 0) (get_or l (k * 12 + 1) 0) (word2_at l (k * 12 + 2)) (word2_at l (k * 12 + 4)) (word2_at l (k * 12 + 6)) (word2_at l (k * 12 + 8))
    (word2_at l (k * 12 + 10))
fields_at l k =
    let p = k * 12 in
    rw (here l p, get_or-drop p l 1 0, word_at l p 2, word_at l p 4, word_at l p 6, word_at l p 8, word_at l p 10)

raws_count : (m : ℕ) (s : List ℕ) → length (raws m s) ≡ m
unfolding raws
raws_count zero s = refl
raws_count (suc m) s = ap suc (raws_count m (drop 12 s))

fields_drop : (s : List ℕ) (k : ℕ) → fields_of (drop 12 s) k ≡ fields_of s (suc k)
fields_drop s k =
    let z : 12 + k * 12 ≡ suc k * 12 = omega arith in
    ap raw_line_at (drop-drop (k * 12) 12 s ∙ ap (λ p. drop p s) z)

-- a line is opened where its own offset says
opened_offset : (σ : Signature) (n : ℕ) (rs : List ℕ) (p : ℕ) (c : List ℕ) (w : RawLine) (l : Line) → open_line σ n rs p c w ≡ some l → w.offset ≡ p
unfolding open_line
opened_offset σ n rs p c w l e =
    let a = only_if_some (eqb w.offset p && leb w.size (length c)) l e in
    eqb-true w.offset p (and_left (eqb w.offset p) _ a.0)

module _ (σ : Signature) (n : ℕ) (rs code : List ℕ) where
  -- the line l is opened from the fields w and from the code section at their offset
  abbrev pub OpenedLine : RawLine → Line → Type 0
  OpenedLine w l = open_line σ n rs w.offset (drop w.offset code) w ≡ some l

  opened_here : (p : ℕ) (c : List ℕ) (w : RawLine) (l : Line) → c ≡ drop p code → open_line σ n rs p c w ≡ some l → OpenedLine w l
  opened_here p c w l d e =
      ap (λ q. open_line σ n rs q (drop q code) w) (opened_offset σ n rs p c w l e) ∙ ap (λ x. open_line σ n rs p x w) (sym d) ∙ e

  lines_placed : (m : ℕ) (s : List ℕ) (x p : ℕ) (c : List ℕ) (ls : List Line) → c ≡ drop p code → open_lines σ n rs x p c (raws m s) ≡ lined ls
      → (length ls ≡ m) × ((k : ℕ) → k < m → OpenedLine (fields_of s k) (line ls k))
  unfolding open_lines raws
  lines_placed zero s x p [] ls d e = rw (← lined_injective [] ls e) (refl, λ k h. absurd (omega arith))
  lines_placed zero s x p (b ∷ c) ls d e = absurd (let z : ◌≡◌ {A = ℕ} 0 1 = cc in omega arith)
  lines_placed (suc m) s x p c ls d e =
      let w = raw_line_at s in
      let g = go_on_lined (open_line σ n rs p c w) x _ ls e in
      let o = with_lined g.0 _ ls g.2 in
      let q = ap (drop w.size) d ∙ drop-drop w.size p code in
      let r = lines_placed m (drop 12 s) (suc x) (p + w.size) (drop w.size c) o.0 q o.1 in
      rw (← o.2) (ap suc r.0, each g.0 o.0 (opened_here p c w g.0 d g.1) r.1)
    where
      each : (l : Line) (ks : List Line) → OpenedLine (raw_line_at s) l → ((k : ℕ) → k < m → OpenedLine (fields_of (drop 12 s) k) (line ks k))
          → (k : ℕ) → k < suc m → OpenedLine (fields_of s k) (line (l ∷ ks) k)
      each l ks a r zero h = a
      each l ks a r (suc k) h = subst (λ (w : RawLine). OpenedLine w (line ks k)) (fields_drop s k) (r k (omega arith))

module _ (s l c : List ℕ) (t : Table) (e : Opens s l c t) where
  -- "One 12-byte line per statement": as many lines as the section has
  pub opens_count : length t.lines ≡ length l / 12
  opens_count = (lines_placed t.signature (length (raws (length l / 12) l)) t.reaches c (length l / 12) l 0 0 c t.lines refl
      (opens_parts s l c t e).1).0

  -- The line k of the table is opened from its own 12 bytes and its own run of the code section.
  pub opens_line : (k : ℕ) → k < length t.lines → OpenedLine t.signature (length t.lines) t.reaches c (fields_of l k) (line t.lines k)
  opens_line k h =
      let m = length l / 12 in
      let r = lines_placed t.signature (length (raws m l)) t.reaches c m l 0 0 c t.lines refl (opens_parts s l c t e).1 in
      let q : length (raws m l) ≡ length t.lines = raws_count m l ∙ sym r.0 in
      rw q at (r.1 k (omega (arith, r.0)))
