-- An image opens to a table exactly when it is the encoding of that table and the table is good. Assumes nothing.
use Prim.Native.Nat.{ℕ, ◌*◌, ◌/◌, ◌%◌, ◌≤◌, ◌<◌}
use native.Mathlib.Omega.{arith}
use mathlib.Core.Path.{◌≡◌, refl, sym, ap, ◌∙◌}
use mathlib.Core.Logic.{◌↔◌}
use mathlib.Core.Bool.{true}
use mathlib.Core.Option.{Option, none, some}
use mathlib.Core.List.{List, [], ◌∷◌, ◌++◌}
use lib.ListN.{length}
use lib.Dec.{leb, eqb}
use borrow.Author.Tests.{leb-true}
use Rattle.spec_semantics.proofs.Basic.{eqb-true, and_left, and_right}
use Rattle.spec_format.specs.Words.{Bytes}
use Rattle.spec_format.specs.Signature.{Signature, signature_bytes, signature_of, GoodSignature}
use Rattle.spec_format.specs.Lines.{Line}
use Rattle.spec_format.specs.Image.{Table, raws_bytes, code_of_lines, raws_of, pairs, joined, image, Sections, form1, sections_for, encode_table}
use Rattle.spec_format.specs.Good.{GoodTable}
use Rattle.spec_format.specs.Opening.{whole_lines, sections_of, raws, Lined, lined, bad_at, raw_reaches, Opened, opened, tabled, open_table, unless12}
use Rattle.spec_format.specs.Opening.{raw_lines, open_sections, unless11, open_of}
use Rattle.spec_format.specs.Refusals.{Sectioned, Signed}
use Rattle.spec_format.proofs.Words.{bytes_left, bytes_right}
use Rattle.spec_format.proofs.Signature.{signature_read, signature_exactly}
use Rattle.spec_format.proofs.Sections.{form1_length, whole_lines_lem, form1_read, sections_exactly}
use Rattle.spec_format.proofs.Lines.{raws_read, raws_bytes_length, lines_open, raws_reaches, raws_length, raws_narrow, raws_back, LinesBack, lines_back}

-- The image of a good table has the table's sections, ..
pub table_sections : (t : Table) → GoodTable t → sections_of (encode_table t) ≡ some (sections_for t)
unfolding encode_table sections_for
table_sections t g =
    let ws = raws_of 0 t.lines t.reaches in
    let lw = raws_length t.signature (length t.lines) t.reaches 0 t.lines t.reaches g.lines in
    form1_read (sections_for t)
    (whole_lines_lem (raws_bytes ws) (length t.lines) (raws_bytes_length ws ∙ ap (λ k. 12 * k) lw) g.some_line g.few_lines) g.bytes

-- .. and opens to that table.
pub table_opens : (t : Table) → GoodTable t → open_of (encode_table t) ≡ opened t
unfolding open_of encode_table open_sections open_table sections_for
table_opens t g =
    let n = length t.lines in
    let ws = raws_of 0 t.lines t.reaches in
    let lw = raws_length t.signature n t.reaches 0 t.lines t.reaches g.lines in
    let lb : length (raws_bytes ws) ≡ 12 * n = raws_bytes_length ws ∙ ap (λ k. 12 * k) lw in
    let d : length (raws_bytes ws) / 12 ≡ n = omega arith in
    let z : length (code_of_lines t.lines) < 65536 = code_small (omega (arith, g.bytes)) in
    rw (table_sections t g)
    (rw (signature_read t.signature g.signature, d)
    (rw (
      ap (λ k. raws k (raws_bytes ws)) (sym lw)
          ∙ raws_read ws (raws_narrow t.signature n t.reaches 0 t.lines t.reaches g.lines g.few_lines (omega arith)),
      raws_reaches t.signature n t.reaches 0 t.lines t.reaches g.lines,
      lw,
      lines_open t.signature n t.reaches 0 0 t.lines t.reaches g.lines,
    )))
  where
    code_small : length (form1 (sections_for t)) < 65536 → length (code_of_lines t.lines) < 65536
    code_small h = omega (arith, form1_length (sections_for t))

pub unless12_opened : (o : Option Signature) (k : Signature → Opened) (t : Table) → unless12 o k ≡ opened t → (σ : Signature) × (o ≡ some σ) × (k σ ≡ opened t)
unless12_opened none k t e = absurd (let z : ◌≡◌ {A = ℕ} 0 1 = cc in omega arith)
unless12_opened (some σ) k t e = (σ, refl, e)

pub unless11_opened : (o : Option Sections) (k : Sections → Opened) (t : Table) → unless11 o k ≡ opened t → (x : Sections) × (o ≡ some x) × (k x ≡ opened t)
unless11_opened none k t e = absurd (let z : ◌≡◌ {A = ℕ} 0 1 = cc in omega arith)
unless11_opened (some x) k t e = (x, refl, e)

tabled_opened : (σ : Signature) (rs : List ℕ) (r : Lined) (t : Table) → tabled σ rs r ≡ opened t
    → (ls : List Line) × (r ≡ lined ls) × (◌≡◌ {A = Table} (record { signature = σ; lines = ls; reaches = rs }) t)
tabled_opened σ rs (lined ls) t e = (ls, refl, cc)
tabled_opened σ rs (bad_at x) t e = absurd (let z : ◌≡◌ {A = ℕ} 0 1 = cc in omega arith)

pub whole_lines_back : (l : List ℕ) → whole_lines l ≡ true → (length l ≡ 12 * (length l / 12)) × (1 ≤ length l / 12) × (length l / 12 ≤ 512)
unfolding whole_lines
whole_lines_back l h =
    let a = eqb-true (length l % 12) 0 (and_left (eqb (length l % 12) 0) _ h) in
    let q = and_right (eqb (length l % 12) 0) _ h in
    (omega arith, leb-true 1 (length l / 12) (and_left (leb 1 (length l / 12)) _ q), leb-true (length l / 12) 512 (and_right (leb 1 (length l / 12)) _ q))

-- the bytes of every section are bytes
pub sections_bytes : (x : Sections) → Bytes (form1 x) → Bytes x.signature × Bytes x.lines × Bytes x.code
unfolding form1 image pairs joined Bytes
sections_bytes x h =
    let a : Bytes (x.signature ++ (x.lines ++ (x.code ++ []))) =
    bytes_right (pairs 28 (x.signature ∷ x.lines ∷ x.code ∷ [])) (x.signature ++ (x.lines ++ (x.code ++ []))) h.1.1.1.1 in
    let b = bytes_right x.signature (x.lines ++ (x.code ++ [])) a in
    (bytes_left x.signature _ a, bytes_left x.lines _ b, bytes_left x.code [] (bytes_right x.lines (x.code ++ []) b))

table_back : (b : List ℕ) (x : Sections) (σ : Signature) (ls : List Line) → Sectioned b x → Signed x σ
    → (raws_bytes (raw_lines x) ≡ x.lines) × (length (raw_lines x) ≡ length x.lines / 12)
    → LinesBack σ (length (raw_lines x)) (raw_reaches (raw_lines x)) 0 x.code (raw_lines x) ls
    → (b ≡ encode_table (record { signature = σ; lines = ls; reaches = raw_reaches (raw_lines x) }))
    × GoodTable (record { signature = σ; lines = ls; reaches = raw_reaches (raw_lines x) })
unfolding encode_table sections_for form1
table_back b x σ ls s g r k =
    let w = whole_lines_back x.lines s.lines in
    let n : length ls ≡ length (raw_lines x) =
    sym (raws_length σ (length (raw_lines x)) (raw_reaches (raw_lines x)) 0 ls (raw_reaches (raw_lines x)) k.good) ∙ sym (ap length k.fields) in
    let e : b ≡ encode_table (record { signature = σ; lines = ls; reaches = raw_reaches (raw_lines x) }) =
    s.bytes ∙ sections_cong g.bytes (sym r.0 ∙ ap raws_bytes k.fields) k.code in
    (e, record { signature = g.good; some_line = omega (arith, r.1); few_lines = omega (arith, r.1); lines = rw n k.good; bytes = rw (← e) s.small })
  where
    sections_cong : {l c : List ℕ} → x.signature ≡ signature_bytes σ → x.lines ≡ l → x.code ≡ c
        → form1 x ≡ form1 (record { signature = signature_bytes σ; lines = l; code = c })
    sections_cong p q u = cc

opens_back : (b : List ℕ) (t : Table) → Bytes b → open_of b ≡ opened t → (b ≡ encode_table t) × GoodTable t
unfolding open_of open_sections open_table
opens_back b t h e =
    let x = unless11_opened (sections_of b) open_sections t e in
    let s = (sections_exactly b x.0 h).0 x.1 in
    let y = sections_bytes x.0 (rw s.bytes at h) in
    let g = unless12_opened (signature_of x.0.signature) _ t x.2 in
    let k = tabled_opened g.0 (raw_reaches (raw_lines x.0)) _ t g.2 in
    let r = raws_back (length x.0.lines / 12) x.0.lines (whole_lines_back x.0.lines s.lines).0 y.1 in
    rw k.2 at
    (table_back b x.0 g.0 k.0 s (signed_back ((signature_exactly x.0.signature g.0 y.0).0 g.1)) (r.0, r.2)
    (lines_back g.0 (length (raw_lines x.0)) (raw_reaches (raw_lines x.0)) 0 0 x.0.code (raw_lines x.0) k.0 y.2 r.1 k.1))
  where
    signed_back : {x : Sections} {σ : Signature} → (x.signature ≡ signature_bytes σ) × GoodSignature σ → Signed x σ
    signed_back q = record { bytes = q.0; good = q.1 }

-- One byte string for each good table, and nothing else opens.
pub opens_exactly : (b : List ℕ) (t : Table) → Bytes b → (open_of b ≡ opened t) ↔ ((b ≡ encode_table t) × GoodTable t)
opens_exactly b t h = (opens_back b t h, λ p. ap open_of p.0 ∙ table_opens t p.1)

-- Two good tables with one image are equal.
pub encode_injective : (t u : Table) → GoodTable t → GoodTable u → encode_table t ≡ encode_table u → t ≡ u
encode_injective t u g k e = opened_injective (sym (table_opens t g) ∙ ap open_of e ∙ table_opens u k)
  where
    opened_injective : opened t ≡ opened u → t ≡ u
    opened_injective q = cc
