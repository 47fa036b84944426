-- What a turn of the loop over the lines keeps: the lines from here on answer what all lines answer. Assumes nothing.
use Prim.Native.Nat.{ℕ, suc, ◌+◌, ◌-◌, ◌*◌, ◌≤◌, ◌<◌}
use native.Mathlib.Numerals.{add-one}
use native.Mathlib.Omega.{arith}
use mathlib.Core.Path.{◌≡◌, refl, sym, ap, ◌∙◌}
use mathlib.Core.Bool.{true, false, ◌&&◌}
use mathlib.Core.Option.{Option, none, some}
use mathlib.Core.List.{List, [], ◌∷◌}
use lib.ListN.{length, drop, length-drop, drop_of_length-le}
use lib.Seq.{drop-drop, drop-cons}
use lib.Dec.{leb, eqb}
use borrow.Author.Tests.{leb-true}
use Rattle.spec_semantics.proofs.Basic.{false_true, and_left, and_right}
use Rattle.spec_format.specs.Words.{word2_at}
use Rattle.spec_format.specs.Lines.{Line}
use Rattle.spec_format.specs.Signature.{Signature}
use Rattle.spec_format.specs.Image.{RawLine}
use Rattle.spec_format.specs.Opening.{raw_line_at, raws, open_line, Lined, lined, bad_at, with, go_on, open_lines}
use Rattle.image_loader.specs.Sections.{is_some}
use Rattle.image_loader.specs.Code.{signature_at}
use Rattle.image_loader.specs.Lines.{stored_reaches, judged, lines_from}
use Rattle.std.specs.Prelude.{Result, Ok, Err}
use Rattle.image_loader.proofs.SignatureLaws.{is_some_only_if}
use Rattle.image_loader.proofs.LineLaws.{raw_at}

judged_with : (l : Line) (r : Lined) → judged (with l r) ≡ judged r
judged_with l (lined ls) = refl
judged_with l (bad_at k) = refl

judged_some : (o : Option Line) (x : ℕ) (k : Line → Lined) (r : Result (Unit {0}) ℕ) → is_some o ≡ true → ((l : Line) → judged (k l) ≡ r) → judged (go_on o x k) ≡ r
judged_some none x k r e h = false_true e
judged_some (some l) x k r e h = h l

judged_none : (o : Option Line) (x : ℕ) (k : Line → Lined) → is_some o ≡ false → judged (go_on o x k) ≡ Err x
judged_none none x k e = refl
judged_none (some l) x k e = false_true (sym e)

module _ (sig lines code : List ℕ) (n : ℕ) where
  -- the lines from the line x on, the first of which is w
  line_first : (x p : ℕ) → x < n → (w : RawLine) → raw_line_at (drop (12 * x) lines) ≡ w
      → lines_from sig lines code n x p ≡ judged (open_lines (signature_at sig) n (stored_reaches n lines) x p (drop p code) (w ∷ raws (n - suc x) (drop
      (12 * suc x) lines)))
  unfolding lines_from raws
  line_first x p h w e =
      let d : n - x ≡ suc (n - suc x) = omega arith in
      let m : 12 * x + 12 ≡ 12 * suc x = omega arith in
      rw d (ap (λ z. judged (open_lines (signature_at sig) n (stored_reaches n lines) x p (drop p code) (z ∷ raws (n - suc x) (drop 12 (drop (12 * x) lines))))) e
      ∙ ap (λ z. judged (open_lines (signature_at sig) n (stored_reaches n lines) x p (drop p code) (w ∷ raws (n - suc x) z)))
      (drop-drop 12 (12 * x) lines ∙ ap (λ z. drop z lines) m))

  opened_line : (σ : Signature) (rs : List ℕ) (x p : ℕ) (c : List ℕ) (w : RawLine) (ws : List RawLine)
      → open_lines σ n rs x p c (w ∷ ws) ≡ go_on (open_line σ n rs p c w) x (λ l. with l (open_lines σ n rs (suc x) (p + w.size) (drop w.size c) ws))
  unfolding open_lines
  opened_line σ rs x p [] w ws = refl
  opened_line σ rs x p (k ∷ c) w ws = refl

  line_good : (x p s : ℕ) → x < n → s ≡ (raw_line_at (drop (12 * x) lines)).size
      → is_some (open_line (signature_at sig) n (stored_reaches n lines) p (drop p code) (raw_line_at (drop (12 * x) lines))) ≡ true
      → lines_from sig lines code n x p ≡ lines_from sig lines code n (suc x) (p + s)
  unfolding lines_from
  line_good x p s h e o =
      line_first x p h (raw_line_at (drop (12 * x) lines)) refl
      ∙ ap judged (opened_line (signature_at sig) (stored_reaches n lines) x p (drop p code) (raw_line_at (drop (12 * x) lines)) (raws (n - suc x) (drop (12 *
      suc x) lines)))
      ∙ judged_some (open_line (signature_at sig) n (stored_reaches n lines) p (drop p code) (raw_line_at (drop (12 * x) lines))) x _ _ o
      (λ l. judged_with l (open_lines (signature_at sig) n (stored_reaches n lines) (suc x) (p + (raw_line_at (drop (12 * x) lines)).size)
      (drop (raw_line_at (drop (12 * x) lines)).size (drop p code)) (raws (n - suc x) (drop (12 * suc x) lines))) ∙ moved (raw_line_at (drop (12 * x) lines)).size e)
    where
      moved : (z : ℕ) → s ≡ z
          → judged (open_lines (signature_at sig) n (stored_reaches n lines) (suc x) (p + z) (drop z (drop p code)) (raws (n - suc x) (drop (12 * suc x) lines)))
          ≡ judged (open_lines (signature_at sig) n (stored_reaches n lines) (suc x) (p + s) (drop (p + s) code) (raws (n - suc x) (drop (12 * suc x) lines)))
      moved z q = rw (q, drop-drop z p code)

  line_bad : (x p : ℕ) → x < n
      → is_some (open_line (signature_at sig) n (stored_reaches n lines) p (drop p code) (raw_line_at (drop (12 * x) lines))) ≡ false
      → lines_from sig lines code n x p ≡ Err x
  line_bad x p h o =
      line_first x p h (raw_line_at (drop (12 * x) lines)) refl
      ∙ ap judged (opened_line (signature_at sig) (stored_reaches n lines) x p (drop p code) (raw_line_at (drop (12 * x) lines)) (raws (n - suc x) (drop (12 *
      suc x) lines)))
      ∙ judged_none (open_line (signature_at sig) n (stored_reaches n lines) p (drop p code) (raw_line_at (drop (12 * x) lines))) x _ o

  lines_over : (x p : ℕ) → n ≤ x → lines_from sig lines code n x p ≡ judged (open_lines (signature_at sig) n (stored_reaches n lines) x p (drop p code) [])
  unfolding lines_from raws
  lines_over x p h = let d : n - x ≡ 0 = omega arith in rw d

  -- the lines from the line x on, whose code begins at the offset p
  pub record Left (x p : ℕ) : Type 0 where
    pub same : lines_from sig lines code n x p ≡ lines_from sig lines code n 0 0
    pub within : x ≤ n
    pub room : p ≤ length code

  pub left_first : Left 0 0
  left_first = record { same = refl; within = omega arith; room = omega arith }

  -- the code of a line that opens lies within the section
  size_fits : (σ : Signature) (rs : List ℕ) (p : ℕ) (c : List ℕ) (w : RawLine) → is_some (open_line σ n rs p c w) ≡ true → w.size ≤ length c
  unfolding open_line
  size_fits σ rs p c w o =
      leb-true w.size (length c)
      (and_right (eqb w.offset p) _ (and_left (eqb w.offset p && leb w.size (length c)) _
      (sym (is_some_only_if (eqb w.offset p && leb w.size (length c)) _) ∙ o)))

  size_at : (x : ℕ) → word2_at lines (12 * x + 4) ≡ (raw_line_at (drop (12 * x) lines)).size
  size_at x = sym (ap (λ (w : RawLine). w.size) (raw_at lines (12 * x)))

  pub left_again : {x p s : ℕ} → Left x p → x < n → s ≡ word2_at lines (12 * x + 4)
      → is_some (open_line (signature_at sig) n (stored_reaches n lines) p (drop p code) (raw_line_at (drop (12 * x) lines))) ≡ true → Left (x + 1) (p + s)
  left_again {x} {p} {s} l h e o =
      let z : s ≡ (raw_line_at (drop (12 * x) lines)).size = e ∙ size_at x in
      let b = size_fits (signature_at sig) (stored_reaches n lines) p (drop p code) (raw_line_at (drop (12 * x) lines)) o in
      let q = l.room in
      record {
        same = rw add-one (sym (line_good x p s h z o) ∙ l.same);
        within = omega arith;
        room = omega (arith, length-drop p code);
      }

  -- the code's end of a line that opens, as the code adds it
  pub left_room : {x p s : ℕ} → Left x p → s ≡ word2_at lines (12 * x + 4)
      → is_some (open_line (signature_at sig) n (stored_reaches n lines) p (drop p code) (raw_line_at (drop (12 * x) lines))) ≡ true → p + s ≤ length code
  left_room {x} {p} {s} l e o =
      let z : s ≡ (raw_line_at (drop (12 * x) lines)).size = e ∙ size_at x in
      let b = size_fits (signature_at sig) (stored_reaches n lines) p (drop p code) (raw_line_at (drop (12 * x) lines)) o in
      let q = l.room in
      omega (arith, length-drop p code)

  pub left_bad : {x p : ℕ} → Left x p → x < n
      → is_some (open_line (signature_at sig) n (stored_reaches n lines) p (drop p code) (raw_line_at (drop (12 * x) lines))) ≡ false
      → Err x ≡ lines_from sig lines code n 0 0
  left_bad {x} {p} l h o = sym (line_bad x p h o) ∙ l.same

  pub left_filled : {x p : ℕ} → Left x p → n ≤ x → length code ≤ p → Ok tt ≡ lines_from sig lines code n 0 0
  unfolding open_lines
  left_filled {x} {p} l h e =
      sym (lines_over x p h ∙ ap (λ z. judged (open_lines (signature_at sig) n (stored_reaches n lines) x p z [])) (drop_of_length-le code e)) ∙ l.same

  pub left_over : {x p : ℕ} → Left x p → n ≤ x → p < length code → Err n ≡ lines_from sig lines code n 0 0
  unfolding open_lines
  left_over {x} {p} l h e =
      let w = l.within in
      let z : n ≡ x = omega arith in
      ap Err z ∙ sym (lines_over x p h ∙ ap (λ z. judged (open_lines (signature_at sig) n (stored_reaches n lines) x p z [])) (drop-cons code p 0 e)) ∙ l.same
