-- Opening an image: what its sections' parts answer is what the image answers. Assumes nothing.
use Prim.Native.Nat.{ℕ, ◌-◌, ◌/◌, ◌%◌, ◌≤◌}
use native.Mathlib.Omega.{arith}
use mathlib.Core.Path.{◌≡◌, refl, sym, ap, ◌∙◌}
use mathlib.Core.Bool.{true, false}
use mathlib.Core.Option.{Option, none, some}
use mathlib.Core.List.{List}
use lib.ListN.{length, take, drop}
use lib.Dec.{leb, eqb}
use borrow.Author.Tests.{leb-true}
use Rattle.spec_semantics.proofs.Basic.{false_true, and_left, and_right}
use Rattle.base_answers.specs.Answers.{Told, done, refused_by, number_of, place_of}
use Rattle.base_answers.specs.declared.Refusal.TheVariants.{BadSections, BadSignature, BadLine}
use Rattle.base_answers.specs.declared.Sections as declared_sections
use Rattle.base_answers.specs.declared.Refusal.{Refusal}
use Rattle.spec_format.specs.Words.{only_if}
use Rattle.spec_format.specs.Image.{Sections, Table}
use Rattle.spec_format.specs.Signature.{Signature, signature_of}
use Rattle.spec_format.specs.Opening.{raws, sections_of, Lined, lined, bad_at, open_lines, Opened, opened, not_opened, tabled, open_table, unless12, raw_lines}
use Rattle.spec_format.specs.Opening.{open_sections, unless11, open_of}
use Rattle.image_loader.specs.Sections.{is_some, signature_length, lines_length, code_length, lines_start, code_start, parts, headed, paired, whole, sectioned}
use Rattle.image_loader.specs.Code.{or_empty, signature_at}
use Rattle.image_loader.specs.Lines.{stored_reaches, judged, lines_from}
use Rattle.image_loader.specs.Open.{places_of, open_answer}
use Rattle.std.specs.Prelude.{Result, Ok, Err, MatchResult}
use Rattle.image_loader.proofs.SectionLaws.{Lengths, paired_lengths, sections_read, sections_test}
use Rattle.image_loader.proofs.LineLaws.{raws_length, run_same}

-- an image without its sections is refused by 11; ..
pub open_11 : (b : List ℕ) → is_some (sections_of b) ≡ false → refused_by BadSections ≡ open_answer b (open_of b)
unfolding open_of
open_11 b h = go (sections_of b) h
  where
    go : (o : Option Sections) → is_some o ≡ false → refused_by BadSections ≡ open_answer b (unless11 o open_sections)
    go none e = refl
    go (some x) e = false_true (sym e)

module _ (b : List ℕ) (h : is_some (sections_of b) ≡ true) where
  tested : sectioned b ≡ true
  tested = sym (sections_test b) ∙ h

  pub lengths : Lengths b
  unfolding sectioned
  lengths = paired_lengths b (and_left (paired b) _ (and_right (headed b) _ tested))

  -- there are at most 512 lines
  few : lines_length b / 12 ≤ 512
  unfolding sectioned whole
  few =
      leb-true (lines_length b / 12) 512
      (and_right (leb 1 (lines_length b / 12)) _ (and_right (eqb (lines_length b % 12) 0) _ (and_right (paired b) _ (and_right (headed b) _ tested))))

  pub sections_there : sections_of b ≡ some (parts b)
  sections_there = sections_read b ∙ ap (λ t. only_if t (some (parts b))) tested

  opened_parts : open_of b ≡ open_sections (parts b)
  unfolding open_of
  opened_parts = ap (λ o. unless11 o open_sections) sections_there

  -- .. one whose signature section is none by 12; ..
  pub open_12 : (s : List ℕ) → s ≡ (parts b).signature → is_some (signature_of s) ≡ false → refused_by BadSignature ≡ open_answer b (open_of b)
  unfolding open_sections
  open_12 s e q = go (signature_of (parts b).signature) refl (ap (λ z. is_some (signature_of z)) (sym e) ∙ q)
    where
      go : (o : Option Signature) → signature_of (parts b).signature ≡ o → is_some o ≡ false → refused_by BadSignature ≡ open_answer b (open_of b)
      go none m r = sym (ap (open_answer b) (opened_parts ∙ ap (λ o. unless12 o (λ σ. open_table σ (raw_lines (parts b)) (parts b).code)) m))
      go (some σ) m r = false_true (sym r)

  -- .. and the others by 13, or not at all
  abbrev answered : Result (Unit {0}) ℕ → Told declared_sections.Sections
  answered (Ok u) = done (places_of b)
  answered (Err x) = refused_by (BadLine x)

  tabled_answer : (σ : Signature) (rs : List ℕ) (l : Lined) → answered (judged l) ≡ open_answer b (tabled σ rs l)
  tabled_answer σ rs (lined ls) = refl
  tabled_answer σ rs (bad_at x) = refl

  table_answer : (σ : Signature) (lines code : List ℕ) (n : ℕ) → n ≡ length lines / 12
      → answered (judged (open_lines σ n (stored_reaches n lines) 0 0 code (raws n lines))) ≡ open_answer b (open_table σ (raws (length lines / 12) lines) code)
  unfolding open_table
  table_answer σ lines code n e =
      ap (λ z. answered (judged (open_lines σ z (stored_reaches n lines) 0 0 code (raws n lines)))) (sym (raws_length n lines))
      ∙ tabled_answer σ (stored_reaches n lines) (open_lines σ (length (raws n lines)) (stored_reaches n lines) 0 0 code (raws n lines))
      ∙ ap (λ z. open_answer b (open_table σ (raws z lines) code)) e

  from_first : (sig lines code : List ℕ) (n : ℕ)
      → lines_from sig lines code n 0 0 ≡ judged (open_lines (signature_at sig) n (stored_reaches n lines) 0 0 code (raws n lines))
  unfolding lines_from
  from_first sig lines code n = let d : n - 0 ≡ n = omega arith in rw d

  pub open_13 : (s l c : List ℕ) → s ≡ (parts b).signature → l ≡ (parts b).lines → c ≡ (parts b).code → is_some (signature_of s) ≡ true
      → (j : Result (Unit {0}) ℕ) → j ≡ lines_from s l c (length l / 12) 0 0 → answered j ≡ open_answer b (open_of b)
  unfolding open_sections signature_at
  open_13 s l c es el ec q j ej = go (signature_of s) refl q
    where
      go : (o : Option Signature) → signature_of s ≡ o → is_some o ≡ true → answered j ≡ open_answer b (open_of b)
      go none m r = false_true r
      go (some σ) m r =
          ap answered (ej ∙ from_first s l c (length l / 12) ∙ ap (λ z. judged (open_lines z (length l / 12) (stored_reaches (length l / 12) l) 0 0 c
          (raws (length l / 12) l))) (ap or_empty m))
          ∙ table_answer σ l c (length l / 12) refl
          ∙ ap (λ z. open_answer b (open_table σ (raws (length z / 12) z) c)) el
          ∙ ap (λ z. open_answer b (open_table σ (raw_lines (parts b)) z)) ec
          ∙ sym (ap (open_answer b) (opened_parts ∙ ap (λ o. unless12 o (λ σ. open_table σ (raw_lines (parts b)) (parts b).code)) (ap signature_of (sym es) ∙ m)))

  -- the parts as the code takes them
  pub signature_part : (e : ℕ) → e ≡ lines_start b → take (e - 28) (drop 28 b) ≡ (parts b).signature
  unfolding parts
  signature_part e m = run_same b 28 (signature_length b) e m

  pub lines_part : (l c : ℕ) → l ≡ lines_start b → c ≡ code_start b → take (c - l) (drop l b) ≡ (parts b).lines
  unfolding parts
  lines_part l c m q = run_same b l (lines_length b) c (omega arith) ∙ ap (λ z. take (lines_length b) (drop z b)) m

  pub code_part : (c e : ℕ) → c ≡ code_start b → e ≡ length b → take (e - c) (drop c b) ≡ (parts b).code
  unfolding parts
  code_part c e m q = let z = lengths.all in run_same b c (code_length b) e (omega arith) ∙ ap (λ z. take (code_length b) (drop z b)) m

  pub lines_few : (l : List ℕ) → l ≡ (parts b).lines → length l / 12 ≤ 512
  lines_few l e = let z : length l ≡ lines_length b = ap length e ∙ lengths.lines in let f = few in rw z f

  -- what the lines come to, as the code tells it
  pub open_good : (j : Result (Unit {0}) ℕ) (m : Result (Unit {0}) Refusal) {u : Unit {0}} {l c : ℕ} → MatchResult j (λ x. m ≡ Ok x) (λ x. m ≡ Err (BadLine x)) → m ≡ Ok u
      → l ≡ lines_start b → c ≡ code_start b → answered j ≡ open_answer b (open_of b)
      → done (record { signature = 28; lines = l; code = c; end = length b }) ≡ open_answer b (open_of b)
  open_good (Ok x) m h e el ec a = rw (el, ec) a
  open_good (Err x) m h e el ec a = cc

  pub open_bad : (j : Result (Unit {0}) ℕ) (m : Result (Unit {0}) Refusal) {r : Refusal} → MatchResult j (λ x. m ≡ Ok x) (λ x. m ≡ Err (BadLine x)) → m ≡ Err r
      → answered j ≡ open_answer b (open_of b) → refused_by r ≡ open_answer b (open_of b)
  open_bad (Ok x) m h e a = cc
  open_bad (Err x) m {r} h e a = let q : r ≡ BadLine x = cc in rw q a

-- What a caller learns of an image that opened: its table, and where its sections start.
pub image_opened : (b : List ℕ) (s : declared_sections.Sections) → done s ≡ open_answer b (open_of b) → (t : Table) × (open_of b ≡ opened t) × (s ≡ places_of b)
image_opened b s e = go (open_of b) refl e
  where
    go : (o : Opened) → open_of b ≡ o → done s ≡ open_answer b o → (t : Table) × (open_of b ≡ opened t) × (s ≡ places_of b)
    go (opened t) m p = (t, m, cc)
    go (not_opened q k) m p = absurd (let z : ◌≡◌ {A = ℕ} 0 1 = cc in omega arith)

-- What a caller learns of an image that is refused: number and place.
pub image_refused : (b : List ℕ) (r : Refusal) → refused_by r ≡ open_answer b (open_of b) → open_of b ≡ not_opened (number_of r) (place_of r)
image_refused b r e = go (open_of b) refl e
  where
    go : (o : Opened) → open_of b ≡ o → refused_by r ≡ open_answer b o → open_of b ≡ not_opened (number_of r) (place_of r)
    go (opened t) m p = absurd (let z : ◌≡◌ {A = ℕ} 0 1 = cc in omega arith)
    go (not_opened q k) m p = m ∙ (let z : q ≡ number_of r = cc in let y : k ≡ place_of r = cc in rw (z, y))

-- .. and that these are the parts of the image that the definitions open
pub opened_sections : (b : List ℕ) (t : Table) → open_of b ≡ opened t → sections_of b ≡ some (parts b)
unfolding open_of
opened_sections b t e = go (sections_of b) refl e
  where
    go : (o : Option Sections) → sections_of b ≡ o → unless11 o open_sections ≡ opened t → sections_of b ≡ some (parts b)
    go none m p = absurd (let z : ◌≡◌ {A = ℕ} 0 1 = cc in omega arith)
    go (some x) m p = sections_there b (ap is_some m)
