-- 11, 12 and 13, each exactly when its clause says so and at that place: by induction on the lines. Assumes nothing.
use Prim.Native.Nat.{ℕ, zero, suc, ◌+◌, ◌≤◌, ◌<◌}
use native.Mathlib.Omega.{arith}
use native.Mathlib.Nat.{add-zero}
use native.Mathlib.Decide.{dec_lt}
use mathlib.Core.Path.{◌≡◌, refl, sym, ap, ◌∙◌}
use mathlib.Core.Logic.{◌↔◌}
use mathlib.Core.Option.{Option, none, some}
use mathlib.Core.List.{List, [], ◌∷◌, ◌++◌}
use lib.ListN.{length, get_or, take, drop, length-drop, take-append-drop}
use lib.Seq.{drop-drop}
use Rattle.spec_semantics.proofs.Basic.{none_some}
use Rattle.spec_format.specs.Words.{Bytes}
use Rattle.spec_format.specs.Signature.{Signature, signature_of}
use Rattle.spec_format.specs.Lines.{Line}
use Rattle.spec_format.specs.Image.{RawLine, raw, code_of_line, raw_of, Sections}
use Rattle.spec_format.specs.Opening.{sections_of, open_line, Lined, lined, bad_at, with, go_on, open_lines, raw_reaches, not_opened, tabled, open_table}
use Rattle.spec_format.specs.Opening.{unless12, raw_lines, open_sections, unless11, open_of}
use Rattle.spec_format.specs.Refusals.{Sectioned, Signed, run_start, GoodAt, Lowest, bad_line, not_filled, Refusal, sections_refused, signature_refused}
use Rattle.spec_format.specs.Refusals.{line_refused}
use Rattle.spec_format.proofs.Words.{bytes_drop}
use Rattle.spec_format.proofs.Signature.{signature_exactly}
use Rattle.spec_format.proofs.Sections.{sections_exactly}
use Rattle.spec_format.proofs.Lines.{line_opens, line_back}
use Rattle.spec_format.proofs.Opens.{sections_bytes}

abbrev no_raw : RawLine
no_raw = raw 0 0 0 0 0 0 0

-- the line k judged by itself
unfoldable judged : Signature → ℕ → List ℕ → ℕ → List ℕ → List RawLine → ℕ → Option Line
judged σ n rs p c ws k = open_line σ n rs (p + run_start ws k) (drop (run_start ws k) c) (get_or ws k no_raw)

abbrev IsBad : Option Line → Type 0
IsBad none = Unit {0}
IsBad (some l) = ⊥

abbrev IsGood : Option Line → Type 0
IsGood none = ⊥
IsGood (some l) = Unit {0}

data LowestOf (σ : Signature) (n : ℕ) (rs : List ℕ) (p : ℕ) (c : List ℕ) (ws : List RawLine) (k : ℕ) : Type 0 where
  bad_one : k < length ws → IsBad (judged σ n rs p c ws k) → ((y : ℕ) → y < k → IsGood (judged σ n rs p c ws y)) → LowestOf σ n rs p c ws k
  left_over : k ≡ length ws → ((y : ℕ) → y < k → IsGood (judged σ n rs p c ws y)) → run_start ws (length ws) < length c → LowestOf σ n rs p c ws k

-- what the answer from the line x on means
abbrev Means : Signature → ℕ → List ℕ → ℕ → ℕ → List ℕ → List RawLine → Lined → Type 0
Means σ n rs x p c ws (lined ls) = ((y : ℕ) → y < length ws → IsGood (judged σ n rs p c ws y)) × (length c ≤ run_start ws (length ws))
Means σ n rs x p c ws (bad_at k) = (j : ℕ) × (k ≡ x + j) × LowestOf σ n rs p c ws j

judged_next : (σ : Signature) (n : ℕ) (rs : List ℕ) (p : ℕ) (c : List ℕ) (w : RawLine) (ws : List RawLine) (y : ℕ)
    → judged σ n rs (p + w.size) (drop w.size c) ws y ≡ judged σ n rs p c (w ∷ ws) (suc y)
unfolding judged run_start
judged_next σ n rs p c w ws y =
    let e : p + w.size + run_start ws y ≡ p + (w.size + run_start ws y) = omega arith in
    rw (e, drop-drop (run_start ws y) w.size c)

judged_first : (σ : Signature) (n : ℕ) (rs : List ℕ) (p : ℕ) (c : List ℕ) (w : RawLine) (ws : List RawLine)
    → judged σ n rs p c (w ∷ ws) 0 ≡ open_line σ n rs p c w
unfolding judged run_start
judged_first σ n rs p c w ws = ap (λ z. open_line σ n rs z c w) (add-zero p)

module _ (σ : Signature) (n : ℕ) (rs : List ℕ) (p : ℕ) (c : List ℕ) (w : RawLine) (ws : List RawLine) where
  good_next : (l : Line) → open_line σ n rs p c w ≡ some l → (k : ℕ) → ((y : ℕ) → y < k → IsGood (judged σ n rs (p + w.size) (drop w.size c) ws y))
      → (y : ℕ) → y < suc k → IsGood (judged σ n rs p c (w ∷ ws) y)
  good_next l e k h zero b = rw (judged_first σ n rs p c w ws ∙ e) tt
  good_next l e k h (suc y) b = rw (← judged_next σ n rs p c w ws y) (h y (omega arith))

  lowest_next : (l : Line) → open_line σ n rs p c w ≡ some l → (j : ℕ) → LowestOf σ n rs (p + w.size) (drop w.size c) ws j
      → LowestOf σ n rs p c (w ∷ ws) (suc j)
  unfolding run_start
  lowest_next l e j (bad_one b h g) = bad_one (omega arith) (rw (← judged_next σ n rs p c w ws j) h) (good_next l e j g)
  lowest_next l e j (left_over q g b) = left_over (omega arith) (good_next l e j g) (omega (arith, length-drop w.size c))

  means_with : (l : Line) (x : ℕ) → open_line σ n rs p c w ≡ some l → (r : Lined) → Means σ n rs (suc x) (p + w.size) (drop w.size c) ws r
      → Means σ n rs x p c (w ∷ ws) (with l r)
  unfolding run_start
  means_with l x e (lined ls) m = (good_next l e (length ws) m.0, omega (arith, length-drop w.size c, m.1))
  means_with l x e (bad_at k) m = (suc m.0, omega (arith, m.1), lowest_next l e m.0 m.2)

  means_go : (x : ℕ) (o : Option Line) (k : Line → Lined) → open_line σ n rs p c w ≡ o
      → ((l : Line) → o ≡ some l → Means σ n rs x p c (w ∷ ws) (k l)) → Means σ n rs x p c (w ∷ ws) (go_on o x k)
  means_go x none k e h = (0, omega arith, bad_one (omega arith) (rw (judged_first σ n rs p c w ws ∙ e) tt) (λ y b. absurd (omega arith)))
  means_go x (some l) k e h = h l refl

lines_mean : (σ : Signature) (n : ℕ) (rs : List ℕ) (x p : ℕ) (c : List ℕ) (ws : List RawLine) → Means σ n rs x p c ws (open_lines σ n rs x p c ws)
unfolding open_lines run_start
lines_mean σ n rs x p [] [] = (λ y b. absurd (omega arith), omega arith)
lines_mean σ n rs x p (k ∷ c) [] = (0, omega arith, left_over refl (λ y b. absurd (omega arith)) (omega arith))
lines_mean σ n rs x p c (w ∷ ws) =
    means_go σ n rs p c w ws x (open_line σ n rs p c w) _ refl (λ l e.
    means_with σ n rs p c w ws l x e (open_lines σ n rs (suc x) (p + w.size) (drop w.size c) ws)
    (lines_mean σ n rs (suc x) (p + w.size) (drop w.size c) ws))

-- there is one lowest place

good_bad : {P : Type 0} (o : Option Line) → IsGood o → IsBad o → P
good_bad none g b = absurd g
good_bad (some l) g b = absurd b

lowest_once : (σ : Signature) (n : ℕ) (rs : List ℕ) (p : ℕ) (c : List ℕ) (ws : List RawLine) (j k : ℕ) → LowestOf σ n rs p c ws j
    → LowestOf σ n rs p c ws k → j ≡ k
lowest_once σ n rs p c ws j k (bad_one b h g) (bad_one b' h' g') = go (dec_lt j k) (dec_lt k j)
  where
    go : Dec (j < k) → Dec (k < j) → j ≡ k
    go (yes a) d = good_bad (judged σ n rs p c ws j) (g' j a) h
    go (no a) (yes d) = good_bad (judged σ n rs p c ws k) (g k d) h'
    go (no a) (no d) = omega arith
lowest_once σ n rs p c ws j k (bad_one b h g) (left_over q g' l) = good_bad (judged σ n rs p c ws j) (g' j (omega arith)) h
lowest_once σ n rs p c ws j k (left_over q g l) (bad_one b h g') = good_bad (judged σ n rs p c ws k) (g k (omega arith)) h
lowest_once σ n rs p c ws j k (left_over q g l) (left_over q' g' l') = q ∙ sym q'

not_both : (σ : Signature) (n : ℕ) (rs : List ℕ) (p : ℕ) (c : List ℕ) (ws : List RawLine) (j : ℕ) → LowestOf σ n rs p c ws j
    → ((y : ℕ) → y < length ws → IsGood (judged σ n rs p c ws y)) → length c ≤ run_start ws (length ws) → ⊥
not_both σ n rs p c ws j (bad_one b h g) a f = good_bad (judged σ n rs p c ws j) (a j b) h
not_both σ n rs p c ws j (left_over q g l) a f = omega arith

bad_exactly : (σ : Signature) (n : ℕ) (rs : List ℕ) (c : List ℕ) (ws : List RawLine) (k : ℕ) → (open_lines σ n rs 0 0 c ws ≡ bad_at k) ↔ LowestOf σ n rs 0 c ws k
bad_exactly σ n rs c ws k = (to (open_lines σ n rs 0 0 c ws) (lines_mean σ n rs 0 0 c ws), back (open_lines σ n rs 0 0 c ws) (lines_mean σ n rs 0 0 c ws))
  where
    to : (r : Lined) → Means σ n rs 0 0 c ws r → r ≡ bad_at k → LowestOf σ n rs 0 c ws k
    to (lined ls) m e = absurd (let z : ◌≡◌ {A = ℕ} 0 1 = cc in omega arith)
    to (bad_at x) m e =
        let i : x ≡ k = cc in
        let q : m.0 ≡ k = omega (arith, m.1) in
        rw q at m.2

    back : (r : Lined) → Means σ n rs 0 0 c ws r → LowestOf σ n rs 0 c ws k → r ≡ bad_at k
    back (lined ls) m h = absurd (not_both σ n rs 0 c ws k h m.0 m.1)
    back (bad_at x) m h = ap bad_at (let q = lowest_once σ n rs 0 c ws m.0 k m.2 h in omega (arith, m.1))

-- A line judged good is a good line, and the other way round.

module _ (σ : Signature) (x : Sections) (h : Bytes x.code) where
  at : ℕ → Option Line
  at k = judged σ (length (raw_lines x)) (raw_reaches (raw_lines x)) 0 x.code (raw_lines x) k

  opened_good : (k : ℕ) (l : Line) → at k ≡ some l → GoodAt σ x k l
  unfolding at judged
  opened_good k l e =
      let w = get_or (raw_lines x) k no_raw in
      let s = run_start (raw_lines x) k in
      let z : 0 + s ≡ s = omega arith in
      let b = line_back σ (length (raw_lines x)) (raw_reaches (raw_lines x)) (0 + s) (drop s x.code) w l (bytes_drop s x.code h) e in
      record {
        fields = b.fields ∙ ap (λ p. raw_of p l w.reach) z;
        code = ap (λ m. take m (drop s x.code)) (sym b.size) ∙ b.code;
        good = b.good;
      }

  good_opened : (k : ℕ) (l : Line) → GoodAt σ x k l → at k ≡ some l
  unfolding at judged
  good_opened k l g =
      let w = get_or (raw_lines x) k no_raw in
      let s = run_start (raw_lines x) k in
      let c = drop s x.code in
      let z : 0 + s ≡ s = omega arith in
      let d : c ≡ code_of_line l ++ drop (length (code_of_line l)) c =
      sym (take-append-drop (length (code_of_line l)) c) ∙ ap (λ y. y ++ drop (length (code_of_line l)) c) g.code in
      ap (λ p. open_line σ (length (raw_lines x)) (raw_reaches (raw_lines x)) p c w) z
      ∙ ap (λ y. open_line σ (length (raw_lines x)) (raw_reaches (raw_lines x)) s y w) d
      ∙ ap (λ y. open_line σ (length (raw_lines x)) (raw_reaches (raw_lines x)) s (code_of_line l ++ drop (length (code_of_line l)) c) y) g.fields
      ∙ line_opens σ (length (raw_lines x)) (raw_reaches (raw_lines x)) s (drop (length (code_of_line l)) c) l w.reach g.good

  is_good : (k : ℕ) → IsGood (at k) → (l : Line) × GoodAt σ x k l
  is_good k g = go (at k) refl g
    where
      go : (o : Option Line) → at k ≡ o → IsGood o → (l : Line) × GoodAt σ x k l
      go none e g = absurd g
      go (some l) e g = (l, opened_good k l e)

  good_is : (k : ℕ) (l : Line) → GoodAt σ x k l → IsGood (at k)
  good_is k l g = rw (good_opened k l g) tt

  is_bad : (k : ℕ) → IsBad (at k) → (l : Line) → GoodAt σ x k l → ⊥
  is_bad k b l g = good_bad (at k) (good_is k l g) b

  bad_is : (k : ℕ) → ((l : Line) → GoodAt σ x k l → ⊥) → IsBad (at k)
  bad_is k f = go (at k) refl
    where
      go : (o : Option Line) → at k ≡ o → IsBad o
      go none e = tt
      go (some l) e = f l (opened_good k l e)

  lowest_to : (k : ℕ) → LowestOf σ (length (raw_lines x)) (raw_reaches (raw_lines x)) 0 x.code (raw_lines x) k → Lowest σ x k
  unfolding at
  lowest_to k (bad_one b d g) = bad_line b (is_bad k d) (λ y l. is_good y (g y l))
  lowest_to k (left_over e g l) = not_filled e (λ y b. is_good y (g y b)) (rw e l)

  lowest_from_lem : (k : ℕ) → Lowest σ x k → LowestOf σ (length (raw_lines x)) (raw_reaches (raw_lines x)) 0 x.code (raw_lines x) k
  unfolding at
  lowest_from_lem k (bad_line b d g) = bad_one b (bad_is k d) (λ y l. let q = g y l in good_is y q.0 q.1)
  lowest_from_lem k (not_filled e g l) = left_over e (λ y b. let q = g y b in good_is y q.0 q.1) (rw (← e) l)

-- 13 at the lowest bad line, or at the line count.
lines_exactly : (σ : Signature) (x : Sections) → Bytes x.code → (k : ℕ)
    → (open_lines σ (length (raw_lines x)) (raw_reaches (raw_lines x)) 0 0 x.code (raw_lines x) ≡ bad_at k) ↔ Lowest σ x k
lines_exactly σ x h k =
    let e = bad_exactly σ (length (raw_lines x)) (raw_reaches (raw_lines x)) x.code (raw_lines x) k in
    (λ q. lowest_to σ x h k (e.0 q), λ l. e.1 (lowest_from_lem σ x h k l))

module _ (b : List ℕ) (h : Bytes b) where
  section_bytes : (x : Sections) → Sectioned b x → Bytes x.signature × Bytes x.lines × Bytes x.code
  section_bytes x s = sections_bytes x (rw s.bytes at h)

  signed : (x : Sections) (σ : Signature) → Sectioned b x → (signature_of x.signature ≡ some σ) ↔ Signed x σ
  signed x σ s =
      let e = signature_exactly x.signature σ (section_bytes x s).0 in
      (λ q. let p = e.0 q in record { bytes = p.0; good = p.1 }, λ g. e.1 (g.bytes, g.good))

  none_if : {X : Type 0} (o : Option X) → ((x : X) → o ≡ some x → ⊥) → o ≡ none
  none_if none f = refl
  none_if (some x) f = absurd (f x refl)

  refused_means : (q k : ℕ) → open_of b ≡ not_opened q k → Refusal b q k
  unfolding open_of open_sections open_table
  refused_means q k e = outer (sections_of b) refl e
    where
      lines : (x : Sections) (σ : Signature) → Sectioned b x → Signed x σ → (r : Lined)
          → open_lines σ (length (raw_lines x)) (raw_reaches (raw_lines x)) 0 0 x.code (raw_lines x) ≡ r
          → tabled σ (raw_reaches (raw_lines x)) r ≡ not_opened q k → Refusal b q k
      lines x σ s g (lined ls) m f = absurd (let z : ◌≡◌ {A = ℕ} 0 1 = cc in omega arith)
      lines x σ s g (bad_at y) m f =
          let i : q ≡ 13 = cc in
          let j : k ≡ y = cc in
          line_refused i x s σ g ((lines_exactly σ x (section_bytes x s).2 k).0 (m ∙ ap bad_at (sym j)))

      inner : (x : Sections) → Sectioned b x → (o : Option Signature) → signature_of x.signature ≡ o
          → unless12 o (λ σ. open_table σ (raw_lines x) x.code) ≡ not_opened q k → Refusal b q k
      inner x s none m f =
          let i : q ≡ 12 = cc in
          let j : k ≡ 0 = cc in
          signature_refused i j x s (λ σ g. none_some σ (sym m ∙ (signed x σ s).1 g))
      inner x s (some σ) m f = lines x σ s ((signed x σ s).0 m) (open_lines σ (length (raw_lines x)) (raw_reaches (raw_lines x)) 0 0 x.code (raw_lines x)) refl f

      outer : (o : Option Sections) → sections_of b ≡ o → unless11 o open_sections ≡ not_opened q k → Refusal b q k
      outer none m f =
          let i : q ≡ 11 = cc in
          let j : k ≡ 0 = cc in
          sections_refused i j (λ x s. none_some x (sym m ∙ (sections_exactly b x h).1 s))
      outer (some x) m f = inner x ((sections_exactly b x h).0 m) (signature_of x.signature) refl f

  means_refused : (q k : ℕ) → Refusal b q k → open_of b ≡ not_opened q k
  unfolding open_of open_sections open_table
  means_refused q k (sections_refused i j f) = rw (none_if (sections_of b) (λ x e. f x ((sections_exactly b x h).0 e)), i, j)
  means_refused q k (signature_refused i j x s f) =
      rw ((sections_exactly b x h).1 s, none_if (signature_of x.signature) (λ σ e. f σ ((signed x σ s).0 e)), i, j)
  means_refused q k (line_refused i x s σ g l) =
      rw ((sections_exactly b x h).1 s, (signed x σ s).1 g, (lines_exactly σ x (section_bytes x s).2 k).1 l, i)

  -- Each refusal of an image exactly when its clause says so, at that place.
  pub refused_exactly : (q k : ℕ) → (open_of b ≡ not_opened q k) ↔ Refusal b q k
  refused_exactly q k = (refused_means q k, means_refused q k)
