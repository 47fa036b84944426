-- Rows run in a loop come to what all of them come to: at every turn, what was told so far and what the rest from here comes to is what the whole comes to.
-- Assumes nothing.
use mathlib.Core.Path.{◌≡◌, refl, sym, ap, subst, ◌∙◌}
use mathlib.Core.Bool.{Bool, true, false}
use mathlib.Core.List.{List, [], ◌∷◌}
use Prim.Native.Nat.{ℕ, zero, suc, ◌+◌, ◌-◌, ◌≤◌, ◌<◌, min}
use native.Mathlib.Omega.{arith}
use lib.ListN.{length, take, drop, length-drop}
use lib.Seq.{drop-drop}
use lib.IntN.{ℤ}
use lib.Dec.{leb}
use borrow.Author.Tests.{leb-true, leb-false, le-leb, lt-leb}
use Rattle.std.specs.Prelude.{Result}
use Rattle.base_answers.specs.declared.Counts.{Counts}
use Rattle.base_answers.specs.declared.Refusal.{Refusal}
use Rattle.base_answers.specs.declared.State.{State}
use Rattle.base_answers.specs.Answers.{lines_of, cycle_told, count_of}
use Rattle.spec_semantics.specs.Calls.{Called, turned_back}
use Rattle.spec_semantics.specs.Advances.{cycle_answer}
use Rattle.spec_format.specs.Opening.{not_opened, open_of}
use Rattle.spec_format.specs.Cycle.{cycle_of}
use Rattle.image_runtime.specs.Calls.{way_of}
use Rattle.image_runtime.proofs.Whole.{count_way}
use Rattle.test_bench.specs.Rows.{Cycle, rows_of, called_on, lines_in, row_after, told, Runs, Adds}
use Rattle.test_bench.specs.declared.Progress.{Progress}

-- a number that is told as it is, and one that is not
pub told_low : (n : ℕ) → n ≤ 18446744073709551615 → told n ≡ n
unfolding told
told_low n h = rw (le-leb n 18446744073709551615 h)

pub told_high : (n : ℕ) → 18446744073709551615 < n → told n ≡ 18446744073709551615
unfolding told
told_high n h = rw (lt-leb n 18446744073709551615 h)

-- by whether the number is at most the largest
told_cases : (P : ℕ → Type 0) (n : ℕ) → (n ≤ 18446744073709551615 → P n) → (18446744073709551615 < n → P 18446744073709551615) → P (told n)
told_cases P n low high = go (leb n 18446744073709551615) refl
  where
    go : (b : Bool) → leb n 18446744073709551615 ≡ b → P (told n)
    go true e = let h = leb-true n 18446744073709551615 e in rw (told_low n h) (low h)
    go false e = let h = leb-false n 18446744073709551615 e in rw (told_high n h) (high h)

pub told_small : (n : ℕ) → told n ≤ 18446744073709551615
told_small n = told_cases (λ k. k ≤ 18446744073709551615) n (λ h. h) (λ h. omega arith)

-- numbers told one after another are told as their sum
pub told_sum : (a b : ℕ) → told (told a + b) ≡ told (a + b)
told_sum a b = told_cases (λ k. told (k + b) ≡ told (a + b)) a (λ h. refl) above
  where
    above : 18446744073709551615 < a → told (18446744073709551615 + b) ≡ told (a + b)
    above h = go (leb b 0) refl
      where
        go : (t : Bool) → leb b 0 ≡ t → told (18446744073709551615 + b) ≡ told (a + b)
        go true e =
            let z : b ≡ 0 = omega (arith, leb-true b 0 e) in
            rw z (told_low 18446744073709551615 (omega arith) ∙ sym (told_high (a + 0) (omega arith)))
        go false e = told_high _ (omega (arith, leb-false b 0 e)) ∙ sym (told_high (a + b) (omega arith))

-- a sum that stops at the largest number
pub told_min : (n : ℕ) → min n 18446744073709551615 ≡ told n
told_min n = told_cases (λ k. min n 18446744073709551615 ≡ k) n (λ h. omega arith) (λ h. omega arith)

module _ (f : Cycle) (l : List ℤ) (w : ℕ) (s₀ : State) (n₀ : ℕ) (o₀ : List ℤ) where
  -- what the row at `from` and those behind it come to, at most `left` of them, from a state and an output row
  abbrev pub rest_of : ℕ → ℕ → State → List ℤ → List Called
  rest_of from left s o = called_on f s o (rows_of left w (drop from l))

  -- the invariant of a loop over the rows
  pub record Rest (from left : ℕ) (p : Progress) (o : List ℤ) : Type 0 where
    pub within : from ≤ length l
    pub small : p.lines ≤ 18446744073709551615
    pub lines : told (p.lines + lines_in (rest_of from left p.state o)) ≡ told (lines_in (called_on f s₀ o₀ (rows_of n₀ w l)))
    pub row : row_after o (rest_of from left p.state o) ≡ row_after o₀ (called_on f s₀ o₀ (rows_of n₀ w l))

  -- before the first row
  pub rest_first : Rest 0 (n₀ - 0) (record { lines = 0; state = s₀ }) o₀
  rest_first =
      let all : n₀ - 0 ≡ n₀ = omega arith in
      rw all (record { within = omega arith; small = omega arith; lines = ap told (omega arith); row = refl })

  -- a row that fits is the first of the rest
  rows_there : (from m : ℕ) → w ≤ length l - from → rows_of (suc m) w (drop from l) ≡ take w (drop from l) ∷ rows_of m w (drop (from + w) l)
  unfolding rows_of
  rows_there from m h =
      let e : leb w (length (drop from l)) ≡ true = rw length-drop (le-leb w (length l - from) h) in
      rw (e, drop-drop w from l)

  -- the call of the row at `from`
  abbrev pub call_at : ℕ → State → List ℤ → Called
  call_at from s o = f s (take w (drop from l)) o

  -- what the rest comes to is what its first row comes to and what the rest behind it comes to
  rest_lines : (from m : ℕ) (s : State) (o : List ℤ) → w ≤ length l - from
      → lines_in (rest_of from (suc m) s o) ≡ length (way_of (call_at from s o).answer) + lines_in
      (rest_of (from + w) m (call_at from s o).state (call_at from s o).row)
  unfolding called_on lines_in
  rest_lines from m s o h = rw (rows_there from m h)

  rest_row : (from m : ℕ) (s : State) (o : List ℤ) → w ≤ length l - from
      → row_after o (rest_of from (suc m) s o) ≡ row_after (call_at from s o).row (rest_of (from + w) m (call_at from s o).state (call_at from s o).row)
  unfolding called_on row_after
  rest_row from m s o h = rw (rows_there from m h)

  -- after a row
  pub rest_again : (from i : ℕ) (p q : Progress) (o u : List ℤ) → i < n₀ → w ≤ length l - from → Rest from (n₀ - i) p o
      → Adds (call_at from p.state o) p.lines q u → Rest (from + w) (n₀ - (i + 1)) q u
  rest_again from i p q o u t room h a =
      let m = n₀ - (i + 1) in
      let n = length (way_of (call_at from p.state o).answer) in
      let x = lines_in (rest_of (from + w) m (call_at from p.state o).state (call_at from p.state o).row) in
      let sum : p.lines + n + x ≡ p.lines + (n + x) = omega arith in
      let left : n₀ - i ≡ suc m = omega arith in
      let g : Rest from (suc m) p o = rw left at h in
      record {
        within = omega (arith, h.within);
        small = subst (λ k. k ≤ 18446744073709551615) (sym a.lines) (told_small (p.lines + n));
        lines = rw (a.lines, a.state, a.row) (told_sum (p.lines + n) x ∙ ap told (sum ∙ ap (λ k. p.lines + k) (sym (rest_lines from m p.state o room)))
            ∙ g.lines);
        row = rw (a.state, a.row) (sym (rest_row from m p.state o room) ∙ g.row);
      }

  -- no row is left: the values that are left fill none, or so many were run
  rows_short : (from left : ℕ) → length l - from < w → rows_of left w (drop from l) ≡ []
  unfolding rows_of
  rows_short from zero t = refl
  rows_short from (suc m) t =
      let e : leb w (length (drop from l)) ≡ false = rw length-drop (lt-leb w (length l - from) t) in
      rw e

  rows_run : (from left : ℕ) → left ≡ 0 → rows_of left w (drop from l) ≡ []
  unfolding rows_of
  rows_run from zero t = refl
  rows_run from (suc m) t = absurd (omega arith)

  rest_end : (from left : ℕ) (p : Progress) (o : List ℤ) → rows_of left w (drop from l) ≡ [] → Rest from left p o → Runs f s₀ l w n₀ o₀ p.lines o
  unfolding called_on lines_in row_after
  rest_end from left p o e h =
      let sum : p.lines + 0 ≡ p.lines = omega arith in
      record {
        lines = sym (told_low p.lines h.small) ∙ ap told (sym sum) ∙ (rw e at h.lines);
        row = rw e at h.row;
      }

  pub rest_short : (from left : ℕ) (p : Progress) (o : List ℤ) → length l - from < w → Rest from left p o → Runs f s₀ l w n₀ o₀ p.lines o
  rest_short from left p o t h = rest_end from left p o (rows_short from left t) h

  pub rest_run : (from i : ℕ) (p : Progress) (o : List ℤ) → n₀ ≤ i → Rest from (n₀ - i) p o → Runs f s₀ l w n₀ o₀ p.lines o
  rest_run from i p o t h = rest_end from (n₀ - i) p o (rows_run from (n₀ - i) (omega arith)) h

-- The lines of one call.

-- the call of the part from .. from + w, whose lines n are put to those before it
pub adds : (f : Cycle) (s : State) (l : List ℤ) (from w : ℕ) (o : List ℤ)
    → {before n k : ℕ} (a : Result Counts Refusal) {t : State} {u : List ℤ} → n ≡ lines_of a → cycle_told a ≡ cycle_answer (f s (take (from + w - from) (drop from l)) o).answer
    → k ≡ told (before + n)
    → t ≡ (f s (take (from + w - from) (drop from l)) o).state → u ≡ (f s (take (from + w - from) (drop from l)) o).row
    → Adds (f s (take w (drop from l)) o) before (record { lines = k; state = t }) u
adds f s l from w o {before} {n} {k} a {t} {u} e g h i j =
    let z : from + w - from ≡ w = omega arith in
    subst (λ (m : ℕ). Adds (f s (take m (drop from l)) o) before (record { lines = k; state = t }) u) z
    (record {
      lines = h ∙ ap (λ (x : ℕ). told (before + x))
          (e ∙ ap count_of g ∙ count_way (f s (take (from + w - from) (drop from l)) o).answer);
      state = i;
      row = j;
    })

-- rows from a state that is another one's name
pub runs_from : {f : Cycle} {s t : State} {l : List ℤ} {w n : ℕ} {o : List ℤ} {k : ℕ} {u : List ℤ} → s ≡ t → Runs f s l w n o k u → Runs f t l w n o k u
runs_from {f} {s} {t} {l} {w} {n} {o} {k} {u} e r = subst (λ (x : State). Runs f x l w n o k u) e r

-- An image that is refused: every row is refused, so that no line is performed and the output row is as it came.

module _ (b : List ℕ) (q k : ℕ) (closed : open_of b ≡ not_opened q k) where
  refused : (s : State) (i o : List ℤ) → cycle_of b s i o ≡ turned_back q k s o
  unfolding cycle_of
  refused s i o = rw closed

  no_lines : (s : State) (o : List ℤ) (is : List (List ℤ)) → lines_in (called_on (cycle_of b) s o is) ≡ 0
  unfolding called_on lines_in
  no_lines s o [] = refl
  no_lines s o (i ∷ is) = rw (refused s i o) (rw (no_lines s o is))

  same_row : (s : State) (o : List ℤ) (is : List (List ℤ)) → row_after o (called_on (cycle_of b) s o is) ≡ o
  unfolding called_on row_after
  same_row s o [] = refl
  same_row s o (i ∷ is) = rw (refused s i o) (same_row s o is)

  pub closed_runs : (s : State) (l : List ℤ) (w n : ℕ) (o : List ℤ) → Runs (cycle_of b) s l w n o 0 o
  closed_runs s l w n o =
      record { lines = sym (ap told (no_lines s o (rows_of n w l)) ∙ told_low 0 (omega arith)); row = sym (same_row s o (rows_of n w l)) }
