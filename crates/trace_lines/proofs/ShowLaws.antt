-- The line of a row: by a cycle's answer, by its values, by its bytes. Assumes nothing.
use mathlib.Core.Path.{◌≡◌, refl, sym, ◌∙◌, ap, subst}
use mathlib.Core.Bool.{Bool, true, false, cond}
use Rattle.std.specs.Prelude.{Option, None, Some, Result, Ok, Err}
use mathlib.Core.List.{List, ◌∷◌}
use Prim.Native.Nat.{ℕ, zero, suc, ◌-◌, ◌≤◌, min}
use native.Mathlib.Omega.{arith}
use lib.IntN.{ℤ, pos}
use lib.Dec.{leb}
use lib.ListN.{length, take, drop, replicate}
use lib.Seq.{take_all}
use borrow.Author.Tests.{leb-true, leb-false}
use Rattle.base_answers.specs.Answers.{number_of, Told, cycle_told}
use Rattle.base_answers.specs.declared.State.{State}
use Rattle.base_answers.specs.declared.Refusal.{Refusal}
use Rattle.base_answers.specs.declared.Counts.{Counts}
use Rattle.spec_format.specs.Cycle.{cycle_of}
use Rattle.spec_semantics.specs.Calls.{Called}
use Rattle.spec_semantics.specs.Advances.{cycle_answer}
use Rattle.trace_lines.specs.Printing.{performed_line, refused_line}
use Rattle.trace_lines.specs.Reading.{short, reads_of, Reads}
use Rattle.trace_lines.specs.Stored.{Puts}
use Rattle.trace_lines.specs.Chunks.{line_of, shown, room, Shows}
use Rattle.trace_lines.proofs.Storing.{take_sets}

module _ (n : ℕ) (x : Result Counts Refusal) (place : ℕ) (row : List ℤ) (o u : List ℕ) (r : ℕ) where
  -- a line put for what x is, is put for x
  put_for : (y : Result Counts Refusal) → x ≡ y → Puts o 0 (line_of n (cycle_told y) place row) u r → Puts o 0 (line_of n (cycle_told x) place row) u r
  put_for y e p = subst (λ (z : Result Counts Refusal). Puts o 0 (line_of n (cycle_told z) place row) u r) (sym e) p

  pub show_performed : (c : Counts) → x ≡ Ok c → Puts o 0 (performed_line n place c.lines row) u r → Puts o 0 (line_of n (cycle_told x) place row) u r
  show_performed c e p = put_for (Ok c) e p

  pub show_refused : (k : Refusal) (q : ℕ) → x ≡ Err k → q ≡ number_of k → Puts o 0 (refused_line n q) u r
      → Puts o 0 (line_of n (cycle_told x) place row) u r
  show_refused k q e h p = put_for (Err k) e (subst (λ (m : ℕ). Puts o 0 (refused_line n m) u r) h p)

-- a call, shown
pub call_shown : (n : ℕ) (c : Called) (x : Told ℕ) (s : State) (row : List ℤ) (o u : List ℕ) (r : ℕ) → x ≡ cycle_answer c.answer → s ≡ c.state → row ≡ c.row
    → Puts o 0 (line_of n x s.place row) u r → (s ≡ c.state) × Puts o 0 (shown n c) u r
call_shown n c x s row o u r a b d p = (
  b,
  subst (λ (y : Told ℕ). Puts o 0 (line_of n y c.state.place c.row) u r) a
      (subst (λ (t : State). Puts o 0 (line_of n x t.place c.row) u r) b (subst (λ (v : List ℤ). Puts o 0 (line_of n x s.place v) u r) d p)),
)

-- the first of 16 values, as many as there are
pub first_values : (l : List ℤ) (k m : ℕ) → length l ≡ 16 → m ≡ min k 16 → take m l ≡ take k l
first_values l k m h e = go (leb k 16) refl
  where
    go : (q : Bool) → leb k 16 ≡ q → take m l ≡ take k l
    go true d = let y = leb-true k 16 d in let z : m ≡ k = omega arith in rw z
    go false d =
        let y = leb-false k 16 d in
        take_all m l (omega arith) ∙ sym (take_all k l (omega arith))

-- a part of zeros is as many zeros
pub some_zeros : (m k : ℕ) → m ≤ k → take m (replicate k (pos 0)) ≡ replicate m (pos 0)
some_zeros zero k h = refl
some_zeros (suc m) zero h = absurd (omega arith)
some_zeros (suc m) (suc k) h = ap (λ (l : List ℤ). pos 0 ∷ l) (some_zeros m k (omega arith))

-- a row of values, shown; the lent output row is of zeros
pub values_shown : (b : List ℕ) (s : State) (n : ℕ) (v row : List ℤ) (m : ℕ) (o : List ℕ) (t : State) (u : List ℕ) (r : ℕ) → m ≡ room b
    → row ≡ take (m - 0) (replicate 16 (pos 0))
    → (t ≡ (cycle_of b s v row).state) × Puts o 0 (shown n (cycle_of b s v row)) u r → Shows b s n (Some v) o t u r
values_shown b s n v row m o t u r h e p =
    let z : m - 0 ≡ room b = omega arith in
    let y : row ≡ replicate (room b) (pos 0) = e ∙ rw z (some_zeros (room b) 16 (omega arith)) in
    record {
      state = p.0 ∙ ap (λ (l : List ℤ). (cycle_of b s v l).state) y;
      line = subst (λ (l : List ℤ). Puts o 0 (shown n (cycle_of b s v l)) u r) y p.1;
    }

-- the values that a row was read to
module _ (y : Option (List ℤ)) (v : List ℤ) (r : Option ℕ) (w : List ℤ) where
  pub read_values : (k : ℕ) → length v ≡ 16 → Reads (short y) v r w → r ≡ Some k → short y ≡ Some (take k w)
  read_values k h g e = go y g.is
    where
      fits : (l : List ℤ) (q : Bool) → leb (length l) 16 ≡ q → reads_of (cond q (Some l) None) v r w → cond q (Some l) None ≡ Some (take k w)
      fits l true q p =
          let a = leb-true (length l) 16 q in
          let b : Some (length l) ≡ Some k = sym p.0 ∙ e in
          let m : length l ≡ k = cc in
          let d : take (length l) w ≡ l = ap (take (length l)) p.1 ∙ take_sets v l (omega arith) in
          ap Some (sym (rw m at d))
      fits l false q p = absurd (let z : None ≡ Some k = sym p ∙ e in let z' : ◌≡◌ {A = ℕ} 0 1 = cc in omega arith)

      go : (x : Option (List ℤ)) → reads_of (short x) v r w → short x ≡ Some (take k w)
      go None p = absurd (let z : None ≡ Some k = sym p ∙ e in let z' : ◌≡◌ {A = ℕ} 0 1 = cc in omega arith)
      go (Some l) p = fits l (leb (length l) 16) refl p

  pub read_nothing : Reads (short y) v r w → r ≡ None → short y ≡ None
  read_nothing g e = go (short y) g.is
    where
      go : (x : Option (List ℤ)) → reads_of x v r w → x ≡ None
      go None p = refl
      go (Some l) p = absurd (let z : None ≡ Some (length l) = sym e ∙ p.0 in let z' : ◌≡◌ {A = ℕ} 0 1 = cc in omega arith)

-- a row by its bytes
module _ (b : List ℕ) (s : State) (n : ℕ) (x : Option (List ℤ)) (o : List ℕ) (t : State) (u : List ℕ) (r : ℕ) where
  pub row_known : (v i : List ℤ) → x ≡ Some v → i ≡ v → Shows b s n (Some i) o t u r → Shows b s n x o t u r
  row_known v i e h p = subst (λ (y : Option (List ℤ)). Shows b s n y o t u r) (ap Some h ∙ sym e) p

  pub row_unknown : x ≡ None → t ≡ s → Puts o 0 (refused_line n 14) u r → Shows b s n x o t u r
  row_unknown e h p = subst (λ (y : Option (List ℤ)). Shows b s n y o t u r) (sym e) (record { state = h; line = p })
