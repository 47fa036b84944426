-- Rows of a well-formed process: which call meets 14, what a performed row is, and the invariant: a place of the body, with values of
-- the declared types. By cases on the outcome, over the facts about cycles. Assumes nothing.
use Prim.Native.Nat.{ℕ, zero, suc, ◌+◌, ◌<◌}
use native.Mathlib.Omega.{arith}
use native.Mathlib.Decide.{dec_lt}
use mathlib.Core.Path.{◌≡◌, refl, sym, ap, ◌∙◌}
use mathlib.Core.Logic.{inl, inr, ◌↔◌}
use mathlib.Core.Bool.{Bool, true, false, cond, ◌&&◌}
use mathlib.Core.Option.{Option, none, some}
use mathlib.Core.List.{List, [], ◌∷◌}
use lib.ListN.{length}
use lib.IntN.{ℤ}
use lib.Dec.{eqb}
use Rattle.spec_design.specs.Types.{Ty, in_type}
use Rattle.spec_design.specs.Expression.{nth}
use Rattle.spec_design.specs.Process.{Source, Process, source_types, WellFormed}
use Rattle.spec_semantics.specs.Equations.{Result, cycle}
use Rattle.spec_semantics.specs.Rows.{Call, Kept, kept_at_first, wrong_value, row_refusal, concluded, judged, row, rows_from, rows}
use Rattle.spec_semantics.specs.Values.{Values}
use Rattle.spec_semantics.specs.Way.{Ended, at_wait, at_operator}
use Rattle.spec_semantics.specs.InputRow.{Fitting, Wrong, Meets14}
use Rattle.spec_semantics.specs.Answer.{fresh, Answers, by_14, by_operator, performs, Placed, Invariant, AllAnswer}
use Rattle.spec_semantics.proofs.Basic.{false_true, none_some, some_injective, eqb-true, eqb_same, and_left, and_right}
use Rattle.spec_semantics.proofs.Way.{cycle_way}
use Rattle.spec_semantics.proofs.Ends.{cycle_ends}
use Rattle.spec_semantics.proofs.Refusal.{refusal_exactly}
use Rattle.spec_semantics.proofs.WellTyped.{initials_values, cycle_well_typed}

-- Refusal 14.

-- the value at hand is wrong, or the wrong values are those after it
wrong_head : (t : Ty) (ts : List Ty) (z : ℤ) (l : List ℤ) → in_type t z ≡ false → Wrong (t ∷ ts) (z ∷ l) 0
unfolding Wrong nth
wrong_head t ts z l e = (t, z, refl, refl, e)

not_wrong_head : (t : Ty) (ts : List Ty) (z : ℤ) (l : List ℤ) → in_type t z ≡ true → Wrong (t ∷ ts) (z ∷ l) 0 → ⊥
unfolding Wrong nth
not_wrong_head t ts z l e (t', z', p, q, h) = false_true (sym h ∙ rw (← some_injective t t' p, ← some_injective z z' q) e)

wrong_tail : (t : Ty) (ts : List Ty) (z : ℤ) (l : List ℤ) (x : ℕ) → Wrong ts l x → Wrong (t ∷ ts) (z ∷ l) (suc x)
unfolding Wrong nth
wrong_tail t ts z l x h = h

wrong_back : (t : Ty) (ts : List Ty) (z : ℤ) (l : List ℤ) (x : ℕ) → Wrong (t ∷ ts) (z ∷ l) (suc x) → Wrong ts l x
unfolding Wrong nth
wrong_back t ts z l x h = h

-- the lowest wrong index
abbrev Lowest : List Ty → List ℤ → ℕ → Type 0
Lowest ts l x = Wrong ts l x × ((y : ℕ) → y < x → Wrong ts l y → ⊥)

-- what is found, counted from k on, is the lowest wrong index; where nothing is found, all values are of their types
Found : List Ty → List ℤ → ℕ → Option ℕ → Type 0
Found ts l k none = length l ≡ length ts → Values ts l
Found ts l k (some x) = (j : ℕ) × (x ≡ k + j) × Lowest ts l j

wrong_found : (ts : List Ty) (l : List ℤ) (k : ℕ) → Found ts l k (wrong_value ts l k)
unfolding Found wrong_value Values
wrong_found [] [] k = λ e. tt
wrong_found [] (z ∷ l) k = λ e. absurd (omega arith)
wrong_found (t ∷ ts) [] k = λ e. absurd (omega arith)
wrong_found (t ∷ ts) (z ∷ l) k = go (in_type t z) refl (wrong_value ts l (suc k)) (wrong_found ts l (suc k))
  where
    go : (b : Bool) → in_type t z ≡ b → (o : Option ℕ) → Found ts l (suc k) o → Found (t ∷ ts) (z ∷ l) k (cond b o (some k))
    go false e o h = (0, omega arith, (wrong_head t ts z l e, λ y lt w. absurd (omega arith)))
    go true e none h = λ q. (e, h (omega arith))
    go true e (some x) h = (suc h.0, omega (arith, h.1), (wrong_tail t ts z l h.0 h.2.0, lower))
      where
        lower : (y : ℕ) → y < suc h.0 → Wrong (t ∷ ts) (z ∷ l) y → ⊥
        lower zero lt w = not_wrong_head t ts z l e w
        lower (suc y) lt w = h.2.1 y (omega arith) (wrong_back t ts z l y w)

values_right : (ts : List Ty) (l : List ℤ) (x : ℕ) → Values ts l → Wrong ts l x → ⊥
unfolding Values Wrong nth
values_right [] l x h (t, z, p, q, e) = none_some t p
values_right (t ∷ ts) [] x h w = h
values_right (t ∷ ts) (z ∷ l) zero h w = not_wrong_head t ts z l h.0 w
values_right (t ∷ ts) (z ∷ l) (suc x) h w = values_right ts l x h.1 (wrong_back t ts z l x w)

lowest_once : (ts : List Ty) (l : List ℤ) (x y : ℕ) → Lowest ts l x → Lowest ts l y → x ≡ y
lowest_once ts l x y h g = go (dec_lt x y) (dec_lt y x)
  where
    go : Dec (x < y) → Dec (y < x) → x ≡ y
    go (yes p) q = absurd (g.1 x p h.0)
    go (no p) (yes q) = absurd (h.1 y q g.0)
    go (no p) (no q) = omega arith

-- both lengths, as a test and as a statement
fitting_true : (p : Process) (c : Call) → (eqb (length c.inputs) (length p.inputs) && eqb c.room (length p.outputs)) ≡ true → Fitting p c
unfolding Fitting
fitting_true p c e = (
  eqb-true _ _ (and_left (eqb (length c.inputs) (length p.inputs)) _ e),
  eqb-true _ _
      (and_right (eqb (length c.inputs) (length p.inputs)) _ e),
)

true_fitting : (p : Process) (c : Call) → Fitting p c → (eqb (length c.inputs) (length p.inputs) && eqb c.room (length p.outputs)) ≡ true
unfolding Fitting
true_fitting p c h = rw (h.0, h.1, eqb_same (length p.inputs), eqb_same (length p.outputs))

types_length : (l : List Source) → length (source_types l) ≡ length l
types_length [] = refl
types_length (s ∷ l) = ap suc (types_length l)

module _ (p : Process) (c : Call) where
  abbrev Judged : Option ℕ → Type 0
  Judged none = Fitting p c × Values (source_types p.inputs) c.inputs
  Judged (some x) = Meets14 p c x

  judged_right : Judged (row_refusal p c)
  unfolding row_refusal Meets14 Found Fitting
  judged_right = go (eqb (length c.inputs) (length p.inputs) && eqb c.room (length p.outputs)) refl
    where
      found : Fitting p c → (o : Option ℕ) → Found (source_types p.inputs) c.inputs 0 o → Judged o
      found f none h = (f, h (f.0 ∙ sym (types_length p.inputs)))
      found f (some x) h = let e : x ≡ h.0 = omega (arith, h.1) in rw e (inr (f, h.2.0, h.2.1))

      go : (b : Bool) → (eqb (length c.inputs) (length p.inputs) && eqb c.room (length p.outputs)) ≡ b
          → Judged (cond b (wrong_value (source_types p.inputs) c.inputs 0) (some 0))
      go true e = found (fitting_true p c e) (wrong_value (source_types p.inputs) c.inputs 0) (wrong_found (source_types p.inputs) c.inputs 0)
      go false e = inl (λ f. false_true (sym e ∙ true_fitting p c f), refl)

  -- A call meets 14 exactly where document 01 says so, at that place.
  pub meets_14_exactly : (x : ℕ) → (row_refusal p c ≡ some x) ↔ Meets14 p c x
  unfolding Meets14
  meets_14_exactly x = (λ e. rw e at judged_right, back (row_refusal p c) judged_right)
    where
      back : (o : Option ℕ) → Judged o → Meets14 p c x → o ≡ some x
      back none j (inl h) = absurd (h.0 j.0)
      back none j (inr h) = absurd (values_right _ _ x j.1 h.1)
      back (some y) (inl j) (inl h) = ap some (j.1 ∙ sym h.1)
      back (some y) (inl j) (inr h) = absurd (j.0 h.0)
      back (some y) (inr j) (inl h) = absurd (h.0 j.0)
      back (some y) (inr j) (inr h) = ap some (lowest_once _ _ y x (j.1, j.2) (h.1, h.2))

  -- Otherwise the row has the declared length and values of the declared types.
  pub meets_none : row_refusal p c ≡ none → Fitting p c × Values (source_types p.inputs) c.inputs
  meets_none e = rw e at judged_right

-- What is kept.

pub first_invariant : (p : Process) → WellFormed p → Invariant p (kept_at_first p)
unfolding kept_at_first Placed
first_invariant p g =
    record {
      place = tt;
      well_typed = record {
        outputs = initials_values p.outputs g.initial_outputs;
        variables = initials_values p.variables
            g.initial_variables;
      };
    }

module _ (p : Process) (g : WellFormed p) (k : Kept) (c : Call) where
  abbrev result : Result
  result = cycle p.body k.place c.inputs (fresh k.memory)

  -- Every row is answered in one of the three ways, and exactly as `Answers` says.
  pub row_answers_lem : Answers p k c (row p k c)
  unfolding row judged concluded
  row_answers_lem = go (row_refusal p c) refl
    where
      not_14 : row_refusal p c ≡ none → (x : ℕ) → Meets14 p c x → ⊥
      not_14 e x h = none_some x (sym e ∙ (meets_14_exactly p c x).1 h)

      at_end_lem : row_refusal p c ≡ none → (r : Result) → Ended p.body r → result ≡ r → Answers p k c (concluded r k)
      at_end_lem e r (at_wait x τ h) q = performs x τ (not_14 e) q (cycle_way p.body g.loops g.class k.place c.inputs (fresh k.memory) τ x refl q)
      at_end_lem e r (at_operator m n) q = by_operator m n (not_14 e) ((refusal_exactly c.inputs m p.body k.place (fresh k.memory) n).0 q)

      go : (o : Option ℕ) → row_refusal p c ≡ o → Answers p k c (judged o p k c)
      go none e = at_end_lem e result (cycle_ends p.body g.class k.place c.inputs (fresh k.memory)) refl
      go (some x) e = by_14 x ((meets_14_exactly p c x).0 e)

  -- A row keeps the invariant.
  pub row_invariant : Invariant p k → Invariant p (row p k c).1
  unfolding row judged concluded Placed
  row_invariant s = go (row_refusal p c) refl
    where
      at_end_lem : row_refusal p c ≡ none → (r : Result) → Ended p.body r → result ≡ r → Invariant p (concluded r k).1
      at_end_lem e r (at_wait x τ h) q =
          record {
            place = h;
            well_typed = cycle_well_typed p c.inputs (meets_none p c e).1 g.typed k.place (fresh k.memory) τ x
                s.well_typed q;
          }
      at_end_lem e r (at_operator m n) q = s

      go : (o : Option ℕ) → row_refusal p c ≡ o → Invariant p (judged o p k c).1
      go none e = at_end_lem e result (cycle_ends p.body g.class k.place c.inputs (fresh k.memory)) refl
      go (some x) e = s

from_answer : (p : Process) (g : WellFormed p) (k : Kept) → Invariant p k → (cs : List Call) → AllAnswer p k cs (rows_from p k cs)
unfolding AllAnswer rows_from
from_answer p g k s [] = tt
from_answer p g k s (c ∷ cs) = (row_answers_lem p g k c, row_invariant p g k c s, from_answer p g (row p k c).1 (row_invariant p g k c s) cs)

-- Every call of any list is answered as `Answers` says, and the invariant holds of what is kept.
pub rows_answer : (p : Process) → WellFormed p → (cs : List Call) → AllAnswer p (kept_at_first p) cs (rows p cs)
unfolding rows
rows_answer p g cs = from_answer p g (kept_at_first p) (first_invariant p g) cs
