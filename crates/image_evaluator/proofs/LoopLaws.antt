-- What a turn of the evaluator's loop keeps: the rest of the run answers what the whole answers. Assumes nothing.
use Prim.Native.Nat.{ℕ, zero, suc, ◌+◌, ◌-◌, ◌≤◌, ◌<◌}
use mathlib.Core.Path.{◌≡◌, refl, sym, ap, ◌∙◌}
use mathlib.Core.List.{List}
use native.Mathlib.Omega.{arith}
use borrow.Author.Tests.{lt-ltb, le-ltb, le-leb, lt-leb}
use lib.ListN.{length, get_or, take, drop}
use lib.IntN.{ℤ, pos}
use Rattle.std.specs.Prelude.{Result, Ok, Err}
use Rattle.base_codes.specs.declared.fault.Fault.{Fault}
use Rattle.base_codes.specs.Fault.{number_of}
use Rattle.image_evaluator.specs.declared.Found.{Found}
use Rattle.image_evaluator.specs.declared.Progress.{Progress}
use Rattle.spec_design.specs.Expression.{Out, fault}
use Rattle.spec_format.specs.Code.{Machine}
use Rattle.image_evaluator.specs.Position.{fetch_at, Next, go, stop, next_of, resume, finish, run_at}
use Rattle.image_evaluator.specs.Value.{Cell, code_value, part_value, found, evaluated_of}
use Rattle.image_evaluator.specs.Stack.{cells_of, Room, Says}
use Rattle.image_evaluator.proofs.StackLaws.{finish_one, finish_other}

-- the run by position, a turn at a time
run_on : (M : Machine Cell) (l : ℕ) (s : List ℕ) (k : ℕ) (st : List Cell) (n : Next Cell) → k < length s → n ≡ next_of M 64 (fetch_at s k) k st
    → run_at M 64 (suc l) s k st ≡ resume n (λ j u. run_at M 64 l s j u)
unfolding run_at
run_on M l s k st n h e = rw (lt-ltb k (length s) h) (ap (λ (x : Next Cell). resume x (λ j u. run_at M 64 l s j u)) (sym e))

run_spent : (M : Machine Cell) (s : List ℕ) (k : ℕ) (st : List Cell) → k < length s → run_at M 64 0 s k st ≡ fault 13
unfolding run_at
run_spent M s k st h = rw (lt-ltb k (length s) h)

run_end : (M : Machine Cell) (l : ℕ) (s : List ℕ) (k : ℕ) (st : List Cell) → length s ≤ k → run_at M 64 l s k st ≡ finish st
unfolding run_at
run_end M zero s k st h = rw (le-ltb k (length s) h)
run_end M (suc l) s k st h = rw (le-ltb k (length s) h)

module _ (M : Machine Cell) (s : List ℕ) where
  -- with n values in the arrays a and t, at the byte k, with l operations left: the rest answers what the whole answers
  pub record Left (a : List ℤ) (t : List ℕ) (n k l : ℕ) : Type 0 where
    pub room : Room a t n
    pub same : run_at M 64 l s k (cells_of a t n) ≡ code_value M s

  pub left_first : (a : List ℤ) (t : List ℕ) → Room a t 0 → Left a t 0 0 64
  unfolding code_value cells_of
  left_first a t h = record { room = h; same = refl }

  module _ (a : List ℤ) (t : List ℕ) (n k : ℕ) where
    again : (l : ℕ) (a' : List ℤ) (t' : List ℕ) (r : Result Progress Fault) (p' : Progress) → Left a t n k (suc l) → k < length s
        → Says a' t' r (next_of M 64 (fetch_at s k) k (cells_of a t n)) → r ≡ Ok p' → Left a' t' p'.depth p'.at l
    again l a' t' r p' p h q e =
        let w = rw e at q in
        record { room = w.room; same = sym (run_on M l s k (cells_of a t n) (go p'.at (cells_of a' t' p'.depth)) h w.says) ∙ p.same }

    -- an operation that goes on
    pub left_again : (l : ℕ) (a' : List ℤ) (t' : List ℕ) (r : Result Progress Fault) (p' : Progress) → Left a t n k l → (l ≡ 0 → ⊥) → k < length s
        → Says a' t' r (next_of M 64 (fetch_at s k) k (cells_of a t n)) → r ≡ Ok p' → Left a' t' p'.depth p'.at (l - 1)
    left_again zero a' t' r p' p z h q e = absurd (z refl)
    left_again (suc l) a' t' r p' p z h q e = let m : suc l - 1 ≡ l = omega arith in rw m (again l a' t' r p' p h q e)

    -- an operation that stops
    pub left_stop : (l : ℕ) (a' : List ℤ) (t' : List ℕ) (r : Result Progress Fault) (x : Fault) → Left a t n k l → (l ≡ 0 → ⊥) → k < length s
        → Says a' t' r (next_of M 64 (fetch_at s k) k (cells_of a t n)) → r ≡ Err x → fault (number_of x) ≡ evaluated_of (code_value M s)
    left_stop zero a' t' r x p z h q e = absurd (z refl)
    left_stop (suc l) a' t' r x p z h q e =
        let w = rw e at q in
        ap evaluated_of (sym (run_on M l s k (cells_of a t n) (stop (number_of x)) h w.says) ∙ p.same)

    -- no operation left, and bytes left
    pub left_spent : (l : ℕ) → Left a t n k l → l ≡ 0 → k < length s → fault 13 ≡ evaluated_of (code_value M s)
    left_spent l p z h = ap evaluated_of (sym (run_spent M s k (cells_of a t n) h) ∙ (rw z at p.same))

    -- no byte left: one value, or not
    pub left_one : (l : ℕ) → Left a t n k l → length s ≤ k → n ≡ 1
        → found (get_or t 0 0) (get_or a 0 (pos 0)) ≡ evaluated_of (code_value M s)
    left_one l p h e =
        ap (λ (k : ℕ). found k (get_or a 0 (pos 0))) (p.room.kinds 0 (omega arith))
        ∙ ap evaluated_of (sym (run_end M l s k (cells_of a t n) h ∙ finish_one a t n e) ∙ p.same)

    pub left_other : (l : ℕ) → Left a t n k l → length s ≤ k → (n ≡ 1 → ⊥) → fault 13 ≡ evaluated_of (code_value M s)
    left_other l p h e = ap evaluated_of (sym (run_end M l s k (cells_of a t n) h ∙ finish_other a t n e) ∙ p.same)

  -- the part of a line in the code section
  pub part_outside : (k n : ℕ) → length s < k + n → fault 13 ≡ evaluated_of (part_value M s k n)
  unfolding part_value
  part_outside k n h = rw (lt-leb (k + n) (length s) h)

  pub part_within : (k n : ℕ) {r : Out Found}
      → k + n ≤ length s → r ≡ evaluated_of (code_value M (take (k + n - k) (drop k s))) → r ≡ evaluated_of (part_value M s k n)
  unfolding part_value
  part_within k n h e = let m : k + n - k ≡ n = omega arith in rw (le-leb (k + n) (length s) h) (rw m at e)
