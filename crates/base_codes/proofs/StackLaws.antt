-- A stack in an array: how many it holds, an element written above it, an element pushed. By induction on the depth. Assumes nothing.
use mathlib.Core.Path.{◌≡◌, refl, ap}
use mathlib.Core.List.{List, ◌∷◌}
use Prim.Native.Nat.{ℕ, zero, suc, ◌+◌, ◌≤◌, ◌<◌}
use native.Mathlib.Numerals.{add-one}
use native.Mathlib.Omega.{arith}
use lib.ListN.{length, set}
use lib.Seq.{get_or-set_same, get_or-set_other}
use Rattle.base_codes.specs.Stack.{stack_of}

pub stack_length : {A : Type 0} (d : A) (a : List A) (n : ℕ) → length (stack_of d a n) ≡ n
unfolding stack_of
stack_length d a zero = refl
stack_length d a (suc n) = ap suc (stack_length d a n)

-- what is written above leaves the elements below
pub stack_above : {A : Type 0} (d : A) (a : List A) (n : ℕ) (v : A) (m : ℕ) → m ≤ n → stack_of d (set a n v) m ≡ stack_of d a m
unfolding stack_of
stack_above d a n v zero h = refl
stack_above d a n v (suc m) h = rw (get_or-set_other a n m v d (λ q. omega arith), stack_above d a n v m (omega arith))

pub stack_push : {A : Type 0} (d : A) (a : List A) (n : ℕ) (v : A) → n < length a → stack_of d (set a n v) (n + 1) ≡ v ∷ stack_of d a n
unfolding stack_of
stack_push d a n v h = rw (add-one, stack_above d a n v n (omega arith), get_or-set_same a n v d h)
