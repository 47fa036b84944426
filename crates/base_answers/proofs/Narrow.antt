-- Answers whose place and count have 32 bits; and that the three numbers of a refusal tell it. Assumes nothing.
use mathlib.Core.Path.{◌≡◌, subst}
use mathlib.Core.List.{List}
use Prim.Native.Nat.{ℕ, ◌≤◌}
use native.Mathlib.Omega.{arith}
use Rattle.base_answers.specs.declared.Refusal.{Refusal}
use Rattle.base_answers.specs.Answers.{number_of, place_of, done, refusal, refused_by}
use Rattle.base_answers.specs.Numbers.{numbers_of, Narrow}
use Rattle.base_answers.proofs.Refusals.{one_refusal}

-- what is known of an answer is known of one that equals it
pub narrowed : {X : Type 0} (f : X → List ℕ) {x y : X} → x ≡ y → Narrow (f x) → Narrow (f y)
narrowed f e h = subst (λ a. Narrow (f a)) e h

-- a place, and a count
pub refused_narrow : (q k : ℕ) → k ≤ 65535 → Narrow (numbers_of (refusal q k))
refused_narrow q k h = record { place = omega arith; count = omega arith }

pub done_narrow : (n : ℕ) → n ≤ 65535 → Narrow (numbers_of (done n))
done_narrow n h = record { place = omega arith; count = omega arith }

-- a refusal is told in full: number and place stand among its three numbers
pub numbers_tell : (r s : Refusal) → numbers_of (refused_by r) ≡ numbers_of (refused_by s) → r ≡ s
numbers_tell r s e = let a : number_of r ≡ number_of s = cc in let b : place_of r ≡ place_of s = cc in one_refusal r s a b
