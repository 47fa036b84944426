-- Classes of kinds: what holds of each kind in the list holds of every kind that is one of them; a class of successive kinds, computed. Assumes nothing.
use mathlib.Core.Path.{◌≡◌, refl, sym, subst}
use mathlib.Core.Bool.{Bool, true, false, not, ◌&&◌, ◌||◌}
use mathlib.Core.List.{List, [], ◌∷◌}
use Prim.Native.Nat.{ℕ, ◌+◌, ◌-◌, ◌≤◌, ◌<◌}
use native.Mathlib.Omega.{arith}
use lib.Dec.{eqb}
use borrow.Author.Tests.{eqb-true}
use Rattle.base_codes.specs.Token.{one_of}
use Rattle.base_codes.proofs.Finite.{all, first, rest, fails, holds}

-- P holds of each
abbrev pub All : (ℕ → Type 0) → List ℕ → Type 0
All P [] = Unit {0}
All P (x ∷ l) = P x × All P l

clash : {A : Type 0} → false ≡ true → A
clash e = absurd (let z : ◌≡◌ {A = ℕ} 0 1 = cc in omega arith)

-- THE LAW
pub each : (P : ℕ → Type 0) (l : List ℕ) → All P l → (k : ℕ) → one_of k l ≡ true → P k
unfolding one_of
each P [] a k e = clash e
each P (x ∷ l) a k e = go (eqb k x) refl (each P l a.1 k) e
  where
    go : (b : Bool) → eqb k x ≡ b → (one_of k l ≡ true → P k) → (b || one_of k l) ≡ true → P k
    go true h r e = subst P (sym (eqb-true k x h)) a.0
    go false h r e = r e

-- a class without the kind 0 has no kind of the end
pub some_kind : (l : List ℕ) → All (λ (x : ℕ). 0 < x) l → (k : ℕ) → one_of k l ≡ true → 0 < k
some_kind l a k e = each (λ (x : ℕ). 0 < x) l a k e

-- what is not true is false
pub not_one : (k : ℕ) (l : List ℕ) → (one_of k l ≡ true → ⊥) → one_of k l ≡ false
not_one k l f = go (one_of k l) f
  where
    go : (b : Bool) → (b ≡ true → ⊥) → b ≡ false
    go true f = absurd (f refl)
    go false f = refl

-- SUCCESSIVE KINDS

-- of the numbers that a byte holds the class has the n from j on, and no other
pub record Successive (l : List ℕ) (j n : ℕ) : Type 0 where
  pub inside : (k : ℕ) → j ≤ k → k < j + n → true ≡ one_of k l
  pub below : (k : ℕ) → k < j → false ≡ one_of k l
  pub above : (k : ℕ) → j + n ≤ k → k < 256 → false ≡ one_of k l

-- the test that is computed for a class
abbrev pub are_successive : List ℕ → ℕ → ℕ → Bool
are_successive l j n =
    all (λ (k : ℕ). one_of k l) j n && (all (λ (k : ℕ). not (one_of k l)) 0 j && all (λ (k : ℕ). not (one_of k l)) (j + n) (256 - (j + n)))

pub successive : (l : List ℕ) (j n : ℕ) → are_successive l j n ≡ true → Successive l j n
successive l j n e =
    record {
      inside = λ k h m. holds is n j (first (all is j n) _ e) k h m;
      below = λ k h. fails is j 0 (first (all other 0 j) _ others) k (omega arith) (omega arith);
      above = λ k h m. fails is (256 - (j + n)) (j + n) (rest (all other 0 j) _ others) k h (omega arith);
    }
  where
    is : ℕ → Bool
    is k = one_of k l

    other : ℕ → Bool
    other k = not (one_of k l)

    others : (all other 0 j && all other (j + n) (256 - (j + n))) ≡ true
    others = rest (all is j n) _ e
