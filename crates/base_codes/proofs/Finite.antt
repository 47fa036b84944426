-- A test that holds of every number in a stretch, computed once: the law of a table by number needs no case for each of its rows. Assumes nothing.
use mathlib.Core.Path.{◌≡◌, refl, sym, ◌∙◌, ap}
use mathlib.Core.Bool.{Bool, true, false, not, ◌&&◌, ◌||◌}
use Prim.Native.Nat.{ℕ, zero, suc, ◌+◌, ◌≤◌, ◌<◌}
use native.Mathlib.Omega.{arith}
use native.Mathlib.Decide.{dec_le}
use lib.Dec.{eqb}
use borrow.Author.Tests.{eqb-true}

-- the test holds of the n numbers from j on
unfoldable pub all : (ℕ → Bool) → ℕ → ℕ → Bool
all f j zero = true
all f j (suc n) = f j && all f (suc j) n

pub first : (a b : Bool) → (a && b) ≡ true → a ≡ true
first true b e = refl
first false b e = e

pub rest : (a b : Bool) → (a && b) ≡ true → b ≡ true
rest true b e = e
rest false true e = refl
rest false false e = e

-- so it holds of each
pub within : (f : ℕ → Bool) (n j : ℕ) → all f j n ≡ true → (k : ℕ) → j ≤ k → k < j + n → f k ≡ true
unfolding all
within f zero j e k h l = absurd (omega arith)
within f (suc n) j e k h l = go (dec_le (suc j) k) (λ m. within f n (suc j) (rest (f j) (all f (suc j) n) e) k m (omega arith))
  where
    go : Dec (suc j ≤ k) → (suc j ≤ k → f k ≡ true) → f k ≡ true
    go (yes m) r = r m
    go (no m) r = let z : k ≡ j = omega arith in ap f z ∙ first (f j) (all f (suc j) n) e

-- a table that answers one number on a stretch
pub answers : (g : ℕ → ℕ) (v n j : ℕ) → all (λ (k : ℕ). eqb (g k) v) j n ≡ true → (k : ℕ) → j ≤ k → k < j + n → v ≡ g k
answers g v n j e k h l = sym (eqb-true (g k) v (within (λ (k : ℕ). eqb (g k) v) n j e k h l))

-- the same, but for the numbers that a test leaves out
pub answers_but : (out : ℕ → Bool) (g : ℕ → ℕ) (v n j : ℕ) → all (λ (k : ℕ). out k || eqb (g k) v) j n ≡ true → (k : ℕ) → j ≤ k → k < j + n
    → out k ≡ false → v ≡ g k
answers_but out g v n j e k h l o = sym (eqb-true (g k) v (rw o at (within (λ (k : ℕ). out k || eqb (g k) v) n j e k h l)))

-- a test that fails on a stretch
pub fails : (g : ℕ → Bool) (n j : ℕ) → all (λ (k : ℕ). not (g k)) j n ≡ true → (k : ℕ) → j ≤ k → k < j + n → false ≡ g k
fails g n j e k h l = none (g k) (within (λ (k : ℕ). not (g k)) n j e k h l)
  where
    none : (b : Bool) → not b ≡ true → false ≡ b
    none true q = q
    none false q = refl

-- a test that holds on a stretch
pub holds : (g : ℕ → Bool) (n j : ℕ) → all g j n ≡ true → (k : ℕ) → j ≤ k → k < j + n → true ≡ g k
holds g n j e k h l = sym (within g n j e k h l)
