-- Tables: a test of every entry, computed over the whole table and carried to each entry; and a table that is the values of a function, one after the other.
-- Assumes nothing.
use mathlib.Core.Path.{◌≡◌, ◌∙◌, ap}
use mathlib.Core.Bool.{Bool, true, ◌&&◌}
use mathlib.Core.List.{List, [], ◌∷◌}
use Prim.Native.Nat.{ℕ, zero, suc, ◌+◌, ◌<◌}
use native.Mathlib.Omega.{arith}
use lib.ListN.{length, get_or}
use Rattle.spec_language.proofs.Facts.{and_true_both}

-- the test holds of each entry and its index, the first index being i
unfoldable pub every : {A : Type 0} → (ℕ → A → Bool) → ℕ → List A → Bool
every test i [] = true
every test i (x ∷ l) = test i x && every test (suc i) l

from : {A : Type 0} (test : ℕ → A → Bool) (d : A) (i : ℕ) (l : List A) → every test i l ≡ true → (k : ℕ) → k < length l → test (i + k) (get_or l k d) ≡ true
unfolding every
from test d i [] e k h = absurd (omega arith)
from test d i (x ∷ l) e zero h = let n : i + 0 ≡ i = omega arith in rw n (and_true_both (test i x) (every test (suc i) l) e).0
from test d i (x ∷ l) e (suc k) h =
    let n : i + suc k ≡ suc i + k = omega arith in
    rw n (from test d (suc i) l (and_true_both (test i x) (every test (suc i) l) e).1 k (omega arith))

-- THE LAW: what was computed over the table holds of each of its entries, read with any number past the end
pub entry : {A : Type 0} (test : ℕ → A → Bool) (d : A) (l : List A) → every test 0 l ≡ true → (k : ℕ) → k < length l → test k (get_or l k d) ≡ true
entry test d l e k h = let n : k ≡ 0 + k = omega arith in ap (λ (m : ℕ). test m (get_or l k d)) n ∙ from test d 0 l e k h

-- the values at n indices from i on
unfoldable pub values : {A : Type 0} → (ℕ → A) → ℕ → ℕ → List A
values f i zero = []
values f i (suc n) = f i ∷ values f (suc i) n

value_from : {A : Type 0} (f : ℕ → A) (i n k : ℕ) (d : A) → k < n → get_or (values f i n) k d ≡ f (i + k)
unfolding values
value_from f i zero k d h = absurd (omega arith)
value_from f i (suc n) zero d h = ap f (omega arith)
value_from f i (suc n) (suc k) d h = value_from f (suc i) n k d (omega arith) ∙ ap f (omega arith)

-- THE LAW: each entry of such a table is the value at its index
pub value_at : {A : Type 0} (f : ℕ → A) (n k : ℕ) (d : A) → k < n → get_or (values f 0 n) k d ≡ f k
value_at f n k d h = value_from f 0 n k d h ∙ ap f (omega arith)
