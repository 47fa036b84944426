-- Lists without a number twice: adding one, and the pigeonhole principle. Assumes nothing.
use Prim.Native.Nat.{ℕ, zero, suc, ◌≤◌, ◌<◌}
use native.Mathlib.Omega.{arith}
use native.Mathlib.Decide.{dec_lt}
use mathlib.Core.Path.{◌≡◌, refl, sym, ◌∙◌}
use mathlib.Core.Logic.{◌⊎◌, inl, inr, ⊎_elim}
use mathlib.Core.Bool.{Bool, true, false, cond}
use mathlib.Core.List.Memᴰ
use mathlib.Core.List.{List, [], ◌∷◌, ◌++◌, Memᴰ}
use lib.ListN.{length}
use lib.Dec.{eqb}
use Rattle.spec_semantics.specs.Way.{Distinct}
use Rattle.spec_semantics.proofs.Basic.{false_true, eqb-true, eqb_same}

pub snoc_cases : (y x : ℕ) (w : List ℕ) → Memᴰ y (w ++ (x ∷ [])) → Memᴰ y w ⊎ (y ≡ x)
snoc_cases y x w m = ⊎_elim inl (λ e. inr (Memᴰ.eq_of_singleton e)) (Memᴰ.append_cases w m)

pub distinct_snoc : (w : List ℕ) (x : ℕ) → Distinct w → (Memᴰ x w → ⊥) → Distinct (w ++ (x ∷ []))
unfolding Distinct
distinct_snoc [] x d h = (Memᴰ.not-nil, tt)
distinct_snoc (y ∷ w) x d h =
    (λ m. ⊎_elim d.0 (λ e. h (Memᴰ.head (sym e))) (snoc_cases y x w m), distinct_snoc w x d.1 (λ m. h (Memᴰ.tail m)))

-- w without the first n
erase : ℕ → List ℕ → List ℕ
erase n [] = []
erase n (x ∷ w) = cond (eqb x n) w (x ∷ erase n w)

erase_length : (n : ℕ) (w : List ℕ) → length w ≤ suc (length (erase n w))
unfolding erase
erase_length n [] = omega arith
erase_length n (x ∷ w) = go (eqb x n) (erase_length n w)
  where
    go : (b : Bool) → length w ≤ suc (length (erase n w)) → suc (length w) ≤ suc (length (cond b w (x ∷ erase n w)))
    go true h = omega arith
    go false h = omega arith

erase_member : (n : ℕ) (w : List ℕ) (y : ℕ) → Memᴰ y (erase n w) → Memᴰ y w
unfolding erase
erase_member n [] y m = m
erase_member n (x ∷ w) y m = go (eqb x n) m (erase_member n w y)
  where
    go : (b : Bool) → Memᴰ y (cond b w (x ∷ erase n w)) → (Memᴰ y (erase n w) → Memᴰ y w) → Memᴰ y (x ∷ w)
    go true m h = Memᴰ.tail m
    go false m h = ⊎_elim (λ e. Memᴰ.head e) (λ m'. Memᴰ.tail (h m')) (Memᴰ.cases_cons m)

erase_distinct : (n : ℕ) (w : List ℕ) → Distinct w → Distinct (erase n w) × (Memᴰ n (erase n w) → ⊥)
unfolding erase Distinct
erase_distinct n [] d = (tt, Memᴰ.not-nil)
erase_distinct n (x ∷ w) d = go (eqb x n) refl (erase_distinct n w d.1)
  where
    go : (b : Bool) → eqb x n ≡ b → Distinct (erase n w) × (Memᴰ n (erase n w) → ⊥)
        → Distinct (cond b w (x ∷ erase n w)) × (Memᴰ n (cond b w (x ∷ erase n w)) → ⊥)
    go true e h = (d.1, rw (eqb-true x n e) at d.0)
    go false e h = (
      (λ m. d.0 (erase_member n w x m), h.0),
      λ m. ⊎_elim (λ q. false_true (sym e ∙ rw q (eqb_same x))) h.1 (Memᴰ.cases_cons m),
    )

-- Distinct numbers below n are at most n.
pub distinct_length : (n : ℕ) (w : List ℕ) → Distinct w → ((y : ℕ) → Memᴰ y w → y < n) → length w ≤ n
distinct_length zero [] d h = omega arith
distinct_length zero (x ∷ w) d h = let q = h x (Memᴰ.head refl) in absurd (omega arith)
distinct_length (suc n) w d h =
    let p = erase_distinct n w d in
    let q = distinct_length n (erase n w) p.0 (λ y m. below y (h y (erase_member n w y m)) (λ e. p.1 (Memᴰ.cast (sym e) m))) in
    omega (arith, erase_length n w)
  where
    below : (y : ℕ) → y < suc n → (y ≡ n → ⊥) → y < n
    below y lt ne = go (dec_lt y n)
      where
        go : Dec (y < n) → y < n
        go (yes g) = g
        go (no g) = absurd (ne (omega arith))
