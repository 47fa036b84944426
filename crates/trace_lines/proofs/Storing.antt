-- Stores into a list from a place on: one run behind another, runs that begin behind the end. Assumes nothing.
use mathlib.Core.Path.{◌≡◌, refl, sym, ◌∙◌, ap}
use mathlib.Core.List.{List, [], ◌∷◌, ◌++◌}
use Prim.Native.Nat.{ℕ, zero, suc, ◌+◌, ◌≤◌}
use native.Mathlib.Omega.{arith}
use lib.ListN.{length, set, take, drop}
use lib.Seq.{sets, set_out, sets-eq, take-append_seam}

module _ {A : Type 0} where
  -- two runs, one behind the other
  pub sets_append : (l : List A) (j : ℕ) (us vs : List A) → sets l j (us ++ vs) ≡ sets (sets l j us) (j + length us) vs
  sets_append l j [] vs = let z : j + 0 ≡ j = omega arith in rw z
  sets_append l j (u ∷ us) vs = let z : j + suc (length us) ≡ suc j + length us = omega arith in rw z (sets_append (set l j u) (suc j) us vs)

  -- one element more
  pub sets_one : (l : List A) (vs : List A) (v : A) → sets l 0 (vs ++ (v ∷ [])) ≡ set (sets l 0 vs) (length vs) v
  sets_one l vs v = let z : 0 + length vs ≡ length vs = omega arith in sets_append l 0 vs (v ∷ []) ∙ ap (λ (k : ℕ). set (sets l 0 vs) k v) z

  -- behind the end nothing is stored
  pub sets_out : (l : List A) (j : ℕ) (vs : List A) → length l ≤ j → sets l j vs ≡ l
  sets_out l j [] h = refl
  sets_out l j (v ∷ vs) h = rw (set_out l j v h) (sets_out l (suc j) vs (omega arith))

  -- what was stored from the beginning on
  pub take_sets : (l : List A) (vs : List A) → length vs ≤ length l → take (length vs) (sets l 0 vs) ≡ vs
  take_sets l vs h = ap (take (length vs)) (sets-eq vs l 0 (omega arith)) ∙ take-append_seam vs _

  -- a run that begins behind the first element leaves it
  sets_cons : (h : A) (t : List A) (j : ℕ) (vs : List A) → sets (h ∷ t) (suc j) vs ≡ h ∷ sets t j vs
  sets_cons h t j [] = refl
  sets_cons h t j (v ∷ vs) = sets_cons h (set t j v) (suc j) vs

  -- a run from the index j on is a run at the beginning of what stands there
  pub sets_part : (l : List A) (j : ℕ) (vs : List A) → sets l j vs ≡ take j l ++ sets (drop j l) 0 vs
  sets_part l zero vs = refl
  sets_part [] (suc j) vs = sets_out [] (suc j) vs (omega arith) ∙ sym (sets_out [] 0 vs (omega arith))
  sets_part (h ∷ t) (suc j) vs = sets_cons h t j vs ∙ ap (λ (r : List A). h ∷ r) (sets_part t j vs)
