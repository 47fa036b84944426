-- Runs of stores into a list: what they leave elsewhere, one behind another, and stores that a later run covers. Assumes nothing.
use Prim.Native.Nat.{ℕ, zero, suc, ◌+◌, ◌≤◌, ◌<◌}
use native.Mathlib.Omega.{arith}
use mathlib.Core.Path.{◌≡◌, refl, sym, ap, ◌∙◌}
use mathlib.Core.List.{List, [], ◌∷◌, ◌++◌}
use lib.ListN.{length, get_or, set, length-set}
use lib.Seq.{sets, get_or-set_other, get_or-set_same, set-set, set_comm}

module _ {A : Type 0} where
  -- an element before or behind a run is as it was
  pub get_d_sets_before : (l : List A) (j : ℕ) (vs : List A) (i : ℕ) (d : A) → i < j → get_or (sets l j vs) i d ≡ get_or l i d
  get_d_sets_before l j [] i d h = refl
  get_d_sets_before l j (v ∷ vs) i d h = get_d_sets_before (set l j v) (suc j) vs i d (omega arith) ∙ get_or-set_other l j i v d (λ e. omega arith)

  pub get_d_sets_behind : (l : List A) (j : ℕ) (vs : List A) (i : ℕ) (d : A) → j + length vs ≤ i → get_or (sets l j vs) i d ≡ get_or l i d
  get_d_sets_behind l j [] i d h = refl
  get_d_sets_behind l j (v ∷ vs) i d h = get_d_sets_behind (set l j v) (suc j) vs i d (omega arith) ∙ get_or-set_other l j i v d (λ e. omega arith)

  -- an element in a run
  pub get_d_sets_in : (l : List A) (j : ℕ) (vs : List A) (k : ℕ) (d : A) → k < length vs → j + length vs ≤ length l → get_or (sets l j vs) (j + k) d ≡ get_or vs k d
  get_d_sets_in l j [] k d h b = absurd (omega arith)
  get_d_sets_in l j (v ∷ vs) zero d h b =
      let z : j + 0 ≡ j = omega arith in
      rw z (get_d_sets_before (set l j v) (suc j) vs j d (omega arith) ∙ get_or-set_same l j v d (omega arith))
  get_d_sets_in l j (v ∷ vs) (suc k) d h b =
      let z : j + suc k ≡ suc j + k = omega arith in
      let n = length-set l j v in
      rw z (get_d_sets_in (set l j v) (suc j) vs k d (omega arith) (omega arith))

  -- two runs, one behind the other
  pub sets_append : (l : List A) (j : ℕ) (us vs : List A) → sets l j (us ++ vs) ≡ sets (sets l j us) (j + length us) vs
  sets_append l j [] vs = let z : j + 0 ≡ j = omega arith in rw z
  sets_append l j (u ∷ us) vs = let z : j + suc (length us) ≡ suc j + length us = omega arith in rw z (sets_append (set l j u) (suc j) us vs)

  -- a store elsewhere may come after a run
  pub sets_set_before : (l : List A) (j i : ℕ) (a : A) (vs : List A) → i < j → sets (set l i a) j vs ≡ set (sets l j vs) i a
  sets_set_before l j i a [] h = refl
  sets_set_before l j i a (v ∷ vs) h =
      ap (λ (m : List A). sets m (suc j) vs) (set_comm l i j a v (λ e. omega arith)) ∙ sets_set_before (set l j v) (suc j) i a vs (omega arith)

  pub sets_set_behind : (l : List A) (j i : ℕ) (a : A) (vs : List A) → j + length vs ≤ i → sets (set l i a) j vs ≡ set (sets l j vs) i a
  sets_set_behind l j i a [] h = refl
  sets_set_behind l j i a (v ∷ vs) h =
      ap (λ (m : List A). sets m (suc j) vs) (set_comm l i j a v (λ e. omega arith)) ∙ sets_set_behind (set l j v) (suc j) i a vs (omega arith)

  -- a store that the run behind it covers at its first place
  pub sets_set_first : (l : List A) (j : ℕ) (a : A) (vs : List A) → 0 < length vs → sets (set l j a) j vs ≡ sets l j vs
  sets_set_first l j a [] h = absurd (omega arith)
  sets_set_first l j a (v ∷ vs) h = ap (λ (m : List A). sets m (suc j) vs) (set-set l j a v)

  -- the rest of a block is announced behind its first part, and then stored
  pub sets_rest : (l : List A) (j e : ℕ) (b : A) (us vs : List A) → e ≡ j + length us → 0 < length vs → sets (sets (set l e b) j us) e vs ≡ sets l j (us ++ vs)
  sets_rest l j e b us vs h p =
      ap (λ (m : List A). sets m e vs) (sets_set_behind l j e b us (omega arith)) ∙ sets_set_first (sets l j us) e b vs p
      ∙ ap (λ (k : ℕ). sets (sets l j us) k vs) h ∙ sym (sets_append l j us vs)

  -- a block inside is announced, its statement stored, and then the block
  pub sets_inside : (l : List A) (j : ℕ) (w v : A) (us : List A) → 0 < length us → sets (set (set l (j + 1) w) j v) (j + 1) us ≡ sets l j (v ∷ us)
  sets_inside l j w v us p =
      let z : j + 1 ≡ suc j = omega arith in
      ap (λ (m : List A). sets m (j + 1) us) (set_comm l (j + 1) j w v (λ e. omega arith)) ∙ sets_set_first (set l j v) (j + 1) w us p
      ∙ ap (λ (k : ℕ). sets (set l j v) k us) z

  -- two blocks inside
  pub sets_two : (l : List A) (j o : ℕ) (w u v : A) (us vs : List A) → o ≡ j + 1 + length us → 0 < length us → 0 < length vs
      → sets (sets (set (set (set l (j + 1) w) j v) o u) (j + 1) us) o vs ≡ sets l j (v ∷ (us ++ vs))
  sets_two l j o w u v us vs h p q =
      sets_rest (set (set l (j + 1) w) j v) (j + 1) o u us vs h q ∙ sets_inside l j w v (us ++ vs) (append_pos us vs p)
    where
      append_pos : (xs ys : List A) → 0 < length xs → 0 < length (xs ++ ys)
      append_pos [] ys h = absurd (omega arith)
      append_pos (x ∷ xs) ys h = omega arith
