-- The slots that are printed, one slot more. Assumes nothing.
use Rattle.std.proofs.Common.{◌≡◌, ℕ, zero, suc, ◌+◌, List, ◌∷◌, ◌++◌, refl, ap, get_or, append-nil, add-one}
use Rattle.std.specs.Prelude.{ℤ, pos, negsuc, decimal}
use Rattle.std.specs.Fmt.{signed_decimal}
use Rattle.base_files.specs.Shown.{slot, slots_to}

slot_known : (label : List ℕ) (k : ℕ) (z : ℤ) → (z ≡ pos 0 → ⊥) → label ++ (decimal k ++ (61 ∷ signed_decimal z)) ≡ slot label k z
slot_known label k (pos zero) h = absurd (h refl)
slot_known label k (pos (suc n)) h = refl
slot_known label k (negsuc n) h = refl

-- a slot that is not 0, and one that is
module _ (label : List ℕ) (l : List ℤ) (k : ℕ) where
  pub slot_shown : (get_or l k (pos 0) ≡ pos 0 → ⊥)
      → slots_to label l k ++ (label ++ (decimal k ++ (61 ∷ signed_decimal (get_or l k (pos 0))))) ≡ slots_to label l (k + 1)
  slot_shown h = rw add-one (ap (λ (b : List ℕ). slots_to label l k ++ b) (slot_known label k (get_or l k (pos 0)) h))

  pub slot_left : get_or l k (pos 0) ≡ pos 0 → slots_to label l k ≡ slots_to label l (k + 1)
  slot_left e = rw (add-one, e, append-nil)
