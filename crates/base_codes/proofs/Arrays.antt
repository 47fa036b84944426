-- Lists as arrays. By induction on the list. Assumes nothing.
use mathlib.Core.Path.{◌≡◌, refl, ap}
use mathlib.Core.List.{List, [], ◌∷◌}
use Prim.Native.Nat.{ℕ, zero, suc}
use lib.ListN.{get_or, set}

-- an element put where it stands
pub set_same : {A : Type 0} (l : List A) (j : ℕ) (d : A) → l ≡ set l j (get_or l j d)
set_same [] j d = refl
set_same (x ∷ l) zero d = refl
set_same {A} (x ∷ l) (suc j) d = ap (λ (m : List A). x ∷ m) (set_same l j d)
