-- What holds of each element of a list holds of its parts and of the element at a place. Assumes nothing.
use mathlib.Core.List.{List, [], ◌∷◌, ◌++◌}
use Prim.Native.Nat.{ℕ, zero, suc, ◌<◌}
use native.Mathlib.Omega.{arith}
use lib.ListN.{length, get_or}
use Rattle.spec_grammar.specs.Limits.{Each}

pub each_split : {A : Type 0} (P : A → Type 0) (a b : List A) → Each P (a ++ b) → Each P a × Each P b
each_split P [] b h = (tt, h)
each_split P (x ∷ a) b h = let s = each_split P a b h.1 in ((h.0, s.0), s.1)

pub each_join : {A : Type 0} (P : A → Type 0) (a b : List A) → Each P a → Each P b → Each P (a ++ b)
each_join P [] b h k = k
each_join P (x ∷ a) b h k = (h.0, each_join P a b h.1 k)

pub each_at : {A : Type 0} (P : A → Type 0) (l : List A) (a : A) → Each P l → (i : ℕ) → i < length l → P (get_or l i a)
each_at P [] a p i h = absurd (omega arith)
each_at P (x ∷ l) a p zero h = p.0
each_at P (x ∷ l) a p (suc i) h = each_at P l a p.1 i (omega arith)

-- what holds of everything
pub each_any : {A : Type 0} (P : A → Type 0) → ((a : A) → P a) → (l : List A) → Each P l
each_any P h [] = tt
each_any P h (a ∷ l) = (h a, each_any P h l)
