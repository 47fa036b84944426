-- Laws of the lowest place of a stage. Assumes nothing.
use mathlib.Core.Path.{◌≡◌, refl, sym, ◌∙◌, ap}
use mathlib.Core.Bool.{Bool, true, false}
use mathlib.Core.List.{List, [], ◌∷◌, ◌++◌}
use Prim.Native.Nat.{ℕ, min}
use native.Mathlib.Omega.{arith}
use Rattle.std.specs.Prelude.{Option, None, Some}
use Rattle.spec_language.specs.Lists.{unless, least, lowest}
use Rattle.front_offences.specs.Lowest.{option_of, lowest_of, lower}

pub lower_none : (a : Option ℕ) → lower a None ≡ a
unfolding lower
lower_none None = refl
lower_none (Some a) = refl

pub lower_assoc : (a b c : Option ℕ) → lower (lower a b) c ≡ lower a (lower b c)
unfolding lower
lower_assoc None b c = refl
lower_assoc (Some a) None c = refl
lower_assoc (Some a) (Some b) None = refl
lower_assoc (Some a) (Some b) (Some c) = ap Some (omega arith)

least_more : (p : ℕ) (l : List ℕ) → Some (least p l) ≡ lower (Some p) (lowest_of l)
unfolding least lower option_of lowest
least_more p [] = refl
least_more p (q ∷ l) = least_more (min p q) l ∙ (lower_assoc (Some p) (Some q) (lowest_of l) ∙ ap (lower (Some p)) (sym (least_more q l)))

pub lowest_cons : (p : ℕ) (l : List ℕ) → lowest_of (p ∷ l) ≡ lower (Some p) (lowest_of l)
unfolding option_of lowest
lowest_cons p l = least_more p l

-- the lowest of two lists is the lower of their lowest
pub lowest_append : (l m : List ℕ) → lowest_of (l ++ m) ≡ lower (lowest_of l) (lowest_of m)
unfolding option_of lowest lower
lowest_append [] m = refl
lowest_append (p ∷ l) m =
    lowest_cons p (l ++ m) ∙ (ap (lower (Some p)) (lowest_append l m) ∙ (sym (lower_assoc (Some p) (lowest_of l) (lowest_of m)) ∙
    ap (λ (z : Option ℕ). lower z (lowest_of m)) (sym (lowest_cons p l))))

pub lowest_unless : (b : Bool) (p : ℕ) → b ≡ false → lowest_of (unless b p) ≡ Some p
unfolding option_of lowest least unless
lowest_unless b p e = rw e

pub lowest_fine : (b : Bool) (p : ℕ) → b ≡ true → lowest_of (unless b p) ≡ None
unfolding option_of lowest unless
lowest_fine b p e = rw e
