-- The lower of several places, in any order; a rule that is two rules. Assumes nothing.
use mathlib.Core.Path.{◌≡◌, refl, sym, ◌∙◌, ap}
use mathlib.Core.Bool.{Bool, true, false, ◌&&◌}
use mathlib.Core.Option.{some}
use mathlib.Core.List.{List, [], ◌∷◌, ◌++◌}
use Prim.Native.Nat.{ℕ}
use native.Mathlib.Omega.{arith}
use Rattle.std.specs.Prelude.{Option, None, Some}
use Rattle.spec_language.specs.Lists.{unless, each, least, lowest}
use Rattle.front_offences.specs.Lowest.{option_of, lowest_of, lower}
use Rattle.front_offences.proofs.Lowest.{lower_assoc, lowest_append}

pub lower_comm : (a b : Option ℕ) → lower a b ≡ lower b a
unfolding lower
lower_comm None None = refl
lower_comm None (Some b) = refl
lower_comm (Some a) None = refl
lower_comm (Some a) (Some b) = ap Some (omega arith)

-- the two in the middle change places
pub lower_swap : (a b c d : Option ℕ) → lower (lower a b) (lower c d) ≡ lower (lower a c) (lower b d)
lower_swap a b c d =
    lower_assoc a b (lower c d)
    ∙ (ap (lower a) (sym (lower_assoc b c d) ∙ (ap (λ (x : Option ℕ). lower x d) (lower_comm b c) ∙ lower_assoc c b d)) ∙ sym (lower_assoc a c (lower b d)))

-- two tests at one place
pub both_unless : (a b : Bool) (p : ℕ) → lowest_of (unless (a && b) p) ≡ lower (lowest_of (unless a p)) (lowest_of (unless b p))
unfolding unless option_of lowest least lower
both_unless true b p = refl
both_unless false true p = refl
both_unless false false p = ap Some (omega arith)

-- the offences of a list by a rule whose lowest is that of two rules
pub each_split : {A : Type 0} (f g h : A → List ℕ) → ((a : A) → lowest_of (f a) ≡ lower (lowest_of (g a)) (lowest_of (h a))) → (l : List A)
    → lowest_of (each f l) ≡ lower (lowest_of (each g l)) (lowest_of (each h l))
unfolding each option_of lowest lower
each_split f g h e [] = refl
each_split f g h e (a ∷ l) =
    lowest_append (f a) (each f l)
    ∙ (ap (λ (x : Option ℕ). lower x (lowest_of (each f l))) (e a) ∙ (ap (lower (lower (lowest_of (g a)) (lowest_of (h a)))) (each_split f g h e l)
    ∙ (lower_swap (lowest_of (g a)) (lowest_of (h a)) (lowest_of (each g l)) (lowest_of (each h l))
    ∙ (ap (λ (x : Option ℕ). lower x (lower (lowest_of (h a)) (lowest_of (each h l)))) (sym (lowest_append (g a) (each g l)))
    ∙ ap (lower (lowest_of (g a ++ each g l))) (sym (lowest_append (h a) (each h l)))))))

-- no offence where no place is there, and else the lowest at that place
pub lowest_nothing : (l : List ℕ) → lowest_of l ≡ None → l ≡ []
unfolding option_of lowest
lowest_nothing [] e = refl
lowest_nothing (p ∷ l) e = cc

pub lowest_place : (l : List ℕ) (p : ℕ) → lowest_of l ≡ Some p → lowest l ≡ some p
unfolding option_of lowest
lowest_place [] p e = cc
lowest_place (q ∷ l) p e = ap some (cc)
