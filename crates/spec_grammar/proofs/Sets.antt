-- Tests, and lists of kinds as sets. Assumes nothing.
use mathlib.Core.Path.{◌≡◌, refl, sym, subst}
use mathlib.Core.Logic.{◌⊎◌, inl, inr}
use mathlib.Core.Bool.{Bool, true, false, ◌&&◌, ◌||◌, not}
use mathlib.Core.List.{List, [], ◌∷◌, ◌++◌}
use Prim.Native.Nat.{ℕ}
use lib.Dec.{T, eqb, eqb→eq}
use Rattle.spec_grammar.specs.Reader.{elem, choose}

pub and_left : (a b : Bool) → T (a && b) → T a
and_left true b t = tt
and_left false b t = t

pub and_right : (a b : Bool) → T (a && b) → T b
and_right true b t = t
and_right false b t = absurd t

pub or_left : (a b : Bool) → T a → T (a || b)
or_left true b t = tt
or_left false b t = absurd t

pub or_right : (a b : Bool) → T b → T (a || b)
or_right true b t = tt
or_right false b t = t

pub or_cases : (a b : Bool) → T (a || b) → T a ⊎ T b
or_cases true b t = inl tt
or_cases false b t = inr t

pub T_true : (a : Bool) → T a → a ≡ true
T_true true t = refl
T_true false t = absurd t

pub not_T : (a : Bool) → T (not a) → T a → ⊥
not_T true t u = t
not_T false t u = u

pub elem_left : (k : ℕ) (a b : List ℕ) → T (elem k a) → T (elem k (a ++ b))
unfolding elem
elem_left k [] b t = absurd t
elem_left k (j ∷ a) b t = elim (or_cases (eqb k j) (elem k a) t)
    [ inl u ↦ or_left (eqb k j) (elem k (a ++ b)) u | inr u ↦ or_right (eqb k j) (elem k (a ++ b)) (elem_left k a b u) ]

pub elem_right : (k : ℕ) (a b : List ℕ) → T (elem k b) → T (elem k (a ++ b))
unfolding elem
elem_right k [] b t = t
elem_right k (j ∷ a) b t = or_right (eqb k j) (elem k (a ++ b)) (elem_right k a b t)

pub elem_cases : (k : ℕ) (a b : List ℕ) → T (elem k (a ++ b)) → T (elem k a) ⊎ T (elem k b)
unfolding elem
elem_cases k [] b t = inr t
elem_cases k (j ∷ a) b t = go (or_cases (eqb k j) (elem k (a ++ b)) t) (elem_cases k a b)
  where
    go : T (eqb k j) ⊎ T (elem k (a ++ b)) → (T (elem k (a ++ b)) → T (elem k a) ⊎ T (elem k b)) → T (eqb k j || elem k a) ⊎ T (elem k b)
    go (inl u) ih = inl (or_left (eqb k j) (elem k a) u)
    go (inr u) ih = elim (ih u) [ inl w ↦ inl (or_right (eqb k j) (elem k a) w) | inr w ↦ inr w ]

-- what a nonterminal that may be empty lets through
pub elem_choose : (k : ℕ) (b : Bool) (a : List ℕ) → T (elem k (choose b a [])) → T b × T (elem k a)
unfolding elem
elem_choose k true a t = (tt, t)
elem_choose k false a t = absurd t

pub choose_elem : (k : ℕ) (b : Bool) (a : List ℕ) → T b → T (elem k a) → T (elem k (choose b a []))
choose_elem k true a u t = t
choose_elem k false a u t = absurd u

unfoldable pub subset : List ℕ → List ℕ → Bool
subset [] b = true
subset (k ∷ a) b = elem k b && subset a b

pub within : (a b : List ℕ) → T (subset a b) → (k : ℕ) → T (elem k a) → T (elem k b)
unfolding subset elem
within [] b s k t = absurd t
within (j ∷ a) b s k t = elim (or_cases (eqb k j) (elem k a) t) [
  | inl u ↦ subst (λ (i : ℕ). T (elem i b)) (sym (eqb→eq k j u)) (and_left (elem j b) (subset a b) s)
  | inr u ↦ within a b (and_right (elem j b) (subset a b) s) k u
]

unfoldable pub disjoint : List ℕ → List ℕ → Bool
disjoint [] b = true
disjoint (k ∷ a) b = not (elem k b) && disjoint a b

pub apart : (a b : List ℕ) → T (disjoint a b) → (k : ℕ) → T (elem k a) → T (elem k b) → ⊥
unfolding disjoint elem
apart [] b s k t w = t
apart (j ∷ a) b s k t w = elim (or_cases (eqb k j) (elem k a) t) [
  | inl u ↦ not_T (elem j b) (and_left (not (elem j b)) (disjoint a b) s) (subst (λ (i : ℕ). T (elem i b)) (eqb→eq k j u) w)
  | inr u ↦ apart a b (and_right (not (elem j b)) (disjoint a b) s) k u w
]
