-- Expressions that have a type, and values handed on: what every machine over expressions uses, that of an image and that of the direct run. Assumes nothing.
use Prim.Native.Nat.{ℕ, zero, suc, ◌<◌}
use native.Mathlib.Omega.{arith}
use mathlib.Core.Path.{◌≡◌, refl, sym, ap}
use mathlib.Core.Bool.{true}
use mathlib.Core.Option.{Option, none, some}
use mathlib.Core.List.{List, [], ◌∷◌}
use lib.ListN.{length}
use lib.Dec.{leb}
use Rattle.spec_design.specs.Types.{Ty, ExprTy, same_type}
use Rattle.spec_design.specs.Expression.{Expr, Out, fine, fault, bind, nth, plainly, items, given, given2, type_of}
use Rattle.spec_design.specs.Process.{is_type, fits}
use Rattle.spec_design.proofs.Types.{same_type_eq}
use Rattle.spec_semantics.proofs.Basic.{none_some, false_true, and_right, cond_case}

-- a value is handed to functions that agree
pub bind_cong : {X Y : Type 0} (o : Out X) (k g : X → Out Y) → ((x : X) → k x ≡ g x) → bind o k ≡ bind o g
unfolding bind
bind_cong (fine x) k g h = h x
bind_cong (fault q) k g h = refl

pub nth_below : {X : Type 0} (l : List X) (k : ℕ) (x : X) → nth l k ≡ some x → k < length l
unfolding nth
nth_below [] k x e = none_some x e
nth_below (y ∷ l) zero x e = omega arith
nth_below (y ∷ l) (suc k) x e = let h = nth_below l k x e in omega arith

-- a name that has a type is one of the declared
pub named_below : (l : List Ty) (k : ℕ) (t : ExprTy) → plainly (nth l k) ≡ some t → k < length l
named_below l k t e = go (nth l k) refl e
  where
    go : (o : Option Ty) → nth l k ≡ o → plainly o ≡ some t → k < length l
    go none q m = unfold plainly in none_some t m
    go (some s) q m = nth_below l k s q

-- an operator that has a type has operands of the type it stands with
pub given_some : (f : ExprTy → Option ExprTy) (s t : ExprTy) (o : Option ExprTy) → given f s o ≡ some t → (o ≡ some s) × (f s ≡ some t)
unfolding given
given_some f s t none e = none_some t e
given_some f s t (some u) e = cond_case (same_type s u) e (λ q m. (ap some (sym (same_type_eq s u q)), m)) (λ q m. none_some t m)

pub given2_some : (f : ExprTy → Option ExprTy) (s t : ExprTy) (o q : Option ExprTy) → given2 f s o q ≡ some t → (o ≡ some s) × (q ≡ some s) × (f s ≡ some t)
unfolding given2
given2_some f s t none q e = none_some t e
given2_some f s t (some u) q e =
    cond_case (same_type s u) e (λ m h. let r = given_some f s t q h in (ap some (sym (same_type_eq s u m)), r.0, r.1)) (λ m h. none_some t h)

-- an expression that fits has the type that is needed
pub fits_type : (is vs : List Ty) (e : Expr) (t : Option ExprTy) → fits is vs e t ≡ true → (u : ExprTy) × (type_of is vs e ≡ some u) × (t ≡ some u)
unfolding fits
fits_type is vs e t h = go (type_of is vs e) t (and_right (leb (items e) 64) _ h)
  where
    go : (o q : Option ExprTy) → is_type o q ≡ true → (u : ExprTy) × (o ≡ some u) × (q ≡ some u)
    go none q h = unfold is_type in false_true h
    go (some u) none h = unfold is_type in false_true h
    go (some u) (some v) h = unfold is_type in (u, refl, ap some (sym (same_type_eq u v h)))
