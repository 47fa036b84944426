-- Facts about tests, options and the fold over an expression that the other proofs cite. Assumes nothing.
use Prim.Native.Nat.{ℕ}
use native.Mathlib.Omega.{arith}
use mathlib.Core.Path.{◌≡◌, refl, sym, ap}
use mathlib.Core.Bool.{Bool, true, false, cond, ◌&&◌, ◌||◌}
use mathlib.Core.Option.{none, some}
use lib.IntN.{ℤ, pos, negsuc}
use lib.Dec.{eqb, T, eqb→eq, eqb_refl}
use Rattle.spec_design.specs.Types.{eq_z}
use Rattle.spec_design.specs.Expression.{Out, fine, fault, bind}

-- distinct constructors are never equal
pub false_true : {P : Type 0} → false ≡ true → P
false_true e = absurd (let z : ◌≡◌ {A = ℕ} 0 1 = cc in omega arith)

pub none_some : {X P : Type 0} (x : X) → none ≡ some x → P
none_some x e = absurd (let z : ◌≡◌ {A = ℕ} 0 1 = cc in omega arith)

pub fault_fine : {X P : Type 0} (q : ℕ) (x : X) → fault q ≡ fine x → P
fault_fine q x e = absurd (let z : ◌≡◌ {A = ℕ} 0 1 = cc in omega arith)

pub some_injective : {X : Type 0} (x y : X) → some x ≡ some y → x ≡ y
some_injective x y e = cc

pub fine_injective : {X : Type 0} (x y : X) → fine x ≡ fine y → x ≡ y
fine_injective x y e = cc

pub fault_injective : {X : Type 0} (x y : ℕ) → ◌≡◌ {A = Out X} (fault x) (fault y) → x ≡ y
fault_injective x y e = cc

pub eqb-true : (m n : ℕ) → eqb m n ≡ true → m ≡ n
eqb-true m n e = eqb→eq m n (rw e tt)

pub eq_z_true : (y z : ℤ) → eq_z y z ≡ true → y ≡ z
eq_z_true (pos a) (pos b) e = ap pos (eqb-true a b e)
eq_z_true (pos a) (negsuc b) e = false_true e
eq_z_true (negsuc a) (pos b) e = false_true e
eq_z_true (negsuc a) (negsuc b) e = ap negsuc (eqb-true a b e)

pub eqb_same : (n : ℕ) → eqb n n ≡ true
eqb_same n = go (eqb n n) (eqb_refl n)
  where
    go : (b : Bool) → T b → b ≡ true
    go true h = refl
    go false h = absurd h

pub and_left : (a b : Bool) → (a && b) ≡ true → a ≡ true
and_left true b e = refl
and_left false b e = e

pub and_right : (a b : Bool) → (a && b) ≡ true → b ≡ true
and_right true b e = e
and_right false b e = false_true e

pub and_both : (a b : Bool) → a ≡ true → b ≡ true → (a && b) ≡ true
and_both a b p q = rw (p, q)

pub or_left : (a b : Bool) → a ≡ true → (a || b) ≡ true
or_left a b e = rw e

pub or_right : (a b : Bool) → b ≡ true → (a || b) ≡ true
or_right true b e = refl
or_right false b e = e

-- of a true disjunction whose first part is false the second is true
pub or_other : (a b : Bool) → a ≡ false → (a || b) ≡ true → b ≡ true
or_other true b e h = false_true (sym e)
or_other false b e h = h

-- what is bound has a value where all has
pub bind_fine : {X Y : Type 0} (o : Out X) (k : X → Out Y) (y : Y) → bind o k ≡ fine y → (x : X) × (o ≡ fine x) × (k x ≡ fine y)
unfolding bind
bind_fine (fine x) k y e = (x, refl, e)
bind_fine (fault q) k y e = fault_fine q y e

-- which of two a test picked
pub cond_case : {X P : Type 0} (b : Bool) {x y z : X} → cond b x y ≡ z → (b ≡ true → x ≡ z → P) → (b ≡ false → y ≡ z → P) → P
cond_case true e f g = f refl e
cond_case false e f g = g refl e
