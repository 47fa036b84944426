-- Laws of products and quotients of integers: which fit, what a quotient comes to, and the sign of a modulus. By cases on the signs. Assumes nothing.
use Prim.Native.Nat.{ℕ, zero, suc, ◌*◌, ◌-◌, ◌≤◌, ◌<◌}
use Rattle.std.specs.Prelude.{◌≡◌, refl, Bool, true, false, cond, ◌&&◌, ℤ, pos, negsuc, neg_ℤ, ◌+ℤ◌, ◌*ℤ◌, Option, Some, None, SomeIff}
use Rattle.std.specs.Int.{CanDivide}
use Rattle.std.specs.Option.{ok_or}
use mathlib.Core.Path.{sym, ◌∙◌}
use mathlib.Core.Bool.{beq}
use native.Mathlib.Omega.{arith}
use native.Mathlib.Nat.{mul-le-mul}
use lib.IntN.{sub_ℕ}
use lib.Signed.{mag, lt_z, quot_z, rem_z, mag_rem}
use lib.Dec.{ltb}
use borrow.Author.Tests.{le-ltb}
use mir.Syntax.{w32, w64}
use mir.Val.{SFits, of_z}
use Rattle.spec_design.specs.Types.{eq_z, in_range}
use Rattle.spec_design.specs.Expression.{Out, fine, fault}
use Rattle.base_codes.specs.Fault.{outcome}
use Rattle.base_codes.specs.declared.fault.Fault.TheVariants.{OutOfRange}
use Rattle.spec_semantics.specs.Division.{negative, alike, to_sign, mod_z, by_nonzero}
use Rattle.spec_semantics.specs.Evaluation.{as_integer}
use Rattle.spec_semantics.proofs.Basic.{false_true, eq_z_true, and_left, and_right}
use Rattle.spec_semantics.proofs.Divided.{mag_quot}
use Rattle.spec_semantics.proofs.Faults.{by_other}
use Rattle.base_signed.proofs.Range.{zero_bits, other_bits, integer_inside, integer_outside}

-- PRODUCTS
mag_below : (n m : ℕ) → n ≤ m → mag (neg_ℤ (pos n)) ≤ m
mag_below zero m h = omega arith
mag_below (suc n) m h = omega arith

product_below : (a b : ℕ) → a ≤ 2147483648 → b ≤ 2147483648 → a * b ≤ 4611686018427387904
product_below a b h k = mul-le-mul h k

-- a product of two integers fits 64 bits
pub mul_wide : (x y : ℤ) → SFits w32 x → SFits w32 y → SFits w64 (x *ℤ y)
mul_wide (pos a) (pos b) p q = record { sfits = omega (arith, product_below a b (omega (arith, p.sfits)) (omega (arith, q.sfits))) }
mul_wide (pos a) (negsuc b) p q =
    let h = product_below a (suc b) (omega (arith, p.sfits)) (omega (arith, q.sfits)) in
    record { sfits = omega (arith, mag_below (a * suc b) 4611686018427387904 h) }
mul_wide (negsuc a) (pos b) p q =
    let h = product_below (suc a) b (omega (arith, p.sfits)) (omega (arith, q.sfits)) in
    record { sfits = omega (arith, mag_below (suc a * b) 4611686018427387904 h) }
mul_wide (negsuc a) (negsuc b) p q = record { sfits = omega (arith, product_below (suc a) (suc b) (omega (arith, p.sfits)) (omega (arith, q.sfits))) }

-- THE DIVISOR
-- the test of a divisor by its bits
pub divisor_zero : (y : ℤ) (o : Out ℤ) → SFits w32 y → of_z w32 y ≡ 0 → fault 18 ≡ by_nonzero y o
unfolding by_nonzero
divisor_zero y o f e = rw (zero_bits f e)

pub divisor_other : (y : ℤ) (o : Out ℤ) → (of_z w32 y ≡ 0 → ⊥) → o ≡ by_nonzero y o
divisor_other y o h = sym (by_other y o (other_bits y h))

-- QUOTIENTS
-- what the library divides, told as an operator is: a quotient is an integer, or refused
pub quotient : (x y : ℤ) (r : Option ℤ) → (of_z w32 y ≡ 0 → ⊥) → SomeIff r (CanDivide w32 x y) (quot_z x y)
    → outcome (ok_or r OutOfRange) ≡ as_integer (quot_z x y)
quotient x y None h n = sym (integer_outside (quot_z x y) (λ f. n (omega arith, f)))
quotient x y (Some q) h e = rw e.1 (sym (integer_inside (quot_z x y) e.0.1))

-- the least integer and -1
least_is : (x y : ℤ) → (eq_z x (negsuc 2147483647) && eq_z y (negsuc 0)) ≡ true → (x ≡ negsuc 2147483647) × (y ≡ negsuc 0)
least_is x y e =
    let p = eq_z x (negsuc 2147483647) in
    let q = eq_z y (negsuc 0) in
    (eq_z_true x (negsuc 2147483647) (and_left p q e), eq_z_true y (negsuc 0) (and_right p q e))

-- their quotient is no integer, their remainder and modulus are 0
pub least_quotient : (x y : ℤ) → (eq_z x (negsuc 2147483647) && eq_z y (negsuc 0)) ≡ true → fault 16 ≡ by_nonzero y (as_integer (quot_z x y))
unfolding by_nonzero as_integer in_range
least_quotient x y e = let h = least_is x y e in rw (h.0, h.1)

pub least_remainder : (x y : ℤ) → (eq_z x (negsuc 2147483647) && eq_z y (negsuc 0)) ≡ true → fine (pos 0) ≡ by_nonzero y (fine (rem_z x y))
unfolding by_nonzero
least_remainder x y e = let h = least_is x y e in rw (h.0, h.1)

pub least_modulus : (x y : ℤ) → (eq_z x (negsuc 2147483647) && eq_z y (negsuc 0)) ≡ true → fine (pos 0) ≡ by_nonzero y (fine (mod_z x y))
unfolding by_nonzero
least_modulus x y e = let h = least_is x y e in rw (h.0, h.1)

-- every other quotient fits
pub quot_fits : (x y : ℤ) → SFits w32 x → (eq_z x (negsuc 2147483647) && eq_z y (negsuc 0)) ≡ false → SFits w32 (quot_z x y)
quot_fits x y f e =
    let other : (x ≡ negsuc 2147483647 → y ≡ negsuc 0 → ⊥) = λ p q. false_true (sym e ∙ rw (p, q)) in
    record { sfits = omega (arith, mag_quot x y 2147483647 (omega (arith, f.sfits)) other) }

-- a remainder is no larger than what is divided
pub rem_fits : (x y : ℤ) → SFits w32 x → SFits w32 (rem_z x y)
rem_fits x y f = record { sfits = omega (arith, f.sfits, mag_rem x y) }

-- THE SIGN OF A MODULUS
below_is : (z : ℤ) → lt_z z (pos 0) ≡ negative z
below_is (pos n) = le-ltb n 0 (omega arith)
below_is (negsuc n) = refl

beq_is : (a b : Bool) → beq a b ≡ alike a b
beq_is true true = refl
beq_is true false = refl
beq_is false true = refl
beq_is false false = refl

-- the test of the signs is the definition's
pub signs_are : (r y : ℤ) → beq (lt_z r (pos 0)) (lt_z y (pos 0)) ≡ alike (negative r) (negative y)
signs_are r y = rw (below_is r, below_is y) (beq_is (negative r) (negative y))

pub sign_zero : (r y : ℤ) → eq_z r (pos 0) ≡ true → to_sign r y ≡ r
sign_zero r y e = rw e

pub sign_alike : (r y : ℤ) → eq_z r (pos 0) ≡ false → alike (negative r) (negative y) ≡ true → to_sign r y ≡ r
sign_alike r y e f = rw (e, f)

pub sign_unlike : (r y : ℤ) → eq_z r (pos 0) ≡ false → alike (negative r) (negative y) ≡ false → to_sign r y ≡ r +ℤ y
sign_unlike r y e f = rw (e, f)

mag_unlike : (a b n : ℕ) → a < n → b < n → mag (sub_ℕ a (suc b)) < n
mag_unlike a b n h k = go (ltb a (suc b))
  where
    go : (t : Bool) → mag (cond t (negsuc (suc b - suc a)) (pos (a - suc b))) < n
    go true = omega arith
    go false = omega arith

-- the sum of two integers of unlike signs fits
pub unlike_fits : (r y : ℤ) → SFits w32 r → SFits w32 y → alike (negative r) (negative y) ≡ false → SFits w32 (r +ℤ y)
unlike_fits (pos a) (pos b) f g e = absurd (let w : ◌≡◌ {A = ℕ} 0 1 = cc in omega arith)
unlike_fits (pos a) (negsuc b) f g e = record { sfits = mag_unlike a b _ f.sfits g.sfits }
unlike_fits (negsuc a) (pos b) f g e = record { sfits = mag_unlike b a _ g.sfits f.sfits }
unlike_fits (negsuc a) (negsuc b) f g e = absurd (let w : ◌≡◌ {A = ℕ} 0 1 = cc in omega arith)
