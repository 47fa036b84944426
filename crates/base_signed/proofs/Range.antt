-- Laws of the integer range: what a test of the range tells, that sums and differences of two integers fit 64 bits, and equality by the bits.
-- By cases on the signs. Assumes nothing.
use Prim.Native.Nat.{ℕ, zero, suc, ◌+◌, ◌-◌, ◌≤◌}
use mathlib.Core.Path.{◌≡◌, refl, sym, ap, ◌∙◌}
use mathlib.Core.Bool.{Bool, true, false, cond}
use native.Mathlib.Omega.{arith}
use lib.IntN.{ℤ, pos, negsuc, neg_ℤ, ◌+ℤ◌, ◌-ℤ◌, sub_ℕ, nat_abs, +ℤ_idl}
use lib.Signed.{lt_z, mag, non_neg}
use lib.Dec.{T, ltb, eqb}
use mir.Syntax.{w32, w64}
use mir.Val.{SFits, to_z, of_z}
use mir.Facts.{to_z-of_z}
use borrow.Author.Tests.{ltb-true, ltb-false, le-leb, lt-leb, eq-eqb, ne_eqb, eqb-true, eqb-false, le-ltb}
use Rattle.spec_design.specs.Types.{eq_z, in_range}
use Rattle.spec_design.specs.Expression.{fine, fault}
use Rattle.spec_semantics.specs.Evaluation.{as_integer}
use Rattle.spec_semantics.specs.Twos.{unsigned32}

-- an integer is what 32 bits hold
pub fits_range : (z : ℤ) → lt_z z (negsuc 2147483647) ≡ false → lt_z (pos 2147483647) z ≡ false → SFits w32 z
fits_range (pos n) l h = let p = ltb-false 2147483647 n h in record { sfits = omega arith }
fits_range (negsuc n) l h = let p = ltb-false 2147483647 n l in record { sfits = omega arith }

pub range_fits : (z : ℤ) → SFits w32 z → in_range z ≡ true
unfolding in_range
range_fits (pos n) h = let p : n ≤ 2147483647 = omega (arith, h.sfits) in rw (le-leb n 2147483647 p)
range_fits (negsuc n) h = let p : n ≤ 2147483647 = omega (arith, h.sfits) in rw (le-leb n 2147483647 p)

range_low : (z : ℤ) → lt_z z (negsuc 2147483647) ≡ true → in_range z ≡ false
unfolding in_range
range_low (pos n) e = cc
range_low (negsuc n) e = rw (lt-leb n 2147483647 (ltb-true _ _ e))

range_high : (z : ℤ) → lt_z (pos 2147483647) z ≡ true → in_range z ≡ false
unfolding in_range
range_high (pos n) e = rw (lt-leb n 2147483647 (ltb-true _ _ e))
range_high (negsuc n) e = cc

-- the three outcomes of the two tests
pub integer_inside : (z : ℤ) → SFits w32 z → as_integer z ≡ fine z
unfolding as_integer
integer_inside z h = rw (range_fits z h)

pub integer_low : (z : ℤ) → lt_z z (negsuc 2147483647) ≡ true → as_integer z ≡ fault 16
unfolding as_integer
integer_low z e = rw (range_low z e)

pub integer_high : (z : ℤ) → lt_z (pos 2147483647) z ≡ true → as_integer z ≡ fault 16
unfolding as_integer
integer_high z e = rw (range_high z e)

-- what is no integer
pub integer_outside : (z : ℤ) → (SFits w32 z → ⊥) → as_integer z ≡ fault 16
integer_outside z h = go (lt_z z (negsuc 2147483647)) refl (lt_z (pos 2147483647) z) refl
  where
    go : (a : Bool) → lt_z z (negsuc 2147483647) ≡ a → (b : Bool) → lt_z (pos 2147483647) z ≡ b → as_integer z ≡ fault 16
    go true p b q = integer_low z p
    go false p true q = integer_high z q
    go false p false q = absurd (h (fits_range z p q))

mag_cond : (t : Bool) (a b n : ℕ) → a ≤ n → b ≤ n → mag (cond t (negsuc a) (pos b)) ≤ n
mag_cond true a b n p q = p
mag_cond false a b n p q = q

mag_sub : (a b : ℕ) → mag (sub_ℕ a b) ≤ a + b
mag_sub a b = mag_cond (ltb a b) _ _ _ (omega arith) (omega arith)

mag_add : (x y : ℤ) → mag (x +ℤ y) ≤ mag x + mag y + 1
mag_add (pos a) (pos b) = omega arith
mag_add (pos a) (negsuc b) = omega (arith, mag_sub a (suc b))
mag_add (negsuc a) (pos b) = omega (arith, mag_sub b (suc a))
mag_add (negsuc a) (negsuc b) = omega arith

mag_neg : (y : ℤ) → mag (neg_ℤ y) ≤ mag y + 1
mag_neg (pos zero) = omega arith
mag_neg (pos (suc n)) = omega arith
mag_neg (negsuc n) = omega arith

pub wide : {z : ℤ} → SFits w32 z → SFits w64 z
wide h = record { sfits = omega (arith, h.sfits) }

pub add_wide : (x y : ℤ) → SFits w32 x → SFits w32 y → SFits w64 (x +ℤ y)
add_wide x y p q = record { sfits = omega (arith, mag_add x y, p.sfits, q.sfits) }

pub sub_wide : (x y : ℤ) → SFits w32 x → SFits w32 y → SFits w64 (x -ℤ y)
sub_wide x y p q = record { sfits = omega (arith, mag_add x (neg_ℤ y), mag_neg y, p.sfits, q.sfits) }

-- equality by the bits
eq_z_refl : (z : ℤ) → eq_z z z ≡ true
eq_z_refl (pos n) = eq-eqb n n refl
eq_z_refl (negsuc n) = eq-eqb n n refl

pub eq_z_same : (x y : ℤ) → x ≡ y → eq_z x y ≡ true
eq_z_same x y e = rw e (eq_z_refl y)

pub eq_z_other : (x y : ℤ) → (x ≡ y → ⊥) → eq_z x y ≡ false
eq_z_other (pos a) (pos b) f = ne_eqb a b (λ e. f (ap pos e))
eq_z_other (pos a) (negsuc b) f = refl
eq_z_other (negsuc a) (pos b) f = refl
eq_z_other (negsuc a) (negsuc b) f = ne_eqb a b (λ e. f (ap negsuc e))

pub bits_same : {x y : ℤ} → SFits w32 x → SFits w32 y → of_z w32 x ≡ of_z w32 y → x ≡ y
bits_same p q e = sym (to_z-of_z p) ∙ ap (to_z w32) e ∙ to_z-of_z q

-- the bits of 0 are those of no other integer
pub zero_bits : {z : ℤ} → SFits w32 z → of_z w32 z ≡ 0 → z ≡ pos 0
zero_bits f e = let o : SFits w32 (pos 0) = record { sfits = omega arith } in bits_same f o e

pub other_bits : (z : ℤ) → (of_z w32 z ≡ 0 → ⊥) → eq_z z (pos 0) ≡ false
other_bits z h = eq_z_other z (pos 0) (λ e. h (ap (of_z w32) e))

pub equal_bits : {x y : ℤ} → SFits w32 x → SFits w32 y → eqb (of_z w32 x) (of_z w32 y) ≡ eq_z x y
equal_bits {x} {y} p q = go (eqb (of_z w32 x) (of_z w32 y)) refl
  where
    go : (b : Bool) → eqb (of_z w32 x) (of_z w32 y) ≡ b → b ≡ eq_z x y
    go true e = sym (eq_z_same x y (bits_same p q (eqb-true _ _ e)))
    go false e = sym (eq_z_other x y (λ h. eqb-false _ _ e (ap (of_z w32) h)))

-- one less than a number's negation, and less than zero
pub below_zero : (k : ℕ) → negsuc 0 -ℤ pos k ≡ negsuc k
below_zero zero = refl
below_zero (suc k) = ap negsuc (omega arith)

pub zero_minus : (x : ℤ) → pos 0 -ℤ x ≡ neg_ℤ x
zero_minus x = +ℤ_idl (neg_ℤ x)

subℕ_one : (n : ℕ) → sub_ℕ (suc n) 1 ≡ pos n
subℕ_one n = rw (le-ltb (suc n) 1 (omega arith)) (ap pos (omega arith))

-- less than zero: what -1 minus it is
pub minus_one_minus : (x : ℤ) → lt_z x (pos 0) ≡ true → negsuc 0 -ℤ x ≡ pos (mag x)
minus_one_minus (pos n) e = absurd (let h = ltb-true n 0 e in omega arith)
minus_one_minus (negsuc n) e = subℕ_one n

pub unsigned_negative : (x : ℤ) → lt_z x (pos 0) ≡ true → 4294967295 - mag x ≡ unsigned32 x
unsigned_negative (pos n) e = absurd (let h = ltb-true n 0 e in omega arith)
unsigned_negative (negsuc n) e = refl

-- not less than zero: it is its own size
pub not_negative : (x : ℤ) → lt_z x (pos 0) ≡ false → T (non_neg x) × (nat_abs x ≡ unsigned32 x)
not_negative (pos n) e = (tt, refl)
not_negative (negsuc n) e = absurd (let z : ◌≡◌ {A = ℕ} 0 1 = cc in omega arith)
