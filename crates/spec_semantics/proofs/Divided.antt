-- Quotient, remainder and modulus are those of IEEE 1076, for every divisor but 0: by cases on the signs. Assumes nothing.
use Prim.Native.Nat.{ℕ, zero, suc, ◌+◌, ◌*◌, ◌-◌, ◌/◌, ◌%◌, ◌≤◌, ◌<◌}
use mathlib.Core.Path.{◌≡◌, refl, sym, ap, ◌∙◌}
use mathlib.Core.Logic.{◌⊎◌, inl, inr, ◌↔◌}
use mathlib.Core.Bool.{Bool, true, false, cond, ◌&&◌}
use native.Mathlib.Omega.{arith}
use native.Mathlib.Nat.{div-add-mod', div-le_self, div-lt_self, mod-lt, zero-mul}
use lib.IntN.{ℤ, pos, negsuc, neg_ℤ, ◌+ℤ◌, ◌-ℤ◌, ◌*ℤ◌, sub_ℕ, nat_abs, pred_ℤ, neg_ℤ-+ℤ, *ℤ_comm, pred_ℤ-*ℤ, +ℤ_comm, +ℤ_assoc, -ℤ-+ℤ_cancel}
use lib.Signed.{mag, quot_z, rem_z, mag_rem}
use lib.Dec.{eqb, ltb, leb}
use borrow.Author.Tests.{eqb-true, eqb-false, ltb-true, ltb-false, leb-true, le-leb}
use Rattle.spec_design.specs.Types.{eq_z, in_range}
use Rattle.spec_semantics.specs.Division.{negative, alike, mod_z, Divided}
use Rattle.spec_semantics.proofs.Basic.{false_true, eq_z_true}

neg_pos : (n b : ℕ) → neg_ℤ (pos n) *ℤ pos b ≡ neg_ℤ (pos (n * b))
neg_pos zero b = rw (zero-mul b)
neg_pos (suc n) b = refl

neg_neg : (n b : ℕ) → neg_ℤ (pos n) *ℤ negsuc b ≡ pos (n * suc b)
neg_neg zero b = rw (zero-mul (suc b))
neg_neg (suc n) b = refl

neg_sum : (u v a : ℕ) → u + v ≡ suc a → neg_ℤ (pos u) +ℤ neg_ℤ (pos v) ≡ negsuc a
neg_sum u v a e = sym (neg_ℤ-+ℤ (pos u) (pos v)) ∙ ap (λ (k : ℕ). neg_ℤ (pos k)) e

quot_whole : (a b : ℤ) → quot_z a b *ℤ b +ℤ rem_z a b ≡ a
quot_whole (pos a) (pos b) = ap pos (div-add-mod' a b)
quot_whole (pos a) (negsuc b) = ap (λ z. z +ℤ pos (a % suc b)) (neg_neg (a / suc b) b) ∙ ap pos (div-add-mod' a (suc b))
quot_whole (negsuc a) (pos b) = ap (λ z. z +ℤ neg_ℤ (pos (suc a % b))) (neg_pos (suc a / b) b) ∙ neg_sum (suc a / b * b) (suc a % b) a (div-add-mod' (suc a) b)
quot_whole (negsuc a) (negsuc b) = neg_sum (suc a / suc b * suc b) (suc a % suc b) a (div-add-mod' (suc a) (suc b))

pub abs_neg : (n : ℕ) → nat_abs (neg_ℤ (pos n)) ≡ n
abs_neg zero = refl
abs_neg (suc n) = refl

above : (b : ℤ) → eq_z b (pos 0) ≡ false → 0 < nat_abs b
above (pos b) e = let h = eqb-false b 0 e in omega arith
above (negsuc b) e = omega arith

rem_small : (a b : ℤ) → eq_z b (pos 0) ≡ false → nat_abs (rem_z a b) < nat_abs b
rem_small (pos a) b e = mod-lt a (above b e)
rem_small (negsuc a) b e = rw (abs_neg (suc a % nat_abs b)) (mod-lt (suc a) (above b e))

neg_sign : (n a : ℕ) → (neg_ℤ (pos n) ≡ pos 0) ⊎ (negative (neg_ℤ (pos n)) ≡ true)
neg_sign zero a = inl refl
neg_sign (suc n) a = inr refl

rem_sign : (a b : ℤ) → (rem_z a b ≡ pos 0) ⊎ (negative (rem_z a b) ≡ negative a)
rem_sign (pos a) b = inr refl
rem_sign (negsuc a) b = neg_sign (suc a % nat_abs b) a

alike_is : (a b : Bool) → alike a b ≡ true → a ≡ b
alike_is true b e = sym e
alike_is false true e = e
alike_is false false e = refl

-- a sum of unlike signs, the left one smaller and not 0
record Shifted (r b : ℤ) : Type 0 where
  sign : negative (r +ℤ b) ≡ negative b
  small : nat_abs (r +ℤ b) < nat_abs b

pub sub_case : (P : ℤ → Type 0) (a b : ℕ) → (a < b → P (negsuc (b - suc a))) → (b ≤ a → P (pos (a - b))) → P (sub_ℕ a b)
sub_case P a b f g = go (ltb a b) refl
  where
    go : (t : Bool) → ltb a b ≡ t → P (cond t (negsuc (b - suc a)) (pos (a - b)))
    go true e = f (ltb-true a b e)
    go false e = g (ltb-false a b e)

shifted : (r b : ℤ) → eq_z r (pos 0) ≡ false → alike (negative r) (negative b) ≡ false → nat_abs r < nat_abs b → Shifted r b
shifted (pos r) (pos b) e f h = false_true (sym f)
shifted (pos r) (negsuc b) e f h =
    let n = eqb-false r 0 e in
    record {
      sign = sub_case (λ z. negative z ≡ true) r (suc b) (λ l. refl) (λ l. absurd (omega arith));
      small = sub_case (λ z. nat_abs z < suc b) r (suc b) (λ l. omega arith) (λ l. omega arith);
    }
shifted (negsuc r) (pos b) e f h =
    record {
      sign = sub_case (λ z. negative z ≡ false) b (suc r) (λ l. absurd (omega arith)) (λ l. refl);
      small = sub_case (λ z. nat_abs z < b) b (suc r) (λ l. omega arith) (λ l. omega arith);
    }
shifted (negsuc r) (negsuc b) e f h = false_true (sym f)

shift_whole : (a b q r : ℤ) → q *ℤ b +ℤ r ≡ a → a ≡ b *ℤ pred_ℤ q +ℤ (r +ℤ b)
shift_whole a b q r e =
    sym e
    ∙ (ap (λ z. z +ℤ r) (sym (-ℤ-+ℤ_cancel (q *ℤ b) b))
    ∙ (+ℤ_assoc (q *ℤ b -ℤ b) b r
    ∙ (ap (λ z. (q *ℤ b -ℤ b) +ℤ z) (+ℤ_comm b r)
    ∙ ap (λ z. z +ℤ (r +ℤ b)) (sym (pred_ℤ-*ℤ q b) ∙ *ℤ_comm (pred_ℤ q) b))))

pub divided : (a b : ℤ) → eq_z b (pos 0) ≡ false → Divided a b (quot_z a b) (rem_z a b) (mod_z a b)
divided a b e = go (eq_z (rem_z a b) (pos 0)) refl (alike (negative (rem_z a b)) (negative b)) refl
  where
    whole : a ≡ quot_z a b *ℤ b +ℤ rem_z a b
    whole = sym (quot_whole a b)

    kept : mod_z a b ≡ rem_z a b → (rem_z a b ≡ pos 0) ⊎ (negative (rem_z a b) ≡ negative b) → Divided a b (quot_z a b) (rem_z a b) (mod_z a b)
    kept m s = record {
      whole = whole;
      rem_sign = rem_sign a b;
      rem_small = rem_small a b e;
      mod_sign = rw m s;
      mod_small = rw m (rem_small a b e);
      times = quot_z a b;
      mod_whole = rw m (whole ∙ ap (λ z. z +ℤ rem_z a b) (*ℤ_comm (quot_z a b) b));
    }

    go : (z : Bool) → eq_z (rem_z a b) (pos 0) ≡ z → (t : Bool) → alike (negative (rem_z a b)) (negative b) ≡ t → Divided a b (quot_z a b) (rem_z a b) (mod_z a b)
    go true f t g = kept (rw f) (inl (eq_z_true (rem_z a b) (pos 0) f))
    go false f true g = kept (rw (f, g)) (inr (alike_is (negative (rem_z a b)) (negative b) g))
    go false f false g =
        let h = shifted (rem_z a b) b f g (rem_small a b e) in
        let m : mod_z a b ≡ rem_z a b +ℤ b = rw (f, g) in
        record {
          whole = whole;
          rem_sign = rem_sign a b;
          rem_small = rem_small a b e;
          mod_sign = rw m (inr h.sign);
          mod_small = rw m h.small;
          times = pred_ℤ (quot_z a b);
          mod_whole = rw m (shift_whole a b (quot_z a b) (rem_z a b) (quot_whole a b));
        }

-- the values that the request names, and the corners
seven : mod_z (negsuc 6) (pos 3) ≡ pos 2
seven = refl

seven_rem : rem_z (negsuc 6) (pos 3) ≡ negsuc 0
seven_rem = refl

seven_mod : mod_z (pos 7) (negsuc 2) ≡ negsuc 1
seven_mod = refl

least : (quot_z (negsuc 2147483647) (negsuc 0) ≡ pos 2147483648) × (mod_z (negsuc 2147483647) (negsuc 0) ≡ pos 0) × (rem_z (negsuc 2147483647) (negsuc 0) ≡ pos 0)
least = (refl, refl, refl)

-- Integers: what a remainder and a modulus of two of them are.
and_true : (b : Bool) → (b && true) ≡ b
and_true true = refl
and_true false = refl

range_mag : (z : ℤ) → in_range z ≡ leb (mag z) 2147483647
unfolding in_range
range_mag (pos n) = refl
range_mag (negsuc n) = and_true (leb n 2147483647)

mag_abs : (z : ℤ) → (mag z ≤ nat_abs z) × (nat_abs z ≤ suc (mag z))
mag_abs (pos n) = (omega arith, omega arith)
mag_abs (negsuc n) = (omega arith, omega arith)

pub rem_inside : (x y : ℤ) → in_range x ≡ true → in_range (rem_z x y) ≡ true
rem_inside x y e =
    let h = leb-true (mag x) 2147483647 (sym (range_mag x) ∙ e) in
    range_mag (rem_z x y) ∙ le-leb (mag (rem_z x y)) 2147483647 (let m = mag_rem x y in omega arith)

pub mod_inside : (x y : ℤ) → in_range y ≡ true → eq_z y (pos 0) ≡ false → in_range (mod_z x y) ≡ true
mod_inside x y e f =
    let h = leb-true (mag y) 2147483647 (sym (range_mag y) ∙ e) in
    let s = (divided x y f).mod_small in
    let a = (mag_abs (mod_z x y)).0 in
    let b = (mag_abs y).1 in
    range_mag (mod_z x y) ∙ le-leb (mag (mod_z x y)) 2147483647 (omega arith)

mag_below : (n m : ℕ) → n ≤ suc m → mag (neg_ℤ (pos n)) ≤ m
mag_below zero m h = omega arith
mag_below (suc n) m h = omega arith

-- a quotient is no larger than what is divided, but where the divisor is -1
pub mag_quot : (x y : ℤ) (n : ℕ) → mag x ≤ n → (x ≡ negsuc n → y ≡ negsuc 0 → ⊥) → mag (quot_z x y) ≤ n
mag_quot (pos a) (pos b) n h e = omega (arith, div-le_self a b)
mag_quot (pos a) (negsuc b) n h e = mag_below (a / suc b) n (omega (arith, div-le_self a (suc b)))
mag_quot (negsuc a) (pos b) n h e = mag_below (suc a / b) n (omega (arith, div-le_self (suc a) b))
mag_quot (negsuc a) (negsuc zero) n h e = go (eqb a n) refl
  where
    go : (t : Bool) → eqb a n ≡ t → suc a / 1 ≤ n
    go true z = absurd (e (ap negsuc (eqb-true a n z)) refl)
    go false z = let d = eqb-false a n z in omega arith
mag_quot (negsuc a) (negsuc (suc b)) n h e = let d : suc a / suc (suc b) < suc a = div-lt_self (omega arith) (omega arith) in omega arith

-- of two integers only the least by -1 has a quotient that is none
pub quotient_outside : (x y : ℤ) → in_range x ≡ true → (in_range (quot_z x y) ≡ false) ↔ ((x ≡ negsuc 2147483647) × (y ≡ negsuc 0))
unfolding in_range
quotient_outside x y i = (λ e. outside e (eq_z x (negsuc 2147483647)) refl (eq_z y (negsuc 0)) refl, λ h. rw (h.0, h.1))
  where
    within : mag x ≤ 2147483647
    within = leb-true (mag x) 2147483647 (sym (range_mag x) ∙ i)

    inside : (x ≡ negsuc 2147483647 → y ≡ negsuc 0 → ⊥) → in_range (quot_z x y) ≡ true
    inside n = range_mag (quot_z x y) ∙ le-leb (mag (quot_z x y)) 2147483647 (mag_quot x y 2147483647 within n)

    outside : in_range (quot_z x y) ≡ false → (s : Bool) → eq_z x (negsuc 2147483647) ≡ s → (t : Bool) → eq_z y (negsuc 0) ≡ t
        → (x ≡ negsuc 2147483647) × (y ≡ negsuc 0)
    outside e true f true g = (eq_z_true x (negsuc 2147483647) f, eq_z_true y (negsuc 0) g)
    outside e false f t g = false_true (sym e ∙ inside (λ p q. false_true (sym f ∙ ap (λ z. eq_z z (negsuc 2147483647)) p)))
    outside e true f false g = false_true (sym e ∙ inside (λ p q. false_true (sym g ∙ ap (λ z. eq_z z (negsuc 0)) q)))
