-- The multiplying operators give what IEEE 1076's sentences say: these hold of the quotient, the remainder and the modulus of `Division`, and of no others.
-- Assumes nothing.
use mathlib.Core.Path.{◌≡◌, refl, sym, ap, ◌∙◌}
use mathlib.Core.Bool.{Bool, true, false}
use native.Mathlib.Omega.{arith}
use lib.IntN.{ℤ, pos, nat_abs}
use lib.Signed.{quot_z, rem_z}
use Rattle.spec_design.specs.Types.{eq_z, in_range}
use Rattle.spec_design.specs.Expression.{fine}
use Rattle.spec_semantics.specs.Division.{mod_z, Divided}
use Rattle.spec_semantics.specs.Evaluation.{as_integer, binary_result, apply_binary}
use Rattle.spec_semantics.specs.Multiplying.{Multiplying}
use Rattle.spec_semantics.proofs.Basic.{eq_z_true}
use Rattle.spec_semantics.proofs.Divided.{divided, quotient_outside}
use Rattle.spec_semantics.proofs.DividedOnce.{divided_once}
use Rattle.spec_semantics.proofs.Faults.{by_0, by_other}

-- nothing is smaller than 0, so where something meets the sentences the divisor is not 0
divisor_above : (x y q r m : ℤ) → Divided x y q r m → eq_z y (pos 0) ≡ false
divisor_above x y q r m d = go (eq_z y (pos 0)) refl
  where
    go : (b : Bool) → eq_z y (pos 0) ≡ b → b ≡ false
    go true e = let l = d.rem_small in let z : nat_abs y ≡ 0 = ap nat_abs (eq_z_true y (pos 0) e) in absurd (omega arith)
    go false e = refl

-- what meets the sentences is the quotient, the remainder and the modulus
settled : (x y q r m : ℤ) → Divided x y q r m → (q ≡ quot_z x y) × (r ≡ rem_z x y) × (m ≡ mod_z x y)
settled x y q r m d = divided_once x y q r m (quot_z x y) (rem_z x y) (mod_z x y) d (divided x y (divisor_above x y q r m d))

solvable : (x y : ℤ) → (y ≡ pos 0 → ⊥) → (q : ℤ) × (r : ℤ) × (m : ℤ) × Divided x y q r m
solvable x y n = go (eq_z y (pos 0)) refl
  where
    go : (b : Bool) → eq_z y (pos 0) ≡ b → (q : ℤ) × (r : ℤ) × (m : ℤ) × Divided x y q r m
    go true e = absurd (n (eq_z_true y (pos 0) e))
    go false e = (quot_z x y, rem_z x y, mod_z x y, divided x y e)

pub multiplying : (x y : ℤ) → in_range x ≡ true → in_range y ≡ true → Multiplying x y
unfolding apply_binary binary_result
multiplying x y h k =
    record {
      product = refl;
      quotient = λ q r m d. by_other y (as_integer (quot_z x y)) (divisor_above x y q r m d) ∙ ap as_integer (sym (settled x y q r m d).0);
      remaining = λ q r m d. by_other y (fine (rem_z x y)) (divisor_above x y q r m d) ∙ ap (λ (z : ℤ). fine z) (sym (settled x y q r m d).1);
      modulus = λ q r m d. by_other y (fine (mod_z x y)) (divisor_above x y q r m d) ∙ ap (λ (z : ℤ). fine z) (sym (settled x y q r m d).2);
      solved = solvable x y;
      outside = λ q r m d. rw (settled x y q r m d).0 (quotient_outside x y h);
      zero_divisor = λ e. let z : eq_z y (pos 0) ≡ true = ap (λ (w : ℤ). eq_z w (pos 0)) e in (by_0 y _ z, by_0 y _ z, by_0 y _ z);
    }
