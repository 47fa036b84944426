-- The multiplying operators * / mod rem (document 02, slip 2), for every two integers x and y, without their definitions. "As in IEEE 1076": whatever meets the
-- standard's sentences, `Divided`, is what / mod rem give, so these sentences settle all three; and for every divisor but 0 something meets them.
-- Assumes nothing.
use Rattle.std.specs.Prelude.{◌≡◌, ◌↔◌, false, ℤ, pos, negsuc, ◌*ℤ◌}
use Rattle.spec_design.specs.Types.{integer, plain, in_range}
use Rattle.spec_design.specs.Expression.{times, divide, modulo, remainder, fine, fault}
use Rattle.spec_semantics.specs.Division.{Divided}
use Rattle.spec_semantics.specs.Evaluation.{as_integer, apply_binary}

pub record Multiplying (x y : ℤ) : Type 0 where
  -- "A product outside integer .. get 16"
  pub product : apply_binary times (plain integer) x y ≡ as_integer (x *ℤ y)
  -- "/ cuts toward zero, rem has the sign of the left operand and mod that of the right"
  pub quotient : (q r m : ℤ) → Divided x y q r m → apply_binary divide (plain integer) x y ≡ as_integer q
  pub remaining : (q r m : ℤ) → Divided x y q r m → apply_binary remainder (plain integer) x y ≡ fine r
  pub modulus : (q r m : ℤ) → Divided x y q r m → apply_binary modulo (plain integer) x y ≡ fine m
  pub solved : (y ≡ pos 0 → ⊥) → (q : ℤ) × (r : ℤ) × (m : ℤ) × Divided x y q r m
  -- "and the least integer divided by -1 get 16": no other quotient of integers is outside integer
  pub outside : (q r m : ℤ) → Divided x y q r m → (in_range q ≡ false) ↔ ((x ≡ negsuc 2147483647) × (y ≡ negsuc 0))
  -- "18, a zero divisor"
  pub zero_divisor : y ≡ pos 0
      → (apply_binary divide (plain integer) x y ≡ fault 18) × (apply_binary modulo (plain integer) x y ≡ fault 18)
      × (apply_binary remainder (plain integer) x y ≡ fault 18)
