-- Division on integers (IEEE 1076, 7.2.6), and refusal 18. The quotient rounded toward zero and the remainder with the left operand's sign are the kit's `quot_z`
-- and `rem_z`. Assumes nothing.
use Rattle.std.specs.Prelude.{◌≡◌, ◌⊎◌, Bool, true, false, cond, ◌||◌, ◌<◌, ℤ, pos, negsuc, ◌+ℤ◌, ◌*ℤ◌, nat_abs}
use Rattle.std.specs.Int.Signed.{rem_z}
use Rattle.spec_design.specs.Types.{eq_z}
use Rattle.spec_design.specs.Expression.{Out, fault}

-- below zero
abbrev pub negative : ℤ → Bool
negative (pos n) = false
negative (negsuc n) = true

-- two integers are both below zero, or neither is
abbrev pub alike : Bool → Bool → Bool
alike true b = b
alike false true = false
alike false false = true

-- a remainder r brought to the sign of the right operand y
abbrev pub to_sign : ℤ → ℤ → ℤ
to_sign r y = cond (eq_z r (pos 0) || alike (negative r) (negative y)) r (r +ℤ y)

-- "mod that of the right"
abbrev pub mod_z : ℤ → ℤ → ℤ
mod_z x y = to_sign (rem_z x y) y

-- 18: "a zero divisor"
unfoldable pub by_nonzero : ℤ → Out ℤ → Out ℤ
by_nonzero y o = cond (eq_z y (pos 0)) (fault 18) o

-- IEEE 1076, 7.2.6, of a quotient q, a remainder r and a modulus m of a by b
pub record Divided (a b q r m : ℤ) : Type 0 where
  -- "A = (A/B)*B + (A rem B)"
  pub whole : a ≡ q *ℤ b +ℤ r
  -- "(A rem B) has the sign of A and an absolute value less than the absolute value of B"
  pub rem_sign : (r ≡ pos 0) ⊎ (negative r ≡ negative a)
  pub rem_small : nat_abs r < nat_abs b
  -- "(A mod B) has the sign of B and an absolute value less than the absolute value of B"
  pub mod_sign : (m ≡ pos 0) ⊎ (negative m ≡ negative b)
  pub mod_small : nat_abs m < nat_abs b
  -- "for some integer value N .. A = B*N + (A mod B)"
  pub times : ℤ
  pub mod_whole : a ≡ b *ℤ times +ℤ m
