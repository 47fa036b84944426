-- The values of a type byte, test by test. Assumes nothing.
use Prim.Native.Nat.{ℕ}
use mathlib.Core.Path.{◌≡◌, refl, sym}
use native.Mathlib.Omega.{arith}
use mathlib.Core.Bool.{Bool, true, false, cond}
use mathlib.Core.Option.{none, some}
use borrow.Author.Tests.{ne_eqb}
use lib.IntN.{ℤ, pos}
use lib.Dec.{eqb}
use mir.Syntax.{w32}
use mir.Val.{SFits, of_z}
use Rattle.spec_design.specs.Types.{integer, in_type}
use Rattle.base_signed.specs.Signed.{in_type_byte, in_some}
use Rattle.base_signed.proofs.Range.{range_fits, equal_bits, zero_bits, other_bits}

-- std_logic: 0 is a value, ..
pub zero_logic : (k : ℕ) (z : ℤ) → k ≡ 0 → SFits w32 z → of_z w32 z ≡ 0 → eqb (of_z w32 z) 0 ≡ in_type_byte k z
unfolding in_type
zero_logic k z h f e = rw (h, zero_bits f e)

-- .. and of the other numbers 1 alone
pub one_logic : (k : ℕ) (z : ℤ) → k ≡ 0 → SFits w32 z → (of_z w32 z ≡ 0 → ⊥) → eqb (of_z w32 z) 1 ≡ in_type_byte k z
unfolding in_type
one_logic k z h f e =
    let one : SFits w32 (pos 1) = record { sfits = omega arith } in
    rw (h, other_bits z e) (equal_bits f one)

-- integer: every number of 32 bits is a value; other bytes are no type
pub not_logic : (k : ℕ) (z : ℤ) → (k ≡ 0 → ⊥) → SFits w32 z → eqb k 1 ≡ in_type_byte k z
unfolding in_type
not_logic k z h f = rw (ne_eqb k 0 h) (go (eqb k 1))
  where
    go : (b : Bool) → b ≡ in_some (cond b (some integer) none) z
    go true = sym (range_fits z f)
    go false = refl
