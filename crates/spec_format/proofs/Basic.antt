-- Facts about options and tests that the other proofs cite. Assumes nothing.
use Prim.Native.Nat.{ℕ, ◌≤◌, ◌<◌}
use native.Mathlib.Omega.{arith}
use native.Mathlib.Decide.{dec_lt}
use mathlib.Core.Path.{◌≡◌, refl, sym, ◌∙◌}
use mathlib.Core.Bool.{Bool, true, false}
use mathlib.Core.Option.{Option, none, some, map, bind}
use lib.Dec.{leb}
use borrow.Author.Tests.{lt-leb, le-leb}
use Rattle.spec_semantics.proofs.Basic.{none_some, some_injective}
use Rattle.spec_format.specs.Words.{only_if}

pub and_then_some : {X Y : Type 0} (o : Option X) (k : X → Option Y) (y : Y) → bind o k ≡ some y → (x : X) × (o ≡ some x) × (k x ≡ some y)
unfolding bind
and_then_some none k y e = none_some y e
and_then_some (some x) k y e = (x, refl, e)

pub map_some : {X Y : Type 0} (f : X → Y) (o : Option X) (y : Y) → map f o ≡ some y → (x : X) × (o ≡ some x) × (f x ≡ y)
map_some f none y e = none_some y e
map_some f (some x) y e = (x, refl, some_injective (f x) y e)

pub only_if_some : {X : Type 0} (b : Bool) {x : Option X} (y : X) → only_if b x ≡ some y → (b ≡ true) × (x ≡ some y)
only_if_some true y e = (refl, e)
only_if_some false y e = none_some y e

pub leb_shift : (a b n m : ℕ) → (a ≤ n → b ≤ m) → (b ≤ m → a ≤ n) → leb a n ≡ leb b m
leb_shift a b n m f g = go (dec_lt n a) (dec_lt m b)
  where
    go : Dec (n < a) → Dec (m < b) → leb a n ≡ leb b m
    go (yes p) (yes q) = lt-leb a n p ∙ sym (lt-leb b m q)
    go (no p) (no q) = le-leb a n (omega arith) ∙ sym (le-leb b m (omega arith))
    go (yes p) (no q) = absurd (let z = g (omega arith) in omega arith)
    go (no p) (yes q) = absurd (let z = f (omega arith) in omega arith)
