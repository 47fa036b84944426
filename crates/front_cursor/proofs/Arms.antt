-- The arms of the cursor's steps, each from the tests that lead to it. Assumes nothing.
use mathlib.Core.Path.{◌≡◌}
use mathlib.Core.Bool.{Bool, true, false}
use Prim.Native.Nat.{◌≤◌, ◌<◌}
use borrow.Author.Tests.{le-leb, lt-leb, eq-eqb, ne_eqb}
use Rattle.front_cursor.specs.Reading.{Read, refuse, step, step_item, item_at, expect_at}

module _ (q : Read) where
  pub item_stays : (b : Bool) → (q.fault ≡ 0 → ⊥) → q ≡ item_at b q
  unfolding item_at
  item_stays b f = rw (ne_eqb q.fault 0 f)

  pub item_long : (b : Bool) → q.fault ≡ 0 → b ≡ true → refuse 4 q ≡ item_at b q
  unfolding item_at
  item_long b z e = rw (eq-eqb q.fault 0 z, e)

  pub item_full : (b : Bool) → q.fault ≡ 0 → b ≡ false → 64 ≤ q.items → refuse 4 q ≡ item_at b q
  unfolding item_at
  item_full b z e f = rw (eq-eqb q.fault 0 z, e, le-leb 64 q.items f)

  pub item_taken : (b : Bool) → q.fault ≡ 0 → b ≡ false → q.items < 64 → step_item q ≡ item_at b q
  unfolding item_at
  item_taken b z e f = rw (eq-eqb q.fault 0 z, e, lt-leb 64 q.items f)

  pub expect_stays : (a b : Bool) → (q.fault ≡ 0 → ⊥) → q ≡ expect_at a b q
  unfolding expect_at
  expect_stays a b f = rw (ne_eqb q.fault 0 f)

  pub expect_writtenot : (a b : Bool) → q.fault ≡ 0 → a ≡ false → refuse 3 q ≡ expect_at a b q
  unfolding expect_at
  expect_writtenot a b z e = rw (eq-eqb q.fault 0 z, e)

  pub expect_long : (a b : Bool) → q.fault ≡ 0 → a ≡ true → b ≡ true → refuse 4 q ≡ expect_at a b q
  unfolding expect_at
  expect_long a b z e f = rw (eq-eqb q.fault 0 z, e, f)

  pub expect_taken : (a b : Bool) → q.fault ≡ 0 → a ≡ true → b ≡ false → step q ≡ expect_at a b q
  unfolding expect_at
  expect_taken a b z e f = rw (eq-eqb q.fault 0 z, e, f)
