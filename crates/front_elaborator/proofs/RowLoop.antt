-- The loop over the rows: the rest from here stores what the whole stores; and one row. Assumes nothing.
use mathlib.Core.Path.{◌≡◌, refl, ap, ◌∙◌}
use mathlib.Core.List.{List, [], ◌∷◌}
use lib.ListN.{length, get_or, set, take, drop}
use borrow.Rule.Slice.PartMut.{put_mid}
use Prim.Native.Nat.{ℕ, zero, suc, ◌+◌, ◌-◌, min, ◌≤◌, ◌<◌}
use native.Mathlib.Omega.{arith}
use Rattle.front_layout.specs.Rows.{Row, set_row, store_rows}
use Rattle.front_elaborator.specs.Positions.{row_at, rows_at}

rows_next : (owners slots rows : List ℕ) (j p q : ℕ) → p ≡ suc q → rows_at owners slots rows j p ≡ row_at owners slots rows j ∷ rows_at owners slots rows (j + 1) q
unfolding rows_at
rows_next owners slots rows j p q e = rw e

store_next : (j : ℕ) (r : Row) (rs xs : List Row) (l w : List ℕ) → xs ≡ r ∷ rs → store_rows j xs l ≡ w → store_rows (j + 1) rs (set_row j r l) ≡ w
unfolding store_rows
store_next j r rs xs l w e h = rw e at h

-- at row j of n
pub record Storing (owners slots rows : List ℕ) (n : ℕ) (out₀ out₁ : List ℕ) (j : ℕ) : Type 0 where
  pub inside : j ≤ n
  pub stores : store_rows j (rows_at owners slots rows j (n - j)) out₁ ≡ store_rows 0 (rows_at owners slots rows 0 n) out₀

module _ (owners slots rows : List ℕ) (n : ℕ) (out₀ : List ℕ) where
  pub storing_first : Storing owners slots rows n out₀ out₀ 0
  storing_first = let z : n - 0 ≡ n = omega arith in record { inside = omega arith; stores = rw z }

  module _ (out₁ : List ℕ) (j : ℕ) where
    pub storing_again : {out₂ : List ℕ} → j < n → out₂ ≡ set_row j (row_at owners slots rows j) out₁ → Storing owners slots rows n out₀ out₁ j
        → Storing owners slots rows n out₀ out₂ (j + 1)
    storing_again l e h =
        record {
          inside = omega arith;
          stores = rw e (store_next j (row_at owners slots rows j) (rows_at owners slots rows (j + 1) (n - (j + 1))) _ out₁ _
              (rows_next owners slots rows j (n - j) (n - (j + 1)) (omega arith)) h.stores);
        }

    pub storing_last : (s : ℕ) → n ≡ min s 512 → n ≤ j → Storing owners slots rows n out₀ out₁ j
        → out₁ ≡ store_rows 0 (rows_at owners slots rows 0 (min s 512)) out₀
    unfolding rows_at store_rows
    storing_last s e l h = let z : n - j ≡ 0 = omega arith in (rw z at h.stores) ∙ rw e

-- a row copied, and one of its numbers stored behind that
copied : (a : ℕ) (l rows : List ℕ) (t : ℕ) → a + 6 ≤ length rows → a + 6 ≤ length l
    → set (put_mid a 6 l (take 6 (drop a rows))) (suc a) t
    ≡ set (set (set (set (set (set l a (get_or rows a 0)) (suc a) t) (suc (suc a)) (get_or rows (suc (suc a)) 0)) (suc (suc (suc a)))
    (get_or rows (suc (suc (suc a))) 0)) (suc (suc (suc (suc a)))) (get_or rows (suc (suc (suc (suc a)))) 0)) (suc (suc (suc (suc (suc a)))))
    (get_or rows (suc (suc (suc (suc (suc a))))) 0)
copied zero l [] t h g = absurd (omega arith)
copied zero l (r0 ∷ []) t h g = absurd (omega arith)
copied zero l (r0 ∷ r1 ∷ []) t h g = absurd (omega arith)
copied zero l (r0 ∷ r1 ∷ r2 ∷ []) t h g = absurd (omega arith)
copied zero l (r0 ∷ r1 ∷ r2 ∷ r3 ∷ []) t h g = absurd (omega arith)
copied zero l (r0 ∷ r1 ∷ r2 ∷ r3 ∷ r4 ∷ []) t h g = absurd (omega arith)
copied zero [] (r0 ∷ r1 ∷ r2 ∷ r3 ∷ r4 ∷ r5 ∷ rows) t h g = absurd (omega arith)
copied zero (x0 ∷ []) (r0 ∷ r1 ∷ r2 ∷ r3 ∷ r4 ∷ r5 ∷ rows) t h g = absurd (omega arith)
copied zero (x0 ∷ x1 ∷ []) (r0 ∷ r1 ∷ r2 ∷ r3 ∷ r4 ∷ r5 ∷ rows) t h g = absurd (omega arith)
copied zero (x0 ∷ x1 ∷ x2 ∷ []) (r0 ∷ r1 ∷ r2 ∷ r3 ∷ r4 ∷ r5 ∷ rows) t h g = absurd (omega arith)
copied zero (x0 ∷ x1 ∷ x2 ∷ x3 ∷ []) (r0 ∷ r1 ∷ r2 ∷ r3 ∷ r4 ∷ r5 ∷ rows) t h g = absurd (omega arith)
copied zero (x0 ∷ x1 ∷ x2 ∷ x3 ∷ x4 ∷ []) (r0 ∷ r1 ∷ r2 ∷ r3 ∷ r4 ∷ r5 ∷ rows) t h g = absurd (omega arith)
copied zero (x0 ∷ x1 ∷ x2 ∷ x3 ∷ x4 ∷ x5 ∷ l) (r0 ∷ r1 ∷ r2 ∷ r3 ∷ r4 ∷ r5 ∷ rows) t h g = refl
copied (suc a) l [] t h g = absurd (omega arith)
copied (suc a) [] (r ∷ rows) t h g = absurd (omega arith)
copied (suc a) (x ∷ l) (r ∷ rows) t h g = ap (λ (w : List ℕ). x ∷ w) (copied a l rows t (omega arith) (omega arith))

pub row_copied : (out rows ys : List ℕ) (a k t : ℕ) → a + 6 ≤ length rows → a + 6 ≤ length out → k ≡ 6 → ys ≡ take k (drop a rows)
    → set (put_mid a k out ys) (a + 1) t
    ≡ set (set (set (set (set (set out a (get_or rows a 0)) (a + 1) t) (a + 2) (get_or rows (a + 2) 0)) (a + 3) (get_or rows (a + 3) 0)) (a + 4)
    (get_or rows (a + 4) 0)) (a + 5) (get_or rows (a + 5) 0)
row_copied out rows ys a k t h g e f =
    let z₁ : a + 1 ≡ suc a = omega arith in
    let z₂ : a + 2 ≡ suc (suc a) = omega arith in
    let z₃ : a + 3 ≡ suc (suc (suc a)) = omega arith in
    let z₄ : a + 4 ≡ suc (suc (suc (suc a))) = omega arith in
    let z₅ : a + 5 ≡ suc (suc (suc (suc (suc a)))) = omega arith in
    rw (f, e, z₁, z₂, z₃, z₄, z₅) (copied a out rows t h g)
