-- What the readers have stored is what the arrays hold, read by position. Assumes nothing.
use mathlib.Core.Path.{◌≡◌, refl, sym, ◌∙◌, ap}
use mathlib.Core.List.{List, [], ◌∷◌, map}
use Prim.Native.Nat.{ℕ, zero, suc, ◌+◌, ◌*◌, ◌≤◌, ◌<◌}
use native.Mathlib.Omega.{arith}
use lib.ListN.{length, get_or, set, length-set, length-map}
use lib.Seq.{get_or-set_same, get_or-set_other}
use Rattle.spec_grammar.specs.Token.{Token}
use Rattle.front_layout.specs.Postfix.{Item}
use Rattle.front_layout.specs.Items.{Arrays, arrays, Placed, store, item_at_index, Wrote}
use Rattle.front_layout.specs.Entries.{Entry}
use Rattle.front_layout.specs.Rows.{Row, row, seen, lines_from, set_row, store_rows, Output, WroteLines}
use Rattle.front_layout.specs.Headings.{Heading, DeclRow, decl_in, decls_from, heading_seen, DeclsIn, set_decl, store_decls, WroteNames}
use Rattle.front_layout.specs.Arrays.{placed_from, ItemsIn, row_in, rows_from, RowsIn}

-- ROWS

-- six numbers in a row; what stands before and behind them is as it was
set_other : (s : ℕ) (r : Row) (l : List ℕ) (i : ℕ) → i < 6 * s → get_or (set_row s r l) i 0 ≡ get_or l i 0
unfolding set_row
set_other s r l i h =
    let l0 = set l (6 * s) r.kind in
    let l1 = set l0 (6 * s + 1) r.index in
    let l2 = set l1 (6 * s + 2) r.from in
    let l3 = set l2 (6 * s + 3) r.to in
    let l4 = set l3 (6 * s + 4) r.other in
    rw (
      get_or-set_other l4 (6 * s + 5) i r.end 0 (λ q. omega arith),
      get_or-set_other l3 (6 * s + 4) i r.other 0 (λ q. omega arith),
      get_or-set_other l2 (6 * s + 3) i r.to 0 (λ q. omega arith),
      get_or-set_other l1 (6 * s + 2) i r.from 0 (λ q. omega arith),
      get_or-set_other l0 (6 * s + 1) i r.index 0 (λ q. omega arith),
      get_or-set_other l (6 * s) i r.kind 0 (λ q. omega arith),
    )

set_length : (s : ℕ) (r : Row) (l : List ℕ) → length (set_row s r l) ≡ length l
unfolding set_row
set_length s r l = rw (length-set, length-set, length-set, length-set, length-set, length-set)

-- the row stored last is read back
row_read : (s : ℕ) (r : Row) (l : List ℕ) → 6 * s + 5 < length l → row_in (set_row s r l) s ≡ r
unfolding set_row
row_read s r l h =
    let l0 = set l (6 * s) r.kind in
    let l1 = set l0 (6 * s + 1) r.index in
    let l2 = set l1 (6 * s + 2) r.from in
    let l3 = set l2 (6 * s + 3) r.to in
    let l4 = set l3 (6 * s + 4) r.other in
    let n0 = length-set l (6 * s) r.kind in
    let n1 = length-set l0 (6 * s + 1) r.index in
    let n2 = length-set l1 (6 * s + 2) r.from in
    let n3 = length-set l2 (6 * s + 3) r.to in
    let n4 = length-set l3 (6 * s + 4) r.other in
    rw (
      get_or-set_other l4 (6 * s + 5) (6 * s) r.end 0 (λ q. omega arith),
      get_or-set_other l3 (6 * s + 4) (6 * s) r.other 0 (λ q. omega arith),
      get_or-set_other l2 (6 * s + 3) (6 * s) r.to 0 (λ q. omega arith),
      get_or-set_other l1 (6 * s + 2) (6 * s) r.from 0 (λ q. omega arith),
      get_or-set_other l0 (6 * s + 1) (6 * s) r.index 0 (λ q. omega arith),
      get_or-set_same l (6 * s) r.kind 0 (omega arith),
      get_or-set_other l4 (6 * s + 5) (6 * s + 1) r.end 0 (λ q. omega arith),
      get_or-set_other l3 (6 * s + 4) (6 * s + 1) r.other 0 (λ q. omega arith),
      get_or-set_other l2 (6 * s + 3) (6 * s + 1) r.to 0 (λ q. omega arith),
      get_or-set_other l1 (6 * s + 2) (6 * s + 1) r.from 0 (λ q. omega arith),
      get_or-set_same l0 (6 * s + 1) r.index 0 (omega arith),
      get_or-set_other l4 (6 * s + 5) (6 * s + 2) r.end 0 (λ q. omega arith),
      get_or-set_other l3 (6 * s + 4) (6 * s + 2) r.other 0 (λ q. omega arith),
      get_or-set_other l2 (6 * s + 3) (6 * s + 2) r.to 0 (λ q. omega arith),
      get_or-set_same l1 (6 * s + 2) r.from 0 (omega arith),
      get_or-set_other l4 (6 * s + 5) (6 * s + 3) r.end 0 (λ q. omega arith),
      get_or-set_other l3 (6 * s + 4) (6 * s + 3) r.other 0 (λ q. omega arith),
      get_or-set_same l2 (6 * s + 3) r.to 0 (omega arith),
      get_or-set_other l4 (6 * s + 5) (6 * s + 4) r.end 0 (λ q. omega arith),
      get_or-set_same l3 (6 * s + 4) r.other 0 (omega arith),
      get_or-set_same l4 (6 * s + 5) r.end 0 (omega arith),
    )

-- what stands before the rows is as it was
rows_before : (s : ℕ) (rs : List Row) (l : List ℕ) (i : ℕ) → i < 6 * s → get_or (store_rows s rs l) i 0 ≡ get_or l i 0
unfolding store_rows
rows_before s [] l i h = refl
rows_before s (r ∷ rs) l i h = rows_before (s + 1) rs (set_row s r l) i (omega arith) ∙ set_other s r l i h

pub rows_read : (s : ℕ) (rs : List Row) (l : List ℕ) → 6 * (s + length rs) ≤ length l → rows_from (store_rows s rs l) s (length rs) ≡ rs
unfolding store_rows rows_from
rows_read s [] l h = refl
rows_read s (r ∷ rs) l h =
    let n = set_length s r l in
    let b = rows_before (s + 1) rs (set_row s r l) in
    rw (
      b (6 * s) (omega arith),
      b (6 * s + 1) (omega arith),
      b (6 * s + 2) (omega arith),
      b (6 * s + 3) (omega arith),
      b (6 * s + 4) (omega arith),
      b (6 * s + 5) (omega arith),
      row_read s r l (omega arith),
      rows_read (s + 1) rs (set_row s r l) (omega arith),
    )

lines_length_lem : (s m : ℕ) (es : List Entry) → length (lines_from s m es) ≡ length es
unfolding lines_from
lines_length_lem s m [] = refl
lines_length_lem s m (e ∷ es) = ap suc (lines_length_lem (s + 1) (m + length e.items) es)

-- statements that were written from the first row on are held
pub rows_held : {ts : List Token} {k s : ℕ} {a b : Output} {es : List Entry} → WroteLines ts 0 0 k s a b es → length a.rows ≡ 3072 → s ≤ 512
    → RowsIn ts es b.rows s
rows_held {ts} {k} {s} {a} {b} {es} w n h =
    record {
      count = (let c = w.count in omega arith);
      short = h;
      are = rw (w.stored, same)
          (ap (map (seen ts)) (rows_read 0 w.rows a.rows (let z = same in omega arith)) ∙ w.are);
    }
  where
    same : s ≡ length w.rows
    same = let c = w.count in let f = length-map w.rows (seen ts) in let g = ap length w.are in let i = lines_length_lem 0 0 es in omega arith

-- DECLARED NAMES

-- the same six numbers, as a declared name's row and as a statement's
abbrev six_of : DeclRow → Row
six_of r = row r.name r.mode r.type r.init r.value r.first

abbrev name_of : Row → DeclRow
name_of r = record { name = r.kind; mode = r.index; type = r.from; init = r.to; value = r.other; first = r.end }

store_same : (i : ℕ) (rs : List DeclRow) (l : List ℕ) → store_decls i rs l ≡ store_rows i (map six_of rs) l
unfolding store_decls set_decl store_rows set_row
store_same i [] l = refl
store_same i (r ∷ rs) l = store_same (i + 1) rs (set_decl i r l)

decls_same : (l : List ℕ) (j c : ℕ) → decls_from l j c ≡ map name_of (rows_from l j c)
unfolding decls_from rows_from
decls_same l j zero = refl
decls_same l j (suc c) = ap (λ (x : List DeclRow). decl_in l j ∷ x) (decls_same l (j + 1) c)

names_same : (rs : List DeclRow) → map name_of (map six_of rs) ≡ rs
names_same [] = refl
names_same (r ∷ rs) = ap (λ (x : List DeclRow). r ∷ x) (names_same rs)

-- names that were written from the first row on are held
pub names_held : {ts : List Token} {d : ℕ} {a b : List ℕ} {hs : List Heading} → WroteNames ts 0 d a b hs → length a ≡ 390 → d ≤ 65 → DeclsIn ts hs b d
names_held {ts} {d} {a} {b} {hs} w n h = record { count = (let c = w.count in omega arith); short = h; are = ap (map (heading_seen ts)) back ∙ w.are }
  where
    many : length (map six_of w.rows) ≡ d
    many = let c = w.count in let e = length-map w.rows six_of in let f = length-map w.rows (heading_seen ts) in let g = ap length w.are in omega arith

    sixes : rows_from b 0 d ≡ map six_of w.rows
    sixes = rw (sym many, w.stored, store_same 0 w.rows a) (rows_read 0 (map six_of w.rows) a (let m = many in omega arith))

    back : decls_from b 0 d ≡ w.rows
    back = decls_same b 0 d ∙ (ap (map name_of) sixes ∙ names_same w.rows)

-- ITEMS

items_before : (n : ℕ) (ps : List Placed) (b : Arrays) (i : ℕ) → i < n
    → (get_or (store n ps b).codes i 0 ≡ get_or b.codes i 0) × (get_or (store n ps b).tokens i 0 ≡ get_or b.tokens i 0)
unfolding store
items_before n [] b i h = (refl, refl)
items_before n (p ∷ ps) b i h =
    let r = items_before (n + 1) ps (arrays (set b.codes n p.code) (set b.tokens n p.index)) i (omega arith) in
    (r.0 ∙ get_or-set_other b.codes n i p.code 0 (λ q. omega arith), r.1 ∙ get_or-set_other b.tokens n i p.index 0 (λ q. omega arith))

pub items_read : (n : ℕ) (ps : List Placed) (b : Arrays) → n + length ps ≤ length b.codes → n + length ps ≤ length b.tokens
    → placed_from (store n ps b).codes (store n ps b).tokens n (length ps) ≡ ps
unfolding store placed_from
items_read n [] b h k = refl
items_read n (p ∷ ps) b h k =
    let c = length-set b.codes n p.code in
    let t = length-set b.tokens n p.index in
    let r = items_before (n + 1) ps (arrays (set b.codes n p.code) (set b.tokens n p.index)) n (omega arith) in
    rw (
      r.0,
      r.1,
      get_or-set_same b.codes n p.code 0 (omega arith),
      get_or-set_same b.tokens n p.index 0 (omega arith),
      items_read (n + 1) ps (arrays (set b.codes n p.code) (set b.tokens n p.index)) (omega arith) (omega arith),
    )

-- items that were written from the first place on are held
pub items_held : {ts : List Token} {k : ℕ} {a b : Arrays} {is : List Item} → Wrote ts 0 k a b is → length a.codes ≡ 16384 → length a.tokens ≡ 16384
    → k ≤ 16384
    → ItemsIn ts is b.codes b.tokens k
items_held {ts} {k} {a} {b} {is} w n m h = record {
  count = let c = w.count in let f = length-map w.placed (item_at_index ts) in let g = ap length w.are in omega arith;
  short = h;
  are = rw (w.arrays, same) (ap (map (item_at_index ts)) (items_read 0 w.placed a (omega arith) (omega arith)) ∙ w.are);
}
  where
    same : k ≡ length w.placed
    same = let c = w.count in omega arith
