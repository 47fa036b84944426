-- What is written, put together: nothing, one list of statements behind another, and a statement's row before those inside it, though it is stored last.
-- Assumes nothing.
use mathlib.Core.Path.{◌≡◌, refl, sym, ◌∙◌, ap, subst}
use mathlib.Core.List.{List, [], ◌∷◌, ◌++◌, map, append_assoc}
use Prim.Native.Nat.{ℕ, zero, suc, ◌+◌, ◌*◌, ◌<◌}
use native.Mathlib.Omega.{arith}
use native.Mathlib.Nat.{add-zero}
use lib.ListN.{length, set, length-append, length-map}
use Rattle.spec_grammar.specs.Token.{Token}
use Rattle.front_layout.specs.Tokens.{token_at}
use Rattle.front_layout.specs.Postfix.{Item}
use Rattle.front_layout.specs.Items.{Arrays, item_at_index, Wrote}
use Rattle.front_layout.proofs.ItemLists.{wrote_none, wrote_then}
use Rattle.front_layout.specs.Entries.{Entry, entry, entry_items}
use Rattle.front_layout.specs.Rows.{Row, row, Line, seen, lines_from, set_row, store_rows, Output, output, WroteLines}

pub entry_items_append : (xs ys : List Entry) → entry_items (xs ++ ys) ≡ entry_items xs ++ entry_items ys
unfolding entry_items
entry_items_append [] ys = refl
entry_items_append (e ∷ xs) ys = ap (λ (l : List Item). e.items ++ l) (entry_items_append xs ys)
    ∙ sym (append_assoc e.items (entry_items xs) (entry_items ys))

lines_append : (s m : ℕ) (xs ys : List Entry) → lines_from s m (xs ++ ys) ≡ lines_from s m xs ++ lines_from (s + length xs) (m + length (entry_items xs)) ys
unfolding lines_from entry_items
lines_append s m [] ys = rw (add-zero, add-zero)
lines_append s m (e ∷ xs) ys =
    ap (λ (l : List Line). record { kind = e.kind; token = e.token; from = m; to = m + length e.items; other = s + 1 + e.part; end = s + 1 + e.inside }
    ∷ l)
    (lines_append (s + 1) (m + length e.items) xs ys
    ∙ ap (λ (l : List Line). lines_from (s + 1) (m + length e.items) xs ++ l) (step (s + 1 + length xs) (s + suc (length xs)) (omega arith)
    (m + length e.items + length (entry_items xs)) (m + length (e.items ++ entry_items xs))
    (let z = length-append e.items (entry_items xs) in omega arith)))
  where
    step : (a b : ℕ) → a ≡ b → (c d : ℕ) → c ≡ d → lines_from a c ys ≡ lines_from b d ys
    step a b p c d r = rw (p, r)

lines_count : (s m : ℕ) (es : List Entry) → length (lines_from s m es) ≡ length es
unfolding lines_from
lines_count s m [] = refl
lines_count s m (e ∷ es) = ap suc (lines_count (s + 1) (m + length e.items) es)

store_append : (s : ℕ) (xs ys : List Row) (l : List ℕ) → store_rows s (xs ++ ys) l ≡ store_rows (s + length xs) ys (store_rows s xs l)
unfolding store_rows
store_append s [] ys l = rw add-zero
store_append s (x ∷ xs) ys l = store_append (s + 1) xs ys (set_row s x l) ∙ ap (λ (k : ℕ). store_rows k ys (store_rows (s + 1) xs (set_row s x l))) (omega arith)

map_seen : (ts : List Token) (xs ys : List Row) → map (seen ts) (xs ++ ys) ≡ map (seen ts) xs ++ map (seen ts) ys
map_seen ts [] ys = refl
map_seen ts (x ∷ xs) ys = ap (λ (l : List Line). seen ts x ∷ l) (map_seen ts xs ys)

-- stores at different places may change their order
set_comm : (l : List ℕ) (i j a b : ℕ) → (i ≡ j → ⊥) → set (set l i a) j b ≡ set (set l j b) i a
set_comm [] i j a b f = refl
set_comm (x ∷ l) zero zero a b f = absurd (f refl)
set_comm (x ∷ l) zero (suc j) a b f = refl
set_comm (x ∷ l) (suc i) zero a b f = refl
set_comm (x ∷ l) (suc i) (suc j) a b f = ap (λ (m : List ℕ). x ∷ m) (set_comm l i j a b (λ e. f (ap suc e)))

set_row_lem : (s : ℕ) (r : Row) (l : List ℕ) (j b : ℕ) → 6 * s + 5 < j → set_row s r (set l j b) ≡ set (set_row s r l) j b
unfolding set_row
set_row_lem s r l j b h =
    rw (
      set_comm l j (6 * s) b r.kind (λ e. omega arith),
      set_comm (set l (6 * s) r.kind) j (6 * s + 1) b r.index (λ e. omega arith),
      set_comm (set (set l (6 * s) r.kind) (6 * s + 1) r.index) j (6 * s + 2) b r.from (λ e. omega arith),
      set_comm (set (set (set l (6 * s) r.kind) (6 * s + 1) r.index) (6 * s + 2) r.from) j (6 * s + 3) b r.to (λ e. omega arith),
      set_comm (set (set (set (set l (6 * s) r.kind) (6 * s + 1) r.index) (6 * s + 2) r.from) (6 * s + 3) r.to) j (6 * s + 4) b r.other
          (λ e. omega arith),
      set_comm (set (set (set (set (set l (6 * s) r.kind) (6 * s + 1) r.index) (6 * s + 2) r.from) (6 * s + 3) r.to) (6 * s + 4) r.other) j
          (6 * s + 5) b r.end (λ e. omega arith),
    )

row_is : (j : ℕ) (x : Row) (m : List ℕ) → set_row j x m ≡ set
    (set (set (set (set (set m (6 * j) x.kind) (6 * j + 1) x.index) (6 * j + 2) x.from) (6 * j + 3) x.to) (6 * j + 4) x.other) (6 * j + 5)
    x.end
unfolding set_row
row_is j x m = refl

row_row : (s j : ℕ) (r x : Row) (l : List ℕ) → s < j → set_row s r (set_row j x l) ≡ set_row j x (set_row s r l)
row_row s j r x l h = six
  where
    l1 : List ℕ
    l1 = set l (6 * j) x.kind

    l2 : List ℕ
    l2 = set l1 (6 * j + 1) x.index

    l3 : List ℕ
    l3 = set l2 (6 * j + 2) x.from

    l4 : List ℕ
    l4 = set l3 (6 * j + 3) x.to

    l5 : List ℕ
    l5 = set l4 (6 * j + 4) x.other

    opened : (m : List ℕ) → set_row j x m ≡ set
        (set (set (set (set (set m (6 * j) x.kind) (6 * j + 1) x.index) (6 * j + 2) x.from) (6 * j + 3) x.to) (6 * j + 4) x.other) (6 * j + 5)
        x.end
    opened m = row_is j x m

    six : set_row s r (set_row j x l) ≡ set_row j x (set_row s r l)
    six = ap (set_row s r) (opened l) ∙ (rw (
      set_row_lem s r l5 (6 * j + 5) x.end (omega arith),
      set_row_lem s r l4 (6 * j + 4) x.other
          (omega arith),
      set_row_lem s r l3 (6 * j + 3) x.to (omega arith),
      set_row_lem s r l2 (6 * j + 2) x.from (omega arith),
      set_row_lem s r l1 (6 * j + 1)
          x.index (omega arith),
      set_row_lem s r l (6 * j) x.kind (omega arith),
    ) (sym (opened (set_row s r l))))

row_store : (s j : ℕ) (r : Row) (xs : List Row) (l : List ℕ) → s < j → set_row s r (store_rows j xs l) ≡ store_rows j xs (set_row s r l)
unfolding store_rows
row_store s j r [] l h = refl
row_store s j r (x ∷ xs) l h = row_store s (j + 1) r xs (set_row j x l) (omega arith) ∙ ap (store_rows (j + 1) xs) (row_row s j r x l h)

-- how many items
pub wrote_length : {ts : List Token} {n m : ℕ} {a b : Arrays} {xs : List Item} → Wrote ts n m a b xs → m ≡ n + length xs
wrote_length {ts} {xs = xs} w = let e = w.count in let f = length-map w.placed (item_at_index ts) in let g = ap length w.are in omega arith

-- one list of statements behind another
pub lines_then : {ts : List Token} {m s m1 s1 m2 s2 : ℕ} {a b c : Output} {xs ys : List Entry} → WroteLines ts m s m1 s1 a b xs
    → WroteLines ts m1 s1 m2 s2 b c ys → WroteLines ts m s m2 s2 a c (xs ++ ys)
lines_then {ts} {m} {s} {m1} {s1} {m2} {s2} {a} {b} {c} {xs} {ys} u v = record {
  items = subst (λ (l : List Item). Wrote ts m m2 a.items c.items l) (sym (entry_items_append xs ys)) (wrote_then u.items v.items);
  rows = u.rows ++ v.rows;
  count = let z = length-append xs ys in let e = u.count in let f = v.count in omega arith;
  are = map_seen ts u.rows v.rows ∙ (rw (u.are, v.are, u.count, wrote_length u.items) (sym (lines_append s m xs ys)));
  stored = v.stored ∙ rw (u.stored, same) (sym (store_append s u.rows v.rows a.rows));
}
  where
    same : s1 ≡ s + length u.rows
    same = let e = u.count in let f = length-map u.rows (seen ts) in let g = ap length u.are in let h = lines_count s m xs in omega arith

-- nothing
pub lines_none : (ts : List Token) (m s : ℕ) (a : Output) → WroteLines ts m s m s a a []
unfolding entry_items lines_from store_rows
lines_none ts m s a = record { items = wrote_none ts m m a.items refl; rows = []; count = omega arith; are = refl; stored = refl }

-- a statement's own items, the statements inside it, and then its row
pub lines_row : {ts : List Token} {m s m1 m2 s2 : ℕ} {a b c : Output} {own : List Item} {es : List Entry} (k i part inside : ℕ) (rows : List ℕ)
    → Wrote ts m m1 a.items b.items own → b.rows ≡ a.rows
    → WroteLines ts m1 (s + 1) m2 s2 b c es → rows ≡ set_row s (row k i m m1 (s + 1 + part) (s + 1 + inside)) c.rows
    → WroteLines ts m s m2 s2 a (output c.items rows) (entry k (token_at ts i) own part inside ∷ es)
unfolding entry_items lines_from store_rows
lines_row {ts} {m} {s} {m1} {m2} {s2} {a} {b} {c} {own} {es} k i part inside rows w e v f = record {
  items = wrote_then w v.items;
  rows = row k i m m1 (s + 1 + part) (s + 1 + inside) ∷ v.rows;
  count = let z = v.count in omega arith;
  are = rw (v.are, wrote_length w);
  stored = f ∙ rw (v.stored, e) (row_store s (s + 1) (row k i m m1 (s + 1 + part) (s + 1 + inside)) v.rows a.rows (omega arith));
}
