-- What is written to the arrays of items, put together: nothing, one list behind another. Assumes nothing.
use mathlib.Core.Path.{◌≡◌, refl, sym, ◌∙◌, ap}
use mathlib.Core.List.{List, [], ◌∷◌, ◌++◌, map}
use Prim.Native.Nat.{ℕ, ◌+◌}
use native.Mathlib.Omega.{arith}
use native.Mathlib.Nat.{add-zero}
use lib.ListN.{length, set, length-append}
use Rattle.spec_grammar.specs.Token.{Token}
use Rattle.front_layout.specs.Postfix.{Item}
use Rattle.front_layout.specs.Items.{Arrays, arrays, Placed, store, item_at_index, Wrote}

store_append : (n : ℕ) (ps qs : List Placed) (b : Arrays) → store n (ps ++ qs) b ≡ store (n + length ps) qs (store n ps b)
unfolding store
store_append n [] qs b = rw add-zero
store_append n (p ∷ ps) qs b =
    store_append (n + 1) ps qs (arrays (set b.codes n p.code) (set b.tokens n p.index))
    ∙ ap (λ (k : ℕ). store k qs (store (n + 1) ps (arrays (set b.codes n p.code) (set b.tokens n p.index)))) (omega arith)

map-append : (ts : List Token) (ps qs : List Placed) → map (item_at_index ts) (ps ++ qs) ≡ map (item_at_index ts) ps ++ map (item_at_index ts) qs
map-append ts [] qs = refl
map-append ts (p ∷ ps) qs = ap (λ (l : List Item). item_at_index ts p ∷ l) (map-append ts ps qs)

-- nothing
pub wrote_none : (ts : List Token) (n m : ℕ) (b : Arrays) → m ≡ n → Wrote ts n m b b []
unfolding store
wrote_none ts n m b e = record { placed = []; count = omega arith; are = refl; arrays = refl }

-- one list behind another
pub wrote_then : {ts : List Token} {n m k : ℕ} {a b c : Arrays} {xs ys : List Item} → Wrote ts n m a b xs → Wrote ts m k b c ys → Wrote ts n k a c (xs ++ ys)
wrote_then {ts} {n} {m} {k} {a} {b} {c} {xs} {ys} u v = record {
  placed = u.placed ++ v.placed;
  count = let e = length-append u.placed v.placed in let f = u.count in let g = v.count in omega arith;
  are = map-append ts u.placed v.placed ∙ rw (u.are, v.are);
  arrays = v.arrays ∙ rw (u.arrays, u.count) (sym (store_append n u.placed v.placed a));
}
