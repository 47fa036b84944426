-- What is written to the array of declared names, put together: nothing, one list of names behind another. Assumes nothing.
use mathlib.Core.Path.{◌≡◌, refl, sym, ◌∙◌, ap}
use mathlib.Core.List.{List, [], ◌∷◌, ◌++◌, map}
use Prim.Native.Nat.{ℕ, suc, ◌+◌}
use native.Mathlib.Omega.{arith}
use native.Mathlib.Nat.{add-zero}
use lib.ListN.{length, length-append, length-map}
use Rattle.spec_grammar.specs.Token.{Token}
use Rattle.front_layout.specs.Headings.{Heading, DeclRow, heading_seen, set_decl, store_decls, WroteNames}

store_append : (i : ℕ) (xs ys : List DeclRow) (l : List ℕ) → store_decls i (xs ++ ys) l ≡ store_decls (i + length xs) ys (store_decls i xs l)
unfolding store_decls
store_append i [] ys l = rw add-zero
store_append i (x ∷ xs) ys l = let e : i + 1 + length xs ≡ i + suc (length xs) = omega arith in
    store_append (i + 1) xs ys (set_decl i x l) ∙ ap (λ (k : ℕ). store_decls k ys (store_decls (i + 1) xs (set_decl i x l))) e

map_seen : (ts : List Token) (xs ys : List DeclRow) → map (heading_seen ts) (xs ++ ys) ≡ map (heading_seen ts) xs ++ map (heading_seen ts) ys
map_seen ts [] ys = refl
map_seen ts (x ∷ xs) ys = ap (λ (l : List Heading). heading_seen ts x ∷ l) (map_seen ts xs ys)

pub names_wrote_none : (ts : List Token) (i : ℕ) (l : List ℕ) → WroteNames ts i i l l []
unfolding store_decls
names_wrote_none ts i l = record { rows = []; count = omega arith; are = refl; stored = refl }

pub names_wrote_then : {ts : List Token} {i j k : ℕ} {a b c : List ℕ} {xs ys : List Heading} → WroteNames ts i j a b xs → WroteNames ts j k b c ys
    → WroteNames ts i k a c (xs ++ ys)
names_wrote_then {ts} {i} {j} {k} {a} {b} {c} {xs} {ys} u v = record {
  rows = u.rows ++ v.rows;
  count = let z = length-append xs ys in let e = u.count in let f = v.count in omega arith;
  are = map_seen ts u.rows v.rows ∙ rw (u.are, v.are);
  stored = v.stored ∙ rw (u.stored, same) (sym (store_append i u.rows v.rows a));
}
  where
    same : j ≡ i + length u.rows
    same = let e = u.count in let f = length-map u.rows (heading_seen ts) in let g = ap length u.are in omega arith
