-- An accepted text has at least one byte for each statement of its process and for each literal, name and operator of its expressions: each is a token
-- of its own, and a token has a byte. The size of an image is bounded by it. Assumes nothing.
use mathlib.Core.Path.{◌≡◌, refl, ap}
use mathlib.Core.List.{List, [], ◌∷◌}
use Prim.Native.Nat.{ℕ, suc, ◌+◌, ◌≤◌}
use native.Mathlib.Omega.{arith}
use lib.ListN.{length, length-append}
use Rattle.spec_grammar.specs.Token.{Token}
use Rattle.spec_grammar.specs.Tree as T
use Rattle.spec_grammar.specs.Limits.{stmt_count, body_count}
use Rattle.spec_grammar.proofs.Room.{stmt_items, body_items, tokens_room}
use Rattle.spec_design.specs.Statement.{Stmt, size, total_items}
use Rattle.spec_design.specs.Process.{Process}
use Rattle.spec_language.specs.Lexing.{Meaning, Piece, Lexes}
use Rattle.spec_language.specs.Lexing as S
use Rattle.spec_language.specs.Declarations.{Scope, scope_of}
use Rattle.spec_language.specs.Elaboration.{Does, DoesAll}
use Rattle.spec_language.specs.Elaboration as L
use Rattle.spec_language.specs.Validity.{Valid}
use Rattle.spec_language.proofs.LexExact.{token_something, piece_some}
use Rattle.spec_language.proofs.WellTyped.{items_means}

-- a token has a byte
token_byte : (w rest : List ℕ) (k v : ℕ) → Piece w rest (Meaning.token k v) → 1 ≤ length w
token_byte [] rest k v p = absurd (piece_some [] rest (Meaning.token k v) p (token_something k v) refl)
token_byte (b ∷ w) rest k v p = omega arith

pub lexes_room : {n : ℕ} {t : List ℕ} {ts : List Token} → Lexes n t ts → length ts ≤ length t
lexes_room S.end = omega arith
lexes_room (S.Lexes.gap {w} {rest} p r) = let h = lexes_room r in let k = length-append w rest in omega arith
lexes_room (S.Lexes.token {k} {v} {w} {rest} p r) = let h = lexes_room r in let j = length-append w rest in let b = token_byte w rest k v p in omega arith

-- the items of a process are those of the tree
module _ (Γ : Scope) where
  mutual
    unfolding stmt_items total_items

    does_items : {s : T.Stmt} {r : Stmt} → Does Γ s r → total_items r ≡ stmt_items s
    does_items (L.Does.output x h m) = items_means Γ m
    does_items (L.Does.assign x h m) = items_means Γ m
    does_items L.Does.null = refl
    does_items (L.Does.wait x) = refl
    does_items (L.Does.if_then x m a) = let h = items_means Γ m in let k = all_items a in omega arith
    does_items (L.Does.if_else x m a b) = let h = items_means Γ m in let k = all_items a in let l = all_items b in omega arith
    does_items (L.Does.while x m a) = let h = items_means Γ m in let k = all_items a in omega arith

    all_items : {b : T.Body} {r : Stmt} → DoesAll Γ b r → total_items r ≡ body_items b
    all_items (L.DoesAll.only s) = does_items s
    all_items (L.DoesAll.and_then s b) = let h = does_items s in let k = all_items b in omega arith

-- and its statements are the tree's
module _ (Γ : Scope) where
  mutual
    unfolding stmt_count size

    does_size : {s : T.Stmt} {r : Stmt} → Does Γ s r → size r ≡ stmt_count s
    does_size (L.Does.output x h m) = refl
    does_size (L.Does.assign x h m) = refl
    does_size L.Does.null = refl
    does_size (L.Does.wait x) = refl
    does_size (L.Does.if_then x m a) = ap suc (all_size a)
    does_size (L.Does.if_else x m a b) = let k = all_size a in let l = all_size b in omega arith
    does_size (L.Does.while x m a) = ap suc (all_size a)

    all_size : {b : T.Body} {r : Stmt} → DoesAll Γ b r → size r ≡ body_count b
    all_size (L.DoesAll.only s) = does_size s
    all_size (L.DoesAll.and_then s b) = let h = does_size s in let k = all_size b in omega arith

pub valid_room : (b : List ℕ) (d : Process) → Valid b d → size d.body + total_items d.body ≤ 16384
valid_room b d v =
    let p = v.parses in
    let r = tokens_room p.tokens p.marks v.tree p.reads in
    let l = lexes_room p.lexes in
    let s = p.short in
    let i = all_items (scope_of v.tree) v.means.body in
    let z = all_size (scope_of v.tree) v.means.body in
    omega arith
