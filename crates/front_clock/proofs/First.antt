-- The first wait of a tree and the one that the rows have; its name is declared where refusal 5 finds no offence. Assumes nothing.
use mathlib.Core.Path.{◌≡◌, refl, sym, ◌∙◌, ap}
use mathlib.Core.Bool.{true}
use mathlib.Core.Option.{Option, none, some}
use mathlib.Core.List.{List, [], ◌∷◌, map}
use Prim.Native.Nat.{ℕ, zero, suc, ◌+◌, ◌*◌}
use native.Mathlib.Omega.{arith}
use borrow.Author.Tests.{eq-eqb, ne_eqb}
use lib.ListN.{length, get_or}
use Rattle.spec_grammar.specs.Token.{Token}
use Rattle.base_codes.specs.Token.{NAME}
use Rattle.spec_grammar.specs.Tree.{Stmt, output, assign, null, wait, if_then, if_else, while, Body}
use Rattle.spec_grammar.specs.Limits.{Each}
use Rattle.spec_language.specs.Lists.{each}
use Rattle.spec_language.specs.Declarations.{Decl, find, is_a, statements, or_else, wait_name, first_wait}
use Rattle.spec_language.specs.Names.{names_of}
use Rattle.spec_language.proofs.Facts.{both_nil, unless_nil, clash}
use Rattle.front_layout.specs.Tokens.{token_at}
use Rattle.front_layout.specs.Entries.{Entry, body_entries, stmt_entry}
use Rattle.front_layout.specs.Rows.{Line, seen, lines_from}
use Rattle.front_layout.specs.Arrays.{row_in, rows_from, RowsIn}
use Rattle.front_offences.specs.Kinded.{KindedStmt, KindedBody}
use Rattle.front_offences.proofs.Bodies.{entries_are, kinded_statements}
use Rattle.front_clock.specs.Positions.{wait_from}

-- the index has the first wait's name, or 16384 where there is no wait
pub data First (ts : List Token) (i : ℕ) : Option Token → Type 0 where
  nowhere : i ≡ 16384 → First ts i none
  there : (x : Token) → token_at ts i ≡ x → x.kind ≡ NAME → First ts i (some x)

-- what one row says
module _ (ts : List Token) (rows : List ℕ) (j c : ℕ) where
  row_other : (o : Option Token) → (get_or rows (6 * j) 0 ≡ 0 → ⊥) → First ts (wait_from rows (j + 1) c) o → First ts (wait_from rows j (suc c)) o
  unfolding wait_from
  row_other o h f = rw (ne_eqb (get_or rows (6 * j) 0) 0 h) f

  row_wait : (x : Token) → get_or rows (6 * j) 0 ≡ 0 → token_at ts (get_or rows (6 * j + 1) 0) ≡ x → x.kind ≡ NAME → First ts (wait_from rows j (suc c)) (some x)
  unfolding wait_from
  row_wait x h e k = rw (eq-eqb (get_or rows (6 * j) 0) 0 h) (there x e k)

  row_first : (l : List Stmt) (s : Stmt) → KindedStmt s → get_or rows (6 * j) 0 ≡ (stmt_entry s).kind → token_at ts (get_or rows (6 * j + 1) 0) ≡ (stmt_entry s).token
      → First ts (wait_from rows (j + 1) c) (first_wait l) → First ts (wait_from rows j (suc c)) (or_else (wait_name s) (first_wait l))
  unfolding stmt_entry wait_name or_else
  row_first l (output x e) k p q f = row_other (first_wait l) (λ z. omega arith) f
  row_first l (assign x e) k p q f = row_other (first_wait l) (λ z. omega arith) f
  row_first l null k p q f = row_other (first_wait l) (λ z. omega arith) f
  row_first l (wait x) k p q f = row_wait x p q k
  row_first l (if_then i e a) k p q f = row_other (first_wait l) (λ z. omega arith) f
  row_first l (if_else i e a b) k p q f = row_other (first_wait l) (λ z. omega arith) f
  row_first l (while w e a) k p q f = row_other (first_wait l) (λ z. omega arith) f

abbrev line_of : ℕ → ℕ → Entry → Line
line_of s m e = record { kind = e.kind; token = e.token; from = m; to = m + length e.items; other = s + 1 + e.part; end = s + 1 + e.inside }

list_first : (ts : List Token) (rows : List ℕ) (l : List Stmt) (j c m : ℕ) → Each KindedStmt l → map (seen ts) (rows_from rows j c)
    ≡ lines_from j m (map stmt_entry l)
    → First ts (wait_from rows j c) (first_wait l)
unfolding rows_from lines_from wait_from first_wait
list_first ts rows [] j zero m k e = nowhere refl
list_first ts rows [] j (suc c) m k e = absurd (let z : ◌≡◌ {A = ℕ} 0 1 = cc in omega arith)
list_first ts rows (s ∷ l) j zero m k e = absurd (let z : ◌≡◌ {A = ℕ} 0 1 = cc in omega arith)
list_first ts rows (s ∷ l) j (suc c) m k e =
    let z : seen ts (row_in rows j) ≡ line_of j m (stmt_entry s) = cc in
    row_first ts rows j c l s k.0 (ap (λ (r : Line). r.kind) z) (ap (λ (r : Line). r.token) z)
    (list_first ts rows l (j + 1) c (m + length (stmt_entry s).items) k.1 (cc))

-- the rows have the first wait of the tree
pub rows_first : (ts : List Token) (b : Body) (rows : List ℕ) (s : ℕ) → RowsIn ts (body_entries b) rows s → KindedBody b
    → First ts (wait_from rows 0 s) (first_wait (statements b))
rows_first ts b rows s r k = list_first ts rows (statements b) 0 s 0 (kinded_statements b k) (r.are ∙ ap (lines_from 0 0) (entries_are b))

-- the first wait's name is declared
stmt_declared : (Δ : List Decl) (s : Stmt) (w : Token) (o : Option Token) → names_of Δ s ≡ [] → or_else (wait_name s) o ≡ some w
    → (o ≡ some w → is_a (λ d. true) (find Δ w.value) ≡ true)
    → is_a (λ d. true) (find Δ w.value) ≡ true
unfolding names_of wait_name or_else
stmt_declared Δ (output x e) w o n f ih = ih f
stmt_declared Δ (assign x e) w o n f ih = ih f
stmt_declared Δ null w o n f ih = ih f
stmt_declared Δ (wait x) w o n f ih =
    let z : x ≡ w = cc in
    ap (λ (y : Token). is_a (λ d. true) (find Δ y.value)) (sym z) ∙ unless_nil (is_a (λ d. true) (find Δ x.value)) x.place n
stmt_declared Δ (if_then i e a) w o n f ih = ih f
stmt_declared Δ (if_else i e a b) w o n f ih = ih f
stmt_declared Δ (while x e a) w o n f ih = ih f

list_declared : (Δ : List Decl) (l : List Stmt) (w : Token) → each (names_of Δ) l ≡ [] → first_wait l ≡ some w → is_a (λ d. true) (find Δ w.value) ≡ true
unfolding each first_wait
list_declared Δ [] w n f = absurd (let z : ◌≡◌ {A = ℕ} 0 1 = cc in omega arith)
list_declared Δ (s ∷ l) w n f = let h = both_nil (names_of Δ s) (each (names_of Δ) l) n in stmt_declared Δ s w (first_wait l) h.0 f (list_declared Δ l w h.1)

-- the declaration itself
pub data Declared (Δ : List Decl) (v : ℕ) : Type 0 where
  by : (d : Decl) → find Δ v ≡ some d → Declared Δ v

pub wait_declared : (Δ : List Decl) (l : List Stmt) (w : Token) → each (names_of Δ) l ≡ [] → first_wait l ≡ some w → Declared Δ w.value
unfolding is_a
wait_declared Δ l w n f = go (find Δ w.value) refl (list_declared Δ l w n f)
  where
    go : (o : Option Decl) → find Δ w.value ≡ o → is_a (λ d. true) (find Δ w.value) ≡ true → Declared Δ w.value
    go none e h = clash (sym h ∙ ap (is_a (λ d. true)) e)
    go (some d) e h = by d e
