-- The rows of statements by position have the lowest offence of the statements. Assumes nothing.
use mathlib.Core.Path.{◌≡◌, refl, sym, ap, ◌∙◌}
use mathlib.Core.Option.{Option, some}
use mathlib.Core.List.{List, [], ◌∷◌, ◌++◌, map, append-nil}
use Prim.Native.Nat.{ℕ, suc, ◌+◌, ◌-◌, ◌≤◌}
use native.Mathlib.Omega.{arith}
use Rattle.std.specs.Prelude.{None}
use native.Mathlib.Decide.{ℕ_discrete}
use borrow.Author.Tests.{ne_eqb, le-leb}
use lib.ListN.{length, get_or, length-append, length-map}
use Rattle.base_codes.specs.Item as I
use Rattle.spec_grammar.specs.Token.{Token}
use Rattle.base_codes.specs.Token.{NAME}
use Rattle.spec_grammar.specs.Tree.{Expr, Stmt, output, assign, null, wait, if_then, if_else, while, Body, only, and_then, Text}
use Rattle.spec_grammar.specs.Limits.{Each, item_count, stmt_exprs, body_exprs}
use Rattle.spec_grammar.proofs.Each.{each_split, each_join}
use Rattle.spec_design.specs.Types.{ExprTy, boolean}
use Rattle.spec_language.specs.Lists.{unless, each, lowest}
use Rattle.spec_language.specs.Declarations.{Decl, declared, find, type_in, within, statements}
use Rattle.spec_language.specs.Typing.{type_of, types_in, wants, types_of}
use Rattle.front_layout.specs.Tokens.{token_at}
use Rattle.front_layout.specs.Postfix.{Item, item_of, postfix}
use Rattle.front_layout.specs.Items.{item_at_index}
use Rattle.front_layout.specs.Entries.{Entry, body_entries, entry_items, stmt_entry}
use Rattle.front_layout.specs.Rows.{Row, Line, seen, lines_from}
use Rattle.front_offences.specs.Lowest.{option_of, lowest_of, lower, lowest_from}
use Rattle.front_layout.specs.Arrays.{placed_from, row_in, rows_from, TokensIn, OwnersIn, ItemsIn, RowsIn}
use Rattle.front_layout.specs.Headings.{headings, DeclsIn}
use Rattle.front_offences.specs.Kinded.{KindedExpr, KindedStmt, KindedBody}
use Rattle.front_offences.proofs.Lowest.{lowest_append}
use Rattle.front_offences.proofs.Named.{IsNamed, postfix_named}
use Rattle.base_codes.specs.Types.{BOOLEAN, tag_or}
use Rattle.front_typing.specs.Expressions.{Sources, Work, work, name_at, place_at, step_work, item_work, items_work, top_of}
use Rattle.front_typing.specs.Positions.{wanted_code, judged_as, row_code, statement_at}
use Rattle.front_offences.proofs.Bodies.{entries_are}
use Rattle.front_offences.proofs.Tokens.{place_is}
use Rattle.front_typing.proofs.NameLaws.{name_law}
use Rattle.front_typing.proofs.OperatorLaws.{wants_law}
use Rattle.front_typing.proofs.ItemLaws.{item_step, list_work, expr_law}

-- a statement's own tokens have their kinds, and its expression its limit
abbrev Ok : Stmt → Type 0
Ok (output x e) = (x.kind ≡ NAME) × KindedExpr e × (item_count e ≤ 64)
Ok (assign x e) = (x.kind ≡ NAME) × KindedExpr e × (item_count e ≤ 64)
Ok null = Unit {0}
Ok (wait x) = Unit {0}
Ok (if_then i e a) = KindedExpr e × (item_count e ≤ 64)
Ok (if_else i e a b) = KindedExpr e × (item_count e ≤ 64)
Ok (while w e a) = KindedExpr e × (item_count e ≤ 64)

abbrev Short : Expr → Type 0
Short e = item_count e ≤ 64

mutual
  unfolding within stmt_exprs

  stmt_ok : (s : Stmt) → KindedStmt s → Each Short (stmt_exprs s) → Each Ok (within s)
  stmt_ok (output x e) k l = ((k.0, k.1, l.0), tt)
  stmt_ok (assign x e) k l = ((k.0, k.1, l.0), tt)
  stmt_ok null k l = (tt, tt)
  stmt_ok (wait x) k l = (tt, tt)
  stmt_ok (if_then i e a) k l = ((k.1, l.0), body_ok a k.2 l.1)
  stmt_ok (if_else i e a b) k l =
      let z = each_split Short (body_exprs a) (body_exprs b) l.1 in
      ((k.1, l.0), each_join Ok (statements a) (statements b) (body_ok a k.2 z.0) (body_ok b k.3 z.1))
  stmt_ok (while w e a) k l = ((k.1, l.0), body_ok a k.2 l.1)

  body_ok : (b : Body) → KindedBody b → Each Short (body_exprs b) → Each Ok (statements b)
  body_ok (only s) k l = stmt_ok s k l
  body_ok (and_then s b) k l =
      let z = each_split Short (stmt_exprs s) (body_exprs b) l in
      each_join Ok (within s) (statements b) (stmt_ok s k.0 z.0) (body_ok b k.1 z.1)

-- the parts of two equal lists
cons_head : {X : Type 0} {x y : X} {l m : List X} → x ∷ l ≡ y ∷ m → x ≡ y
cons_head e = cc

cons_tail : {X : Type 0} {x y : X} {l m : List X} → x ∷ l ≡ y ∷ m → l ≡ m
cons_tail e = cc

named_as : {x y : Item} → x ≡ y → IsNamed y → IsNamed x
named_as e h = rw e h

-- the type that is read for a name does not matter for another item
step_other : (c u v p : ℕ) (w : Work) → (c ≡ I.NAME → ⊥) → step_work c u p w ≡ step_work c v p w
unfolding step_work
step_other c u v p w f = rw (ne_eqb c I.NAME f)

-- an expression where a type is wanted
wanted_law : (Δ : List Decl) (a : Option ExprTy) (e : Expr) (p : ℕ) → KindedExpr e → item_count e ≤ 64
    → judged_as (tag_or a) p (list_work Δ (postfix e) (work [] None)) ≡ lowest_of (types_in Δ e ++ wants a (type_of Δ e) p)
unfolding list_work top_of lower
wanted_law Δ a e p k h =
    let whole = rw (append-nil (postfix e)) at (expr_law Δ e [] [] None k (omega arith)) in
    ap (judged_as (tag_or a) p) whole ∙ rw (wants_law a (type_of Δ e) p) (sym (lowest_append (types_in Δ e) (wants a (type_of Δ e) p)))

module _ (ts : List Token) (kinds : List ℕ) (t : Text) (A : Sources) (ht : TokensIn ts kinds A.places A.n)
    (ho : OwnersIn ts (declared t) A.owners A.n) (hd : DeclsIn ts (headings t) A.decls A.d) where
  -- an item by its code and its token's index
  item_law : (c i : ℕ) (w : Work) → IsNamed (item_of c (token_at ts i)) → step_work c (name_at A i) (place_at A i) w
      ≡ item_step (declared t) (item_of c (token_at ts i)) w
  unfolding item_step
  item_law c i w h = ap (λ (p : ℕ). step_work c (name_at A i) p w) (place_is ht i) ∙ go (ℕ_discrete c I.NAME)
    where
      go : Dec (c ≡ I.NAME) → step_work c (name_at A i) (token_at ts i).place w
          ≡ step_work c (tag_or (type_in (find (declared t) (token_at ts i).value))) (token_at ts i).place w
      go (yes e) = ap (λ (u : ℕ). step_work c u (token_at ts i).place w) (name_law ts kinds A.places A.owners A.decls A.n A.d i t ht ho hd (h e))
      go (no f) = step_other c (name_at A i) (tag_or (type_in (find (declared t) (token_at ts i).value))) (token_at ts i).place w f

  -- items in the arrays, and those behind them
  items_law : (is rest : List Item) (m : ℕ) (w : Work) → Each IsNamed is → map (item_at_index ts) (placed_from A.codes A.indices m (length (is ++ rest)))
      ≡ is ++ rest
      → items_work A m (length is) w ≡ list_work (declared t) is w
  unfolding items_work list_work placed_from
  items_law [] rest m w n e = refl
  items_law (i ∷ is) rest m w n e =
      items_law is rest (m + 1) (item_work A m w) n.1 (cons_tail e) ∙
      ap (list_work (declared t) is)
      (item_law (get_or A.codes m 0) (get_or A.indices m 0) w (named_as (cons_head e) n.0) ∙ ap (λ (x : Item). item_step (declared t) x w) (cons_head e))

  items_rest : (is rest : List Item) (m : ℕ) → map (item_at_index ts) (placed_from A.codes A.indices m (length (is ++ rest))) ≡ is ++ rest
      → map (item_at_index ts) (placed_from A.codes A.indices (m + length is) (length rest)) ≡ rest
  unfolding placed_from
  items_rest [] rest m e = let z : m + 0 ≡ m = omega arith in rw z e
  items_rest (i ∷ is) rest m e = let z : m + suc (length is) ≡ m + 1 + length is = omega arith in rw z (items_rest is rest (m + 1) (cons_tail e))

  -- a row whose items are these
  row_law : (r : Row) (is : List Item) (m : ℕ) → r.from ≡ m → r.to ≡ m + length is → m + length is ≤ 16384 → items_work A m (length is) (work [] None)
      ≡ list_work (declared t) is (work [] None)
      → row_code A r ≡ judged_as (wanted_code r.kind (name_at A r.index)) (token_at ts r.index).place (list_work (declared t) is (work [] None))
  row_law r is m ef et h e =
      let z : m + length is - m ≡ length is = omega arith in
      rw (et, ef, z, le-leb (m + length is) 16384 h, place_is ht r.index, e)

  target_law : (x : Token) (e : Expr) (i : ℕ) → x.kind ≡ NAME → KindedExpr e → item_count e ≤ 64 → token_at ts i ≡ x
      → judged_as (name_at A i) (token_at ts i).place (list_work (declared t) (postfix e) (work [] None))
      ≡ lowest_of (types_in (declared t) e ++ wants (type_in (find (declared t) x.value)) (type_of (declared t) e) x.place)
  target_law x e i n k h q =
      rw (name_law ts kinds A.places A.owners A.decls A.n A.d i t ht ho hd (ap (λ (y : Token). y.kind) q ∙ n), q)
      (wanted_law (declared t) (type_in (find (declared t) x.value)) e x.place k h)

  condition_law : (x : Token) (e : Expr) (i : ℕ) → KindedExpr e → item_count e ≤ 64 → token_at ts i ≡ x
      → judged_as BOOLEAN (token_at ts i).place (list_work (declared t) (postfix e) (work [] None))
      ≡ lowest_of (types_in (declared t) e ++ wants (some boolean) (type_of (declared t) e) x.place)
  condition_law x e i k h q = rw q (wanted_law (declared t) (some boolean) e x.place k h)

  judged_law : (s : Stmt) (k i : ℕ) → Ok s → k ≡ (stmt_entry s).kind → token_at ts i ≡ (stmt_entry s).token
      → judged_as (wanted_code k (name_at A i)) (token_at ts i).place (list_work (declared t) (stmt_entry s).items (work [] None)) ≡ lowest_of (types_of (declared t) s)
  unfolding stmt_entry types_of list_work top_of lower option_of lowest unless
  judged_law (output x e) k i h ek ei = rw ek (target_law x e i h.0 h.1 h.2 ei)
  judged_law (assign x e) k i h ek ei = rw ek (target_law x e i h.0 h.1 h.2 ei)
  judged_law null k i h ek ei = rw ek
  judged_law (wait x) k i h ek ei = rw ek
  judged_law (if_then x e a) k i h ek ei = rw ek (condition_law x e i h.0 h.1 ei)
  judged_law (if_else x e a b) k i h ek ei = rw ek (condition_law x e i h.0 h.1 ei)
  judged_law (while x e a) k i h ek ei = rw ek (condition_law x e i h.0 h.1 ei)

  -- the items of a statement that is in order
  ok_named : (s : Stmt) → Ok s → Each IsNamed (stmt_entry s).items
  unfolding stmt_entry
  ok_named (output x e) h = postfix_named e h.1
  ok_named (assign x e) h = postfix_named e h.1
  ok_named null h = tt
  ok_named (wait x) h = tt
  ok_named (if_then x e a) h = postfix_named e h.0
  ok_named (if_else x e a b) h = postfix_named e h.0
  ok_named (while x e a) h = postfix_named e h.0

  -- the rows from j on, whose items stand from m on
  rows_law : (rows : List ℕ) (ss : List Stmt) (j m : ℕ) → Each Ok ss → map (seen ts) (rows_from rows j (length ss)) ≡ lines_from j m (map stmt_entry ss)
      → map (item_at_index ts) (placed_from A.codes A.indices m (length (entry_items (map stmt_entry ss)))) ≡ entry_items (map stmt_entry ss)
      → m + length (entry_items (map stmt_entry ss)) ≤ 16384
      → lowest_from (statement_at A rows) j (length ss) ≡ lowest_of (each (types_of (declared t)) ss)
  unfolding lowest_from statement_at each rows_from lines_from entry_items option_of lowest
  rows_law rows [] j m h er ei b = refl
  rows_law rows (s ∷ ss) j m h er ei b =
      let is = (stmt_entry s).items in
      let more = entry_items (map stmt_entry ss) in
      let long = length-append is more in
      let line = cons_head er in
      let work0 = items_law is more m (work [] None) (ok_named s h.0) ei in
      let first = row_law (row_in rows j) is m (ap (λ (x : Line). x.from) line) (ap (λ (x : Line). x.to) line) (omega (arith, long, b)) work0 ∙
      judged_law s (row_in rows j).kind (row_in rows j).index h.0 (ap (λ (x : Line). x.kind) line) (ap (λ (x : Line). x.token) line) in
      let rest = rows_law rows ss (j + 1) (m + length is) h.1 (cons_tail er) (items_rest is more m ei) (omega (arith, long, b)) in
      rw (first, rest) (sym (lowest_append (types_of (declared t) s) (each (types_of (declared t)) ss)))

  -- the statements in the arrays, by position, have the lowest offence of the statements
  rows_whole : (rows : List ℕ) (es : List Entry) (ss : List Stmt) (s k : ℕ) → es ≡ map stmt_entry ss → Each Ok ss → RowsIn ts es rows s
      → ItemsIn ts (entry_items es) A.codes A.indices k
      → lowest_from (statement_at A rows) 0 s ≡ lowest_of (each (types_of (declared t)) ss)
  rows_whole rows es ss s k e h r i =
      let cs : s ≡ length ss = sym r.count ∙ (ap length e ∙ length-map ss stmt_entry) in
      let ck : k ≡ length (entry_items (map stmt_entry ss)) = sym i.count ∙ ap (λ (l : List Entry). length (entry_items l)) e in
      let er : map (seen ts) (rows_from rows 0 (length ss)) ≡ lines_from 0 0 (map stmt_entry ss) = rw (cs, e) at r.are in
      let ei : map (item_at_index ts) (placed_from A.codes A.indices 0 (length (entry_items (map stmt_entry ss))))
      ≡ entry_items (map stmt_entry ss) = rw (ck, e) at i.are in
      rw cs (rows_law rows ss 0 0 h er ei (omega (arith, i.short, ck)))

  pub statements_law : (rows : List ℕ) (s k : ℕ) → KindedBody t.body → Each (λ (e : Expr). item_count e ≤ 64) (body_exprs t.body)
      → RowsIn ts (body_entries t.body) rows s → ItemsIn ts (entry_items (body_entries t.body)) A.codes A.indices k
      → lowest_from (statement_at A rows) 0 s ≡ lowest_of (each (types_of (declared t)) (statements t.body))
  statements_law rows s k kb l r i = rows_whole rows (body_entries t.body) (statements t.body) s k (entries_are t.body) (body_ok t.body kb l) r i
