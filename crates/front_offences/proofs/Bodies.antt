-- A rule over the statements of a body, or over the names in its expressions, and the same over the rows and the items of the arrays. Assumes nothing.
use mathlib.Core.Path.{◌≡◌, refl, sym, ◌∙◌, ap, subst}
use mathlib.Core.Bool.{true}
use mathlib.Core.List.{List, [], ◌∷◌, ◌++◌, map, map-append, append_assoc, append-nil}
use Prim.Native.Nat.{ℕ, zero, suc, ◌+◌, ◌*◌}
use native.Mathlib.Omega.{arith}
use Rattle.std.specs.Prelude.{Option}
use lib.Dec.{eqb}
use lib.ListN.{length, get_or}
use Rattle.spec_grammar.specs.Token.{Token}
use Rattle.base_codes.specs.Token.{NAME}
use Rattle.base_codes.specs.Item as I
use Rattle.spec_grammar.specs.Reader.{choose}
use Rattle.spec_grammar.specs.Tree.{Expr, number, bit, name, sign, negate, binary, parens, Stmt, output, assign, null, wait, if_then, if_else, while, Body}
use Rattle.spec_grammar.specs.Tree.{only, and_then}
use Rattle.spec_grammar.specs.Limits.{Each}
use Rattle.spec_grammar.proofs.Each.{each_join}
use Rattle.spec_language.specs.Lists.{each}
use Rattle.spec_language.specs.Declarations.{within, statements}
use Rattle.spec_language.proofs.Facts.{clash, each_append}
use Rattle.front_layout.specs.Tokens.{token_at}
use Rattle.front_layout.specs.Postfix.{Item, item_of, postfix}
use Rattle.front_layout.specs.Items.{item_at_index}
use Rattle.base_codes.proofs.OperationLaws.{operation_apart}
use Rattle.front_layout.proofs.Folds.{Steps, postfix_whole}
use Rattle.front_layout.specs.Entries.{Entry, entry, stmt_entries, body_entries, entry_items, stmt_entry}
use Rattle.front_layout.specs.Rows.{Line, seen, lines_from}
use Rattle.front_layout.specs.Arrays.{placed_from, ItemsIn, row_in, rows_from, RowsIn}
use Rattle.front_offences.specs.Kinded.{KindedStmt, KindedBody}
use Rattle.front_offences.specs.Lowest.{lowest_of, lowest_from}
pub use Rattle.front_offences.proofs.Named.{NamedItem}
use Rattle.front_offences.proofs.Named.{IsNamed, postfix_named}
use Rattle.front_offences.specs.Positions.{has_name}
use Rattle.front_offences.proofs.Loops.{list_from, list_lowest, each_same, each_map, all_map, all_imply}

-- the entries of a body are those of its statements, one for each
mutual
  unfolding stmt_entries body_entries within statements stmt_entry

  entries_stmt : (s : Stmt) → stmt_entries s ≡ map stmt_entry (within s)
  entries_stmt (output x e) = refl
  entries_stmt (assign x e) = refl
  entries_stmt null = refl
  entries_stmt (wait x) = refl
  entries_stmt (if_then i e a) = ap (λ (l : List Entry). entry 3 i (postfix e) (length (body_entries a)) (length (body_entries a)) ∷ l) (entries_are a)
  entries_stmt (if_else i e a b) =
      ap (λ (l : List Entry). entry 3 i (postfix e) (length (body_entries a)) (length (body_entries a) + length (body_entries b)) ∷ l)
      (ap (λ (l : List Entry). l ++ body_entries b) (entries_are a) ∙ (ap (λ (l : List Entry). map stmt_entry (statements a) ++ l) (entries_are b)
      ∙ sym (map-append stmt_entry (statements a) (statements b))))
  entries_stmt (while w e a) = ap (λ (l : List Entry). entry 5 w (postfix e) (length (body_entries a)) (length (body_entries a)) ∷ l) (entries_are a)

  pub entries_are : (b : Body) → body_entries b ≡ map stmt_entry (statements b)
  entries_are (only s) = entries_stmt s
  entries_are (and_then s b) =
      ap (λ (l : List Entry). l ++ body_entries b) (entries_stmt s)
      ∙ (ap (λ (l : List Entry). map stmt_entry (within s) ++ l) (entries_are b) ∙ sym (map-append stmt_entry (within s) (statements b)))

mutual
  unfolding within statements

  kinded_within : (s : Stmt) → KindedStmt s → Each KindedStmt (within s)
  kinded_within (output x e) k = (k, tt)
  kinded_within (assign x e) k = (k, tt)
  kinded_within null k = (k, tt)
  kinded_within (wait x) k = (k, tt)
  kinded_within (if_then i e a) k = (k, kinded_statements a k.2)
  kinded_within (if_else i e a b) k = (k, each_join KindedStmt (statements a) (statements b) (kinded_statements a k.2) (kinded_statements b k.3))
  kinded_within (while w e a) k = (k, kinded_statements a k.2)

  pub kinded_statements : (b : Body) → KindedBody b → Each KindedStmt (statements b)
  kinded_statements (only s) k = kinded_within s k
  kinded_statements (and_then s b) k = each_join KindedStmt (within s) (statements b) (kinded_within s k.0) (kinded_statements b k.1)

-- a wait and an assignment have a name
abbrev pub NamedRow : ℕ → Token → Type 0
NamedRow k x = has_name k ≡ true → x.kind ≡ NAME

named_row : (s : Stmt) → KindedStmt s → NamedRow (stmt_entry s).kind (stmt_entry s).token
unfolding stmt_entry has_name
named_row (output x e) k h = k.0
named_row (assign x e) k h = k.0
named_row null k h = clash (sym h)
named_row (wait x) k h = k
named_row (if_then i e a) k h = clash (sym h)
named_row (if_else i e a b) k h = clash (sym h)
named_row (while w e a) k h = clash (sym h)

-- The rows.
rows_list : (ts : List Token) (rows : List ℕ) (j c : ℕ) → list_from (λ (i : ℕ). seen ts (row_in rows i)) j c ≡ map (seen ts) (rows_from rows j c)
unfolding list_from rows_from
rows_list ts rows j zero = refl
rows_list ts rows j (suc c) = ap (λ (l : List Line). seen ts (row_in rows j) ∷ l) (rows_list ts rows (j + 1) c)

lines_each : (h : ℕ → Token → List ℕ) (s m : ℕ) (es : List Entry)
    → each (λ (l : Line). h l.kind l.token) (lines_from s m es) ≡ each (λ (e : Entry). h e.kind e.token) es
unfolding each lines_from
lines_each h s m [] = refl
lines_each h s m (e ∷ es) = ap (λ (l : List ℕ). h e.kind e.token ++ l) (lines_each h (s + 1) (m + length e.items) es)

lines_named : (s m : ℕ) (es : List Entry) → Each (λ (e : Entry). NamedRow e.kind e.token) es
    → Each (λ (l : Line). NamedRow l.kind l.token) (lines_from s m es)
unfolding lines_from
lines_named s m [] p = tt
lines_named s m (e ∷ es) p = (p.0, lines_named (s + 1) (m + length e.items) es p.1)

entries_named : (b : Body) → KindedBody b → Each (λ (e : Entry). NamedRow e.kind e.token) (body_entries b)
entries_named b k =
    subst (λ (l : List Entry). Each (λ (e : Entry). NamedRow e.kind e.token) l) (sym (entries_are b))
    (all_map stmt_entry (λ (e : Entry). NamedRow e.kind e.token) (statements b)
    (all_imply KindedStmt (λ (s : Stmt). NamedRow (stmt_entry s).kind (stmt_entry s).token) named_row (statements b) (kinded_statements b k)))

-- a rule that goes by a statement's kind and token, over the rows
pub rows_lowest : (ts : List Token) (b : Body) (rows : List ℕ) (s : ℕ) → RowsIn ts (body_entries b) rows s → KindedBody b
    → (g : Stmt → List ℕ) (h : ℕ → Token → List ℕ) → ((x : Stmt) → g x ≡ h (stmt_entry x).kind (stmt_entry x).token)
    → (f : ℕ → Option ℕ) → ((j : ℕ) → NamedRow (get_or rows (6 * j) 0) (token_at ts (get_or rows (6 * j + 1) 0))
    → f j ≡ lowest_of (h (get_or rows (6 * j) 0) (token_at ts (get_or rows (6 * j + 1) 0))))
    → lowest_from f 0 s ≡ lowest_of (each g (statements b))
rows_lowest ts b rows s r k g h e f q =
    list_lowest (λ (i : ℕ). seen ts (row_in rows i)) rule (λ (l : Line). NamedRow l.kind l.token) f q 0 s
    (subst (λ (l : List Line). Each (λ (l : Line). NamedRow l.kind l.token) l) (sym lines) (lines_named 0 0 (body_entries b) (entries_named b k)))
    ∙ ap lowest_of (ap (each rule) lines ∙ (lines_each h 0 0 (body_entries b)
    ∙ (ap (each (λ (e : Entry). h e.kind e.token)) (entries_are b) ∙ (each_map stmt_entry (λ (e : Entry). h e.kind e.token) (statements b)
    ∙ sym (each_same g (λ (x : Stmt). h (stmt_entry x).kind (stmt_entry x).token) e (statements b))))))
  where
    rule : Line → List ℕ
    rule l = h l.kind l.token

    lines : list_from (λ (i : ℕ). seen ts (row_in rows i)) 0 s ≡ lines_from 0 0 (body_entries b)
    lines = rows_list ts rows 0 s ∙ r.are

-- A rule for names in expressions.
unfoldable pub of_names : (Token → List ℕ) → Expr → List ℕ
of_names r (number x) = []
of_names r (bit x) = []
of_names r (name x) = r x
of_names r (sign x a) = of_names r a
of_names r (negate x a) = of_names r a
of_names r (binary x a b) = of_names r a ++ of_names r b
of_names r (parens a) = of_names r a

unfoldable pub of_reads : (Token → List ℕ) → Stmt → List ℕ
of_reads r (output x e) = of_names r e
of_reads r (assign x e) = of_names r e
of_reads r null = []
of_reads r (wait x) = []
of_reads r (if_then i e a) = of_names r e
of_reads r (if_else i e a b) = of_names r e
of_reads r (while w e a) = of_names r e

-- the same of an item
abbrev pub of_item : (Token → List ℕ) → ℕ → Token → List ℕ
of_item r c x = choose (eqb c I.NAME) (r x) []

item_rule : (Token → List ℕ) → Item → List ℕ
item_rule r i = of_item r i.code i.token

-- what was found before an expression, its own, and what the items behind it have
names_steps : (r : Token → List ℕ) (q : List ℕ)
    → Steps (λ (e : Expr) (w : List ℕ). Unit {0}) (λ (e : Expr) (w : List ℕ). w ++ of_names r e) (λ (k : List Item) (w : List ℕ). w ++ each (item_rule r) k ≡ q)
unfolding each of_names item_rule
names_steps r q =
    record {
      number = λ x w k f c. sym (append_assoc w [] (each (item_rule r) k)) ∙ c;
      bit = λ x w k f c. sym (append_assoc w [] (each (item_rule r) k)) ∙ c;
      name = λ x w k f c. sym (append_assoc w (r x) (each (item_rule r) k)) ∙ c;
      sign = λ x a w k f. (tt, λ c. c);
      negate = λ x a w k f. (tt, λ c. c);
      binary = λ x a b w k f. (
        tt,
        tt,
        λ c. rw (operation_apart x.kind I.NAME (omega arith) (omega arith))
            (ap (λ (l : List ℕ). l ++ each (item_rule r) k) (append_assoc w (of_names r a) (of_names r b)) ∙ c),
      );
      parens = λ a w k f. (tt, λ c. c);
    }

names_postfix : (r : Token → List ℕ) (e : Expr) → each (item_rule r) (postfix e) ≡ of_names r e
unfolding each
names_postfix r e = postfix_whole (names_steps r (of_names r e)) e [] tt (append-nil (of_names r e))

names_entry : (r : Token → List ℕ) (s : Stmt) → each (item_rule r) (stmt_entry s).items ≡ of_reads r s
unfolding stmt_entry of_reads each
names_entry r (output x e) = names_postfix r e
names_entry r (assign x e) = names_postfix r e
names_entry r null = refl
names_entry r (wait x) = refl
names_entry r (if_then i e a) = names_postfix r e
names_entry r (if_else i e a b) = names_postfix r e
names_entry r (while w e a) = names_postfix r e

items_each : (g : Item → List ℕ) (es : List Entry) → each g (entry_items es) ≡ each (λ (e : Entry). each g e.items) es
unfolding each entry_items
items_each g [] = refl
items_each g (e ∷ es) = each_append g e.items (entry_items es) ∙ ap (λ (l : List ℕ). each g e.items ++ l) (items_each g es)

named_entry : (s : Stmt) → KindedStmt s → Each IsNamed (stmt_entry s).items
unfolding stmt_entry
named_entry (output x e) k = postfix_named e k.1
named_entry (assign x e) k = postfix_named e k.1
named_entry null k = tt
named_entry (wait x) k = tt
named_entry (if_then i e a) k = postfix_named e k.1
named_entry (if_else i e a b) k = postfix_named e k.1
named_entry (while w e a) k = postfix_named e k.1

all_items : (l : List Stmt) → Each KindedStmt l → Each IsNamed (entry_items (map stmt_entry l))
unfolding entry_items
all_items [] p = tt
all_items (s ∷ l) p = each_join IsNamed (stmt_entry s).items (entry_items (map stmt_entry l)) (named_entry s p.0) (all_items l p.1)

items_list : (ts : List Token) (codes indices : List ℕ) (j c : ℕ) → list_from (λ (i : ℕ). item_of (get_or codes i 0) (token_at ts (get_or indices i 0))) j c
    ≡ map (item_at_index ts) (placed_from codes indices j c)
unfolding list_from placed_from
items_list ts codes indices j zero = refl
items_list ts codes indices j (suc c) = ap (λ (l : List Item). item_of (get_or codes j 0) (token_at ts (get_or indices j 0)) ∷ l)
    (items_list ts codes indices (j + 1) c)

-- a rule for the names in the expressions, over the items
pub items_lowest : (ts : List Token) (b : Body) (codes indices : List ℕ) (k : ℕ) → ItemsIn ts (entry_items (body_entries b)) codes indices k → KindedBody b
    → (r : Token → List ℕ) (f : ℕ → Option ℕ) → ((j : ℕ) → NamedItem (get_or codes j 0) (token_at ts (get_or indices j 0))
    → f j ≡ lowest_of (of_item r (get_or codes j 0) (token_at ts (get_or indices j 0))))
    → lowest_from f 0 k ≡ lowest_of (each (of_reads r) (statements b))
unfolding item_rule
items_lowest ts b codes indices k i q r f h =
    list_lowest (λ (j : ℕ). item_of (get_or codes j 0) (token_at ts (get_or indices j 0))) (item_rule r) IsNamed f h 0 k
    (subst (λ (l : List Item). Each IsNamed l) (sym items) (all_items (statements b) (kinded_statements b q)))
    ∙ ap lowest_of (ap (each (item_rule r)) items ∙ (items_each (item_rule r) (map stmt_entry (statements b))
    ∙ (each_map stmt_entry (λ (e : Entry). each (item_rule r) e.items) (statements b)
    ∙ each_same (λ (s : Stmt). each (item_rule r) (stmt_entry s).items) (of_reads r) (names_entry r) (statements b))))
  where
    items : list_from (λ (j : ℕ). item_of (get_or codes j 0) (token_at ts (get_or indices j 0))) 0 k ≡ entry_items (map stmt_entry (statements b))
    items = items_list ts codes indices 0 k ∙ (i.are ∙ ap entry_items (entries_are b))
