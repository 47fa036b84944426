-- The stage by position answers the lowest offence of refusal 8 of the tree that the arrays hold. Assumes nothing.
use mathlib.Core.Path.{◌≡◌, refl, sym, ◌∙◌, ap}
use mathlib.Core.Bool.{Bool, true, false, cond, not, ◌&&◌}
use mathlib.Core.Option.{Option, none, some}
use mathlib.Core.List.{List, [], ◌++◌}
use Prim.Native.Nat.{ℕ, ◌+◌, ◌*◌, ◌≤◌, ◌<◌, min}
use native.Mathlib.Omega.{arith}
use Rattle.std.specs.Prelude.{None, Some}
use Rattle.std.specs.Prelude as P
use borrow.Author.Tests.{lt-ltb, le-ltb, eqb-true}
use lib.Dec.{eqb, ltb}
use lib.ListN.{get_or}
use Rattle.spec_grammar.specs.Token.{Token}
use Rattle.base_codes.specs.Token.{NAME}
use Rattle.base_codes.specs.Item as I
use Rattle.spec_grammar.specs.Tree.{Expr, number, bit, name, sign, negate, binary, parens, Stmt, output, assign, null, wait, if_then, if_else, while, Mode}
use Rattle.spec_grammar.specs.Tree.{input, output_port, variable_mode, Text}
use Rattle.spec_grammar.specs.Reader.{choose}
use Rattle.spec_design.specs.Types.{Ty, std_logic, integer, type_byte}
use Rattle.spec_language.specs.Lists.{unless, each, lowest}
use Rattle.spec_language.specs.Declarations.{Decl, declared, find, is_a, statements, is_input, is_logic, clock_like, clock_of}
use Rattle.spec_language.specs.Elaboration.{position}
use Rattle.spec_language.specs.Names.{names, differs, doubled, names_of}
use Rattle.spec_language.specs.Clock as C
use Rattle.spec_language.specs.Clock.{reads_of, strays, clock_for, clock}
use Rattle.spec_language.proofs.Facts.{both_nil}
use Rattle.front_layout.specs.Tokens.{token_at}
use Rattle.front_layout.specs.Arrays.{number_in}
use Rattle.front_layout.specs.Entries.{stmt_entry}
use Rattle.front_layout.specs.Headings.{mode_code}
use Rattle.front_offences.specs.Lowest.{lowest_of, lower, lowest_from}
use Rattle.front_offences.specs.Lowest as L
use Rattle.front_offences.proofs.Lowest.{lower_none, lowest_append, lowest_unless}
use Rattle.front_offences.specs.declared.Shape.{Shape}
use Rattle.front_offences.specs.Laid.{Laid}
use Rattle.front_offences.specs.Positions.{has_name}
use Rattle.front_offences.proofs.Loops.{each_same}
use Rattle.front_offences.proofs.Bodies.{NamedRow, NamedItem, of_names, of_reads, of_item, rows_lowest, items_lowest}
use Rattle.front_offences.proofs.Owners.{mode_of, type_of, mode_found, type_found, same_owner}
use Rattle.front_offences.proofs.Tokens.{kind_inside, place_is, owner_is, picked, passed}
use Rattle.front_clock.specs.Positions.{wait_in, owner_in, stray_at, read_at, is_clock_in, strays_in, reads_in, lowest_over, lowest_in}
use Rattle.front_clock.specs.Judges.{Held, owner_of, Owns}
use Rattle.front_clock.proofs.First.{First, nowhere, there, rows_first, Declared, by, wait_declared}

-- The rules of a statement and of a name.
stray_rule : ℕ → ℕ → Token → List ℕ
stray_rule v k x = choose (eqb k 0) (unless (eqb x.value v) x.place) []

stray_rule_lem : (v : ℕ) (s : Stmt) → strays v s ≡ stray_rule v (stmt_entry s).kind (stmt_entry s).token
unfolding strays stray_rule stmt_entry
stray_rule_lem v (output x e) = refl
stray_rule_lem v (assign x e) = refl
stray_rule_lem v null = refl
stray_rule_lem v (wait x) = refl
stray_rule_lem v (if_then i e a) = refl
stray_rule_lem v (if_else i e a b) = refl
stray_rule_lem v (while w e a) = refl

read_rule : ℕ → Token → List ℕ
read_rule v x = unless (not (eqb x.value v)) x.place

read_expr_lem : (v : ℕ) (e : Expr) → C.reads_in v e ≡ of_names (read_rule v) e
unfolding C.reads_in of_names read_rule
read_expr_lem v (number x) = refl
read_expr_lem v (bit x) = refl
read_expr_lem v (name x) = refl
read_expr_lem v (sign x a) = read_expr_lem v a
read_expr_lem v (negate x a) = read_expr_lem v a
read_expr_lem v (binary x a b) = rw (read_expr_lem v a, read_expr_lem v b)
read_expr_lem v (parens a) = read_expr_lem v a

read_rule_lem : (v : ℕ) (s : Stmt) → reads_of v s ≡ of_reads (read_rule v) s
unfolding reads_of of_reads
read_rule_lem v (output x e) = read_expr_lem v e
read_rule_lem v (assign x e) = read_expr_lem v e
read_rule_lem v null = refl
read_rule_lem v (wait x) = refl
read_rule_lem v (if_then i e a) = read_expr_lem v e
read_rule_lem v (if_else i e a b) = read_expr_lem v e
read_rule_lem v (while w e a) = read_expr_lem v e

-- a std_logic input, by its codes
mode_type : (m : Mode) (y : Ty) → choose (eqb (mode_code m) 0) (eqb (type_byte y) 0) false ≡ is_input m && is_logic y
unfolding mode_code is_input is_logic
mode_type input std_logic = refl
mode_type input integer = refl
mode_type output_port y = refl
mode_type variable_mode y = refl

clock_codes : (o : Option Decl) → choose (eqb (mode_of o) 0) (eqb (type_of o) 0) false ≡ is_a clock_like o
unfolding mode_of type_of is_a clock_like
clock_codes none = refl
clock_codes (some d) = mode_type d.mode d.type

-- the lowest of clock_for, by its parts
for_parts : (Δ : List Decl) (l : List Stmt) (w : Token) (ok : Bool) → is_a clock_like (find Δ w.value) ≡ ok
    → lowest_of (clock_for Δ l (some w)) ≡ lower (lowest_of (unless ok w.place))
    (lower (lowest_of (each (strays w.value) l)) (lowest_of (cond ok (each (reads_of w.value) l) [])))
unfolding clock_for
for_parts Δ l w ok e =
    rw e (lowest_append (unless ok w.place) (each (strays w.value) l ++ cond ok (each (reads_of w.value) l) [])
    ∙ ap (lower (lowest_of (unless ok w.place))) (lowest_append (each (strays w.value) l) (cond ok (each (reads_of w.value) l) [])))

parts_same : (ok : Bool) (p : ℕ) (S : P.Option ℕ) (l : List ℕ) (p' : ℕ) (S' R : P.Option ℕ) → p ≡ p' → S ≡ S' → lowest_of l ≡ R
    → lower (lowest_of (unless ok p)) (lower S (lowest_of (cond ok l []))) ≡ choose ok (lower S' R) (lower (Some p') S')
unfolding unless L.option_of lowest lower
parts_same true p S l p' S' R e f g = ap (λ (a : P.Option ℕ). lower a (lowest_of l)) f ∙ ap (lower S') g
parts_same false p S l p' S' R e f g =
    ap (λ (a : P.Option ℕ). lower a (lower S None)) (lowest_unless false p refl ∙ ap Some e) ∙ ap (lower (Some p')) (lower_none S ∙ f)

module _ (ts : List Token) (t : Text) (kinds places : List ℕ) (n : ℕ) (codes indices : List ℕ) (k : ℕ) (rows : List ℕ) (s : ℕ) (decls : List ℕ) (d : ℕ)
    (owners : List ℕ)
    (laid : Laid ts t kinds places n codes indices k rows s decls d owners) where
  few_rows : min s 512 ≡ s
  few_rows = let h = laid.of_rows.short in omega arith

  few_items : min k 16384 ≡ k
  few_items = let h = laid.of_items.short in omega arith

  -- where the name with the value v is declared
  module _ (v : ℕ) (x : Decl) (e : find (declared t) v ≡ some x) where
    owned : (i : ℕ) → (token_at ts i).kind ≡ NAME → eqb (number_in owners n i) (position (declared t) v) ≡ eqb (token_at ts i).value v
    owned i h = ap (λ (o : ℕ). eqb o (position (declared t) v)) (owner_is laid.of_tokens i (declared t) owners laid.of_owners h)
        ∙ same_owner (declared t) (token_at ts i).value v x e

    stray_is : (j : ℕ) → NamedRow (get_or rows (6 * j) 0) (token_at ts (get_or rows (6 * j + 1) 0))
        → stray_at rows places owners n (position (declared t) v) j ≡ lowest_of (stray_rule v (get_or rows (6 * j) 0) (token_at ts (get_or rows (6 * j + 1) 0)))
    unfolding stray_at stray_rule has_name L.option_of lowest
    stray_is j h = go (eqb (get_or rows (6 * j) 0) 0) refl
      where
        go : (b : Bool) → eqb (get_or rows (6 * j) 0) 0 ≡ b
            → choose b (lowest_of (unless (eqb (number_in owners n (get_or rows (6 * j + 1) 0)) (position (declared t) v))
            (number_in places n (get_or rows (6 * j + 1) 0)))) None
            ≡ lowest_of (choose b (unless (eqb (token_at ts (get_or rows (6 * j + 1) 0)).value v) (token_at ts (get_or rows (6 * j + 1) 0)).place) [])
        go true q =
            let z = eqb-true (get_or rows (6 * j) 0) 0 q in
            ap (λ (b : Bool). lowest_of (unless b (number_in places n (get_or rows (6 * j + 1) 0)))) (owned (get_or rows (6 * j + 1) 0) (h (ap has_name z)))
            ∙ ap (λ (p : ℕ). lowest_of (unless (eqb (token_at ts (get_or rows (6 * j + 1) 0)).value v) p)) (place_is laid.of_tokens (get_or rows (6 * j + 1) 0))
        go false q = refl

    strays_are : strays_in rows s places owners n (position (declared t) v) ≡ lowest_of (each (strays v) (statements t.body))
    strays_are =
        ap (lowest_from (stray_at rows places owners n (position (declared t) v)) 0) few_rows
        ∙ rows_lowest ts t.body rows s laid.of_rows laid.kinded.body (strays v) (stray_rule v) (stray_rule_lem v)
        (stray_at rows places owners n (position (declared t) v)) stray_is

    read_is : (j : ℕ) → NamedItem (get_or codes j 0) (token_at ts (get_or indices j 0))
        → read_at codes indices places owners n (position (declared t) v) j ≡ lowest_of (of_item (read_rule v) (get_or codes j 0) (token_at ts (get_or indices j 0)))
    unfolding read_at read_rule L.option_of lowest
    read_is j h = go (eqb (get_or codes j 0) I.NAME) refl
      where
        go : (b : Bool) → eqb (get_or codes j 0) I.NAME ≡ b
            → choose b (lowest_of (unless (not (eqb (number_in owners n (get_or indices j 0)) (position (declared t) v))) (number_in places n (get_or indices j 0)))) None
            ≡ lowest_of (choose b (unless (not (eqb (token_at ts (get_or indices j 0)).value v)) (token_at ts (get_or indices j 0)).place) [])
        go true q =
            ap (λ (b : Bool). lowest_of (unless (not b) (number_in places n (get_or indices j 0))))
            (owned (get_or indices j 0) (h (eqb-true (get_or codes j 0) I.NAME q)))
            ∙ ap (λ (p : ℕ). lowest_of (unless (not (eqb (token_at ts (get_or indices j 0)).value v)) p)) (place_is laid.of_tokens (get_or indices j 0))
        go false q = refl

    reads_are : reads_in codes indices k places owners n (position (declared t) v) ≡ lowest_of (each (reads_of v) (statements t.body))
    reads_are =
        ap (lowest_from (read_at codes indices places owners n (position (declared t) v)) 0) few_items
        ∙ (items_lowest ts t.body codes indices k laid.of_items laid.kinded.body (read_rule v)
        (read_at codes indices places owners n (position (declared t) v)) read_is
        ∙ ap lowest_of (sym (each_same (reads_of v) (of_reads (read_rule v)) (read_rule_lem v) (statements t.body))))

  clock_is : (v : ℕ) → is_clock_in decls d (position (declared t) v) ≡ is_a clock_like (find (declared t) v)
  clock_is v = rw (mode_found ts t decls d laid.of_decls v, type_found ts t decls d laid.of_decls v) (clock_codes (find (declared t) v))

  first_is : First ts (wait_in rows s) (clock_of t)
  unfolding clock_of
  first_is = rw few_rows (rows_first ts t.body rows s laid.of_rows laid.kinded.body)

  -- the number of the clock's declaration
  pub owner_law : owner_in rows s owners n ≡ owner_of (declared t) (clock_of t)
  unfolding owner_of
  owner_law = go (clock_of t) first_is
    where
      go : (o : Option Token) → First ts (wait_in rows s) o → owner_in rows s owners n ≡ owner_of (declared t) o
      go none (nowhere e) = let h = laid.of_tokens.short in sym (passed (ltb (wait_in rows s) n) _ _ _ (le-ltb (wait_in rows s) n (omega arith)) refl)
      go (some x) (there y e k) =
          let q : (token_at ts (wait_in rows s)).kind ≡ NAME = ap (λ (z : Token). z.kind) e ∙ k in
          let h : wait_in rows s < n = kind_inside laid.of_tokens (wait_in rows s) NAME q (omega arith) in
          sym (picked (ltb (wait_in rows s) n) _ _ _ (lt-ltb (wait_in rows s) n h)
          (ap (λ (z : Token). position (declared t) z.value) (sym e)
          ∙ sym (owner_is laid.of_tokens (wait_in rows s) (declared t) owners laid.of_owners q)))

  names_stmts : names t ≡ [] → each (names_of (declared t)) (statements t.body) ≡ []
  unfolding names
  names_stmts e =
      let a = both_nil (differs t.end_of_entity t.entity) _ e in
      let b = both_nil (differs t.of_arch t.entity) _ a.1 in
      let c = both_nil (differs t.end_of_arch t.arch) _ b.1 in
      (both_nil (doubled (declared t)) _ c.1).1

  lowest_there : (x : Token) → Declared (declared t) x.value → token_at ts (wait_in rows s) ≡ x → x.kind ≡ NAME
      → lowest_over places n codes indices k rows s decls d owners ≡ lowest_of (clock_for (declared t) (statements t.body) (some x))
  unfolding lowest_over
  lowest_there x (by y f) e h =
      let q : (token_at ts (wait_in rows s)).kind ≡ NAME = ap (λ (z : Token). z.kind) e ∙ h in
      let i : wait_in rows s < n = kind_inside laid.of_tokens (wait_in rows s) NAME q (omega arith) in
      let o : number_in owners n (wait_in rows s) ≡ position (declared t) x.value =
      owner_is laid.of_tokens (wait_in rows s) (declared t) owners laid.of_owners q ∙ ap (λ (z : Token). position (declared t) z.value) e in
      let p : number_in places n (wait_in rows s) ≡ x.place = place_is laid.of_tokens (wait_in rows s) ∙ ap (λ (z : Token). z.place) e in
      sym (picked (ltb (wait_in rows s) n) _ _ _ (lt-ltb (wait_in rows s) n i)
      (go (number_in owners n (wait_in rows s)) o (number_in places n (wait_in rows s)) p (is_a clock_like (find (declared t) x.value)) refl))
    where
      go : (o : ℕ) → o ≡ position (declared t) x.value → (p : ℕ) → p ≡ x.place → (ok : Bool) → is_a clock_like (find (declared t) x.value) ≡ ok
          → lowest_of (clock_for (declared t) (statements t.body) (some x))
          ≡ choose (is_clock_in decls d o) (lower (strays_in rows s places owners n o) (reads_in codes indices k places owners n o))
          (lower (Some p) (strays_in rows s places owners n o))
      go o w p v ok c =
          for_parts (declared t) (statements t.body) x ok c
          ∙ (parts_same ok x.place (lowest_of (each (strays x.value) (statements t.body))) (each (reads_of x.value) (statements t.body))
          p (strays_in rows s places owners n o) (reads_in codes indices k places owners n o) (sym v)
          (sym (ap (strays_in rows s places owners n) w ∙ strays_are x.value y f))
          (sym (ap (reads_in codes indices k places owners n) w ∙ reads_are x.value y f))
          ∙ ap (λ (b : Bool). choose b (lower (strays_in rows s places owners n o) (reads_in codes indices k places owners n o))
          (lower (Some p) (strays_in rows s places owners n o)))
          (sym (ap (is_clock_in decls d) w ∙ (clock_is x.value ∙ c))))

  lowest_none : n ≤ wait_in rows s → lowest_over places n codes indices k rows s decls d owners ≡ lowest_of (clock_for (declared t) (statements t.body) none)
  unfolding lowest_over clock_for L.option_of lowest
  lowest_none h = sym (passed (ltb (wait_in rows s) n) _ _ _ (le-ltb (wait_in rows s) n h) refl)

  lowest_is : names t ≡ [] → lowest_over places n codes indices k rows s decls d owners ≡ lowest_of (clock t)
  unfolding clock clock_of
  lowest_is e = go (clock_of t) refl first_is
    where
      go : (o : Option Token) → clock_of t ≡ o → First ts (wait_in rows s) o → lowest_over places n codes indices k rows s decls d owners
          ≡ lowest_of (clock_for (declared t) (statements t.body) o)
      go none q (nowhere z) = lowest_none (let h = laid.of_tokens.short in omega arith)
      go (some x) q (there y z h) = lowest_there x (wait_declared (declared t) (statements t.body) x (names_stmts e) q) z h

pub owns : (rows : List ℕ) (s : ℕ) (owners : List ℕ) (n r : ℕ) → r ≡ owner_in rows s owners n → Owns rows s owners n r
owns rows s owners n r e =
    record { answer = e; clocks = λ ts t kinds places codes indices k decls d l. e ∙ owner_law ts t kinds places n codes indices k rows s decls d owners l }

-- THE LAW
pub exact : (starts : List ℕ) (p : Shape) (codes indices rows decls owners : List ℕ) (t : Text) → Held starts p codes indices rows decls owners t
    → lowest_in starts p codes indices rows decls owners ≡ lowest_of (clock t)
exact starts p codes indices rows decls owners t h =
    lowest_is h.tokens t h.kinds starts p.tokens codes indices p.items rows p.statements decls p.names owners h.laid h.named
