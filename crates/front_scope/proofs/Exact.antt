-- The stage by position answers the lowest offence of refusal 5 of the tree that the arrays hold. Assumes nothing.
use mathlib.Core.Path.{◌≡◌, refl, sym, ◌∙◌, ap}
use mathlib.Core.Bool.{Bool, true, false, cond, not, ◌&&◌}
use mathlib.Core.Option.{Option, none, some}
use mathlib.Core.List.{List, [], ◌∷◌, ◌++◌, map}
use Prim.Native.Nat.{ℕ, zero, suc, ◌+◌, ◌*◌, min}
use native.Mathlib.Omega.{arith}
use Rattle.std.specs.Prelude.{None, Some}
use Rattle.std.specs.Prelude as P
use borrow.Author.Tests.{eqb-true, eqb-false, eq-eqb, ne_eqb}
use lib.Dec.{eqb, eqb-suc-suc}
use lib.ListN.{get_or}
use Rattle.spec_grammar.specs.Token.{Token}
use Rattle.base_codes.specs.Token.{NAME}
use Rattle.base_codes.specs.Item as I
use Rattle.spec_grammar.specs.Tree.{Expr, number, bit, name, sign, negate, binary, parens, Stmt, output, assign, null, wait, if_then, if_else, while, Mode}
use Rattle.spec_grammar.specs.Tree.{input, output_port, variable_mode, Text}
use Rattle.spec_grammar.specs.Reader.{choose}
use Rattle.spec_grammar.specs.Limits.{Each}
use Rattle.spec_language.specs.Lists.{unless, each, lowest}
use Rattle.spec_language.specs.Declarations.{Decl, declared, find, is_a, statements, is_output, is_variable}
use Rattle.spec_language.specs.Elaboration.{position}
use Rattle.spec_language.specs.Names as N
use Rattle.spec_language.specs.Names.{again, doubled, readable, names_of, differs, names}
use Rattle.front_layout.specs.Tokens.{token_at}
use Rattle.front_layout.specs.Arrays.{number_in}
use Rattle.front_layout.specs.Entries.{stmt_entry}
use Rattle.front_layout.specs.Headings.{mode_code}
use Rattle.front_offences.specs.Lowest.{lowest_of, lower, lowest_from}
use Rattle.front_offences.specs.Lowest as L
use Rattle.front_offences.proofs.Lowest.{lower_none, lower_assoc, lowest_append, lowest_fine}
use Rattle.front_offences.specs.declared.Shape.{Shape}
use Rattle.front_offences.specs.Laid.{Laid}
use Rattle.front_offences.specs.Positions.{has_name, mode_in}
use Rattle.front_offences.proofs.Loops.{list_from}
use Rattle.front_offences.proofs.Lowers.{lower_swap, both_unless, each_split}
use Rattle.front_offences.proofs.Bodies.{NamedRow, NamedItem, of_names, of_reads, of_item, rows_lowest, items_lowest}
use Rattle.front_offences.proofs.Owners.{Outline, of_decl, outline_in, decls_are, mode_of, mode_found}
use Rattle.front_offences.proofs.Tokens.{place_is, owner_is}
use Rattle.front_scope.specs.Positions.{differs_in, doubled_at, fits_in, target_at, readable_in, read_at, doubled_in, targets_in, reads_in, lowest_in}
use Rattle.front_limits.specs.Words.{WordsIn}
use Rattle.front_scope.specs.Judges.{HeadsIn, Held}
use Rattle.front_scope.proofs.Resolved.{Named, named_declared, same_tokens}

-- Declared twice: a declaration whose name has another number than its own.
misplaced : (ℕ → ℕ) → ℕ → List Decl → P.Option ℕ
misplaced pos j [] = None
misplaced pos j (d ∷ ds) = lower (lowest_of (unless (eqb (pos d.name.value) j) d.name.place)) (misplaced pos (j + 1) ds)

-- one declaration more in front
module _ (v : ℕ) (pos : ℕ → ℕ) where
  later : ℕ → ℕ
  later u = cond (eqb v u) zero (suc (pos u))

  later_test : (u i j : ℕ) → i ≡ suc j → eqb (later u) i ≡ not (eqb u v) && eqb (pos u) j
  unfolding later
  later_test u i j e = go (eqb v u) refl
    where
      go : (b : Bool) → eqb v u ≡ b → eqb (cond b zero (suc (pos u))) i ≡ not (eqb u v) && eqb (pos u) j
      go true q = ne_eqb zero i (λ z. omega arith) ∙ sym (ap (λ (b : Bool). not b && eqb (pos u) j) (eq-eqb u v (sym (eqb-true v u q))))
      go false q =
          ap (eqb (suc (pos u))) e ∙ (eqb-suc-suc (pos u) j ∙ sym (ap (λ (b : Bool). not b && eqb (pos u) j) (ne_eqb u v (λ z. eqb-false v u q (sym z)))))

  misplaced_later : (i j : ℕ) → i ≡ suc j → (ds : List Decl) → misplaced later i ds ≡ lower (lowest_of (again v ds)) (misplaced pos j ds)
  unfolding misplaced again each L.option_of lowest lower
  misplaced_later i j e [] = refl
  misplaced_later i j e (d ∷ ds) =
      ap (λ (x : P.Option ℕ). lower x (misplaced later (i + 1) ds))
      (ap (λ (b : Bool). lowest_of (unless b d.name.place)) (later_test d.name.value i j e)
      ∙ both_unless (not (eqb d.name.value v)) (eqb (pos d.name.value) j) d.name.place)
      ∙ (ap (lower (lower (lowest_of (unless (not (eqb d.name.value v)) d.name.place))
      (lowest_of (unless (eqb (pos d.name.value) j) d.name.place))))
      (misplaced_later (i + 1) (j + 1) (omega arith) ds)
      ∙ (lower_swap (lowest_of (unless (not (eqb d.name.value v)) d.name.place)) (lowest_of (unless (eqb (pos d.name.value) j) d.name.place))
      (lowest_of (again v ds)) (misplaced pos (j + 1) ds)
      ∙ ap (λ (x : P.Option ℕ). lower x (lower (lowest_of (unless (eqb (pos d.name.value) j) d.name.place)) (misplaced pos (j + 1) ds)))
      (sym (lowest_append (unless (not (eqb d.name.value v)) d.name.place) (again v ds)))))

misplaced_doubled : (Δ : List Decl) → misplaced (position Δ) 0 Δ ≡ lowest_of (doubled Δ)
unfolding misplaced doubled L.option_of lowest lower position later
misplaced_doubled [] = refl
misplaced_doubled (d ∷ ds) =
    let z : eqb (position (d ∷ ds) d.name.value) 0 ≡ true = rw (eq-eqb d.name.value d.name.value refl) in
    ap (λ (x : P.Option ℕ). lower x (misplaced (position (d ∷ ds)) (0 + 1) ds)) (lowest_fine (eqb (position (d ∷ ds) d.name.value) 0) d.name.place z)
    ∙ (misplaced_later d.name.value (position ds) (0 + 1) 0 (omega arith) ds
    ∙ (ap (lower (lowest_of (again d.name.value ds))) (misplaced_doubled ds) ∙ sym (lowest_append (again d.name.value ds) (doubled ds))))

-- The rules of a statement and of a name.
target_rule : List Decl → ℕ → Token → List ℕ
target_rule Δ k x = choose (has_name k) (unless (fits_in k (mode_of (find Δ x.value))) x.place) []

target_of : List Decl → Stmt → List ℕ
target_of Δ s = target_rule Δ (stmt_entry s).kind (stmt_entry s).token

read_rule : List Decl → Token → List ℕ
read_rule Δ x = unless (is_a readable (find Δ x.value)) x.place

read_expr_lem : (Δ : List Decl) (e : Expr) → N.names_in Δ e ≡ of_names (read_rule Δ) e
unfolding N.names_in of_names read_rule
read_expr_lem Δ (number x) = refl
read_expr_lem Δ (bit x) = refl
read_expr_lem Δ (name x) = refl
read_expr_lem Δ (sign x a) = read_expr_lem Δ a
read_expr_lem Δ (negate x a) = read_expr_lem Δ a
read_expr_lem Δ (binary x a b) = rw (read_expr_lem Δ a, read_expr_lem Δ b)
read_expr_lem Δ (parens a) = read_expr_lem Δ a

-- the tests by the codes of the modes
mode_output : (m : Mode) → is_output m ≡ eqb (mode_code m) 1
unfolding is_output mode_code
mode_output input = refl
mode_output output_port = refl
mode_output variable_mode = refl

mode_variable : (m : Mode) → is_variable m ≡ eqb (mode_code m) 2
unfolding is_variable mode_code
mode_variable input = refl
mode_variable output_port = refl
mode_variable variable_mode = refl

mode_some : (m : Mode) → true ≡ not (eqb (mode_code m) 3)
unfolding mode_code
mode_some input = refl
mode_some output_port = refl
mode_some variable_mode = refl

mode_readable : (m : Mode) → readable_in (mode_code m) ≡ not (is_output m)
unfolding is_output mode_code readable_in
mode_readable input = refl
mode_readable output_port = refl
mode_readable variable_mode = refl

output_code : (o : Option Decl) → is_a (λ d. is_output d.mode) o ≡ eqb (mode_of o) 1
unfolding is_a mode_of
output_code none = refl
output_code (some d) = mode_output d.mode

variable_code : (o : Option Decl) → is_a (λ d. is_variable d.mode) o ≡ eqb (mode_of o) 2
unfolding is_a mode_of
variable_code none = refl
variable_code (some d) = mode_variable d.mode

declared_code_lem : (o : Option Decl) → is_a (λ d. true) o ≡ not (eqb (mode_of o) 3)
unfolding is_a mode_of
declared_code_lem none = refl
declared_code_lem (some d) = mode_some d.mode

readable_code : (o : Option Decl) → readable_in (mode_of o) ≡ is_a readable o
unfolding is_a mode_of readable readable_in
readable_code none = refl
readable_code (some d) = mode_readable d.mode

-- a statement's offences are that of its name and those of its expression
module _ (Δ : List Decl) where
  assigned : (a b : Bool) (p : ℕ) (e : Expr) → a ≡ b → lowest_of (unless a p ++ N.names_in Δ e)
      ≡ lower (lowest_of (unless b p)) (lowest_of (of_names (read_rule Δ) e))
  assigned a b p e h =
      lowest_append (unless a p) (N.names_in Δ e)
      ∙ (ap (λ (c : Bool). lower (lowest_of (unless c p)) (lowest_of (N.names_in Δ e))) h
      ∙ ap (λ (l : List ℕ). lower (lowest_of (unless b p)) (lowest_of l)) (read_expr_lem Δ e))

  names_split : (s : Stmt) → lowest_of (names_of Δ s) ≡ lower (lowest_of (target_of Δ s)) (lowest_of (of_reads (read_rule Δ) s))
  unfolding names_of target_of target_rule has_name stmt_entry of_reads fits_in L.option_of lowest lower
  names_split (output x e) = assigned (is_a (λ d. is_output d.mode) (find Δ x.value)) (eqb (mode_of (find Δ x.value)) 1) x.place e
      (output_code (find Δ x.value))
  names_split (assign x e) = assigned (is_a (λ d. is_variable d.mode) (find Δ x.value)) (eqb (mode_of (find Δ x.value)) 2) x.place e
      (variable_code (find Δ x.value))
  names_split null = refl
  names_split (wait x) =
      ap (λ (b : Bool). lowest_of (unless b x.place)) (declared_code_lem (find Δ x.value))
      ∙ sym (lower_none (lowest_of (unless (not (eqb (mode_of (find Δ x.value)) 3)) x.place)))
  names_split (if_then i e a) = ap lowest_of (read_expr_lem Δ e)
  names_split (if_else i e a b) = ap lowest_of (read_expr_lem Δ e)
  names_split (while w e a) = ap lowest_of (read_expr_lem Δ e)

module _ (text sizes : List ℕ) (ts : List Token) (t : Text) (kinds starts : List ℕ) (n : ℕ) (codes indices : List ℕ) (k : ℕ) (rows : List ℕ) (s : ℕ)
    (decls : List ℕ) (d : ℕ) (owners : List ℕ)
    (laid : Laid ts t kinds starts n codes indices k rows s decls d owners) where
  -- the mode under the number of the name at an index
  mode_at_lem : (i : ℕ) → (token_at ts i).kind ≡ NAME → mode_in decls d (number_in owners n i) ≡ mode_of (find (declared t) (token_at ts i).value)
  mode_at_lem i h = ap (mode_in decls d) (owner_is laid.of_tokens i (declared t) owners laid.of_owners h)
      ∙ mode_found ts t decls d laid.of_decls (token_at ts i).value

  target_is : (j : ℕ) → NamedRow (get_or rows (6 * j) 0) (token_at ts (get_or rows (6 * j + 1) 0))
      → target_at rows starts owners n decls d j ≡ lowest_of (target_rule (declared t) (get_or rows (6 * j) 0) (token_at ts (get_or rows (6 * j + 1) 0)))
  unfolding target_at target_rule L.option_of lowest
  target_is j h = go (has_name (get_or rows (6 * j) 0)) refl
    where
      go : (b : Bool) → has_name (get_or rows (6 * j) 0) ≡ b
          → choose b (lowest_of (unless (fits_in (get_or rows (6 * j) 0) (mode_in decls d (number_in owners n (get_or rows (6 * j + 1) 0))))
          (number_in starts n (get_or rows (6 * j + 1) 0)))) None
          ≡ lowest_of (choose b (unless (fits_in (get_or rows (6 * j) 0) (mode_of (find (declared t) (token_at ts (get_or rows (6 * j + 1) 0)).value)))
          (token_at ts (get_or rows (6 * j + 1) 0)).place) [])
      go true q =
          ap (λ (m : ℕ). lowest_of (unless (fits_in (get_or rows (6 * j) 0) m) (number_in starts n (get_or rows (6 * j + 1) 0))))
          (mode_at_lem (get_or rows (6 * j + 1) 0) (h q))
          ∙ ap (λ (p : ℕ). lowest_of (unless (fits_in (get_or rows (6 * j) 0) (mode_of (find (declared t) (token_at ts (get_or rows (6 * j + 1) 0)).value))) p))
          (place_is laid.of_tokens (get_or rows (6 * j + 1) 0))
      go false q = refl

  targets_are : targets_in rows s starts owners n decls d ≡ lowest_of (each (target_of (declared t)) (statements t.body))
  unfolding target_of
  targets_are =
      let e : min s 512 ≡ s = let h = laid.of_rows.short in omega arith in
      ap (lowest_from (target_at rows starts owners n decls d) 0) e
      ∙ rows_lowest ts t.body rows s laid.of_rows laid.kinded.body (target_of (declared t)) (target_rule (declared t)) (λ x. refl)
      (target_at rows starts owners n decls d) target_is

  read_is : (j : ℕ) → NamedItem (get_or codes j 0) (token_at ts (get_or indices j 0))
      → read_at codes indices starts owners n decls d j ≡ lowest_of (of_item (read_rule (declared t)) (get_or codes j 0) (token_at ts (get_or indices j 0)))
  unfolding read_at read_rule L.option_of lowest
  read_is j h = go (eqb (get_or codes j 0) I.NAME) refl
    where
      go : (b : Bool) → eqb (get_or codes j 0) I.NAME ≡ b
          → choose b (lowest_of (unless (readable_in (mode_in decls d (number_in owners n (get_or indices j 0)))) (number_in starts n (get_or indices j 0)))) None
          ≡ lowest_of (choose b (unless (is_a readable (find (declared t) (token_at ts (get_or indices j 0)).value)) (token_at ts (get_or indices j 0)).place) [])
      go true q =
          ap (λ (b : Bool). lowest_of (unless b (number_in starts n (get_or indices j 0))))
          (ap readable_in (mode_at_lem (get_or indices j 0) (h (eqb-true (get_or codes j 0) I.NAME q)))
          ∙ readable_code (find (declared t) (token_at ts (get_or indices j 0)).value))
          ∙ ap (λ (p : ℕ). lowest_of (unless (is_a readable (find (declared t) (token_at ts (get_or indices j 0)).value)) p))
          (place_is laid.of_tokens (get_or indices j 0))
      go false q = refl

  reads_are : reads_in codes indices k starts owners n decls d ≡ lowest_of (each (of_reads (read_rule (declared t))) (statements t.body))
  reads_are =
      let e : min k 16384 ≡ k = let h = laid.of_items.short in omega arith in
      ap (lowest_from (read_at codes indices starts owners n decls d) 0) e
      ∙ items_lowest ts t.body codes indices k laid.of_items laid.kinded.body (read_rule (declared t))
      (read_at codes indices starts owners n decls d) read_is

  doubled_from : (Δ : List Decl) → Each Named Δ → (j c : ℕ) → list_from (outline_in ts decls) j c ≡ map of_decl Δ
      → lowest_from (doubled_at decls starts owners n) j c ≡ misplaced (position (declared t)) j Δ
  unfolding lowest_from list_from misplaced doubled_at
  doubled_from [] p j zero e = refl
  doubled_from [] p j (suc c) e = absurd (let z : ◌≡◌ {A = ℕ} 0 1 = cc in omega arith)
  doubled_from (x ∷ Δ) p j zero e = absurd (let z : ◌≡◌ {A = ℕ} 0 1 = cc in omega arith)
  doubled_from (x ∷ Δ) p j (suc c) e =
      let z : outline_in ts decls j ≡ of_decl x = cc in
      let w : token_at ts (get_or decls (6 * j) 0) ≡ x.name = ap (λ (o : Outline). o.name) z in
      let q : (token_at ts (get_or decls (6 * j) 0)).kind ≡ NAME = ap (λ (y : Token). y.kind) w ∙ p.0 in
      let o : number_in owners n (get_or decls (6 * j) 0) ≡ position (declared t) x.name.value =
      owner_is laid.of_tokens (get_or decls (6 * j) 0) (declared t) owners laid.of_owners q ∙ ap (λ (y : Token). position (declared t) y.value) w in
      let a : number_in starts n (get_or decls (6 * j) 0) ≡ x.name.place = place_is laid.of_tokens (get_or decls (6 * j) 0) ∙ ap (λ (y : Token). y.place) w in
      both (number_in owners n (get_or decls (6 * j) 0)) (number_in starts n (get_or decls (6 * j) 0)) o a (doubled_from Δ p.1 (j + 1) c (cc))
    where
      both : (o a : ℕ) → o ≡ position (declared t) x.name.value → a ≡ x.name.place → lowest_from (doubled_at decls starts owners n) (j + 1) c
          ≡ misplaced (position (declared t)) (j + 1) Δ
          → lower (lowest_of (unless (eqb o j) a)) (lowest_from (doubled_at decls starts owners n) (j + 1) c)
          ≡ lower (lowest_of (unless (eqb (position (declared t) x.name.value) j) x.name.place)) (misplaced (position (declared t)) (j + 1) Δ)
      both o a f g h = rw (f, g, h)

  doubled_are : doubled_in decls d starts owners n ≡ lowest_of (doubled (declared t))
  doubled_are =
      let e : min d 65 ≡ d = let h = laid.of_decls.short in omega arith in
      ap (lowest_from (doubled_at decls starts owners n) 0) e
      ∙ (doubled_from (declared t) (named_declared t laid.kinded) 0 d (decls_are ts t decls d laid.of_decls) ∙ misplaced_doubled (declared t))

  module _ (words : WordsIn text ts sizes n) where
    differs_are : (a b : ℕ) (x y : Token) → token_at ts a ≡ x → token_at ts b ≡ y → x.kind ≡ NAME → y.kind ≡ NAME → differs_in text starts sizes n a b
        ≡ lowest_of (differs x y)
    unfolding differs
    differs_are a b x y e f p q =
        ap (λ (c : Bool). lowest_of (unless c (number_in starts n a)))
        (same_tokens text ts kinds starts sizes n laid.of_tokens words a b (ap (λ (z : Token). z.kind) e ∙ p) (ap (λ (z : Token). z.kind) f ∙ q)
        ∙ (ap (λ (z : Token). eqb z.value (token_at ts b).value) e ∙ ap (λ (z : Token). eqb x.value z.value) f))
        ∙ ap (λ (m : ℕ). lowest_of (unless (eqb x.value y.value) m)) (place_is laid.of_tokens a ∙ ap (λ (z : Token). z.place) e)

    parts_are : (h : Shape) → HeadsIn ts t h
        → lower (lower (differs_in text starts sizes n h.entity_end h.entity)
        (lower (differs_in text starts sizes n h.arch_of h.entity) (differs_in text starts sizes n h.arch_end h.arch)))
        (lower (doubled_in decls d starts owners n) (lower (targets_in rows s starts owners n decls d) (reads_in codes indices k starts owners n decls d)))
        ≡ lowest_of (names t)
    unfolding names
    parts_are h at =
        regroup (differs_in text starts sizes n h.entity_end h.entity) (differs_in text starts sizes n h.arch_of h.entity)
        (differs_in text starts sizes n h.arch_end h.arch)
        (doubled_in decls d starts owners n) (targets_in rows s starts owners n decls d) (reads_in codes indices k starts owners n decls d)
        (differs_are h.entity_end h.entity t.end_of_entity t.entity at.entity_end_at at.entity_at laid.kinded.end_of_entity
        laid.kinded.entity)
        (differs_are h.arch_of h.entity t.of_arch t.entity at.arch_of_at at.entity_at laid.kinded.of_arch laid.kinded.entity)
        (differs_are h.arch_end h.arch t.end_of_arch t.arch at.arch_end_at at.arch_at laid.kinded.end_of_arch laid.kinded.arch)
        doubled_are targets_are reads_are
      where
        Δ : List Decl
        Δ = declared t

        l : List Stmt
        l = statements t.body

        all_stmts : lower (lowest_of (each (target_of Δ) l)) (lowest_of (each (of_reads (read_rule Δ)) l)) ≡ lowest_of (each (names_of Δ) l)
        all_stmts = sym (each_split (names_of Δ) (target_of Δ) (of_reads (read_rule Δ)) (names_split Δ) l)

        lists : (p q r u v : List ℕ) → lowest_of (p ++ (q ++ (r ++ (u ++ v))))
            ≡ lower (lower (lowest_of p) (lower (lowest_of q) (lowest_of r))) (lower (lowest_of u) (lowest_of v))
        lists p q r u v =
            lowest_append p (q ++ (r ++ (u ++ v)))
            ∙ (ap (lower (lowest_of p))
            (lowest_append q (r ++ (u ++ v)) ∙ ap (lower (lowest_of q)) (lowest_append r (u ++ v) ∙ ap (lower (lowest_of r)) (lowest_append u v)))
            ∙ sym (lower_assoc (lowest_of p) (lower (lowest_of q) (lowest_of r)) (lower (lowest_of u) (lowest_of v))
            ∙ ap (lower (lowest_of p)) (lower_assoc (lowest_of q) (lowest_of r) (lower (lowest_of u) (lowest_of v)))))

        regroup : (a b c u v w : P.Option ℕ) → a ≡ lowest_of (differs t.end_of_entity t.entity) → b ≡ lowest_of (differs t.of_arch t.entity) → c
            ≡ lowest_of (differs t.end_of_arch t.arch)
            → u ≡ lowest_of (doubled Δ) → v ≡ lowest_of (each (target_of Δ) l) → w ≡ lowest_of (each (of_reads (read_rule Δ)) l)
            → lower (lower a (lower b c)) (lower u (lower v w))
            ≡ lowest_of (differs t.end_of_entity t.entity ++
            (differs t.of_arch t.entity ++ (differs t.end_of_arch t.arch ++ (doubled Δ ++ each (names_of Δ) l))))
        regroup a b c u v w p q r x y z =
            rw (p, q, r, x, y, z, all_stmts)
            (sym (lists (differs t.end_of_entity t.entity) (differs t.of_arch t.entity) (differs t.end_of_arch t.arch) (doubled Δ)
            (each (names_of Δ) l)))

-- THE LAW
pub exact : (text starts sizes : List ℕ) (p : Shape) (codes indices rows decls owners : List ℕ) (t : Text)
    → Held text starts sizes p codes indices rows decls owners t
    → lowest_in text starts sizes p codes indices rows decls owners ≡ lowest_of (names t)
unfolding lowest_in
exact text starts sizes p codes indices rows decls owners t h =
    parts_are text sizes h.tokens t h.kinds starts p.tokens codes indices p.items rows p.statements decls p.names owners h.laid
    h.words p h.heads
