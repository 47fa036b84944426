-- The items and entries of a tree become those of its design, but for the types of operands, which no item has. Assumes nothing.
use mathlib.Core.Path.{◌≡◌, refl, sym, ◌∙◌, ap}
use mathlib.Core.Option.{Option, none, some}
use mathlib.Core.List.{List, [], ◌∷◌, ◌++◌, map, map-append, append_assoc, append-nil}
use Prim.Native.Nat.{ℕ, suc}
use native.Mathlib.Omega.{arith}
use lib.ListN.{length, length-append}
use lib.IntN.{ℤ}
use Rattle.base_codes.specs.Item as I
use Rattle.spec_grammar.specs.Token.{Token}
use Rattle.spec_grammar.specs.Tree as T
use Rattle.spec_grammar.specs.Tree.{Body, Mode}
use Rattle.spec_design.specs.Expression.{Expr}
use Rattle.spec_design.specs.Statement.{size}
use Rattle.spec_language.specs.Declarations.{Decl, Scope, find}
use Rattle.spec_language.specs.Elaboration.{name_code, named, or_plus, code, stmt, stmts}
use Rattle.base_codes.proofs.OperationLaws.{operation_apart}
use Rattle.front_layout.specs.Postfix.{Item, item_of, binary_item, postfix}
use Rattle.front_layout.proofs.Folds.{Steps, postfix_whole}
use Rattle.front_layout.specs.Entries.{stmt_entries, body_entries}
use Rattle.front_offences.specs.Kinded.{OperatorKind, IsOperator, KindedExpr, KindedStmt, KindedBody}
use Rattle.front_offences.proofs.Operators.{each_operator}
use Rattle.base_ir.specs.Operations.{Op, op, ops, with_type, bare_op}
use Rattle.base_ir.proofs.Bare.{binary_with}
use Rattle.base_codes.specs.Operation.{SIGN, NOT, binary_code, operator_of, code_or, operation_of, count_or, operands_of}
use Rattle.base_ir.specs.Entries.{entries, bare_entry, Single, single_act, single_wait, single_if, single_else, single_while, Block, only, and_then}
use Rattle.front_elaborator.specs.Elaborated.{mode_op, found_op, op_of, target_of, entry_of}

-- the fifteen operators, by their kinds
operator_code : (k : ℕ) → OperatorKind k → binary_code (or_plus (operator_of k)) ≡ operation_of k
unfolding operator_of or_plus code_or operation_of
operator_code = each_operator (λ (k : ℕ). binary_code (or_plus (operator_of k)) ≡ operation_of k) refl refl refl refl refl refl refl refl refl refl refl refl refl
    refl refl

-- EXPRESSIONS

-- an expression's operations before the types of operands are told
abbrev bare : Expr → List Op
bare e = map bare_op (ops e)

named_op : (Γ : Scope) (v : ℕ) (m : Option Decl) → bare (named Γ v m) ≡ found_op Γ v m ∷ []
unfolding ops named name_code with_type operands_of count_or
named_op Γ v none = refl
named_op Γ v (some d) = go d.mode
  where
    go : (m : Mode) → bare (name_code Γ v m) ≡ mode_op Γ v m ∷ []
    go T.input = refl
    go T.output_port = refl
    go T.variable_mode = refl

-- an operator's item
binary_op_lem : (Δ : List Decl) (Γ : Scope) (x : Token) (z : ℤ) → IsOperator x
    → bare_op (op (binary_code (or_plus (operator_of x.kind))) z) ≡ op_of Δ Γ (binary_item x)
unfolding op_of
binary_op_lem Δ Γ x z h =
    binary_with 0 (or_plus (operator_of x.kind)) z
    ∙ rw (
      operator_code x.kind h,
      operation_apart x.kind I.NAME (omega arith) (omega arith),
      operation_apart x.kind I.NUMBER (omega arith)
          (omega arith),
      operation_apart x.kind I.BIT (omega arith) (omega arith),
    )

-- one operation more behind an operand, and behind two
behind : (w a : List Op) (o o' : Op) (k : List Op) → bare_op o ≡ o' → (w ++ map bare_op a) ++ (o' ∷ k) ≡ (w ++ map bare_op (a ++ (o ∷ []))) ++ k
behind w a o o' k e =
    sym (append_assoc (w ++ map bare_op a) (o' ∷ []) k)
    ∙ ap (λ (l : List Op). l ++ k) (append_assoc w (map bare_op a) (o' ∷ []) ∙ ap (λ (l : List Op). w ++ l) (rw (sym e) (sym (map-append bare_op a (o ∷ [])))))

behind_two : (w a b : List Op) (o o' : Op) (k : List Op) → bare_op o ≡ o'
    → ((w ++ map bare_op a) ++ map bare_op b) ++ (o' ∷ k) ≡ (w ++ map bare_op (a ++ (b ++ (o ∷ [])))) ++ k
behind_two w a b o o' k e =
    behind (w ++ map bare_op a) b o o' k e
    ∙ ap (λ (l : List Op). l ++ k) (append_assoc w (map bare_op a) (map bare_op (b ++ (o ∷ [])))
    ∙ ap (λ (l : List Op). w ++ l) (sym (map-append bare_op a (b ++ (o ∷ [])))))

-- the operations made so far, those of an expression, and those of the items behind it
mapped_steps : (Δ : List Decl) (Γ : Scope) (q : List Op)
    → Steps (λ (e : T.Expr) (w : List Op). KindedExpr e) (λ (e : T.Expr) (w : List Op). w ++ bare (code Δ Γ e))
    (λ (k : List Item) (w : List Op). w ++ map (op_of Δ Γ) k ≡ q)
unfolding ops code op_of with_type operands_of count_or
mapped_steps Δ Γ q =
    record {
      number = λ x w k f c. sym (append_assoc w (op_of Δ Γ (item_of I.NUMBER x) ∷ []) (map (op_of Δ Γ) k)) ∙ c;
      bit = λ x w k f c. sym (append_assoc w (op_of Δ Γ (item_of I.BIT x) ∷ []) (map (op_of Δ Γ) k)) ∙ c;
      name = λ x w k f c.
          sym (append_assoc w (op_of Δ Γ (item_of I.NAME x) ∷ []) (map (op_of Δ Γ) k))
          ∙ (ap (λ (l : List Op). (w ++ l) ++ map (op_of Δ Γ) k) (sym (named_op Γ x.value (find Δ x.value))) ∙ c);
      sign = λ x a w k f. (f.1, λ c. behind w (ops (code Δ Γ a)) _ (op_of Δ Γ (item_of SIGN x)) (map (op_of Δ Γ) k) refl ∙ c);
      negate = λ x a w k f. (f.1, λ c. behind w (ops (code Δ Γ a)) _ (op_of Δ Γ (item_of NOT x)) (map (op_of Δ Γ) k) refl ∙ c);
      binary = λ x a b w k f. (
        f.1,
        f.2,
        λ c. behind_two w (ops (code Δ Γ a)) (ops (code Δ Γ b)) _ (op_of Δ Γ (binary_item x)) (map (op_of Δ Γ) k) (binary_op_lem Δ Γ x _ f.0) ∙ c,
      );
      parens = λ a w k f. (f, λ c. c);
    }

ops_mapped : (Δ : List Decl) (Γ : Scope) (e : T.Expr) → KindedExpr e → bare (code Δ Γ e) ≡ map (op_of Δ Γ) (postfix e)
ops_mapped Δ Γ e h = sym (postfix_whole (mapped_steps Δ Γ (bare (code Δ Γ e))) e [] h (append-nil (bare (code Δ Γ e))))

-- STATEMENTS

-- a design's statement has as many numbers as the tree's has entries
mutual
  unfolding stmt size stmt_entries

  pub size_stmt : (Δ : List Decl) (Γ : Scope) (s : T.Stmt) → size (stmt Δ Γ s) ≡ length (stmt_entries s)
  size_stmt Δ Γ (T.output x e) = refl
  size_stmt Δ Γ (T.assign x e) = refl
  size_stmt Δ Γ T.null = refl
  size_stmt Δ Γ (T.wait x) = refl
  size_stmt Δ Γ (T.if_then i e a) = ap suc (size_body Δ Γ a)
  size_stmt Δ Γ (T.if_else i e a b) = ap suc (rw (size_body Δ Γ a, size_body Δ Γ b) (sym (length-append (body_entries a) (body_entries b))))
  size_stmt Δ Γ (T.while w e a) = ap suc (size_body Δ Γ a)

  pub size_body : (Δ : List Decl) (Γ : Scope) (b : Body) → size (stmts Δ Γ b) ≡ length (body_entries b)
  size_body Δ Γ (T.only s) = size_stmt Δ Γ s
  size_body Δ Γ (T.and_then s b) = rw (size_stmt Δ Γ s, size_body Δ Γ b) (sym (length-append (stmt_entries s) (body_entries b)))

mutual
  unfolding stmt entries stmt_entries entry_of target_of

  entries_stmt : (Δ : List Decl) (Γ : Scope) (s : T.Stmt) → KindedStmt s → map bare_entry (entries (stmt Δ Γ s)) ≡ map (entry_of Δ Γ) (stmt_entries s)
  entries_stmt Δ Γ (T.output x e) h = rw (ops_mapped Δ Γ e h.1)
  entries_stmt Δ Γ (T.assign x e) h = rw (ops_mapped Δ Γ e h.1)
  entries_stmt Δ Γ T.null h = refl
  entries_stmt Δ Γ (T.wait x) h = refl
  entries_stmt Δ Γ (T.if_then i e a) h = rw (ops_mapped Δ Γ e h.1, size_body Δ Γ a, entries_body Δ Γ a h.2)
  entries_stmt Δ Γ (T.if_else i e a b) h =
      rw (
        ops_mapped Δ Γ e h.1,
        size_body Δ Γ a,
        size_body Δ Γ b,
        map-append bare_entry (entries (stmts Δ Γ a)) (entries (stmts Δ Γ b)),
        entries_body Δ Γ a
            h.2,
        entries_body Δ Γ b h.3,
        map-append (entry_of Δ Γ) (body_entries a) (body_entries b),
      )
  entries_stmt Δ Γ (T.while w e a) h = rw (ops_mapped Δ Γ e h.1, size_body Δ Γ a, entries_body Δ Γ a h.2)

  -- the entries of a body become those of its design, but for the types of operands
  pub entries_body : (Δ : List Decl) (Γ : Scope) (b : Body) → KindedBody b → map bare_entry (entries (stmts Δ Γ b)) ≡ map (entry_of Δ Γ) (body_entries b)
  entries_body Δ Γ (T.only s) h = entries_stmt Δ Γ s h
  entries_body Δ Γ (T.and_then s b) h =
      rw (
        map-append bare_entry (entries (stmt Δ Γ s)) (entries (stmts Δ Γ b)),
        entries_stmt Δ Γ s h.0,
        entries_body Δ Γ b h.1,
        map-append (entry_of Δ Γ)
            (stmt_entries s) (body_entries b),
      )

mutual
  unfolding stmt

  single : (Δ : List Decl) (Γ : Scope) (s : T.Stmt) → Single (stmt Δ Γ s)
  single Δ Γ (T.output x e) = single_act _
  single Δ Γ (T.assign x e) = single_act _
  single Δ Γ T.null = single_act _
  single Δ Γ (T.wait x) = single_wait
  single Δ Γ (T.if_then i e a) = single_if (block Δ Γ a)
  single Δ Γ (T.if_else i e a b) = single_else (block Δ Γ a) (block Δ Γ b)
  single Δ Γ (T.while w e a) = single_while (block Δ Γ a)

  -- a body's design is a statement list
  pub block : (Δ : List Decl) (Γ : Scope) (b : Body) → Block (stmts Δ Γ b)
  block Δ Γ (T.only s) = only (single Δ Γ s)
  block Δ Γ (T.and_then s b) = and_then (single Δ Γ s) (block Δ Γ b)
