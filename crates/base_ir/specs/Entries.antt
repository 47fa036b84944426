-- Statements of a design as a list in text order: of each its kind, its target, its expression's operations, and how many statements it holds. Assumes nothing.
use Rattle.std.specs.Prelude.{List, [], ◌∷◌, ◌++◌, map, ℕ, ◌+◌}
use Rattle.spec_design.specs.Expression.{Expr}
use Rattle.spec_design.specs.Statement.{Act, output, variable, null, Stmt, act, wait, if_then, if_else, while, seq, size}
use Rattle.base_codes.specs.Statement as S
use Rattle.base_ir.specs.Operations.{Op, ops, bare_op}

-- a statement: its kind, its target's index, its expression's operations, how many statements its first part holds, and how many it holds in all
pub record Entry : Type 0 where
  pub kind : ℕ
  pub target : ℕ
  pub ops : List Op
  pub part : ℕ
  pub inside : ℕ

abbrev pub entry : ℕ → ℕ → List Op → ℕ → ℕ → Entry
entry k x is p q = record { kind = k; target = x; ops = is; part = p; inside = q }

-- What has no target has 0.
unfoldable pub entries : Stmt → List Entry
entries (act (output k e)) = entry S.OUTPUT k (ops e) 0 0 ∷ []
entries (act (variable k e)) = entry S.VARIABLE k (ops e) 0 0 ∷ []
entries (act null) = entry S.NULL 0 [] 0 0 ∷ []
entries wait = entry S.WAIT 0 [] 0 0 ∷ []
entries (if_then e a) = entry S.IF 0 (ops e) (size a) (size a) ∷ entries a
entries (if_else e a b) = entry S.IF 0 (ops e) (size a) (size a + size b) ∷ (entries a ++ entries b)
entries (while e b) = entry S.WHILE 0 (ops e) (size b) (size b) ∷ entries b
entries (seq a b) = entries a ++ entries b

-- the operations of all their expressions, in text order
unfoldable pub entry_ops : List Entry → List Op
entry_ops [] = []
entry_ops (e ∷ es) = e.ops ++ entry_ops es

-- a statement before the types of operands are told
abbrev pub bare_entry : Entry → Entry
bare_entry e = entry e.kind e.target (map bare_op e.ops) e.part e.inside

-- A statement list as texts have them: a sequence's first part is no sequence.
mutual
  pub data Single : Stmt → Type 0 where
    single_act : (a : Act) → Single (act a)
    single_wait : Single wait
    single_if : {e : Expr} {a : Stmt} → Block a → Single (if_then e a)
    single_else : {e : Expr} {a b : Stmt} → Block a → Block b → Single (if_else e a b)
    single_while : {e : Expr} {b : Stmt} → Block b → Single (while e b)

  pub data Block : Stmt → Type 0 where
    only : {s : Stmt} → Single s → Block s
    and_then : {s b : Stmt} → Single s → Block b → Block (seq s b)
