-- The kinds of the tokens that stand in a tree: a name is a name, an operator an operator. Every tree that the grammar reads is such. Assumes nothing.
use Rattle.std.specs.Prelude.{◌≡◌, true, ◌⊎◌, ℕ, ◌<◌, length}
use Rattle.spec_grammar.specs.Token.{Token}
use Rattle.base_codes.specs.Token.{one_of, operators, NAME, NUMBER, ZERO, ONE, MINUS, NOT, IF, WHILE, PROCESS, STD_LOGIC, INTEGER}
use Rattle.spec_grammar.specs.Tree.{Expr, number, bit, name, sign, negate, binary, parens, Stmt, output, assign, null, wait, if_then, if_else, while, Body, only, and_then, Init, without, integer_literal, logic_literal, minus, Group, Text}
use Rattle.spec_grammar.specs.Limits.{Each}

-- '0' or '1'; std_logic or integer
abbrev pub IsBit : Token → Type 0
IsBit x = (x.kind ≡ ZERO) ⊎ (x.kind ≡ ONE)

abbrev pub IsType : Token → Type 0
IsType x = (x.kind ≡ STD_LOGIC) ⊎ (x.kind ≡ INTEGER)

-- an operator between two operands
abbrev pub OperatorKind : ℕ → Type 0
OperatorKind k = one_of k operators ≡ true

abbrev pub IsOperator : Token → Type 0
IsOperator x = OperatorKind x.kind

abbrev pub KindedExpr : Expr → Type 0
KindedExpr (number x) = x.kind ≡ NUMBER
KindedExpr (bit x) = IsBit x
KindedExpr (name x) = x.kind ≡ NAME
KindedExpr (sign x a) = (x.kind ≡ MINUS) × KindedExpr a
KindedExpr (negate x a) = (x.kind ≡ NOT) × KindedExpr a
KindedExpr (binary x a b) = IsOperator x × KindedExpr a × KindedExpr b
KindedExpr (parens a) = KindedExpr a

abbrev mutual
  pub KindedStmt : Stmt → Type 0
  KindedStmt (output x e) = (x.kind ≡ NAME) × KindedExpr e
  KindedStmt (assign x e) = (x.kind ≡ NAME) × KindedExpr e
  KindedStmt null = Unit {0}
  KindedStmt (wait x) = x.kind ≡ NAME
  KindedStmt (if_then i e a) = (i.kind ≡ IF) × KindedExpr e × KindedBody a
  KindedStmt (if_else i e a b) = (i.kind ≡ IF) × KindedExpr e × KindedBody a × KindedBody b
  KindedStmt (while w e a) = (w.kind ≡ WHILE) × KindedExpr e × KindedBody a

  pub KindedBody : Body → Type 0
  KindedBody (only s) = KindedStmt s
  KindedBody (and_then s b) = KindedStmt s × KindedBody b

abbrev pub KindedInit : Init → Type 0
KindedInit without = Unit {0}
KindedInit (integer_literal x) = x.kind ≡ NUMBER
KindedInit (logic_literal x) = IsBit x
KindedInit (minus s x) = (s.kind ≡ MINUS) × (x.kind ≡ NUMBER)

pub record KindedGroup (g : Group) : Type 0 where
  pub names : Each (λ (x : Token). x.kind ≡ NAME) g.names
  pub some : 0 < length g.names
  pub type : IsType g.type
  pub init : KindedInit g.init

pub record Kinded (t : Text) : Type 0 where
  pub entity : t.entity.kind ≡ NAME
  pub ports : Each KindedGroup t.ports
  pub end_of_entity : t.end_of_entity.kind ≡ NAME
  pub arch : t.arch.kind ≡ NAME
  pub of_arch : t.of_arch.kind ≡ NAME
  pub process : t.process.kind ≡ PROCESS
  pub vars : Each KindedGroup t.vars
  pub body : KindedBody t.body
  pub end_of_arch : t.end_of_arch.kind ≡ NAME
