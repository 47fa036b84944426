-- What a text says, free of places, of case, of parentheses and of how declarations are grouped: "it has one reading". Assumes nothing.
use Rattle.std.proofs.Math.Option.{Option, none, some}
use Rattle.std.specs.Prelude.{List, map, ℕ, ℤ}
use Rattle.spec_grammar.specs.Tree as T
use Rattle.spec_grammar.specs.Tree.{Init, Mode, input, output_port, variable_mode, Text}
use Rattle.spec_design.specs.Types.{Ty}
use Rattle.spec_language.specs.Declarations.{Decl, spread}
use Rattle.spec_language.specs.Elaboration.{initial}

-- literals by their values, names by their folded numbers, operators by their kinds
pub data ExprReading : Type 0 where
  number : ℕ → ExprReading
  bit : ℕ → ExprReading
  name : ℕ → ExprReading
  sign : ExprReading → ExprReading
  negate : ExprReading → ExprReading
  binary : ℕ → ExprReading → ExprReading → ExprReading

mutual
  pub data StmtReading : Type 0 where
    output : ℕ → ExprReading → StmtReading
    assign : ℕ → ExprReading → StmtReading
    null : StmtReading
    wait : ℕ → StmtReading
    if_then : ExprReading → BodyReading → StmtReading
    if_else : ExprReading → BodyReading → BodyReading → StmtReading
    while : ExprReading → BodyReading → StmtReading

  pub data BodyReading : Type 0 where
    only : StmtReading → BodyReading
    and_then : StmtReading → BodyReading → BodyReading

-- a declared name; "Initial values of inputs are ignored"
pub record DeclReading : Type 0 where
  pub name : ℕ
  pub mode : Mode
  pub type : Ty
  pub initial : Option ℤ

pub record Reading : Type 0 where
  pub entity : ℕ
  pub architecture : ℕ
  pub ports : List DeclReading
  pub variables : List DeclReading
  pub body : BodyReading

unfoldable pub read_expr : T.Expr → ExprReading
read_expr (T.number x) = number x.value
read_expr (T.bit x) = bit x.value
read_expr (T.name x) = name x.value
read_expr (T.sign x a) = sign (read_expr a)
read_expr (T.negate x a) = negate (read_expr a)
read_expr (T.binary x a b) = binary x.kind (read_expr a) (read_expr b)
read_expr (T.parens a) = read_expr a

unfoldable mutual
  pub read_stmt : T.Stmt → StmtReading
  read_stmt (T.output x e) = output x.value (read_expr e)
  read_stmt (T.assign x e) = assign x.value (read_expr e)
  read_stmt T.null = null
  read_stmt (T.wait x) = wait x.value
  read_stmt (T.if_then i e a) = if_then (read_expr e) (read_body a)
  read_stmt (T.if_else i e a b) = if_else (read_expr e) (read_body a) (read_body b)
  read_stmt (T.while w e a) = while (read_expr e) (read_body a)

  pub read_body : T.Body → BodyReading
  read_body (T.only s) = only (read_stmt s)
  read_body (T.and_then s b) = and_then (read_stmt s) (read_body b)

unfoldable pub given : Init → Option ℤ
given T.without = none
given (T.integer_literal x) = some (initial (T.integer_literal x))
given (T.logic_literal x) = some (initial (T.logic_literal x))
given (T.minus s x) = some (initial (T.minus s x))

unfoldable pub unless_input : Mode → Option ℤ → Option ℤ
unless_input input v = none
unless_input output_port v = v
unless_input variable_mode v = v

unfoldable pub read_decl : Decl → DeclReading
read_decl d = record { name = d.name.value; mode = d.mode; type = d.type; initial = unless_input d.mode (given d.init) }

unfoldable pub reading : Text → Reading
reading t = record {
  entity = t.entity.value;
  architecture = t.arch.value;
  ports = map read_decl (spread t.ports);
  variables = map read_decl (spread t.vars);
  body = read_body t.body;
}
