-- The syntax tree of a text. Names, literals and operators stand in it as their tokens, which have their places; so do `if`, `while` and `process`. Assumes nothing.
use Rattle.std.specs.Prelude.{List}
use Rattle.spec_grammar.specs.Token.{Token}

-- a number; '0' or '1'; a name; a sign; not; two operands, the left one first; ( e )
pub data Expr : Type 0 where
  number : Token → Expr
  bit : Token → Expr
  name : Token → Expr
  sign : Token → Expr → Expr
  negate : Token → Expr → Expr
  binary : Token → Expr → Expr → Expr
  parens : Expr → Expr

mutual
  -- o <= e ;   v := e ;   null ;   wait until clk = '1' ;   if without else, if with else, while
  pub data Stmt : Type 0 where
    output : Token → Expr → Stmt
    assign : Token → Expr → Stmt
    null : Stmt
    wait : Token → Stmt
    if_then : Token → Expr → Body → Stmt
    if_else : Token → Expr → Body → Body → Stmt
    while : Token → Expr → Body → Stmt

  -- "S and STATEMENTS hold at least one."
  pub data Body : Type 0 where
    only : Stmt → Body
    and_then : Stmt → Body → Body

-- an initial value: none, a number, '0' or '1', a number after -
pub data Init : Type 0 where
  without : Init
  integer_literal : Token → Init
  logic_literal : Token → Init
  minus : Token → Token → Init

-- `in`, `out`, or a variable
pub data Mode : Type 0 where
  input output_port variable_mode : Mode

-- a port group or a variable group
pub record Group : Type 0 where
  pub names : List Token
  pub mode : Mode
  pub type : Token
  pub init : Init

-- a whole text: the names of entity and architecture wherever they stand, the groups, `process`, the statements
pub record Text : Type 0 where
  pub entity : Token
  pub ports : List Group
  pub end_of_entity : Token
  pub arch : Token
  pub of_arch : Token
  pub process : Token
  pub vars : List Group
  pub body : Body
  pub end_of_arch : Token
