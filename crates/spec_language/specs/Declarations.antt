-- The declarations of a text, its statements in text order, its clock, and what names stand for. Assumes nothing.
use Rattle.std.specs.Prelude.{Bool, true, false, cond, not, ◌&&◌, List, [], ◌∷◌, ◌++◌, ℕ, eqb}
use Rattle.std.proofs.Math.Option.{Option, none, some}
use Rattle.spec_grammar.specs.Token.{Token}
use Rattle.base_codes.specs.Token.{INTEGER}
use Rattle.spec_grammar.specs.Tree.{Stmt, output, assign, null, wait, if_then, if_else, while, Body, only, and_then, Init, Mode, input, output_port, variable_mode, Group, Text}
use Rattle.spec_design.specs.Types.{Ty, std_logic, integer, ExprTy, plain}
use Rattle.spec_language.specs.Lists.{filter}

-- a declared name with what its group says of it
pub record Decl : Type 0 where
  pub name : Token
  pub mode : Mode
  pub type : Ty
  pub init : Init

unfoldable pub type_named : Token → Ty
type_named x = cond (eqb x.kind INTEGER) integer std_logic

unfoldable pub declare : Group → List Token → List Decl
declare g [] = []
declare g (x ∷ xs) = record { name = x; mode = g.mode; type = type_named g.type; init = g.init } ∷ declare g xs

unfoldable pub spread : List Group → List Decl
spread [] = []
spread (g ∷ gs) = declare g g.names ++ spread gs

-- "Ports and variables share one set of names; entity and architecture names are no part of it."
unfoldable pub groups : Text → List Group
groups t = t.ports ++ t.vars

unfoldable pub declared : Text → List Decl
declared t = spread (groups t)

unfoldable pub is_input : Mode → Bool
is_input input = true
is_input output_port = false
is_input variable_mode = false

unfoldable pub is_output : Mode → Bool
is_output input = false
is_output output_port = true
is_output variable_mode = false

unfoldable pub is_variable : Mode → Bool
is_variable input = false
is_variable output_port = false
is_variable variable_mode = true

-- the declaration that a folded name stands for: the first of that name
unfoldable pub find : List Decl → ℕ → Option Decl
find [] v = none
find (d ∷ ds) v = let r = find ds v in cond (eqb d.name.value v) (some d) r

-- the declaration is there and passes the test
unfoldable pub is_a : (Decl → Bool) → Option Decl → Bool
is_a p none = false
is_a p (some d) = p d

unfoldable pub type_in : Option Decl → Option ExprTy
type_in none = none
type_in (some d) = some (plain d.type)

-- all statements, at every depth, in text order
unfoldable mutual
  pub within : Stmt → List Stmt
  within (output x e) = output x e ∷ []
  within (assign x e) = assign x e ∷ []
  within null = null ∷ []
  within (wait x) = wait x ∷ []
  within (if_then i e a) = if_then i e a ∷ statements a
  within (if_else i e a b) = if_else i e a b ∷ (statements a ++ statements b)
  within (while w e a) = while w e a ∷ statements a

  pub statements : Body → List Stmt
  statements (only s) = within s
  statements (and_then s b) = within s ++ statements b

-- "the first wait's name"
unfoldable pub or_else : Option Token → Option Token → Option Token
or_else none y = y
or_else (some x) y = some x

unfoldable pub wait_name : Stmt → Option Token
wait_name (output x e) = none
wait_name (assign x e) = none
wait_name null = none
wait_name (wait x) = some x
wait_name (if_then i e a) = none
wait_name (if_else i e a b) = none
wait_name (while w e a) = none

unfoldable pub first_wait : List Stmt → Option Token
first_wait [] = none
first_wait (s ∷ l) = or_else (wait_name s) (first_wait l)

-- the clock's name, if the text has a wait
unfoldable pub clock_of : Text → Option Token
clock_of t = first_wait (statements t.body)

-- a std_logic input
unfoldable pub is_logic : Ty → Bool
is_logic std_logic = true
is_logic integer = false

unfoldable pub clock_like : Decl → Bool
clock_like d = is_input d.mode && is_logic d.type

-- whether a name is the clock's
unfoldable pub is_clock : Option Token → ℕ → Bool
is_clock none v = false
is_clock (some w) v = eqb v w.value

-- "the data inputs (all but the clock)"
unfoldable pub is_data : Option Token → Decl → Bool
is_data c d = is_input d.mode && not (is_clock c d.name.value)

-- what expressions and targets can stand for, each list in declared order
pub record Scope : Type 0 where
  pub inputs : List Decl
  pub outputs : List Decl
  pub variables : List Decl

unfoldable pub scope_for : List Decl → Option Token → Scope
scope_for ds c = record { inputs = filter (is_data c) ds; outputs = filter (λ d. is_output d.mode) ds; variables = filter (λ d. is_variable d.mode) ds }

unfoldable pub scope_of : Text → Scope
scope_of t = scope_for (declared t) (clock_of t)
