-- The limits of document 01 as counts on the tree of a text. Assumes nothing.
use Rattle.std.specs.Prelude.{List, [], ◌∷◌, ◌++◌, ℕ, suc, ◌+◌, ◌≤◌, max, length}
use Rattle.spec_grammar.specs.Token.{Token}
use Rattle.spec_grammar.specs.Tree.{Expr, number, bit, name, sign, negate, binary, parens, Stmt, output, assign, null, wait, if_then, if_else, while, Body, only, and_then, Init, without, integer_literal, logic_literal, minus, Mode, input, output_port, variable_mode, Group, Text}

-- P holds of each element
abbrev pub Each : {A : Type 0} → (A → Type 0) → List A → Type 0
Each P [] = Unit {0}
Each P (a ∷ l) = P a × Each P l

-- Names and numbers, wherever they stand.
unfoldable pub expr_names : Expr → List Token
expr_names (number x) = []
expr_names (bit x) = []
expr_names (name x) = x ∷ []
expr_names (sign x a) = expr_names a
expr_names (negate x a) = expr_names a
expr_names (binary x a b) = expr_names a ++ expr_names b
expr_names (parens a) = expr_names a

unfoldable pub expr_numbers : Expr → List Token
expr_numbers (number x) = x ∷ []
expr_numbers (bit x) = []
expr_numbers (name x) = []
expr_numbers (sign x a) = expr_numbers a
expr_numbers (negate x a) = expr_numbers a
expr_numbers (binary x a b) = expr_numbers a ++ expr_numbers b
expr_numbers (parens a) = expr_numbers a

unfoldable mutual
  pub stmt_names : Stmt → List Token
  stmt_names (output x e) = x ∷ expr_names e
  stmt_names (assign x e) = x ∷ expr_names e
  stmt_names null = []
  stmt_names (wait x) = x ∷ []
  stmt_names (if_then i e a) = expr_names e ++ body_names a
  stmt_names (if_else i e a b) = expr_names e ++ (body_names a ++ body_names b)
  stmt_names (while w e a) = expr_names e ++ body_names a

  pub body_names : Body → List Token
  body_names (only s) = stmt_names s
  body_names (and_then s b) = stmt_names s ++ body_names b

-- the expressions of a body, in text order
unfoldable mutual
  pub stmt_exprs : Stmt → List Expr
  stmt_exprs (output x e) = e ∷ []
  stmt_exprs (assign x e) = e ∷ []
  stmt_exprs null = []
  stmt_exprs (wait x) = []
  stmt_exprs (if_then i e a) = e ∷ body_exprs a
  stmt_exprs (if_else i e a b) = e ∷ (body_exprs a ++ body_exprs b)
  stmt_exprs (while w e a) = e ∷ body_exprs a

  pub body_exprs : Body → List Expr
  body_exprs (only s) = stmt_exprs s
  body_exprs (and_then s b) = stmt_exprs s ++ body_exprs b

-- a number that is an initial value; '0' and '1' are no numbers
unfoldable pub init_numbers : Init → List Token
init_numbers without = []
init_numbers (integer_literal x) = x ∷ []
init_numbers (logic_literal x) = []
init_numbers (minus s x) = x ∷ []

-- how many names the groups of a mode declare
unfoldable pub if_input : Mode → ℕ → ℕ
if_input input n = n
if_input output_port n = 0
if_input variable_mode n = 0

unfoldable pub if_output : Mode → ℕ → ℕ
if_output input n = 0
if_output output_port n = n
if_output variable_mode n = 0

unfoldable pub input_count : List Group → ℕ
input_count [] = 0
input_count (g ∷ gs) = if_input g.mode (length g.names) + input_count gs

unfoldable pub output_count : List Group → ℕ
output_count [] = 0
output_count (g ∷ gs) = if_output g.mode (length g.names) + output_count gs

unfoldable pub name_count : List Group → ℕ
name_count [] = 0
name_count (g ∷ gs) = length g.names + name_count gs

-- how many statements, at every depth
unfoldable mutual
  pub stmt_count : Stmt → ℕ
  stmt_count (output x e) = 1
  stmt_count (assign x e) = 1
  stmt_count null = 1
  stmt_count (wait x) = 1
  stmt_count (if_then i e a) = suc (body_count a)
  stmt_count (if_else i e a b) = suc (body_count a + body_count b)
  stmt_count (while w e a) = suc (body_count a)

  pub body_count : Body → ℕ
  body_count (only s) = stmt_count s
  body_count (and_then s b) = stmt_count s + body_count b

-- "statement depth (process body is 1)": the depth of the deepest statement, where this one stands at depth n
unfoldable mutual
  pub stmt_depth : ℕ → Stmt → ℕ
  stmt_depth n (output x e) = n
  stmt_depth n (assign x e) = n
  stmt_depth n null = n
  stmt_depth n (wait x) = n
  stmt_depth n (if_then i e a) = body_depth (suc n) a
  stmt_depth n (if_else i e a b) = max (body_depth (suc n) a) (body_depth (suc n) b)
  stmt_depth n (while w e a) = body_depth (suc n) a

  pub body_depth : ℕ → Body → ℕ
  body_depth n (only s) = stmt_depth n s
  body_depth n (and_then s b) = max (stmt_depth n s) (body_depth n b)

-- literals, names and operators of an expression; sign and not are operators, parentheses are none of the three
unfoldable pub item_count : Expr → ℕ
item_count (number x) = 1
item_count (bit x) = 1
item_count (name x) = 1
item_count (sign x a) = suc (item_count a)
item_count (negate x a) = suc (item_count a)
item_count (binary x a b) = suc (item_count a + item_count b)
item_count (parens a) = item_count a

-- how many parentheses are open at once, at most
unfoldable pub paren_depth : Expr → ℕ
paren_depth (number x) = 0
paren_depth (bit x) = 0
paren_depth (name x) = 0
paren_depth (sign x a) = paren_depth a
paren_depth (negate x a) = paren_depth a
paren_depth (binary x a b) = max (paren_depth a) (paren_depth b)
paren_depth (parens a) = suc (paren_depth a)

-- the names and numbers of an expression, of a group, of a text
unfoldable pub group_names : List Group → List Token
group_names [] = []
group_names (g ∷ gs) = g.names ++ group_names gs

unfoldable pub group_numbers : List Group → List Token
group_numbers [] = []
group_numbers (g ∷ gs) = init_numbers g.init ++ group_numbers gs

unfoldable pub exprs_numbers : List Expr → List Token
exprs_numbers [] = []
exprs_numbers (e ∷ es) = expr_numbers e ++ exprs_numbers es

unfoldable pub text_names : Text → List Token
text_names t =
    t.entity ∷ t.end_of_entity ∷ t.arch ∷ t.of_arch ∷ t.end_of_arch ∷
    (group_names t.ports ++ (group_names t.vars ++ body_names t.body))

unfoldable pub text_numbers : Text → List Token
text_numbers t = group_numbers t.ports ++ (group_numbers t.vars ++ exprs_numbers (body_exprs t.body))

-- "Limits: name 32 bytes, 17 in ports, 16 out, 32 variables, 512 statements, statement depth 16, 64 literals, names and operators in an expression,
-- 16 open parentheses, literal 2147483647": the tree keeps them all
pub record WithinLimits (t : Text) : Type 0 where
  pub names : Each (λ (x : Token). x.size ≤ 32) (text_names t)
  pub inputs : input_count t.ports ≤ 17
  pub outputs : output_count t.ports ≤ 16
  pub variables : name_count t.vars ≤ 32
  pub statements : body_count t.body ≤ 512
  pub depth : body_depth 1 t.body ≤ 16
  pub items : Each (λ (e : Expr). item_count e ≤ 64) (body_exprs t.body)
  pub parens : Each (λ (e : Expr). paren_depth e ≤ 16) (body_exprs t.body)
  pub literals : Each (λ (x : Token). x.value ≤ 2147483647) (text_numbers t)
