-- The grammar of document 01 as productions. A production is its right-hand side, symbol by symbol, and what it says, as a function of what its
-- symbols say, in their order (a token says itself, also where nobody looks at it). A word in quotes above a production is document 01's. Assumes nothing.
use Rattle.std.specs.Prelude.{ℕ, List, [], ◌∷◌}
use Rattle.spec_grammar.specs.Token.{Token}
use Rattle.base_codes.specs.Token.{NAME, NUMBER, ZERO, ONE, LP, RP, SEMI, COLON, COMMA, BECOMES, MINUS, EQ, LE, AND, OR, XOR, NOT, adding, multiplying, relational}
use Rattle.base_codes.specs.Token.{ENTITY, IS, PORT, END, ARCHITECTURE, OF, BEGIN, PROCESS, IN, OUT, VARIABLE, NULL, WAIT, UNTIL, IF, THEN, ELSE, WHILE, LOOP, STD_LOGIC, INTEGER}
use Rattle.spec_grammar.specs.Tree.{Expr, number, bit, name, sign, negate, binary, parens, Stmt, output, assign, null, wait, if_then, if_else, while, Body, only, and_then, Init, without, integer_literal, logic_literal, minus, Mode, input, output_port, variable_mode, Group, Text}

-- the nonterminals
pub data NonTerminal : Type 0 where
  text ports more_ports port names more_names mode type init value vars : NonTerminal
  body more statement target else_part : NonTerminal
  expression chain ands ors xors relation compared simple terms term factors factor primary : NonTerminal

-- What each nonterminal says. One that goes on after an operand, as `terms`, says what it makes of that operand.
abbrev pub Says : NonTerminal → Type 0
Says text = Text
Says ports = List Group
Says more_ports = List Group
Says port = Group
Says names = List Token
Says more_names = List Token
Says mode = Mode
Says type = Token
Says init = Init
Says value = Init
Says vars = List Group
Says body = Body
Says more = Stmt → Body
Says statement = Stmt
Says target = Token → Stmt
Says else_part = Token → Expr → Body → Stmt
Says expression = Expr
Says chain = Expr → Expr
Says ands = Expr → Expr
Says ors = Expr → Expr
Says xors = Expr → Expr
Says relation = Expr
Says compared = Expr → Expr
Says simple = Expr
Says terms = Expr → Expr
Says term = Expr
Says factors = Expr → Expr
Says factor = Expr
Says primary = Expr

-- What a token of a production does to the counts of the limits (Meter.antt).
pub data Mark : Type 0 where
  -- nothing; a literal, name or operator of an expression; ( and ) of an expression
  plain item opens closes : Mark
  -- an expression comes next
  fresh : Mark
  -- the first token of a statement; the same, and an expression comes next
  stmt stmt_fresh : Mark
  -- a statement list one deeper comes next; one has ended
  deeper shallower : Mark
  -- a declared name; `in`, `out`, `variable`
  declares ins outs variables : Mark

-- a symbol of a right-hand side: a token of a kind, with its mark, or a nonterminal
pub data Sym : Type 0 where
  tk : Mark → ℕ → Sym
  nt : NonTerminal → Sym

-- a token that moves no count
abbrev pub tok : ℕ → Sym
tok k = tk plain k

-- a function of what the symbols say, in their order
abbrev pub Fun : List Sym → Type 0 → Type 0
Fun [] R = R
Fun (tk m k ∷ γ) R = Token → Fun γ R
Fun (nt M ∷ γ) R = Says M → Fun γ R

pub record Production (M : NonTerminal) : Type 0 where
  pub rhs : List Sym
  pub says : Fun rhs (Says M)

infixr 20 ◌↠◌
abbrev pub ◌↠◌ : {M : NonTerminal} (γ : List Sym) → Fun γ (Says M) → Production M
◌↠◌ γ f = record { rhs = γ; says = f }

-- "entity E is port ( GROUPS ) ; end E ;" then "architecture A of E is begin process VARS begin STATEMENTS end process ; end A ;"
unfoldable pub text_production : Production text
text_production =
    tok ENTITY ∷ tok NAME ∷ tok IS ∷ tok PORT ∷ tok LP ∷ nt ports ∷ tok RP ∷ tok SEMI ∷ tok END ∷ tok NAME ∷ tok SEMI ∷
    tok ARCHITECTURE ∷ tok NAME ∷ tok OF ∷ tok NAME ∷ tok IS ∷ tok BEGIN ∷
    tok PROCESS ∷ nt vars ∷ tok BEGIN ∷ nt body ∷ tok END ∷ tok PROCESS ∷ tok SEMI ∷ tok END ∷ tok NAME ∷ tok SEMI ∷ [] ↠
    λ _ e _ _ _ ps _ _ _ e' _ _ a _ o _ _ p vs _ b _ _ _ _ a' _.
    record { entity = e; ports = ps; end_of_entity = e'; arch = a; of_arch = o; process = p; vars = vs; body = b; end_of_arch = a' }

-- a production for each operator of a class (base_codes/Token)
abbrev pub for_each : {M : NonTerminal} → List ℕ → (ℕ → Production M) → List (Production M)
for_each [] f = []
for_each (k ∷ l) f = f k ∷ for_each l f

-- The productions of each nonterminal. Where document 01 has "perhaps", "optional" or a repetition, a nonterminal of its own has an empty production.
unfoldable pub productions : (M : NonTerminal) → List (Production M)
productions text = text_production ∷ []
-- "groups are parted by ;"
productions ports = (nt port ∷ nt more_ports ∷ [] ↠ λ g gs. g ∷ gs) ∷ []
productions more_ports = ([] ↠ []) ∷ (tok SEMI ∷ nt port ∷ nt more_ports ∷ [] ↠ λ _ g gs. g ∷ gs) ∷ []
-- "a port group is names with commas, :, in or out, a type, perhaps := and an initial value"
productions port =
    (nt names ∷ tok COLON ∷ nt mode ∷ nt type ∷ nt init ∷ [] ↠
    λ ns _ m t i. record { names = ns; mode = m; type = t; init = i }) ∷ []
productions names = (tk declares NAME ∷ nt more_names ∷ [] ↠ λ n ns. n ∷ ns) ∷ []
productions more_names = ([] ↠ []) ∷ (tok COMMA ∷ tk declares NAME ∷ nt more_names ∷ [] ↠ λ _ n ns. n ∷ ns) ∷ []
productions mode = (tk ins IN ∷ [] ↠ λ _. input) ∷ (tk outs OUT ∷ [] ↠ λ _. output_port) ∷ []
productions type = (tok STD_LOGIC ∷ [] ↠ λ x. x) ∷ (tok INTEGER ∷ [] ↠ λ x. x) ∷ []
productions init = ([] ↠ without) ∷ (tok BECOMES ∷ nt value ∷ [] ↠ λ _ i. i) ∷ []
-- "An initial value is a literal; a number may have -."
productions value =
    (tok NUMBER ∷ [] ↠ λ n. integer_literal n) ∷ (tok MINUS ∷ tok NUMBER ∷ [] ↠ λ s n. minus s n) ∷
    (tok ZERO ∷ [] ↠ λ x. logic_literal x) ∷ (tok ONE ∷ [] ↠ λ x. logic_literal x) ∷ []
-- "A variable group is variable, names, :, type, perhaps := value, ;."
productions vars =
    ([] ↠ []) ∷
    (tk variables VARIABLE ∷ nt names ∷ tok COLON ∷ nt type ∷ nt init ∷ tok SEMI ∷ nt vars ∷ [] ↠
    λ _ ns _ t i _ vs. record { names = ns; mode = variable_mode; type = t; init = i } ∷ vs) ∷ []
-- "S and STATEMENTS hold at least one."
productions body = (nt statement ∷ nt more ∷ [] ↠ λ s f. f s) ∷ []
productions more = ([] ↠ λ s. only s) ∷ (nt statement ∷ nt more ∷ [] ↠ λ t f s. and_then s (f t)) ∷ []
-- "o <= e ;" "v := e ;" "null ;" "wait until clk = '1' ;" "if e then S else S end if ;" "(else optional)" "while e loop S end loop ;"
productions statement =
    (tk stmt NAME ∷ nt target ∷ [] ↠ λ n f. f n) ∷
    (tk stmt NULL ∷ tok SEMI ∷ [] ↠ λ _ _. null) ∷
    (tk stmt WAIT ∷ tok UNTIL ∷ tok NAME ∷ tok EQ ∷ tok ONE ∷ tok SEMI ∷ [] ↠ λ _ _ n _ _ _. wait n) ∷
    (tk stmt_fresh IF ∷ nt expression ∷ tk deeper THEN ∷ nt body ∷ nt else_part ∷ tk shallower END ∷ tok IF ∷ tok SEMI ∷ [] ↠
    λ i e _ a f _ _ _. f i e a) ∷
    (tk stmt_fresh WHILE ∷ nt expression ∷ tk deeper LOOP ∷ nt body ∷ tk shallower END ∷ tok LOOP ∷ tok SEMI ∷ [] ↠ λ w e _ a _ _ _. while w e a) ∷ []
productions target =
    (tk fresh LE ∷ nt expression ∷ tok SEMI ∷ [] ↠ λ _ e _ o. output o e) ∷
    (tk fresh BECOMES ∷ nt expression ∷ tok SEMI ∷ [] ↠ λ _ e _ v. assign v e) ∷ []
productions else_part = ([] ↠ λ i e a. if_then i e a) ∷ (tok ELSE ∷ nt body ∷ [] ↠ λ _ b i e a. if_else i e a b) ∷ []
-- "then a chain of and, of or, or of xor, never mixed"
productions expression = (nt relation ∷ nt chain ∷ [] ↠ λ a f. f a) ∷ []
productions chain =
    ([] ↠ λ a. a) ∷
    (tk item AND ∷ nt relation ∷ nt ands ∷ [] ↠ λ x b f a. f (binary x a b)) ∷
    (tk item OR ∷ nt relation ∷ nt ors ∷ [] ↠ λ x b f a. f (binary x a b)) ∷
    (tk item XOR ∷ nt relation ∷ nt xors ∷ [] ↠ λ x b f a. f (binary x a b)) ∷ []
productions ands = ([] ↠ λ a. a) ∷ (tk item AND ∷ nt relation ∷ nt ands ∷ [] ↠ λ x b f a. f (binary x a b)) ∷ []
productions ors = ([] ↠ λ a. a) ∷ (tk item OR ∷ nt relation ∷ nt ors ∷ [] ↠ λ x b f a. f (binary x a b)) ∷ []
productions xors = ([] ↠ λ a. a) ∷ (tk item XOR ∷ nt relation ∷ nt xors ∷ [] ↠ λ x b f a. f (binary x a b)) ∷ []
-- "then one of = /= < <= > >="
productions relation = (nt simple ∷ nt compared ∷ [] ↠ λ a f. f a) ∷ []
productions compared = ([] ↠ λ a. a) ∷ for_each relational (λ k. tk item k ∷ nt simple ∷ [] ↠ λ x b a. binary x a b)
-- "then + -, with at most one - as sign before the first term"; "a sign covers the whole first term"
productions simple =
    (nt term ∷ nt terms ∷ [] ↠ λ a f. f a) ∷ (tk item MINUS ∷ nt term ∷ nt terms ∷ [] ↠ λ s a f. f (sign s a)) ∷ []
productions terms = ([] ↠ λ a. a) ∷ for_each adding (λ k. tk item k ∷ nt term ∷ nt terms ∷ [] ↠ λ x b f a. f (binary x a b))
-- "*, /, mod and rem on integers, binding tighter than +"
productions term = (nt factor ∷ nt factors ∷ [] ↠ λ a f. f a) ∷ []
productions factors = ([] ↠ λ a. a) ∷ for_each multiplying (λ k. tk item k ∷ nt factor ∷ nt factors ∷ [] ↠ λ x b f a. f (binary x a b))
-- "not on a primary"
productions factor = (nt primary ∷ [] ↠ λ a. a) ∷ (tk item NOT ∷ nt primary ∷ [] ↠ λ x a. negate x a) ∷ []
-- "A primary is a literal, a name or ( e ): a parenthesised expression is again an expression."
productions primary =
    (tk item NUMBER ∷ [] ↠ λ n. number n) ∷ (tk item ZERO ∷ [] ↠ λ x. bit x) ∷ (tk item ONE ∷ [] ↠ λ x. bit x) ∷
    (tk item NAME ∷ [] ↠ λ n. name n) ∷ (tk opens LP ∷ nt expression ∷ tk closes RP ∷ [] ↠ λ _ e _. parens e) ∷ []
