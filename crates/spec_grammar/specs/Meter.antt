-- The limits of document 01 as counts that each token of a text moves, by its mark in the grammar. Counted so, a limit is passed at one token.
-- The same limits as counts on the tree stand in Limits.antt. Assumes nothing.
use Rattle.std.specs.Prelude.{Bool, true, false, ◌||◌, List, [], ◌∷◌, ℕ, suc, pred, ◌+◌, ltb, eqb}
use Rattle.spec_grammar.specs.Token.{Token}
use Rattle.base_codes.specs.Token.{NAME, NUMBER}
use Rattle.spec_grammar.specs.Grammar.{Mark, plain, item, opens, closes, fresh, stmt, stmt_fresh, deeper, shallower, declares, ins, outs, variables}

-- of the expression being read: its literals, names and operators so far; its open parentheses
pub record InExpression : Type 0 where
  pub items : ℕ
  pub parens : ℕ

-- statements so far; depth of the statement list being read ("process body is 1"); depth of the statement that begins with this token, or 0
pub record InBody : Type 0 where
  pub statements : ℕ
  pub depth : ℕ
  pub begun : ℕ

-- names whose `in` or `out` is still to come; inputs, outputs and variables so far; whether variables are being declared
pub record InHeading : Type 0 where
  pub waiting : ℕ
  pub inputs : ℕ
  pub outputs : ℕ
  pub vars : ℕ
  pub are_vars : Bool

-- What a token does to each.
abbrev expression_count : Mark → InExpression → InExpression
expression_count plain c = c
expression_count item c = record { items = suc c.items; parens = c.parens }
expression_count opens c = record { items = c.items; parens = suc c.parens }
expression_count closes c = record { items = c.items; parens = pred c.parens }
expression_count fresh c = record { items = 0; parens = 0 }
expression_count stmt c = c
expression_count stmt_fresh c = record { items = 0; parens = 0 }
expression_count deeper c = c
expression_count shallower c = c
expression_count declares c = c
expression_count ins c = c
expression_count outs c = c
expression_count variables c = c

-- no statement begins with this token
abbrev within : InBody → InBody
within c = record { statements = c.statements; depth = c.depth; begun = 0 }

-- one does, in the list being read
abbrev begin : InBody → InBody
begin c = record { statements = suc c.statements; depth = c.depth; begun = c.depth }

abbrev counted_in_body : Mark → InBody → InBody
counted_in_body plain c = within c
counted_in_body item c = within c
counted_in_body opens c = within c
counted_in_body closes c = within c
counted_in_body fresh c = within c
counted_in_body stmt c = begin c
counted_in_body stmt_fresh c = begin c
counted_in_body deeper c = record { statements = c.statements; depth = suc c.depth; begun = 0 }
counted_in_body shallower c = record { statements = c.statements; depth = pred c.depth; begun = 0 }
counted_in_body declares c = within c
counted_in_body ins c = within c
counted_in_body outs c = within c
counted_in_body variables c = within c

-- a declared name: a variable, or a port whose mode is still to come
abbrev declare : Bool → InHeading → InHeading
declare true c = record { waiting = c.waiting; inputs = c.inputs; outputs = c.outputs; vars = suc c.vars; are_vars = true }
declare false c = record { waiting = suc c.waiting; inputs = c.inputs; outputs = c.outputs; vars = c.vars; are_vars = false }

-- the mode word says what the names of its group are, so a port limit is passed there
abbrev heading_count : Mark → InHeading → InHeading
heading_count plain c = c
heading_count item c = c
heading_count opens c = c
heading_count closes c = c
heading_count fresh c = c
heading_count stmt c = c
heading_count stmt_fresh c = c
heading_count deeper c = c
heading_count shallower c = c
heading_count declares c = declare c.are_vars c
heading_count ins c = record { waiting = 0; inputs = c.inputs + c.waiting; outputs = c.outputs; vars = c.vars; are_vars = c.are_vars }
heading_count outs c = record { waiting = 0; inputs = c.inputs; outputs = c.outputs + c.waiting; vars = c.vars; are_vars = c.are_vars }
heading_count variables c = record { waiting = 0; inputs = c.inputs; outputs = c.outputs; vars = c.vars; are_vars = true }

abbrev only : Bool → ℕ → ℕ
only true n = n
only false n = 0

-- All counts; and of this token alone, the bytes of a name and the value of a number.
pub record Meter : Type 0 where
  pub expr : InExpression
  pub body : InBody
  pub head : InHeading
  pub bytes : ℕ
  pub literal : ℕ

-- before the first token
abbrev pub zeroes : Meter
zeroes = record {
  expr = record { items = 0; parens = 0 };
  body = record { statements = 0; depth = 1; begun = 0 };
  head = record { waiting = 0; inputs = 0; outputs = 0; vars = 0; are_vars = false };
  bytes = 0;
  literal = 0;
}

-- after one more token
unfoldable pub tick : Meter → Mark → Token → Meter
tick c m x = record {
  expr = expression_count m c.expr;
  body = counted_in_body m c.body;
  head = heading_count m c.head;
  bytes = only (eqb x.kind NAME) x.size;
  literal = only (eqb x.kind NUMBER) x.value;
}

-- "Limits: name 32 bytes, 17 in ports, 16 out, 32 variables, 512 statements, statement depth 16 (process body is 1),
-- 64 literals, names and operators in an expression, 16 open parentheses, literal 2147483647": one of them is passed
unfoldable pub over : Meter → Bool
over c =
    ltb 32 c.bytes || (ltb 17 c.head.inputs || (ltb 16 c.head.outputs || (ltb 32 c.head.vars || (ltb 512 c.body.statements ||
    (ltb 16 c.body.begun || (ltb 64 c.expr.items || (ltb 16 c.expr.parens || ltb 2147483647 c.literal)))))))

-- the counts after the tokens ts, whose marks es begins with
unfoldable pub gauge : Meter → List Token → List Mark → Meter
gauge c [] es = c
gauge c (x ∷ ts) [] = c
gauge c (x ∷ ts) (e ∷ es) = gauge (tick c e x) ts es
