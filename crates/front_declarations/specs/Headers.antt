-- Where a reader of the heading stands: a cursor, and the counts of names, inputs, outputs and variables. Assumes nothing.
use Rattle.std.specs.Prelude.{◌≡◌, Bool, true, false, List, [], ◌∷◌, ℕ, zero, suc, ◌+◌, ◌≤◌, eqb, leb, ltb, Result, Ok, Err}
use Rattle.spec_grammar.specs.Token.{Token}
use Rattle.base_codes.specs.Token.{NAME, NUMBER, ZERO, ONE, BECOMES, MINUS, IN, OUT, VARIABLE, STD_LOGIC, INTEGER}
use Rattle.spec_grammar.specs.Grammar.{NonTerminal, Says, Sym, Fun}
use Rattle.spec_grammar.specs.Meter.{InHeading}
use Rattle.spec_grammar.specs.Reader.{choose, Outcome}
use Rattle.front_cursor.specs.declared.Unread.{Unread}
use Rattle.front_layout.specs.Tokens.{token_at, kind_in, flag_in}
use Rattle.front_cursor.specs.Reading.{Read, here, unread, from, refuse, step, expect_one, follows_at}
use Rattle.front_declarations.specs.declared.Header.{Header}

-- where a reader of the heading stands or has refused, with the counts of names, inputs, outputs and variables
pub record HeaderRead : Type 0 where
  pub cursor : Read
  pub waiting : ℕ
  pub inputs : ℕ
  pub outputs : ℕ
  pub vars : ℕ

-- a reader of the heading goes on
abbrev pub header_here : Header → HeaderRead
header_here p = record { cursor = here p.cursor; waiting = p.waiting; inputs = p.inputs; outputs = p.outputs; vars = p.vars }

-- the counts of the heading; b says that variables are being declared
abbrev pub heading_of : Bool → HeaderRead → InHeading
heading_of b p = record { waiting = p.waiting; inputs = p.inputs; outputs = p.outputs; vars = p.vars; are_vars = b }

-- the counts of p where the cursor is
abbrev pub header_at : Read → HeaderRead → HeaderRead
header_at q p = record { cursor = q; waiting = p.waiting; inputs = p.inputs; outputs = p.outputs; vars = p.vars }

-- what a reader of the heading answers that began at p: where it has refused, the counts are those of p
abbrev pub as_header : Header → Result Header Unread → HeaderRead
as_header p (Ok r) = header_here r
as_header p (Err e) = header_at (unread e) (header_here p)

-- what a reader of the heading is called with: where it has refused, no name is counted
abbrev pub header_read : Result Header Unread → HeaderRead
header_read (Ok p) = header_here p
header_read (Err e) = record { cursor = unread e; waiting = 0; inputs = 0; outputs = 0; vars = 0 }

-- what a reader of the heading answers that was called at p, which may have refused: where the answer is a refusal, the counts are those of p
abbrev pub header_after : HeaderRead → Result Header Unread → HeaderRead
header_after p (Ok r) = header_here r
header_after p (Err e) = header_at (unread e) p

-- what comes of the text where the reader of the heading stands at p
abbrev pub from_header : (ts : List Token) (S : NonTerminal) (b : Bool) (p : HeaderRead) (γ : List Sym) → Fun γ (Says S) → Outcome (Says S)
from_header ts S b p γ κ = from ts S 0 1 (heading_of b p) p.cursor 0 γ κ

-- refused by number k, at the token where it stands
abbrev pub refuse_header : ℕ → HeaderRead → HeaderRead
refuse_header k p = header_at (refuse k p.cursor) p

-- one name more: a variable, "32 variables"; or a port, whose mode is still to come
abbrev pub declare_at : Bool → HeaderRead → HeaderRead
declare_at true p = choose (leb 32 p.vars) (refuse_header 4 p)
    (record { cursor = step p.cursor; waiting = p.waiting; inputs = p.inputs; outputs = p.outputs; vars = p.vars + 1 })
declare_at false p = record { cursor = step p.cursor; waiting = p.waiting + 1; inputs = p.inputs; outputs = p.outputs; vars = p.vars }

-- a declared name: has says that a name stands there, long that it passes a limit wherever it stands
unfoldable pub name_at : Bool → Bool → Bool → HeaderRead → HeaderRead
name_at has long b p = choose (eqb p.cursor.fault 0) (choose has (choose long (refuse_header 4 p) (declare_at b p)) (refuse_header 3 p)) p

-- where a token was taken that must have the kind k
abbrev pub take_at : List ℕ → List ℕ → ℕ → ℕ → HeaderRead → HeaderRead
take_at kinds long n k p = header_at (expect_one kinds long n k p.cursor) p

-- where a declared name was taken
abbrev pub take_name : List ℕ → List ℕ → ℕ → Bool → HeaderRead → HeaderRead
take_name kinds long n b p = name_at (eqb (kind_in kinds n p.cursor.at) NAME) (flag_in long p.cursor.at) b p

-- the word `variable` is taken: the names that come now are variables, and none waits for a mode
abbrev pub variable_at : List ℕ → List ℕ → ℕ → HeaderRead → HeaderRead
variable_at kinds long n p = record {
  cursor = expect_one kinds long n VARIABLE
      p.cursor;
  waiting = 0;
  inputs = p.inputs;
  outputs = p.outputs;
  vars = p.vars;
}

-- `in`: the names that waited for their mode are inputs, "17 in ports"
abbrev pub inputs_at : HeaderRead → HeaderRead
inputs_at p = choose (ltb 17 (p.inputs + p.waiting)) (refuse_header 4 p)
    (record { cursor = step p.cursor; waiting = 0; inputs = p.inputs + p.waiting; outputs = p.outputs; vars = p.vars })

-- `out`: they are outputs, "16 out"
abbrev pub outputs_at : HeaderRead → HeaderRead
outputs_at p = choose (ltb 16 (p.outputs + p.waiting)) (refuse_header 4 p)
    (record { cursor = step p.cursor; waiting = 0; inputs = p.inputs; outputs = p.outputs + p.waiting; vars = p.vars })

-- "`in` or `out`": k is the kind of the token that stands there
unfoldable pub mode_at : ℕ → HeaderRead → HeaderRead
mode_at k p = choose (eqb p.cursor.fault 0) (choose (eqb k IN) (inputs_at p) (choose (eqb k OUT) (outputs_at p) (refuse_header 3 p))) p

-- the kind that a type word must have where a token of kind k stands: std_logic, or else integer
abbrev pub type_kind : ℕ → ℕ
type_kind k = choose (eqb k STD_LOGIC) STD_LOGIC INTEGER

-- the kind that a literal must have where a token of kind k stands: '0' or '1', or else a number
abbrev pub literal_kind : ℕ → ℕ
literal_kind k = choose (eqb k ZERO) ZERO (choose (eqb k ONE) ONE NUMBER)

-- "An initial value is a literal; a number may have -."
unfoldable pub value_at : List ℕ → List ℕ → ℕ → Read → Read
value_at kinds long n q = choose (eqb (kind_in kinds n q.at) MINUS) (expect_one kinds long n NUMBER (expect_one kinds long n MINUS q))
    (expect_one kinds long n (literal_kind (kind_in kinds n q.at)) q)

-- "perhaps := and an initial value"
unfoldable pub init_at : List ℕ → List ℕ → ℕ → Read → Read
init_at kinds long n q = choose (follows_at q.fault (kind_in kinds n q.at) BECOMES) (value_at kinds long n (expect_one kinds long n BECOMES q)) q

-- a type, and perhaps an initial value
unfoldable pub tail_at : List ℕ → List ℕ → ℕ → Read → Read
tail_at kinds long n q = init_at kinds long n (expect_one kinds long n (type_kind (kind_in kinds n q.at)) q)

-- what a reader of the heading asks of where it stands
pub record AsksHeader (n : ℕ) (p : HeaderRead) : Type 0 where
  pub short : n ≤ 16384
  pub inside : p.cursor.at ≤ n
  pub room : p.cursor.written ≤ p.cursor.at
  pub few : p.cursor.items ≤ 64
  pub waiting : p.waiting ≤ p.cursor.at
  pub inputs : p.inputs ≤ 17
  pub outputs : p.outputs ≤ 16
  pub vars : p.vars ≤ 32

-- how it moves: on, within the tokens and the limits, with no item written; and what was refused stays so
pub record MovesHeader (n : ℕ) (p r : HeaderRead) : Type 0 where
  pub on : p.cursor.at ≤ r.cursor.at
  pub inside : r.cursor.at ≤ n
  pub few : r.cursor.items ≤ 64
  pub less : r.cursor.written ≤ p.cursor.written
  pub wrote : r.cursor.fault ≡ 0 → r.cursor.written ≡ p.cursor.written
  pub waiting : r.waiting ≤ r.cursor.at
  pub inputs : r.inputs ≤ 17
  pub outputs : r.outputs ≤ 16
  pub vars : r.vars ≤ 32
  pub began : r.cursor.fault ≡ 0 → p.cursor.fault ≡ 0

-- c names more are declared: variables, or ports whose mode is still to come
pub record Grown (b : Bool) (p r : HeaderRead) (c : ℕ) : Type 0 where
  pub waiting : r.waiting ≡ p.waiting + choose b 0 c
  pub inputs : r.inputs ≡ p.inputs
  pub outputs : r.outputs ≡ p.outputs
  pub vars : r.vars ≡ p.vars + choose b c 0

-- "names with commas": the tokens from an index on, every second one
unfoldable pub names_from : List Token → ℕ → ℕ → List Token
names_from ts first zero = []
names_from ts first (suc c) = token_at ts first ∷ names_from ts (first + 2) c
