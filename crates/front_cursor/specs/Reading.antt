-- Where a reader over the arrays stands, as the grammar's reader sees it: what is still to come of the text, and what comes of the whole. Assumes nothing.
use Rattle.std.specs.Prelude.{ℕ, ◌+◌, ◌≤◌, ◌≡◌, Bool, false, List, drop, eqb, leb, Result, Ok, Err}
use Rattle.spec_grammar.specs.Token.{Token}
use Rattle.spec_grammar.specs.Grammar.{NonTerminal, Says, Sym, Fun}
use Rattle.spec_grammar.specs.Meter.{InHeading, Meter, over}
use Rattle.spec_grammar.specs.Reader.{choose, Outcome, refused, limited, run}
use Rattle.front_layout.specs.Tokens.{kind_in, flag_in}
use Rattle.front_cursor.specs.declared.Cursor.{Cursor}
use Rattle.front_cursor.specs.declared.Unread.{Unread}
use Rattle.front_cursor.specs.declared.Unread.TheVariants.{NoSentence, LimitPassed}

-- where a reader stands or has refused: its number is 0 where it goes on, 3 or 4 where it has refused; the counts of a reader that has refused are 0
pub record Read : Type 0 where
  pub fault : ℕ
  pub at : ℕ
  pub items : ℕ
  pub written : ℕ

-- a cursor goes on
abbrev pub here : Cursor → Read
here q = record { fault = 0; at = q.at; items = q.items; written = q.written }

-- a refusal at its token
abbrev pub unread : Unread → Read
unread (NoSentence at) = record { fault = 3; at = at; items = 0; written = 0 }
unread (LimitPassed at) = record { fault = 4; at = at; items = 0; written = 0 }

-- what a reader answers
abbrev pub as_read : Result Cursor Unread → Read
as_read (Ok r) = here r
as_read (Err e) = unread e

-- The counts: items and open parentheses of the expression, statements, depth of the statement list, and those of the heading.
abbrev pub meter : ℕ → ℕ → ℕ → ℕ → InHeading → Meter
meter items parens statements depth h = record {
  expr = record { items = items; parens = parens };
  body = record { statements = statements; depth = depth; begun = 0 };
  head = h;
  bytes = 0;
  literal = 0;
}

-- what comes of the whole where the reader's number is k: 0, it goes on; 3 and 4, it was refused where ts is left
unfoldable pub ending : (S : NonTerminal) → ℕ → List Token → Outcome (Says S) → Outcome (Says S)
ending S k ts o = choose (eqb k 0) o (choose (eqb k 3) (refused ts) (limited ts))

-- what comes of a text whose tokens are ts where the reader stands at q, with parens open and the symbols γ still to come
unfoldable pub from : (ts : List Token) (S : NonTerminal) (statements depth : ℕ) (h : InHeading) (q : Read) (parens : ℕ) (γ : List Sym) → Fun γ (Says S)
    → Outcome (Says S)
from ts S statements depth h q parens γ κ =
    ending S q.fault (drop q.at ts) (run over (drop q.at ts) S (meter q.items parens statements depth h) γ κ)

-- the counts of statements and of the heading are within the limits
pub record Fine (s : ℕ) (h : InHeading) : Type 0 where
  pub statements : s ≤ 512
  pub inputs : h.inputs ≤ 17
  pub outputs : h.outputs ≤ 16
  pub vars : h.vars ≤ 32

-- what a reader asks of where it stands: n tokens fit the arrays, and so does what is written
pub record Asks (n : ℕ) (q : Read) : Type 0 where
  pub short : n ≤ 16384
  pub inside : q.at ≤ n
  pub room : q.written ≤ q.at
  pub few : q.items ≤ 64

-- how a reader moves from q to r: on, within the tokens, with no more written than tokens read; and what was refused stays so
pub record Moves (n : ℕ) (q r : Read) : Type 0 where
  pub on : q.at ≤ r.at
  pub inside : r.at ≤ n
  pub room : r.written + q.at ≤ q.written + r.at
  pub few : r.items ≤ 64
  pub began : r.fault ≡ 0 → q.fault ≡ 0

-- refused by number k, at the token where it stands
abbrev pub refuse : ℕ → Read → Read
refuse k q = record { fault = k; at = q.at; items = 0; written = 0 }

-- one token on
abbrev pub step : Read → Read
step q = record { fault = q.fault; at = q.at + 1; items = q.items; written = q.written }

-- one token on, and one item more
abbrev pub step_item : Read → Read
step_item q = record { fault = q.fault; at = q.at + 1; items = q.items + 1; written = q.written }

-- an item of an expression is taken, "64 literals, names and operators in an expression"; b says that the token passes a limit wherever it stands
unfoldable pub item_at : Bool → Read → Read
item_at b q = choose (eqb q.fault 0) (choose b (refuse 4 q) (choose (leb 64 q.items) (refuse 4 q) (step_item q))) q

-- a token that must have a certain kind: has says that it has, b that it passes a limit wherever it stands
unfoldable pub expect_at : Bool → Bool → Read → Read
expect_at has b q = choose (eqb q.fault 0) (choose has (choose b (refuse 4 q) (step q)) (refuse 3 q)) q

-- a token of kind k is taken, over the arrays of n tokens
abbrev pub expect_one : List ℕ → List ℕ → ℕ → ℕ → Read → Read
expect_one kinds long n k q = expect_at (eqb (kind_in kinds n q.at) k) (flag_in long q.at) q

-- the reader has not refused, and a token of kind j stands there, where k is the kind of the token that stands there
unfoldable pub follows_at : ℕ → ℕ → ℕ → Bool
follows_at fault k j = choose (eqb fault 0) (eqb k j) false
