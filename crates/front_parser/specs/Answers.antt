-- What the reader of a text answers and writes, against the grammar's answer for its tokens. Assumes nothing.
use Rattle.std.specs.Prelude.{◌≡◌, List, ℕ, ◌≤◌, ◌<◌, Result, Ok, Err}
use Rattle.spec_grammar.specs.Token.{Token}
use Rattle.spec_grammar.specs.Tree.{Text}
use Rattle.spec_grammar.specs.Acceptance.{Answer, accepted, no_sentence, past_limit}
use Rattle.spec_grammar.specs.Reader.{answer}
use Rattle.front_layout.specs.Tokens.{token_at, Holds}
use Rattle.front_layout.specs.Entries.{body_entries}
use Rattle.front_layout.specs.Rows.{Output, WroteLines}
use Rattle.front_layout.specs.Headings.{headings, WroteNames}
use Rattle.front_declarations.specs.Rows.{declared_by}
use Rattle.front_parser.specs.Units.{EntityPart, ArchitecturePart, ProcessPart}
use Rattle.front_parser.specs.declared.Parsed.{Parsed}
use Rattle.front_cursor.specs.declared.Unread.{Unread}
use Rattle.front_cursor.specs.declared.Unread.TheVariants.{NoSentence, LimitPassed}

-- what the caller lends: the arrays of items and of statements, and the array of declared names
pub record Lent : Type 0 where
  pub out : Output
  pub decls : List ℕ

-- these together
abbrev pub lent : Output → List ℕ → Lent
lent o d = record { out = o; decls = d }

-- the numbers of a text whose entity, architecture and process were read
abbrev pub numbers_of : EntityPart → ArchitecturePart → ProcessPart → Parsed
numbers_of p q r = record {
  statements = r.listing.statements;
  items = r.listing.cursor.written;
  names = declared_by q.header;
  entity = p.name;
  entity_end = p.end;
  arch = q.name;
  arch_of = q.of;
  process = q.process;
  arch_end = r.end;
}

-- a text was read as the tree t
pub record ReadAs (ts : List Token) (t : Text) (before after : Lent) (q : Parsed) : Type 0 where
  -- the statements and the items of their expressions stand in the arrays from 0 on, all else is as it was
  pub lines : WroteLines ts 0 0 q.items q.statements before.out after.out (body_entries t.body)
  -- the declared names, ports and then variables, stand in their array from row 0 on, all else is as it was
  pub names : WroteNames ts 0 q.names before.decls after.decls (headings t)
  -- "512 statements"; no more items than tokens; "17 in ports, 16 out, 32 variables"
  pub few_statements : q.statements ≤ 512
  pub few_items : q.items ≤ 16384
  pub few_names : q.names ≤ 65
  -- at the index stands the entity's name
  pub entity : token_at ts q.entity ≡ t.entity
  -- the name behind the entity's `end`
  pub at_entity_end : token_at ts q.entity_end ≡ t.end_of_entity
  -- the architecture's name
  pub arch : token_at ts q.arch ≡ t.arch
  -- the name behind `of`
  pub at_arch_of : token_at ts q.arch_of ≡ t.of_arch
  -- the word `process` in front of the variables
  pub process : token_at ts q.process ≡ t.process
  -- the name behind the architecture's `end`
  pub at_arch_end : token_at ts q.arch_end ≡ t.end_of_arch

-- the answer by the grammar's answer: a tree with its rows; no sentence at a token; a limit passed at a token.
-- Of a refused text nothing is said of the arrays: they are scratch of the caller, harmless as no caller reads them after a refusal.
abbrev pub parses_as : List Token → Lent → Lent → Answer → Result Parsed Unread → Type 0
parses_as ts before after (accepted t) r = (q : Parsed) × (r ≡ Ok q) × ReadAs ts t before after q
parses_as ts before after (no_sentence k) r = r ≡ Err (NoSentence k)
parses_as ts before after (past_limit k) r = r ≡ Err (LimitPassed k)

-- for the tokens ts
pub record Parses (ts : List Token) (before after : Lent) (r : Result Parsed Unread) : Type 0 where
  -- the answer is the grammar's
  pub is : parses_as ts before after (answer ts) r

-- over the arrays kinds and long of n tokens
pub record ParsesOver (kinds long : List ℕ) (n : ℕ) (before after : Lent) (r : Result Parsed Unread) : Type 0 where
  -- a text has at most 16384 tokens, as it has at most 16384 bytes: for every list of tokens that the arrays hold, the answer is the grammar's
  pub reads : (ts : List Token) → n ≤ 16384 → Holds ts kinds long n → Parses ts before after r
  -- for a larger number, which no text has, the answer is no sentence at 0
  pub too_many : 16384 < n → r ≡ Err (NoSentence 0)
  -- and the arrays are as they were
  pub untouched : 16384 < n → after ≡ before
