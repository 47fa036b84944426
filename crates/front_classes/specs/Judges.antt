-- What the stage of classes answers, on any arrays and on those of a tree. Assumes nothing.
use Rattle.std.specs.Prelude.{◌≡◌, List, Option, ℕ}
use Rattle.spec_grammar.specs.Token.{Token}
use Rattle.spec_grammar.specs.Tree.{Text}
use Rattle.spec_language.specs.Classes.{loops}
use Rattle.front_layout.specs.Tokens.{token_at}
use Rattle.front_layout.specs.Entries.{body_entries}
use Rattle.front_layout.specs.Arrays.{TokensIn, RowsIn}
use Rattle.front_offences.specs.declared.Shape.{Shape}
use Rattle.front_offences.specs.Judged.{Judged}
use Rattle.front_classes.specs.Positions.{lowest_in}

-- the arrays hold a tree's tokens and statements, `process` among the tokens
pub record Held (starts : List ℕ) (p : Shape) (rows : List ℕ) (t : Text) : Type 0 where
  pub tokens : List Token
  pub kinds : List ℕ
  pub of_tokens : TokensIn tokens kinds starts p.tokens
  pub of_rows : RowsIn tokens (body_entries t.body) rows p.statements
  pub process : token_at tokens p.process ≡ t.process

-- the stage's answer: the lowest place by position; and for such a tree the lowest offence of refusal 9,
-- "while with a classed body that is not C; if none, process body not C"
abbrev pub Judges : List ℕ → Shape → List ℕ → Option ℕ → Type 0
Judges starts p rows r = Judged (lowest_in starts p rows) (Held starts p rows) loops r
