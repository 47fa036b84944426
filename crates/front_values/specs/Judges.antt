-- What the stage of values answers, on any arrays and on those of a tree. Assumes nothing.
use Rattle.std.specs.Prelude.{List, Option, ℕ}
use Rattle.spec_grammar.specs.Token.{Token}
use Rattle.spec_grammar.specs.Tree.{Text}
use Rattle.spec_language.specs.Values.{values}
use Rattle.front_layout.specs.Arrays.{TokensIn}
use Rattle.front_layout.specs.Headings.{headings, DeclsIn}
use Rattle.front_offences.specs.declared.Shape.{Shape}
use Rattle.front_offences.specs.Judged.{Judged}
use Rattle.front_values.specs.Positions.{lowest_in}

-- the arrays hold a tree's tokens and declared names
pub record Held (starts : List ℕ) (p : Shape) (decls : List ℕ) (t : Text) : Type 0 where
  pub tokens : List Token
  pub kinds : List ℕ
  pub of_tokens : TokensIn tokens kinds starts p.tokens
  pub of_decls : DeclsIn tokens (headings t) decls p.names

-- the stage's answer: the lowest place by position; and for such a tree the lowest offence of refusal 7
abbrev pub Judges : List ℕ → Shape → List ℕ → Option ℕ → Type 0
Judges starts p decls r = Judged (lowest_in starts p decls) (Held starts p decls) values r
