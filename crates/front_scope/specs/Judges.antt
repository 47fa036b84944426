-- What the stage of names answers, on any arrays and on those of a tree. Assumes nothing.
use Rattle.std.specs.Prelude.{◌≡◌, List, Option, ℕ}
use Rattle.spec_grammar.specs.Token.{Token}
use Rattle.spec_grammar.specs.Tree.{Text}
use Rattle.spec_language.specs.Names.{names}
use Rattle.front_layout.specs.Tokens.{token_at}
use Rattle.front_offences.specs.declared.Shape.{Shape}
use Rattle.front_offences.specs.declared.tree.Tree.{Tree}
use Rattle.front_offences.specs.Judged.{LaidIn, Judged}
use Rattle.front_limits.specs.Words.{WordsIn}
use Rattle.front_scope.specs.Positions.{lowest_in}

-- the indices of the names of entity and architecture, wherever they stand
pub record HeadsIn (ts : List Token) (t : Text) (p : Shape) : Type 0 where
  pub entity_at : token_at ts p.entity ≡ t.entity
  pub entity_end_at : token_at ts p.entity_end ≡ t.end_of_entity
  pub arch_at : token_at ts p.arch ≡ t.arch
  pub arch_of_at : token_at ts p.arch_of ≡ t.of_arch
  pub arch_end_at : token_at ts p.arch_end ≡ t.end_of_arch

-- the arrays hold a tree, and the bytes of its names
pub record Held (text starts sizes : List ℕ) (p : Shape) (codes indices rows decls owners : List ℕ) (t : Text) : Type 0 where
  pub tokens : List Token
  pub kinds : List ℕ
  pub laid : LaidIn tokens t kinds starts p codes indices rows decls owners
  pub words : WordsIn text tokens sizes p.tokens
  pub heads : HeadsIn tokens t p

-- the stage's answer: the lowest place by position; and for such a tree the lowest offence of refusal 5
abbrev pub Judges : List ℕ → List ℕ → Tree → Option ℕ → Type 0
Judges text sizes tree r =
    Judged (lowest_in text tree.starts.now sizes tree.shape tree.codes.now tree.indices.now tree.rows.now tree.decls.now tree.owners.now)
    (Held text tree.starts.now sizes tree.shape tree.codes.now tree.indices.now tree.rows.now tree.decls.now tree.owners.now) names r
