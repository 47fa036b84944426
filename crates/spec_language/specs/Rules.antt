-- Refusals 5 to 9 in the table's order: stages, each with all offences of a tree. Assumes nothing.
use Rattle.std.specs.Prelude.{List, [], ◌∷◌, map, ℕ}
use Rattle.spec_grammar.specs.Tree.{Text}
use Rattle.spec_language.specs.Names.{names}
use Rattle.spec_language.specs.Typing.{types}
use Rattle.spec_language.specs.Values.{values}
use Rattle.spec_language.specs.Clock.{clock}
use Rattle.spec_language.specs.Classes.{loops}

-- what a tree breaks: the number of a row of the table, and the place
pub record Offence : Type 0 where
  pub number : ℕ
  pub place : ℕ

-- a stage: all offences of a tree, by one row of the table or by several
abbrev pub Stage : Type 0
Stage = Text → List Offence

-- the stage with one row, its number k, whose offences stand at these places
unfoldable pub by : ℕ → (Text → List ℕ) → Stage
by k places t = map (λ (p : ℕ). record { number = k; place = p }) (places t)

-- "Stages in table order"
unfoldable pub table : List Stage
table = by 5 names ∷ by 6 types ∷ by 7 values ∷ by 8 clock ∷ by 9 loops ∷ []
