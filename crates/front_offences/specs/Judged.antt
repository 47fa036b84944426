-- What every stage answers, in one form; and what the arrays of a text hold, counted by its shape. Assumes nothing.
use Rattle.std.specs.Prelude.{◌≡◌, List, Option, ℕ}
use Rattle.spec_grammar.specs.Token.{Token}
use Rattle.spec_grammar.specs.Tree.{Text}
use Rattle.front_offences.specs.Lowest.{lowest_of}
use Rattle.front_offences.specs.declared.Shape.{Shape}
use Rattle.front_offences.specs.Laid.{Laid}

-- a stage whose lowest place by position is low, and whose offences are these: the answer by position, whatever the arrays hold; and for every tree
-- that they hold, the lowest of its offences
pub record Judged (low : Option ℕ) (Held : Text → Type 0) (offences : Text → List ℕ) (r : Option ℕ) : Type 0 where
  pub answer : r ≡ low
  pub lowest : (t : Text) → Held t → r ≡ lowest_of (offences t)

-- the arrays hold the tokens ts and all parts of the tree t, as many as the shape says
abbrev pub LaidIn : List Token → Text → List ℕ → List ℕ → Shape → List ℕ → List ℕ → List ℕ → List ℕ → List ℕ → Type 0
LaidIn ts t kinds starts p codes indices rows decls owners =
    Laid ts t kinds starts p.tokens codes indices p.items rows p.statements decls p.names owners
