-- Refusal 7: "output or variable group without value", at its first name. All offences of a tree. Assumes nothing.
use Rattle.std.specs.Prelude.{cond, List, [], ◌∷◌, ℕ}
use Rattle.spec_grammar.specs.Token.{Token}
use Rattle.spec_grammar.specs.Tree.{Init, without, integer_literal, logic_literal, minus, Group, Text}
use Rattle.spec_language.specs.Lists.{each}
use Rattle.spec_language.specs.Declarations.{groups, is_input}

-- "its first name"
unfoldable pub first_at : List Token → List ℕ
first_at [] = []
first_at (x ∷ xs) = x.place ∷ []

unfoldable pub missing : List Token → Init → List ℕ
missing xs without = first_at xs
missing xs (integer_literal x) = []
missing xs (logic_literal x) = []
missing xs (minus s x) = []

-- an input group needs no value
unfoldable pub values_of : Group → List ℕ
values_of g = cond (is_input g.mode) [] (missing g.names g.init)

unfoldable pub values : Text → List ℕ
values t = each values_of (groups t)
