-- What resolving the names of a text leaves in the array of owners, on any arrays and on those of a tree. Assumes nothing.
use Rattle.std.specs.Prelude.{◌≡◌, List, ◌⊎◌, ℕ, ◌≤◌, min, length, get_or}
use Rattle.base_codes.specs.Limit as L
use Rattle.spec_grammar.specs.Token.{Token}
use Rattle.base_codes.specs.Token.{NAME}
use Rattle.spec_grammar.specs.Tree.{Text}
use Rattle.spec_language.specs.Declarations.{declared}
use Rattle.front_layout.specs.Arrays.{TokensIn, OwnersIn}
use Rattle.front_layout.specs.Headings.{headings, DeclsIn}
use Rattle.front_offences.specs.Kinded.{Kinded}
use Rattle.front_limits.specs.Words.{WordsIn}
use Rattle.front_scope.specs.Positions.{owner_in, fill_from}

-- the owners after the call (₁) from those before it (₀): by position; what is no name of the text is as before; and for a tree that the arrays hold,
-- each name has the number of its declaration
pub record Resolves (text kinds starts sizes : List ℕ) (n : ℕ) (decls : List ℕ) (d : ℕ) (owners₀ owners₁ : List ℕ) : Type 0 where
  pub answer : owners₁ ≡ fill_from (owner_in text starts sizes n decls d) kinds 0 (min n L.TEXT) owners₀
  pub kept : (i : ℕ) → (n ≤ i) ⊎ (get_or kinds i 0 ≡ NAME → ⊥) → get_or owners₁ i 0 ≡ get_or owners₀ i 0
  pub owners : (ts : List Token) (t : Text) → n ≤ length owners₀ → TokensIn ts kinds starts n → WordsIn text ts sizes n → DeclsIn ts (headings t) decls d
      → Kinded t
      → OwnersIn ts (declared t) owners₁ n
