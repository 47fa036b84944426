-- The arrays of a parsed text with its names resolved: all of them hold the parts of one tree. Assumes nothing.
use Rattle.std.specs.Prelude.{List, ℕ}
use Rattle.spec_grammar.specs.Token.{Token}
use Rattle.spec_grammar.specs.Tree.{Text}
use Rattle.spec_language.specs.Declarations.{declared}
use Rattle.front_layout.specs.Entries.{body_entries, entry_items}
use Rattle.front_layout.specs.Arrays.{TokensIn, OwnersIn, ItemsIn, RowsIn}
use Rattle.front_layout.specs.Headings.{headings, DeclsIn}
use Rattle.front_offences.specs.Kinded.{Kinded}

-- the arrays hold the tokens ts, and the items, statements, declared names and owners of the tree t
pub record Laid (ts : List Token) (t : Text) (kinds places : List ℕ) (n : ℕ) (codes indices : List ℕ) (k : ℕ) (rows : List ℕ) (s : ℕ) (decls : List ℕ) (d : ℕ)
    (owners : List ℕ) : Type 0 where
  pub of_tokens : TokensIn ts kinds places n
  pub of_items : ItemsIn ts (entry_items (body_entries t.body)) codes indices k
  pub of_rows : RowsIn ts (body_entries t.body) rows s
  pub of_decls : DeclsIn ts (headings t) decls d
  pub of_owners : OwnersIn ts (declared t) owners n
  pub kinded : Kinded t
