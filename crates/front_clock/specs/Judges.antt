-- What the stage of the clock answers, on any arrays and on those of a tree. Assumes nothing.
use Rattle.std.specs.Prelude.{◌≡◌, List, [], ℕ}
use Rattle.std.specs.Prelude as P
use Rattle.std.proofs.Math.Option.{Option, none, some}
use Rattle.base_codes.specs.Limit as L
use Rattle.spec_grammar.specs.Token.{Token}
use Rattle.spec_grammar.specs.Tree.{Text}
use Rattle.spec_language.specs.Declarations.{Decl, declared, clock_of}
use Rattle.spec_language.specs.Elaboration.{position}
use Rattle.spec_language.specs.Names.{names}
use Rattle.spec_language.specs.Clock.{clock}
use Rattle.front_offences.specs.declared.Shape.{Shape}
use Rattle.front_offences.specs.declared.tree.Tree.{Tree}
use Rattle.front_offences.specs.Laid.{Laid}
use Rattle.front_offences.specs.Judged.{LaidIn, Judged}
use Rattle.front_clock.specs.Positions.{owner_in, lowest_in}

-- the arrays hold a tree with no offence of refusal 5
pub record Held (starts : List ℕ) (p : Shape) (codes indices rows decls owners : List ℕ) (t : Text) : Type 0 where
  pub tokens : List Token
  pub kinds : List ℕ
  pub laid : LaidIn tokens t kinds starts p codes indices rows decls owners
  pub named : names t ≡ []

-- the stage's answer: the lowest place by position; and for such a tree the lowest offence of refusal 8
abbrev pub Judges : Tree → P.Option ℕ → Type 0
Judges tree r = Judged (lowest_in tree.starts.now tree.shape tree.codes.now tree.indices.now tree.rows.now tree.decls.now tree.owners.now)
    (Held tree.starts.now tree.shape tree.codes.now tree.indices.now tree.rows.now tree.decls.now tree.owners.now) clock r

-- the number of the declaration of the clock's name; 65 without a wait
unfoldable pub owner_of : List Decl → Option Token → ℕ
owner_of Δ none = L.NAMES
owner_of Δ (some w) = position Δ w.value

-- the clock's number, by position; and for a tree that the arrays hold
pub record Owns (rows : List ℕ) (s : ℕ) (owners : List ℕ) (n r : ℕ) : Type 0 where
  pub answer : r ≡ owner_in rows s owners n
  pub clocks : (ts : List Token) (t : Text) (kinds places codes indices : List ℕ) (k : ℕ) (decls : List ℕ) (d : ℕ)
      → Laid ts t kinds places n codes indices k rows s decls d owners → r ≡ owner_of (declared t) (clock_of t)
