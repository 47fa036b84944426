-- A stage that is exact by position answers as every stage does. Assumes nothing.
use mathlib.Core.Path.{◌≡◌, ◌∙◌}
use mathlib.Core.List.{List}
use Prim.Native.Nat.{ℕ}
use Rattle.std.specs.Prelude.{Option}
use Rattle.spec_grammar.specs.Tree.{Text}
use Rattle.front_offences.specs.Lowest.{lowest_of}
use Rattle.front_offences.specs.Judged.{Judged}

pub judged : {low r : Option ℕ} {Held : Text → Type 0} (offences : Text → List ℕ) → ((t : Text) → Held t → low ≡ lowest_of (offences t)) → r ≡ low
    → Judged low Held offences r
judged offences exact e = record { answer = e; lowest = λ t h. e ∙ exact t h }
