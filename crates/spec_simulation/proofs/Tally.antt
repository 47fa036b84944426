-- tally's reaches, by computing (P2). Assumes nothing.
use mathlib.Core.Path.{◌≡◌, refl}
use mathlib.Core.List.{[], ◌∷◌}
use Rattle.spec_semantics.specs.Tally.{tally}
use Rattle.spec_format.specs.Lines.{entry, reaches, reaches_of}

-- "(P2) reaches 3 1 0 2 1 0"
pub tally_reaches : reaches_of tally.body ≡ 3 ∷ 1 ∷ 0 ∷ 2 ∷ 1 ∷ 0 ∷ []
unfolding tally reaches_of reaches entry
tally_reaches = refl
