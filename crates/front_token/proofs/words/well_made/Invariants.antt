use mathlib.Core.Path.{◌≡◌}
use mathlib.Core.Bool.{false}
use lib.ListN.{drop}
use Rattle.spec_language.specs.Words.{well_made}
use Rattle.front_token.proofs.words.well_made.Given as goal

abbrev pub invariant-loop-b : goal.invariant-loop-b
invariant-loop-b l = well_made l.after_underscore (drop l.b-index l.word) ≡ well_made false l.word
