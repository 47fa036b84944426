use mathlib.Core.Path.{◌≡◌}
use mathlib.Core.Bool.{true}
use lib.ListN.{drop}
use Rattle.front_cursor.specs.Reading.{here, Asks}
use Rattle.front_parser.specs.Runs.{expect_all, positive}
use Rattle.front_parser.proofs.expect_all.Given as goal

abbrev pub invariant-loop-word : goal.invariant-loop-word
invariant-loop-word l =
    (expect_all l.text.kinds.now l.text.long.now l.text.count l.words (here l.initial.a) ≡ expect_all l.text.kinds.now l.text.long.now l.text.count (drop l.word-index l.words) (here l.a))
    × (positive (drop l.word-index l.words) ≡ true) × Asks l.text.count (here l.a)
