-- The bytes that were taken are the slice's first ones.
use Rattle.std.proofs.Common.{◌≡◌, ℕ, ◌<◌, get_or, length}
use Rattle.image_words.proofs.first.Given as goal

abbrev pub invariant-loop-k : goal.invariant-loop-k
invariant-loop-k g l = (length l.b-items ≡ l.k-end) × ((j : ℕ) → j < l.k → get_or l.b-items j 0 ≡ get_or l.s j 0)
