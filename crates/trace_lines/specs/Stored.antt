-- Bytes stored into a lent buffer from a place on. Assumes nothing.
use Rattle.std.specs.Prelude.{◌≡◌, List, ℕ, zero, suc, ◌+◌, ◌*◌, ◌≤◌, min, length}
use Rattle.std.proofs.lemmas.List.Edits.{sets}

-- the bytes x stored into o from the place a on leave u; r is the place behind them, or the end where there is no room for all
pub record Puts (o : List ℕ) (a : ℕ) (x u : List ℕ) (r : ℕ) : Type 0 where
  pub puts : a ≤ length o → (u ≡ sets o a x) × (r ≡ min (a + length x) (length o))

-- the lowest number of more than f + 1 digits
unfoldable pub tens : ℕ → ℕ
tens zero = 10
tens (suc f) = tens f * 10
