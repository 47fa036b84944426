-- Lines and reaches that satisfy document 01's equation for reaches, whether a compiler made them or not. Assumes nothing.
use Rattle.std.specs.Prelude.{◌≡◌, List, ℕ, ◌<◌, length}
use Rattle.spec_format.specs.Lines.{Line, waits, acts, branches, line, reach, reach_of}

-- the followers of a line are among n lines
abbrev pub Followers : ℕ → Line → Type 0
Followers n (waits f) = f < n
Followers n (acts a f) = f < n
Followers n (branches e f g) = (f < n) × (g < n)

-- one reach for each line; every follower is a line; "Reach is 0 for a wait, else 1 plus the larger reach of its followers."
pub record Ranked (t : List Line) (r : List ℕ) : Type 0 where
  pub long : length r ≡ length t
  pub followers : (x : ℕ) → x < length t → Followers (length t) (line t x)
  pub reaches : (x : ℕ) → x < length t → reach r x ≡ reach_of r (line t x)
