-- The lowest place of a stage, which is there or not, and what a stage answers. Assumes nothing.
use Rattle.std.proofs.Math.Option.{none, some}
use Rattle.std.proofs.Math.Option as M
use Rattle.std.specs.Prelude.{List, Option, None, Some, ℕ, zero, suc, ◌+◌, min}
use Rattle.spec_language.specs.Lists.{lowest}

-- a place that is there or not, as the code has it
unfoldable pub option_of : M.Option ℕ → Option ℕ
option_of none = None
option_of (some p) = Some p

-- "the lowest place first within a stage": a stage's answer for its offences
abbrev pub lowest_of : List ℕ → Option ℕ
lowest_of l = option_of (lowest l)

-- the lower of two
unfoldable pub lower : Option ℕ → Option ℕ → Option ℕ
lower None b = b
lower (Some a) None = Some a
lower (Some a) (Some b) = Some (min a b)

-- the lowest of what stands at j and after it, c positions
unfoldable pub lowest_from : (ℕ → Option ℕ) → ℕ → ℕ → Option ℕ
lowest_from f j zero = None
lowest_from f j (suc c) = lower (f j) (lowest_from f (j + 1) c)
