-- What a call on a whole image answers, beside format's definitions: the way that is counted, and its bound (document 01, "State").
-- Assumes nothing.
use Rattle.std.specs.Prelude.{List, [], ℕ}
use Rattle.spec_format.specs.Lines.{reach}
use Rattle.spec_format.specs.Walk.{from}
use Rattle.spec_format.specs.Opening.{Opened, opened, not_opened, open_of}
use Rattle.spec_semantics.specs.Calls.{Answer, performed, not_performed}

-- "The way of a cycle lists the statements it performed"; a refused call performs none
abbrev pub way_of : Answer → List ℕ
way_of (performed way) = way
way_of (not_performed q k) = []

-- the reach of the first line that a cycle from the place p follows; 0 where the image is refused
abbrev pub reach_from : Opened → ℕ → ℕ
reach_from (opened t) p = reach t.reaches (from t.lines p)
reach_from (not_opened q k) p = 0

-- "bounded by the follower's reach plus one": the follower's reach, of the image b from the place p
unfoldable pub first_reach : List ℕ → ℕ → ℕ
first_reach b p = reach_from (open_of b) p
