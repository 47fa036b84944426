-- A cycle over the sections of an opened image, by their bytes: the lines followed from the place on, for at most the first line's reach and one more.
-- Assumes nothing.
use Rattle.std.specs.Prelude.{List, ℕ, suc, ℤ}
use Rattle.spec_format.specs.Signature.{types, type_bytes}
use Rattle.spec_format.specs.Lines.{reach}
use Rattle.spec_format.specs.Walk.{from}
use Rattle.spec_format.specs.Image.{Table}
use Rattle.image_walk.specs.Follow.{Went, follow_at}
use Rattle.image_walk.specs.Held.{Held}
use Rattle.image_checks.specs.Places.{Opens}

-- the sections s, l and c are those of an image that opens to the table t: what the opener establishes
pub record Checked (s l c : List ℕ) (t : Table) : Type 0 where
  pub opens : Opens s l c t
  pub held : Held l c t

-- the lines followed from the place p on, over the input row i, the output slots o and the variable slots v
unfoldable pub ran_for : Table → List ℕ → List ℕ → ℕ → List ℤ → List ℤ → List ℤ → Went
ran_for t l c p i o v =
    follow_at l c (type_bytes t.signature.inputs) (type_bytes (types t.signature.variables)) i (suc (reach t.reaches (from t.lines p)))
    (from t.lines p) 0 o v
