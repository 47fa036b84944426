-- What the lines and code sections hold: the lines of a good table, field by field (document 01, "Image, form 1"). The opener establishes it.
-- Assumes nothing.
use Rattle.std.specs.Prelude.{◌≡◌, List, ℕ, length}
use Rattle.spec_format.specs.Image.{Table, raws_of, code_of_lines}
use Rattle.spec_format.specs.Opening.{raws}
use Rattle.spec_format.specs.Good.{GoodTable}

-- the sections l and c are those of the table t
pub record Held (l c : List ℕ) (t : Table) : Type 0 where
  pub fields : raws (length t.lines) l ≡ raws_of 0 t.lines t.reaches
  pub code : c ≡ code_of_lines t.lines
  pub good : GoodTable t
