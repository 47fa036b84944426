-- The fields of the line x by position in the lines section (document 01, "Image, form 1"): "kind byte .., target byte, then two bytes each for code
-- offset .., code length, next, other, reach". Assumes nothing.
use Rattle.std.specs.Prelude.{List, ℕ, ◌+◌, ◌*◌, get_or}
use Rattle.base_codes.specs.Image as M
use Rattle.spec_format.specs.Words.{word2_at}

abbrev pub kind_at : List ℕ → ℕ → ℕ
kind_at l x = get_or l (x * M.LINE) 0

abbrev pub target_at : List ℕ → ℕ → ℕ
target_at l x = get_or l (x * M.LINE + M.LINE_TARGET) 0

abbrev pub offset_at : List ℕ → ℕ → ℕ
offset_at l x = word2_at l (x * M.LINE + M.LINE_CODE)

abbrev pub size_at : List ℕ → ℕ → ℕ
size_at l x = word2_at l (x * M.LINE + M.LINE_CODE_SIZE)

abbrev pub next_at : List ℕ → ℕ → ℕ
next_at l x = word2_at l (x * M.LINE + M.LINE_NEXT)

abbrev pub other_at : List ℕ → ℕ → ℕ
other_at l x = word2_at l (x * M.LINE + M.LINE_OTHER)

abbrev pub reach_at : List ℕ → ℕ → ℕ
reach_at l x = word2_at l (x * M.LINE + M.LINE_REACH)
