-- The header by position: read off the text at the places of the output names. Assumes nothing.
use Rattle.std.specs.Prelude.{List, [], ◌∷◌, ◌++◌, map, ℕ, zero, suc, ◌+◌, min, get_or}
use Rattle.base_codes.specs.Limit.{VARIABLES}
use Rattle.spec_language.specs.Bytes.{bytes, lower}
use Rattle.front_token.specs.Places.{part}
use Rattle.base_ir.specs.declared.Names.{Names}

-- "output names in lower case": of name k a space and its bytes
abbrev pub label_at : List ℕ → List ℕ → List ℕ → ℕ → List ℕ
label_at text starts sizes k = 32 ∷ map lower (part text (get_or starts k 0) (get_or sizes k 0))

-- "output names": from name k on, c of them
unfoldable pub labels_from : (ℕ → List ℕ) → ℕ → ℕ → List ℕ
labels_from f k zero = []
labels_from f k (suc c) = f k ++ labels_from f (k + 1) c

-- "a header (`cycle`, `wait`, `lines`, output names in lower case)", of at most 32 names
unfoldable pub header_at : List ℕ → Names → List ℕ
header_at text d = bytes "cycle wait lines" ++ (labels_from (label_at text d.starts d.sizes) 0 (min d.count VARIABLES) ++ (10 ∷ []))
