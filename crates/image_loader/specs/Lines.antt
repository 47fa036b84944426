-- What is checked of a line by its fields (document 01, "Image, form 1"). `kind_any` ties the tests to `line_of` and `good_line` of the crate spec_format.
-- Assumes nothing.
use Rattle.std.specs.Prelude.{Bool, false, cond, List, ℕ, ◌+◌, ◌*◌, ◌-◌, max, length, drop, ltb, eqb, None, Some, Result, Ok, Err}
use Rattle.base_codes.specs.Statement.{WAIT, OUTPUT, VARIABLE, IF, NULL}
use Rattle.base_codes.specs.Types.{BOOLEAN}
use Rattle.base_codes.specs.Image.{LINE}
use Rattle.spec_format.specs.Lines.{reach}
use Rattle.spec_format.specs.Opening.{raws, raw_reaches, Lined, lined, bad_at, open_lines}
use Rattle.image_loader.specs.Code.{Tag, tagged, tag_at, signature_at, input_types, output_types, variable_types, code_type}

-- "It must leave one value of the type the line needs": t is the type that code leaves, u the one that is needed
abbrev pub tags_same : Tag → Tag → Bool
tags_same None u = false
tags_same (Some t) None = false
tags_same (Some t) (Some u) = eqb t u

-- the code c leaves a value of the type with the tag u
unfoldable pub leaves_type : List ℕ → List ℕ → Tag → Bool
leaves_type sig c u = tags_same (tagged (code_type (input_types sig) (variable_types sig) c)) u

-- kind, target and code of a line: "0 wait, 1 output, 2 variable, 3 branch, 4 null"; "Unused fields are 0", "a line without code has length 0"
unfoldable pub code_fits : List ℕ → ℕ → ℕ → List ℕ → Bool
code_fits sig k t c =
    cond (eqb k OUTPUT) (leaves_type sig c (tag_at (output_types sig) t))
    (cond (eqb k VARIABLE) (leaves_type sig c (tag_at (variable_types sig) t))
    (cond (eqb t 0)
    (cond (eqb k IF) (leaves_type sig c (Some BOOLEAN)) (cond (eqb k WAIT) (eqb (length c) 0) (cond (eqb k NULL) (eqb (length c) 0) false)))
    false))

-- next, other and reach of a line of kind k: "Reach is 0 for a wait, else 1 plus the larger reach of its followers."
unfoldable pub followers_fit : ℕ → List ℕ → ℕ → ℕ → ℕ → ℕ → Bool
followers_fit n rs k f g q =
    cond (ltb f n)
    (cond (eqb k IF) (cond (ltb g n) (eqb q (max (reach rs f) (reach rs g) + 1)) false)
    (cond (eqb g 0) (cond (eqb k WAIT) (eqb q 0) (eqb q (reach rs f + 1))) false))
    false

-- the reaches that the n lines of a lines section have
abbrev pub stored_reaches : ℕ → List ℕ → List ℕ
stored_reaches n lines = raw_reaches (raws n lines)

-- all lines are good, or the place of refusal 13
abbrev pub judged : Lined → Result (Unit {0}) ℕ
judged (lined ls) = Ok tt
judged (bad_at x) = Err x

-- what the lines from the line x on come to, whose code begins at the offset p
unfoldable pub lines_from : List ℕ → List ℕ → List ℕ → ℕ → ℕ → ℕ → Result (Unit {0}) ℕ
lines_from sig lines code n x p =
    judged (open_lines (signature_at sig) n (stored_reaches n lines) x p (drop p code) (raws (n - x) (drop (LINE * x) lines)))
