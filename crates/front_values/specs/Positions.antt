-- Refusal 7 by position: what the code looks at in the rows of declared names. Assumes nothing.
use Rattle.std.specs.Prelude.{Bool, true, false, List, Option, ℕ, ◌+◌, ◌*◌, min, eqb, get_or}
use Rattle.base_codes.specs.Declaration.{IN, NONE, ROW, MODE, INIT, FIRST}
use Rattle.base_codes.specs.Limit.{NAMES}
use Rattle.spec_grammar.specs.Reader.{choose}
use Rattle.spec_language.specs.Lists.{unless}
use Rattle.front_offences.specs.Lowest.{lowest_of, lowest_from}
use Rattle.front_layout.specs.Arrays.{number_in}
use Rattle.front_offences.specs.declared.Shape.{Shape}

-- "output or variable group without value"
abbrev pub value_there : ℕ → ℕ → Bool
value_there mode init = choose (eqb mode IN) true (choose (eqb init NONE) false true)

-- row j of the declared names, at its group's first name
unfoldable pub value_at : List ℕ → List ℕ → ℕ → ℕ → Option ℕ
value_at decls starts n j = lowest_of
    (unless (value_there (get_or decls (ROW * j + MODE) 0) (get_or decls (ROW * j + INIT) 0)) (number_in starts n (get_or decls (ROW * j + FIRST) 0)))

-- the lowest of at most 65 declared names
abbrev pub lowest_in : List ℕ → Shape → List ℕ → Option ℕ
lowest_in starts p decls = lowest_from (value_at decls starts p.tokens) 0 (min p.names NAMES)
