-- What the stages of names and of the clock look at, by position: which statements have a name, what is declared under a number. Assumes nothing.
use Rattle.std.specs.Prelude.{Bool, ◌||◌, List, ℕ, ◌+◌, ◌*◌, eqb, ltb, get_or}
use Rattle.base_codes.specs.Statement as S
use Rattle.base_codes.specs.Declaration as D
use Rattle.base_codes.specs.Limit as L
use Rattle.spec_grammar.specs.Reader.{choose}

-- a wait or an assignment: its row has the index of a name
unfoldable pub has_name : ℕ → Bool
has_name kind = eqb kind S.WAIT || (eqb kind S.OUTPUT || eqb kind S.VARIABLE)

-- the mode under a declaration's number: 0 in, 1 out, 2 variable, 3 for none
abbrev pub mode_in : List ℕ → ℕ → ℕ → ℕ
mode_in decls d o = choose (ltb o d) (choose (ltb o L.NAMES) (get_or decls (D.ROW * o + D.MODE) 0) D.NO_MODE) D.NO_MODE

-- the type under a declaration's number: 0 std_logic, 1 integer, 2 for none
abbrev pub type_in : List ℕ → ℕ → ℕ → ℕ
type_in decls d o = choose (ltb o d) (choose (ltb o L.NAMES) (get_or decls (D.ROW * o + D.TYPE) 0) D.NO_TYPE) D.NO_TYPE
