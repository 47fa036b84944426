-- Refusal 8 by position: "the first wait's name is no std_logic input, another wait differs, clock (if that input exists) read", at that name.
-- A wait's row has kind 0 and the index of its name; an item that is a name has code 1. Assumes nothing.
use Rattle.std.specs.Prelude.{Bool, false, not, List, Option, None, Some, ℕ, zero, suc, ◌+◌, ◌*◌, min, eqb, ltb, get_or}
use Rattle.base_codes.specs.Statement as S
use Rattle.base_codes.specs.Declaration as D
use Rattle.base_codes.specs.Limit as L
use Rattle.base_codes.specs.Item as I
use Rattle.spec_design.specs.Types.{std_logic, type_byte}
use Rattle.spec_grammar.specs.Reader.{choose}
use Rattle.spec_language.specs.Lists.{unless}
use Rattle.front_offences.specs.Lowest.{lowest_of, lower, lowest_from}
use Rattle.front_layout.specs.Arrays.{number_in}
use Rattle.front_offences.specs.declared.Shape.{Shape}
use Rattle.front_offences.specs.Positions.{mode_in, type_in}

-- the index of the first wait's name, from row j on, c rows; 16384 for none
unfoldable pub wait_from : List ℕ → ℕ → ℕ → ℕ
wait_from rows j zero = L.TEXT
wait_from rows j (suc c) = choose (eqb (get_or rows (S.ROW * j) 0) S.WAIT) (get_or rows (S.ROW * j + S.TOKEN) 0) (wait_from rows (j + 1) c)

-- "the first wait's name", among at most 512 statements
abbrev pub wait_in : List ℕ → ℕ → ℕ
wait_in rows s = wait_from rows 0 (min s L.STATEMENTS)

-- the number of the clock's declaration; 65 without a wait
abbrev pub owner_in : List ℕ → ℕ → List ℕ → ℕ → ℕ
owner_in rows s owners n = choose (ltb (wait_in rows s) n) (number_in owners n (wait_in rows s)) L.NAMES

-- "another wait differs": row j is a wait whose name stands for another declaration than o
unfoldable pub stray_at : List ℕ → List ℕ → List ℕ → ℕ → ℕ → ℕ → Option ℕ
stray_at rows places owners n o j =
    choose (eqb (get_or rows (S.ROW * j) 0) S.WAIT)
    (lowest_of (unless (eqb (number_in owners n (get_or rows (S.ROW * j + S.TOKEN) 0)) o) (number_in places n (get_or rows (S.ROW * j + S.TOKEN) 0)))) None

-- "clock read": item j is a name that stands for o
unfoldable pub read_at : List ℕ → List ℕ → List ℕ → List ℕ → ℕ → ℕ → ℕ → Option ℕ
read_at codes indices places owners n o j =
    choose (eqb (get_or codes j 0) I.NAME)
    (lowest_of (unless (not (eqb (number_in owners n (get_or indices j 0)) o)) (number_in places n (get_or indices j 0)))) None

-- a std_logic input is declared under the number o
abbrev pub is_clock_in : List ℕ → ℕ → ℕ → Bool
is_clock_in decls d o = choose (eqb (mode_in decls d o) D.IN) (eqb (type_in decls d o) (type_byte std_logic)) false

-- the lowest place of a wait that differs, of at most 512 statements
abbrev pub strays_in : List ℕ → ℕ → List ℕ → List ℕ → ℕ → ℕ → Option ℕ
strays_in rows s places owners n o = lowest_from (stray_at rows places owners n o) 0 (min s L.STATEMENTS)

-- the lowest place of a read, of at most 16384 items
abbrev pub reads_in : List ℕ → List ℕ → ℕ → List ℕ → List ℕ → ℕ → ℕ → Option ℕ
reads_in codes indices k places owners n o = lowest_from (read_at codes indices places owners n o) 0 (min k L.TEXT)

-- the lowest of all; "(if that input exists)": else no read is judged, and the first wait's name is refused; without a wait nothing is
unfoldable pub lowest_over : List ℕ → ℕ → List ℕ → List ℕ → ℕ → List ℕ → ℕ → List ℕ → ℕ → List ℕ → Option ℕ
lowest_over places n codes indices k rows s decls d owners =
    let w = wait_in rows s in
    let o = number_in owners n w in
    let strays = strays_in rows s places owners n o in
    choose (ltb w n) (choose (is_clock_in decls d o) (lower strays (reads_in codes indices k places owners n o)) (lower (Some (number_in places n w)) strays)) None

-- the same of a text's arrays
abbrev pub lowest_in : List ℕ → Shape → List ℕ → List ℕ → List ℕ → List ℕ → List ℕ → Option ℕ
lowest_in starts p codes indices rows decls owners = lowest_over starts p.tokens codes indices p.items rows p.statements decls p.names owners
