-- Refusal 6 by position: initial values in the rows of declared names, targets and conditions in the rows of statements. Assumes nothing.
use Rattle.std.specs.Prelude.{Bool, true, List, Option, None, ℕ, ◌+◌, ◌*◌, min, eqb, leb, get_or}
use Rattle.spec_design.specs.Types.{std_logic, integer, type_byte}
use Rattle.base_codes.specs.Declaration as D
use Rattle.base_codes.specs.Declaration.{IN, BIT, ROW, MODE, TYPE, INIT, VALUE}
use Rattle.base_codes.specs.Statement.{OUTPUT, VARIABLE, IF, WHILE}
use Rattle.base_codes.specs.Types.{BOOLEAN, NONE}
use Rattle.base_codes.specs.Limit.{TEXT, STATEMENTS, NAMES}
use Rattle.spec_grammar.specs.Reader.{choose}
use Rattle.spec_language.specs.Lists.{unless}
use Rattle.front_layout.specs.Rows.{Row}
use Rattle.front_offences.specs.Lowest.{lowest_of, lower, lowest_from}
use Rattle.front_layout.specs.Arrays.{number_in, row_in}
use Rattle.front_offences.specs.declared.Shape.{Shape}
use Rattle.front_typing.specs.Operators.{fits_code}
use Rattle.front_typing.specs.Expressions.{Sources, sources, Work, name_at, place_at, expr_work, top_of}

-- "initial value of wrong type": '0' and '1' are std_logics, numbers integers; "Initial values of inputs are ignored"
abbrev pub initial_fits : ℕ → ℕ → ℕ → Bool
initial_fits mode type init = choose (eqb mode IN) true
    (choose (eqb init D.NONE) true (choose (eqb init BIT) (eqb type (type_byte std_logic)) (eqb type (type_byte integer))))

-- row j of the declared names, at the "value's first token"
unfoldable pub initial_at : List ℕ → List ℕ → ℕ → ℕ → Option ℕ
initial_at decls places n j =
    lowest_of (unless (initial_fits (get_or decls (ROW * j + MODE) 0) (get_or decls (ROW * j + TYPE) 0) (get_or decls (ROW * j + INIT) 0))
    (number_in places n (get_or decls (ROW * j + VALUE) 0)))

-- the lowest of at most 65 declared names
abbrev pub initials_in : List ℕ → ℕ → List ℕ → ℕ → Option ℕ
initials_in decls d places n = lowest_from (initial_at decls places n) 0 (min d NAMES)

-- the type that a statement wants, by its kind: the target's, t; boolean of a condition; none
abbrev pub wanted_code : ℕ → ℕ → ℕ
wanted_code kind t = choose (eqb kind OUTPUT) t (choose (eqb kind VARIABLE) t (choose (eqb kind IF) BOOLEAN (choose (eqb kind WHILE) BOOLEAN NONE)))

-- the offences of an expression, and of a statement that wants the type t of it, at the place p
abbrev pub judged_as : ℕ → ℕ → Work → Option ℕ
judged_as t p w = lower w.lowest (lowest_of (unless (fits_code t (top_of w.stack)) p))

-- a row of the statements
abbrev pub row_code : Sources → Row → Option ℕ
row_code A r =
    choose (leb r.to TEXT) (judged_as (wanted_code r.kind (name_at A r.index)) (place_at A r.index) (expr_work A r.from r.to)) None

unfoldable pub statement_at : Sources → List ℕ → ℕ → Option ℕ
statement_at A rows j = row_code A (row_in rows j)

-- the lowest of at most 512 statements
abbrev pub statements_in : Sources → List ℕ → ℕ → Option ℕ
statements_in A rows s = lowest_from (statement_at A rows) 0 (min s STATEMENTS)

-- the lowest of all
abbrev pub lowest_in : List ℕ → Shape → List ℕ → List ℕ → List ℕ → List ℕ → List ℕ → Option ℕ
lowest_in starts p codes indices rows decls owners =
    lower (initials_in decls p.names starts p.tokens)
    (statements_in (sources codes indices starts owners decls p.tokens p.names) rows p.statements)
