-- Types of operators by number, and whether they are right; "what holds a wrong operator is untyped", and has the number of no type. Assumes nothing.
use Rattle.std.specs.Prelude.{Bool, true, false, ℕ, eqb}
use Rattle.base_codes.specs.Types.{NONE, tag_or, binary_type_for}
use Rattle.spec_grammar.specs.Reader.{choose}

-- an operator of two operands by its item code: they are of one type
unfoldable pub binary_code : ℕ → ℕ → ℕ → ℕ
binary_code c t u = choose (eqb t u) (tag_or (binary_type_for c t)) NONE

-- an operator is right unless its operand has a type and it has none: "what holds a wrong operator is .. not itself judged"
abbrev pub right_one : ℕ → ℕ → Bool
right_one t r = choose (eqb t NONE) true (choose (eqb r NONE) false true)

abbrev pub right_two : ℕ → ℕ → ℕ → Bool
right_two t u r = choose (eqb t NONE) true (right_one u r)

-- the type t is wanted, and u is there; untyped is not judged
abbrev pub fits_code : ℕ → ℕ → Bool
fits_code t u = choose (eqb t NONE) true (choose (eqb u NONE) true (eqb t u))
