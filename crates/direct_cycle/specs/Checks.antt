-- Refusals 14 and 15 by the numbers of types, 0 std_logic and 1 integer (document 01, "State", "Turned back"). Assumes nothing.
use Rattle.std.specs.Prelude.{Bool, false, cond, ◌&&◌, ◌||◌, List, [], ◌∷◌, ℕ, suc, ◌*◌, ◌-◌, length, get_or, take, drop, ℤ, eqb, ltb, Result, Ok, Err}
use Rattle.std.proofs.Math.Option.{Option, none, some}
use Rattle.base_codes.specs.Statement as S
use Rattle.base_codes.specs.Limit as L
use Rattle.base_answers.specs.declared.State.{State}
use Rattle.base_ir.specs.declared.Names.{Names}
use Rattle.base_signed.specs.Signed.{in_type_byte}
use Rattle.spec_semantics.specs.Records.{zeros}

-- 14 at a place, or a row that is right
abbrev pub check_of : Option ℕ → Result Unit ℕ
check_of none = Ok tt
check_of (some k) = Err k

-- the lowest index of a value that is not of its type, the first having the index k
unfoldable pub wrong_in : List ℕ → List ℤ → ℕ → Option ℕ
wrong_in [] l k = none
wrong_in (c ∷ cs) [] k = none
wrong_in (c ∷ cs) (z ∷ l) k = cond (in_type_byte c z) (wrong_in cs l (suc k)) (some k)

-- 14: "input or output row not as long as its count; else input value"; n is the number of outputs
unfoldable pub row_is : List ℕ → List ℤ → ℕ → ℕ → Option ℕ
row_is types i n room = cond (eqb (length i) (length types) && eqb room n) (wrong_in types i 0) (some 0)

-- slots of these types, then unused ones: "unused ones 0, a std_logic slot 0 or 1"
unfoldable pub slots_in : List ℕ → List ℤ → Bool
slots_in [] l = zeros l
slots_in (c ∷ cs) [] = false
slots_in (c ∷ cs) (z ∷ l) = in_type_byte c z && slots_in cs l

-- "A place (512 for the beginning, else a wait's line)": a statement of kind 0
unfoldable pub place_in : List ℕ → ℕ → ℕ → Bool
place_in rows size p = eqb p L.BEGINNING || (ltb p size && eqb (get_or rows (S.ROW * p) 0) S.WAIT)

-- 15 is given where this is false
unfoldable pub state_is : List ℕ → ℕ → List ℕ → List ℕ → State → Bool
state_is rows size ot vt s = place_in rows size s.place && (slots_in ot s.outputs && slots_in vt s.variables)

-- the types of declared names that are in use
abbrev pub in_use : Names → List ℕ
in_use d = take (d.count - 0) (drop 0 d.types)
