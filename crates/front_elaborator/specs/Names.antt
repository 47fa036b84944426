-- The declared names of a design, read off their array by position: which are of a mode, the index of each among those of its mode, their types and
-- initial values. The arrays of types and values have as many places as there can be variables, enough for each mode: "17 in ports, 16 out, 32 variables". Assumes nothing.
use Rattle.std.specs.Prelude.{◌≡◌, Bool, true, false, not, List, [], ◌∷◌, ℕ, zero, suc, ◌+◌, min, eqb, length, take, replicate, ℤ, pos}
use Rattle.std.proofs.Math.Option.{Option}
use Rattle.std.proofs.lemmas.List.Edits.{sets}
use Rattle.spec_design.specs.Types.{std_logic, integer, type_byte}
use Rattle.base_codes.specs.Limit.{NAMES, VARIABLES}
use Rattle.base_codes.specs.Declaration as D
use Rattle.spec_grammar.specs.Token.{Token}
use Rattle.spec_grammar.specs.Tree.{Mode, input, output_port, variable_mode}
use Rattle.spec_grammar.specs.Reader.{choose}
use Rattle.spec_language.specs.Declarations.{Decl, is_output, is_variable, is_clock, is_data}
use Rattle.spec_language.specs.Elaboration.{minus}
use Rattle.base_ir.specs.declared.Names.{Names}
use Rattle.front_elaborator.specs.Positions.{number_at, field_at, literal_at, bit_at}

-- declaration k is of the mode m; "the data inputs (all but the clock)"
unfoldable pub of_mode : List ℕ → ℕ → ℕ → ℕ → Bool
of_mode decls clock m k = choose (eqb (field_at decls k D.MODE) m) (choose (eqb m D.IN) (not (eqb k clock)) true) false

-- how many numbers from k on, c of them, pass a test
unfoldable pub count_from : (ℕ → Bool) → ℕ → ℕ → ℕ
count_from p k zero = 0
count_from p k (suc c) = choose (p k) 1 0 + count_from p (k + 1) c

-- the index of declaration j among those of its mode: how many of them stand before it
unfoldable pub slot_of : List ℕ → ℕ → ℕ → ℕ
slot_of decls clock j = count_from (of_mode decls clock (field_at decls j D.MODE)) 0 (min j NAMES)

-- the values of f from k on, c of them
unfoldable pub each_from : {A : Type 0} → (ℕ → A) → ℕ → ℕ → List A
each_from f k zero = []
each_from f k (suc c) = f k ∷ each_from f (k + 1) c

-- the array of indices: those of d declarations first, as many as there is room for; the rest as before
unfoldable pub slots_after : List ℕ → ℕ → ℕ → List ℕ → List ℕ
slots_after decls d clock before = sets before 0 (each_from (slot_of decls clock) 0 (min d NAMES))

-- the values of f at the numbers from k on, c of them, that pass a test
unfoldable pub picked : {A : Type 0} → (ℕ → Bool) → (ℕ → A) → ℕ → ℕ → List A
picked p f k zero = []
picked p f k (suc c) = choose (p k) (f k ∷ picked p f (k + 1) c) (picked p f (k + 1) c)

-- a declaration's type, by its number
abbrev pub type_at : List ℕ → ℕ → ℕ
type_at decls k = choose (eqb (field_at decls k D.TYPE) (type_byte integer)) (type_byte integer) (type_byte std_logic)

-- the types of the declarations of a mode
unfoldable pub types_of : List ℕ → ℕ → ℕ → ℕ → List ℕ
types_of decls d clock m = picked (of_mode decls clock m) (type_at decls) 0 (min d NAMES)

-- a declaration's initial value, by its kind: a number, '0' or '1', a number after -; 0 where there is none
unfoldable pub initial_at : List ℕ → List ℕ → List ℕ → List ℕ → List ℕ → ℕ → ℤ
initial_at text starts sizes kinds decls k =
    choose (eqb (field_at decls k D.INIT) D.NUMBER) (pos (literal_at text starts sizes (field_at decls k D.VALUE)))
    (choose (eqb (field_at decls k D.INIT) D.BIT) (pos (bit_at kinds (field_at decls k D.VALUE)))
    (choose (eqb (field_at decls k D.INIT) D.NEGATIVE) (minus (literal_at text starts sizes (field_at decls k D.VALUE + 1))) (pos 0)))

-- the initial values of the declarations of a mode; those of inputs are of no use to a design
unfoldable pub values_of : List ℕ → List ℕ → List ℕ → List ℕ → List ℕ → ℕ → ℕ → ℕ → List ℤ
values_of text starts sizes kinds decls d clock m = picked (of_mode decls clock m) (initial_at text starts sizes kinds decls) 0 (min d NAMES)

-- the start or the size of a declared name in the text: the number of its token, the first number of its row
abbrev pub place_at : List ℕ → List ℕ → ℕ → ℕ
place_at tokens decls k = number_at tokens (field_at decls k 0)

-- those of the declarations of a mode
unfoldable pub places_of : List ℕ → List ℕ → ℕ → ℕ → ℕ → List ℕ
places_of tokens decls d clock m = picked (of_mode decls clock m) (place_at tokens decls) 0 (min d NAMES)

-- an array of zeros that got these items first, as many as it has room for
abbrev pub filled_with : {A : Type 0} → A → List A → List A
filled_with z items = sets (replicate VARIABLES z) 0 (take VARIABLES items)

-- the declared names of a mode: how many there are, and of each its type, its start and its size; ..
pub record Heads (starts sizes decls : List ℕ) (d clock m : ℕ) (r : Names) : Type 0 where
  pub count : r.count ≡ min (length (types_of decls d clock m)) VARIABLES
  pub type : r.types ≡ filled_with 0 (types_of decls d clock m)
  pub start : r.starts ≡ filled_with 0 (places_of starts decls d clock m)
  pub size : r.sizes ≡ filled_with 0 (places_of sizes decls d clock m)

-- .. and its initial value
pub record Gathers (text starts sizes kinds decls : List ℕ) (d clock m : ℕ) (r : Names) : Type 0 where
  pub heads : Heads starts sizes decls d clock m r
  pub value : r.values ≡ filled_with (pos 0) (values_of text starts sizes kinds decls d clock m)

-- What the laws ask. The names of a mode: "the data inputs (all but the clock)", the outputs, the variables
abbrev pub in_mode : Option Token → Mode → Decl → Bool
in_mode c input = is_data c
in_mode c output_port = λ d. is_output d.mode
in_mode c variable_mode = λ d. is_variable d.mode

-- R holds of each declaration and its number, from k on
abbrev pub Along : (ℕ → Decl → Type 0) → ℕ → List Decl → Type 0
Along R k [] = Unit {0}
Along R k (d ∷ Δ) = R k d × Along R (k + 1) Δ

-- the declaration with the clock's number, and no other, has the clock's name
abbrev pub ClockIs : Option Token → ℕ → List Decl → Type 0
ClockIs c clock Δ = Along (λ (k : ℕ) (d : Decl). eqb k clock ≡ is_clock c d.name.value) 0 Δ
