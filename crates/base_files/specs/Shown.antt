-- What is printed of bytes, rows, state records and refusals. Assumes nothing.
use Rattle.std.specs.Prelude.{List, [], ◌∷◌, ◌++◌, ℕ, zero, suc, ◌^◌, ◌-◌, false, ℤ, pos, slice_index_or, length, decimal, codes}
use Rattle.std.specs.List.{flat_map}
use Rattle.std.specs.Fmt.{signed_decimal, digits, padded_integral, format_spec}

-- a byte in hexadecimal, with a 0 before a single digit
abbrev pub byte_in_hex : ℕ → List ℕ
byte_in_hex b = padded_integral (format_spec 32 0 4 2 (2 ^ 64 - 1)) false [] (digits 16 false b)

abbrev pub in_hex : List ℕ → List ℕ
in_hex l = flat_map byte_in_hex l

-- integers, each after a space
abbrev pub spaced : List ℤ → List ℕ
spaced l = flat_map (λ z. 32 ∷ signed_decimal z) l

-- the slot k after its label, where its value is not 0; 61 is the byte of `=`
abbrev pub slot : List ℕ → ℕ → ℤ → List ℕ
slot label k (pos zero) = []
slot label k z = label ++ (decimal k ++ (61 ∷ signed_decimal z))

-- the slots below n
abbrev pub slots_to : List ℕ → List ℤ → ℕ → List ℕ
slots_to label l zero = []
slots_to label l (suc n) = slots_to label l n ++ slot label n (slice_index_or l n (pos 0))

-- a state record
abbrev pub record_text : ℕ → List ℤ → List ℤ → List ℕ
record_text place outputs variables =
    codes " at " ++ (decimal place ++ (slots_to (codes " o") outputs (length outputs) ++ slots_to (codes " v") variables (length variables)))

-- a refusal
abbrev pub refused_text : ℕ → ℕ → List ℕ
refused_text number place = codes " refused " ++ (decimal number ++ (codes " " ++ decimal place))
