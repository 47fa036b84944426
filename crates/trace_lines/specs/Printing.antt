-- What the trace prints, as bytes (document 01, "The trace of tally"). Assumes nothing.
use Rattle.std.specs.Prelude.{List, [], ◌∷◌, ◌++◌, ℕ, suc, ℤ, pos, negsuc}
use Rattle.spec_design.specs.Spelling.{decimal}
use Rattle.spec_language.specs.Bytes.{bytes}

-- an integer in decimals, after `-` where it is below zero; negsuc n is -(n + 1)
abbrev pub integer : ℤ → List ℕ
integer (pos n) = decimal n
integer (negsuc n) = 45 ∷ decimal (suc n)

-- integers, each after a space
unfoldable pub integers : List ℤ → List ℕ
integers [] = []
integers (z ∷ l) = 32 ∷ (integer z ++ integers l)

-- "per row: row number, wait line, lines performed, outputs"; 32 is the space, 10 is LF
unfoldable pub performed_line : ℕ → ℕ → ℕ → List ℤ → List ℕ
performed_line n place lines outputs = decimal n ++ (32 ∷ (decimal place ++ (32 ∷ (decimal lines ++ (integers outputs ++ (10 ∷ []))))))

-- "a refused row prints its number, `refused`, the refusal"
unfoldable pub refused_line : ℕ → ℕ → List ℕ
refused_line n number = decimal n ++ (bytes " refused " ++ (decimal number ++ (10 ∷ [])))

-- "A refused text prints only `refused`, number, place."
unfoldable pub refused_text : ℕ → ℕ → List ℕ
refused_text number place = bytes "refused " ++ (decimal number ++ (32 ∷ (decimal place ++ (10 ∷ []))))
