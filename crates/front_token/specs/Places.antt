-- Runs and parts of a text, by place. Assumes nothing.
use Rattle.std.specs.Prelude.{◌≡◌, Bool, List, ℕ, ◌+◌, length, take, drop}
use Rattle.spec_language.specs.Lexer.{run}

-- where the longest run from a place ends
abbrev pub end_of_run : (ℕ → Bool) → List ℕ → ℕ → ℕ
end_of_run p text at = at + length (run p (drop at text))

-- whatever a test answers of a byte is what p says of it
abbrev pub Tells : (ℕ → Bool → Type 0) → (ℕ → Bool) → Type 0
Tells answers p = (b : ℕ) (r : Bool) → answers b r → r ≡ p b

-- so many bytes from a place; past the text's end there are none
abbrev pub part : List ℕ → ℕ → ℕ → List ℕ
part text start size = take size (drop start text)
