-- A stack in an array: its first n elements, the last of them on top. Assumes nothing.
use Rattle.std.specs.Prelude.{List, [], ◌∷◌, ℕ, zero, suc, get_or}

-- past its end the array counts as holding d
unfoldable pub stack_of : {A : Type 0} → A → List A → ℕ → List A
stack_of d a zero = []
stack_of d a (suc n) = get_or a n d ∷ stack_of d a n
