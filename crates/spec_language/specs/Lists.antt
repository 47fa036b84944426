-- Lists of places, and the lowest of them. Assumes nothing.
use Rattle.std.specs.Prelude.{Bool, true, false, cond, List, [], ◌∷◌, ◌++◌, ℕ, min}
use Rattle.std.proofs.Math.Option.{Option, none, some}

-- no offence where the test holds, else one at p
unfoldable pub unless : Bool → ℕ → List ℕ
unless true p = []
unless false p = p ∷ []

-- the offences of each element, one after the other
unfoldable pub each : {A : Type 0} → (A → List ℕ) → List A → List ℕ
each f [] = []
each f (a ∷ l) = f a ++ each f l

unfoldable pub filter : {A : Type 0} → (A → Bool) → List A → List A
filter p [] = []
filter p (a ∷ l) = let r = filter p l in cond (p a) (a ∷ r) r

-- "the lowest place first within a stage"
unfoldable pub least : ℕ → List ℕ → ℕ
least p [] = p
least p (q ∷ l) = least (min p q) l

unfoldable pub lowest : List ℕ → Option ℕ
lowest [] = none
lowest (p ∷ l) = some (least p l)
