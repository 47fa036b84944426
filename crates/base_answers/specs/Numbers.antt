-- The three numbers in which an answer is told to a C caller, and for each row of a batch to every caller; and that 32 bits hold them (document 01, "Turned
-- back", "State"; document 02, slip 1). Assumes nothing.
use Rattle.std.specs.Prelude.{List, [], ◌∷◌, ℕ, ◌<◌, ◌^◌, get_or, Result}
use Rattle.base_answers.specs.Answers.{Told, done, refusal, told, counted}
use Rattle.base_answers.specs.declared.Refusal.{Refusal}

-- the refusal's number or 0, its place or 0, what is counted or 0
abbrev pub numbers_of : Told ℕ → List ℕ
numbers_of (done n) = 0 ∷ 0 ∷ n ∷ []
numbers_of (refusal q k) = q ∷ k ∷ 0 ∷ []

-- where nothing is counted
abbrev pub uncounted : {A : Type 0} → Told A → Told ℕ
uncounted a = counted (λ x. 0) a

-- place and count of an answer's three numbers have 32 bits; spec_simulation/proofs/Places.antt and spec_promises/specs/Places.antt say that those of every call do
pub record Narrow (a : List ℕ) : Type 0 where
  pub place : get_or a 1 0 < 2 ^ 32
  pub count : get_or a 2 0 < 2 ^ 32

-- the answer of a call whose count is the given one of what is done
abbrev pub answer_numbers : {A : Type 0} → (A → ℕ) → Result A Refusal → List ℕ
answer_numbers f r = numbers_of (counted f (told r))
