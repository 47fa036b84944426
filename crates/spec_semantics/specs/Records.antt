-- The state record: its slots, its layout, and a fresh state asked for (document 01, "State"). Assumes nothing.
use Rattle.std.specs.Prelude.{Bool, true, false, ◌&&◌, List, [], ◌∷◌, ℕ, zero, suc, ℤ, pos}
use Rattle.base_answers.specs.declared.State.{State}
use Rattle.spec_design.specs.Types.{Ty, eq_z, in_type}
use Rattle.spec_semantics.specs.Equations.{Memory, Place, beginning, at}

-- "A place (512 for the beginning, else a wait's line)"
abbrev pub number : Place → ℕ
number beginning = 512
number (at p) = p

-- "unused ones 0"
unfoldable pub zeros : List ℤ → Bool
zeros [] = true
zeros (z ∷ l) = eq_z z (pos 0) && zeros l

-- slots of these types, then unused ones: "a std_logic slot 0 or 1"
unfoldable pub slots_ok : List Ty → List ℤ → Bool
slots_ok [] l = zeros l
slots_ok (t ∷ ts) [] = false
slots_ok (t ∷ ts) (z ∷ l) = in_type t z && slots_ok ts l

-- n slots: those of the list, then 0
unfoldable pub pad : ℕ → List ℤ → List ℤ
pad zero l = []
pad (suc n) [] = pos 0 ∷ pad n []
pad (suc n) (z ∷ l) = z ∷ pad n l

-- the state record of a place, outputs and variables: "16 output and 32 variable slots"
unfoldable pub state_for : ℕ → Memory → State
state_for p m = record { place = p; outputs = pad 16 m.outputs; variables = pad 32 m.variables }

-- a fresh state, or a refusal's number and place
pub data Started : Type 0 where
  fresh : State → Started
  not_started : (number place : ℕ) → Started
