-- The state record of an image: refusal 15, and the fresh state (document 01, "State"). Assumes nothing.
use Rattle.std.specs.Prelude.{Bool, true, false, ◌&&◌, ◌||◌, List, ℕ, length, take, ltb, eqb}
use Rattle.base_answers.specs.declared.State.{State}
use Rattle.spec_semantics.specs.Equations.{Memory}
use Rattle.spec_semantics.specs.Records.{slots_ok, state_for, Started, fresh, not_started}
use Rattle.spec_format.specs.Lines.{Line, waits, acts, branches, line}
use Rattle.spec_format.specs.Signature.{Signature, types, initials}
use Rattle.spec_format.specs.Image.{Table}
use Rattle.spec_format.specs.Opening.{Opened, opened, not_opened, open_of}

-- the line is a wait
abbrev pub is_wait : Line → Bool
is_wait (waits f) = true
is_wait (acts a f) = false
is_wait (branches e f g) = false

-- "A place (512 for the beginning, else a wait's line)"
unfoldable pub place_allowed : List Line → ℕ → Bool
place_allowed t p = eqb p 512 || (ltb p (length t) && is_wait (line t p))

-- "16 output and 32 variable slots"; false is refusal 15, "place or slot not as the State section has it for the image"
unfoldable pub state_ok : Table → State → Bool
state_ok t s =
    place_allowed t.lines s.place
    && ((eqb (length s.outputs) 16 && slots_ok (types t.signature.outputs) s.outputs)
    && (eqb (length s.variables) 32 && slots_ok (types t.signature.variables) s.variables))

-- the outputs and variables of a state record: the slots that are used
unfoldable pub memory_of : Signature → State → Memory
memory_of σ s = record { outputs = take (length σ.outputs) s.outputs; variables = take (length σ.variables) s.variables }

-- "The fresh state has place 512 and the initial values."
unfoldable pub fresh_table : Table → State
fresh_table t = state_for 512 (record { outputs = initials t.signature.outputs; variables = initials t.signature.variables })

-- the fresh state of an opened table, or the refusal
abbrev pub fresh_from : Opened → Started
fresh_from (opened t) = fresh (fresh_table t)
fresh_from (not_opened q k) = not_started q k

-- the fresh state of an image, or refusal 11, 12 or 13
unfoldable pub fresh_of : List ℕ → Started
fresh_of b = fresh_from (open_of b)
