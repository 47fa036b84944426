-- A cycle of a process by the equations, on any state record: what the direct run does (document 01, "Classes and cycles", "State"). Assumes nothing.
use Rattle.std.specs.Prelude.{◌≡◌, Bool, cond, ◌&&◌, ◌||◌, List, [], ◌∷◌, ℕ, length, take, eqb}
use Rattle.base_answers.specs.declared.State.{State}
use Rattle.spec_design.specs.Statement.{has}
use Rattle.spec_design.specs.Process.{Process, slot_types}
use Rattle.spec_semantics.specs.Equations.{Place, beginning, at, cycle}
use Rattle.spec_semantics.specs.Rows.{Kept, row_refusal, concluded}
use Rattle.spec_semantics.specs.Answer.{Invariant}
use Rattle.spec_semantics.specs.Records.{slots_ok}
use Rattle.spec_semantics.specs.Calls.{Called, turned_back, unless14, Call}
use Rattle.spec_semantics.specs.Comparison.{fed, laid, seen}

-- 15, "place or slot not as the State section has it for the .. text": 512 or a wait's number; 16 and 32 slots of the declared types, unused ones 0
unfoldable pub fits_text : Process → State → Bool
fits_text p s =
    (eqb s.place 512 || has p.body 0 s.place)
    && ((eqb (length s.outputs) 16 && slots_ok (slot_types p.outputs) s.outputs)
    && (eqb (length s.variables) 32 && slots_ok (slot_types p.variables) s.variables))

-- the place of a state record
unfoldable pub place_for : ℕ → Place
place_for n = cond (eqb n 512) beginning (at n)

-- what the equations keep of a state record: its place and the slots that are used
unfoldable pub kept_of : Process → State → Kept
kept_of p s = record {
  place = place_for s.place;
  memory = record { outputs = take (length p.outputs) s.outputs; variables = take (length p.variables) s.variables };
}

-- a cycle of the equations from what is kept
abbrev pub cycled : Process → Kept → Call → Called
cycled p k c = seen (concluded (cycle p.body k.place c.inputs (record { way = []; memory = k.memory })) k) c

-- one call on an accepted text's process: 14, then 15, then 16 or 18, whichever operator is reached first
unfoldable pub direct_row : Process → State → Call → Called
direct_row p s c =
    unless14 (row_refusal p (fed c)) s c.outputs (cond (fits_text p s) (cycled p (kept_of p s) c) (turned_back 15 0 s c.outputs))

-- all calls on a process, one after another, the first from the state s
unfoldable pub direct_rows : Process → State → List Call → List Called
direct_rows p s [] = []
direct_rows p s (c ∷ cs) = let r = direct_row p s c in r ∷ direct_rows p r.state cs

-- "place or slot .. as the State section has it for the .. text": the layout of a place of the body and of values of the declared numbers and types
pub record Described (p : Process) (s : State) : Type 0 where
  pub kept : Kept
  pub invariant : Invariant p kept
  pub layout : laid kept ≡ s
