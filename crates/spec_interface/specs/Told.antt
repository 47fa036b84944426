-- What a caller is told and lent beside the answers, by the definitions of this crate alone: the sections of an image, what entry leaves and tells, and what
-- every function of the C interface hands out, number by number. Assumes nothing.
use Rattle.std.specs.Prelude.{◌≡◌, List, [], ◌∷◌, ℕ, length, get_or, take, drop, ℤ, pos}
use Rattle.base_answers.specs.declared.State.{State}
use Rattle.base_answers.specs.declared.Sections.{Sections}
use Rattle.base_answers.specs.Answers.{done, refusal}
use Rattle.spec_semantics.specs.Records.{fresh, not_started}
use Rattle.spec_semantics.specs.Calls.{Answer, performed, not_performed, Called, Call}
use Rattle.spec_format.specs.Image.{Table, sections_for}
use Rattle.spec_format.specs.Opening.{opened, not_opened, open_of}
use Rattle.spec_format.specs.State.{fresh_of}
use Rattle.spec_format.specs.Cycle.{cycle_of}
use Rattle.spec_behaviour.specs.Direct.{direct_of, direct_fresh}
use Rattle.spec_interface.specs.Compile.{written, not_compiled, compile_of}
use Rattle.spec_interface.specs.Entry.{state_after, opening_told}
use Rattle.spec_interface.specs.CInterface.{Left, state_of_c, c_of_state, compile_in_c, open_in_c, fresh_in_c, cycle_in_c, direct_fresh_in_c, direct_in_c}
use Rattle.spec_interface.specs.Lending.{LentAs}

-- THE SECTIONS LENT OUT, of an image that opens as the table t, between the bounds o. "The opened image lends out its three sections as parts of the caller's
-- bytes": what is lent are the bytes of signature, lines and code, each where it stands in the image. The bounds that opening finds are such.
pub record SectionsLent (image : List ℕ) (t : Table) (o : Sections) : Type 0 where
  pub signature : LentAs image o.signature o.lines (sections_for t).signature
  pub lines : LentAs image o.lines o.code (sections_for t).lines
  pub code : LentAs image o.code o.end (sections_for t).code

-- WHAT ENTRY LEAVES AND TELLS: the state record s is the fresh state where there is one and as it came where the call is refused; an image that opens is
-- told as done, whatever the bounds x that go with the answer (SectionsLent says which they are), and any other by the definition's own number and place
pub record ToldByEntry (text image : List ℕ) (s : State) : Type 0 where
  pub opened : (x : Sections) (t : Table) → open_of image ≡ opened t → opening_told x (open_of image) ≡ done x
  pub open_refused : (x : Sections) (q k : ℕ) → open_of image ≡ not_opened q k → opening_told x (open_of image) ≡ refusal q k
  pub started : (x : State) → fresh_of image ≡ fresh x → state_after (fresh_of image) s ≡ x
  pub start_refused : (q k : ℕ) → fresh_of image ≡ not_started q k → state_after (fresh_of image) s ≡ s
  pub run_started : (x : State) → direct_fresh text ≡ fresh x → state_after (direct_fresh text) s ≡ x
  pub run_start_refused : (q k : ℕ) → direct_fresh text ≡ not_started q k → state_after (direct_fresh text) s ≡ s

-- THE C INTERFACE: what its functions hand out is what the definitions of the operations say, number by number (include/rabtishu.h).

-- a refusal is told as number, place, 0; what is done as 0, 0 and a count
abbrev pub refused_numbers : ℕ → ℕ → List ℕ
refused_numbers q k = q ∷ k ∷ 0 ∷ []

abbrev pub done_numbers : ℕ → List ℕ
done_numbers n = 0 ∷ 0 ∷ n ∷ []

-- the 49 numbers of a state record: first the place, then 16 outputs, then 32 variables
pub record SlotsInC (s : State) : Type 0 where
  pub place : get_or (c_of_state s) 0 (pos 0) ≡ pos s.place
  pub outputs : take 16 (drop 1 (c_of_state s)) ≡ s.outputs
  pub variables : drop 17 (c_of_state s) ≡ s.variables
  pub count : length (c_of_state s) ≡ 49

-- one call of each function, on any bytes, any 49 numbers and any rows: the three numbers are the definition's own number, place and count; a refused call
-- alters neither buffer, nor the 49 numbers, nor the output row
pub record ToldInC (text buffer image : List ℕ) (l : List ℤ) (c : Call) : Type 0 where
  pub compiled : (n : ℕ) → (compile_of text buffer).answer ≡ written n → compile_in_c text buffer ≡ (done_numbers n, (compile_of text buffer).buffer)
  pub compile_refused : (q k : ℕ) → (compile_of text buffer).answer ≡ not_compiled q k → compile_in_c text buffer ≡ (refused_numbers q k, buffer)
  pub opened : (t : Table) → open_of image ≡ opened t → open_in_c image ≡ done_numbers 0
  pub open_refused : (q k : ℕ) → open_of image ≡ not_opened q k → open_in_c image ≡ refused_numbers q k
  pub started : (s : State) → fresh_of image ≡ fresh s → fresh_in_c image l ≡ (done_numbers 0, c_of_state s)
  pub start_refused : (q k : ℕ) → fresh_of image ≡ not_started q k → fresh_in_c image l ≡ (refused_numbers q k, l)
  pub cycled : (way : List ℕ) (s : State) (row : List ℤ)
      → cycle_of image (state_of_c l) c.inputs c.outputs ≡ record { answer = performed way; state = s; row = row }
      → cycle_in_c image l c.inputs c.outputs ≡ record { answer = done_numbers (length way); slots = c_of_state s; row = row }
  pub cycle_refused : (q k : ℕ) → (cycle_of image (state_of_c l) c.inputs c.outputs).answer ≡ not_performed q k
      → cycle_in_c image l c.inputs c.outputs ≡ record { answer = refused_numbers q k; slots = l; row = c.outputs }
  pub run : (way : List ℕ) (s : State) (row : List ℤ) → direct_of text (state_of_c l) c ≡ record { answer = performed way; state = s; row = row }
      → direct_in_c text l c.inputs c.outputs ≡ record { answer = done_numbers (length way); slots = c_of_state s; row = row }
  pub run_refused : (q k : ℕ) → (direct_of text (state_of_c l) c).answer ≡ not_performed q k
      → direct_in_c text l c.inputs c.outputs ≡ record { answer = refused_numbers q k; slots = l; row = c.outputs }
  pub run_started : (s : State) → direct_fresh text ≡ fresh s → direct_fresh_in_c text l ≡ (done_numbers 0, c_of_state s)
  pub run_start_refused : (q k : ℕ) → direct_fresh text ≡ not_started q k → direct_fresh_in_c text l ≡ (refused_numbers q k, l)

-- a call of the equations as a C caller sees it
abbrev pub answer_in_c : Answer → List ℕ
answer_in_c (performed way) = done_numbers (length way)
answer_in_c (not_performed q k) = refused_numbers q k

abbrev pub seen_in_c : Called → Left
seen_in_c r = record { answer = answer_in_c r.answer; slots = c_of_state r.state; row = r.row }
