-- One call on the table of a process is one call of its equations: 14 from the signature is 14 from the declarations, the state laid out is not refused
-- by 15, its slots are what the equations keep, and the cycle is the same (`one_cycle`). Assumes nothing.
use mathlib.Core.Path.{◌≡◌, refl, ◌∙◌, ap}
use mathlib.Core.Bool.{Bool, true, false, ◌&&◌, ◌||◌}
use mathlib.Core.Option.{Option, none, some}
use mathlib.Core.List.{List, [], ◌∷◌}
use Prim.Native.Nat.{ℕ, suc, ◌+◌, ◌≤◌, ◌<◌}
use native.Mathlib.Omega.{arith}
use lib.ListN.{length, length-map}
use lib.IntN.{ℤ}
use lib.Dec.{eqb, ltb}
use borrow.Author.Tests.{lt-ltb}
use Rattle.spec_design.specs.Statement.{Stmt, act, wait, if_then, if_else, while, seq, size, has}
use Rattle.spec_design.specs.Process.{Slot, Process, slot_types, WellFormed}
use Rattle.spec_design.specs.Process as D
use Rattle.spec_semantics.specs.Equations.{Memory, Result, Place, beginning, at, cycle}
use Rattle.spec_semantics.specs.Rows.{Kept, row_refusal, concluded, judged, row, kept_at_first}
use Rattle.spec_semantics.specs.Way.{Ended, at_wait, at_operator}
use Rattle.spec_semantics.specs.Answer.{Placed, Invariant}
use Rattle.spec_semantics.proofs.Basic.{false_true, eqb-true}
use Rattle.spec_semantics.proofs.Results.{or_case, has_below}
use Rattle.spec_semantics.proofs.Ends.{cycle_ends}
use Rattle.spec_format.specs.Lines.{Line, line, lines_of}
use Rattle.spec_format.specs.Walk.{table_cycle}
use Rattle.spec_format.specs.Signature.{initials}
use Rattle.spec_format.specs.State.{is_wait, place_allowed, state_ok, memory_of, fresh_table}
use Rattle.spec_semantics.specs.Records.{state_for}
use Rattle.spec_format.specs.Cycle.{ended, table_row, row_of}
use Rattle.spec_semantics.specs.Calls.{unless14, Call}
use Rattle.spec_format.specs.Encode.{cells, signature_for, table_of}
use Rattle.spec_semantics.specs.Records.{number}
use Rattle.spec_semantics.specs.Comparison.{fed, laid, seen}
use Rattle.spec_simulation.proofs.States.{memory_back}
use Rattle.spec_semantics.proofs.Slots.{pad_length, slots_ok_lem}
use Rattle.spec_simulation.proofs.Processes.{cells_types, signature_good, row_refusal_lem}
use Rattle.spec_simulation.proofs.Lines.{Each, lines_of_each, lines_of_length}
use Rattle.spec_simulation.proofs.Cycle.{one_cycle}

-- lists

cells_initials : (l : List Slot) → initials (cells l) ≡ D.initials l
cells_initials [] = refl
cells_initials (s ∷ l) = ap (λ (k : List ℤ). s.initial ∷ k) (cells_initials l)

-- a wait's number is a wait's line
pub wait_line : (t : List Line) (s : Stmt) (n f : ℕ) → Each (λ x l. line t x ≡ l) s n f → (p : ℕ) → has s n p ≡ true → is_wait (line t p) ≡ true
unfolding has Each
wait_line t (act a) n f h p e = false_true e
wait_line t wait n f h p e = let q : p ≡ n = eqb-true p n e in rw q (ap is_wait h)
wait_line t (if_then c a) n f h p e = wait_line t a (suc n) f h.1 p e
wait_line t (if_else c a b) n f h p e = or_case (has a (suc n) p) (has b (suc n + size a) p) e (wait_line t a (suc n) f h.1 p)
    (wait_line t b (suc n + size a) f h.2 p)
wait_line t (while c b) n f h p e = wait_line t b (suc n) n h.1 p e
wait_line t (seq a b) n f h p e = or_case (has a n p) (has b (n + size a) p) e (wait_line t a n (n + size a) h.0 p) (wait_line t b (n + size a) f h.1 p)

pub place_ok : (s : Stmt) (q : Place) → Placed s q → place_allowed (lines_of s) (number q) ≡ true
unfolding place_allowed Placed
place_ok s beginning v = refl
place_ok s (at p) v = let h : p < length (lines_of s) = rw lines_of_length (omega (arith, has_below s 0 p v)) in
    go (eqb p 512) (lt-ltb p (length (lines_of s)) h) (wait_line (lines_of s) s 0 0 (lines_of_each s) p v)
  where
    go : (b : Bool) → ltb p (length (lines_of s)) ≡ true → is_wait (line (lines_of s) p) ≡ true
        → (b || (ltb p (length (lines_of s)) && is_wait (line (lines_of s) p))) ≡ true
    go true x y = refl
    go false x y = rw (x, y)

-- The fresh state is the layout of the beginning and the initial values.
pub fresh_laid : (p : Process) → fresh_table (table_of p) ≡ laid (kept_at_first p)
unfolding fresh_table table_of signature_for kept_at_first
fresh_laid p = rw (cells_initials p.outputs, cells_initials p.variables)

module _ (p : Process) (w : WellFormed p) (k : Kept) (v : Invariant p k) where
  -- it is not refused by 15
  state_ok_lem : state_ok (table_of p) (laid k) ≡ true
  unfolding state_ok table_of signature_for state_for
  state_ok_lem =
      let o : length (slot_types p.outputs) ≤ 16 = rw (length-map p.outputs (λ (s : Slot). s.type)) w.outputs in
      let n : length (slot_types p.variables) ≤ 32 = rw (length-map p.variables (λ (s : Slot). s.type)) w.variables in
      rw (
        place_ok p.body k.place v.place,
        pad_length 16 k.memory.outputs,
        pad_length 32 k.memory.variables,
        cells_types p.outputs,
        cells_types p.variables,
        slots_ok_lem 16 (slot_types p.outputs) k.memory.outputs v.well_typed.outputs o,
        slots_ok_lem 32 (slot_types p.variables) k.memory.variables v.well_typed.variables n,
      )

  -- its used slots are what is kept
  kept_back : memory_of (signature_for p) (laid k) ≡ k.memory
  unfolding signature_for
  kept_back = memory_back (signature_for p) (signature_good p w) (number k.place) k.memory
      (rw (cells_types p.outputs, cells_types p.variables) v.well_typed)

  -- a cycle's result, told by the table and by the equations
  same_result : (c : Call) (r : Result) → Ended p.body r → ended r (laid k) c.outputs ≡ seen (concluded r k) c
  unfolding concluded
  same_result c r (at_wait x σ h) = refl
  same_result c r (at_operator q n) = refl

  pub same_cycle : (c : Call) → table_row (table_of p) (laid k) c.inputs c.outputs ≡ seen (judged none p k (fed c)) c
  unfolding table_row judged state_for table_of signature_for
  same_cycle c =
      ap (λ (m : Memory). ended (table_cycle (table_of p).lines (table_of p).reaches (number k.place) c.inputs (record { way = []; memory = m })) (laid k)
      c.outputs) kept_back
      ∙ (ap (λ (r : Result). ended r (laid k) c.outputs)
      (one_cycle p.body w.class w.loops w.statements k.place v.place c.inputs (record { way = []; memory = k.memory }))
      ∙ same_result c (cycle p.body k.place c.inputs (record { way = []; memory = k.memory }))
      (cycle_ends p.body w.class k.place c.inputs (record { way = []; memory = k.memory })))

  -- One call.
  pub one_row : (c : Call) → row_of (table_of p) (laid k) c.inputs c.outputs ≡ seen (row p k (fed c)) c
  unfolding row_of row judged table_of
  one_row c = rw (row_refusal_lem p w c.inputs (length c.outputs), state_ok_lem) (go (row_refusal p (fed c)))
    where
      go : (o : Option ℕ) → unless14 o (laid k) c.outputs (table_row (table_of p) (laid k) c.inputs c.outputs) ≡ seen (judged o p k (fed c)) c
      go none = same_cycle c
      go (some x) = refl
