-- What the steps of a call come to is the definition's call: rows and states are judged alike, slots in use and unused ones make up the state, and the
-- cycle of the code is the equations'. Assumes nothing.
use Prim.Native.Nat.{ℕ, zero, suc, ◌+◌, ◌*◌, ◌-◌, ◌≤◌, ◌<◌}
use native.Mathlib.Numerals.{add-one}
use native.Mathlib.Omega.{arith}
use native.Mathlib.Decide.{dec_lt}
use mathlib.Core.Path.{◌≡◌, refl, sym, ap, subst, ◌∙◌}
use mathlib.Core.Bool.{Bool, true, false, ◌&&◌, ◌||◌}
use mathlib.Core.Option.{Option, none, some}
use mathlib.Core.List.{List, [], ◌∷◌, ◌++◌}
use borrow.Author.Tests.{lt-ltb, le-ltb, eq-eqb, ne_eqb, leb-true}
use lib.ListN.{length, get_or, take, drop, length-map, length-take}
use lib.IntN.{ℤ, pos}
use lib.Dec.{eqb, ltb, leb}
use Rattle.std.specs.Prelude.{Err, Ok, Result as Judged}
use Rattle.base_answers.specs.declared.State.{State}
use Rattle.base_answers.specs.declared.Counts.{Counts}
use Rattle.base_answers.specs.declared.Refusal.TheVariants.{BadRow, BadState}
use Rattle.spec_design.specs.Types.{Ty, ExprTy, boolean, type_byte}
use Rattle.spec_design.specs.Expression.{Expr, items, nth, plainly, type_of}
use Rattle.spec_design.specs.Statement.{output, variable, null, Stmt, act, wait, if_then, if_else, while, seq, size, has}
use Rattle.spec_design.specs.Process.{Process, Source, Slot, source_types, slot_types, initials, WellFormed, fits, is_type, typed_act, typed}
use Rattle.spec_semantics.specs.Equations.{Run, Result, reached, cycle}
use Rattle.spec_semantics.specs.Rows.{row_refusal, concluded, kept_at_first}
use Rattle.spec_semantics.specs.Way.{Ended, at_wait}
use Rattle.spec_semantics.proofs.Basic.{and_left, and_right, eqb_same}
use Rattle.spec_semantics.proofs.Results.{has_below}
use Rattle.spec_semantics.specs.InputRow.{Fitting}
use Rattle.spec_semantics.proofs.Rows.{meets_none}
use Rattle.spec_semantics.proofs.Ends.{cycle_ends}
use Rattle.spec_semantics.specs.Records.{pad, state_for}
use Rattle.spec_semantics.proofs.Slots.{pad_first}
use Rattle.spec_semantics.specs.Comparison.{laid}
use Rattle.spec_semantics.specs.DirectRow.{fits_text, place_for, kept_of, cycled, direct_row}
use Rattle.base_ir.specs.declared.Declared.{Declared}
use Rattle.base_ir.specs.Arrays.{Row, At, BodyIn, NamesIn}
use Rattle.base_ir.proofs.Held.{entries_size, at_whole, at_first, at_rest, at_output, at_variable, at_null, at_wait as at_wait_row, at_if, at_while, at_else}
use Rattle.direct_expressions.specs.Machine.{Performable}
use Rattle.direct_statements.specs.Holding.{Ready, HeldIn}
use Rattle.direct_statements.specs.Standing.{run, Stands}
use Rattle.direct_cycle.specs.Checks.{check_of, row_is, slots_in, place_in, in_use, state_is}
use Rattle.spec_semantics.proofs.Described.{used_outputs, used_variables, outputs_long, variables_long, kept_laid}
use Rattle.direct_cycle.specs.Calls.{Design, Names, call_of, fed_of, place_by, left_by, row_by}
use Rattle.spec_semantics.specs.Advances.{Advances}
use Rattle.direct_statements.specs.declared.Progress.{Progress}
use Rattle.direct_statements.specs.declared.Progress.TheVariants.{Passed, Reached, Refused}
use Rattle.base_codes.specs.declared.fault.Fault.{Fault}
use Rattle.base_codes.specs.Fault.{number_of}
use Rattle.base_answers.specs.declared.Advanced.{Advanced}
use Rattle.base_answers.specs.Answers.{done, refusal, cycle_told, operator_refusal}
use Rattle.base_answers.proofs.Refusals.{operator_told}
use Rattle.direct_statements.proofs.ResumeLaws.{not_below, not_above}
use Rattle.direct_cycle.proofs.CheckLaws.{wrong_values, slots_types}
use Rattle.spec_semantics.proofs.Numbers.{cycle_number}
use Rattle.spec_semantics.proofs.Typed.{fits_type}

-- THE DESIGN

-- a typed statement's expressions can be performed
fits_ready : (is vs : List Ty) (e : Expr) (t : Option ExprTy) → fits is vs e t ≡ true → Performable e
unfolding fits
fits_ready is vs e t h =
    let u = fits_type is vs e t h in
    record {
      short = leb-true (items e) 64 (and_left (leb (items e) 64) (is_type (type_of is vs e) t) h);
      inputs = is;
      variables = vs;
      type = u.0;
      typed = u.1;
    }

typed_ready : (is os vs : List Ty) (s : Stmt) → typed is os vs s ≡ true → Ready s
unfolding typed typed_act Ready
typed_ready is os vs (act (output k e)) h = fits_ready is vs e (plainly (nth os k)) h
typed_ready is os vs (act (variable k e)) h = fits_ready is vs e (plainly (nth vs k)) h
typed_ready is os vs (act null) h = tt
typed_ready is os vs wait h = tt
typed_ready is os vs (if_then e a) h =
    let c = fits is vs e (some boolean) in
    (fits_ready is vs e (some boolean) (and_left c (typed is os vs a) h), typed_ready is os vs a (and_right c (typed is os vs a) h))
typed_ready is os vs (if_else e a b) h =
    let c = fits is vs e (some boolean) in
    let x = typed is os vs a in
    let y = typed is os vs b in
    let r = and_right c (x && y) h in
    (fits_ready is vs e (some boolean) (and_left c (x && y) h), (typed_ready is os vs a (and_left x y r), typed_ready is os vs b (and_right x y r)))
typed_ready is os vs (while e b) h =
    let c = fits is vs e (some boolean) in
    (fits_ready is vs e (some boolean) (and_left c (typed is os vs b) h), typed_ready is os vs b (and_right c (typed is os vs b) h))
typed_ready is os vs (seq a b) h =
    let x = typed is os vs a in
    let y = typed is os vs b in
    (typed_ready is os vs a (and_left x y h), typed_ready is os vs b (and_right x y h))

-- arrays that hold an accepted text's process, as its front end leaves them
pub design_held : (p : Process) (codes : List ℕ) (args : List ℤ) (rows : List ℕ) (k n : ℕ) → BodyIn p codes args rows k n → WellFormed p
    → Design p codes args rows n
design_held p codes args rows k n b w =
    record {
      body = record {
        m = 0;
        lies = at_whole b;
        ready = typed_ready _ _ _ p.body w.typed;
        end = let e = b.lines.count in
            let f = entries_size p.body in omega arith;
      };
      block = b.block;
      well_formed = w;
    }

-- the parts of the arrays that are in use
pub part_first : {A : Type 0} (l : List A) (n : ℕ) → take (n - 0) (drop 0 l) ≡ take n l
part_first l n = let z : n - 0 ≡ n = omega arith in rw z

pub names_held : (p : Process) (d : Declared) → NamesIn p d
    → Names p (in_use d.inputs) (in_use d.outputs) (in_use d.variables)
names_held p d n =
    record {
      inputs = part_first d.inputs.types d.inputs.count ∙ n.inputs.1;
      outputs = part_first d.outputs.types d.outputs.count ∙ n.outputs.1;
      variables = part_first d.variables.types d.variables.count ∙ n.variables.1;
    }

pub names_count : (p : Process) (d : Declared) → NamesIn p d → (d.outputs.count ≡ length p.outputs) × (d.variables.count ≡ length p.variables)
names_count p d n = (
  sym n.outputs.0 ∙ length-map p.outputs (λ (x : Slot). x.type),
  sym n.variables.0 ∙ length-map p.variables (λ (x : Slot). x.type),
)

-- 14
pub row_law : (p : Process) (d : Declared) (i : List ℤ) (room : ℕ) → NamesIn p d
    → row_is (in_use d.inputs) i d.outputs.count room ≡ row_refusal p (fed_of i room)
unfolding row_is row_refusal
row_law p d i room n =
    rw (
      (names_held p d n).inputs,
      (names_count p d n).0,
      length-map (source_types p.inputs) type_byte,
      length-map p.inputs
          (λ (x : Source). x.type),
      wrong_values (source_types p.inputs) i 0,
    )

-- 15: a wait is a row of kind 0
or_false : (x y : Bool) → y ≡ false → (x || y) ≡ x
or_false true y e = refl
or_false false y e = e

false_or : (x y : Bool) → x ≡ false → (x || y) ≡ y
false_or x y e = rw e

module _ (codes : List ℕ) (args : List ℤ) (rows : List ℕ) where
  -- a row of another kind
  no_wait : (n j k : ℕ) → n ≡ j → get_or rows (6 * j) 0 ≡ suc k → false ≡ eqb (get_or rows (6 * n) 0) 0
  no_wait n j k e h = rw (e, h) (sym (ne_eqb (suc k) 0 (λ z. omega arith)))

  -- the statement's own row, or a row inside it
  inside : (a : Stmt) (j n k : ℕ) → get_or rows (6 * j) 0 ≡ suc k → j ≤ n → (j + 1 ≤ n → has a (suc j) n ≡ eqb (get_or rows (6 * n) 0) 0)
      → has a (suc j) n ≡ eqb (get_or rows (6 * n) 0) 0
  inside a j n k h l f = go (dec_lt j n)
    where
      go : Dec (j < n) → has a (suc j) n ≡ eqb (get_or rows (6 * n) 0) 0
      go (yes x) = f (omega arith)
      go (no x) = not_below a (suc j) n (omega arith) ∙ no_wait n j k (omega arith) h

  both : (a b : Stmt) (j n : ℕ) → (n < j + size a → has a j n ≡ eqb (get_or rows (6 * n) 0) 0)
      → (j + size a ≤ n → has b (j + size a) n ≡ eqb (get_or rows (6 * n) 0) 0)
      → (has a j n || has b (j + size a) n) ≡ eqb (get_or rows (6 * n) 0) 0
  both a b j n f g = go (dec_lt n (j + size a))
    where
      go : Dec (n < j + size a) → (has a j n || has b (j + size a) n) ≡ eqb (get_or rows (6 * n) 0) 0
      go (yes x) = or_false (has a j n) (has b (j + size a) n) (not_below b (j + size a) n x) ∙ f x
      go (no x) = false_or (has a j n) (has b (j + size a) n) (not_above a j n (omega arith)) ∙ g (omega arith)

  either : (a b : Stmt) (j n : ℕ) → get_or rows (6 * j) 0 ≡ 3 → j ≤ n → (j + 1 ≤ n → n < suc j + size a → has a (suc j) n ≡ eqb (get_or rows (6 * n) 0) 0)
      → (suc j + size a ≤ n → has b (suc j + size a) n ≡ eqb (get_or rows (6 * n) 0) 0)
      → (has a (suc j) n || has b (suc j + size a) n) ≡ eqb (get_or rows (6 * n) 0) 0
  either a b j n h l f g = go (dec_lt j n)
    where
      go : Dec (j < n) → (has a (suc j) n || has b (suc j + size a) n) ≡ eqb (get_or rows (6 * n) 0) 0
      go (yes x) = both a b (suc j) n (λ y. f (omega arith) y) g
      go (no x) =
          false_or (has a (suc j) n) (has b (suc j + size a) n) (not_below a (suc j) n (omega arith))
          ∙ (not_below b (suc j + size a) n (omega arith) ∙ no_wait n j 2 (omega arith) h)

  has_kind : (s : Stmt) (j m n : ℕ) → At codes args rows s j m → j ≤ n → n < j + size s → has s j n ≡ eqb (get_or rows (6 * n) 0) 0
  unfolding has size
  has_kind (act (output k e)) j m n h l u = no_wait n j 0 (omega arith) (ap (λ (r : Row). r.kind) (at_output h).line)
  has_kind (act (variable k e)) j m n h l u = no_wait n j 1 (omega arith) (ap (λ (r : Row). r.kind) (at_variable h).line)
  has_kind (act null) j m n h l u = no_wait n j 3 (omega arith) (ap (λ (r : Row). r.kind) (at_null h).line)
  has_kind wait j m n h l u =
      let e : n ≡ j = omega arith in
      let k : get_or rows (6 * j) 0 ≡ 0 = ap (λ (r : Row). r.kind) (at_wait_row h).line in
      rw (e, k, eqb_same j)
  has_kind (if_then e a) j m n h l u =
      let q = at_if h in
      inside a j n 2 (ap (λ (r : Row). r.kind) q.0.line) l (λ z. rw add-one at (has_kind a (j + 1) _ n q.1 z (omega arith)))
  has_kind (while e a) j m n h l u =
      let q = at_while h in
      inside a j n 4 (ap (λ (r : Row). r.kind) q.0.line) l (λ z. rw add-one at (has_kind a (j + 1) _ n q.1 z (omega arith)))
  has_kind (if_else e a b) j m n h l u =
      let q = at_else h in
      let z : j + 1 + size a ≡ suc j + size a = omega arith in
      either a b j n (ap (λ (r : Row). r.kind) q.0.line) l
      (λ x y. rw add-one at (has_kind a (j + 1) _ n q.1.0 x (omega arith)))
      (λ x. rw z at (has_kind b (j + 1 + size a) _ n q.1.1 (omega arith) (omega arith)))
  has_kind (seq a b) j m n h l u =
      both a b j n (λ x. has_kind a j m n (at_first h) l x) (λ x. has_kind b (j + size a) _ n (at_rest h) x (omega arith))

  pub place_law : (s : Stmt) (e n : ℕ) → HeldIn codes args rows s 0 e → place_in rows e n ≡ (eqb n 512 || has s 0 n)
  unfolding place_in
  place_law s e n h = go (dec_lt n e)
    where
      go : Dec (n < e) → (eqb n 512 || (ltb n e && eqb (get_or rows (6 * n) 0) 0)) ≡ (eqb n 512 || has s 0 n)
      go (yes x) = let z = h.end in rw (lt-ltb n e x, has_kind s 0 h.m n h.lies (omega arith) (omega arith))
      go (no x) = let z = h.end in rw (le-ltb n e (omega arith), not_above s 0 n (omega arith))

pub state_law : (p : Process) (codes : List ℕ) (args : List ℤ) (rows : List ℕ) (e : ℕ) (is os vs : List ℕ) (s : State) → Design p codes args rows e
    → Names p is os vs
    → length s.outputs ≡ 16 → length s.variables ≡ 32 → state_is rows e os vs s ≡ fits_text p s
unfolding state_is fits_text
state_law p codes args rows e is os vs s d n a b =
    rw (
      place_law codes args rows p.body e s.place d.body,
      n.outputs,
      n.variables,
      slots_types (slot_types p.outputs) s.outputs,
      slots_types
          (slot_types p.variables) s.variables,
      eq-eqb (length s.outputs) 16 a,
      eq-eqb (length s.variables) 32 b,
    )

-- THE STATE

-- new values in the slots in use, and the unused ones behind them
pad_behind : (n : ℕ) (l m : List ℤ) → length m ≡ length l → length l ≤ n → l ++ drop (length l) (pad n m) ≡ pad n l
unfolding pad
pad_behind n [] [] e h = refl
pad_behind n [] (y ∷ m) e h = absurd (omega arith)
pad_behind n (z ∷ l) [] e h = absurd (omega arith)
pad_behind zero (z ∷ l) (y ∷ m) e h = absurd (omega arith)
pad_behind (suc n) (z ∷ l) (y ∷ m) e h = ap (λ (r : List ℤ). z ∷ r) (pad_behind n l m (omega arith) (omega arith))

pad_part : (n k : ℕ) (l' l : List ℤ) → length l ≡ n → k ≤ n → length l' ≡ k → l ≡ pad n (take k l) → l' ++ drop k l ≡ pad n l'
pad_part n k l' l e h f q =
    let t : length (take k l) ≡ length l' = simp length-take (omega arith) in
    ap (λ (r : List ℤ). l' ++ drop k r) q ∙ subst (λ (x : ℕ). l' ++ drop x (pad n (take k l)) ≡ pad n l') f (pad_behind n l' (take k l) t (omega arith))

ended_has : {s : Stmt} {p : ℕ} {σ : Run} → Ended s (reached p σ) → has s 0 p ≡ true
ended_has (at_wait p σ h) = h

module _ (p : Process) (s : State) (f : fits_text p s ≡ true) where
  module _ (w : WellFormed p) (i o : List ℤ) (room : length o ≡ length p.outputs) where
    -- the cycle from the slots in use
    abbrev Cycle : Result
    Cycle = cycle p.body (place_for s.place) i (run [] (take (length p.outputs) s.outputs) (take (length p.variables) s.variables))

    -- the state that the code makes
    abbrev Made : ℕ → List ℤ → List ℤ → State
    Made x o' v' = record { place = x; outputs = o' ++ drop (length p.outputs) s.outputs; variables = v' ++ drop (length p.variables) s.variables }

    made : (x : ℕ) (o' v' : List ℤ) → length o' ≡ length p.outputs → length v' ≡ length p.variables
        → Made x o' v' ≡ state_for x (record { outputs = o'; variables = v' })
    unfolding state_for
    made x o' v' a b =
        let c = pad_part 16 (length p.outputs) o' s.outputs (outputs_long p s f) w.outputs a (used_outputs p s f).1 in
        let d = pad_part 32 (length p.variables) v' s.variables (variables_long p s f) w.variables b (used_variables p s f).1 in
        λ j. record { place = x; outputs = c j; variables = d j }

    made_row : (o' : List ℤ) → length o' ≡ length p.outputs → take (length o) (o' ++ drop (length p.outputs) s.outputs) ≡ o'
    made_row o' a =
        rw (room, pad_part 16 (length p.outputs) o' s.outputs (outputs_long p s f) w.outputs a (used_outputs p s f).1)
        (pad_first 16 (length p.outputs) o' a w.outputs)

    pub reached_small : (x k : ℕ) (o' v' : List ℤ) → Stands Cycle (Reached x k) o' v' → x < 65536
    reached_small x k o' v' t =
        let e = t.is.1.1 in
        let g : Ended p.body (reached x (run t.is.0 o' v')) =
        rw e at (cycle_ends p.body w.class (place_for s.place) i
        (run [] (take (length p.outputs) s.outputs) (take (length p.variables) s.variables))) in
        let b = has_below p.body 0 x (ended_has g) in
        let c = w.statements in
        omega arith

    pub reached_advances : (x : ℕ) (k : Counts) (o' v' : List ℤ) → Stands Cycle (Reached x k.lines) o' v' → length o' ≡ length p.outputs
        → length v' ≡ length p.variables
        → (a : Advanced) (row : List ℤ) → a ≡ record { state = Made x o' v'; answer = Ok k }
        → row ≡ take (length o) (o' ++ drop (length p.outputs) s.outputs)
        → Advances (cycled p (kept_of p s) (call_of i o)) a row
    unfolding kept_of concluded
    reached_advances x k o' v' t a b A row e q =
        rw t.is.1.1
        (record {
          answer = ap (λ (y : Advanced). cycle_told y.answer) e ∙ ap done (sym t.is.1.0);
          state = ap (λ (y : Advanced). y.state) e ∙ made x o' v' a b;
          row = q ∙ made_row o' a;
        })

    pub passed_advances : (k : Counts) (o' v' : List ℤ) → Stands Cycle (Passed k.lines) o' v' → length o' ≡ length p.outputs
        → length v' ≡ length p.variables
        → (a : Advanced) (row : List ℤ) → a ≡ record { state = Made 512 o' v'; answer = Ok k }
        → row ≡ take (length o) (o' ++ drop (length p.outputs) s.outputs)
        → Advances (cycled p (kept_of p s) (call_of i o)) a row
    unfolding kept_of concluded
    passed_advances k o' v' t a b A row e q =
        rw t.is.1.1
        (record {
          answer = ap (λ (y : Advanced). cycle_told y.answer) e ∙ ap done (sym t.is.1.0);
          state = ap (λ (y : Advanced). y.state) e ∙ made 512 o' v' a b;
          row = q ∙ made_row o' a;
        })

    pub refused_advances : (m : Fault) (x : ℕ) (o' v' : List ℤ) → Stands Cycle (Refused m x) o' v'
        → (a : Advanced) → a ≡ record { state = s; answer = Err (operator_refusal (number_of m) x) }
        → Advances (cycled p (kept_of p s) (call_of i o)) a o
    unfolding kept_of concluded
    refused_advances m x o' v' t A e =
        let u = cycle_number i (number_of m) x p.body (place_for s.place)
        (run [] (take (length p.outputs) s.outputs) (take (length p.variables) s.variables)) t.is in
        rw t.is
        (record {
          answer = ap (λ (y : Advanced). cycle_told y.answer) e ∙ operator_told (number_of m) x u;
          state = ap (λ (y : Advanced). y.state) e ∙ sym (kept_laid p s f);
          row = refl;
        })

-- THE CYCLE ON COPIES OF THE SLOTS IN USE

part_back : (l m : List ℤ) (n : ℕ) → take 0 l ++ (m ++ drop (n - 0) (drop 0 l)) ≡ m ++ drop n l
part_back l m n = let z : n - 0 ≡ n = omega arith in rw z

part_length : (l : List ℤ) (n k : ℕ) → length l ≡ k → n ≤ k → length (take (n - 0) (drop 0 l)) ≡ n
part_length l n k e h = let z : n - 0 ≡ n = omega arith in rw z (simp length-take (omega arith))

module _ (p : Process) (s : State) (f : fits_text p s ≡ true) (w : WellFormed p) (i o : List ℤ) (room : length o ≡ length p.outputs) (n m : ℕ)
    (oc : n ≡ length p.outputs) (vc : m ≡ length p.variables) (o' v' : List ℤ) where
  -- the cycle that the code has run, on the parts of the slots
  abbrev Ran : Result
  Ran = cycle p.body (place_for s.place) i (run [] (take (n - 0) (drop 0 s.outputs)) (take (m - 0) (drop 0 s.variables)))

  -- the slots as they are after it
  abbrev Outputs : List ℤ
  Outputs = take 0 s.outputs ++ (o' ++ drop (n - 0) (drop 0 s.outputs))

  abbrev Variables : List ℤ
  Variables = take 0 s.variables ++ (v' ++ drop (m - 0) (drop 0 s.variables))

  -- the state that it makes of them
  abbrev Back : ℕ → State
  Back x = record { place = x; outputs = Outputs; variables = Variables }

  back : (x : ℕ) → Back x ≡ record {
    place = x;
    outputs = o' ++ drop (length p.outputs) s.outputs;
    variables = v' ++ drop (length p.variables) s.variables;
  }
  back x = rw (← oc, ← vc) (λ j. record { place = x; outputs = part_back s.outputs o' n j; variables = part_back s.variables v' m j })

  ran : Ran ≡ cycle p.body (place_for s.place) i (run [] (take (length p.outputs) s.outputs) (take (length p.variables) s.variables))
  ran = rw (part_first s.outputs n, part_first s.variables m, oc, vc)

  few : length o ≤ 16
  few = let h = w.outputs in omega arith

  outputs_count : length o' ≡ length (take (n - 0) (drop 0 s.outputs)) → length o' ≡ length p.outputs
  outputs_count e = e ∙ (part_length s.outputs n 16 (outputs_long p s f) (let h = w.outputs in omega arith) ∙ oc)

  variables_count : length v' ≡ length (take (m - 0) (drop 0 s.variables)) → length v' ≡ length p.variables
  variables_count e = e ∙ (part_length s.variables m 32 (variables_long p s f) (let h = w.variables in omega arith) ∙ vc)

  shown : {row : List ℤ} → row ≡ take (length o) Outputs → row ≡ take (length o) (o' ++ drop (length p.outputs) s.outputs)
  shown e = e ∙ ap (λ (z : List ℤ). take (length o) z) (part_back s.outputs o' n ∙ ap (λ (j : ℕ). o' ++ drop j s.outputs) oc)

  -- what `concluded` makes of it is the definition's cycle
  pub run_concluded : (r : Progress) (a : Advanced) (row : List ℤ) → Stands Ran r o' v'
      → (place_by r < 65536 → length o ≤ 16 → (a ≡ left_by s r Outputs Variables) × (row ≡ row_by r Outputs o))
      → length o' ≡ length (take (n - 0) (drop 0 s.outputs)) → length v' ≡ length (take (m - 0) (drop 0 s.variables))
      → Advances (cycled p (kept_of p s) (call_of i o)) a row
  run_concluded (Passed k) a row t q x y =
      let u = q (omega arith) few in
      passed_advances p s f w i o room (record { lines = k }) o' v' (rw ran at t) (outputs_count x) (variables_count y) a row
      (u.0 ∙ ap (λ (z : State). record { state = z; answer = Ok (record { lines = k }) }) (back 512)) (shown u.1)
  run_concluded (Reached z k) a row t q x y =
      let t' = rw ran at t in
      let u = q (reached_small p s f w i o room z k o' v' t') few in
      reached_advances p s f w i o room z (record { lines = k }) o' v' t' (outputs_count x) (variables_count y) a row
      (u.0 ∙ ap (λ (y : State). record { state = y; answer = Ok (record { lines = k }) }) (back z)) (shown u.1)
  run_concluded (Refused k z) a row t q x y =
      let u = q (omega arith) few in
      subst (λ (r : List ℤ). Advances (cycled p (kept_of p s) (call_of i o)) a r) (sym u.1)
      (refused_advances p s f w i o room k z o' v' (rw ran at t) a u.0)

-- CALLS
module _ (p : Process) (s : State) (i o : List ℤ) where
  pub call_cycled : (a : Advanced) (row : List ℤ) → row_refusal p (fed_of i (length o)) ≡ none → fits_text p s ≡ true
      → Advances (cycled p (kept_of p s) (call_of i o)) a row
      → Advances (direct_row p s (call_of i o)) a row
  unfolding direct_row
  call_cycled a row z f k = rw (z, f) k

  pub call_state : row_refusal p (fed_of i (length o)) ≡ none → fits_text p s ≡ false → (a : Advanced) → a ≡ record { state = s; answer = Err BadState }
      → Advances (direct_row p s (call_of i o)) a o
  unfolding direct_row
  call_state z f a e = rw (z, f) (record { answer = ap (λ (y : Advanced). cycle_told y.answer) e; state = ap (λ (y : Advanced). y.state) e; row = refl })

  pub call_row : (k : ℕ) (q : Judged Unit ℕ) → q ≡ check_of (row_refusal p (fed_of i (length o))) → q ≡ Err k → (a : Advanced)
      → a ≡ record { state = s; answer = Err (BadRow k) }
      → Advances (direct_row p s (call_of i o)) a o
  unfolding direct_row
  call_row k q e f a ea = on (row_refusal p (fed_of i (length o))) refl
    where
      on : (b : Option ℕ) → row_refusal p (fed_of i (length o)) ≡ b → Advances (direct_row p s (call_of i o)) a o
      on none z =
          let g : ◌≡◌ {A = Judged Unit ℕ} (Err k) (Ok tt) = sym f ∙ (e ∙ ap (λ (x : Option ℕ). check_of x) z) in
          absurd (let d : ◌≡◌ {A = ℕ} 0 1 = cc in omega arith)
      on (some j) z =
          let g : ◌≡◌ {A = Judged Unit ℕ} (Err k) (Err j) = sym f ∙ (e ∙ ap (λ (x : Option ℕ). check_of x) z) in
          let y : k ≡ j = cc in
          rw z (record { answer = ap (λ (u : Advanced). cycle_told u.answer) ea ∙ ap (refusal 14) y; state = ap (λ (u : Advanced). u.state) ea; row = refl })

  pub row_right : (q : Judged Unit ℕ) → q ≡ check_of (row_refusal p (fed_of i (length o))) → q ≡ Ok tt → row_refusal p (fed_of i (length o)) ≡ none
  row_right q e f = on (row_refusal p (fed_of i (length o))) refl
    where
      on : (b : Option ℕ) → row_refusal p (fed_of i (length o)) ≡ b → row_refusal p (fed_of i (length o)) ≡ none
      on none z = z
      on (some j) z =
          let g : ◌≡◌ {A = Judged Unit ℕ} (Ok tt) (Err j) = sym f ∙ (e ∙ ap (λ (x : Option ℕ). check_of x) z) in
          absurd (let d : ◌≡◌ {A = ℕ} 0 1 = cc in omega arith)

-- THE TESTS
pub room_right : (p : Process) (i : List ℤ) (n : ℕ) → row_refusal p (fed_of i n) ≡ none → n ≡ length p.outputs
unfolding Fitting
room_right p i n z = (meets_none p (fed_of i n) z).0.1

module _ (rows : List ℕ) (n : ℕ) (ot vt : List ℕ) (s : State) where
  pub state_third : (x y z : Bool) → x ≡ place_in rows n s.place → x ≡ true → y ≡ slots_in ot s.outputs → y ≡ true → z ≡ slots_in vt s.variables
      → z ≡ state_is rows n ot vt s
  unfolding state_is
  state_third x y z a b c d e = rw (sym a ∙ b, sym c ∙ d) e

  pub state_second : (x y : Bool) → x ≡ place_in rows n s.place → x ≡ true → y ≡ slots_in ot s.outputs → y ≡ false → false ≡ state_is rows n ot vt s
  unfolding state_is
  state_second x y a b c d = rw (sym a ∙ b, sym c ∙ d)

  pub state_first : (x : Bool) → x ≡ place_in rows n s.place → x ≡ false → false ≡ state_is rows n ot vt s
  unfolding state_is
  state_first x a b = rw (sym a ∙ b)

-- THE FRESH STATE
pub padded_at : (l : List ℤ) (n k : ℕ) → k < n → get_or l k (pos 0) ≡ get_or (pad n l) k (pos 0)
unfolding pad
padded_at l zero k h = absurd (omega arith)
padded_at [] (suc n) zero h = refl
padded_at [] (suc n) (suc k) h = padded_at [] n k (omega arith)
padded_at (z ∷ l) (suc n) zero h = refl
padded_at (z ∷ l) (suc n) (suc k) h = padded_at l n k (omega arith)

pub fresh_law : (p : Process) (o v : List ℤ) (r : State) (a b : List ℤ) → r ≡ record { place = 512; outputs = a; variables = b } → a ≡ pad 16 o → b ≡ pad 32 v
    → o ≡ initials p.outputs → v ≡ initials p.variables → r ≡ laid (kept_at_first p)
unfolding kept_at_first state_for
fresh_law p o v r a b e x y f g = e ∙ rw (x, y, f, g)
