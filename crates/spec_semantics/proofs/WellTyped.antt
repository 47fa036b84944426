-- Outputs and variables keep their declared numbers and types: an assignment stores a value of its target's type; then induction on the statement. Assumes
-- nothing.
use Prim.Native.Nat.{ℕ, suc, ◌+◌}
use mathlib.Core.Path.{◌≡◌, refl, ap}
use mathlib.Core.Bool.{Bool, true, false}
use mathlib.Core.Option.{Option, none, some}
use mathlib.Core.List.{List, [], ◌∷◌}
use lib.IntN.{ℤ}
use lib.Dec.{leb}
use Rattle.spec_design.specs.Types.{Ty, std_logic, integer, ExprTy, plain, boolean, same_ty, same_type, in_type}
use Rattle.spec_design.specs.Expression.{Expr, items, Out, fine, fault, plainly, type_of}
use Rattle.spec_design.specs.Statement.{Act, output, variable, null, Stmt, act, wait, if_then, if_else, while, seq, size, has}
use Rattle.spec_design.specs.Process.{Slot, Process, source_types, slot_types, initials, is_type, fits, typed_act, typed, typed_process, Initialised}
use Rattle.spec_semantics.specs.Evaluation.{evaluate}
use Rattle.spec_semantics.specs.Equations.{Memory, Run, Result, passed, reached, refused, perform, log, then, acted, tested, pick, start, resume, Place}
use Rattle.spec_semantics.specs.Equations.{beginning, at, enter, cycle}
use Rattle.spec_semantics.specs.Values.{of_type, Values, Typed, WellTyped}
use Rattle.spec_semantics.proofs.Basic.{false_true, fine_injective, bind_fine, and_left, and_right}
use Rattle.spec_semantics.proofs.Values.{values_set, value_typed}

same_type_plain : (t : ExprTy) (u : Ty) → same_type t (plain u) ≡ true → t ≡ plain u
unfolding same_type same_ty
same_type_plain (plain std_logic) std_logic e = refl
same_type_plain (plain std_logic) integer e = false_true e
same_type_plain (plain integer) std_logic e = false_true e
same_type_plain (plain integer) integer e = refl
same_type_plain boolean u e = false_true e

-- a target that fits has the expression's type
fits_target : (is vs : List Ty) (e : Expr) (o : Option Ty) → fits is vs e (plainly o) ≡ true → (t : Ty) × (type_of is vs e ≡ some (plain t)) × (o ≡ some t)
unfolding fits is_type plainly
fits_target is vs e o h = go (type_of is vs e) o (and_right (leb (items e) 64) _ h)
  where
    go : (q : Option ExprTy) (o : Option Ty) → is_type q (plainly o) ≡ true → (t : Ty) × (q ≡ some (plain t)) × (o ≡ some t)
    go none o h = false_true h
    go (some u) none h = false_true h
    go (some u) (some t) h = (t, ap some (same_type_plain u t h), refl)

-- Initial values.
pub initials_values : (l : List Slot) → Initialised l → Values (slot_types l) (initials l)
unfolding Values
initials_values [] h = tt
initials_values (s ∷ l) h = (h.0, initials_values l h.1)

-- the memory of a result that is not refused
abbrev Keeps : (Memory → Type 0) → Result → Type 0
Keeps Q (passed τ) = Q τ.memory
Keeps Q (reached p τ) = Q τ.memory
Keeps Q (refused q n) = Unit {0}

module _ (Q : Memory → Type 0) where
  keeps_then : (r : Result) (k : Run → Result) → Keeps Q r → ((τ : Run) → Q τ.memory → Keeps Q (k τ)) → Keeps Q (then r k)
  unfolding then
  keeps_then (passed τ) k h hk = hk τ h
  keeps_then (reached p τ) k h hk = h
  keeps_then (refused q n) k h hk = tt

  keeps_tested : (v : Out Bool) (n : ℕ) (σ : Run) (f g : Run → Result) → Keeps Q (f (log n σ)) → Keeps Q (g (log n σ)) → Keeps Q (tested v n σ f g)
  unfolding tested
  keeps_tested (fine true) n σ f g hf hg = hf
  keeps_tested (fine false) n σ f g hf hg = hg
  keeps_tested (fault q) n σ f g hf hg = tt

  keeps_acted : (v : Out Memory) (n : ℕ) (σ : Run) → ((m : Memory) → v ≡ fine m → Q m) → Keeps Q (acted v n σ)
  unfolding acted
  keeps_acted (fine m) n σ h = h m refl
  keeps_acted (fault q) n σ h = tt

  keeps_pick : (b : Bool) (x y : Result) → Keeps Q x → Keeps Q y → Keeps Q (pick b x y)
  unfolding pick
  keeps_pick true x y hx hy = hx
  keeps_pick false x y hx hy = hy

-- An assignment, of a process or of a table's line.
module _ (is os vs : List Ty) (i : List ℤ) (hi : Values is i) where
  -- a value for a target that fits
  stored : (m : Memory) → Typed os vs m → (e : Expr) (o : Option Ty) (z : ℤ) → fits is vs e (plainly o) ≡ true
      → evaluate e i m.variables ≡ fine z → (t : Ty) × (o ≡ some t) × (in_type t z ≡ true)
  unfolding of_type
  stored m w e o z h q =
      let t = fits_target _ _ e o h in
      (t.0, t.2, value_typed is vs i m.variables hi w.variables e (plain t.0) z t.1 q)

  pub perform_typed : (a : Act) → typed_act is os vs a ≡ true → (m m' : Memory) → Typed os vs m → perform a i m ≡ fine m' → Typed os vs m'
  unfolding typed_act perform
  perform_typed (output k e) h m m' w q =
      let r = bind_fine _ _ m' q in
      let t = stored m w e _ r.0 h r.1 in
      rw (← fine_injective _ m' r.2) (record { outputs = values_set _ _ k t.0 r.0 w.outputs t.1 t.2; variables = w.variables })
  perform_typed (variable k e) h m m' w q =
      let r = bind_fine _ _ m' q in
      let t = stored m w e _ r.0 h r.1 in
      rw (← fine_injective _ m' r.2) (record { outputs = w.outputs; variables = values_set _ _ k t.0 r.0 w.variables t.1 t.2 })
  perform_typed null h m m' w q = rw (← fine_injective m m' q) w

module _ (p : Process) (i : List ℤ) (hi : Values (source_types p.inputs) i) where
  abbrev typed_in : Stmt → Bool
  typed_in s = typed (source_types p.inputs) (slot_types p.outputs) (slot_types p.variables) s

  start_well_typed : (s : Stmt) → typed_in s ≡ true → (n : ℕ) (σ : Run) → WellTyped p σ.memory → Keeps (WellTyped p) (start s n i σ)
  unfolding start typed log
  start_well_typed (act a) h n σ w = keeps_acted (WellTyped p) _ n σ (λ m q. perform_typed _ _ _ i hi a h σ.memory m w q)
  start_well_typed wait h n σ w = w
  start_well_typed (if_then e a) h n σ w = keeps_tested (WellTyped p) _ n σ _ _ (start_well_typed a (and_right (fits _ _ e _) _ h) (suc n) (log n σ) w) w
  start_well_typed (if_else e a b) h n σ w =
      let g = and_right (fits _ _ e _) _ h in
      keeps_tested (WellTyped p) _ n σ _ _ (start_well_typed a (and_left (typed_in a) _ g) (suc n) (log n σ) w)
      (start_well_typed b (and_right (typed_in a) _ g) (suc n + size a) (log n σ) w)
  start_well_typed (while e b) h n σ w = keeps_tested (WellTyped p) _ n σ _ _ (start_well_typed b (and_right (fits _ _ e _) _ h) (suc n) (log n σ) w) w
  start_well_typed (seq a b) h n σ w =
      keeps_then (WellTyped p) _ _ (start_well_typed a (and_left (typed_in a) _ h) n σ w)
      (λ τ v. start_well_typed b (and_right (typed_in a) _ h) (n + size a) τ v)

  resume_well_typed : (s : Stmt) → typed_in s ≡ true → (n q : ℕ) (σ : Run) → WellTyped p σ.memory → Keeps (WellTyped p) (resume s n q i σ)
  unfolding resume typed
  resume_well_typed (act a) h n q σ w = w
  resume_well_typed wait h n q σ w = w
  resume_well_typed (if_then e a) h n q σ w = resume_well_typed a (and_right (fits _ _ e _) _ h) (suc n) q σ w
  resume_well_typed (if_else e a b) h n q σ w =
      let g = and_right (fits _ _ e _) _ h in
      keeps_pick (WellTyped p) (has a (suc n) q) _ _ (resume_well_typed a (and_left (typed_in a) _ g) (suc n) q σ w)
      (resume_well_typed b (and_right (typed_in a) _ g) (suc n + size a) q σ w)
  resume_well_typed (while e b) h n q σ w =
      keeps_then (WellTyped p) _ _ (resume_well_typed b (and_right (fits _ _ e _) _ h) (suc n) q σ w) (λ τ v. start_well_typed (while e b) h n τ v)
  resume_well_typed (seq a b) h n q σ w =
      keeps_pick (WellTyped p) (has a n q) _ _
      (keeps_then (WellTyped p) _ _ (resume_well_typed a (and_left (typed_in a) _ h) n q σ w)
      (λ τ v. start_well_typed b (and_right (typed_in a) _ h) (n + size a) τ v))
      (resume_well_typed b (and_right (typed_in a) _ h) (n + size a) q σ w)

  -- A cycle of a typed process over an input row of the declared types keeps the types.
  cycle_keeps : typed_process p ≡ true → (q : Place) (σ : Run) → WellTyped p σ.memory → Keeps (WellTyped p) (cycle p.body q i σ)
  unfolding cycle enter
  cycle_keeps h beginning σ w = keeps_then (WellTyped p) _ _ (start_well_typed p.body h 0 σ w) (λ τ v. start_well_typed p.body h 0 τ v)
  cycle_keeps h (at x) σ w = keeps_then (WellTyped p) _ _ (resume_well_typed p.body h 0 x σ w) (λ τ v. start_well_typed p.body h 0 τ v)

  pub cycle_well_typed : typed_process p ≡ true → (q : Place) (σ τ : Run) (x : ℕ) → WellTyped p σ.memory → cycle p.body q i σ ≡ reached x τ
      → WellTyped p τ.memory
  cycle_well_typed h q σ τ x w e = go (cycle p.body q i σ) e (cycle_keeps h q σ w)
    where
      go : (r : Result) → r ≡ reached x τ → Keeps (WellTyped p) r → WellTyped p τ.memory
      go r e k = rw e at k
