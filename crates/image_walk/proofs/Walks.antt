-- Lines followed by their bytes are the walk over the table's lines: line by line, the slots being outputs and variables with 0 behind them; then by
-- induction on the count of lines. Assumes nothing.
use Prim.Native.Nat.{ℕ, zero, suc, ◌+◌, ◌≤◌, ◌<◌}
use native.Mathlib.Omega.{arith}
use mathlib.Core.Path.{◌≡◌, refl, sym, ap, subst, ◌∙◌}
use mathlib.Core.Bool.{Bool, true, false, cond}
use mathlib.Core.Option.{Option, none, some}
use mathlib.Core.List.{List, [], ◌∷◌, ◌++◌}
use lib.ListN.{length, take, drop, set, length-append}
use lib.IntN.{ℤ}
use lib.Dec.{leb, eqb}
use borrow.Author.Tests.{leb-true, le-leb}
use Rattle.spec_design.specs.Types.{Ty, ExprTy}
use Rattle.spec_design.specs.Expression.{Expr, items, Out, fine, fault, bind, nth, plainly, type_of}
use Rattle.spec_design.specs.Statement.{Act, output, variable, null}
use Rattle.spec_design.specs.Process.{fits, typed_act}
use Rattle.spec_semantics.specs.Evaluation.{is_one, evaluate}
use Rattle.spec_semantics.specs.Equations.{Memory, Run, Result, passed, reached, refused, perform, holds, log, then, acted, tested}
use Rattle.spec_semantics.specs.Values.{Values}
use Rattle.spec_semantics.proofs.Basic.{none_some, and_left}
use Rattle.spec_semantics.proofs.WellTyped.{perform_typed}
use Rattle.spec_format.specs.Code.{code}
use Rattle.spec_format.specs.Signature.{types}
use Rattle.spec_format.specs.Lines.{Line, waits, acts, branches, line, reach}
use Rattle.spec_format.specs.Walk.{step, walk}
use Rattle.spec_format.specs.Image.{Table, raw_of, code_of_line}
use Rattle.spec_format.specs.Good.{fits_line}
use Rattle.spec_semantics.specs.Records.{pad}
use Rattle.spec_semantics.proofs.Typed.{fits_type}
use Rattle.spec_simulation.specs.Ranked.{Followers}
use Rattle.spec_simulation.specs.Outcome.{Typed}
use Rattle.spec_simulation.proofs.States.{types_length}
use Rattle.spec_semantics.proofs.Slots.{pad_take}
use Rattle.spec_simulation.proofs.Tables.{line_good, good_ranked}
use Rattle.base_codes.specs.Types.{tag_of}
use Rattle.image_evaluator.specs.declared.Found.{Found}
use Rattle.image_evaluator.specs.Value.{types_for, part_value, found, evaluated_of}
use Rattle.image_evaluator.proofs.Evaluation.{value_of_code}
use Rattle.image_evaluator.proofs.Slots.{value_slots}
use Rattle.image_walk.specs.Fields.{kind_at, target_at, offset_at, size_at, next_at, other_at}
use Rattle.image_walk.specs.Moves.{value_at, Performs}
use Rattle.image_walk.specs.Follow.{Went, at_wait, stopped, spent, follow_at}
use Rattle.image_walk.specs.Held.{Held}
use Rattle.image_walk.specs.declared.Move.TheVariants.{Next}
use Rattle.image_walk.proofs.Steps.{wait_at, null_at, has_value, fault_at, value_at_lem, branch_at, store_at}
use Rattle.image_walk.proofs.Turns.{follow_on}
use Rattle.image_walk.proofs.Fields.{at, begins, line_fields, line_code}

-- Slots.

set_pad : (n : ℕ) (ts : List Ty) (l : List ℤ) (k : ℕ) (t : Ty) (z : ℤ) → Values ts l → nth ts k ≡ some t → length ts ≤ n → set (pad n l) k z ≡ pad n (set l k z)
unfolding pad Values nth
set_pad n [] l k t z v e b = none_some t e
set_pad n (s ∷ ts) [] k t z v e b = absurd v
set_pad zero (s ∷ ts) (y ∷ l) k t z v e b = absurd (omega arith)
set_pad (suc n) (s ∷ ts) (y ∷ l) zero t z v e b = refl
set_pad (suc n) (s ∷ ts) (y ∷ l) (suc k) t z v e b = ap (λ (r : List ℤ). y ∷ r) (set_pad n ts l k t z v.1 e (omega arith))

-- an expression that fits has at most 64 literals, names and operators, and its target is there
fits_items : (is vs : List Ty) (e : Expr) (o : Option ExprTy) → fits is vs e o ≡ true → items e ≤ 64
unfolding fits
fits_items is vs e o h = leb-true (items e) 64 (and_left (leb (items e) 64) _ h)

plainly_some : (o : Option Ty) (u : ExprTy) → plainly o ≡ some u → (s : Ty) × (o ≡ some s)
unfolding plainly
plainly_some none u e = none_some u e
plainly_some (some s) u e = (s, refl)

-- what an outcome of the walk is by the bytes
abbrev pub Shows : Result → Went → Type 0
Shows (passed τ) w = w.answer ≡ spent
Shows (reached p τ) w = w ≡ record { answer = at_wait p (length τ.way); outputs = pad 16 τ.memory.outputs; variables = pad 32 τ.memory.variables }
Shows (refused q x) w = w.answer ≡ stopped q x

module _ (l c is vs : List ℕ) (t : Table) (h : Held l c t) (ti : types_for is ≡ t.signature.inputs) (tv : types_for vs ≡ types t.signature.variables)
    (i : List ℤ) (hi : Values t.signature.inputs i) where
  few_outputs : length (types t.signature.outputs) ≤ 16
  few_outputs = omega (arith, types_length t.signature.outputs, h.good.signature.outputs)

  few_variables : length (types t.signature.variables) ≤ 32
  few_variables = omega (arith, types_length t.signature.variables, h.good.signature.variables)

  reaches_long : length t.reaches ≡ length t.lines
  reaches_long = (good_ranked t h.good).long

  -- the value of a line whose code is that of e
  line_value : (x p : ℕ) (e : Expr) (u : ExprTy) → offset_at l x ≡ p → size_at l x ≡ length (code e) → take (length (code e)) (drop p c) ≡ code e
      → p + length (code e) ≤ length c
      → type_of t.signature.inputs (types t.signature.variables) e ≡ some u → items e ≤ 64 → (m : Memory) → Typed t.signature m
      → value_at l c x is vs i (pad 32 m.variables) ≡ evaluated_of (bind (evaluate e i m.variables) (λ z. fine (u, z)))
  unfolding part_value
  line_value x p e u a b k d ty it m w =
      let q : evaluate e i (pad 32 m.variables) ≡ evaluate e i m.variables =
      value_slots t.signature.inputs (types t.signature.variables) e u i (pad 32 m.variables) ty
      ∙ ap (evaluate e i) (pad_take 32 (types t.signature.variables) m.variables w.variables few_variables) in
      rw (a, b, le-leb (p + length (code e)) (length c) d, k, ti, tv)
      (ap evaluated_of (value_of_code t.signature.inputs (types t.signature.variables) e u i (pad 32 m.variables) ty it
      ∙ ap (λ o. bind o (λ z. fine (u, z))) q))

  -- the walk of k lines from the line y on, by the bytes
  abbrev Followed_by : ℕ → ℕ → Run → Type 0
  Followed_by k y τ = Shows (walk t.lines i k y τ) (follow_at l c is vs i k y (length τ.way) (pad 16 τ.memory.outputs) (pad 32 τ.memory.variables))

  module _ (k x : ℕ) (ρ : Run) (w : Typed t.signature ρ.memory) where
    -- the bytes' answer at the line x
    abbrev here : Went
    here = follow_at l c is vs i (suc k) x (length ρ.way) (pad 16 ρ.memory.outputs) (pad 32 ρ.memory.variables)

    abbrev value : Out Found
    value = value_at l c x is vs i (pad 32 ρ.memory.variables)

    counted : suc (length ρ.way) ≡ length (ρ.way ++ (x ∷ []))
    counted = omega (arith, length-append ρ.way (x ∷ []))

    waits_shows : kind_at l x ≡ 0 → here ≡ record
        { answer = at_wait x (length (ρ.way ++ (x ∷ []))); outputs = pad 16 ρ.memory.outputs; variables = pad 32 ρ.memory.variables }
    waits_shows z =
        follow_on l c is vs i k x (length ρ.way) (pad 16 ρ.memory.outputs) (pad 32 ρ.memory.variables) _ _ _ (wait_at (sym z) refl)
        ∙ ap (λ (n : ℕ). record { answer = at_wait x n; outputs = pad 16 ρ.memory.outputs; variables = pad 32 ρ.memory.variables }) counted

    -- a refused operator
    stops_shows : (j q : ℕ) → kind_at l x ≡ j → (j ≡ 0 → ⊥) → (j ≡ 4 → ⊥) → value ≡ fault q → here.answer ≡ stopped q x
    stops_shows j q z a b e =
        ap (λ (u : Went). u.answer) (follow_on l c is vs i k x (length ρ.way) (pad 16 ρ.memory.outputs) (pad 32 ρ.memory.variables) _ _ _
        (fault_at (has_value (sym z) a b) refl e))

    -- a line that goes on at f with the memory m
    goes_shows : (f : ℕ) (m : Memory) → Followed_by k f (record { way = ρ.way ++ (x ∷ []); memory = m })
        → Performs l x value (pad 16 ρ.memory.outputs) (pad 32 ρ.memory.variables) (fine (Next f)) (pad 16 m.outputs) (pad 32 m.variables)
        → Shows (walk t.lines i k f (record { way = ρ.way ++ (x ∷ []); memory = m })) here
    goes_shows f m r p =
        let e : here ≡ follow_at l c is vs i k f (length (ρ.way ++ (x ∷ []))) (pad 16 m.outputs) (pad 32 m.variables) =
        follow_on l c is vs i k x (length ρ.way) (pad 16 ρ.memory.outputs) (pad 32 ρ.memory.variables) _ _ _ p
        ∙ ap (λ (n : ℕ). follow_at l c is vs i k f n (pad 16 m.outputs) (pad 32 m.variables)) counted in
        subst (Shows (walk t.lines i k f (record { way = ρ.way ++ (x ∷ []); memory = m }))) (sym e) r

    module _ (again : (y : ℕ) (τ : Run) → y < length t.lines → Typed t.signature τ.memory → Followed_by k y τ) where
      -- an assignment of the kind j with the target n and the expression e, which leaves m z for the value z
      assigns_shows : (a : Act) (j n f : ℕ) (e : Expr) (u : ExprTy) (m : ℤ → Memory)
          → kind_at l x ≡ j → (j ≡ 0 → ⊥) → (j ≡ 4 → ⊥) → (j ≡ 3 → ⊥) → target_at l x ≡ n → next_at l x ≡ f → f < length t.lines
          → typed_act t.signature.inputs (types t.signature.outputs) (types t.signature.variables) a ≡ true
          → perform a i ρ.memory ≡ bind (evaluate e i ρ.memory.variables) (λ z. fine (m z))
          → value ≡ evaluated_of (bind (evaluate e i ρ.memory.variables) (λ z. fine (u, z)))
          → ((z : ℤ) → pad 16 (m z).outputs ≡ cond (eqb j 1) (set (pad 16 ρ.memory.outputs) n z) (pad 16 ρ.memory.outputs))
          → ((z : ℤ) → pad 32 (m z).variables ≡ cond (eqb j 2) (set (pad 32 ρ.memory.variables) n z) (pad 32 ρ.memory.variables))
          → Shows (then (acted (perform a i ρ.memory) x ρ) (λ τ. walk t.lines i k f τ)) here
      unfolding then acted bind
      assigns_shows a j n f e u m kind n0 n4 n3 target next b ty does val so sv = on (evaluate e i ρ.memory.variables) refl
        where
          on : (o : Out ℤ) → evaluate e i ρ.memory.variables ≡ o → Shows (then (acted (perform a i ρ.memory) x ρ) (λ τ. walk t.lines i k f τ)) here
          on (fine z) q =
              let d : perform a i ρ.memory ≡ fine (m z) = rw q at does in
              let y : value ≡ found (tag_of u) z = rw q at val in
              rw d
              (goes_shows f (m z) (again f _ b (perform_typed _ _ _ i hi a ty ρ.memory (m z) w d))
              (value_at_lem refl y (store_at (sym kind) (has_value (sym kind) n0 n4) n3 (sym next) (sym target) (so z) (sv z))))
          on (fault r) q =
              let d : perform a i ρ.memory ≡ fault r = rw q at does in
              let y : value ≡ fault r = rw q at val in
              rw d (stops_shows j r kind n0 n4 y)

      -- a branch
      branch_shows : (e : Expr) (f g : ℕ) (u : ExprTy) → kind_at l x ≡ 3 → next_at l x ≡ f → other_at l x ≡ g → f < length t.lines → g < length t.lines
          → value ≡ evaluated_of (bind (evaluate e i ρ.memory.variables) (λ z. fine (u, z)))
          → Shows (tested (holds e i ρ.memory) x ρ (λ τ. walk t.lines i k f τ) (λ τ. walk t.lines i k g τ)) here
      unfolding tested holds bind log
      branch_shows e f g u kind next other bf bg val = on (evaluate e i ρ.memory.variables) refl
        where
          taken : (z : ℤ) → value ≡ found (tag_of u) z → (b : Bool) → is_one z ≡ b
              → Shows (tested (fine b) x ρ (λ τ. walk t.lines i k f τ) (λ τ. walk t.lines i k g τ)) here
          taken z y true q =
              goes_shows f ρ.memory (again f _ bf w) (value_at_lem refl y (branch_at (sym kind) refl (rw q (sym next))))
          taken z y false q =
              goes_shows g ρ.memory (again g _ bg w) (value_at_lem refl y (branch_at (sym kind) refl (rw q (sym other))))

          on : (o : Out ℤ) → evaluate e i ρ.memory.variables ≡ o
              → Shows (tested (holds e i ρ.memory) x ρ (λ τ. walk t.lines i k f τ) (λ τ. walk t.lines i k g τ)) here
          on (fine z) q = let y : value ≡ found (tag_of u) z = rw q at val in rw q (taken z y (is_one z) refl)
          on (fault r) q = let y : value ≡ fault r = rw q at val in rw q (stops_shows 3 r kind (λ z. omega arith) (λ z. omega arith) y)

      -- any line
      line_shows : (ln : Line) (p q : ℕ) → at l x ≡ raw_of p ln q
          → (take (length (code_of_line ln)) (drop p c) ≡ code_of_line ln) × (p + length (code_of_line ln) ≤ length c)
          → Followers (length t.lines) ln → fits_line t.signature ln ≡ true → Shows (step ln x i ρ (λ y τ. walk t.lines i k y τ)) here
      unfolding step raw_of code_of_line log typed_act then acted perform
      line_shows (waits f) p q r d b ft = waits_shows (ap (λ y. y.kind) r)
      line_shows (acts (output n e) f) p q r d b ft =
          let z = fits_type _ _ e _ ft in
          let s = plainly_some (nth (types t.signature.outputs) n) z.0 z.2 in
          assigns_shows (output n e) 1 n f e z.0 (λ v. record { outputs = set ρ.memory.outputs n v; variables = ρ.memory.variables })
          (ap (λ y. y.kind) r) (λ o. omega arith) (λ o. omega arith) (λ o. omega arith) (ap (λ y. y.target) r) (ap (λ y. y.next) r) b ft refl
          (line_value x p e z.0 (ap (λ y. y.offset) r) (ap (λ y. y.size) r) d.0 d.1 z.1 (fits_items _ _ e _ ft) ρ.memory w)
          (λ v. sym (set_pad 16 (types t.signature.outputs) ρ.memory.outputs n s.0 v w.outputs s.1 few_outputs)) (λ v. refl)
      line_shows (acts (variable n e) f) p q r d b ft =
          let z = fits_type _ _ e _ ft in
          let s = plainly_some (nth (types t.signature.variables) n) z.0 z.2 in
          assigns_shows (variable n e) 2 n f e z.0 (λ v. record { outputs = ρ.memory.outputs; variables = set ρ.memory.variables n v })
          (ap (λ y. y.kind) r) (λ o. omega arith) (λ o. omega arith) (λ o. omega arith) (ap (λ y. y.target) r) (ap (λ y. y.next) r) b ft refl
          (line_value x p e z.0 (ap (λ y. y.offset) r) (ap (λ y. y.size) r) d.0 d.1 z.1 (fits_items _ _ e _ ft) ρ.memory w)
          (λ v. refl) (λ v. sym (set_pad 32 (types t.signature.variables) ρ.memory.variables n s.0 v w.variables s.1 few_variables))
      line_shows (acts null f) p q r d b ft =
          goes_shows f ρ.memory (again f _ b w) (null_at (sym (ap (λ y. y.kind) r)) refl (sym (ap (λ y. y.next) r)))
      line_shows (branches e f g) p q r d b ft =
          let z = fits_type _ _ e _ ft in
          branch_shows e f g z.0 (ap (λ y. y.kind) r) (ap (λ y. y.next) r) (ap (λ y. y.other) r) b.0 b.1
          (line_value x p e z.0 (ap (λ y. y.offset) r) (ap (λ y. y.size) r) d.0 d.1 z.1 (fits_items _ _ e _ ft) ρ.memory w)

  -- Lines followed by their bytes are the walk over the table's lines.
  pub follow_walk : (k x : ℕ) (ρ : Run) → x < length t.lines → Typed t.signature ρ.memory → Followed_by k x ρ
  unfolding walk follow_at
  follow_walk zero x ρ b w = refl
  follow_walk (suc k) x ρ b w =
      let g = line_good t h.good x b in
      line_shows k x ρ w (λ y τ. follow_walk k y τ) (line t.lines x) (begins l c t h reaches_long x b) (reach t.reaches x)
      (line_fields l c t h reaches_long x b) (line_code l c t h reaches_long x b) g.0 g.2
