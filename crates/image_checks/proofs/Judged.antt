-- Rows, states and the fresh state judged by the bytes are those judged by the table: the laws by position put together. Assumes nothing.
use Prim.Native.Nat.{ℕ, ◌-◌, ◌≤◌, ◌<◌}
use native.Mathlib.Omega.{arith}
use mathlib.Core.Path.{◌≡◌, refl, sym, ap, ◌∙◌}
use mathlib.Core.Bool.{true, false, ◌&&◌}
use mathlib.Core.Option.{Option, none, some}
use mathlib.Core.List.{List, ◌++◌}
use lib.ListN.{length, get_or, take, drop, length-append, length-drop}
use lib.Seq.{take_at}
use lib.IntN.{ℤ}
use borrow.Author.Tests.{eq-eqb, ne_eqb}
use Rattle.base_answers.specs.declared.State.{State}
use Rattle.spec_format.specs.Signature.{Signature, types, initials, type_bytes, signature_of}
use Rattle.spec_format.specs.Image.{Table}
use Rattle.spec_format.specs.State.{state_ok, fresh_table}
use Rattle.spec_semantics.specs.Records.{state_for, pad}
use Rattle.spec_format.specs.Cycle.{row_place}
use Rattle.spec_simulation.proofs.InputRows.{row_right}
use Rattle.std.specs.Prelude.{Ok, Err}
use Rattle.image_checks.specs.Places.{Opens, outputs_at, variables_at, wrong_from, slots_at, initials_at, type_bytes_at, place_at}
use Rattle.image_checks.specs.Answers.{check_of}
use Rattle.image_checks.proofs.Positions.{signature_placed, wrong_values, slots_of_cells, initials_of_cells, types_of_cells, type_bytes_length}
use Rattle.image_checks.proofs.Opened.{opens_signature}
use Rattle.image_checks.proofs.Fields.{opens_place}

-- Rows.

module _ (s : List ℕ) (i : List ℤ) (n : ℕ) where
  pub inputs_wrong : (length i ≡ get_or s 0 0 → ⊥) → (σ : Signature) → signature_of s ≡ some σ → Err 0 ≡ check_of (row_place σ i n)
  unfolding row_place
  inputs_wrong h σ e = rw (ne_eqb (length i) (length σ.inputs) (λ q. h (q ∙ sym (signature_placed s σ e).inputs_count)))

  pub room_wrong : length i ≡ get_or s 0 0 → (n ≡ get_or s 1 0 → ⊥) → (σ : Signature) → signature_of s ≡ some σ → Err 0 ≡ check_of (row_place σ i n)
  unfolding row_place
  room_wrong l h σ e =
      let p = signature_placed s σ e in
      rw (eq-eqb (length i) (length σ.inputs) (l ∙ p.inputs_count), ne_eqb n (length σ.outputs) (λ q. h (q ∙ sym p.outputs_count)))

  pub values_judged : length i ≡ get_or s 0 0 → n ≡ get_or s 1 0 → (σ : Signature) → signature_of s ≡ some σ → check_of (wrong_from s 0 i) ≡ check_of (row_place σ i n)
  unfolding row_place
  values_judged l h σ e =
      let p = signature_placed s σ e in
      rw (eq-eqb (length i) (length σ.inputs) (l ∙ p.inputs_count), eq-eqb n (length σ.outputs) (h ∙ p.outputs_count))
      (ap check_of (wrong_values s 0 σ.inputs i p.inputs (l ∙ p.inputs_count)))

-- rows that do not meet 14: the output row has room for no more than the outputs' 16 slots
pub room_few : (s : List ℕ) (i : List ℤ) (n : ℕ) (σ : Signature) → signature_of s ≡ some σ → check_of (row_place σ i n) ≡ Ok tt → n ≤ 16
room_few s i n σ e h = omega (arith, (row_right σ i n (check_right (row_place σ i n) h)).1, (signature_placed s σ e).few_outputs)
  where
    check_right : (o : Option ℕ) → check_of o ≡ Ok tt → o ≡ none
    check_right none q = refl
    check_right (some k) q = cc

-- States.

module _ (s l : List ℕ) (x : State) (o : length x.outputs ≡ 16) (v : length x.variables ≡ 32) where
  -- place, outputs and variables by the bytes
  pub state_judged : (t : Table) (c : List ℕ) → Opens s l c t
      → (place_at l x.place && (slots_at s (outputs_at s) (get_or s 1 0) x.outputs && slots_at s (variables_at s) (get_or s 2 0) x.variables)) ≡ state_ok t x
  unfolding state_ok
  state_judged t c e =
      let p = signature_placed s t.signature (opens_signature s l c t e) in
      rw (
        o,
        v,
        ← opens_place s l c t e x.place,
        ← slots_of_cells s (outputs_at s) t.signature.outputs x.outputs p.outputs,
        ← slots_of_cells s (variables_at s) t.signature.variables x.variables p.variables,
        ← p.outputs_count,
        ← p.variables_count,
      )

  pub place_wrong : place_at l x.place ≡ false → (t : Table) (c : List ℕ) → Opens s l c t → false ≡ state_ok t x
  place_wrong h t c e = rw h at (state_judged t c e)

  module _ (h : place_at l x.place ≡ true) (a n : ℕ) (ea : a ≡ outputs_at s) (en : n ≡ get_or s 1 0) where
    pub outputs_wrong : slots_at s a n x.outputs ≡ false → (t : Table) (c : List ℕ) → Opens s l c t → false ≡ state_ok t x
    outputs_wrong f t c e = rw (h, rw (ea, en) at f) at (state_judged t c e)

    pub variables_judged : slots_at s a n x.outputs ≡ true → (b m : ℕ) → b ≡ variables_at s → m ≡ get_or s 2 0 → (t : Table) (c : List ℕ) → Opens s l c t
        → slots_at s b m x.variables ≡ state_ok t x
    variables_judged f b m eb em t c e = rw (eb, em) (rw (h, rw (ea, en) at f) at (state_judged t c e))

-- the state with the initial values that stand in the signature section
pub fresh_judged : (s : List ℕ) (o v : List ℤ) (a n b m : ℕ) → a ≡ outputs_at s → n ≡ get_or s 1 0 → b ≡ variables_at s → m ≡ get_or s 2 0
    → o ≡ pad 16 (initials_at s a n) → v ≡ pad 32 (initials_at s b m)
    → (t : Table) → signature_of s ≡ some t.signature → ◌≡◌ {A = State} (record { place = 512; outputs = o; variables = v }) (fresh_table t)
unfolding fresh_table state_for
fresh_judged s o v a n b m ea en eb em eo ev t e =
    let p = signature_placed s t.signature e in
    let x : o ≡ pad 16 (initials t.signature.outputs) =
    eo ∙ rw (ea, en, p.outputs_count) (ap (pad 16) (initials_of_cells s (outputs_at s) t.signature.outputs p.outputs)) in
    let y : v ≡ pad 32 (initials t.signature.variables) =
    ev ∙ rw (eb, em, p.variables_count) (ap (pad 32) (initials_of_cells s (variables_at s) t.signature.variables p.variables)) in
    λ j. record { place = 512; outputs = x j; variables = y j }

-- Type bytes.

module _ (s : List ℕ) (σ : Signature) (e : signature_of s ≡ some σ) where
  inputs_room : outputs_at s ≤ length s
  inputs_room =
      let p = signature_placed s σ e in
      let d = simp (length-drop, length-append) at (ap length p.input_bytes.1) in
      omega (arith, d, p.long, p.inputs_count, type_bytes_length σ.inputs)

  -- the part of the section that holds the inputs' type bytes
  pub inputs_part : (x : ℕ) → x ≡ outputs_at s → take (x - 3) (drop 3 s) ≡ type_bytes σ.inputs
  inputs_part x h =
      let p = signature_placed s σ e in
      let n : length (type_bytes σ.inputs) ≡ x - 3 = omega (arith, p.inputs_count, type_bytes_length σ.inputs) in
      ap (take (x - 3)) p.input_bytes.1 ∙ take_at (type_bytes σ.inputs) p.input_bytes.0 (x - 3) n

  -- the section has room for them
  pub inputs_inside : {A : Type 0} (x : ℕ) → x ≡ outputs_at s → length s < x → A
  inputs_inside x h q = absurd (omega (arith, inputs_room))

  -- the variables' type bytes, in front of what was there
  pub variables_copied : (n a : ℕ) → n ≡ get_or s 2 0 → a ≡ variables_at s → (t u : List ℕ) → u ≡ type_bytes_at s a n ++ drop n t
      → (n ≡ length σ.variables) × (u ≡ type_bytes (types σ.variables) ++ drop (length σ.variables) t)
  variables_copied n a h g t u q =
      let p = signature_placed s σ e in
      (h ∙ p.variables_count, q ∙ rw (g, h, p.variables_count, types_of_cells s (variables_at s) σ.variables p.variables))

  pub variables_inside : {A : Type 0} (n m : ℕ) → n ≡ get_or s 2 0 → 32 ≤ m → m < n → A
  variables_inside n m h g q = let p = signature_placed s σ e in absurd (omega (arith, p.variables_count, p.few_variables))
