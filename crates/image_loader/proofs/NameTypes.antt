-- The types of inputs, outputs and variables stand at their places in a signature section: by induction on the lists. Assumes nothing.
use Prim.Native.Nat.{ℕ, zero, suc, ◌+◌, ◌*◌, ◌≤◌, ◌<◌}
use native.Mathlib.Omega.{arith}
use mathlib.Core.Path.{◌≡◌, refl, sym, ap, ◌∙◌}
use mathlib.Core.Bool.{true}
use mathlib.Core.Option.{Option, none, some}
use mathlib.Core.List.{List, [], ◌∷◌, ◌++◌, append-nil}
use lib.ListN.{length, get_or}
use lib.Seq.{get_or-append-add}
use mir.Syntax.{w8}
use mir.Val.{Fits}
use Rattle.spec_design.specs.Types.{Ty, type_byte}
use Rattle.spec_design.specs.Expression.{nth, plainly}
use Rattle.std.specs.Prelude.{None, Some}
use Rattle.spec_semantics.proofs.Basic.{false_true}
use Rattle.spec_format.specs.Words.{Bytes, bytes4}
use Rattle.spec_semantics.specs.Twos.{unsigned32}
use Rattle.spec_format.specs.Signature.{Cell, Signature, types, type_bytes, cell_bytes, signature_bytes, signature_of}
use Rattle.spec_format.proofs.Signature.{signature_exactly}
use Rattle.image_loader.specs.Sections.{is_some}
use Rattle.image_loader.specs.Code.{tag_at, or_empty, signature_at, input_types, output_types, variable_types}

-- the elements of a slice of bytes are bytes
pub all_bytes : (s : List ℕ) → ((i : ℕ) → Fits w8 (get_or s i 0)) → Bytes s
unfolding Bytes
all_bytes [] h = tt
all_bytes (k ∷ s) h = ((h 0).fits, all_bytes s (λ i. h (suc i)))

types_at : (l : List Ty) (r : List ℕ) (k : ℕ) → k < length l → Some (get_or (type_bytes l ++ r) k 0) ≡ tag_at l k
unfolding type_bytes nth plainly
types_at [] r k h = absurd (omega arith)
types_at (t ∷ l) r zero h = refl
types_at (t ∷ l) r (suc k) h = types_at l r k (omega arith)

pub types_past : (l : List Ty) (k : ℕ) → length l ≤ k → None ≡ tag_at l k
unfolding nth plainly
types_past [] k h = refl
types_past (t ∷ l) zero h = absurd (omega arith)
types_past (t ∷ l) (suc k) h = types_past l k (omega arith)

cells_at : (l : List Cell) (r : List ℕ) (k : ℕ) → k < length l → Some (get_or (cell_bytes l ++ r) (5 * k) 0) ≡ tag_at (types l) k
unfolding cell_bytes nth plainly
cells_at [] r k h = absurd (omega arith)
cells_at (c ∷ l) r zero h = refl
cells_at (c ∷ l) r (suc k) h =
    let e : 5 * suc k ≡ 5 + 5 * k = omega arith in
    rw e (ap Some (get_or-append-add (type_byte c.type ∷ bytes4 (unsigned32 c.initial)) (cell_bytes l ++ r) (5 * k) 0) ∙ cells_at l r k (omega arith))

cells_length : (l : List Cell) → length (cell_bytes l) ≡ 5 * length l
unfolding cell_bytes
cells_length [] = refl
cells_length (c ∷ l) = let e = cells_length l in omega arith

type_bytes_length : (l : List Ty) → length (type_bytes l) ≡ length l
unfolding type_bytes
type_bytes_length [] = refl
type_bytes_length (t ∷ l) = ap suc (type_bytes_length l)

types_length : (l : List Cell) → length (types l) ≡ length l
types_length [] = refl
types_length (c ∷ l) = ap suc (types_length l)

-- what a signature's bytes have at a place
at_input : (σ : Signature) (k : ℕ) → k < length σ.inputs → Some (get_or (signature_bytes σ) (3 + k) 0) ≡ tag_at σ.inputs k
unfolding signature_bytes
at_input σ k h =
    ap Some (get_or-append-add (length σ.inputs ∷ length σ.outputs ∷ length σ.variables ∷ [])
    (type_bytes σ.inputs ++ (cell_bytes σ.outputs ++ cell_bytes σ.variables)) k 0)
    ∙ types_at σ.inputs (cell_bytes σ.outputs ++ cell_bytes σ.variables) k h

at_cells : (σ : Signature) (k : ℕ) → get_or (signature_bytes σ) (3 + length σ.inputs + k) 0 ≡ get_or (cell_bytes σ.outputs ++ cell_bytes σ.variables) k 0
unfolding signature_bytes
at_cells σ k =
    let e : 3 + length σ.inputs + k ≡ 3 + (length σ.inputs + k) = omega arith in
    let m : length σ.inputs + k ≡ length (type_bytes σ.inputs) + k = omega (arith, type_bytes_length σ.inputs) in
    ap (λ z. get_or (signature_bytes σ) z 0) e
    ∙ get_or-append-add (length σ.inputs ∷ length σ.outputs ∷ length σ.variables ∷ [])
    (type_bytes σ.inputs ++ (cell_bytes σ.outputs ++ cell_bytes σ.variables)) (length σ.inputs + k) 0
    ∙ ap (λ z. get_or (type_bytes σ.inputs ++ (cell_bytes σ.outputs ++ cell_bytes σ.variables)) z 0) m
    ∙ get_or-append-add (type_bytes σ.inputs) (cell_bytes σ.outputs ++ cell_bytes σ.variables) k 0

at_output : (σ : Signature) (k : ℕ) → k < length σ.outputs → Some (get_or (signature_bytes σ) (3 + length σ.inputs + 5 * k) 0) ≡ tag_at (types σ.outputs) k
at_output σ k h = ap Some (at_cells σ (5 * k)) ∙ cells_at σ.outputs (cell_bytes σ.variables) k h

at_variable : (σ : Signature) (k : ℕ) → k < length σ.variables
    → Some (get_or (signature_bytes σ) (3 + length σ.inputs + 5 * length σ.outputs + 5 * k) 0) ≡ tag_at (types σ.variables) k
at_variable σ k h =
    let e : 3 + length σ.inputs + 5 * length σ.outputs + 5 * k ≡ 3 + length σ.inputs + (length (cell_bytes σ.outputs) + 5 * k) =
    omega (arith, cells_length σ.outputs) in
    ap Some (ap (λ z. get_or (signature_bytes σ) z 0) e ∙ at_cells σ (length (cell_bytes σ.outputs) + 5 * k)
    ∙ get_or-append-add (cell_bytes σ.outputs) (cell_bytes σ.variables) (5 * k) 0
    ∙ ap (λ z. get_or z (5 * k) 0) (sym (append-nil (cell_bytes σ.variables)))) ∙ cells_at σ.variables [] k h

-- A section that is a signature's, by its signature.
record Found (s : List ℕ) : Type 0 where
  σ : Signature
  same : signature_at s ≡ σ
  bytes : s ≡ signature_bytes σ

found : (s : List ℕ) → ((i : ℕ) → Fits w8 (get_or s i 0)) → is_some (signature_of s) ≡ true → Found s
unfolding signature_at
found s f h = go (signature_of s) refl h
  where
    go : (o : Option Signature) → signature_of s ≡ o → is_some o ≡ true → Found s
    go none e q = false_true q
    go (some σ) e q = record { σ = σ; same = unfold signature_at in ap or_empty e; bytes = ((signature_exactly s σ (all_bytes s f)).0 e).0 }

-- The counts and the types by the section's bytes, as the code reads them.
module _ (s : List ℕ) (f : (i : ℕ) → Fits w8 (get_or s i 0)) (h : is_some (signature_of s) ≡ true) where
  counts : (get_or s 0 0 ≡ length (input_types s)) × (get_or s 1 0 ≡ length (output_types s)) × (get_or s 2 0 ≡ length (variable_types s))
  unfolding signature_bytes
  counts =
      let z = found s f h in (
        ap (λ l. get_or l 0 0) z.bytes ∙ sym (ap (λ (x : Signature). length x.inputs) z.same),
        ap (λ l. get_or l 1 0) z.bytes ∙ sym (types_length z.σ.outputs) ∙ sym (ap (λ (x : Signature). length (types x.outputs)) z.same),
        ap (λ l. get_or l 2 0) z.bytes ∙ sym (types_length z.σ.variables) ∙ sym (ap (λ (x : Signature). length (types x.variables)) z.same),
      )

  pub input_there : {i k : ℕ} → i ≡ get_or s 0 0 → k < i → Some (get_or s (3 + k) 0) ≡ tag_at (input_types s) k
  input_there {i} {k} e l =
      let z = found s f h in
      let b : k < length z.σ.inputs = omega (arith, counts.0, ap (λ (x : Signature). length x.inputs) z.same) in
      ap (λ x. Some (get_or x (3 + k) 0)) z.bytes ∙ at_input z.σ k b ∙ sym (ap (λ (x : Signature). tag_at x.inputs k) z.same)

  pub input_past : {i k : ℕ} → i ≡ get_or s 0 0 → i ≤ k → None ≡ tag_at (input_types s) k
  input_past {i} {k} e l = types_past (input_types s) k (omega (arith, counts.0))

  pub output_there : {i o k : ℕ} → i ≡ get_or s 0 0 → o ≡ get_or s 1 0 → k < o → Some (get_or s (3 + i + 5 * k) 0) ≡ tag_at (output_types s) k
  output_there {i} {o} {k} ei eo l =
      let z = found s f h in
      let n : i ≡ length z.σ.inputs = omega (arith, counts.0, ap (λ (x : Signature). length x.inputs) z.same) in
      let m : o ≡ length z.σ.outputs = omega (arith, counts.1, ap (λ (x : Signature). length (types x.outputs)) z.same, types_length z.σ.outputs)
      in
      rw n (ap (λ x. Some (get_or x (3 + length z.σ.inputs + 5 * k) 0)) z.bytes ∙ at_output z.σ k (omega arith)
      ∙ sym (ap (λ (x : Signature). tag_at (types x.outputs) k) z.same))

  pub output_past : {o k : ℕ} → o ≡ get_or s 1 0 → o ≤ k → None ≡ tag_at (output_types s) k
  output_past {o} {k} e l = types_past (output_types s) k (omega (arith, counts.1))

  pub variable_there : {i o v k : ℕ} → i ≡ get_or s 0 0 → o ≡ get_or s 1 0 → v ≡ get_or s 2 0 → k < v → Some (get_or s (3 + i + 5 * o + 5 * k) 0) ≡ tag_at (variable_types s) k
  variable_there {i} {o} {v} {k} ei eo ev l =
      let z = found s f h in
      let n : i ≡ length z.σ.inputs = omega (arith, counts.0, ap (λ (x : Signature). length x.inputs) z.same) in
      let m : o ≡ length z.σ.outputs = omega (arith, counts.1, ap (λ (x : Signature). length (types x.outputs)) z.same, types_length z.σ.outputs)
      in
      let q : v ≡ length z.σ.variables =
      omega (arith, counts.2, ap (λ (x : Signature). length (types x.variables)) z.same, types_length z.σ.variables) in
      rw (n, m) (ap (λ x. Some (get_or x (3 + length z.σ.inputs + 5 * length z.σ.outputs + 5 * k) 0)) z.bytes ∙ at_variable z.σ k (omega arith)
      ∙ sym (ap (λ (x : Signature). tag_at (types x.variables) k) z.same))

  pub variable_past : {v k : ℕ} → v ≡ get_or s 2 0 → v ≤ k → None ≡ tag_at (variable_types s) k
  variable_past {v} {k} e l = types_past (variable_types s) k (omega (arith, counts.2))
