-- The signature by position: from the equation that the section's bytes are read as a signature, each count, type byte and initial value stands
-- where document 01 has it. By induction on what is read, one law for outputs and variables. Assumes nothing.
use Prim.Native.Nat.{ℕ, zero, suc, ◌+◌, ◌*◌, ◌≤◌}
use native.Mathlib.Omega.{arith}
use mathlib.Core.Path.{◌≡◌, refl, sym, ap, ◌∙◌}
use mathlib.Core.Bool.{◌&&◌}
use mathlib.Core.Option.{some}
use mathlib.Core.List.{List, [], ◌∷◌, ◌++◌}
use lib.ListN.{length, get_or, drop}
use lib.Seq.{get_or-drop, drop-drop}
use lib.IntN.{ℤ}
use lib.Dec.{leb, eqb}
use borrow.Author.Tests.{leb-true}
use Rattle.spec_design.specs.Types.{Ty, std_logic, integer, in_type, type_byte, type_of_byte}
use Rattle.spec_design.specs.Expression.{nth}
use Rattle.spec_semantics.specs.Rows.{wrong_value}
use Rattle.spec_semantics.proofs.Basic.{none_some, some_injective, eqb-true, and_left, and_right, cond_case}
use Rattle.spec_format.specs.Words.{word4, word4_at}
use Rattle.spec_semantics.specs.Twos.{signed32}
use Rattle.spec_format.specs.Signature.{Cell, Signature, types, initials, type_bytes, read_types, read_cell, read_cells, at_end, signature_of}
use Rattle.spec_semantics.specs.Records.{slots_ok}
use Rattle.spec_format.proofs.Basic.{and_then_some, only_if_some}
use Rattle.base_signed.specs.Signed.{in_type_byte, in_some}
use Rattle.image_checks.specs.Places.{outputs_at, variables_at, wrong_from, slots_at, initials_at, type_bytes_at}

-- the type bytes of inputs, the first having the index k, are those of these types
unfoldable pub TypesAt : List ℕ → ℕ → List Ty → Type 0
TypesAt s k [] = Unit {0}
TypesAt s k (t ∷ ts) = (type_of_byte (get_or s (3 + k) 0) ≡ some t) × TypesAt s (suc k) ts

-- the outputs or variables that begin at p are these cells
unfoldable pub CellsAt : List ℕ → ℕ → List Cell → Type 0
CellsAt s p [] = Unit {0}
CellsAt s p (c ∷ l) = (type_of_byte (get_or s p 0) ≡ some c.type) × (signed32 (word4_at s (p + 1)) ≡ c.initial) × CellsAt s (p + 5) l

-- where everything of a signature stands in its section
pub record Placed (s : List ℕ) (σ : Signature) : Type 0 where
  pub inputs_count : get_or s 0 0 ≡ length σ.inputs
  pub outputs_count : get_or s 1 0 ≡ length σ.outputs
  pub variables_count : get_or s 2 0 ≡ length σ.variables
  pub long : 3 ≤ length s
  pub few_inputs : length σ.inputs ≤ 16
  pub few_outputs : length σ.outputs ≤ 16
  pub few_variables : length σ.variables ≤ 32
  pub inputs : TypesAt s 0 σ.inputs
  pub input_bytes : (rest : List ℕ) × (drop 3 s ≡ type_bytes σ.inputs ++ rest)
  pub outputs : CellsAt s (outputs_at s) σ.outputs
  pub variables : CellsAt s (variables_at s) σ.variables

-- the first byte of what begins at p
pub here : (s : List ℕ) (p : ℕ) → get_or (drop p s) 0 0 ≡ get_or s p 0
here s p = get_or-drop p s 0 0 ∙ ap (λ k. get_or s k 0) (omega arith)

-- a type byte is the byte of its type
byte_type : (k : ℕ) (t : Ty) → type_of_byte k ≡ some t → k ≡ type_byte t
byte_type k t e =
    cond_case (eqb k 0) e (λ q m. eqb-true k 0 q ∙ ap type_byte (some_injective std_logic t m)) (λ q m.
    cond_case (eqb k 1) m (λ q m. eqb-true k 1 q ∙ ap type_byte (some_injective integer t m)) (λ q m. none_some t m))

types_cons : (q : List ℕ) (n : ℕ) (p : List Ty × List ℕ) → read_types (suc n) q ≡ some p
    → (t : Ty) × (r : List Ty × List ℕ) × (type_of_byte (get_or q 0 0) ≡ some t) × (read_types n (drop 1 q) ≡ some r)
    × (◌≡◌ {A = List Ty × List ℕ} (t ∷ r.0, r.1) p)
    × (q ≡ get_or q 0 0 ∷ drop 1 q)
unfolding read_types
types_cons [] n p e = none_some p e
types_cons (k ∷ q) n p e =
    let t = and_then_some (type_of_byte k) _ p e in
    let r = and_then_some (read_types n q) _ p t.2 in
    (t.0, r.0, t.1, r.1, some_injective _ p r.2, refl)

record TypesRead (s : List ℕ) (k n : ℕ) (p : List Ty × List ℕ) : Type 0 where
  placed : TypesAt s k p.0
  bytes : drop (3 + k) s ≡ type_bytes p.0 ++ p.1
  count : length p.0 ≡ n
  rest : p.1 ≡ drop (3 + (k + n)) s

types_placed : (n : ℕ) (s : List ℕ) (k : ℕ) (p : List Ty × List ℕ) → read_types n (drop (3 + k) s) ≡ some p → TypesRead s k n p
unfolding read_types type_bytes TypesAt
types_placed zero s k p e =
    let z : 3 + k ≡ 3 + (k + 0) = omega arith in
    rw (← some_injective _ p e) (record { placed = tt; bytes = refl; count = refl; rest = ap (λ m. drop m s) z })
types_placed (suc n) s k p e =
    let c = types_cons (drop (3 + k) s) n p e in
    let y : 3 + k + 1 ≡ 3 + suc k = omega arith in
    let z : 3 + (suc k + n) ≡ 3 + (k + suc n) = omega arith in
    let d : drop 1 (drop (3 + k) s) ≡ drop (3 + suc k) s = drop-drop 1 (3 + k) s ∙ ap (λ m. drop m s) y in
    let r = types_placed n s (suc k) c.1 (ap (read_types n) (sym d) ∙ c.3) in
    rw (← c.4)
    (record {
      placed = (ap type_of_byte (sym (here s (3 + k))) ∙ c.2, r.placed);
      bytes = c.5 ∙ ap (λ b. b ∷ drop 1 (drop (3 + k) s)) (byte_type (get_or (drop (3 + k) s) 0 0) c.0 c.2) ∙ ap (λ q. type_byte c.0 ∷ q) (d ∙ r.bytes);
      count = ap suc r.count;
      rest = r.rest ∙ ap (λ m. drop m s) z;
    })

-- Cells.

cell_cons : (q : List ℕ) (p : Cell × List ℕ) → read_cell q ≡ some p
    → (type_of_byte (get_or q 0 0) ≡ some p.0.type) × (signed32 (word4_at q 1) ≡ p.0.initial) × (p.1 ≡ drop 5 q)
cell_cons [] p e = none_some p e
cell_cons (k ∷ []) p e = none_some p e
cell_cons (k ∷ a ∷ []) p e = none_some p e
cell_cons (k ∷ a ∷ b ∷ []) p e = none_some p e
cell_cons (k ∷ a ∷ b ∷ c ∷ []) p e = none_some p e
cell_cons (k ∷ a ∷ b ∷ c ∷ d ∷ s) p e =
    let t = and_then_some (type_of_byte k) _ p e in
    let g = only_if_some (in_type t.0 (signed32 (word4 a b c d))) p t.2 in
    rw (← some_injective _ p g.1) (t.1, refl, refl)

word_here : (s : List ℕ) (p : ℕ) → word4_at (drop p s) 1 ≡ word4_at s (p + 1)
word_here s p =
    let a : p + 1 + 1 ≡ p + 2 = omega arith in
    let b : p + 1 + 2 ≡ p + 3 = omega arith in
    let c : p + 1 + 3 ≡ p + 4 = omega arith in
    rw (a, b, c, get_or-drop p s 1 0, get_or-drop p s 2 0, get_or-drop p s 3 0, get_or-drop p s 4 0)

record CellsRead (s : List ℕ) (at n : ℕ) (p : List Cell × List ℕ) : Type 0 where
  placed : CellsAt s at p.0
  count : length p.0 ≡ n
  rest : p.1 ≡ drop (at + 5 * n) s

cells_placed : (n : ℕ) (s : List ℕ) (at : ℕ) (p : List Cell × List ℕ) → read_cells n (drop at s) ≡ some p → CellsRead s at n p
unfolding read_cells CellsAt
cells_placed zero s at p e =
    let z : at ≡ at + 5 * 0 = omega arith in
    rw (← some_injective _ p e) (record { placed = tt; count = refl; rest = ap (λ m. drop m s) z })
cells_placed (suc n) s at p e =
    let q = and_then_some (read_cell (drop at s)) _ p e in
    let h = cell_cons (drop at s) q.0 q.1 in
    let m = and_then_some (read_cells n q.0.1) _ p q.2 in
    let z : at + 5 + 5 * n ≡ at + 5 * suc n = omega arith in
    let r = cells_placed n s (at + 5) m.0 (ap (read_cells n) (sym (h.2 ∙ drop-drop 5 at s)) ∙ m.1) in
    rw (← some_injective _ p m.2)
    (record {
      placed = (ap type_of_byte (sym (here s at)) ∙ h.0, ap signed32 (sym (word_here s at)) ∙ h.1, r.placed);
      count = ap suc r.count;
      rest = r.rest ∙ ap (λ m. drop m s) z;
    })

-- The signature.

end_some : {X : Type 0} (s : List ℕ) (x y : X) → at_end s x ≡ some y → x ≡ y
end_some [] x y e = some_injective x y e
end_some (k ∷ s) x y e = none_some y e

-- A section that is read as a signature holds it by position.
pub signature_placed : (s : List ℕ) (σ : Signature) → signature_of s ≡ some σ → Placed s σ
unfolding signature_of
signature_placed [] σ e = none_some σ e
signature_placed (i ∷ []) σ e = none_some σ e
signature_placed (i ∷ o ∷ []) σ e = none_some σ e
signature_placed (i ∷ o ∷ v ∷ r) σ e =
    let s : List ℕ = i ∷ o ∷ v ∷ r in
    let l = only_if_some (leb i 16 && (leb o 16 && leb v 32)) σ e in
    let a = and_then_some (read_types i r) _ σ l.1 in
    let b = and_then_some (read_cells o a.0.1) _ σ a.2 in
    let d = and_then_some (read_cells v b.0.1) _ σ b.2 in
    let x = types_placed i s 0 a.0 a.1 in
    let px : 3 + (0 + i) ≡ 3 + i = omega arith in
    let y = cells_placed o s (3 + i) b.0 (ap (read_cells o) (sym (x.rest ∙ ap (λ m. drop m s) px)) ∙ b.1) in
    let z = cells_placed v s (3 + i + 5 * o) d.0 (ap (read_cells v) (sym y.rest) ∙ d.1) in
    rw (← end_some d.0.1 _ σ d.2)
    (record {
      inputs_count = sym x.count;
      outputs_count = sym y.count;
      variables_count = sym z.count;
      long = omega arith;
      few_inputs = omega (arith, x.count, leb-true i 16 (and_left (leb i 16) _ l.0));
      few_outputs = omega (arith, y.count, leb-true o 16 (and_left (leb o 16) _ (and_right (leb i 16) _ l.0)));
      few_variables = omega (arith, z.count, leb-true v 32 (and_right (leb o 16) _ (and_right (leb i 16) _ l.0)));
      inputs = x.placed;
      input_bytes = (a.0.1, x.bytes);
      outputs = y.placed;
      variables = z.placed;
    })

-- Input values, slots and initial values of types and cells that stand in the section.

in_type_byte_lem : (k : ℕ) (t : Ty) (z : ℤ) → type_of_byte k ≡ some t → in_type_byte k z ≡ in_type t z
in_type_byte_lem k t z e = ap (λ o. in_some o z) e

pub wrong_values : (s : List ℕ) (k : ℕ) (ts : List Ty) (l : List ℤ) → TypesAt s k ts → length l ≡ length ts → wrong_from s k l ≡ wrong_value ts l k
unfolding TypesAt wrong_from wrong_value
wrong_values s k [] [] h e = refl
wrong_values s k [] (z ∷ l) h e = absurd (omega arith)
wrong_values s k (t ∷ ts) [] h e = refl
wrong_values s k (t ∷ ts) (z ∷ l) h e = rw (in_type_byte_lem (get_or s (3 + k) 0) t z h.0, wrong_values s (suc k) ts l h.1 (omega arith))

pub slots_of_cells : (s : List ℕ) (p : ℕ) (cs : List Cell) (l : List ℤ) → CellsAt s p cs → slots_at s p (length cs) l ≡ slots_ok (types cs) l
unfolding CellsAt slots_at slots_ok
slots_of_cells s p [] l h = refl
slots_of_cells s p (c ∷ cs) [] h = refl
slots_of_cells s p (c ∷ cs) (z ∷ l) h = rw (in_type_byte_lem (get_or s p 0) c.type z h.0, slots_of_cells s (p + 5) cs l h.2)

pub initials_of_cells : (s : List ℕ) (p : ℕ) (cs : List Cell) → CellsAt s p cs → initials_at s p (length cs) ≡ initials cs
unfolding CellsAt initials_at
initials_of_cells s p [] h = refl
initials_of_cells s p (c ∷ cs) h = rw (h.1, initials_of_cells s (p + 5) cs h.2)

-- Input k, and cell k of the outputs or of the variables.

pub type_at_lem : (s : List ℕ) (j : ℕ) (ts : List Ty) (k : ℕ) (t : Ty) → TypesAt s j ts → nth ts k ≡ some t → type_of_byte (get_or s (3 + (j + k)) 0) ≡ some t
unfolding TypesAt nth
type_at_lem s j [] k t h e = none_some t e
type_at_lem s j (u ∷ ts) zero t h e = let z : 3 + (j + 0) ≡ 3 + j = omega arith in rw z (h.0 ∙ e)
type_at_lem s j (u ∷ ts) (suc k) t h e = let z : 3 + (j + suc k) ≡ 3 + (suc j + k) = omega arith in rw z (type_at_lem s (suc j) ts k t h.1 e)

pub cell_at : (s : List ℕ) (p : ℕ) (cs : List Cell) (k : ℕ) (c : Cell) → CellsAt s p cs → nth cs k ≡ some c
    → (type_of_byte (get_or s (p + 5 * k) 0) ≡ some c.type) × (signed32 (word4_at s (p + 5 * k + 1)) ≡ c.initial)
unfolding CellsAt nth
cell_at s p [] k c h e = none_some c e
cell_at s p (d ∷ cs) zero c h e = let z : p + 5 * 0 ≡ p = omega arith in rw (z, ← some_injective d c e) (h.0, h.1)
cell_at s p (d ∷ cs) (suc k) c h e = let z : p + 5 * suc k ≡ p + 5 + 5 * k = omega arith in rw z (cell_at s (p + 5) cs k c h.2 e)

pub types_of_cells : (s : List ℕ) (p : ℕ) (cs : List Cell) → CellsAt s p cs → type_bytes_at s p (length cs) ≡ type_bytes (types cs)
unfolding CellsAt type_bytes_at type_bytes
types_of_cells s p [] h = refl
types_of_cells s p (c ∷ cs) h = rw (byte_type (get_or s p 0) c.type h.0, types_of_cells s (p + 5) cs h.2)

pub type_bytes_length : (ts : List Ty) → length (type_bytes ts) ≡ length ts
unfolding type_bytes
type_bytes_length [] = refl
type_bytes_length (t ∷ ts) = ap suc (type_bytes_length ts)
