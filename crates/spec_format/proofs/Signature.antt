-- A good signature is read back from its bytes, and bytes that are read are those of the signature, which is good: by induction on the lists.
-- Assumes nothing.
use Prim.Native.Nat.{ℕ, zero, suc, ◌≤◌}
use native.Mathlib.Omega.{arith}
use mathlib.Core.Path.{◌≡◌, refl, sym, ap, ◌∙◌}
use mathlib.Core.Logic.{◌↔◌}
use mathlib.Core.Bool.{true, ◌&&◌}
use mathlib.Core.Option.{some, bind}
use mathlib.Core.List.{List, [], ◌∷◌, ◌++◌, append-nil}
use lib.ListN.{length}
use lib.Dec.{leb, eqb}
use borrow.Author.Tests.{leb-true, le-leb}
use Rattle.spec_design.specs.Types.{Ty, std_logic, integer, in_type, type_byte, type_of_byte}
use Rattle.spec_semantics.proofs.Basic.{none_some, some_injective, eqb-true, and_left, and_right, cond_case}
use Rattle.spec_format.specs.Words.{Bytes, word4, bytes4}
use Rattle.spec_semantics.specs.Twos.{signed32, unsigned32}
use Rattle.spec_format.specs.Signature.{Cell, Signature, type_bytes, cell_bytes, signature_bytes, Initialised, GoodSignature, read_types, read_cell, read_cells}
use Rattle.spec_format.specs.Signature.{at_end, signature_of}
use Rattle.spec_format.proofs.Words.{integer_bytes, bytes_integer, type_range}
use Rattle.spec_format.proofs.Basic.{and_then_some, only_if_some}

types_read : (l : List Ty) (s : List ℕ) → read_types (length l) (type_bytes l ++ s) ≡ some (l, s)
unfolding read_types type_bytes bind
types_read [] s = refl
types_read (std_logic ∷ l) s = rw (types_read l s)
types_read (integer ∷ l) s = rw (types_read l s)

type_byte_lem : (t : Ty) → type_of_byte (type_byte t) ≡ some t
type_byte_lem std_logic = refl
type_byte_lem integer = refl

cells_read : (l : List Cell) (s : List ℕ) → Initialised l → read_cells (length l) (cell_bytes l ++ s) ≡ some (l, s)
unfolding read_cells cell_bytes bind Initialised
cells_read [] s g = refl
cells_read (c ∷ l) s g = rw (type_byte_lem c.type, integer_bytes c.initial (type_range c.type c.initial g.0), g.0, cells_read l s g.1)

-- A good signature is read back.
pub signature_read : (σ : Signature) → GoodSignature σ → signature_of (signature_bytes σ) ≡ some σ
unfolding signature_of signature_bytes bind
signature_read σ g =
    rw (
      le-leb (length σ.inputs) 16 g.inputs,
      le-leb (length σ.outputs) 16 g.outputs,
      le-leb (length σ.variables) 32 g.variables,
      types_read σ.inputs (cell_bytes σ.outputs ++ cell_bytes σ.variables),
      cells_read σ.outputs (cell_bytes σ.variables) g.initial_outputs,
      ← append-nil (cell_bytes σ.variables),
      cells_read σ.variables [] g.initial_variables,
    )

pub cons_cong : {k k' : ℕ} {s s' : List ℕ} → k ≡ k' → s ≡ s' → k ∷ s ≡ k' ∷ s'
cons_cong e e' = cc

byte_type : (k : ℕ) (t : Ty) → type_of_byte k ≡ some t → k ≡ type_byte t
byte_type k t e =
    cond_case (eqb k 0) e (λ q m. eqb-true k 0 q ∙ ap type_byte (some_injective std_logic t m))
    (λ q m. cond_case (eqb k 1) m (λ q' m'. eqb-true k 1 q' ∙ ap type_byte (some_injective integer t m')) (λ q' m'. none_some t m'))

record TypesBack (n : ℕ) (s : List ℕ) (l : List Ty) (r : List ℕ) : Type 0 where
  same : s ≡ type_bytes l ++ r
  size : length l ≡ n
  bytes : Bytes r

types_back : (n : ℕ) (s : List ℕ) (p : List Ty × List ℕ) → Bytes s → read_types n s ≡ some p → TypesBack n s p.0 p.1
unfolding read_types type_bytes Bytes
types_back zero s p h e = rw (← some_injective _ p e) (record { same = refl; size = refl; bytes = h })
types_back (suc n) [] p h e = none_some p e
types_back (suc n) (k ∷ s) p h e =
    let t = and_then_some (type_of_byte k) _ p e in
    let q = and_then_some (read_types n s) _ p t.2 in
    let r = types_back n s q.0 h.1 q.1 in
    rw (← some_injective _ p q.2) (record { same = cons_cong (byte_type k t.0 t.1) r.same; size = ap suc r.size; bytes = r.bytes })

record CellBack (s : List ℕ) (c : Cell) (r : List ℕ) : Type 0 where
  same : s ≡ type_byte c.type ∷ (bytes4 (unsigned32 c.initial) ++ r)
  initialised : in_type c.type c.initial ≡ true
  bytes : Bytes r

cell_back : (s : List ℕ) (p : Cell × List ℕ) → Bytes s → read_cell s ≡ some p → CellBack s p.0 p.1
unfolding Bytes
cell_back [] p h e = none_some p e
cell_back (k ∷ []) p h e = none_some p e
cell_back (k ∷ a ∷ []) p h e = none_some p e
cell_back (k ∷ a ∷ b ∷ []) p h e = none_some p e
cell_back (k ∷ a ∷ b ∷ c ∷ []) p h e = none_some p e
cell_back (k ∷ a ∷ b ∷ c ∷ d ∷ s) p h e =
    let t = and_then_some (type_of_byte k) _ p e in
    let g = only_if_some (in_type t.0 (signed32 (word4 a b c d))) p t.2 in
    rw (← some_injective _ p g.1)
    (record {
      same = cons_cong (byte_type k t.0 t.1) (ap (λ l. l ++ s) (sym (bytes_integer a b c d h.1.0 h.1.1.0 h.1.1.1.0 h.1.1.1.1.0)));
      initialised = g.0;
      bytes = h.1.1.1.1.1;
    })

record CellsBack (n : ℕ) (s : List ℕ) (l : List Cell) (r : List ℕ) : Type 0 where
  same : s ≡ cell_bytes l ++ r
  size : length l ≡ n
  initialised : Initialised l
  bytes : Bytes r

cells_back : (n : ℕ) (s : List ℕ) (p : List Cell × List ℕ) → Bytes s → read_cells n s ≡ some p → CellsBack n s p.0 p.1
unfolding read_cells cell_bytes Initialised
cells_back zero s p h e = rw (← some_injective _ p e) (record { same = refl; size = refl; initialised = tt; bytes = h })
cells_back (suc n) s p h e =
    let t = and_then_some (read_cell s) _ p e in
    let x = cell_back s t.0 h t.1 in
    let q = and_then_some (read_cells n t.0.1) _ p t.2 in
    let r = cells_back n t.0.1 q.0 x.bytes q.1 in
    rw (← some_injective _ p q.2)
    (record {
      same = x.same ∙ ap (λ z. type_byte t.0.0.type ∷ (bytes4 (unsigned32 t.0.0.initial) ++ z)) r.same;
      size = ap suc r.size;
      initialised = (x.initialised, r.initialised);
      bytes = r.bytes;
    })

end_some : {X : Type 0} (s : List ℕ) (x y : X) → at_end s x ≡ some y → (s ≡ []) × (x ≡ y)
end_some [] x y e = (refl, some_injective x y e)
end_some (k ∷ s) x y e = none_some y e

signature_parts : (i o v : ℕ) (s r q t : List ℕ) (ts : List Ty) (cs ds : List Cell) → TypesBack i s ts r → CellsBack o r cs q → CellsBack v q ds t → t ≡ []
    → i ≤ 16 → o ≤ 16 → v ≤ 32
    → (i ∷ o ∷ v ∷ s ≡ signature_bytes (record { inputs = ts; outputs = cs; variables = ds }))
    × GoodSignature (record { inputs = ts; outputs = cs; variables = ds })
unfolding signature_bytes
signature_parts i o v s r q t ts cs ds a b c z li lo lv = (
  cons_cong (sym a.size) (cons_cong (sym b.size) (cons_cong (sym c.size)
      (a.same ∙ ap (λ y. type_bytes ts ++ y) (b.same ∙ ap (λ y. cell_bytes cs ++ y) (c.same ∙ ap (λ y. cell_bytes ds ++ y) z ∙ append-nil (cell_bytes ds)))))),
  record {
    inputs = omega (arith, a.size);
    outputs = omega (arith, b.size);
    variables = omega (arith, c.size);
    initial_outputs = b.initialised;
    initial_variables = c.initialised;
  },
)

signature_back : (s : List ℕ) (σ : Signature) → Bytes s → signature_of s ≡ some σ → (s ≡ signature_bytes σ) × GoodSignature σ
unfolding signature_of Bytes
signature_back [] σ h e = none_some σ e
signature_back (i ∷ []) σ h e = none_some σ e
signature_back (i ∷ o ∷ []) σ h e = none_some σ e
signature_back (i ∷ o ∷ v ∷ s) σ h e =
    let g = only_if_some (leb i 16 && (leb o 16 && leb v 32)) σ e in
    let p = and_then_some (read_types i s) _ σ g.1 in
    let a = types_back i s p.0 h.1.1.1 p.1 in
    let q = and_then_some (read_cells o p.0.1) _ σ p.2 in
    let b = cells_back o p.0.1 q.0 a.bytes q.1 in
    let r = and_then_some (read_cells v q.0.1) _ σ q.2 in
    let z = end_some r.0.1 _ σ r.2 in
    rw (← z.1)
    (signature_parts i o v s p.0.1 q.0.1 r.0.1 p.0.0 q.0.0 r.0.0 a b (cells_back v q.0.1 r.0 b.bytes r.1) z.0
    (leb-true i 16 (and_left (leb i 16) _ g.0)) (leb-true o 16 (and_left (leb o 16) _ (and_right (leb i 16) _ g.0)))
    (leb-true v 32 (and_right (leb o 16) _ (and_right (leb i 16) _ g.0))))

-- 12 exactly when the bytes are those of no good signature.
pub signature_exactly : (s : List ℕ) (σ : Signature) → Bytes s → (signature_of s ≡ some σ) ↔ ((s ≡ signature_bytes σ) × GoodSignature σ)
signature_exactly s σ h = (signature_back s σ h, λ p. ap signature_of p.0 ∙ signature_read σ p.1)
