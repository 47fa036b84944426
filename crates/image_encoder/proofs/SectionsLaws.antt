-- The loops that store sections: the rest from here stores what the whole loop stores. Assumes nothing.
use Prim.Native.Nat.{ℕ, zero, suc, ◌+◌, ◌-◌, ◌*◌, ◌≤◌, ◌<◌}
use native.Mathlib.Omega.{arith}
use mathlib.Core.Path.{◌≡◌, refl, sym, ap, ◌∙◌}
use mathlib.Core.List.{List, [], ◌∷◌, ◌++◌}
use lib.ListN.{take, drop, length, get_or}
use lib.Seq.{sets, drop-cons}
use lib.IntN.{ℤ, pos}
use Rattle.spec_format.specs.Words.{bytes4}
use Rattle.spec_semantics.specs.Twos.{unsigned32}
use Rattle.spec_format.specs.Image.{raw_bytes, raws_bytes}
use Rattle.base_ir.specs.declared.Declared.{Declared}
use Rattle.base_ir.specs.Arrays.{row_in}
use Rattle.image_flow.specs.declared.followers.Links.{Links}
use Rattle.base_codes.specs.Operation.{width_of}
use Rattle.image_encoder.specs.Emitted.{op_bytes, code_from, width_from, run_width, line_at, lines_from, types_from, cells_from, slots_from}
use Rattle.image_encoder.specs.Emitted.{signature_from}
use Rattle.image_flow.proofs.Sets.{sets_append}
use Rattle.image_encoder.proofs.EmittedLaws.{put_after, width_op}

-- one part more stored, the rest is left
again : (l m : List ℕ) (p p' : ℕ) (g f : List ℕ) → m ≡ sets l p g → p' ≡ p + length g → sets m p' f ≡ sets l p (g ++ f)
again l m p p' g f e h = ap (λ (k : ℕ). sets m k f) h ∙ ap (λ (w : List ℕ). sets w (p + length g) f) e ∙ sym (sets_append l p g f)

-- n type bytes

types_taken : (types : List ℕ) (k n : ℕ) → k + n ≤ length types → take n (drop k types) ≡ types_from types k n
unfolding types_from
types_taken types k zero h = refl
types_taken types k (suc n) h =
    let l : k < length types = omega arith in
    let y : k + 1 ≡ suc k = omega arith in
    rw (drop-cons types k 0) (ap (λ (r : List ℕ). get_or types k 0 ∷ r) ((rw y at (types_taken types (k + 1) n (omega arith))) ∙ ap (λ (i : ℕ). types_from types i n) (sym y)))

pub types_first : (types : List ℕ) (n : ℕ) → n ≤ length types → take n types ≡ types_from types 0 n
types_first types n h = types_taken types 0 n (omega arith)

-- n types with values

pub cells_again : (types : List ℕ) (values : List ℤ) (l : List ℕ) {m r : List ℕ} (at k n : ℕ) → k < n
    → m ≡ sets l (at + 5 * k) (get_or types k 0 ∷ bytes4 (unsigned32 (get_or values k (pos 0))))
    → sets l (at + 5 * k) (cells_from types values k (n - k)) ≡ r → sets m (at + 5 * (k + 1)) (cells_from types values (k + 1) (n - (k + 1))) ≡ r
unfolding cells_from
cells_again types values l {m} at k n h g e =
    let z : n - k ≡ suc (n - (k + 1)) = omega arith in
    again l m (at + 5 * k) (at + 5 * (k + 1)) (get_or types k 0 ∷ bytes4 (unsigned32 (get_or values k (pos 0))))
    (cells_from types values (k + 1) (n - (k + 1))) g (omega arith) ∙ (rw z at e)

pub cells_done : (types : List ℕ) (values : List ℤ) (l : List ℕ) {r : List ℕ} (at k n : ℕ) → n ≤ k
    → sets l (at + 5 * k) (cells_from types values k (n - k)) ≡ r → l ≡ r
unfolding cells_from
cells_done types values l at k n h e = let z : n - k ≡ 0 = omega arith in rw z at e

-- the code of n operations

pub code_again : (codes : List ℕ) (args : List ℤ) (l : List ℕ) {m r : List ℕ} (p i n : ℕ) {w : ℕ} → i < n
    → m ≡ sets l p (op_bytes (get_or codes i 0) (get_or args i (pos 0))) → w ≡ width_of (get_or codes i 0)
    → sets l p (code_from codes args i (n - i)) ≡ r → sets m (p + w) (code_from codes args (i + 1) (n - (i + 1))) ≡ r
unfolding code_from
code_again codes args l {m} p i n {w} h g f e =
    let y : n - i ≡ suc (n - (i + 1)) = omega arith in
    again l m p (p + w) (op_bytes (get_or codes i 0) (get_or args i (pos 0))) (code_from codes args (i + 1) (n - (i + 1))) g
    (ap (λ (q : ℕ). p + q) (f ∙ width_op (get_or codes i 0) (get_or args i (pos 0)))) ∙ (rw y at e)

pub code_done : (codes : List ℕ) (args : List ℤ) (l : List ℕ) {r : List ℕ} (p i n : ℕ) → n ≤ i → sets l p (code_from codes args i (n - i)) ≡ r → l ≡ r
unfolding code_from
code_done codes args l p i n h e = let z : n - i ≡ 0 = omega arith in rw z at e

-- the bytes of a run of operations counted

pub width_again : (codes : List ℕ) (i n : ℕ) (a v w : ℕ) → i < n → v ≡ width_of (get_or codes i 0) → a + width_from codes i (n - i) ≡ w
    → a + v + width_from codes (i + 1) (n - (i + 1)) ≡ w
unfolding width_from
width_again codes i n a v w h e g =
    let z : n - i ≡ suc (n - (i + 1)) = omega arith in
    let g' : a + (width_of (get_or codes i 0) + width_from codes (i + 1) (n - (i + 1))) ≡ w = rw z at g in
    omega arith

pub width_done : (codes : List ℕ) (i n a : ℕ) (w : ℕ) → n ≤ i → a + width_from codes i (n - i) ≡ w → a ≡ w
unfolding width_from
width_done codes i n a w h e =
    let z : n - i ≡ 0 = omega arith in
    let e' : a + 0 ≡ w = rw z at e in
    omega arith

-- n lines

pub lines_again : (codes rows : List ℕ) (x : Links) (q l : List ℕ) {m r : List ℕ} (at j n p : ℕ) {w : ℕ} → j < n
    → w ≡ run_width codes (row_in rows j).from (row_in rows j).to
    → m ≡ sets l (at + 12 * j) (raw_bytes (line_at (row_in rows j) p w (get_or x.next j 0) (get_or x.other j 0) (get_or q j 0)))
    → sets l (at + 12 * j) (raws_bytes (lines_from codes rows x q j (n - j) p)) ≡ r
    → sets m (at + 12 * (j + 1)) (raws_bytes (lines_from codes rows x q (j + 1) (n - (j + 1)) (p + w))) ≡ r
unfolding lines_from raws_bytes
lines_again codes rows x q l {m} {r} at j n p {w} h ew g e =
    let z : n - j ≡ suc (n - (j + 1)) = omega arith in
    again l m (at + 12 * j) (at + 12 * (j + 1)) (raw_bytes (line_at (row_in rows j) p w (get_or x.next j 0) (get_or x.other j 0) (get_or q j 0)))
    (raws_bytes (lines_from codes rows x q (j + 1) (n - (j + 1)) (p + w))) g (omega arith) ∙ rw ew (rw z at e)

pub lines_done : (codes rows : List ℕ) (x : Links) (q l : List ℕ) {r : List ℕ} (at j n p : ℕ) → n ≤ j
    → sets l (at + 12 * j) (raws_bytes (lines_from codes rows x q j (n - j) p)) ≡ r → l ≡ r
unfolding lines_from raws_bytes
lines_done codes rows x q l at j n p h e = let z : n - j ≡ 0 = omega arith in rw z at e

-- the signature's parts

pub types_length : (l : List ℕ) (k c : ℕ) → length (types_from l k c) ≡ c
unfolding types_from
types_length l k zero = refl
types_length l k (suc c) = ap suc (types_length l (k + 1) c)

pub cells_length : (l : List ℕ) (v : List ℤ) (k c : ℕ) → length (cells_from l v k c) ≡ 5 * c
unfolding cells_from
cells_length l v k zero = refl
cells_length l v k (suc c) = let h = cells_length l v (k + 1) c in omega arith

module _ (l : List ℕ) (d : Declared) {m₁ m₂ : List ℕ} where
  -- the variables behind the outputs
  pub slots_made : (at : ℕ) → m₁ ≡ sets l at (cells_from d.outputs.types d.outputs.values 0 d.outputs.count)
      → m₂ ≡ sets m₁ (at + 5 * d.outputs.count) (cells_from d.variables.types d.variables.values 0 d.variables.count)
      → m₂ ≡ sets l at (slots_from d)
  slots_made at e₁ e₂ = e₂ ∙ again l m₁ at (at + 5 * d.outputs.count) (cells_from d.outputs.types d.outputs.values 0 d.outputs.count)
      (cells_from d.variables.types d.variables.values 0 d.variables.count) e₁
      (ap (λ (k : ℕ). at + k) (sym (cells_length d.outputs.types d.outputs.values 0 d.outputs.count)))

  -- the counts, the types of the inputs, and those
  pub signature_made : {m₃ : List ℕ} → m₁ ≡ sets l 28 (d.inputs.count ∷ d.outputs.count ∷ d.variables.count ∷ [])
      → m₂ ≡ sets m₁ 31 (types_from d.inputs.types 0 d.inputs.count) → m₃ ≡ sets m₂ (31 + d.inputs.count) (slots_from d)
      → m₃ ≡ sets l 28 (signature_from d)
  signature_made e₁ e₂ e₃ =
      put_after l 28 (d.inputs.count ∷ d.outputs.count ∷ d.variables.count ∷ []) (types_from d.inputs.types 0 d.inputs.count ++ slots_from d) e₁
      (e₃ ∙ again m₁ m₂ 31 (31 + d.inputs.count) (types_from d.inputs.types 0 d.inputs.count) (slots_from d) e₂
      (ap (λ (k : ℕ). 31 + k) (sym (types_length d.inputs.types 0 d.inputs.count))))
