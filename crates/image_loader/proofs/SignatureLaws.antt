-- Reading a signature is a chain of tests by places: the bytes after n types or cells are those n or 5 * n bytes further. Assumes nothing.
use Prim.Native.Nat.{ℕ, zero, suc, ◌+◌, ◌*◌, ◌≤◌, ◌<◌}
use native.Mathlib.Omega.{arith}
use mathlib.Core.Path.{◌≡◌, refl, sym, ap, ◌∙◌}
use mathlib.Core.Bool.{Bool, true, false, ◌&&◌}
use mathlib.Core.Option.{Option, none, some, bind}
use mathlib.Core.List.{List, [], ◌∷◌}
use lib.ListN.{length, get_or, drop, length-drop, drop_of_length-le}
use lib.Seq.{get_or-drop, drop-drop, drop-cons}
use lib.IntN.{ℤ}
use Rattle.std.specs.List.{list_all, range_with_len}
use lib.Dec.{ltb, leb}
use mir.Syntax.{w32}
use mir.Val.{SFits, to_z, of_z}
use mir.Facts.{to_z-of_z}
use native.Mathlib.Decide.{dec_lt}
use borrow.Author.Tests.{lt-ltb, le-ltb, le-leb, lt-leb, leb-true}
use Rattle.spec_design.specs.Types.{Ty, in_type, type_of_byte}
use Rattle.spec_semantics.proofs.Basic.{none_some, some_injective}
use Rattle.spec_format.specs.Words.{word4, word4_at, only_if}
use Rattle.spec_semantics.specs.Twos.{signed32}
use Rattle.spec_format.specs.Signature.{Cell, Signature, read_types, read_cell, read_cells, at_end, signature_of}
use Rattle.spec_format.specs.Opening.{is_empty}
use Rattle.spec_format.proofs.Basic.{and_then_some, only_if_some}
use Rattle.base_signed.specs.Signed.{in_some, in_type_byte}
use Rattle.base_codes.specs.Types.{is_there, is_type_byte}
use Rattle.image_loader.specs.Sections.{is_some}
use Rattle.image_loader.proofs.Bools.{same_test, and_true}
use Rattle.image_loader.proofs.SectionLaws.{word_drop, empty_drop, drop_empty}

-- what is bound is there where both parts are
pub is_some_bind : {X Y : Type 0} (o : Option X) (k : X → Option Y) (t : Bool) → ((x : X) → o ≡ some x → is_some (k x) ≡ t)
    → is_some (bind o k) ≡ (is_some o && t)
unfolding bind
is_some_bind none k t h = refl
is_some_bind (some x) k t h = h x refl

pub is_some_only_if : {X : Type 0} (b : Bool) (o : Option X) → is_some (only_if b o) ≡ (b && is_some o)
is_some_only_if true o = refl
is_some_only_if false o = refl

-- Types.

types_cons : (n k : ℕ) (s : List ℕ) → is_some (read_types (suc n) (k ∷ s)) ≡ (is_some (type_of_byte k) && is_some (read_types n s))
unfolding read_types
types_cons n k s =
    is_some_bind (type_of_byte k) _ (is_some (read_types n s)) (λ t e. is_some_bind (read_types n s) _ true (λ p q. refl) ∙ and_true (is_some (read_types n s)))

types_nil : (n : ℕ) → is_some (read_types (suc n) []) ≡ false
unfolding read_types
types_nil n = refl

-- one type by place
pub types_step : (n at : ℕ) (s : List ℕ)
    → is_some (read_types (suc n) (drop at s)) ≡ ((ltb at (length s) && is_some (type_of_byte (get_or s at 0))) && is_some (read_types n (drop (at + 1) s)))
types_step n at s = go (dec_lt at (length s))
  where
    go : Dec (at < length s)
        → is_some (read_types (suc n) (drop at s)) ≡ ((ltb at (length s) && is_some (type_of_byte (get_or s at 0))) && is_some (read_types n (drop (at + 1) s)))
    go (yes h) =
        let e : suc at ≡ at + 1 = omega arith in
        rw (lt-ltb at (length s) h) (ap (λ z. is_some (read_types (suc n) z)) (drop-cons s at 0 h) ∙ types_cons n (get_or s at 0) (drop (suc at) s)
        ∙ ap (λ z. is_some (type_of_byte (get_or s at 0)) && is_some (read_types n (drop z s))) e)
    go (no h) =
        let l : length s ≤ at = omega arith in
        rw (le-ltb at (length s) l) (ap (λ z. is_some (read_types (suc n) z)) (drop_of_length-le s l) ∙ types_nil n)

types_rest : (n : ℕ) (s : List ℕ) (p : List Ty × List ℕ) → read_types n s ≡ some p → p.1 ≡ drop n s
unfolding read_types
types_rest zero s p e = ap (λ (q : List Ty × List ℕ). q.1) (sym (some_injective ([], s) p e))
types_rest (suc n) [] p e = none_some p e
types_rest (suc n) (k ∷ s) p e =
    let t = and_then_some (type_of_byte k) _ p e in
    let q = and_then_some (read_types n s) _ p t.2 in
    ap (λ (q : List Ty × List ℕ). q.1) (sym (some_injective _ p q.2)) ∙ types_rest n s q.0 q.1

-- a byte is a type's
pub type_there : (k : ℕ) → is_type_byte k ≡ is_some (type_of_byte k)
unfolding is_type_byte
type_there k = go (type_of_byte k)
  where
    go : (o : Option Ty) → is_there o ≡ is_some o
    go none = refl
    go (some t) = refl

-- Cells.

some_in : (o : Option Ty) (z : ℤ) (f : Ty → Option (Cell × List ℕ)) → ((t : Ty) → is_some (f t) ≡ in_type t z) → is_some (bind o f) ≡ in_some o z
unfolding bind
some_in none z f h = refl
some_in (some t) z f h = h t

-- a cell by its five bytes
cell_test : (r : List ℕ) → is_some (read_cell r) ≡ (leb 5 (length r) && in_type_byte (get_or r 0 0) (signed32 (word4_at r 1)))
cell_test [] = refl
cell_test (k ∷ []) = refl
cell_test (k ∷ a ∷ []) = refl
cell_test (k ∷ a ∷ b ∷ []) = refl
cell_test (k ∷ a ∷ b ∷ c ∷ []) = refl
cell_test (k ∷ a ∷ b ∷ c ∷ d ∷ s) =
    rw (le-leb 5 (suc (suc (suc (suc (suc (length s)))))) (omega arith))
    (some_in (type_of_byte k) (signed32 (word4 a b c d)) _ (λ t. is_some_only_if (in_type t (signed32 (word4 a b c d))) _ ∙ and_true (in_type t (signed32
    (word4 a b c d)))))

cell_rest : (r : List ℕ) (p : Cell × List ℕ) → read_cell r ≡ some p → p.1 ≡ drop 5 r
cell_rest [] p e = none_some p e
cell_rest (k ∷ []) p e = none_some p e
cell_rest (k ∷ a ∷ []) p e = none_some p e
cell_rest (k ∷ a ∷ b ∷ []) p e = none_some p e
cell_rest (k ∷ a ∷ b ∷ c ∷ []) p e = none_some p e
cell_rest (k ∷ a ∷ b ∷ c ∷ d ∷ s) p e =
    let t = and_then_some (type_of_byte k) _ p e in
    let g = only_if_some (in_type t.0 (signed32 (word4 a b c d))) p t.2 in
    ap (λ (q : Cell × List ℕ). q.1) (sym (some_injective _ p g.1))

-- where five bytes are left, the type byte and the value decide; ..
cell_there : (at : ℕ) (s : List ℕ) → at + 5 ≤ length s → in_type_byte (get_or s at 0) (signed32 (word4_at s (at + 1))) ≡ is_some (read_cell (drop at s))
cell_there at s h =
    sym (cell_test (drop at s) ∙ rw (le-leb 5 (length (drop at s)) (omega (arith, length-drop at s)))
    (ap (λ z. in_type_byte z (signed32 (word4_at (drop at s) 1))) (get_or-drop at s 0 0 ∙ ap (λ z. get_or s z 0) zero_more)
    ∙ ap (λ z. in_type_byte (get_or s at 0) (signed32 z)) (word_drop at 1 (at + 1) s refl)))
  where
    zero_more : at + 0 ≡ at
    zero_more = omega arith

-- .. as the code reads them; ..
pub cell_answer : (at : ℕ) (s : List ℕ) {k n : ℕ} {z : ℤ} → at + 5 ≤ length s → k ≡ get_or s at 0 → n ≡ word4_at s (at + 1) → z ≡ signed32 n → SFits w32 z
    → in_type_byte k (to_z w32 (of_z w32 z)) ≡ is_some (read_cell (drop at s))
cell_answer at s h ek en ez f = rw (to_z-of_z f, ek, ez, en) (cell_there at s h)

-- .. else there is no cell
pub cell_short : (at : ℕ) (s : List ℕ) → length s < at + 5 → false ≡ is_some (read_cell (drop at s))
cell_short at s h = sym (cell_test (drop at s) ∙ rw (lt-leb 5 (length (drop at s)) (omega (arith, length-drop at s))))

-- one cell by place
pub cells_step : (n at : ℕ) (s : List ℕ) → is_some (read_cells (suc n) (drop at s)) ≡ (is_some (read_cell (drop at s)) && is_some (read_cells n (drop (at + 5) s)))
unfolding read_cells
cells_step n at s =
    is_some_bind (read_cell (drop at s)) _ (is_some (read_cells n (drop (at + 5) s)))
    (λ q e. is_some_bind (read_cells n q.1) _ true (λ p m. refl) ∙ and_true (is_some (read_cells n q.1))
    ∙ ap (λ z. is_some (read_cells n z)) (cell_rest (drop at s) q e ∙ drop-drop 5 at s))

cells_rest : (n : ℕ) (s : List ℕ) (p : List Cell × List ℕ) → read_cells n s ≡ some p → p.1 ≡ drop (5 * n) s
unfolding read_cells
cells_rest zero s p e = ap (λ (q : List Cell × List ℕ). q.1) (sym (some_injective ([], s) p e))
cells_rest (suc n) s p e =
    let t = and_then_some (read_cell s) _ p e in
    let q = and_then_some (read_cells n t.0.1) _ p t.2 in
    let k : 5 + 5 * n ≡ 5 * suc n = omega arith in
    ap (λ (q : List Cell × List ℕ). q.1) (sym (some_injective _ p q.2)) ∙ cells_rest n t.0.1 q.0 q.1
    ∙ ap (drop (5 * n)) (cell_rest s t.0 t.1) ∙ drop-drop (5 * n) 5 s ∙ ap (λ z. drop z s) k

-- The tests of all types and of all cells.
abbrev pub types_test : ℕ → List ℕ → Bool
types_test n s = is_some (read_types n s)

abbrev pub type_here : ℕ → List ℕ → Bool
type_here at s = ltb at (length s) && is_some (type_of_byte (get_or s at 0))

pub types_none : (r : List ℕ) → types_test 0 r ≡ true
unfolding read_types
types_none r = refl

abbrev pub cells_test : ℕ → List ℕ → Bool
cells_test n s = is_some (read_cells n s)

abbrev pub cell_here : ℕ → List ℕ → Bool
cell_here at s = is_some (read_cell (drop at s))

pub cells_none : (r : List ℕ) → cells_test 0 r ≡ true
unfolding read_cells
cells_none r = refl

-- n types or cells are there where each is by its place: the types one byte apart, ..
pub types_all : (n at : ℕ) (s : List ℕ) → list_all (λ k. type_here k s) (range_with_len at n) ≡ types_test n (drop at s)
types_all zero at s = sym (types_none (drop at s))
types_all (suc n) at s = sym (types_step n at s ∙ ap (λ z. type_here at s && z) (sym (types_all n (at + 1) s)))

-- .. and the cells five
pub cells_all : (n j at p : ℕ) (s : List ℕ) → p ≡ at + 5 * j → list_all (λ k. cell_here (at + 5 * k) s) (range_with_len j n) ≡ cells_test n (drop p s)
cells_all zero j at p s e = sym (cells_none (drop p s))
cells_all (suc n) j at p s e =
    sym (cells_step n p s ∙ ap (λ z. cell_here p s && z) (sym (cells_all n (j + 1) at (p + 5) s (omega arith))) ∙ ap (λ z. cell_here z s && list_all (λ k. cell_here (at + 5 * k) s) (range_with_len (j + 1) n)) e)

-- The whole signature.

-- the tests of the types, the cells and the section's end, where the counts are i, o and v
abbrev pub filled : List ℕ → ℕ → ℕ → ℕ → Bool
filled s i o v =
    is_some (read_types i (drop 3 s))
    && (is_some (read_cells o (drop (3 + i) s)) && (is_some (read_cells v (drop (3 + i + 5 * o) s)) && leb (length s) (3 + i + 5 * o + 5 * v)))

at_end_test : {X : Type 0} (s : List ℕ) (x : X) → is_some (at_end s x) ≡ is_empty s
at_end_test [] x = refl
at_end_test (k ∷ s) x = refl

empty_leb : (k : ℕ) (s : List ℕ) → is_empty (drop k s) ≡ leb (length s) k
empty_leb k s = same_test (is_empty (drop k s)) (leb (length s) k) (λ h. le-leb (length s) k (drop_empty k s h)) (λ h. empty_drop k s (leb-true (length s) k h))

-- the signature with those counts
abbrev counted : List ℕ → ℕ → ℕ → ℕ → Option Signature
counted s i o v =
    bind (read_types i (drop 3 s)) (λ p. bind (read_cells o p.1) (λ q. bind (read_cells v q.1) (λ r.
    at_end r.1 (record { inputs = p.0; outputs = q.0; variables = r.0 }))))

filled_read : (s : List ℕ) (i o v : ℕ) → is_some (counted s i o v) ≡ filled s i o v
filled_read s i o v =
    is_some_bind (read_types i (drop 3 s)) _
    (is_some (read_cells o (drop (3 + i) s)) && (is_some (read_cells v (drop (3 + i + 5 * o) s)) && leb (length s) (3 + i + 5 * o + 5 * v))) (λ p ep.
    let e1 : p.1 ≡ drop (3 + i) s = types_rest i (drop 3 s) p ep ∙ drop-drop i 3 s in
    is_some_bind (read_cells o p.1) _ (is_some (read_cells v (drop (3 + i + 5 * o) s)) && leb (length s) (3 + i + 5 * o + 5 * v)) (λ q eq.
    let e2 : q.1 ≡ drop (3 + i + 5 * o) s = cells_rest o p.1 q eq ∙ ap (drop (5 * o)) e1 ∙ drop-drop (5 * o) (3 + i) s in
    is_some_bind (read_cells v q.1) _ (leb (length s) (3 + i + 5 * o + 5 * v)) (λ r er.
    let e3 : r.1 ≡ drop (3 + i + 5 * o + 5 * v) s = cells_rest v q.1 r er ∙ ap (drop (5 * v)) e2 ∙ drop-drop (5 * v) (3 + i + 5 * o) s in
    at_end_test r.1 _ ∙ ap is_empty e3 ∙ empty_leb (3 + i + 5 * o + 5 * v) s)
    ∙ ap (λ z. is_some (read_cells v z) && leb (length s) (3 + i + 5 * o + 5 * v)) e2)
    ∙ ap (λ z. is_some (read_cells o z) && (is_some (read_cells v (drop (3 + i + 5 * o) s)) && leb (length s) (3 + i + 5 * o + 5 * v))) e1)

-- all that refusal 12 asks
pub signature_test : (s : List ℕ) → 3 ≤ length s
    → is_some (signature_of s)
    ≡ ((leb (get_or s 0 0) 16 && (leb (get_or s 1 0) 16 && leb (get_or s 2 0) 32)) && filled s (get_or s 0 0) (get_or s 1 0) (get_or s 2 0))
unfolding signature_of
signature_test [] h = absurd (omega arith)
signature_test (i ∷ []) h = absurd (omega arith)
signature_test (i ∷ o ∷ []) h = absurd (omega arith)
signature_test (i ∷ o ∷ v ∷ s) h =
    is_some_only_if (leb i 16 && (leb o 16 && leb v 32)) (counted (i ∷ o ∷ v ∷ s) i o v) ∙ ap (λ z. (leb i 16 && (leb o 16 && leb v 32)) && z)
    (filled_read (i ∷ o ∷ v ∷ s) i o v)

pub signature_short : (s : List ℕ) → length s < 3 → false ≡ is_some (signature_of s)
unfolding signature_of
signature_short [] h = refl
signature_short (i ∷ []) h = refl
signature_short (i ∷ o ∷ []) h = refl
signature_short (i ∷ o ∷ v ∷ s) h = absurd (omega arith)

-- the same with the counts as the code has read them
pub signature_counts : (s : List ℕ) {i o v : ℕ} {t : Bool} → 3 ≤ length s → i ≡ get_or s 0 0 → o ≡ get_or s 1 0 → v ≡ get_or s 2 0
    → t ≡ ((leb i 16 && (leb o 16 && leb v 32)) && filled s i o v) → t ≡ is_some (signature_of s)
signature_counts s h ei eo ev e = e ∙ rw (ei, eo, ev) (sym (signature_test s h))
