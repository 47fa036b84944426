-- The slots of a state record that is not refused are values of their types, padded with 0, and nothing else is. By induction on the slots.
-- Assumes nothing.
use Prim.Native.Nat.{ℕ, zero, suc, ◌≤◌, ◌<◌, ◌+◌}
use native.Mathlib.Omega.{arith}
use native.Mathlib.Numerals.{add-one}
use mathlib.Core.Path.{◌≡◌, refl, ap, ◌∙◌, sym}
use mathlib.Core.Bool.{true, ◌&&◌}
use mathlib.Core.List.{List, [], ◌∷◌}
use lib.ListN.{length, take, set, get_or}
use lib.IntN.{ℤ, pos}
use lib.Dec.{eqb}
use lib.Seq.{take-suc, take-suc-set, take_all}
use Rattle.spec_design.specs.Types.{Ty, eq_z, in_type}
use Rattle.spec_semantics.specs.Values.{Values}
use Rattle.spec_semantics.specs.Records.{zeros, slots_ok, pad}
use Rattle.spec_semantics.proofs.Basic.{false_true, eqb-true, eq_z_true, and_both, and_left, and_right}

pub pad_length : (n : ℕ) (l : List ℤ) → length (pad n l) ≡ n
unfolding pad
pad_length zero l = refl
pad_length (suc n) [] = ap suc (pad_length n [])
pad_length (suc n) (z ∷ l) = ap suc (pad_length n l)

zeros_pad : (n : ℕ) → zeros (pad n []) ≡ true
unfolding pad zeros
zeros_pad zero = refl
zeros_pad (suc n) = zeros_pad n

pad_zeros : (n : ℕ) (l : List ℤ) → length l ≡ n → zeros l ≡ true → l ≡ pad n []
unfolding pad zeros
pad_zeros zero [] e h = refl
pad_zeros zero (z ∷ l) e h = absurd (omega arith)
pad_zeros (suc n) [] e h = absurd (omega arith)
pad_zeros (suc n) (z ∷ l) e h =
    ap (λ y. y ∷ l) (eq_z_true z (pos 0) (and_left (eq_z z (pos 0)) _ h)) ∙ ap (λ r. pos 0 ∷ r) (pad_zeros n l (omega arith) (and_right (eq_z z (pos 0)) _ h))

-- values of their types, padded, are accepted ..
pub slots_ok_lem : (n : ℕ) (ts : List Ty) (l : List ℤ) → Values ts l → length ts ≤ n → slots_ok ts (pad n l) ≡ true
unfolding pad slots_ok Values
slots_ok_lem n [] [] h b = zeros_pad n
slots_ok_lem n [] (z ∷ l) h b = absurd h
slots_ok_lem n (t ∷ ts) [] h b = absurd h
slots_ok_lem zero (t ∷ ts) (z ∷ l) h b = absurd (omega arith)
slots_ok_lem (suc n) (t ∷ ts) (z ∷ l) h b = and_both _ _ h.0 (slots_ok_lem n ts l h.1 (omega arith))

-- .. and nothing else is: the used slots are values of their types, and the slots are these, padded
ok_slots : (n : ℕ) (ts : List Ty) (l : List ℤ) → length l ≡ n → slots_ok ts l ≡ true → Values ts (take (length ts) l) × (l ≡ pad n (take (length ts) l))
unfolding pad slots_ok Values
ok_slots n [] l e h = (tt, pad_zeros n l e h)
ok_slots n (t ∷ ts) [] e h = false_true h
ok_slots zero (t ∷ ts) (z ∷ l) e h = absurd (omega arith)
ok_slots (suc n) (t ∷ ts) (z ∷ l) e h =
    let r = ok_slots n ts l (omega arith) (and_right (in_type t z) _ h) in
    ((and_left (in_type t z) _ h, r.0), ap (λ q. z ∷ q) r.1)

pub counted_slots : (n : ℕ) (ts : List Ty) (l : List ℤ) → (eqb (length l) n && slots_ok ts l) ≡ true
    → Values ts (take (length ts) l) × (l ≡ pad n (take (length ts) l))
counted_slots n ts l h = ok_slots n ts l (eqb-true (length l) n (and_left (eqb (length l) n) _ h)) (and_right (eqb (length l) n) _ h)

-- values of their types are read back from the slots
pub pad_take : (n : ℕ) (ts : List Ty) (l : List ℤ) → Values ts l → length ts ≤ n → take (length ts) (pad n l) ≡ l
unfolding pad Values
pad_take n [] [] h b = refl
pad_take n [] (z ∷ l) h b = absurd h
pad_take n (t ∷ ts) [] h b = absurd h
pad_take zero (t ∷ ts) (z ∷ l) h b = absurd (omega arith)
pad_take (suc n) (t ∷ ts) (z ∷ l) h b = ap (λ r. z ∷ r) (pad_take n ts l h.1 (omega arith))

-- the values that were padded, taken back
pub pad_first : (n k : ℕ) (l : List ℤ) → length l ≡ k → k ≤ n → take k (pad n l) ≡ l
unfolding pad
pad_first n zero [] e h = refl
pad_first n zero (z ∷ l) e h = absurd (omega arith)
pad_first n (suc k) [] e h = absurd (omega arith)
pad_first zero (suc k) (z ∷ l) e h = absurd (omega arith)
pad_first (suc n) (suc k) (z ∷ l) e h = ap (λ (m : List ℤ). z ∷ m) (pad_first n k l (omega arith) (omega arith))

-- one more element of a list put into slots
pub row_more : (row target : List ℤ) (k : ℕ) (v : ℤ) → k < length row → k < length target → take k row ≡ take k target → v ≡ get_or target k (pos 0)
    → take (k + 1) (set row k v) ≡ take (k + 1) target
row_more row target k v h j e f = rw add-one (take-suc-set row k v h ∙ rw (e, f) (sym (take-suc target k (pos 0) j)))

-- all slots filled
pub row_whole : (row target : List ℤ) (n k : ℕ) → length row ≡ n → k ≤ n → length row ≤ k → take k row ≡ take k target → row ≡ take n target
row_whole row target n k e l m h =
    let p : k ≡ n = omega arith in
    sym (take_all k row m) ∙ h ∙ ap (λ j. take j target) p
