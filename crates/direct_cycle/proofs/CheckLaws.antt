-- The steps of the loops over rows and slots, and what their tests say of a process. Assumes nothing.
use Prim.Native.Nat.{ℕ, suc, ◌+◌, ◌≤◌, ◌<◌}
use native.Mathlib.Numerals.{add-one}
use native.Mathlib.Omega.{arith}
use native.Mathlib.Decide.{dec_lt}
use mathlib.Core.Path.{◌≡◌, refl, sym, ◌∙◌}
use mathlib.Core.Bool.{true, false, cond, ◌&&◌}
use mathlib.Core.Option.{none, some}
use mathlib.Core.List.{List, [], ◌∷◌, map}
use lib.ListN.{length, get_or, drop, drop_of_length-le}
use lib.Seq.{drop-cons}
use lib.IntN.{ℤ, pos}
use lib.Dec.{ltb, leb}
use borrow.Author.Tests.{lt-ltb, le-ltb, le-leb, lt-leb, eq-eqb, ne_eqb}
use Rattle.spec_design.specs.Types.{Ty, std_logic, integer, eq_z, in_type, type_byte}
use Rattle.spec_semantics.specs.Records.{zeros, slots_ok}
use Rattle.spec_semantics.specs.Rows.{wrong_value}
use Rattle.base_signed.specs.Signed.{in_type_byte}
use Rattle.direct_cycle.specs.Checks.{check_of, wrong_in, row_is, slots_in}
use Rattle.std.specs.Prelude.{Err}

-- INPUT VALUES
module _ (s : List ℕ) (l : List ℤ) (k : ℕ) where
  wrong_step : k < length l → length l ≡ length s
      → wrong_in (drop k s) (drop k l) k ≡ cond (in_type_byte (get_or s k 0) (get_or l k (pos 0))) (wrong_in (drop (k + 1) s) (drop (k + 1) l) (k + 1)) (some k)
  unfolding wrong_in
  wrong_step h e = rw (add-one k, drop-cons l k (pos 0) h, drop-cons s k 0 (omega arith))

  pub wrong_again : k < length l → length l ≡ length s → in_type_byte (get_or s k 0) (get_or l k (pos 0)) ≡ true
      → wrong_in (drop (k + 1) s) (drop (k + 1) l) (k + 1) ≡ wrong_in (drop k s) (drop k l) k
  wrong_again h e t = sym (wrong_step h e ∙ rw t)

  pub wrong_here : k < length l → length l ≡ length s → in_type_byte (get_or s k 0) (get_or l k (pos 0)) ≡ false → some k ≡ wrong_in (drop k s) (drop k l) k
  wrong_here h e t = sym (wrong_step h e ∙ rw t)

  pub wrong_end : length l ≤ k → length l ≡ length s → none ≡ wrong_in (drop k s) (drop k l) k
  unfolding wrong_in
  wrong_end h e = rw (drop_of_length-le l h, drop_of_length-le s {i = k} (omega arith))

-- the row, by the tests of its length and of the other's
module _ (types : List ℕ) (i : List ℤ) (n room : ℕ) where
  pub inputs_wrong : (length i ≡ length types → ⊥) → Err 0 ≡ check_of (row_is types i n room)
  unfolding row_is
  inputs_wrong h = rw (ne_eqb (length i) (length types) h)

  pub room_wrong : length i ≡ length types → (room ≡ n → ⊥) → Err 0 ≡ check_of (row_is types i n room)
  unfolding row_is
  room_wrong e h = rw (eq-eqb (length i) (length types) e, ne_eqb room n h)

  pub values_judged : length i ≡ length types → room ≡ n → check_of (wrong_in types i 0) ≡ check_of (row_is types i n room)
  unfolding row_is
  values_judged e h = rw (eq-eqb (length i) (length types) e, eq-eqb room n h)

-- SLOTS
module _ (s : List ℕ) (l : List ℤ) (k : ℕ) where
  slots_step : k < length l
      → slots_in (drop k s) (drop k l) ≡ (cond (ltb k (length s)) (in_type_byte (get_or s k 0) (get_or l k (pos 0))) (eq_z (get_or l k (pos 0)) (pos 0)) && slots_in
      (drop (k + 1) s) (drop (k + 1) l))
  unfolding slots_in zeros
  slots_step h = go (dec_lt k (length s))
    where
      go : Dec (k < length s)
          → slots_in (drop k s) (drop k l) ≡ (cond (ltb k (length s)) (in_type_byte (get_or s k 0) (get_or l k (pos 0))) (eq_z (get_or l k (pos 0)) (pos 0)) && slots_in
          (drop (k + 1) s) (drop (k + 1) l))
      go (yes u) = rw (add-one k, drop-cons l k (pos 0) h, drop-cons s k 0 u, lt-ltb k (length s) u)
      go (no u) =
          let a : drop k s ≡ [] = drop_of_length-le s {i = k} (omega arith) in
          let b : drop (suc k) s ≡ [] = drop_of_length-le s {i = suc k} (omega arith) in
          rw (add-one k, drop-cons l k (pos 0) h, a, b, le-ltb k (length s) (omega arith))

  pub slots_again : k < length l → cond (ltb k (length s)) (in_type_byte (get_or s k 0) (get_or l k (pos 0))) (eq_z (get_or l k (pos 0)) (pos 0)) ≡ true
      → slots_in (drop (k + 1) s) (drop (k + 1) l) ≡ slots_in (drop k s) (drop k l)
  slots_again h e = sym (slots_step h ∙ rw e)

  pub slots_wrong : k < length l → cond (ltb k (length s)) (in_type_byte (get_or s k 0) (get_or l k (pos 0))) (eq_z (get_or l k (pos 0)) (pos 0)) ≡ false
      → false ≡ slots_in (drop k s) (drop k l)
  slots_wrong h e = sym (slots_step h ∙ rw e)

  pub slots_end : k ≤ length l → length l ≤ k → leb (length s) (length l) ≡ slots_in (drop k s) (drop k l)
  unfolding slots_in zeros
  slots_end h g = rw (drop_of_length-le l g) (go (dec_lt k (length s)))
    where
      go : Dec (k < length s) → leb (length s) (length l) ≡ slots_in (drop k s) []
      go (yes u) = rw (drop-cons s k 0 u) (lt-leb (length s) (length l) (omega arith))
      go (no u) =
          let a : drop k s ≡ [] = drop_of_length-le s {i = k} (omega arith) in
          rw a (le-leb (length s) (length l) (omega arith))

-- BY TYPES
of_code : (t : Ty) (z : ℤ) → in_type_byte (type_byte t) z ≡ in_type t z
of_code std_logic z = refl
of_code integer z = refl

pub wrong_values : (ts : List Ty) (l : List ℤ) (k : ℕ) → wrong_in (map type_byte ts) l k ≡ wrong_value ts l k
unfolding wrong_in wrong_value
wrong_values [] l k = refl
wrong_values (t ∷ ts) [] k = refl
wrong_values (t ∷ ts) (z ∷ l) k = rw (of_code t z, wrong_values ts l (suc k))

pub slots_types : (ts : List Ty) (l : List ℤ) → slots_in (map type_byte ts) l ≡ slots_ok ts l
unfolding slots_in slots_ok
slots_types [] l = refl
slots_types (t ∷ ts) [] = refl
slots_types (t ∷ ts) (z ∷ l) = rw (of_code t z, slots_types ts l)
