-- The steps of the loops: what holds of the rest of a row or of slots from an index holds of the rest from the next. Assumes nothing.
use Prim.Native.Nat.{ℕ, zero, suc, ◌+◌, ◌-◌, ◌*◌, ◌≤◌, ◌<◌}
use native.Mathlib.Numerals.{add-one}
use native.Mathlib.Omega.{arith}
use native.Mathlib.Decide.{dec_lt}
use mathlib.Core.Path.{◌≡◌, refl, sym, ap, ◌∙◌}
use mathlib.Core.Bool.{Bool, true, false, cond, ◌&&◌}
use mathlib.Core.Option.{none, some}
use mathlib.Core.List.{List, [], ◌∷◌, ◌++◌, append_assoc}
use lib.ListN.{length, get_or, take, drop, set, drop_of_length-le}
use lib.Seq.{length-take-le, take-suc, drop-cons, set_at}
use lib.IntN.{ℤ, pos}
use lib.Dec.{ltb}
use borrow.Author.Tests.{lt-ltb, le-ltb}
use Rattle.std.specs.List.{list_all}
use Rattle.spec_semantics.specs.Records.{zeros, pad}
use Rattle.spec_design.specs.Types.{eq_z}
use Rattle.base_signed.specs.Signed.{in_type_byte}
use Rattle.image_checks.specs.Places.{wrong_from, slots_at, initial_at, initials_at, type_bytes_at}

-- Input values.

module _ (s : List ℕ) (l : List ℤ) (k : ℕ) where
  wrong_step : k < length l
      → wrong_from s k (drop k l) ≡ cond (in_type_byte (get_or s (3 + k) 0) (get_or l k (pos 0))) (wrong_from s (k + 1) (drop (k + 1) l)) (some k)
  unfolding wrong_from
  wrong_step h = rw (add-one k, drop-cons l k (pos 0) h)

  pub wrong_again : k < length l → in_type_byte (get_or s (3 + k) 0) (get_or l k (pos 0)) ≡ true → wrong_from s (k + 1) (drop (k + 1) l) ≡ wrong_from s k (drop k l)
  wrong_again h e = sym (wrong_step h ∙ rw e)

  pub wrong_here : k < length l → in_type_byte (get_or s (3 + k) 0) (get_or l k (pos 0)) ≡ false → some k ≡ wrong_from s k (drop k l)
  wrong_here h e = sym (wrong_step h ∙ rw e)

  pub wrong_end : length l ≤ k → none ≡ wrong_from s k (drop k l)
  unfolding wrong_from
  wrong_end h = rw (drop_of_length-le l h)

-- Elements written one after the other.

-- one more element of a list written to a row
pub written_more : (row o : List ℤ) (k : ℕ) (u : List ℤ) (v : ℤ) → k < length row → k < length o → u ≡ take k o ++ drop k row → v ≡ get_or o k (pos 0)
    → set u k v ≡ take (k + 1) o ++ drop (k + 1) row
written_more row o k u v h j e f =
    let n : length (take k o) ≡ k = length-take-le k o (omega arith) in
    ap (λ l. set l k v) (e ∙ ap (λ l. take k o ++ l) (drop-cons row k (pos 0) h))
    ∙ set_at (take k o) (get_or row k (pos 0)) (drop (suc k) row) v k n
    ∙ rw (add-one k, take-suc o k (pos 0) j, f) (sym (append_assoc (take k o) (get_or o k (pos 0) ∷ []) (drop (suc k) row)))

-- Slots.

module _ (s : List ℕ) (at n : ℕ) (l : List ℤ) (k : ℕ) where
  slots_step : k < n → k < length l → slots_at s (at + 5 * k) (n - k) (drop k l)
      ≡ (in_type_byte (get_or s (at + 5 * k) 0) (get_or l k (pos 0)) && slots_at s (at + 5 * (k + 1)) (n - (k + 1)) (drop (k + 1) l))
  unfolding slots_at
  slots_step f h =
      let a : at + 5 * k + 5 ≡ at + 5 * (k + 1) = omega arith in
      let b : n - k ≡ suc (n - (k + 1)) = omega arith in
      ap (slots_at s (at + 5 * k) (n - k)) (drop-cons l k (pos 0) h) ∙ rw (b, a, ← add-one k)

  pub slots_again : k < n → k < length l → in_type_byte (get_or s (at + 5 * k) 0) (get_or l k (pos 0)) ≡ true
      → slots_at s (at + 5 * (k + 1)) (n - (k + 1)) (drop (k + 1) l) ≡ slots_at s (at + 5 * k) (n - k) (drop k l)
  slots_again f h e = sym (slots_step f h ∙ rw e)

  pub slots_wrong : k < n → k < length l → in_type_byte (get_or s (at + 5 * k) 0) (get_or l k (pos 0)) ≡ false
      → false ≡ slots_at s (at + 5 * k) (n - k) (drop k l)
  slots_wrong f h e = sym (slots_step f h ∙ rw e)

  pub slots_end : k ≤ n → n ≤ k → zeros (drop n l) ≡ slots_at s (at + 5 * k) (n - k) (drop k l)
  unfolding slots_at
  slots_end f h =
      let a : n - k ≡ 0 = omega arith in
      let b : n ≡ k = omega arith in
      rw (a, b)

both_wrong : (b c : Bool) → false ≡ c → false ≡ (b && c)
both_wrong true c e = e
both_wrong false c e = refl

-- too few slots
pub slots_short : (s : List ℕ) (p n : ℕ) (l : List ℤ) → length l < n → false ≡ slots_at s p n l
unfolding slots_at
slots_short s p zero l h = absurd (omega arith)
slots_short s p (suc n) [] h = refl
slots_short s p (suc n) (z ∷ l) h = both_wrong (in_type_byte (get_or s p 0) z) _ (slots_short s (p + 5) n l (omega arith))

-- unused slots are all 0
pub zeros_all : (l : List ℤ) → list_all (λ z. eq_z z (pos 0)) l ≡ zeros l
unfolding zeros
zeros_all [] = refl
zeros_all (z ∷ l) = ap (λ b. eq_z z (pos 0) && b) (zeros_all l)

-- at the first slot the rest is the whole
pub slots_first : (s : List ℕ) (at n : ℕ) (l : List ℤ) → slots_at s (at + 5 * 0) (n - 0) (drop 0 l) ≡ slots_at s at n l
slots_first s at n l =
    let a : at + 5 * 0 ≡ at = omega arith in
    let b : n - 0 ≡ n = omega arith in
    rw (a, b)

-- Initial values.

-- the index k of n things, or the first of those left
left_first : (k n : ℕ) → ltb 0 (n - k) ≡ ltb k n
left_first k n = go (dec_lt k n)
  where
    go : Dec (k < n) → ltb 0 (n - k) ≡ ltb k n
    go (yes h) = rw (lt-ltb k n h, lt-ltb 0 (n - k) (omega arith))
    go (no h) = rw (le-ltb k n (omega arith), le-ltb 0 (n - k) (omega arith))

pad_unused : (m k : ℕ) → get_or (pad m []) k (pos 0) ≡ pos 0
unfolding pad
pad_unused zero k = refl
pad_unused (suc m) zero = refl
pad_unused (suc m) (suc k) = pad_unused m k

-- the slot k of those that are filled from n cells
pub filled_at : (s : List ℕ) (p n m k : ℕ) → k < m → initial_at s (p + 5 * k + 1) (ltb k n) ≡ get_or (pad m (initials_at s p n)) k (pos 0)
unfolding pad initials_at
filled_at s p zero m k h = rw (le-ltb k 0 (omega arith)) (sym (pad_unused m k))
filled_at s p (suc n) zero k h = absurd (omega arith)
filled_at s p (suc n) (suc m) zero h = let e : p + 5 * 0 ≡ p = omega arith in rw (lt-ltb 0 (suc n) (omega arith), e)
filled_at s p (suc n) (suc m) (suc k) h =
    let a : p + 5 * suc k ≡ p + 5 + 5 * k = omega arith in
    let b : suc n - suc k ≡ n - k = omega arith in
    let t : ltb (suc k) (suc n) ≡ ltb k n = sym (left_first (suc k) (suc n)) ∙ ap (ltb 0) b ∙ left_first k n in
    rw (a, t) (filled_at s (p + 5) n m k (omega arith))

-- Type bytes.

type_bytes_count : (s : List ℕ) (p n : ℕ) → length (type_bytes_at s p n) ≡ n
unfolding type_bytes_at
type_bytes_count s p zero = refl
type_bytes_count s p (suc n) = ap suc (type_bytes_count s (p + 5) n)

-- none copied
pub copy_first : (s : List ℕ) (p : ℕ) (t : List ℕ) → t ≡ type_bytes_at s p 0 ++ drop 0 t
unfolding type_bytes_at
copy_first s p t = refl

-- one more type byte is the last
type_bytes_last : (s : List ℕ) (p k : ℕ) → type_bytes_at s p (suc k) ≡ type_bytes_at s p k ++ (get_or s (p + 5 * k) 0 ∷ [])
unfolding type_bytes_at
type_bytes_last s p zero = let e : p + 5 * 0 ≡ p = omega arith in rw e
type_bytes_last s p (suc k) =
    let e : p + 5 * suc k ≡ p + 5 + 5 * k = omega arith in
    rw e (ap (λ l. get_or s p 0 ∷ l) (type_bytes_last s (p + 5) k))

-- one more type byte copied
pub copy_more : (s : List ℕ) (p k : ℕ) (t u : List ℕ) (b : ℕ) → k < length t → u ≡ type_bytes_at s p k ++ drop k t → b ≡ get_or s (p + 5 * k) 0
    → set u k b ≡ type_bytes_at s p (k + 1) ++ drop (k + 1) t
copy_more s p k t u b h e f =
    let x = type_bytes_at s p k in
    ap (λ l. set l k b) (e ∙ ap (λ l. x ++ l) (drop-cons t k 0 h))
    ∙ set_at x (get_or t k 0) (drop (suc k) t) b k (type_bytes_count s p k)
    ∙ rw (add-one k, type_bytes_last s p k, f) (sym (append_assoc x (get_or s (p + 5 * k) 0 ∷ []) (drop (suc k) t)))
