-- Decimals, one byte more; the integers of their numbers; the parts of a line, one part more. Assumes nothing.
use mathlib.Core.Path.{◌≡◌, refl, sym, ◌∙◌, ap}
use mathlib.Core.Bool.{Bool, true, false, cond}
use Rattle.std.specs.Prelude.{Option, None, Some}
use mathlib.Core.List.{List, [], ◌∷◌}
use Prim.Native.Nat.{ℕ, zero, suc, ◌+◌, ◌*◌, ◌-◌, min, ◌≤◌, ◌<◌}
use native.Mathlib.Omega.{arith}
use native.Mathlib.Numerals.{add-one}
use lib.IntN.{ℤ, pos, neg_ℤ}
use lib.Dec.{leb}
use lib.ListN.{length, get_or, drop, drop_of_length-le}
use lib.Seq.{drop-cons}
use borrow.Author.Tests.{lt-ltb, le-ltb, le-leb, lt-leb, leb-true, leb-false, eq-eqb, ne_eqb}
use Rattle.spec_semantics.specs.Twos.{signed32}
use Rattle.spec_language.specs.Bytes.{between}
use Rattle.trace_lines.specs.Rows.{digits, magnitude, upward, downward, decimal_of}
use Rattle.trace_lines.specs.Reading.{other, cut}

pub other_not : (c b : ℕ) → (b ≡ c → ⊥) → other c b ≡ true
unfolding other
other_not c b h = rw (ne_eqb b c h)

pub other_is : (c b : ℕ) → b ≡ c → other c b ≡ false
unfolding other
other_is c b h = rw (eq-eqb b c h)

-- numbers that are cut to the same are so with one digit more
cut_more : (a b d : ℕ) → min a 2147483649 ≡ min b 2147483649 → min (a * 10 + d) 2147483649 ≡ min (b * 10 + d) 2147483649
cut_more a b d e = omega arith

-- whether the number so far is cut or not, the number of all digits is cut to the same
cut_same : (l : List ℕ) (a b : ℕ) → min a 2147483649 ≡ min b 2147483649 → cut (digits a l) ≡ cut (digits b l)
unfolding digits
cut_same [] a b e = ap Some e
cut_same (c ∷ l) a b e = go (between 48 57 c) (cut_same l (a * 10 + (c - 48)) (b * 10 + (c - 48)) (cut_more a b (c - 48) e))
  where
    go : (q : Bool) → cut (digits (a * 10 + (c - 48)) l) ≡ cut (digits (b * 10 + (c - 48)) l)
        → cut (cond q (digits (a * 10 + (c - 48)) l) None) ≡ cut (cond q (digits (b * 10 + (c - 48)) l) None)
    go true h = h
    go false h = refl

-- the number of the digits
pub number_none : (w : List ℕ) → length w ≡ 0 → None ≡ cut (magnitude w)
unfolding magnitude
number_none [] h = refl
number_none (b ∷ w) h = absurd (omega arith)

pub number_first : (w : List ℕ) → (length w ≡ 0 → ⊥) → cut (digits 0 (drop 0 w)) ≡ cut (magnitude w)
unfolding magnitude
number_first [] h = absurd (h refl)
number_first (b ∷ w) h = refl

-- the number of the digits from an index on
module _ (w : List ℕ) (i v : ℕ) where
  pub number_stop : i < length w → between 48 57 (get_or w i 0) ≡ false → None ≡ cut (digits v (drop i w))
  unfolding digits
  number_stop h e = rw (drop-cons w i 0 h, e)

  pub number_again : (r : ℕ) → i < length w → between 48 57 (get_or w i 0) ≡ true → r ≡ min (v * 10 + (get_or w i 0 - 48)) 2147483649
      → cut (digits r (drop (i + 1) w)) ≡ cut (digits v (drop i w))
  unfolding digits
  number_again r h e q =
      let z : min r 2147483649 ≡ min (v * 10 + (get_or w i 0 - 48)) 2147483649 = omega arith in
      rw (drop-cons w i 0 h, add-one i, e) (cut_same (drop (suc i) w) r (v * 10 + (get_or w i 0 - 48)) z)

  pub number_end : length w ≤ i → v ≤ 2147483649 → Some v ≡ cut (digits v (drop i w))
  unfolding digits
  number_end h l = let z : min v 2147483649 ≡ v = omega arith in rw (drop_of_length-le w h) (ap Some (sym z))

-- a number outside integer is no integer, as where there is no number
pub up_all : (x : Option ℕ) → upward (cut x) ≡ upward x
up_all None = refl
up_all (Some m) = go (leb m 2147483647) refl
  where
    go : (q : Bool) → leb m 2147483647 ≡ q → cond (leb (min m 2147483649) 2147483647) (Some (pos (min m 2147483649))) None ≡ cond q (Some (pos m)) None
    go true e =
        let l = leb-true m 2147483647 e in
        let z : min m 2147483649 ≡ m = omega arith in
        rw (z, e)
    go false e =
        let l = leb-false m 2147483647 e in
        rw (lt-leb (min m 2147483649) 2147483647 (omega arith))

pub down_all : (x : Option ℕ) → downward (cut x) ≡ downward x
down_all None = refl
down_all (Some m) = go (leb m 2147483648) refl
  where
    go : (q : Bool) → leb m 2147483648 ≡ q
        → cond (leb (min m 2147483649) 2147483648) (Some (neg_ℤ (pos (min m 2147483649)))) None ≡ cond q (Some (neg_ℤ (pos m))) None
    go true e =
        let l = leb-true m 2147483648 e in
        let z : min m 2147483649 ≡ m = omega arith in
        rw (z, e)
    go false e =
        let l = leb-false m 2147483648 e in
        rw (lt-leb (min m 2147483649) 2147483648 (omega arith))

-- the integer of a decimal, after `-` or not
pub read_down : (w d : List ℕ) → w ≡ 45 ∷ d → downward (cut (magnitude d)) ≡ decimal_of w
unfolding decimal_of
read_down w d e = rw e (down_all (magnitude d))

pub read_up : (w : List ℕ) → ((d : List ℕ) → w ≡ 45 ∷ d → ⊥) → upward (cut (magnitude w)) ≡ decimal_of w
unfolding decimal_of magnitude
read_up [] h = refl
read_up (b ∷ w) h =
    let n : b ≡ 45 → ⊥ = λ e. h w (ap (λ (k : ℕ). k ∷ w) e) in
    rw (ne_eqb b 45 n) (up_all (digits 0 (b ∷ w)))

pub read_as_down : (w d : List ℕ) (n x : Option ℕ) (r : Option ℤ) → w ≡ 45 ∷ d → n ≡ cut (magnitude d) → n ≡ x → r ≡ downward x → r ≡ decimal_of w
read_as_down w d n x r e h k q = q ∙ (ap downward (sym k ∙ h) ∙ read_down w d e)

pub read_as_up : (w : List ℕ) (n x : Option ℕ) (r : Option ℤ) → ((d : List ℕ) → w ≡ 45 ∷ d → ⊥) → n ≡ cut (magnitude w) → n ≡ x → r ≡ upward x
    → r ≡ decimal_of w
read_as_up w n x r e h k q = q ∙ (ap upward (sym k ∙ h) ∙ read_up w e)
