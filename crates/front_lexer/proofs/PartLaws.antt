-- A number's value and the comparison of names, one byte more. Assumes nothing.
use mathlib.Core.Path.{◌≡◌, refl, sym, ◌∙◌, ap}
use mathlib.Core.Bool.{Bool, true, false}
use mathlib.Core.List.{List, [], map}
use Prim.Native.Nat.{ℕ, ◌+◌, ◌*◌, ◌-◌, min, ◌≤◌, ◌<◌}
use native.Mathlib.Omega.{arith}
use native.Mathlib.Numerals.{add-one}
use lib.ListN.{length, get_or, drop, drop_of_length-le, length-drop, length-map}
use lib.Seq.{drop-cons, take_all, take-nil}
use Rattle.std.specs.Prelude.{IsTrue, ◌↔◌}
use Rattle.std.specs.Char.{to_ascii_lowercase}
use Rattle.std.proofs.lemmas.List.{get_or-map}
use Rattle.spec_language.specs.Bytes.{lower}
use Rattle.spec_language.specs.Words.{value}
use Rattle.spec_language.specs.Lexing.{equal}
use Rattle.spec_language.proofs.Facts.{clash}
use Rattle.spec_language.proofs.Lexing.{equal_is, equal_refl}
use Rattle.front_token.specs.Places.{part}
use Rattle.front_token.proofs.Lower.{lower_all}
use Rattle.front_token.proofs.WordLaws.{spells_by}

-- a part of a text, by where it ends
pub part_past : (text : List ℕ) (start size : ℕ) → length text ≤ start → [] ≡ part text start size
part_past text start size h = rw (drop_of_length-le text h) (sym (take-nil size))

pub part_rest : (text : List ℕ) (start size : ℕ) → length text - start ≤ size → part text start (length text - start) ≡ part text start size
part_rest text start size h =
    let l = length-drop start text in
    take_all (length text - start) (drop start text) (omega arith) ∙ sym (take_all size (drop start text) (omega arith))

pub part_sized : (text : List ℕ) (start size : ℕ) → part text start (start + size - start) ≡ part text start size
part_sized text start size = let n : start + size - start ≡ size = omega arith in rw n

module _ (digits : List ℕ) (i v : ℕ) where
  pub value_again : (r : ℕ) → i < length digits → r ≡ min (v * 10 + (get_or digits i 0 - 48)) 2147483648 → value r (drop (i + 1) digits) ≡ value v (drop i digits)
  unfolding value
  value_again r h e = rw (drop-cons digits i 0 h, add-one i, e)

  pub value_end : length digits ≤ i → value v (drop i digits) ≡ v
  unfolding value
  value_end h = rw (drop_of_length-le digits h)

-- two words are the same in lower case, as the library has it
pub same_by : (a b : List ℕ) (r : Bool) → IsTrue r ↔ (map to_ascii_lowercase a ≡ map to_ascii_lowercase b) → r ≡ equal (map lower a) (map lower b)
same_by a b r e = go r (rw (lower_all a, lower_all b) at e) (equal (map lower a) (map lower b)) refl
  where
    go : (r : Bool) → IsTrue r ↔ (map lower a ≡ map lower b) → (q : Bool) → equal (map lower a) (map lower b) ≡ q → r ≡ q
    go true e q f = sym (equal_refl (map lower a)) ∙ (ap (equal (map lower a)) (e.0 refl) ∙ f)
    go false e true f = clash (sym (e.1 (equal_is (map lower a) (map lower b) f)))
    go false e false f = refl

equal_comm : (a b : List ℕ) → equal a b ≡ equal b a
equal_comm a b = go (equal a b) refl (equal b a) refl
  where
    go : (p : Bool) → equal a b ≡ p → (q : Bool) → equal b a ≡ q → p ≡ q
    go true e true f = refl
    go false e false f = refl
    go true e false f = clash (sym (equal_refl a) ∙ (ap (λ (x : List ℕ). equal x a) (equal_is a b e) ∙ f))
    go false e true f = clash (sym (equal_refl b) ∙ (ap (λ (x : List ℕ). equal x b) (equal_is b a f) ∙ e))

-- two words are the same in lower case, as long and alike at every place
pub folded_by : (a b : List ℕ) (r : Bool) → length a ≡ length b → IsTrue r ↔ ((k : ℕ) → k < length a → lower (get_or a k 0) ≡ lower (get_or b k 0))
    → r ≡ equal (map lower a) (map lower b)
folded_by a b r l e = spells_by (map lower b) a r (l ∙ sym (length-map b lower)) (back e) ∙ equal_swapped
  where
    at : (k : ℕ) → k < length a → get_or (map lower b) k 0 ≡ lower (get_or b k 0)
    at k h = let m : k < length b = omega (arith, l) in get_or-map lower b k 0 0 m

    back : IsTrue r ↔ ((k : ℕ) → k < length a → lower (get_or a k 0) ≡ lower (get_or b k 0))
        → IsTrue r ↔ ((k : ℕ) → k < length a → lower (get_or a k 0) ≡ get_or (map lower b) k 0)
    back f = ((λ t k h. f.0 t k h ∙ sym (at k h)), (λ g. f.1 (λ k h. g k h ∙ at k h)))

    equal_swapped : equal (map lower b) (map lower a) ≡ equal (map lower a) (map lower b)
    equal_swapped = equal_comm (map lower b) (map lower a)

pub folded_length : (a b : List ℕ) → (length a ≡ length b → ⊥) → equal (map lower a) (map lower b) ≡ false
folded_length a b h = go (equal (map lower a) (map lower b)) refl
  where
    go : (q : Bool) → equal (map lower a) (map lower b) ≡ q → q ≡ false
    go false e = refl
    go true e = absurd (h (sym (length-map a lower) ∙ (ap length (equal_is (map lower a) (map lower b) e) ∙ length-map b lower)))
