-- The bytes of a word's folded number are the word's bytes in lower case, at most 32. Assumes nothing.
use mathlib.Core.Path.{◌≡◌, refl, ◌∙◌, ap}
use mathlib.Core.Bool.{Bool, true, false, cond}
use mathlib.Core.List.{List, [], ◌∷◌, ◌++◌, append-nil, map}
use Prim.Native.Nat.{ℕ, zero, suc, ◌+◌, ◌*◌, ◌-◌, ◌/◌, ◌%◌, ◌≤◌, ◌<◌}
use native.Mathlib.Omega.{arith}
use lib.Dec.{eqb}
use lib.ListN.{length}
use borrow.Author.Tests.{ne_eqb}
use Rattle.spec_design.specs.Spelling.{digits, name_bytes}
use Rattle.spec_language.specs.Bytes.{in_word, lower}
use Rattle.spec_language.specs.Words.{folded}
use Rattle.spec_language.specs.Lexing.{all}
use Rattle.spec_language.proofs.Facts.{and_true_both}
use Rattle.spec_language.proofs.Folding.{lower_range}

-- one digit is taken off
digit_off : (n v x : ℕ) (l : List ℕ) → 0 < x → x < 256 → digits (suc n) (v * 256 + x) l ≡ digits n v (x ∷ l)
unfolding digits
digit_off n v x l p q =
    let a : (v * 256 + x) / 256 ≡ v = omega arith in
    let b : (v * 256 + x) % 256 ≡ x = omega arith in
    rw (ne_eqb (v * 256 + x) 0 (λ e. omega arith), a, b)

-- all digits of a word are taken off
digits_off : (w : List ℕ) → all in_word w ≡ true → (n v : ℕ) (l : List ℕ) → digits (n + length w) (folded v w) l ≡ digits n v (map lower w ++ l)
unfolding folded all
digits_off [] p n v l = let z : n + 0 ≡ n = omega arith in rw z
digits_off (b ∷ w) p n v l =
    let s = and_true_both (in_word b) (all in_word w) p in
    let r = lower_range b s.0 in
    let z : n + suc (length w) ≡ suc n + length w = omega arith in
    rw z (digits_off w s.1 (suc n) (v * 256 + lower b) l ∙ digit_off n v (lower b) (map lower w ++ l) r.0 r.1)

no_digits : (n : ℕ) (l : List ℕ) → digits n 0 l ≡ l
unfolding digits
no_digits zero l = refl
no_digits (suc n) l = refl

-- the bytes of a word of at most 32, from its folded number
pub word_bytes : (w : List ℕ) → all in_word w ≡ true → length w ≤ 32 → name_bytes (folded 0 w) ≡ map lower w
unfolding name_bytes
word_bytes w p h =
    let z : 32 ≡ (32 - length w) + length w = omega arith in
    ap (λ (n : ℕ). digits n (folded 0 w) []) z
    ∙ (digits_off w p (32 - length w) 0 [] ∙ (no_digits (32 - length w) (map lower w ++ []) ∙ append-nil (map lower w)))

-- at most 32 bytes, whatever the number
digits_short : (n v : ℕ) (l : List ℕ) → length (digits n v l) ≤ n + length l
unfolding digits
digits_short zero v l = omega arith
digits_short (suc n) v l = go (eqb v 0) (digits_short n (v / 256) (v % 256 ∷ l))
  where
    go : (b : Bool) → length (digits n (v / 256) (v % 256 ∷ l)) ≤ n + suc (length l) → length (cond b l (digits n (v / 256) (v % 256 ∷ l))) ≤ suc n + length l
    go true h = omega arith
    go false h = omega arith

pub name_short : (v : ℕ) → length (name_bytes v) ≤ 32
unfolding name_bytes
name_short v = let h = digits_short 32 v [] in omega arith
