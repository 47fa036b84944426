-- Two words have one folded number exactly when they are the same without regard to case. Assumes nothing.
use mathlib.Core.Path.{◌≡◌, refl, sym, ◌∙◌, ap}
use mathlib.Core.Bool.{Bool, true, false, cond, ◌||◌}
use mathlib.Core.Logic.{◌↔◌}
use mathlib.Core.List.{List, [], ◌∷◌, map, reverse_aux, reverse, reverse-reverse}
use Prim.Native.Nat.{ℕ, ◌+◌, ◌*◌, ◌≤◌, ◌<◌}
use native.Mathlib.Omega.{arith}
use lib.Dec.{eqb, leb, leb→le}
use Rattle.spec_language.specs.Bytes.{between, elem, fixed, bytes_of, blank, quote, mark, none, byte_kind, kind_code, is, in_word, lower}
use Rattle.spec_language.specs.Words.{folded}
use Rattle.spec_language.specs.Lexing.{all}
use Rattle.spec_language.proofs.Facts.{clash, and_true_both, eqb_eq, is_T}

pub between_le : (lo hi b : ℕ) → between lo hi b ≡ true → (lo ≤ b) × (b ≤ hi)
unfolding between
between_le lo hi b e = let s = and_true_both (leb lo b) (leb b hi) e in (leb→le lo b (is_T s.0), leb→le b hi (is_T s.1))

-- a byte of a word is no NUL and below 128, and so is its small letter
word_byte : (b : ℕ) → in_word b ≡ true → (0 < b) × (b < 123)
unfolding in_word is byte_kind
word_byte b e = first (between 97 122 b) refl
  where
    fourth : (q : Bool) → eqb b 95 ≡ q → between 97 122 b ≡ false → between 65 90 b ≡ false → between 48 57 b ≡ false → (0 < b) × (b < 123)
    fourth true h l u d = let s = eqb_eq b 95 h in (omega arith, omega arith)
    fourth false h l u d = others (elem b (32 ∷ 9 ∷ 10 ∷ 13 ∷ [])) (eqb b 39) (elem b (bytes_of fixed)) (rw (l, u, d, h) at e)
      where
        others : (x y z : Bool)
            → (eqb 0 (kind_code (cond x blank (cond y quote (cond z mark none)))) ||
            (eqb 1 (kind_code (cond x blank (cond y quote (cond z mark none)))) || eqb 2 (kind_code (cond x blank (cond y quote (cond z mark none)))))) ≡ true
            → (0 < b) × (b < 123)
        others true y z f = clash (sym f)
        others false true z f = clash (sym f)
        others false false true f = clash (sym f)
        others false false false f = clash (sym f)

    third : (q : Bool) → between 48 57 b ≡ q → between 97 122 b ≡ false → between 65 90 b ≡ false → (0 < b) × (b < 123)
    third true h l u = let s = between_le 48 57 b h in (omega arith, omega arith)
    third false h l u = fourth (eqb b 95) refl l u h

    second : (q : Bool) → between 65 90 b ≡ q → between 97 122 b ≡ false → (0 < b) × (b < 123)
    second true h l = let s = between_le 65 90 b h in (omega arith, omega arith)
    second false h l = third (between 48 57 b) refl l h

    first : (q : Bool) → between 97 122 b ≡ q → (0 < b) × (b < 123)
    first true h = let s = between_le 97 122 b h in (omega arith, omega arith)
    first false h = second (between 65 90 b) refl h

pub lower_range : (b : ℕ) → in_word b ≡ true → (0 < lower b) × (lower b < 256)
unfolding lower
lower_range b e = go (between 65 90 b) (word_byte b e)
  where
    go : (u : Bool) → (0 < b) × (b < 123) → (0 < cond u (b + 32) b) × (cond u (b + 32) b < 256)
    go true h = (omega arith, omega arith)
    go false h = (omega arith, omega arith)

-- the digits from the last
radix : List ℕ → ℕ
radix [] = 0
radix (b ∷ l) = radix l * 256 + lower b

folded_radix : (w a : List ℕ) → folded (radix a) w ≡ radix (reverse_aux w a)
unfolding radix folded
folded_radix [] a = refl
folded_radix (b ∷ w) a = folded_radix w (b ∷ a)

cons_both : {b c : ℕ} {l v : List ℕ} → b ≡ c → l ≡ v → b ∷ l ≡ c ∷ v
cons_both e f = cc

radix_one : (a b : List ℕ) → all in_word a ≡ true → all in_word b ≡ true → radix a ≡ radix b → map lower a ≡ map lower b
unfolding radix all
radix_one [] [] p q e = refl
radix_one [] (c ∷ b) p q e = let s = and_true_both (in_word c) (all in_word b) q in let r = lower_range c s.0 in absurd (omega arith)
radix_one (x ∷ a) [] p q e = let s = and_true_both (in_word x) (all in_word a) p in let r = lower_range x s.0 in absurd (omega arith)
radix_one (x ∷ a) (c ∷ b) p q e =
    let s = and_true_both (in_word x) (all in_word a) p in
    let t = and_true_both (in_word c) (all in_word b) q in
    let r = lower_range x s.0 in
    let u = lower_range c t.0 in
    cons_both (omega arith) (radix_one a b s.1 t.1 (omega arith))

all_reverse : (p : ℕ → Bool) (w a : List ℕ) → all p w ≡ true → all p a ≡ true → all p (reverse_aux w a) ≡ true
unfolding all
all_reverse p [] a e f = f
all_reverse p (b ∷ w) a e f = let s = and_true_both (p b) (all p w) e in all_reverse p w (b ∷ a) s.1 (rw s.0 f)

mapped_reverse : (w a : List ℕ) → map lower (reverse_aux w a) ≡ reverse_aux (map lower w) (map lower a)
mapped_reverse [] a = refl
mapped_reverse (b ∷ w) a = mapped_reverse w (b ∷ a)

-- the folded number from the folded bytes
packed : ℕ → List ℕ → ℕ
packed v [] = v
packed v (b ∷ l) = packed (v * 256 + b) l

folded_packed : (v : ℕ) (w : List ℕ) → folded v w ≡ packed v (map lower w)
unfolding folded packed
folded_packed v [] = refl
folded_packed v (b ∷ w) = folded_packed (v * 256 + lower b) w

pub one_name : (w u : List ℕ) → all in_word w ≡ true → all in_word u ≡ true → (folded 0 w ≡ folded 0 u) ↔ (map lower w ≡ map lower u)
unfolding radix all
one_name w u p q = (there, λ e. folded_packed 0 w ∙ (ap (packed 0) e ∙ sym (folded_packed 0 u)))
  where
    there : folded 0 w ≡ folded 0 u → map lower w ≡ map lower u
    there e =
        let r : map lower (reverse w) ≡ map lower (reverse u) =
        radix_one (reverse w) (reverse u) (all_reverse in_word w [] p refl) (all_reverse in_word u [] q refl)
        (sym (folded_radix w []) ∙ (e ∙ folded_radix u [])) in
        let s : reverse (map lower w) ≡ reverse (map lower u) = sym (mapped_reverse w []) ∙ (r ∙ mapped_reverse u []) in
        sym (reverse-reverse (map lower w)) ∙ (ap reverse s ∙ reverse-reverse (map lower u))
