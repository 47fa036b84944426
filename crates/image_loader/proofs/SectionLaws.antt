-- Reading the sections of an image is one test by places, and the sections are parts of the image. Assumes nothing.
use Prim.Native.Nat.{ℕ, suc, ◌+◌, ◌-◌, ◌≤◌}
use native.Mathlib.Omega.{arith}
use mathlib.Core.Path.{◌≡◌, refl, ap, ◌∙◌}
use mathlib.Core.Bool.{Bool, true, false, ◌&&◌}
use mathlib.Core.Option.{Option, some, map, bind}
use mathlib.Core.List.{List, [], ◌∷◌}
use lib.ListN.{length, get_or, take, drop, length-drop, drop_of_length-le}
use lib.Seq.{get_or-drop, drop-drop, length-take-le}
use lib.Dec.{leb, eqb}
use borrow.Author.Tests.{leb-true, le-leb, eq-eqb}
use Rattle.spec_semantics.proofs.Basic.{false_true, eqb-true, and_left, and_right}
use Rattle.spec_format.specs.Words.{word4, word2_at, word4_at, only_if}
use Rattle.spec_format.specs.Image.{Sections}
use Rattle.spec_format.specs.Opening.{read_sections, read_image, whole_lines, sections_of, is_empty}
use Rattle.spec_semantics.proofs.Basic.{and_both}
use Rattle.image_loader.specs.Sections.{is_some, signature_length, lines_length, code_length, lines_start, code_start, part, parts, headed, paired, whole}
use Rattle.image_loader.specs.Sections.{sectioned}
use Rattle.image_loader.proofs.Bools.{same_test}

-- a word of the rest
pub word_drop : (k j m : ℕ) (s : List ℕ) → k + j ≡ m → word4_at (drop k s) j ≡ word4_at s m
word_drop k j m s e =
    let i1 : k + (j + 1) ≡ m + 1 = omega arith in
    let i2 : k + (j + 2) ≡ m + 2 = omega arith in
    let i3 : k + (j + 3) ≡ m + 3 = omega arith in
    four (get_or-drop k s j 0 ∙ ap (λ (i : ℕ). get_or s i 0) e) (get_or-drop k s (j + 1) 0 ∙ ap (λ (i : ℕ). get_or s i 0) i1)
    (get_or-drop k s (j + 2) 0 ∙ ap (λ (i : ℕ). get_or s i 0) i2) (get_or-drop k s (j + 3) 0 ∙ ap (λ (i : ℕ). get_or s i 0) i3)
  where
    four : {a b c d x y z w : ℕ} → a ≡ x → b ≡ y → c ≡ z → d ≡ w → word4 a b c d ≡ word4 x y z w
    four p q r t = rw (p, q, r, t)

-- one pair and its section
pair_read : (n o : ℕ) (h b r : List ℕ) (a k : ℕ) → word4_at h 0 ≡ a → word4_at h 4 ≡ k → drop 8 h ≡ r
    → read_sections (suc n) o h b ≡ only_if (eqb a o && leb k (length b)) (map (λ ss. take k b ∷ ss) (read_sections n (o + k) r (drop k b)))
unfolding read_sections
pair_read n o h b r a k p q d = rw (← p, ← q, ← d)

is_empty_read : (o : ℕ) (h b : List ℕ) → read_sections 0 o h b ≡ only_if (is_empty b) (some [])
unfolding read_sections
is_empty_read o h [] = refl
is_empty_read o h (k ∷ b) = refl

-- tests one after the other are one test
all_four : {X : Type 0} (f g h : X → X) (x : X) (p q r t : Bool)
    → only_if p (map f (only_if q (map g (only_if r (map h (only_if t (some x))))))) ≡ only_if (p && (q && (r && t))) (some (f (g (h x))))
all_four f g h x true true true true = refl
all_four f g h x true true true false = refl
all_four f g h x true true false t = refl
all_four f g h x true false r t = refl
all_four f g h x false q r t = refl

pub empty_drop : (k : ℕ) (b : List ℕ) → length b ≤ k → is_empty (drop k b) ≡ true
empty_drop k b h = rw (drop_of_length-le b h)

pub drop_empty : (k : ℕ) (b : List ℕ) → is_empty (drop k b) ≡ true → length b ≤ k
drop_empty k b h = go (drop k b) (length-drop k b) h
  where
    go : (s : List ℕ) → length s ≡ length b - k → is_empty s ≡ true → length b ≤ k
    go [] e q = omega arith
    go (x ∷ s) e q = false_true q

-- the tests of the pairs, one section after the other, of s, n and m bytes
abbrev one_by_one : List ℕ → ℕ → ℕ → ℕ → ℕ → ℕ → ℕ → Bool
one_by_one b p q r s n m =
    (eqb p 28 && leb s (length (drop 28 b)))
    && ((eqb q (28 + s) && leb n (length (drop s (drop 28 b))))
    && ((eqb r (28 + s + n) && leb m (length (drop n (drop s (drop 28 b))))) && is_empty (drop m (drop n (drop s (drop 28 b))))))

three_read : (b : List ℕ) (p q r s n m : ℕ) → word4_at b 4 ≡ p → word4_at b 12 ≡ q → word4_at b 20 ≡ r → word4_at b 8 ≡ s → word4_at b 16 ≡ n → word4_at b 24 ≡ m
    → read_sections 3 28 (drop 4 b) (drop 28 b)
    ≡ only_if (one_by_one b p q r s n m) (some (take s (drop 28 b) ∷ take n (drop s (drop 28 b)) ∷ take m (drop n (drop s (drop 28 b))) ∷ []))
three_read b p q r s n m ep eq er es en em =
    pair_read 2 28 (drop 4 b) (drop 28 b) (drop 12 b) p s (word_drop 4 0 4 b refl ∙ ep) (word_drop 4 4 8 b refl ∙ es) (drop-drop 8 4 b)
    ∙ ap (λ z. only_if (eqb p 28 && leb s (length (drop 28 b))) (map (λ ss. take s (drop 28 b) ∷ ss) z))
    (pair_read 1 (28 + s) (drop 12 b) (drop s (drop 28 b)) (drop 20 b) q n (word_drop 12 0 12 b refl ∙ eq) (word_drop 12 4 16 b refl ∙ en) (drop-drop 8 12 b)
    ∙ ap (λ z. only_if (eqb q (28 + s) && leb n (length (drop s (drop 28 b)))) (map (λ ss. take n (drop s (drop 28 b)) ∷ ss) z))
    (pair_read 0 (28 + s + n) (drop 20 b) (drop n (drop s (drop 28 b))) (drop 28 b) r m
    (word_drop 20 0 20 b refl ∙ er) (word_drop 20 4 24 b refl ∙ em) (drop-drop 8 20 b)
    ∙ ap (λ z. only_if (eqb r (28 + s + n) && leb m (length (drop n (drop s (drop 28 b))))) (map (λ ss. take m (drop n (drop s (drop 28 b))) ∷ ss) z))
    (is_empty_read (28 + s + n + m) (drop 28 b) (drop m (drop n (drop s (drop 28 b)))))))
    ∙ all_four (λ ss. take s (drop 28 b) ∷ ss) (λ ss. take n (drop s (drop 28 b)) ∷ ss) (λ ss. take m (drop n (drop s (drop 28 b))) ∷ ss) []
    (eqb p 28 && leb s (length (drop 28 b))) (eqb q (28 + s) && leb n (length (drop s (drop 28 b))))
    (eqb r (28 + s + n) && leb m (length (drop n (drop s (drop 28 b))))) (is_empty (drop m (drop n (drop s (drop 28 b)))))

-- they hold exactly where no section leaves a gap and the last ends the image
same_tests : (b : List ℕ) (p q r s n m : ℕ) → 28 ≤ length b
    → one_by_one b p q r s n m ≡ (eqb p 28 && (eqb q (28 + s) && (eqb r (28 + s + n) && eqb (length b) (28 + s + n + m))))
same_tests b p q r s n m l =
    same_test (one_by_one b p q r s n m) (eqb p 28 && (eqb q (28 + s) && (eqb r (28 + s + n) && eqb (length b) (28 + s + n + m)))) there back
  where
    d0 : length (drop 28 b) ≡ length b - 28
    d0 = length-drop 28 b

    d1 : length (drop s (drop 28 b)) ≡ length b - 28 - s
    d1 = length-drop s (drop 28 b) ∙ ap (λ z. z - s) d0

    d2 : length (drop n (drop s (drop 28 b))) ≡ length b - 28 - s - n
    d2 = length-drop n (drop s (drop 28 b)) ∙ ap (λ z. z - n) d1

    there : one_by_one b p q r s n m ≡ true → (eqb p 28 && (eqb q (28 + s) && (eqb r (28 + s + n) && eqb (length b) (28 + s + n + m)))) ≡ true
    there h =
        let h1 = and_left (eqb p 28 && leb s (length (drop 28 b))) _ h in
        let h2 = and_right (eqb p 28 && leb s (length (drop 28 b))) _ h in
        let h3 = and_left (eqb q (28 + s) && leb n (length (drop s (drop 28 b)))) _ h2 in
        let h4 = and_right (eqb q (28 + s) && leb n (length (drop s (drop 28 b)))) _ h2 in
        let h5 = and_left (eqb r (28 + s + n) && leb m (length (drop n (drop s (drop 28 b))))) _ h4 in
        let g0 = leb-true s (length (drop 28 b)) (and_right (eqb p 28) _ h1) in
        let g1 = leb-true n (length (drop s (drop 28 b))) (and_right (eqb q (28 + s)) _ h3) in
        let g2 = leb-true m (length (drop n (drop s (drop 28 b)))) (and_right (eqb r (28 + s + n)) _ h5) in
        let g3 = drop_empty m (drop n (drop s (drop 28 b))) (and_right (eqb r (28 + s + n) && leb m (length (drop n (drop s (drop 28 b))))) _ h4) in
        let e : length b ≡ 28 + s + n + m = omega (arith, d0, d1, d2) in
        and_both (eqb p 28) _ (and_left (eqb p 28) _ h1) (and_both (eqb q (28 + s)) _ (and_left (eqb q (28 + s)) _ h3)
        (and_both (eqb r (28 + s + n)) _ (and_left (eqb r (28 + s + n)) _ h5) (eq-eqb (length b) (28 + s + n + m) e)))

    back : (eqb p 28 && (eqb q (28 + s) && (eqb r (28 + s + n) && eqb (length b) (28 + s + n + m)))) ≡ true → one_by_one b p q r s n m ≡ true
    back h =
        let h1 = and_right (eqb p 28) _ h in
        let h2 = and_right (eqb q (28 + s)) _ h1 in
        let e = eqb-true (length b) (28 + s + n + m) (and_right (eqb r (28 + s + n)) _ h2) in
        and_both (eqb p 28 && leb s (length (drop 28 b))) _ (and_both (eqb p 28) _ (and_left (eqb p 28) _ h) (le-leb s (length (drop 28 b)) (omega
        (arith, d0))))
        (and_both (eqb q (28 + s) && leb n (length (drop s (drop 28 b)))) _ (and_both (eqb q (28 + s)) _ (and_left (eqb q (28 + s)) _ h1) (le-leb n
        (length (drop s (drop 28 b))) (omega (arith, d1))))
        (and_both (eqb r (28 + s + n) && leb m (length (drop n (drop s (drop 28 b))))) _ (and_both (eqb r (28 + s + n)) _ (and_left (eqb r (28 + s +
        n)) _ h2) (le-leb m (length (drop n (drop s (drop 28 b)))) (omega (arith, d2))))
        (empty_drop m (drop n (drop s (drop 28 b))) (omega (arith, d2)))))

-- what is read of the pairs, as one test
pairs_read : (b : List ℕ) → 28 ≤ length b
    → read_sections 3 28 (drop 4 b) (drop 28 b) ≡ only_if (paired b) (some ((parts b).signature ∷ (parts b).lines ∷ (parts b).code ∷ []))
unfolding paired parts
pairs_read b l =
    three_read b (word4_at b 4) (word4_at b 12) (word4_at b 20) (signature_length b) (lines_length b) (code_length b) refl refl refl refl refl refl
    ∙ moved (one_by_one b (word4_at b 4) (word4_at b 12) (word4_at b 20) (signature_length b) (lines_length b) (code_length b)) _
    (same_tests b (word4_at b 4) (word4_at b 12) (word4_at b 20) (signature_length b) (lines_length b) (code_length b) l)
    (signature_length b) (lines_length b) (code_length b)
  where
    moved : (t u : Bool) → t ≡ u → (s n m : ℕ)
        → ◌≡◌ {A = Option (List (List ℕ))} (only_if t (some (take s (drop 28 b) ∷ take n (drop s (drop 28 b)) ∷ take m (drop n (drop s (drop 28 b))) ∷ [])))
        (only_if u (some (take s (drop 28 b) ∷ take n (drop (28 + s) b) ∷ take m (drop (28 + s + n) b) ∷ [])))
    moved t u e s n m = rw (e, drop-drop s 28 b, drop-drop n (28 + s) b)

-- the length of a section that lies within the image
pub part_length : (b : List ℕ) (o n : ℕ) → o + n ≤ length b → length (part b o n) ≡ n
part_length b o n h = length-take-le n (drop o b) (omega (arith, length-drop o b))

-- the parts of the image that are its sections have the lengths that the header gives
pub record Lengths (b : List ℕ) : Type 0 where
  pub all : length b ≡ code_start b + code_length b
  pub signature : length (parts b).signature ≡ signature_length b
  pub lines : length (parts b).lines ≡ lines_length b
  pub code : length (parts b).code ≡ code_length b

pub paired_lengths : (b : List ℕ) → paired b ≡ true → Lengths b
unfolding paired parts
paired_lengths b h =
    let h1 = and_right (eqb (word4_at b 4) 28) _ h in
    let h2 = and_right (eqb (word4_at b 12) (lines_start b)) _ h1 in
    let e = eqb-true (length b) (code_start b + code_length b) (and_right (eqb (word4_at b 20) (code_start b)) _ h2) in
    record {
      all = e;
      signature = part_length b 28 (signature_length b) (omega arith);
      lines = part_length b (lines_start b) (lines_length b) (omega arith);
      code = part_length b (code_start b) (code_length b) (omega arith);
    }

whole_part : (b : List ℕ) → paired b ≡ true → whole_lines (parts b).lines ≡ whole (lines_length b)
unfolding whole_lines whole
whole_part b h = rw (paired_lengths b h).lines

-- tests one after the other are one test
two_tests : {X : Type 0} (p w v : Bool) (x : Option X) → (p ≡ true → w ≡ v) → only_if p (only_if w x) ≡ only_if (p && v) x
two_tests true w v x h = rw (h refl)
two_tests false w v x h = refl

bind_only_if : {X Y : Type 0} (t : Bool) (x : Option X) (k : X → Option Y) → bind (only_if t x) k ≡ only_if t (bind x k)
unfolding bind
bind_only_if true x k = refl
bind_only_if false x k = refl

all_tests : {X : Type 0} (a c d e w : Bool) (x : X) (y : Option X) → (c ≡ true → y ≡ only_if w (some x))
    → only_if a (only_if (c && (d && e)) y) ≡ only_if ((a && (c && (d && e))) && w) (some x)
all_tests true true true true w x y h = h refl
all_tests true true true false w x y h = refl
all_tests true true false e w x y h = refl
all_tests true false d e w x y h = refl
all_tests false c d e w x y h = refl

-- the sections of what was read
abbrev taken : List (List ℕ) → Option Sections
taken ss = only_if (whole_lines (get_or ss 1 [])) (some (record { signature = get_or ss 0 []; lines = get_or ss 1 []; code = get_or ss 2 [] }))

lines_read : (b : List ℕ) → 28 ≤ length b → bind (read_sections 3 28 (drop 4 b) (drop 28 b)) taken ≡ only_if (paired b && whole (lines_length b)) (some (parts b))
unfolding bind
lines_read b l =
    ap (λ z. bind z taken) (pairs_read b l)
    ∙ bind_only_if (paired b) (some ((parts b).signature ∷ (parts b).lines ∷ (parts b).code ∷ [])) taken
    ∙ two_tests (paired b) (whole_lines (parts b).lines) (whole (lines_length b)) (some (parts b)) (whole_part b)

-- The sections of an image are its three parts, where the tests of refusal 11 hold.
pub sections_read : (b : List ℕ) → sections_of b ≡ only_if (sectioned b) (some (parts b))
unfolding sections_of read_image sectioned headed
sections_read b =
    ap (only_if (leb (length b) 65535)) (bind_only_if (leb 28 (length b) && (eqb (word2_at b 0) 1 && eqb (word2_at b 2) 3)) (read_sections 3 28 (drop 4 b)
    (drop 28 b)) taken)
    ∙ all_tests (leb (length b) 65535) (leb 28 (length b)) (eqb (word2_at b 0) 1) (eqb (word2_at b 2) 3) (paired b && whole (lines_length b)) (parts b)
    (bind (read_sections 3 28 (drop 4 b) (drop 28 b)) taken) (λ h. lines_read b (leb-true 28 (length b) h))

-- what refusal 11 tests
pub sections_test : (b : List ℕ) → is_some (sections_of b) ≡ sectioned b
sections_test b = ap is_some (sections_read b) ∙ go (sectioned b)
  where
    go : (t : Bool) → is_some (only_if t (some (parts b))) ≡ t
    go true = refl
    go false = refl
