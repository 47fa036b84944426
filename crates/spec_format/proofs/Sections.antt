-- The sections of an image are read back, and bytes that are read as sections are their image: by induction on the list of sections. Assumes nothing.
use Prim.Native.Nat.{ℕ, zero, suc, ◌+◌, ◌*◌, ◌/◌, ◌%◌, ◌≤◌, ◌<◌}
use native.Mathlib.Omega.{arith}
use mathlib.Core.Path.{◌≡◌, refl, sym, ap, ◌∙◌}
use mathlib.Core.Logic.{◌↔◌}
use mathlib.Core.Bool.{true, ◌&&◌}
use mathlib.Core.Option.{some, bind}
use mathlib.Core.List.{List, [], ◌∷◌, ◌++◌, append-nil}
use lib.ListN.{length, get_or, take, drop, length-append, length-drop, take-append-drop}
use lib.Seq.{length-take-le, take-append_seam, drop-append_seam, drop-drop, drop_at}
use lib.Dec.{leb, eqb}
use borrow.Author.Tests.{leb-true, le-leb}
use Rattle.spec_semantics.proofs.Basic.{none_some, some_injective, eqb-true, eqb_same, and_left, and_right}
use Rattle.spec_format.specs.Words.{Bytes, bytes2, bytes4, word2_at, word4_at}
use Rattle.spec_format.specs.Image.{pairs, joined, start, image, Sections, form1}
use Rattle.spec_format.specs.Opening.{read_sections, read_image, whole_lines, sections_of}
use Rattle.spec_format.specs.Refusals.{Sectioned}
use Rattle.spec_format.proofs.Words.{word2_bytes2, word4_bytes4, bytes2_front, bytes4_word4, bytes_drop}
use Rattle.spec_format.proofs.Basic.{and_then_some, map_some, only_if_some}

-- Lengths.

pub pairs_length : (o : ℕ) (ss : List (List ℕ)) → length (pairs o ss) ≡ 8 * length ss
unfolding pairs
pairs_length o [] = refl
pairs_length o (s ∷ ss) = omega (arith, pairs_length (o + length s) ss)

pub image_length : (form : ℕ) (ss : List (List ℕ)) → length (image form ss) ≡ start (length ss) + length (joined ss)
unfolding image
image_length form ss = omega (arith, length-append (pairs (start (length ss)) ss) (joined ss), pairs_length (start (length ss)) ss)

pub form1_length : (x : Sections) → length (form1 x) ≡ 28 + (length x.signature + (length x.lines + length x.code))
unfolding form1 joined
form1_length x =
    image_length 1 (x.signature ∷ x.lines ∷ x.code ∷ [])
    ∙ omega (arith, length-append x.signature (x.lines ++ (x.code ++ [])), length-append x.lines (x.code ++ []), ap length (append-nil x.code))

-- What is written is read.

sections_read : (ss : List (List ℕ)) (o : ℕ) (r : List ℕ) → o + length (joined ss) < 4294967296
    → read_sections (length ss) o (pairs o ss ++ r) (joined ss) ≡ some ss
unfolding read_sections pairs joined
sections_read [] o r b = refl
sections_read (s ∷ ss) o r b =
    let e = length-append s (joined ss) in
    rw (
      word4_bytes4 o (omega arith),
      word4_bytes4 (length s) (omega arith),
      eqb_same o,
      le-leb (length s) (length (s ++ joined ss)) (omega arith),
      take-append_seam s (joined ss),
      drop-append_seam s (joined ss),
      sections_read ss (o + length s) r (omega arith),
    )

-- an image's form and count are read, its pairs and sections are left
header_read : (form n : ℕ) (h : List ℕ) → form < 65536 → n < 65536 → 8 * n ≤ length h
    → read_image form n (bytes2 form ++ (bytes2 n ++ h)) ≡ read_sections n (start n) h (drop (8 * n) h)
unfolding read_image
header_read form n h f m l =
    rw (
      word2_bytes2 form f,
      word2_bytes2 n m,
      eqb_same form,
      eqb_same n,
      le-leb (start n) (length (bytes2 form ++ (bytes2 n ++ h))) (omega arith),
      ← drop-drop (8 * n) 4 (bytes2 form ++ (bytes2 n ++ h)),
    )

-- The sections of an image are read back.
pub image_read : (form : ℕ) (ss : List (List ℕ)) → form < 65536 → length (image form ss) < 65536 → read_image form (length ss) (image form ss) ≡ some ss
unfolding image
image_read form ss f b =
    let l = image_length form ss in
    let d = drop_at (pairs (start (length ss)) ss) (joined ss) (8 * length ss) (pairs_length (start (length ss)) ss) in
    let a : 8 * length ss ≤ length (pairs (start (length ss)) ss ++ joined ss) =
    omega (arith, length-append (pairs (start (length ss)) ss) (joined ss), pairs_length (start (length ss)) ss) in
    header_read form (length ss) (pairs (start (length ss)) ss ++ joined ss) f (omega arith) a
    ∙ ap (read_sections (length ss) (start (length ss)) (pairs (start (length ss)) ss ++ joined ss)) d
    ∙ sections_read ss (start (length ss)) (joined ss) (omega arith)

pub whole_lines_lem : (l : List ℕ) (n : ℕ) → length l ≡ 12 * n → 1 ≤ n → n ≤ 512 → whole_lines l ≡ true
unfolding whole_lines
whole_lines_lem l n e lo hi =
    let d : length l / 12 ≡ n = omega arith in
    let m : length l % 12 ≡ 0 = omega arith in
    rw (d, m, le-leb 1 n lo, le-leb n 512 hi)

-- Sections with 1 to 512 whole lines are read back from an image of at most 65,535 bytes.
pub form1_read : (x : Sections) → whole_lines x.lines ≡ true → length (form1 x) ≤ 65535 → sections_of (form1 x) ≡ some x
unfolding sections_of form1 bind
form1_read x w b =
    rw (
      le-leb (length (image 1 (x.signature ∷ x.lines ∷ x.code ∷ []))) 65535 b,
      image_read 1 (x.signature ∷ x.lines ∷ x.code ∷ []) (omega arith) (omega arith),
      w,
    )

-- What is read was written.

two_back : (b : List ℕ) → Bytes b → 4 ≤ length b → bytes2 (word2_at b 0) ++ (bytes2 (word2_at b 2) ++ drop 4 b) ≡ b
unfolding Bytes
two_back [] h l = absurd (omega arith)
two_back (a ∷ []) h l = absurd (omega arith)
two_back (a ∷ b ∷ []) h l = absurd (omega arith)
two_back (a ∷ b ∷ c ∷ []) h l = absurd (omega arith)
two_back (a ∷ b ∷ c ∷ d ∷ s) h l = bytes2_front a b h.0 h.1.0 (bytes2_front c d h.1.1.0 h.1.1.1.0 refl)

four_back : (b : List ℕ) → Bytes b → 4 ≤ length b → bytes4 (word4_at b 0) ++ drop 4 b ≡ b
unfolding Bytes
four_back [] h l = absurd (omega arith)
four_back (a ∷ []) h l = absurd (omega arith)
four_back (a ∷ b ∷ []) h l = absurd (omega arith)
four_back (a ∷ b ∷ c ∷ []) h l = absurd (omega arith)
four_back (a ∷ b ∷ c ∷ d ∷ s) h l = ap (λ z. z ++ s) (bytes4_word4 a b c d h.0 h.1.0 h.1.1.0 h.1.1.1.0)

four_later : (b : List ℕ) → 4 ≤ length b → word4_at b 4 ≡ word4_at (drop 4 b) 0
four_later [] l = absurd (omega arith)
four_later (a ∷ []) l = absurd (omega arith)
four_later (a ∷ b ∷ []) l = absurd (omega arith)
four_later (a ∷ b ∷ c ∷ []) l = absurd (omega arith)
four_later (a ∷ b ∷ c ∷ d ∷ s) l = refl

pair_back : (h : List ℕ) → Bytes h → 8 ≤ length h → bytes4 (word4_at h 0) ++ (bytes4 (word4_at h 4) ++ drop 8 h) ≡ h
pair_back h b l =
    ap (λ z. bytes4 (word4_at h 0) ++ (bytes4 z ++ drop 8 h)) (four_later h (omega arith))
    ∙ ap (λ z. bytes4 (word4_at h 0) ++ (bytes4 (word4_at (drop 4 h) 0) ++ z)) (sym (drop-drop 4 4 h))
    ∙ ap (λ z. bytes4 (word4_at h 0) ++ z) (four_back (drop 4 h) (bytes_drop 4 h b) (omega (arith, length-drop 4 h))) ∙ four_back h b (omega arith)

record SectionsBack (n o : ℕ) (h b : List ℕ) (ss : List (List ℕ)) : Type 0 where
  header : (r : List ℕ) × (h ≡ pairs o ss ++ r)
  body : b ≡ joined ss
  count : length ss ≡ n

sections_back : (n o : ℕ) (h b : List ℕ) (ss : List (List ℕ)) → Bytes h → 8 * n ≤ length h → read_sections n o h b ≡ some ss → SectionsBack n o h b ss
unfolding read_sections pairs joined
sections_back zero o h [] ss g l e = rw (← some_injective [] ss e) (record { header = (h, refl); body = refl; count = refl })
sections_back zero o h (k ∷ b) ss g l e = none_some ss e
sections_back (suc n) o h b ss g l e =
    let z = only_if_some (eqb (word4_at h 0) o && leb (word4_at h 4) (length b)) ss e in
    let m = map_some _ (read_sections n (o + word4_at h 4) (drop 8 h) (drop (word4_at h 4) b)) ss z.1 in
    let r = sections_back n (o + word4_at h 4) (drop 8 h) (drop (word4_at h 4) b) m.0 (bytes_drop 8 h g) (omega (arith, length-drop 8 h)) m.1 in
    let eo = eqb-true (word4_at h 0) o (and_left (eqb (word4_at h 0) o) _ z.0) in
    let el = leb-true (word4_at h 4) (length b) (and_right (eqb (word4_at h 0) o) _ z.0) in
    more (word4_at h 4) m.0 r eo el (pair_back h g (omega arith)) m.2
  where
    more : (k : ℕ) (rest : List (List ℕ)) → SectionsBack n (o + k) (drop 8 h) (drop k b) rest → word4_at h 0 ≡ o → k ≤ length b
        → bytes4 (word4_at h 0) ++ (bytes4 k ++ drop 8 h) ≡ h → take k b ∷ rest ≡ ss → SectionsBack (suc n) o h b ss
    more k rest r eo el p q =
        let t : length (take k b) ≡ k = length-take-le k b el in
        rw (← q)
        (record {
          header = (r.header.0, sym p ∙ rw (eo, t) (ap (λ z. bytes4 o ++ (bytes4 k ++ z)) r.header.1));
          body = sym (take-append-drop k b) ∙ ap (λ z. take k b ++ z) r.body;
          count = ap suc r.count;
        })

-- Bytes that are read as sections are their image.
pub image_back : (form n : ℕ) (b : List ℕ) (ss : List (List ℕ)) → Bytes b → read_image form n b ≡ some ss → (b ≡ image form ss) × (length ss ≡ n)
unfolding read_image image
image_back form n b ss h e =
    let z = only_if_some (leb (start n) (length b) && (eqb (word2_at b 0) form && eqb (word2_at b 2) n)) ss e in
    let el = leb-true (start n) (length b) (and_left (leb (start n) (length b)) _ z.0) in
    let q = and_right (leb (start n) (length b)) _ z.0 in
    let ef = eqb-true (word2_at b 0) form (and_left (eqb (word2_at b 0) form) _ q) in
    let en = eqb-true (word2_at b 2) n (and_right (eqb (word2_at b 0) form) _ q) in
    let s = sections_back n (start n) (drop 4 b) (drop (start n) b) ss (bytes_drop 4 b h) (omega (arith, length-drop 4 b)) z.1 in
    (whole s ef en (two_back b h (omega arith)), s.count)
  where
    whole : SectionsBack n (start n) (drop 4 b) (drop (start n) b) ss → word2_at b 0 ≡ form → word2_at b 2 ≡ n
        → bytes2 (word2_at b 0) ++ (bytes2 (word2_at b 2) ++ drop 4 b) ≡ b
        → b ≡ bytes2 form ++ (bytes2 (length ss) ++ (pairs (start (length ss)) ss ++ joined ss))
    whole s ef en p =
        let r : s.header.0 ≡ joined ss =
        sym (drop_at (pairs (start n) ss) s.header.0 (8 * n) (pairs_length (start n) ss ∙ ap (λ k. 8 * k) s.count))
        ∙ ap (drop (8 * n)) (sym s.header.1) ∙ drop-drop (8 * n) 4 b ∙ s.body in
        sym p ∙ rw (ef, en, s.count) (ap (λ z. bytes2 form ++ (bytes2 n ++ z)) (s.header.1 ∙ ap (λ z. pairs (start n) ss ++ z) r))

three : (ss : List (List ℕ)) → length ss ≡ 3 → ss ≡ get_or ss 0 [] ∷ get_or ss 1 [] ∷ get_or ss 2 [] ∷ []
three [] e = absurd (omega arith)
three (a ∷ []) e = absurd (omega arith)
three (a ∷ b ∷ []) e = absurd (omega arith)
three (a ∷ b ∷ c ∷ []) e = refl
three (a ∷ b ∷ c ∷ d ∷ ss) e = absurd (omega arith)

form1_back : (b : List ℕ) (x : Sections) → Bytes b → sections_of b ≡ some x → Sectioned b x
unfolding sections_of form1
form1_back b x h e =
    let z = only_if_some (leb (length b) 65535) x e in
    let s = and_then_some (read_image 1 3 b) _ x z.1 in
    let w = only_if_some (whole_lines (get_or s.0 1 [])) x s.2 in
    let i = image_back 1 3 b s.0 h s.1 in
    rw (← some_injective _ x w.1)
    (record { bytes = i.0 ∙ ap (image 1) (three s.0 i.1); small = leb-true (length b) 65535 z.0; lines = w.0 })

-- 11 exactly when the bytes are the image of no sections.
pub sections_exactly : (b : List ℕ) (x : Sections) → Bytes b → (sections_of b ≡ some x) ↔ Sectioned b x
sections_exactly b x h = (form1_back b x h, λ s. ap sections_of s.bytes ∙ form1_read x s.lines (rw (← s.bytes) s.small))
