-- Words by their places: underscores, the reserved words by their bytes, and that these are the reserved words by their folded number. Assumes nothing.
use mathlib.Core.Path.{◌≡◌, refl, sym, ◌∙◌, ap}
use mathlib.Core.Bool.{Bool, true, false, cond, not, ◌&&◌}
use mathlib.Core.Logic.{◌⊎◌, inl, inr}
use mathlib.Core.List.{List, [], ◌∷◌, map}
use Prim.Native.Nat.{ℕ, suc, ◌+◌, ◌≤◌, ◌<◌}
use native.Mathlib.Omega.{arith}
use native.Mathlib.Numerals.{add-one}
use Rattle.std.proofs.lemmas.List.{get_or-map}
use Rattle.std.specs.Prelude.{IsTrue, ◌↔◌}
use lib.Dec.{eqb}
use lib.ListN.{length, get_or, take, drop, drop_of_length-le, length-map}
use lib.Seq.{drop-cons}
use borrow.Author.Tests.{eqb-false, eq-eqb, ne_eqb}
use Rattle.base_codes.specs.Token.{NAME}
use Rattle.spec_language.specs.Bytes.{bytes, between, elem, fixed, bytes_of, byte_kind, is, is_under, in_word, lower}
use Rattle.spec_language.specs.Words.{well_made, Word, reserved, folded, word_kind}
use Rattle.spec_language.specs.Lexing.{all, equal}
use Rattle.spec_language.specs.Lexer.{begins}
use Rattle.spec_language.proofs.Facts.{clash, and_true_both}
use Rattle.spec_language.proofs.Lexing.{equal_is, equal_refl}
use Rattle.spec_language.proofs.Folding.{one_name}
use Rattle.front_token.specs.Reserved.{spelled_kind, reserved_kind, keep_if, of_size}

-- one byte more of a word, u saying that an underscore stands before it, and here that it is one
module _ (word : List ℕ) (i : ℕ) (u here : Bool) (h : i < length word) (q : here ≡ is_under (get_or word i 0)) where
  pub made_again : ((u ≡ true) × (here ≡ false)) ⊎ (u ≡ false) → well_made here (drop (i + 1) word) ≡ well_made u (drop i word)
  unfolding well_made
  made_again (inl e) = rw (drop-cons word i 0 h, add-one i, ← q, e.0, e.1)
  made_again (inr e) = rw (drop-cons word i 0 h, add-one i, ← q, e)

  pub made_stop : u ≡ true → here ≡ true → well_made u (drop i word) ≡ false
  unfolding well_made
  made_stop e f = rw (drop-cons word i 0 h, ← q, e, f)

pub made_end : (word : List ℕ) (i : ℕ) (u : Bool) → length word ≤ i → well_made u (drop i word) ≡ not u
unfolding well_made
made_end word i u h = rw (drop_of_length-le word h)

-- one byte more of a spelling w and of a word x as long
module _ (w x : List ℕ) (i : ℕ) where
  pub spells_again : i < length w → length x ≡ length w → lower (get_or x i 0) ≡ get_or w i 0
      → equal (drop (i + 1) w) (map lower (drop (i + 1) x)) ≡ equal (drop i w) (map lower (drop i x))
  unfolding equal
  spells_again h l e = rw (drop-cons w i 0 h, drop-cons x i 0 (omega arith), add-one i, e, eq-eqb (get_or w i 0) (get_or w i 0) refl)

  pub spells_differs : i < length w → length x ≡ length w → (lower (get_or x i 0) ≡ get_or w i 0 → ⊥) → equal (drop i w) (map lower (drop i x)) ≡ false
  unfolding equal
  spells_differs h l e = rw (drop-cons w i 0 h, drop-cons x i 0 (omega arith), ne_eqb (get_or w i 0) (lower (get_or x i 0)) (λ f. e (sym f)))

  pub spells_end : length w ≤ i → length x ≡ length w → equal (drop i w) (map lower (drop i x)) ≡ true
  unfolding equal
  spells_end h l = let k : length x ≤ i = omega arith in rw (drop_of_length-le w h, drop_of_length-le x k)

-- what two words differ in tells them apart
apart : (f : List ℕ → ℕ) (w x : List ℕ) → (f w ≡ f x → ⊥) → equal w x ≡ false
apart f w x h = go (equal w x) refl
  where
    go : (q : Bool) → equal w x ≡ q → q ≡ false
    go false e = refl
    go true e = absurd (h (ap f (equal_is w x e)))

-- as long and alike at every place
equal_by : (w x : List ℕ) → length x ≡ length w → ((k : ℕ) → k < length x → get_or x k 0 ≡ get_or w k 0) → equal w x ≡ true
unfolding equal
equal_by [] [] l a = refl
equal_by [] (c ∷ x) l a = absurd (omega arith)
equal_by (b ∷ w) [] l a = absurd (omega arith)
equal_by (b ∷ w) (c ∷ x) l a =
    let e : c ≡ b = a 0 (omega arith) in
    rw (eq-eqb b c (sym e), equal_by w x (omega arith) (λ k h. a (suc k) (omega arith)))

pub spells_by : (w x : List ℕ) (r : Bool) → length x ≡ length w → IsTrue r ↔ ((k : ℕ) → k < length x → lower (get_or x k 0) ≡ get_or w k 0)
    → r ≡ equal w (map lower x)
spells_by w x r l e = go r e (equal w (map lower x)) refl
  where
    at : (k : ℕ) → k < length x → get_or (map lower x) k 0 ≡ lower (get_or x k 0)
    at k h = get_or-map lower x k 0 0 h

    go : (r : Bool) → IsTrue r ↔ ((k : ℕ) → k < length x → lower (get_or x k 0) ≡ get_or w k 0) → (q : Bool) → equal w (map lower x) ≡ q → r ≡ q
    go true e q f =
        sym (equal_by w (map lower x) (length-map x lower ∙ l) (λ k h. let m : k < length x = rw length-map at h in at k m ∙ e.0 refl k m)) ∙ f
    go false e true f = clash (sym (e.1 (λ k h. sym (at k h) ∙ ap (λ (y : List ℕ). get_or y k 0) (sym (equal_is w (map lower x) f)))))
    go false e false f = refl

pub spells_length : (w x : List ℕ) → (length x ≡ length w → ⊥) → equal w (map lower x) ≡ false
spells_length w x h = apart length w (map lower x) (λ e. h (sym (e ∙ length-map x lower)))

-- that a text begins with w, and that as many of its bytes are w
pub begins_take : (w l : List ℕ) → begins w l ≡ equal w (take (length w) l)
unfolding begins equal
begins_take [] l = refl
begins_take (b ∷ w) [] = refl
begins_take (b ∷ w) (c ∷ l) = ap (λ (q : Bool). eqb b c && q) (begins_take w l)

-- a reserved word and the rest of the list
pub word_rest : (w : Word) (ws : List Word) (x : List ℕ) (r s : ℕ) → r ≡ cond (equal w.bytes x) w.kind s → s ≡ spelled_kind ws x
    → r ≡ spelled_kind (w ∷ ws) x
unfolding spelled_kind
word_rest w ws x r s e h = e ∙ ap (cond (equal w.bytes x) w.kind) h

pub no_rest : (x : List ℕ) → NAME ≡ spelled_kind [] x
unfolding spelled_kind
no_rest x = refl

-- only the words as long as x can be x
sized : (ws : List Word) (x : List ℕ) → spelled_kind (of_size (length x) ws) x ≡ spelled_kind ws x
unfolding spelled_kind of_size
sized [] x = refl
sized (w ∷ ws) x = go (eqb (length w.bytes) (length x)) refl (sized ws x)
  where
    go : (q : Bool) → eqb (length w.bytes) (length x) ≡ q → spelled_kind (of_size (length x) ws) x ≡ spelled_kind ws x
        → spelled_kind (keep_if q w (of_size (length x) ws)) x ≡ spelled_kind (w ∷ ws) x
    go true e h = ap (cond (equal w.bytes x) w.kind) h
    go false e h = rw (apart length w.bytes x (eqb-false (length w.bytes) (length x) e)) h

pub by_size : (w : List ℕ) (n r : ℕ) → length w ≡ n → r ≡ spelled_kind (of_size n reserved) (map lower w) → r ≡ reserved_kind (map lower w)
unfolding reserved_kind
by_size w n r e h = h ∙ (ap (λ (m : ℕ). spelled_kind (of_size m reserved) (map lower w)) (sym (length-map w lower ∙ e)) ∙ sized reserved (map lower w))

-- what an arm of a match on the size answers, found from the facts on the way to it: a step for each of its rows
pub ruleset arms = (by_size, word_rest, no_rest)

-- b is none of the keys of a match, as its last arm knows
abbrev pub Missed : ℕ → List ℕ → Type 0 → Type 0
Missed b [] P = P
Missed b (k ∷ ks) P = Missed b ks (P × (b ≡ k → ⊥))

pub missed : (b : ℕ) (ks : List ℕ) {P : Type 0} → Missed b ks P → P × (elem b ks ≡ false)
unfolding elem
missed b [] m = (m, refl)
missed b (k ∷ ks) m = let h = missed b ks m in (h.0.0, rw (ne_eqb b k h.0.1) h.1)

-- two words are apart where what they are asked for passes a test in one and fails it in the other
pub not_among : (f : List ℕ → ℕ) (p : ℕ → Bool) (w x : List ℕ) → p (f w) ≡ true → p (f x) ≡ false → equal w x ≡ false
not_among f p w x t h = apart f w x (λ e. clash (sym t ∙ (ap p e ∙ h)))

no_size : (p : ℕ → Bool) (ws : List Word) (x : List ℕ) → p (length x) ≡ false → all p (map (λ (w : Word). length w.bytes) ws) ≡ true
    → NAME ≡ spelled_kind ws x
unfolding spelled_kind all
no_size p [] x f a = refl
no_size p (w ∷ ws) x f a =
    let u = and_true_both (p (length w.bytes)) (all p (map (λ (w : Word). length w.bytes) ws)) a in
    rw (not_among length p w.bytes x u.0 f) (no_size p ws x f u.1)

-- no reserved word has another size
pub by_none : (ks w : List ℕ) → all (λ (n : ℕ). elem n ks) (map (λ (w : Word). length w.bytes) reserved) ≡ true → Missed (length w) ks Unit
    → NAME ≡ reserved_kind (map lower w)
unfolding reserved_kind
by_none ks w a m = no_size (λ (n : ℕ). elem n ks) reserved (map lower w) (rw (length-map w lower) (missed (length w) ks m).1) a

-- the reserved words are words in lower case
plain : List Word → Bool
plain [] = true
plain (w ∷ ws) = (all in_word w.bytes && equal (map lower w.bytes) w.bytes) && plain ws

plain_reserved : plain reserved ≡ true
unfolding plain all equal reserved bytes in_word is byte_kind between elem fixed bytes_of lower
plain_reserved = refl

-- two words are the same in lower case exactly when they have the same folded number
pub folded_equal : (w x : List ℕ) → all in_word w ≡ true → all in_word x ≡ true → equal (map lower w) (map lower x) ≡ eqb (folded 0 w) (folded 0 x)
folded_equal w x p q = go (equal (map lower w) (map lower x)) refl
  where
    go : (b : Bool) → equal (map lower w) (map lower x) ≡ b → b ≡ eqb (folded 0 w) (folded 0 x)
    go true e = sym (eq-eqb (folded 0 w) (folded 0 x) ((one_name w x p q).1 (equal_is (map lower w) (map lower x) e)))
    go false e = sym (ne_eqb (folded 0 w) (folded 0 x) (λ f. clash (sym (equal_refl (map lower w)) ∙ (ap (equal (map lower w)) ((one_name w x p q).0 f) ∙ e))))

-- THE LAW: the kind by the bytes is the kind by the folded number
spelled_kind_lem : (ws : List Word) (x : List ℕ) → plain ws ≡ true → all in_word x ≡ true → spelled_kind ws (map lower x) ≡ word_kind ws (folded 0 x)
unfolding plain spelled_kind word_kind
spelled_kind_lem [] x p q = refl
spelled_kind_lem (w ∷ ws) x p q =
    let u = and_true_both (all in_word w.bytes && equal (map lower w.bytes) w.bytes) (plain ws) p in
    let v = and_true_both (all in_word w.bytes) (equal (map lower w.bytes) w.bytes) u.0 in
    let l : equal w.bytes (map lower x) ≡ eqb (folded 0 w.bytes) (folded 0 x) = ap (λ (u : List ℕ). equal u (map lower x))
    (sym (equal_is (map lower w.bytes) w.bytes v.1)) ∙ folded_equal w.bytes x v.0 q in
    rw l (ap (cond (eqb (folded 0 w.bytes) (folded 0 x)) w.kind) (spelled_kind_lem ws x u.1 q))

pub reserved_kind_lem : (x : List ℕ) → all in_word x ≡ true → reserved_kind (map lower x) ≡ word_kind reserved (folded 0 x)
unfolding reserved_kind
reserved_kind_lem x q = spelled_kind_lem reserved x plain_reserved q
