-- Every token of a text lies in it, and its value is that of its bytes. By the pieces of the text one after the other, and by what a string of bytes can
-- mean: a word, a number, or a fixed token, whose kinds are told apart by number. Assumes nothing.
use mathlib.Core.Path.{◌≡◌, refl, sym, ◌∙◌, ap}
use mathlib.Core.Bool.{Bool, true, false, cond, not, ◌&&◌}
use mathlib.Core.List.{List, [], ◌∷◌, ◌++◌, map}
use Prim.Native.Nat.{ℕ, ◌+◌, ◌-◌, ◌<◌}
use native.Mathlib.Omega.{arith}
use lib.Dec.{eqb}
use lib.ListN.{length, take, drop, length-append, length-drop}
use lib.Seq.{drop-drop, drop-append_seam, take_at}
use borrow.Author.Tests.{eqb-true, eq-eqb, ne_eqb}
use Rattle.spec_grammar.specs.Token.{Token}
use Rattle.base_codes.specs.Token.{one_of, NAME, NUMBER, ONE}
use Rattle.spec_grammar.specs.Limits.{Each}
use Rattle.spec_language.specs.Bytes.{bytes, ByteKind, letter, digit, underscore, blank, quote, mark, none, byte_kind, is, is_digit, in_word, not_lf, lower, Fixed}
use Rattle.spec_language.specs.Bytes.{fixed}
use Rattle.spec_language.specs.Words.{well_made, folded, value, Word, reserved, word_kind, is_dashes}
use Rattle.spec_language.specs.Lexing.{Meaning, nothing, all, equal, alone, word_meaning, fixed_meaning, meaning_from, meaning, Piece, Lexes}
use Rattle.spec_language.specs.Lexing as S
use Rattle.spec_language.proofs.Facts.{clash, not-true, and_true_both}
use Rattle.spec_language.proofs.LexExact.{token_something, piece_some}
use Rattle.front_token.specs.Places.{part}
use Rattle.front_lexer.specs.TokenValues.{is_fixed, token_value, Valued}
use Rattle.front_token.proofs.WordLaws.{folded_equal}

-- what a string of bytes that means a token is
data Token_is (w : List ℕ) (k v : ℕ) : Type 0 where
  a_word : all in_word w ≡ true → k ≡ word_kind reserved (folded 0 w) → v ≡ folded 0 w → Token_is w k v
  a_number : k ≡ NUMBER → v ≡ value 0 w → Token_is w k v
  fixed_one : fixed_meaning fixed w ≡ Meaning.token k v → Token_is w k v

token_missing : {A : Type 0} {k v : ℕ} → nothing ≡ Meaning.token k v → A
token_missing e = absurd (let z : ◌≡◌ {A = ℕ} 0 1 = cc in omega arith)

no_gap : {A : Type 0} {k v : ℕ} → Meaning.gap ≡ Meaning.token k v → A
no_gap e = absurd (let z : ◌≡◌ {A = ℕ} 0 1 = cc in omega arith)

no_bad : {A : Type 0} {k v : ℕ} → Meaning.malformed ≡ Meaning.token k v → A
no_bad e = absurd (let z : ◌≡◌ {A = ℕ} 0 1 = cc in omega arith)

word_is : (w : List ℕ) (k v : ℕ) → all in_word w ≡ true → word_meaning w ≡ Meaning.token k v → Token_is w k v
unfolding word_meaning
word_is w k v a e = go (well_made false w) e
  where
    go : (q : Bool) → cond q (Meaning.token (word_kind reserved (folded 0 w)) (folded 0 w)) Meaning.malformed ≡ Meaning.token k v → Token_is w k v
    go true f = a_word a (cc) (cc)
    go false f = no_bad f

token_is : (w : List ℕ) (k v : ℕ) → meaning w ≡ Meaning.token k v → Token_is w k v
unfolding meaning meaning_from alone all in_word is
token_is [] k v e = token_missing e
token_is (b ∷ l) k v e = go (byte_kind b) refl e
  where
    lettered : (q : Bool) → all in_word l ≡ q → byte_kind b ≡ letter → cond q (word_meaning (b ∷ l)) nothing ≡ Meaning.token k v → Token_is (b ∷ l) k v
    lettered true a h f = word_is (b ∷ l) k v (first a h) f
      where
        first : all in_word l ≡ true → byte_kind b ≡ letter → all in_word (b ∷ l) ≡ true
        first a h = rw h a
    lettered false a h f = token_missing f

    counted : (q : Bool) → cond q (Meaning.token NUMBER (value 0 (b ∷ l))) nothing ≡ Meaning.token k v → Token_is (b ∷ l) k v
    counted true f = a_number (cc) (cc)
    counted false f = token_missing f

    single : (r : List ℕ) → alone r ≡ Meaning.token k v → Token_is (b ∷ l) k v
    single [] f = no_gap f
    single (c ∷ r) f = token_missing f

    dashed : (q r : Bool) → cond q (cond r Meaning.gap nothing) (fixed_meaning fixed (b ∷ l)) ≡ Meaning.token k v → Token_is (b ∷ l) k v
    dashed true true f = no_gap f
    dashed true false f = token_missing f
    dashed false r f = fixed_one f

    go : (m : ByteKind) → byte_kind b ≡ m → meaning_from m b l ≡ Meaning.token k v → Token_is (b ∷ l) k v
    go letter h f = lettered (all in_word l) refl h f
    go digit h f = counted (all is_digit l) f
    go underscore h f = token_missing f
    go blank h f = single l f
    go quote h f = fixed_one f
    go mark h f = dashed (is_dashes b l) (all not_lf l) f
    go none h f = token_missing f

-- the kinds of the reserved words are neither that of numbers nor those of the fixed tokens
apart : List Word → Bool
apart [] = true
apart (w ∷ ws) = (not (eqb w.kind NUMBER) && not (is_fixed w.kind)) && apart ws

apart_reserved : apart reserved ≡ true
unfolding apart reserved bytes one_of fixed
apart_reserved = refl

word_apart : (ws : List Word) (v : ℕ) → apart ws ≡ true → (eqb (word_kind ws v) NUMBER ≡ false) × (is_fixed (word_kind ws v) ≡ false)
unfolding apart word_kind one_of fixed
word_apart [] v a = (refl, refl)
word_apart (w ∷ ws) v a =
    let s = and_true_both (not (eqb w.kind NUMBER) && not (is_fixed w.kind)) (apart ws) a in
    let r = and_true_both (not (eqb w.kind NUMBER)) (not (is_fixed w.kind)) s.0 in
    go (eqb (folded 0 w.bytes) v) (not-true (eqb w.kind NUMBER) r.0) (not-true (is_fixed w.kind) r.1) (word_apart ws v s.1)
  where
    go : (q : Bool) → eqb w.kind NUMBER ≡ false → is_fixed w.kind ≡ false → (eqb (word_kind ws v) NUMBER ≡ false) × (is_fixed (word_kind ws v) ≡ false)
        → (eqb (cond q w.kind (word_kind ws v)) NUMBER ≡ false) × (is_fixed (cond q w.kind (word_kind ws v)) ≡ false)
    go true h g i = (h, g)
    go false h g i = i

-- the kinds of the fixed tokens, and their values
tabled : List Fixed → Bool
tabled [] = true
tabled (f ∷ fs) = (is_fixed f.kind && eqb f.value (cond (eqb f.kind ONE) 1 0)) && tabled fs

tabled_fixed : tabled fixed ≡ true
unfolding tabled fixed bytes one_of
tabled_fixed = refl

fixed_value : (fs : List Fixed) (w : List ℕ) (k v : ℕ) → tabled fs ≡ true → fixed_meaning fs w ≡ Meaning.token k v → (is_fixed k ≡ true)
    × (v ≡ cond (eqb k ONE) 1 0)
unfolding tabled fixed_meaning
fixed_value [] w k v a e = token_missing e
fixed_value (f ∷ fs) w k v a e =
    let s = and_true_both (is_fixed f.kind && eqb f.value (cond (eqb f.kind ONE) 1 0)) (tabled fs) a in
    let r = and_true_both (is_fixed f.kind) (eqb f.value (cond (eqb f.kind ONE) 1 0)) s.0 in
    go (equal f.bytes w) r.0 (eqb-true f.value (cond (eqb f.kind ONE) 1 0) r.1) (fixed_value fs w k v s.1) e
  where
    go : (q : Bool) → is_fixed f.kind ≡ true → f.value ≡ cond (eqb f.kind ONE) 1 0
        → (fixed_meaning fs w ≡ Meaning.token k v → (is_fixed k ≡ true) × (v ≡ cond (eqb k ONE) 1 0))
        → cond q (Meaning.token f.kind f.value) (fixed_meaning fs w) ≡ Meaning.token k v → (is_fixed k ≡ true) × (v ≡ cond (eqb k ONE) 1 0)
    go true b c i g =
        let x : f.kind ≡ k = cc in
        let y : f.value ≡ v = cc in
        (ap (λ (m : ℕ). is_fixed m) (sym x) ∙ b, sym y ∙ (c ∙ ap (λ (m : ℕ). cond (eqb m ONE) 1 0) x))
    go false b c i g = i g

-- the value of a token, from its kind and its bytes
pub value_is : (w : List ℕ) (k v : ℕ) → meaning w ≡ Meaning.token k v → v ≡ token_value k w
unfolding token_value one_of fixed
value_is w k v e = go (token_is w k v e)
  where
    go : Token_is w k v → v ≡ cond (eqb k NUMBER) (value 0 w) (cond (is_fixed k) (cond (eqb k ONE) 1 0) (folded 0 w))
    go (a_word a c d) = let o = word_apart reserved (folded 0 w) apart_reserved in
        rw (ap (λ (m : ℕ). eqb m NUMBER) c ∙ o.0, ap (λ (m : ℕ). is_fixed m) c ∙ o.1) d
    go (a_number c d) = rw (eq-eqb k NUMBER c) d
    go (fixed_one f) = let t = fixed_value fixed w k v tabled_fixed f in let n : (k ≡ NUMBER → ⊥) = not_number t.0 in rw (ne_eqb k NUMBER n, t.0) t.1
      where
        not_number : is_fixed k ≡ true → k ≡ NUMBER → ⊥
        not_number b c = clash (sym b ∙ ap (λ (m : ℕ). is_fixed m) c)

-- the bytes of a name are those of a word
pub name_is : (w : List ℕ) (v : ℕ) → meaning w ≡ Meaning.token NAME v → all in_word w ≡ true
unfolding one_of fixed
name_is w v e = go (token_is w NAME v e)
  where
    go : Token_is w NAME v → all in_word w ≡ true
    go (a_word a c d) = a
    go (a_number c d) = absurd (omega arith)
    go (fixed_one f) = clash (sym (fixed_value fixed w NAME v tabled_fixed f).0)

module _ (text : List ℕ) where
  -- a piece of the text that is a token
  piece_valued : (n : ℕ) (w rest : List ℕ) (k v : ℕ) → drop n text ≡ w ++ rest → Piece w rest (Meaning.token k v)
      → Valued text (record { kind = k; value = v; size = length w; place = n })
  piece_valued n w rest k v e p =
      let here : part text n (length w) ≡ w = ap (take (length w)) e ∙ take_at w rest (length w) refl in
      let m : meaning (part text n (length w)) ≡ Meaning.token k v = ap meaning here ∙ p.is in
      let s = nonempty w (piece_some w rest (Meaning.token k v) p (token_something k v)) in
      let l : length text - n ≡ length w + length rest = sym (length-drop n text) ∙ (ap length e ∙ length-append w rest) in
      record {
        some = s;
        inside = omega arith;
        means = m;
        value = value_is (part text n (length w)) k v m;
        word = λ q. name_is (part text n (length w)) v (m ∙ ap (λ (j : ℕ). Meaning.token j v) q);
      }
    where
      nonempty : (u : List ℕ) → (u ≡ [] → ⊥) → 0 < length u
      nonempty [] h = absurd (h refl)
      nonempty (b ∷ u) h = omega arith

  behind : (n : ℕ) (w rest : List ℕ) → drop n text ≡ w ++ rest → drop (n + length w) text ≡ rest
  behind n w rest e = sym (drop-drop (length w) n text) ∙ (ap (drop (length w)) e ∙ drop-append_seam w rest)

  pieces_valued : {n : ℕ} {t : List ℕ} {ts : List Token} → Lexes n t ts → drop n text ≡ t → Each (Valued text) ts
  pieces_valued S.end e = tt
  pieces_valued {n} (S.Lexes.gap {w} {rest} p r) e = pieces_valued r (behind n w rest e)
  pieces_valued {n} (S.Lexes.token {k} {v} {w} {rest} p r) e = (piece_valued n w rest k v e p, pieces_valued r (behind n w rest e))

-- THE THEOREM
pub token_values : (text : List ℕ) (ts : List Token) → Lexes 0 text ts → Each (Valued text) ts
token_values text ts r = pieces_valued text r refl

name_value : (w : List ℕ) → token_value NAME w ≡ folded 0 w
unfolding token_value one_of fixed
name_value w = refl

-- two names of a text are the same without regard to case exactly when their values are equal
pub same_names : (text : List ℕ) (s t : Token) → Valued text s → Valued text t → s.kind ≡ NAME → t.kind ≡ NAME
    → equal (map lower (part text s.place s.size)) (map lower (part text t.place t.size)) ≡ eqb s.value t.value
same_names text s t a b p q =
    let x : s.value ≡ folded 0 (part text s.place s.size) = a.value ∙ named (part text s.place s.size) s.kind p in
    let y : t.value ≡ folded 0 (part text t.place t.size) = b.value ∙ named (part text t.place t.size) t.kind q in
    rw (x, y) (folded_equal (part text s.place s.size) (part text t.place t.size) (a.word p) (b.word q))
  where
    named : (w : List ℕ) (k : ℕ) → k ≡ NAME → token_value k w ≡ folded 0 w
    named w k e = rw e (name_value w)

-- the value of a number token is that of its digits
pub number_token : (text : List ℕ) (t : Token) → Valued text t → t.kind ≡ NUMBER → t.value ≡ value 0 (part text t.place t.size)
unfolding token_value
number_token text t a p = a.value ∙ rw (eq-eqb t.kind NUMBER p)
