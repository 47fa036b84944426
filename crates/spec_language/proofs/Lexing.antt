-- The computed tokens are the text's tokens, and there are no others. Assumes nothing.
use mathlib.Core.Path.{◌≡◌, refl, sym, ◌∙◌, ap, subst}
use mathlib.Core.Bool.{Bool, true, false, cond, ◌&&◌}
use mathlib.Core.List.{List, [], ◌∷◌, ◌++◌, append_assoc, append-nil}
use Prim.Native.Nat.{ℕ, ◌≤◌, ◌<◌}
use native.Mathlib.Omega.{arith}
use lib.Dec.{eqb, leb, leb→le}
use lib.ListN.{length, length-append}
use Rattle.base_codes.specs.Token.{NUMBER}
use Rattle.spec_language.specs.Bytes.{bytes, ByteKind, letter, digit, underscore, blank, quote, mark, byte_kind, is_digit, in_word, not_lf, Fixed, fixed}
use Rattle.spec_language.specs.Bytes as B
use Rattle.spec_language.specs.Lexer.{run, begins, Start, lexeme, unknown, word_start, number_start, fixed_start, start_from, start_of}
use Rattle.spec_language.specs.Words.{well_made, folded, value, reserved, word_kind, peek, is_dashes}
use Rattle.spec_language.specs.Lexer as L
use Rattle.spec_language.specs.Lexing.{Meaning, nothing, all, equal, alone, word_meaning, fixed_meaning, meaning_from, meaning, Piece}
use Rattle.spec_language.proofs.Facts.{clash, no_cons, and_true_both, eqb_eq, eq-eqb, is_T}

-- What starts at a place, as pieces say it.
pub data Here (t : List ℕ) : Start → Type 0 where
  gap : {w rest : List ℕ} → Piece w rest Meaning.gap → t ≡ w ++ rest → Here t (L.gap (length w))
  token : {w rest : List ℕ} {k v : ℕ} → Piece w rest (Meaning.token k v) → t ≡ w ++ rest → Here t (lexeme k v (length w))
  bad : {w rest : List ℕ} → Piece w rest Meaning.malformed → t ≡ w ++ rest → Here t unknown
  none : ((w r : List ℕ) → t ≡ w ++ r → meaning w ≡ nothing) → Here t unknown

-- a run: all its bytes pass, and what follows begins with one that does not
pub record Run (p : ℕ → Bool) (l : List ℕ) : Type 0 where
  pub rest : List ℕ
  pub split : l ≡ run p l ++ rest
  pub passes : all p (run p l) ≡ true
  pub ends : (c : ℕ) (v : List ℕ) → rest ≡ c ∷ v → p c ≡ false

pub run_is : (p : ℕ → Bool) (l : List ℕ) → Run p l
unfolding run all
run_is p [] = record { rest = []; split = refl; passes = refl; ends = λ c v e. absurd (nil_cons e) }
  where
    nil_cons : {c : ℕ} {v : List ℕ} → [] ≡ c ∷ v → ⊥
    nil_cons e = no_cons (sym e)
run_is p (b ∷ l) = go (p b) refl (run_is p l)
  where
    go : (q : Bool) → p b ≡ q → Run p l → Run p (b ∷ l)
    go true e r = record { rest = r.rest; split = rw e (ap (λ (k : List ℕ). b ∷ k) r.split); passes = rw (e, e) r.passes; ends = r.ends }
    go false e r = record { rest = b ∷ l; split = rw e; passes = rw e; ends = λ c v f. ap p (sym (head f)) ∙ e }
      where
        head : {c : ℕ} {v : List ℕ} → b ∷ l ≡ c ∷ v → b ≡ c
        head f = cc

all_broken : (p : ℕ → Bool) (w : List ℕ) (c : ℕ) (v : List ℕ) → p c ≡ false → all p (w ++ (c ∷ v)) ≡ false
unfolding all
all_broken p [] c v e = rw e
all_broken p (b ∷ w) c v e = go (p b) (all_broken p w c v e)
  where
    go : (q : Bool) → all p (w ++ (c ∷ v)) ≡ false → (q && all p (w ++ (c ∷ v))) ≡ false
    go true h = h
    go false h = refl

cons_head : {b c : ℕ} {l v : List ℕ} → b ∷ l ≡ c ∷ v → b ≡ c
cons_head e = cc

cons_tail : {b c : ℕ} {l v : List ℕ} → b ∷ l ≡ c ∷ v → l ≡ v
cons_tail e = cc

two_cons : {b c : ℕ} {l v : List ℕ} → b ≡ c → l ≡ v → b ∷ l ≡ c ∷ v
two_cons e f = cc

-- the fixed ones
pub equal_refl : (w : List ℕ) → equal w w ≡ true
unfolding equal
equal_refl [] = refl
equal_refl (b ∷ w) = rw (eq-eqb b b refl) (equal_refl w)

pub equal_is : (w v : List ℕ) → equal w v ≡ true → w ≡ v
unfolding equal
equal_is [] [] e = refl
equal_is [] (c ∷ v) e = clash (sym e)
equal_is (b ∷ w) [] e = clash (sym e)
equal_is (b ∷ w) (c ∷ v) e = let s = and_true_both (eqb b c) (equal w v) e in rw (eqb_eq b c s.0, equal_is w v s.1)

begins_rest : (w t : List ℕ) → begins w t ≡ true → (r : List ℕ) × (t ≡ w ++ r)
unfolding begins
begins_rest [] t e = (t, refl)
begins_rest (b ∷ w) [] e = clash (sym e)
begins_rest (b ∷ w) (c ∷ t) e =
    let s = and_true_both (eqb b c) (begins w t) e in
    let r = begins_rest w t s.1 in
    (r.0, two_cons (sym (eqb_eq b c s.0)) r.1)

begins_append : (w r : List ℕ) → begins w (w ++ r) ≡ true
unfolding begins
begins_append [] r = refl
begins_append (b ∷ w) r = rw (eq-eqb b b refl) (begins_append w r)

-- one that t does not begin with is no beginning of t
not_equal : (u w r : List ℕ) → begins u (w ++ r) ≡ false → equal u w ≡ false
not_equal u w r e = go (equal u w) refl
  where
    go : (q : Bool) → equal u w ≡ q → q ≡ false
    go false h = refl
    go true h = clash (sym (begins_append u r) ∙ (ap (λ (k : List ℕ). begins u (k ++ r)) (equal_is u w h) ∙ e))

-- none is longer than n; each is no longer than those before it
abbrev Upto : ℕ → List Fixed → Type 0
Upto n [] = Unit {0}
Upto n (f ∷ fs) = (length f.bytes ≤ n) × Upto n fs

abbrev Sorted : List Fixed → Type 0
Sorted [] = Unit {0}
Sorted (f ∷ fs) = Upto (length f.bytes) fs × Sorted fs

upto : ℕ → List Fixed → Bool
upto n [] = true
upto n (f ∷ fs) = leb (length f.bytes) n && upto n fs

sorted : List Fixed → Bool
unfolding upto
sorted [] = true
sorted (f ∷ fs) = upto (length f.bytes) fs && sorted fs

longer_not : (u w : List ℕ) → length u < length w → equal u w ≡ false
longer_not u w h = go (equal u w) refl
  where
    go : (q : Bool) → equal u w ≡ q → q ≡ false
    go false e = refl
    go true e = let z = ap length (equal_is u w e) in absurd (omega arith)

upto_nothing : (n : ℕ) (fs : List Fixed) (w : List ℕ) → n < length w → Upto n fs → fixed_meaning fs w ≡ nothing
unfolding fixed_meaning
upto_nothing n [] w h u = refl
upto_nothing n (f ∷ fs) w h u = rw (longer_not f.bytes w (omega arith)) (upto_nothing n fs w h u.1)

-- what fixed_start answers, in terms of fixed_meaning
pub data Fix (fs : List Fixed) (t : List ℕ) : Start → Type 0 where
  found : (w rest : List ℕ) {k v : ℕ} → t ≡ w ++ rest → fixed_meaning fs w ≡ Meaning.token k v
      → ((c : ℕ) (v r : List ℕ) → rest ≡ c ∷ (v ++ r) → fixed_meaning fs (w ++ (c ∷ v)) ≡ nothing) → Fix fs t (lexeme k v (length w))
  missing : ((w r : List ℕ) → t ≡ w ++ r → fixed_meaning fs w ≡ nothing) → Fix fs t unknown

fixed_is : (fs : List Fixed) (t : List ℕ) → Sorted fs → Fix fs t (fixed_start fs t)
unfolding fixed_start fixed_meaning
fixed_is [] t s = missing (λ w r e. refl)
fixed_is (f ∷ fs) t s = go (begins f.bytes t) refl (fixed_is fs t s.1)
  where
    skip : begins f.bytes t ≡ false → (w r : List ℕ) → t ≡ w ++ r → equal f.bytes w ≡ false
    skip e w r h = not_equal f.bytes w r (ap (begins f.bytes) (sym h) ∙ e)

    on : {o : Start} → begins f.bytes t ≡ false → Fix fs t o → Fix (f ∷ fs) t o
    on e (found w rest {k} {v} h m l) = let m' : fixed_meaning (f ∷ fs) w ≡ Meaning.token k v = rw (skip e w rest h) m in
        found w rest h m' (λ c v r g. rw (skip e (w ++ (c ∷ v)) r (h ∙ (ap (λ (k : List ℕ). w ++ k) g ∙ sym (append_assoc w (c ∷ v) r)))) (l c v r g))
    on e (missing h) = missing (λ w r g. rw (skip e w r g) (h w r g))

    go : (q : Bool) → begins f.bytes t ≡ q → Fix fs t (fixed_start fs t) → Fix (f ∷ fs) t (fixed_start (f ∷ fs) t)
    go true e i = rw e (let r = begins_rest f.bytes t e in found f.bytes r.0 r.1 itself (λ c v u g. after c v))
      where
        itself : fixed_meaning (f ∷ fs) f.bytes ≡ Meaning.token f.kind f.value
        itself = rw (equal_refl f.bytes)

        after : (c : ℕ) (v : List ℕ) → fixed_meaning (f ∷ fs) (f.bytes ++ (c ∷ v)) ≡ nothing
        after c v =
            let h : length f.bytes < length (f.bytes ++ (c ∷ v)) = omega (arith, length-append f.bytes (c ∷ v)) in
            rw (longer_not f.bytes (f.bytes ++ (c ∷ v)) h) (upto_nothing (length f.bytes) fs (f.bytes ++ (c ∷ v)) h s.0)
    go false e i = rw e (on e i)

upto_tested : (n : ℕ) (fs : List Fixed) → upto n fs ≡ true → Upto n fs
unfolding upto
upto_tested n [] e = tt
upto_tested n (f ∷ fs) e = let s = and_true_both (leb (length f.bytes) n) (upto n fs) e in
    (leb→le (length f.bytes) n (is_T s.0), upto_tested n fs s.1)

sorted_tested : (fs : List Fixed) → sorted fs ≡ true → Sorted fs
unfolding sorted
sorted_tested [] e = tt
sorted_tested (f ∷ fs) e = let s = and_true_both (upto (length f.bytes) fs) (sorted fs) e in
    (upto_tested (length f.bytes) fs s.0, sorted_tested fs s.1)

fixed_sorted : Sorted fixed
unfolding fixed bytes upto sorted
fixed_sorted = sorted_tested fixed refl

-- by the kind of the first byte
blank_here : (b : ℕ) (l : List ℕ) → byte_kind b ≡ blank → Here (b ∷ l) (start_of b l)
unfolding start_of start_from meaning meaning_from alone
blank_here b l e = rw e (gap {w = b ∷ []} {rest = l} (record { is = rw e; longest = λ c v r g. rw e }) refl)

word_here : (b : ℕ) (l : List ℕ) → byte_kind b ≡ letter → Here (b ∷ l) (start_of b l)
unfolding start_of start_from meaning meaning_from word_start word_meaning
word_here b l e = rw e (go (well_made false (b ∷ run in_word l)) refl)
  where
    r : Run in_word l
    r = run_is in_word l

    broken : (c : ℕ) (v k : List ℕ) → r.rest ≡ c ∷ (v ++ k) → meaning ((b ∷ run in_word l) ++ (c ∷ v)) ≡ nothing
    broken c v k g = rw (e, all_broken in_word (run in_word l) c v (r.ends c (v ++ k) g))

    split : b ∷ l ≡ (b ∷ run in_word l) ++ r.rest
    split = ap (λ (k : List ℕ). b ∷ k) r.split

    means : well_made false (b ∷ run in_word l) ≡ true
        → meaning (b ∷ run in_word l) ≡ Meaning.token (word_kind reserved (folded 0 (b ∷ run in_word l))) (folded 0 (b ∷ run in_word l))
    means h = rw (e, r.passes, h)

    go : (q : Bool) → well_made false (b ∷ run in_word l) ≡ q
        → Here (b ∷ l) (cond (well_made false (b ∷ run in_word l))
        (lexeme (word_kind reserved (folded 0 (b ∷ run in_word l))) (folded 0 (b ∷ run in_word l)) (length (b ∷ run in_word l))) unknown)
    go true h = rw h (token {w = b ∷ run in_word l} {rest = r.rest} (record { is = means h; longest = broken }) split)
    go false h = rw h (bad {w = b ∷ run in_word l} {rest = r.rest} (record { is = rw (e, r.passes, h); longest = broken }) split)

number_here : (b : ℕ) (l : List ℕ) → byte_kind b ≡ digit → Here (b ∷ l) (start_of b l)
unfolding start_of start_from meaning meaning_from number_start
number_here b l e = rw e (token {w = b ∷ run is_digit l} {rest = r.rest} (record { is = means; longest = broken }) (ap (λ (k : List ℕ). b ∷ k) r.split))
  where
    r : Run is_digit l
    r = run_is is_digit l

    means : meaning (b ∷ run is_digit l) ≡ Meaning.token NUMBER (value 0 (b ∷ run is_digit l))
    means = rw (e, r.passes)

    broken : (c : ℕ) (v k : List ℕ) → r.rest ≡ c ∷ (v ++ k) → meaning ((b ∷ run is_digit l) ++ (c ∷ v)) ≡ nothing
    broken c v k g = rw (e, all_broken is_digit (run is_digit l) c v (r.ends c (v ++ k) g))

-- a byte that begins no token
nothing_here : (b : ℕ) (l : List ℕ) → start_of b l ≡ unknown → ((w : List ℕ) → meaning (b ∷ w) ≡ nothing) → Here (b ∷ l) (start_of b l)
unfolding meaning
nothing_here b l e h = rw e (none (λ w r g. go w r g))
  where
    go : (w r : List ℕ) → b ∷ l ≡ w ++ r → meaning w ≡ nothing
    go [] r g = refl
    go (c ∷ w) r g = subst (λ (y : ℕ). meaning (y ∷ w) ≡ nothing) (cons_head g) (h w)

underscore_here : (b : ℕ) (l : List ℕ) → byte_kind b ≡ underscore → Here (b ∷ l) (start_of b l)
unfolding start_of start_from meaning meaning_from
underscore_here b l e = nothing_here b l (rw e) (λ w. rw e)

other_here : (b : ℕ) (l : List ℕ) → byte_kind b ≡ B.none → Here (b ∷ l) (start_of b l)
unfolding start_of start_from meaning meaning_from
other_here b l e = nothing_here b l (rw e) (λ w. rw e)

dashes : (b : ℕ) (l : List ℕ) → is_dashes b l ≡ true → (b ≡ 45) × (r : List ℕ) × (l ≡ 45 ∷ r)
unfolding is_dashes peek
dashes b l e = let s = and_true_both (eqb b 45) (eqb (peek l) 45) e in let g = go l (eqb_eq (peek l) 45 s.1) in (eqb_eq b 45 s.0, g.0, g.1)
  where
    go : (k : List ℕ) → peek k ≡ 45 → (r : List ℕ) × (k ≡ 45 ∷ r)
    go [] h = absurd (omega arith)
    go (c ∷ k) h = (k, ap (λ (y : ℕ). y ∷ k) h)

dashes_on : (b c : ℕ) (l k : List ℕ) → is_dashes b (c ∷ l) ≡ is_dashes b (c ∷ k)
unfolding is_dashes peek
dashes_on b c l k = refl

-- a comment
comment_here : (b : ℕ) (l : List ℕ) → byte_kind b ≡ mark → is_dashes b l ≡ true → Here (b ∷ l) (start_of b l)
unfolding start_of start_from meaning meaning_from run not_lf
comment_here b l e s = rw (e, s) (gap {w = b ∷ run not_lf l} {rest = r.rest} (record { is = means; longest = broken }) (ap (λ (k : List ℕ). b ∷ k) r.split))
  where
    r : Run not_lf l
    r = run_is not_lf l

    -- the run goes on after the second dash
    still : (v : List ℕ) → is_dashes b (run not_lf l ++ v) ≡ true
    still v = go (dashes b l s)
      where
        go : (b ≡ 45) × (k : List ℕ) × (l ≡ 45 ∷ k) → is_dashes b (run not_lf l ++ v) ≡ true
        go h = rw h.2 (dashes_on b 45 (run not_lf h.1 ++ v) h.1 ∙ (ap (is_dashes b) (sym h.2) ∙ s))

    means : meaning (b ∷ run not_lf l) ≡ Meaning.gap
    means = rw (e, ap (is_dashes b) (sym (append-nil (run not_lf l))) ∙ still [], r.passes)

    broken : (c : ℕ) (v k : List ℕ) → r.rest ≡ c ∷ (v ++ k) → meaning ((b ∷ run not_lf l) ++ (c ∷ v)) ≡ nothing
    broken c v k g = rw (e, still (c ∷ v), all_broken not_lf (run not_lf l) c v (r.ends c (v ++ k) g))

-- '0', '1' and marks
and-false : (a : Bool) → (a && false) ≡ false
and-false true = refl
and-false false = refl

dashes_part : (b : ℕ) (l w r : List ℕ) → is_dashes b l ≡ false → l ≡ w ++ r → is_dashes b w ≡ false
unfolding is_dashes peek
dashes_part b l [] r e h = and-false (eqb b 45)
dashes_part b l (c ∷ w) r e h = sym (ap (is_dashes b) h) ∙ e

fixed_nil : {k v : ℕ} → fixed_meaning fixed [] ≡ Meaning.token k v → ⊥
unfolding fixed_meaning fixed bytes equal
fixed_nil e = let z : ◌≡◌ {A = ℕ} 0 1 = cc in omega arith

-- where every beginning means what the table of fixed tokens says of it, the one that start_of finds is the longest
fixed_here : (b : ℕ) (l : List ℕ) → start_of b l ≡ fixed_start fixed (b ∷ l) → ((w r : List ℕ) → l ≡ w ++ r → meaning (b ∷ w) ≡ fixed_meaning fixed (b ∷ w))
    → Here (b ∷ l) (start_of b l)
unfolding meaning
fixed_here b l s m = rw s (go (fixed_is fixed (b ∷ l) fixed_sorted))
  where
    prefix : (c : ℕ) (w r : List ℕ) → b ∷ l ≡ c ∷ (w ++ r) → meaning (c ∷ w) ≡ fixed_meaning fixed (c ∷ w)
    prefix c w r e = subst (λ (y : ℕ). meaning (y ∷ w) ≡ fixed_meaning fixed (y ∷ w)) (cons_head e) (m w r (cons_tail e))

    piece : (w rest : List ℕ) {k v : ℕ} → b ∷ l ≡ w ++ rest → fixed_meaning fixed w ≡ Meaning.token k v
        → ((c : ℕ) (v r : List ℕ) → rest ≡ c ∷ (v ++ r) → fixed_meaning fixed (w ++ (c ∷ v)) ≡ nothing) → Piece w rest (Meaning.token k v)
    piece [] rest h m g = absurd (fixed_nil m)
    piece (c ∷ w) rest h m g = record {
      is = prefix c w rest h ∙ m;
      longest = λ d v r z. prefix c (w ++ (d ∷ v)) r (h ∙ (ap (λ (k : List ℕ). (c ∷ w) ++ k) z ∙ sym (append_assoc (c ∷ w) (d ∷ v) r))) ∙ g d v r z;
    }

    empty : (w r : List ℕ) → ((w r : List ℕ) → b ∷ l ≡ w ++ r → fixed_meaning fixed w ≡ nothing) → b ∷ l ≡ w ++ r → meaning w ≡ nothing
    empty [] r h e = refl
    empty (c ∷ w) r h e = prefix c w r e ∙ h (c ∷ w) r e

    go : {o : Start} → Fix fixed (b ∷ l) o → Here (b ∷ l) o
    go (found w rest h m g) = token (piece w rest h m g) h
    go (missing h) = none (λ w r e. empty w r h e)

quote_here : (b : ℕ) (l : List ℕ) → byte_kind b ≡ quote → Here (b ∷ l) (start_of b l)
unfolding start_of start_from meaning meaning_from
quote_here b l e = fixed_here b l (rw e) (λ w r h. rw e)

mark_here : (b : ℕ) (l : List ℕ) → byte_kind b ≡ mark → is_dashes b l ≡ false → Here (b ∷ l) (start_of b l)
unfolding start_of start_from meaning meaning_from
mark_here b l e s = fixed_here b l (rw (e, s)) (λ w r h. rw (e, dashes_part b l w r s h))

-- what starts at a place is what start_of says
pub starts : (b : ℕ) (l : List ℕ) → Here (b ∷ l) (start_of b l)
starts b l = go (byte_kind b) refl
  where
    marked : (q : Bool) → is_dashes b l ≡ q → byte_kind b ≡ mark → Here (b ∷ l) (start_of b l)
    marked true s e = comment_here b l e s
    marked false s e = mark_here b l e s

    go : (k : ByteKind) → byte_kind b ≡ k → Here (b ∷ l) (start_of b l)
    go letter e = word_here b l e
    go digit e = number_here b l e
    go underscore e = underscore_here b l e
    go blank e = blank_here b l e
    go quote e = quote_here b l e
    go mark e = marked (is_dashes b l) refl e
    go B.none e = other_here b l e

-- two pieces of one text are one
data Compared (w r v s : List ℕ) : Type 0 where
  alike : w ≡ v → r ≡ s → Compared w r v s
  shorter : (c : ℕ) (u : List ℕ) → v ≡ w ++ (c ∷ u) → r ≡ c ∷ (u ++ s) → Compared w r v s
  longer : (c : ℕ) (u : List ℕ) → w ≡ v ++ (c ∷ u) → s ≡ c ∷ (u ++ r) → Compared w r v s

compared : (w r v s : List ℕ) → w ++ r ≡ v ++ s → Compared w r v s
compared [] r [] s e = alike refl e
compared [] r (c ∷ v) s e = shorter c v refl e
compared (b ∷ w) r [] s e = longer b w refl (sym e)
compared (b ∷ w) r (c ∷ v) s e = go (compared w r v s (cons_tail e))
  where
    go : Compared w r v s → Compared (b ∷ w) r (c ∷ v) s
    go (alike f g) = alike (two_cons (cons_head e) f) g
    go (shorter d u f g) = shorter d u (two_cons (sym (cons_head e)) f) g
    go (longer d u f g) = longer d u (two_cons (cons_head e) f) g

abbrev pub Something : Meaning → Type 0
Something m = m ≡ nothing → ⊥

pub record Same (w v r s : List ℕ) (m k : Meaning) : Type 0 where
  pub piece : w ≡ v
  pub rest : r ≡ s
  pub meaning : m ≡ k

pub one_piece : (w r v s : List ℕ) (m k : Meaning) → Piece w r m → Piece v s k → Something m → Something k → w ++ r ≡ v ++ s → Same w v r s m k
one_piece w r v s m k p q a b e = go (compared w r v s e)
  where
    go : Compared w r v s → Same w v r s m k
    go (alike f g) = record { piece = f; rest = g; meaning = sym p.is ∙ (ap meaning f ∙ q.is) }
    go (shorter c u f g) = absurd (b (sym q.is ∙ (ap meaning f ∙ p.longest c u s g)))
    go (longer c u f g) = absurd (a (sym p.is ∙ (ap meaning f ∙ q.longest c u r g)))
