-- lex answers tokens exactly when the text has these tokens, and 2 at p exactly when it has tokens up to p and there no token begins, or a malformed word.
-- Assumes nothing.
use mathlib.Core.Path.{◌≡◌, refl, sym, ◌∙◌, ap, subst}
use mathlib.Core.Logic.{◌↔◌}
use mathlib.Core.List.{List, [], ◌∷◌, ◌++◌}
use Prim.Native.Nat.{ℕ, zero, suc, ◌+◌, ◌≤◌}
use native.Mathlib.Omega.{arith}
use lib.ListN.{length, length-append}
use Rattle.spec_grammar.specs.Token.{Token}
use Rattle.spec_language.specs.Lexer.{Start, lexeme, unknown, start_of, Lexed, tokens, ◌▸◌, on_start, lex_from, lex}
use Rattle.spec_language.specs.Lexer as L
use Rattle.spec_language.specs.Lexing.{Meaning, nothing, meaning, Piece, Lexes, Stops}
use Rattle.spec_language.specs.Lexing as S
use Rattle.spec_language.proofs.Lexing.{Here, gap, token, bad, none, starts, one_piece, Something}

-- the bytes passed over
passed : (w rest : List ℕ) (n : ℕ) → lex_from (w ++ rest) (length w) n ≡ lex_from rest 0 (n + length w)
unfolding lex_from
passed [] [] n = refl
passed [] (b ∷ l) n = ap (lex_from (b ∷ l) 0) (omega arith)
passed (b ∷ w) rest n = passed w rest (suc n) ∙ ap (lex_from rest 0) (omega arith)

pub gap_something : Something Meaning.gap
gap_something e = let z : ◌≡◌ {A = ℕ} 0 1 = cc in omega arith

pub token_something : (k v : ℕ) → Something (Meaning.token k v)
token_something k v e = let z : ◌≡◌ {A = ℕ} 0 1 = cc in omega arith

pub bad_something : Something Meaning.malformed
bad_something e = let z : ◌≡◌ {A = ℕ} 0 1 = cc in omega arith

-- what start_of says where a piece is known
pub step_gap : (w rest t : List ℕ) (o : Start) → Here t o → Piece w rest Meaning.gap → t ≡ w ++ rest → o ≡ L.gap (length w)
step_gap w rest t o (gap {w = v} {rest = s} q f) p e = let u = one_piece v s w rest Meaning.gap Meaning.gap q p gap_something gap_something (sym f ∙ e) in
    ap (λ (x : List ℕ). L.gap (length x)) u.piece
step_gap w rest t o (token {w = v} {rest = s} {k} {v = x} q f) p e = let u =
    one_piece v s w rest (Meaning.token k x) Meaning.gap q p (token_something k x) gap_something (sym f ∙ e) in let m = u.meaning in
    absurd (let z : ◌≡◌ {A = ℕ} 0 1 = cc in omega arith)
step_gap w rest t o (bad {w = v} {rest = s} q f) p e = let u = one_piece v s w rest Meaning.malformed Meaning.gap q p bad_something gap_something (sym f ∙ e) in
    let m = u.meaning in absurd (let z : ◌≡◌ {A = ℕ} 0 1 = cc in omega arith)
step_gap w rest t o (none h) p e = absurd (gap_something (sym p.is ∙ h w rest e))

pub step_token : (w rest t : List ℕ) (k v : ℕ) (o : Start) → Here t o → Piece w rest (Meaning.token k v) → t ≡ w ++ rest → o ≡ lexeme k v (length w)
step_token w rest t k v o (gap {w = y} {rest = s} q f) p e = let u =
    one_piece y s w rest Meaning.gap (Meaning.token k v) q p gap_something (token_something k v) (sym f ∙ e) in let m = u.meaning in
    absurd (let z : ◌≡◌ {A = ℕ} 0 1 = cc in omega arith)
step_token w rest t k v o (token {w = y} {rest = s} {k = j} {v = x} q f) p e =
    let u = one_piece y s w rest (Meaning.token j x) (Meaning.token k v) q p (token_something j x) (token_something k v) (sym f ∙ e) in
    let m = u.meaning in
    let a : j ≡ k = cc in
    let b : x ≡ v = cc in
    rw (a, b, u.piece)
step_token w rest t k v o (bad {w = y} {rest = s} q f) p e = let u =
    one_piece y s w rest Meaning.malformed (Meaning.token k v) q p bad_something (token_something k v) (sym f ∙ e) in let m = u.meaning in
    absurd (let z : ◌≡◌ {A = ℕ} 0 1 = cc in omega arith)
step_token w rest t k v o (none h) p e = absurd (token_something k v (sym p.is ∙ h w rest e))

pub step_bad : (w rest t : List ℕ) (o : Start) → Here t o → Piece w rest Meaning.malformed → t ≡ w ++ rest → o ≡ unknown
step_bad w rest t o (gap {w = v} {rest = s} q f) p e = let u = one_piece v s w rest Meaning.gap Meaning.malformed q p gap_something bad_something (sym f ∙ e) in
    let m = u.meaning in absurd (let z : ◌≡◌ {A = ℕ} 0 1 = cc in omega arith)
step_bad w rest t o (token {w = v} {rest = s} {k} {v = x} q f) p e = let u =
    one_piece v s w rest (Meaning.token k x) Meaning.malformed q p (token_something k x) bad_something (sym f ∙ e) in let m = u.meaning in
    absurd (let z : ◌≡◌ {A = ℕ} 0 1 = cc in omega arith)
step_bad w rest t o (bad q f) p e = refl
step_bad w rest t o (none h) p e = refl

pub step_none : (t : List ℕ) (o : Start) → Here t o → ((w r : List ℕ) → t ≡ w ++ r → meaning w ≡ nothing) → o ≡ unknown
step_none t o (gap {w} {rest} q f) h = absurd (gap_something (sym q.is ∙ h w rest f))
step_none t o (token {w} {rest} {k} {v} q f) h = absurd (token_something k v (sym q.is ∙ h w rest f))
step_none t o (bad q f) h = refl
step_none t o (none g) h = refl

pub empty_nothing : meaning [] ≡ nothing
unfolding meaning
empty_nothing = refl

-- lex_from over a piece
at_gap : (w rest : List ℕ) (n : ℕ) → Piece w rest Meaning.gap → lex_from (w ++ rest) 0 n ≡ lex_from rest 0 (n + length w)
unfolding lex_from on_start
at_gap [] rest n p = absurd (gap_something (sym p.is ∙ empty_nothing))
at_gap (b ∷ w) rest n p = rw (step_gap (b ∷ w) rest (b ∷ (w ++ rest)) (start_of b (w ++ rest)) (starts b (w ++ rest)) p refl)
    (passed w rest (suc n) ∙ ap (lex_from rest 0) (omega arith))

at_token : (w rest : List ℕ) (k v n : ℕ) → Piece w rest (Meaning.token k v)
    → lex_from (w ++ rest) 0 n ≡ ◌▸◌ (record { kind = k; value = v; size = length w; place = n }) (lex_from rest 0 (n + length w))
unfolding lex_from on_start
at_token [] rest k v n p = absurd (token_something k v (sym p.is ∙ empty_nothing))
at_token (b ∷ w) rest k v n p =
    rw (step_token (b ∷ w) rest (b ∷ (w ++ rest)) k v (start_of b (w ++ rest)) (starts b (w ++ rest)) p refl)
    (ap (◌▸◌ (record { kind = k; value = v; size = length (b ∷ w); place = n })) (passed w rest (suc n) ∙ ap (lex_from rest 0) (omega arith)))

at_bad : (w rest : List ℕ) (n : ℕ) → Piece w rest Meaning.malformed → lex_from (w ++ rest) 0 n ≡ L.malformed n
unfolding lex_from on_start
at_bad [] rest n p = absurd (bad_something (sym p.is ∙ empty_nothing))
at_bad (b ∷ w) rest n p = rw (step_bad (b ∷ w) rest (b ∷ (w ++ rest)) (start_of b (w ++ rest)) (starts b (w ++ rest)) p refl)

at_none : (b : ℕ) (l : List ℕ) (n : ℕ) → ((w r : List ℕ) → b ∷ l ≡ w ++ r → meaning w ≡ nothing) → lex_from (b ∷ l) 0 n ≡ L.malformed n
unfolding lex_from on_start
at_none b l n h = rw (step_none (b ∷ l) (start_of b l) (starts b l) h)

-- what is so is computed
pub lexes_computed : {n : ℕ} {t : List ℕ} {ts : List Token} → Lexes n t ts → lex_from t 0 n ≡ tokens ts
unfolding lex_from ◌▸◌
lexes_computed S.end = refl
lexes_computed {n} (S.gap {w} {rest} p r) = at_gap w rest n p ∙ lexes_computed r
lexes_computed {n} (S.token {k} {v} {w} {rest} p r) = at_token w rest k v n p
    ∙ ap (◌▸◌ (record { kind = k; value = v; size = length w; place = n })) (lexes_computed r)

pub stops_computed : {n p : ℕ} {t : List ℕ} → Stops n t p → lex_from t 0 n ≡ L.malformed p
unfolding ◌▸◌
stops_computed {n} (S.token_missing {b} {l} h) = at_none b l n h
stops_computed {n} (S.Stops.malformed {w} {rest} q) = at_bad w rest n q
stops_computed {n} (S.Stops.gap {w} {rest} q r) = at_gap w rest n q ∙ stops_computed r
stops_computed {n} (S.Stops.token {k} {v} {w} {rest} q r) = at_token w rest k v n q
    ∙ ap (◌▸◌ (record { kind = k; value = v; size = length w; place = n })) (stops_computed r)

-- what is computed is so
abbrev Right : ℕ → List ℕ → Lexed → Type 0
Right n t (tokens ts) = Lexes n t ts
Right n t (L.malformed p) = Stops n t p

right_gap : (w rest : List ℕ) (n : ℕ) (x : Lexed) → Piece w rest Meaning.gap → Right (n + length w) rest x → Right n (w ++ rest) x
right_gap w rest n (tokens ts) p r = S.Lexes.gap p r
right_gap w rest n (L.malformed q) p r = S.Stops.gap p r

right_token : (w rest : List ℕ) (k v n : ℕ) (x : Lexed) → Piece w rest (Meaning.token k v) → Right (n + length w) rest x
    → Right n (w ++ rest) (◌▸◌ (record { kind = k; value = v; size = length w; place = n }) x)
unfolding ◌▸◌
right_token w rest k v n (tokens ts) p r = S.Lexes.token p r
right_token w rest k v n (L.malformed q) p r = S.Stops.token p r

pub shorter : (w rest t : List ℕ) (m : ℕ) → (w ≡ [] → ⊥) → t ≡ w ++ rest → length t ≤ suc m → length rest ≤ m
shorter [] rest t m h e l = absurd (h refl)
shorter (b ∷ w) rest t m h e l = omega (arith, length-append (b ∷ w) rest, ap length e)

pub piece_some : (w rest : List ℕ) (m : Meaning) → Piece w rest m → Something m → w ≡ [] → ⊥
piece_some w rest m p s e = s (sym p.is ∙ (ap meaning e ∙ empty_nothing))

step : (m : ℕ) → ((rest : List ℕ) (k : ℕ) → length rest ≤ m → Right k rest (lex_from rest 0 k)) → (t : List ℕ) (n : ℕ) → length t ≤ suc m
    → Right n t (lex_from t 0 n)
unfolding lex_from
step m ih [] n l = S.end
step m ih (b ∷ t) n l = go (starts b t)
  where
    go : {o : Start} → Here (b ∷ t) o → Right n (b ∷ t) (lex_from (b ∷ t) 0 n)
    go (gap {w} {rest} p e) =
        subst (λ (y : List ℕ). Right n y (lex_from y 0 n)) (sym e) (subst (Right n (w ++ rest)) (sym (at_gap w rest n p))
        (right_gap w rest n (lex_from rest 0 (n + length w)) p
        (ih rest (n + length w) (shorter w rest (b ∷ t) m (piece_some w rest Meaning.gap p gap_something) e l))))
    go (token {w} {rest} {k} {v} p e) =
        subst (λ (y : List ℕ). Right n y (lex_from y 0 n)) (sym e) (subst (Right n (w ++ rest)) (sym (at_token w rest k v n p))
        (right_token w rest k v n (lex_from rest 0 (n + length w)) p
        (ih rest (n + length w) (shorter w rest (b ∷ t) m (piece_some w rest (Meaning.token k v) p (token_something k v)) e l))))
    go (bad {w} {rest} p e) = subst (λ (y : List ℕ). Right n y (lex_from y 0 n)) (sym e)
        (subst (Right n (w ++ rest)) (sym (at_bad w rest n p)) (S.Stops.malformed p))
    go (none h) = subst (Right n (b ∷ t)) (sym (at_none b t n h)) (S.token_missing h)

pub right : (m : ℕ) (t : List ℕ) (n : ℕ) → length t ≤ m → Right n t (lex_from t 0 n)
unfolding lex_from
right zero [] n l = S.end
right zero (b ∷ t) n l = absurd (omega arith)
right (suc m) t n l = step m (right m) t n l

-- THE THEOREMS
pub lex_tokens : (t : List ℕ) (ts : List Token) → (lex t ≡ tokens ts) ↔ Lexes 0 t ts
unfolding lex
lex_tokens t ts = (λ e. subst (Right 0 t) e (right (length t) t 0 (omega arith)), λ r. lexes_computed r)

pub lex_stops : (t : List ℕ) (p : ℕ) → (lex t ≡ L.malformed p) ↔ Stops 0 t p
unfolding lex
lex_stops t p = (λ e. subst (Right 0 t) e (right (length t) t 0 (omega arith)), λ r. stops_computed r)

pub one_lexing : (t : List ℕ) (ts us : List Token) → Lexes 0 t ts → Lexes 0 t us → ts ≡ us
one_lexing t ts us a b = let e : tokens ts ≡ tokens us = sym (lexes_computed a) ∙ lexes_computed b in cc
