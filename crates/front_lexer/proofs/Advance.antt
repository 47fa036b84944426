-- What a piece at a place says of the rest of the text: lexing goes on behind a gap or a token, and stops where no token begins. Assumes nothing.
use mathlib.Core.Path.{◌≡◌, refl, sym, ◌∙◌, ap, subst}
use mathlib.Core.Bool.{true, cond}
use mathlib.Core.List.{List, [], ◌∷◌, ◌++◌}
use Prim.Native.Nat.{ℕ, zero, suc, pred, ◌+◌, ◌-◌, ◌≤◌, ◌<◌}
use native.Mathlib.Omega.{arith}
use lib.Dec.{eqb}
use lib.ListN.{length, get_or, take, drop, drop_of_length-le, length-append, length-drop}
use lib.Seq.{drop-cons, drop-drop}
use borrow.Author.Tests.{ne_eqb}
use Rattle.spec_grammar.specs.Token.{Token}
use Rattle.spec_language.specs.Lexing.{Meaning}
use Rattle.spec_language.specs.Lexer.{Start, lexeme, unknown, start_of, tokens, ◌▸◌, on_start, lex_from, on_token, token_from}
use Rattle.spec_language.specs.Lexer as L
use Rattle.spec_language.proofs.Lexing.{Here, gap, token, bad, none, starts}
use Rattle.spec_language.proofs.LexExact.{gap_something, token_something, piece_some}
use Rattle.spec_language.specs.Bytes.{blank, is}
use Rattle.front_token.specs.declared.pieces.Piece.{Piece}
use Rattle.front_token.specs.declared.pieces.Piece.TheVariants as P
use Rattle.front_token.specs.Places.{part}
use Rattle.front_token.specs.Pieces.{placed, piece_from, piece_at}
use Rattle.front_lexer.specs.Tokens.{found_from}
use Rattle.front_token.proofs.ByteKinds.{is_kind}
use Rattle.front_token.proofs.PieceLaws.{piece_blank}

-- a piece has a byte, and is no longer than the text
abbrev Sized : ℕ → Start → Type 0
Sized n (L.gap k) = (0 < k) × (k ≤ n)
Sized n (lexeme j v k) = (0 < k) × (k ≤ n)
Sized n unknown = Unit {0}

some_length : (w rest t : List ℕ) → (w ≡ [] → ⊥) → t ≡ w ++ rest → (0 < length w) × (length w ≤ length t)
some_length [] rest t h e = absurd (h refl)
some_length (b ∷ w) rest t h e = let z = ap length e in let a = length-append (b ∷ w) rest in (omega arith, omega arith)

start_sized : (t : List ℕ) (o : Start) → Here t o → Sized (length t) o
start_sized t o (gap {w} {rest} p e) = some_length w rest t (piece_some w rest Meaning.gap p gap_something) e
start_sized t o (token {w} {rest} {k} {v} p e) = some_length w rest t (piece_some w rest (Meaning.token k v) p (token_something k v)) e
start_sized t o (bad p e) = tt
start_sized t o (none h) = tt

-- bytes passed over
lex_skip : (l : List ℕ) (k n : ℕ) → lex_from l k n ≡ lex_from (drop k l) 0 (n + k)
unfolding lex_from
lex_skip [] zero n = refl
lex_skip [] (suc k) n = refl
lex_skip (b ∷ l) zero n = ap (lex_from (b ∷ l) 0) (omega arith)
lex_skip (b ∷ l) (suc k) n = lex_skip l k (suc n) ∙ ap (lex_from (drop k l) 0) (omega arith)

found_skip : (l : List ℕ) (k n : ℕ) → found_from l k n ≡ found_from (drop k l) 0 (n + k)
unfolding found_from
found_skip [] zero n = refl
found_skip [] (suc k) n = refl
found_skip (b ∷ l) zero n = ap (found_from (b ∷ l) 0) (omega arith)
found_skip (b ∷ l) (suc k) n = found_skip l k (suc n) ∙ ap (found_from (drop k l) 0) (omega arith)

token_skip : (p : ℕ) (l : List ℕ) (k n : ℕ) → token_from l k n p ≡ token_from (drop k l) 0 (n + k) p
unfolding token_from
token_skip p [] zero n = refl
token_skip p [] (suc k) n = refl
token_skip p (b ∷ l) zero n = ap (λ (m : ℕ). token_from (b ∷ l) 0 m p) (omega arith)
token_skip p (b ∷ l) (suc k) n = token_skip p l k (suc n) ∙ ap (λ (m : ℕ). token_from (drop k l) 0 m p) (omega arith)

-- what passes over bytes so goes on behind a piece
past : {A : Type 0} (f : List ℕ → ℕ → ℕ → A) → ((l : List ℕ) (k n : ℕ) → f l k n ≡ f (drop k l) 0 (n + k))
    → (text : List ℕ) (i b : ℕ) (l : List ℕ) (j : ℕ) → drop i text ≡ b ∷ l
    → f l j (suc i) ≡ f (drop (i + suc j) text) 0 (i + suc j)
past f skip text i b l j e =
    let d : drop j l ≡ drop (i + suc j) text = ap (drop (suc j)) (sym e) ∙ drop-drop (suc j) i text in
    let n : suc i + j ≡ i + suc j = omega arith in
    skip l j (suc i) ∙ rw (d, n)

pub record Gapped (text : List ℕ) (i end : ℕ) : Type 0 where
  pub later : i < end
  pub within : end ≤ length text
  pub lexes : lex_from (drop i text) 0 i ≡ lex_from (drop end text) 0 end
  pub finds : found_from (drop i text) 0 i ≡ found_from (drop end text) 0 end
  pub hands : (p : ℕ) → token_from (drop i text) 0 i p ≡ token_from (drop end text) 0 end p

-- the token of that kind and value from i up to an end
abbrev pub token_of : ℕ → ℕ → ℕ → ℕ → Token
token_of k v i end = record { kind = k; value = v; size = end - i; place = i }

pub record Tokened (text : List ℕ) (i k end : ℕ) : Type 0 where
  pub value : ℕ
  pub later : i < end
  pub within : end ≤ length text
  pub lexes : lex_from (drop i text) 0 i ≡ ◌▸◌ (token_of k value i end) (lex_from (drop end text) 0 end)
  pub finds : found_from (drop i text) 0 i ≡ token_of k value i end ∷ found_from (drop end text) 0 end
  pub hands : (p : ℕ) → token_from (drop i text) 0 i p ≡ cond (eqb i p) (part text i (end - i)) (token_from (drop end text) 0 end p)

pub record Stopped (text : List ℕ) (i : ℕ) : Type 0 where
  pub lexes : lex_from (drop i text) 0 i ≡ L.malformed i
  pub finds : found_from (drop i text) 0 i ≡ []
  pub hands : (p : ℕ) → token_from (drop i text) 0 i p ≡ []

abbrev pub Advance : List ℕ → ℕ → Piece → Type 0
Advance text i (P.Gap end) = Gapped text i end
Advance text i (P.Token k end) = Tokened text i k end
Advance text i P.Nothing = Stopped text i

module _ (text : List ℕ) (i b : ℕ) (l : List ℕ) (e : drop i text ≡ b ∷ l) where
  by_start : (o : Start) → start_of b l ≡ o → Sized (length text - i) o → Advance text i (placed o i)
  unfolding lex_from on_start token_from on_token found_from
  by_start (L.gap zero) s z = absurd (omega arith)
  by_start (L.gap (suc j)) s z =
      record {
        later = omega arith;
        within = omega arith;
        lexes = rw (e, s) (past lex_from lex_skip text i b l j e);
        finds = rw (e, s) (past found_from found_skip text i b l j e);
        hands = λ p. rw (e, s) (past (λ t k n. token_from t k n p) (token_skip p) text i b l j e);
      }
  by_start (lexeme k v zero) s z = absurd (omega arith)
  by_start (lexeme k v (suc j)) s z =
      let n : i + suc j - i ≡ suc j = omega arith in
      record {
        value = v;
        later = omega arith;
        within = omega arith;
        lexes = rw (e, s, n) (ap (◌▸◌ (record { kind = k; value = v; size = suc j; place = i })) (past lex_from lex_skip text i b l j e));
        finds = rw (e, s, n) (ap (λ (ts : List Token). record { kind = k; value = v; size = suc j; place = i } ∷ ts)
            (past found_from found_skip text i b l j e));
        hands = λ p. rw (e, s, n) (ap (cond (eqb i p) (take (suc j) (b ∷ l))) (past (λ t k n. token_from t k n p) (token_skip p) text i b l j e));
      }
  by_start unknown s z = record { lexes = rw (e, s); finds = rw (e, s); hands = λ p. rw (e, s) }

-- THE LAW: what starts at a place of the text, and what lexing does there
pub advance : (text : List ℕ) (i : ℕ) → i < length text → Advance text i (piece_at text i)
advance text i h = go (get_or text i 0) (drop (suc i) text) (drop-cons text i 0 h)
  where
    go : (b : ℕ) (l : List ℕ) → drop i text ≡ b ∷ l → Advance text i (piece_at text i)
    go b l e =
        let z : length (b ∷ l) ≡ length text - i = ap length (sym e) ∙ length-drop i text in
        subst (λ (t : List ℕ). Advance text i (piece_from t i)) (sym e)
        (by_start text i b l e (start_of b l) refl (subst (λ (n : ℕ). Sized n (start_of b l)) z (start_sized (b ∷ l) (start_of b l) (starts b l))))

-- at the end of the text
pub nothing_left : (text : List ℕ) (i : ℕ) → length text ≤ i → (lex_from (drop i text) 0 i ≡ tokens []) × (found_from (drop i text) 0 i ≡ [])
    × ((p : ℕ) → token_from (drop i text) 0 i p ≡ [])
unfolding lex_from found_from token_from
nothing_left text i h = (rw (drop_of_length-le text h), rw (drop_of_length-le text h), λ p. rw (drop_of_length-le text h))

-- a token that starts before n is none of those from n on
pub token_past : (l : List ℕ) (k n p : ℕ) → p < n → token_from l k n p ≡ []
unfolding token_from on_token
token_past [] k n p h = refl
token_past (b ∷ l) zero n p h = go (start_of b l) (λ k. token_past l k (suc n) p (omega arith))
  where
    go : (o : Start) → ((k : ℕ) → token_from l k (suc n) p ≡ []) → on_token o n p (b ∷ l) (λ k. token_from l k (suc n) p) ≡ []
    go (L.gap j) ih = ih (pred j)
    go (lexeme j v s) ih = rw (ne_eqb n p (λ e. omega arith)) (ih (pred s))
    go unknown ih = refl
token_past (b ∷ l) (suc k) n p h = token_past l k (suc n) p (omega arith)

-- the same by what a call answered
module _ (text : List ℕ) (i : ℕ) (r : Piece) (h : i < length text) (e : r ≡ piece_at text i) where
  pub gapped : (end : ℕ) → r ≡ P.Gap end → Gapped text i end
  gapped end f = subst (Advance text i) (sym e ∙ f) (advance text i h)

  pub tokened : (k end : ℕ) → r ≡ P.Token k end → Tokened text i k end
  tokened k end f = subst (Advance text i) (sym e ∙ f) (advance text i h)

  pub stopped : r ≡ P.Nothing → Stopped text i
  stopped f = subst (Advance text i) (sym e ∙ f) (advance text i h)

-- a blank is a gap of one byte
pub blank_gapped : (text : List ℕ) (i : ℕ) → i < length text → is blank (get_or text i 0) ≡ true → Gapped text i (i + 1)
blank_gapped text i h e = gapped text i (P.Gap (i + 1)) h (piece_blank text i h (is_kind blank (get_or text i 0) e)) (i + 1) refl
