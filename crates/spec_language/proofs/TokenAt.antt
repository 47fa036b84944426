-- token_at hands out exactly the token that starts at the place, and the empty part where none does. Assumes nothing.
use mathlib.Core.Path.{◌≡◌, refl, sym, ◌∙◌, ap, subst}
use mathlib.Core.Bool.{Bool, true, false, cond}
use mathlib.Core.Logic.{◌⊎◌, inl, inr}
use mathlib.Core.List.{List, [], ◌∷◌, ◌++◌}
use Prim.Native.Nat.{ℕ, zero, suc, ◌+◌, ◌≤◌, ◌<◌}
use native.Mathlib.Omega.{arith}
use lib.Dec.{eqb}
use lib.ListN.{length}
use lib.Seq.{take_at}
use Rattle.spec_language.specs.Lexer.{Start, unknown, start_of, on_token, token_from, token_at}
use Rattle.spec_language.specs.Lexing.{Meaning, Piece, Stops, Starts}
use Rattle.spec_language.specs.Lexing as S
use Rattle.spec_language.proofs.Facts.{eqb_eq, eq-eqb}
use Rattle.spec_language.proofs.Lexing.{Here, gap, token, bad, none, starts}
use Rattle.spec_language.proofs.LexExact.{gap_something, token_something, bad_something, step_gap, step_token, step_bad, step_none, empty_nothing}
use Rattle.spec_language.proofs.LexExact.{shorter, piece_some}

passed : (w rest : List ℕ) (n p : ℕ) → token_from (w ++ rest) (length w) n p ≡ token_from rest 0 (n + length w) p
unfolding token_from
passed [] [] n p = refl
passed [] (b ∷ l) n p = ap (λ (m : ℕ). token_from (b ∷ l) 0 m p) (omega arith)
passed (b ∷ w) rest n p = passed w rest (suc n) p ∙ ap (λ (m : ℕ). token_from rest 0 m p) (omega arith)

at_gap : (w rest : List ℕ) (n p : ℕ) → Piece w rest Meaning.gap → token_from (w ++ rest) 0 n p ≡ token_from rest 0 (n + length w) p
unfolding token_from on_token
at_gap [] rest n p q = absurd (gap_something (sym q.is ∙ empty_nothing))
at_gap (b ∷ w) rest n p q = rw (step_gap (b ∷ w) rest (b ∷ (w ++ rest)) (start_of b (w ++ rest)) (starts b (w ++ rest)) q refl)
    (passed w rest (suc n) p ∙ ap (λ (m : ℕ). token_from rest 0 m p) (omega arith))

at_token : (w rest : List ℕ) (k v n p : ℕ) → Piece w rest (Meaning.token k v)
    → token_from (w ++ rest) 0 n p ≡ cond (eqb n p) w (token_from rest 0 (n + length w) p)
unfolding token_from on_token
at_token [] rest k v n p q = absurd (token_something k v (sym q.is ∙ empty_nothing))
at_token (b ∷ w) rest k v n p q =
    let e : token_from (w ++ rest) (length w) (suc n) p ≡ token_from rest 0 (n + length (b ∷ w)) p = passed w rest (suc n) p
    ∙ ap (λ (m : ℕ). token_from rest 0 m p) (omega arith) in
    rw (step_token (b ∷ w) rest (b ∷ (w ++ rest)) k v (start_of b (w ++ rest)) (starts b (w ++ rest)) q refl, e)
    (ap (λ (y : List ℕ). cond (eqb n p) y (token_from rest 0 (n + length (b ∷ w)) p)) (take_at (b ∷ w) rest (length (b ∷ w)) refl))

-- what starts at or after n stands there
not_before : {n p : ℕ} {t u : List ℕ} → Starts n t p u → n ≤ p
not_before (S.here q) = omega arith
not_before (S.Starts.gap {w} q r) = let h = not_before r in omega arith
not_before (S.Starts.token {w} q r) = let h = not_before r in omega arith

other : (n p : ℕ) → n < p → eqb n p ≡ false
other n p h = go (eqb n p) refl
  where
    go : (q : Bool) → eqb n p ≡ q → q ≡ false
    go false e = refl
    go true e = let z = eqb_eq n p e in absurd (omega arith)

length_some : (w rest : List ℕ) (k v : ℕ) → Piece w rest (Meaning.token k v) → 0 < length w
length_some [] rest k v q = absurd (token_something k v (sym q.is ∙ empty_nothing))
length_some (b ∷ w) rest k v q = omega arith

pub starts_computed : {n p : ℕ} {t u : List ℕ} → Starts n t p u → token_from t 0 n p ≡ u
starts_computed {n} (S.here {k} {v} {w} {rest} q) = at_token w rest k v n n q ∙ rw (eq-eqb n n refl)
starts_computed {n} {p} (S.Starts.gap {w} {rest} q r) = at_gap w rest n p q ∙ starts_computed r
starts_computed {n} {p} (S.Starts.token {k} {v} {w} {rest} q r) =
    let a = not_before r in
    let b = length_some w rest k v q in
    at_token w rest k v n p q ∙ rw (other n p (omega arith)) (starts_computed r)

Answer : ℕ → List ℕ → ℕ → List ℕ → Type 0
Answer n t p u = (u ≡ []) ⊎ Starts n t p u

step : (p m : ℕ) → ((rest : List ℕ) (k : ℕ) → length rest ≤ m → Answer k rest p (token_from rest 0 k p)) → (t : List ℕ) (n : ℕ) → length t ≤ suc m
    → Answer n t p (token_from t 0 n p)
unfolding token_from on_token Answer
step p m ih [] n l = inl refl
step p m ih (b ∷ t) n l = go (start_of b t) (starts b t) refl
  where
    later : {w rest : List ℕ} (u : List ℕ) → Piece w rest Meaning.gap → (u ≡ []) ⊎ Starts (n + length w) rest p u → (u ≡ []) ⊎ Starts n (w ++ rest) p u
    later u q (inl e) = inl e
    later u q (inr s) = inr (S.Starts.gap q s)

    later_token : {w rest : List ℕ} {k v : ℕ} (u : List ℕ) → Piece w rest (Meaning.token k v) → (u ≡ []) ⊎ Starts (n + length w) rest p u
        → (u ≡ []) ⊎ Starts n (w ++ rest) p u
    later_token u q (inl e) = inl e
    later_token u q (inr s) = inr (S.Starts.token q s)

    picked : (w rest : List ℕ) (k v : ℕ) (q : Bool) → eqb n p ≡ q → Piece w rest (Meaning.token k v)
        → (token_from rest 0 (n + length w) p ≡ []) ⊎ Starts (n + length w) rest p (token_from rest 0 (n + length w) p)
        → (cond q w (token_from rest 0 (n + length w) p) ≡ []) ⊎ Starts n (w ++ rest) p (cond q w (token_from rest 0 (n + length w) p))
    picked w rest k v true e q r = inr (subst (λ (y : ℕ). Starts n (w ++ rest) y w) (eqb_eq n p e) (S.here q))
    picked w rest k v false e q r = later_token (token_from rest 0 (n + length w) p) q r

    go : (o : Start) → Here (b ∷ t) o → start_of b t ≡ o → (token_from (b ∷ t) 0 n p ≡ []) ⊎ Starts n (b ∷ t) p (token_from (b ∷ t) 0 n p)
    go o (gap {w} {rest} q e) z =
        subst (λ (y : List ℕ). (token_from y 0 n p ≡ []) ⊎ Starts n y p (token_from y 0 n p)) (sym e)
        (subst (λ (y : List ℕ). (y ≡ []) ⊎ Starts n (w ++ rest) p y) (sym (at_gap w rest n p q))
        (later (token_from rest 0 (n + length w) p) q (ih rest (n + length w) (shorter w rest (b ∷ t) m (piece_some w rest Meaning.gap q gap_something) e l))))
    go o (token {w} {rest} {k} {v} q e) z =
        subst (λ (y : List ℕ). (token_from y 0 n p ≡ []) ⊎ Starts n y p (token_from y 0 n p)) (sym e)
        (subst (λ (y : List ℕ). (y ≡ []) ⊎ Starts n (w ++ rest) p y) (sym (at_token w rest k v n p q))
        (picked w rest k v (eqb n p) refl q (ih rest (n + length w)
        (shorter w rest (b ∷ t) m (piece_some w rest (Meaning.token k v) q (token_something k v)) e l))))
    go o (bad q e) z = inl (rw z)
    go o (none h) z = inl (rw z)

right : (p m : ℕ) (t : List ℕ) (n : ℕ) → length t ≤ m → Answer n t p (token_from t 0 n p)
unfolding token_from Answer
right p zero [] n l = inl refl
right p zero (b ∷ t) n l = absurd (omega arith)
right p (suc m) t n l = step p m (right p m) t n l

-- THE THEOREM: the token that starts at p; or the empty part, and none starts there
pub token_at_lem : (t : List ℕ) (p : ℕ) → ((token_at t p ≡ []) × ((u : List ℕ) → Starts 0 t p u → u ≡ [])) ⊎ Starts 0 t p (token_at t p)
unfolding token_at Answer
token_at_lem t p = go (right p (length t) t 0 (omega arith))
  where
    go : (token_from t 0 0 p ≡ []) ⊎ Starts 0 t p (token_from t 0 0 p)
        → ((token_from t 0 0 p ≡ []) × ((u : List ℕ) → Starts 0 t p u → u ≡ [])) ⊎ Starts 0 t p (token_from t 0 0 p)
    go (inl e) = inl (e, λ u s. sym (starts_computed s) ∙ e)
    go (inr s) = inr s

-- no token is empty
pub token_some : {n p : ℕ} {t u : List ℕ} → Starts n t p u → 0 < length u
token_some (S.here {k} {v} {w} {rest} q) = length_some w rest k v q
token_some (S.Starts.gap q r) = token_some r
token_some (S.Starts.token q r) = token_some r

-- at a place of refusal 2: no token begins, or a malformed word
at_unknown : (b : ℕ) (l : List ℕ) (n p : ℕ) → start_of b l ≡ unknown → token_from (b ∷ l) 0 n p ≡ []
unfolding token_from on_token
at_unknown b l n p e = rw e

at_bad : (w rest : List ℕ) (n p : ℕ) → Piece w rest Meaning.malformed → token_from (w ++ rest) 0 n p ≡ []
at_bad [] rest n p q = absurd (bad_something (sym q.is ∙ empty_nothing))
at_bad (b ∷ w) rest n p q = at_unknown b (w ++ rest) n p (step_bad (b ∷ w) rest (b ∷ (w ++ rest)) (start_of b (w ++ rest)) (starts b (w ++ rest)) q refl)

-- refusal 2 stands at or after n
stop_after : {n p : ℕ} {t : List ℕ} → Stops n t p → n ≤ p
stop_after (S.token_missing h) = omega arith
stop_after (S.Stops.malformed q) = omega arith
stop_after (S.Stops.gap {w} q r) = let h = stop_after r in omega arith
stop_after (S.Stops.token {w} q r) = let h = stop_after r in omega arith

from_stop : {n p : ℕ} {t : List ℕ} → Stops n t p → token_from t 0 n p ≡ []
from_stop {n} (S.token_missing {b} {l} h) = at_unknown b l n n (step_none (b ∷ l) (start_of b l) (starts b l) h)
from_stop {n} (S.Stops.malformed {w} {rest} q) = at_bad w rest n n q
from_stop {n} {p} (S.Stops.gap {w} {rest} q r) = at_gap w rest n p q ∙ from_stop r
from_stop {n} {p} (S.Stops.token {k} {v} {w} {rest} q r) =
    let a = stop_after r in
    let b = length_some w rest k v q in
    at_token w rest k v n p q ∙ rw (other n p (omega arith)) (from_stop r)

-- "a malformed word is no token", nor is a byte that begins none
pub stop_nothing : {t : List ℕ} {p : ℕ} → Stops 0 t p → token_at t p ≡ []
unfolding token_at
stop_nothing s = from_stop s
