-- What the contract of `lex` says in the terms of the language: tokens exactly when the text is not too long and has these tokens, which then stand in the
-- arrays; refusal 1 exactly when it is too long; refusal 2 at p exactly when it stops there. Assumes nothing.
use mathlib.Core.Path.{◌≡◌, refl, sym, ◌∙◌, ap, subst}
use mathlib.Core.Bool.{Bool, true, false, cond}
use mathlib.Core.List.{List, [], ◌∷◌, ◌++◌}
use Prim.Native.Nat.{ℕ, zero, suc, pred, ◌+◌, ◌-◌, ◌≤◌, ◌<◌}
use native.Mathlib.Omega.{arith}
use lib.Dec.{ltb}
use lib.ListN.{length, get_or, drop, get_or-append}
use lib.Seq.{sets-eq, get_or-append-add, get_or-drop}
use borrow.Author.Tests.{ltb-true, ltb-false}
use Rattle.base_answers.specs.declared.Refusal.TheVariants.{TextTooLong}
use Rattle.spec_grammar.specs.Token.{Token}
use Rattle.spec_language.specs.Lexer.{Start, lexeme, unknown, start_of, tokens, malformed, ◌▸◌, on_start, lex_from, lex}
use Rattle.spec_language.specs.Lexer as L
use Rattle.spec_language.proofs.LexExact.{lex_tokens, lex_stops}
use Rattle.std.specs.Prelude.{Ok, Err}
use Rattle.front_lexer.specs.Answered.{Answered, read, too_long, stops}
use Rattle.front_lexer.specs.Tokens.{counted, lexed, on_found, found_from, found, write}

-- where the text has tokens, they are those found
found_all : (l : List ℕ) (k n : ℕ) (ts : List Token) → lex_from l k n ≡ tokens ts → found_from l k n ≡ ts
unfolding lex_from on_start found_from ◌▸◌
found_all [] k n ts e = cc
found_all (b ∷ l) zero n ts e = go (start_of b l) (λ k us. found_all l k (suc n) us) e
  where
    more : (x : Token) (r : L.Lexed) (us : List Token) → ◌▸◌ x r ≡ tokens ts → ((vs : List Token) → r ≡ tokens vs → us ≡ vs) → x ∷ us ≡ ts
    more x (tokens vs) us f ih = ap (λ (l : List Token). x ∷ l) (ih vs refl) ∙ (cc)
    more x (malformed p) us f ih = absurd (let z : ◌≡◌ {A = ℕ} 0 1 = cc in omega arith)

    go : (o : Start) → ((k : ℕ) (us : List Token) → lex_from l k (suc n) ≡ tokens us → found_from l k (suc n) ≡ us)
        → on_start o n (λ k. lex_from l k (suc n)) ≡ tokens ts → on_found o n (λ k. found_from l k (suc n)) ≡ ts
    go (L.gap k) ih f = ih (pred k) ts f
    go (lexeme k v s) ih f = more (record { kind = k; value = v; size = s; place = n }) (lex_from l (pred s) (suc n)) (found_from l (pred s) (suc n)) f
        (ih (pred s))
    go unknown ih f = absurd (let z : ◌≡◌ {A = ℕ} 0 1 = cc in omega arith)
found_all (b ∷ l) (suc k) n ts e = found_all l k (suc n) ts e

-- THE THEOREM
pub lexed_answered : (text : List ℕ) → Answered text (lexed text)
unfolding lexed found lex
lexed_answered text = go (ltb 16384 (length text)) refl
  where
    short : ltb 16384 (length text) ≡ false → (r : L.Lexed) → lex text ≡ r → Answered text (counted 0 r)
    short q (tokens ts) e =
        let f : found text ≡ ts = rw q (found_all text 0 0 ts e) in
        let n : length ts ≡ 0 + length ts = omega arith in
        subst (λ (m : ℕ). Answered text (Ok m)) n (read ts (ltb-false 16384 (length text) q) ((lex_tokens text ts).0 e) f)
    short q (malformed p) e = stops p (ltb-false 16384 (length text) q) ((lex_stops text p).0 e)

    go : (q : Bool) → ltb 16384 (length text) ≡ q → Answered text (cond q (Err TextTooLong) (counted 0 (lex text)))
    go true q = too_long (ltb-true 16384 (length text) q)
    go false q = short q (lex text) refl

-- an array with room has the items first, and then what it had
pub write_front : (items before : List ℕ) → length items ≤ length before → write items before ≡ items ++ drop (length items) before
unfolding write
write_front items before h = let n : 0 + length items ≡ length items = omega arith in sets-eq items before 0 (omega arith) ∙ rw n

pub write_at : (items before : List ℕ) (k : ℕ) → length items ≤ length before → k < length items → get_or (write items before) k 0 ≡ get_or items k 0
write_at items before k h l = rw (write_front items before h) (get_or-append items (drop (length items) before) 0 k l)

-- past the items it is as before
pub write_past : (items before : List ℕ) (k : ℕ) → length items ≤ length before → length items ≤ k → get_or (write items before) k 0 ≡ get_or before k 0
write_past items before k h l =
    let n : k ≡ length items + (k - length items) = omega arith in
    rw (write_front items before h) (ap (λ (m : ℕ). get_or (items ++ drop (length items) before) m 0) n
    ∙ (get_or-append-add items (drop (length items) before) (k - length items) 0
    ∙ (get_or-drop (length items) before (k - length items) 0 ∙ ap (λ (m : ℕ). get_or before m 0) (sym n))))
