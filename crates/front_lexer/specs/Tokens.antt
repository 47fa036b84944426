-- The tokens of a text in arrays: what lexing answers, and what it writes. Assumes nothing.
use Rattle.std.specs.Prelude.{◌≡◌, cond, List, [], ◌∷◌, map, ℕ, zero, suc, pred, ◌+◌, Result, Ok, Err, ltb, length}
use Rattle.std.proofs.lemmas.List.Edits.{sets}
use Rattle.base_answers.specs.declared.Refusal.{Refusal}
use Rattle.base_answers.specs.declared.Refusal.TheVariants.{TextTooLong, NoToken}
use Rattle.spec_grammar.specs.Token.{Token}
use Rattle.spec_language.specs.Lexer.{Start, gap, lexeme, unknown, start_of, tokens, malformed, lex}
use Rattle.spec_language.specs.Lexer as L

-- n tokens and those of the rest, counted; or refusal 2 with its place
abbrev pub counted : ℕ → L.Lexed → Result ℕ Refusal
counted n (tokens ts) = Ok (n + length ts)
counted n (malformed p) = Err (NoToken p)

-- "At most 16,384 bytes", else refusal 1
unfoldable pub lexed : List ℕ → Result ℕ Refusal
lexed text = cond (ltb 16384 (length text)) (Err TextTooLong) (counted 0 (lex text))

-- a gap is passed over, a token is found and passed over, and where no token begins nothing more is found
abbrev pub on_found : Start → ℕ → (ℕ → List Token) → List Token
on_found (gap k) n f = f (pred k)
on_found (lexeme k v s) n f = record { kind = k; value = v; size = s; place = n } ∷ f (pred s)
on_found unknown n f = []

-- the tokens of the bytes from n on, of which the first k are passed over, up to where no token begins
unfoldable pub found_from : List ℕ → ℕ → ℕ → List Token
found_from [] k n = []
found_from (b ∷ l) zero n = on_found (start_of b l) n (λ k. found_from l k (suc n))
found_from (b ∷ l) (suc k) n = found_from l k (suc n)

-- the tokens that are written: all, or those before the refusal's place; none of a text that is too long
unfoldable pub found : List ℕ → List Token
found text = cond (ltb 16384 (length text)) [] (found_from text 0 0)

-- an array whose first elements are these, all others as before: the items are stored one after the other, from the first element on
unfoldable pub write : List ℕ → List ℕ → List ℕ
write items before = sets before 0 items

-- the columns of the tokens: kinds, places, sizes
abbrev pub kinds_of : List Token → List ℕ
kinds_of ts = map (λ t. t.kind) ts

abbrev pub places_of : List Token → List ℕ
places_of ts = map (λ t. t.place) ts

abbrev pub sizes_of : List Token → List ℕ
sizes_of ts = map (λ t. t.size) ts

-- the answer, and the three arrays after the call (₁) from those before it (₀)
pub record Lexing (text : List ℕ) (r : Result ℕ Refusal) (kinds₀ kinds₁ starts₀ starts₁ sizes₀ sizes₁ : List ℕ) : Type 0 where
  pub answer : r ≡ lexed text
  pub kinds : kinds₁ ≡ write (kinds_of (found text)) kinds₀
  pub starts : starts₁ ≡ write (places_of (found text)) starts₀
  pub sizes : sizes₁ ≡ write (sizes_of (found text)) sizes₀
