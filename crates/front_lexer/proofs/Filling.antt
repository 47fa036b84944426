-- The loop that fills the arrays: the tokens so far stand in them, and with those of the rest they are the text's. Assumes nothing.
use mathlib.Core.Path.{◌≡◌, refl, sym, ◌∙◌, ap}
use mathlib.Core.List.{List, [], ◌∷◌, ◌++◌, map, append_assoc, append-nil}
use Prim.Native.Nat.{ℕ, suc, ◌+◌, ◌-◌, ◌≤◌, ◌<◌}
use native.Mathlib.Omega.{arith}
use lib.ListN.{length, set, drop, length-append, length-map}
use lib.Seq.{sets}
use borrow.Author.Tests.{lt-ltb, le-ltb}
use Rattle.base_answers.specs.declared.Refusal.{Refusal}
use Rattle.base_answers.specs.declared.Refusal.TheVariants.{TextTooLong, NoToken}
use Rattle.spec_grammar.specs.Token.{Token}
use Rattle.spec_language.specs.Lexer.{tokens, malformed, ◌▸◌, lex_from, lex}
use Rattle.spec_language.specs.Lexer as L
use Rattle.std.specs.Prelude.{Result, Ok, Err}
use Rattle.front_lexer.specs.Tokens.{counted, lexed, found_from, found, write, kinds_of, places_of, sizes_of, Lexing}
use Rattle.front_lexer.proofs.Advance.{Gapped, Tokened, Stopped, token_of, nothing_left}

sets_more : (items before : List ℕ) (i n x : ℕ) → n ≡ i + length items → set (sets before i items) n x ≡ sets before i (items ++ (x ∷ []))
sets_more [] before i n x e = ap (λ (m : ℕ). set before m x) (omega arith)
sets_more (y ∷ items) before i n x e = sets_more items (set before i y) (suc i) n x (omega arith)

-- one element more
write_more : (items before : List ℕ) (n x : ℕ) → n ≡ length items → set (write items before) n x ≡ write (items ++ (x ∷ [])) before
unfolding write
write_more items before n x e = sets_more items before 0 n x (omega arith)

write_none : (before : List ℕ) → before ≡ write [] before
unfolding write
write_none before = refl

map_more : (f : Token → ℕ) (ts : List Token) (t : Token) → map f (ts ++ (t ∷ [])) ≡ map f ts ++ (f t ∷ [])
map_more f [] t = refl
map_more f (x ∷ ts) t = ap (λ (l : List ℕ). f x ∷ l) (map_more f ts t)

counted_more : (n : ℕ) (t : Token) (x : L.Lexed) → counted n (◌▸◌ t x) ≡ counted (n + 1) x
unfolding ◌▸◌
counted_more n t (tokens ts) = ap Ok (omega arith)
counted_more n t (malformed p) = refl

-- at i, n tokens being written
pub record Filled (text kinds₀ starts₀ sizes₀ kinds₁ starts₁ sizes₁ : List ℕ) (i n : ℕ) : Type 0 where
  pub within : i ≤ length text
  pub done : List Token
  pub count : n ≡ length done
  pub room : n ≤ i
  pub kinds : kinds₁ ≡ write (kinds_of done) kinds₀
  pub starts : starts₁ ≡ write (places_of done) starts₀
  pub sizes : sizes₁ ≡ write (sizes_of done) sizes₀
  pub finds : done ++ found_from (drop i text) 0 i ≡ found_from text 0 0
  pub answer : counted n (lex_from (drop i text) 0 i) ≡ counted 0 (lex text)

module _ (text kinds₀ starts₀ sizes₀ : List ℕ) where
  pub fill_first : Filled text kinds₀ starts₀ sizes₀ kinds₀ starts₀ sizes₀ 0 0
  unfolding lex
  fill_first =
      record {
        within = omega arith;
        done = [];
        count = refl;
        room = omega arith;
        kinds = write_none kinds₀;
        starts = write_none starts₀;
        sizes = write_none sizes₀;
        finds = refl;
        answer = refl;
      }

  module _ (kinds₁ starts₁ sizes₁ : List ℕ) (i n : ℕ) (f : Filled text kinds₀ starts₀ sizes₀ kinds₁ starts₁ sizes₁ i n) where
    pub fill_gap : (end : ℕ) → Gapped text i end → Filled text kinds₀ starts₀ sizes₀ kinds₁ starts₁ sizes₁ end n
    fill_gap end g =
        let l = g.later in
        let r = f.room in
        record {
          within = g.within;
          done = f.done;
          count = f.count;
          room = omega arith;
          kinds = f.kinds;
          starts = f.starts;
          sizes = f.sizes;
          finds = ap (λ (ts : List Token). f.done ++ ts) (sym g.finds) ∙ f.finds;
          answer = ap (counted n) (sym g.lexes) ∙ f.answer;
        }

    -- the stores of a token
    stored : (g : Token → ℕ) (a₀ a₁ : List ℕ) (t : Token) → a₁ ≡ write (map g f.done) a₀ → set a₁ n (g t) ≡ write (map g (f.done ++ (t ∷ []))) a₀
    stored g a₀ a₁ t e =
        let c = f.count in
        rw e (write_more (map g f.done) a₀ n (g t) (c ∙ sym (length-map f.done g)) ∙ ap (λ (l : List ℕ). write l a₀) (sym (map_more g f.done t)))

    pub fill_token : (k end : ℕ) → Tokened text i k end
        → Filled text kinds₀ starts₀ sizes₀ (set kinds₁ n k) (set starts₁ n i) (set sizes₁ n (end - i)) end (n + 1)
    fill_token k end g =
        let l = g.later in
        let r = f.room in
        let c = f.count in
        let t : Token = token_of k g.value i end in
        record {
          within = g.within;
          done = f.done ++ (t ∷ []);
          count = omega (arith, length-append f.done (t ∷ []));
          room = omega arith;
          kinds = stored (λ x. x.kind) kinds₀ kinds₁ t f.kinds;
          starts = stored (λ x. x.place) starts₀ starts₁ t f.starts;
          sizes = stored (λ x. x.size) sizes₀ sizes₁ t f.sizes;
          finds = append_assoc f.done (t ∷ []) (found_from (drop end text) 0 end) ∙ (ap (λ (ts : List Token). f.done ++ ts) (sym g.finds) ∙ f.finds);
          answer = sym (counted_more n t (lex_from (drop end text) 0 end)) ∙ (ap (counted n) (sym g.lexes) ∙ f.answer);
        }

    -- where nothing is left to find, the tokens so far are all
    all_found : found_from (drop i text) 0 i ≡ [] → f.done ≡ found_from text 0 0
    all_found e = sym (append-nil f.done) ∙ (ap (λ (ts : List Token). f.done ++ ts) (sym e) ∙ f.finds)

    ended : (r : Result ℕ Refusal) → length text ≤ 16384 → found_from (drop i text) 0 i ≡ [] → r ≡ counted 0 (lex text)
        → Lexing text r kinds₀ kinds₁ starts₀ starts₁ sizes₀ sizes₁
    unfolding lexed found
    ended r h e a =
        let q = le-ltb 16384 (length text) h in
        let d = all_found e in
        record {
          answer = rw q a;
          kinds = rw (q, ← d) f.kinds;
          starts = rw (q, ← d) f.starts;
          sizes = rw (q, ← d) f.sizes;
        }

    pub fill_end : length text ≤ 16384 → length text ≤ i → Lexing text (Ok n) kinds₀ kinds₁ starts₀ starts₁ sizes₀ sizes₁
    fill_end h e =
        let z = nothing_left text i e in
        ended (Ok n) h z.1 (ap Ok (omega arith) ∙ (ap (counted n) (sym z.0) ∙ f.answer))

    pub fill_stop : length text ≤ 16384 → Stopped text i → Lexing text (Err (NoToken i)) kinds₀ kinds₁ starts₀ starts₁ sizes₀ sizes₁
    fill_stop h s = ended (Err (NoToken i)) h s.finds (ap (counted n) (sym s.lexes) ∙ f.answer)

  pub too_long : 16384 < length text → Lexing text (Err TextTooLong) kinds₀ kinds₀ starts₀ starts₀ sizes₀ sizes₀
  unfolding lexed found
  too_long h =
      let q = lt-ltb 16384 (length text) h in
      record {
        answer = rw q;
        kinds = rw q (write_none kinds₀);
        starts = rw q (write_none starts₀);
        sizes = rw q (write_none sizes₀);
      }
