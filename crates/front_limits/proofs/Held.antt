-- What lexing and marking leave: the arrays hold the tokens of the text, as the parser and the stages behind it ask. Assumes nothing.
use mathlib.Core.Path.{◌≡◌, refl, sym, ◌∙◌, ap, subst}
use mathlib.Core.Bool.{Bool, true, false, ◌||◌}
use mathlib.Core.List.{List, map}
use Prim.Native.Nat.{ℕ, zero, suc, ◌+◌, ◌≤◌, ◌<◌, min}
use native.Mathlib.Omega.{arith}
use lib.Dec.{eqb, ltb}
use lib.ListN.{length, get_or, length-map, get_or-map}
use lib.Seq.{length-sets}
use borrow.Author.Tests.{eqb-true}
use Rattle.spec_grammar.specs.Token.{Token}
use Rattle.base_codes.specs.Token.{NAME, NUMBER}
use Rattle.spec_grammar.specs.Limits.{Each}
use Rattle.spec_grammar.specs.Meter.{tick, over}
use Rattle.spec_grammar.specs.Reader.{choose}
use Rattle.spec_grammar.proofs.Each.{each_at}
use Rattle.spec_language.specs.Words.{value}
use Rattle.spec_language.specs.Lexer.{tokens, lex}
use Rattle.spec_language.specs.Lexing.{Lexes}
use Rattle.spec_language.proofs.LexExact.{lex_tokens}
use Rattle.spec_language.proofs.Room.{lexes_room}
use Rattle.std.specs.Prelude.{Ok}
use Rattle.front_token.specs.Places.{part}
use Rattle.front_lexer.specs.Answered.{Answered, read, too_long, stops}
use Rattle.front_lexer.specs.TokenValues.{Valued}
use Rattle.front_lexer.specs.Tokens.{lexed, found, write, Lexing}
use Rattle.front_lexer.proofs.LexAnswer.{lexed_answered, write_at}
use Rattle.front_lexer.proofs.TokenValues.{token_values, number_token}
use Rattle.front_layout.specs.Tokens.{no_token, token_at, alone, Holds}
use Rattle.front_layout.specs.Arrays.{TokensIn}
use Rattle.front_limits.specs.Flags.{flag_of, flag_at, flags_from, marked}
use Rattle.front_limits.specs.Words.{WordsIn}

-- a flag is 1 exactly where its test holds
flag_test : (b : Bool) → eqb (choose b 1 0) 1 ≡ b
flag_test true = refl
flag_test false = refl

or_none : (b : Bool) → b || false ≡ b
or_none true = refl
or_none false = refl

-- the flag of a token of the text
pub flag_is : (text : List ℕ) (x : Token) → Valued text x → eqb (flag_of text x.kind x.place x.size) 1 ≡ alone x
unfolding flag_of alone over tick
flag_is text x v = go (eqb x.kind NAME) (eqb x.kind NUMBER) refl refl
  where
    go : (a b : Bool) → eqb x.kind NAME ≡ a → eqb x.kind NUMBER ≡ b → eqb (flag_of text x.kind x.place x.size) 1 ≡ alone x
    go true true e f = absurd (let g = eqb-true x.kind NAME e in let h = eqb-true x.kind NUMBER f in omega arith)
    go true false e f = rw (e, f) (flag_test (ltb 32 x.size) ∙ sym (or_none (ltb 32 x.size)))
    go false true e f = let g = number_token text x v (eqb-true x.kind NUMBER f) in
        rw (e, f, g) (flag_test (ltb 2147483647 (value 0 (part text x.place x.size))))
    go false false e f = rw (e, f)

module _ (text kinds starts sizes : List ℕ) where
  flags_length : (i c : ℕ) → length (flags_from text kinds starts sizes i c) ≡ c
  unfolding flags_from
  flags_length i zero = refl
  flags_length i (suc c) = ap suc (flags_length (i + 1) c)

  flags_at : (i c k : ℕ) → k < c → get_or (flags_from text kinds starts sizes i c) k 0 ≡ flag_at text kinds starts sizes (i + k)
  unfolding flags_from
  flags_at i zero k l = absurd (omega arith)
  flags_at i (suc c) zero l = let z : i + 0 ≡ i = omega arith in rw z
  flags_at i (suc c) (suc k) l = let z : i + suc k ≡ i + 1 + k = omega arith in rw z (flags_at (i + 1) c k (omega arith))

  -- marking leaves the array as long as it was
  pub marked_size : (long : List ℕ) (n : ℕ) → length (marked text kinds starts sizes n long) ≡ length long
  unfolding marked
  marked_size long n = length-sets long 0 (flags_from text kinds starts sizes 0 (min n 16384))

  -- the array that marking leaves, read back
  pub marked_at : (long : List ℕ) (n i : ℕ) → length long ≡ 16384 → n ≤ 16384 → i < n
      → get_or (marked text kinds starts sizes n long) i 0 ≡ flag_at text kinds starts sizes i
  unfolding marked write
  marked_at long n i h s l =
      let m : min n 16384 ≡ n = omega arith in
      let g : length (flags_from text kinds starts sizes 0 n) ≡ n = flags_length 0 n in
      let z : 0 + i ≡ i = omega arith in
      rw m (write_at (flags_from text kinds starts sizes 0 n) long i (omega arith) (omega arith) ∙ (flags_at 0 n i l ∙ ap (flag_at text kinds starts sizes) z))

-- what lexing says of a text with these tokens
record Read (text : List ℕ) (ts : List Token) (n : ℕ) : Type 0 where
  pub count : length ts ≡ n
  pub short : n ≤ 16384
  pub lexes : Lexes 0 text ts
  pub finds : found text ≡ ts

read_tokens : (text : List ℕ) (ts : List Token) (n : ℕ) → Ok n ≡ lexed text → lex text ≡ tokens ts → Read text ts n
read_tokens text ts n e t = go (lexed_answered text) e
  where
    same : (us : List Token) → Lexes 0 text us → us ≡ ts
    same us l = let a = (lex_tokens text us).1 l in let z : tokens us ≡ tokens ts = sym a ∙ t in cc

    go : {r : _} → Answered text r → Ok n ≡ r → Read text ts n
    go (read us h l f) d =
        let s = same us l in
        let c : n ≡ length us = cc in
        let k : length us ≡ length ts = ap length s in
        let w = lexes_room l in
        record { count = omega arith; short = omega arith; lexes = subst (λ (vs : List Token). Lexes 0 text vs) s l; finds = f ∙ s }
    go (too_long h) d = absurd (let z : ◌≡◌ {A = ℕ} 0 1 = cc in omega arith)
    go (stops p h s) d = absurd (let z : ◌≡◌ {A = ℕ} 0 1 = cc in omega arith)

module _ (text kinds₀ kinds starts₀ starts sizes₀ sizes : List ℕ) (n : ℕ) (ts : List Token)
    (l : Lexing text (Ok n) kinds₀ kinds starts₀ starts sizes₀ sizes) (t : lex text ≡ tokens ts) where
  reads : Read text ts n
  reads = read_tokens text ts n l.answer t

  -- the column that holds what f says of each token
  column : (f : Token → ℕ) (before after : List ℕ) → f no_token ≡ 0 → length before ≡ 16384 → after ≡ write (map f (found text)) before
      → (i : ℕ) → i < n → get_or after i 0 ≡ f (token_at ts i)
  column f before after z h e i k =
      let r = reads in
      let c = r.count in
      let s = r.short in
      let m = length-map ts f in
      let w = write_at (map f ts) before i (omega arith) (omega arith) in
      rw (e, r.finds) (w ∙ (rw z at (get_or-map f ts i no_token)))

  -- every token's value is that of its bytes
  values_held : Each (Valued text) ts
  values_held = token_values text ts reads.lexes

  sizes_held : length sizes₀ ≡ 16384 → (i : ℕ) → i < n → get_or sizes i 0 ≡ (token_at ts i).size
  sizes_held h = column (λ x. x.size) sizes₀ sizes refl h l.sizes

  -- kinds and places, as the stages behind the parser ask
  pub tokens_held : length kinds₀ ≡ 16384 → length starts₀ ≡ 16384 → TokensIn ts kinds starts n
  tokens_held h k =
      record {
        count = reads.count;
        short = reads.short;
        kind = column (λ x. x.kind) kinds₀ kinds refl h l.kinds;
        place = column (λ x. x.place) starts₀ starts refl k l.starts;
      }

  -- both
  pub words_held : length sizes₀ ≡ 16384 → WordsIn text ts sizes n
  words_held z = record { size = sizes_held z; valued = values_held }

  -- kinds and flags, as the parser asks
  pub flags_held : length kinds₀ ≡ 16384 → length starts₀ ≡ 16384 → length sizes₀ ≡ 16384 → (long : List ℕ) → length long ≡ 16384
      → Holds ts kinds (marked text kinds starts sizes n long) n
  flags_held h k s long g =
      let r = reads in
      let c = r.count in
      let a = column (λ x. x.kind) kinds₀ kinds refl h l.kinds in
      let b = column (λ x. x.place) starts₀ starts refl k l.starts in
      let d = column (λ x. x.size) sizes₀ sizes refl s l.sizes in
      record {
        count = c;
        kind = a;
        flag = λ i j. rw (marked_at text kinds starts sizes long n i g r.short j, a i j, b i j, d i j)
            (flag_is text (token_at ts i) (each_at (Valued text) ts no_token values_held i (omega arith)));
      }
