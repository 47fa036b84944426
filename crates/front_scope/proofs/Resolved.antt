-- Each name has the number of its declaration after the names are resolved, and all else is as it was. Assumes nothing.
use mathlib.Core.Path.{◌≡◌, refl, ◌∙◌, ap}
use mathlib.Core.Bool.{Bool, true, false, cond}
use mathlib.Core.Logic.{◌⊎◌, inl, inr}
use mathlib.Core.List.{List, [], ◌∷◌, ◌++◌, map}
use Prim.Native.Nat.{ℕ, zero, suc, ◌+◌, ◌*◌, ◌≤◌, ◌<◌, min}
use native.Mathlib.Omega.{arith}
use borrow.Author.Tests.{eqb-true, eqb-false}
use lib.Dec.{eqb}
use lib.ListN.{length, get_or, set, length-set}
use lib.Seq.{get_or-set_same, get_or-set_other}
use Rattle.spec_grammar.specs.Token.{Token}
use Rattle.base_codes.specs.Token.{NAME}
use Rattle.spec_grammar.specs.Tree.{Group, Text}
use Rattle.spec_grammar.specs.Reader.{choose}
use Rattle.spec_grammar.specs.Limits.{Each}
use Rattle.spec_grammar.proofs.Each.{each_at, each_join}
use Rattle.spec_language.specs.Bytes as B
use Rattle.spec_language.specs.Lexing.{equal}
use Rattle.spec_language.specs.Declarations.{Decl, declare, spread, groups, declared}
use Rattle.spec_language.specs.Elaboration.{position}
use Rattle.front_token.specs.Places.{part}
use Rattle.front_lexer.specs.TokenValues.{Valued}
use Rattle.front_lexer.proofs.TokenValues.{same_names}
use Rattle.front_layout.specs.Tokens.{no_token, token_at}
use Rattle.front_layout.specs.Arrays.{number_in, TokensIn}
use Rattle.front_layout.specs.Headings.{headings, DeclsIn}
use Rattle.front_offences.specs.Kinded.{KindedGroup, Kinded}
use Rattle.front_offences.proofs.Loops.{list_from}
use Rattle.front_offences.proofs.Owners.{Outline, of_decl, outline_in, decls_are}
use Rattle.front_offences.proofs.Tokens.{number_inside, kind_inside, place_is}
use Rattle.front_scope.specs.Positions.{same_in, owner_from, owner_in, filled, fill_from}
use Rattle.front_scope.specs.Resolves.{Resolves}
use Rattle.front_limits.specs.Words.{WordsIn}

-- a declaration's name is a name
abbrev pub Named : Decl → Type 0
Named d = d.name.kind ≡ NAME

named_declare : (g : Group) (xs : List Token) → Each (λ (x : Token). x.kind ≡ NAME) xs → Each Named (declare g xs)
unfolding declare
named_declare g [] p = tt
named_declare g (x ∷ xs) p = (p.0, named_declare g xs p.1)

named_spread : (gs : List Group) → Each KindedGroup gs → Each Named (spread gs)
unfolding spread
named_spread [] p = tt
named_spread (g ∷ gs) p = each_join Named (declare g g.names) (spread gs) (named_declare g g.names p.0.names) (named_spread gs p.1)

pub named_declared : (t : Text) → Kinded t → Each Named (declared t)
unfolding declared groups
named_declared t k = named_spread (t.ports ++ t.vars) (each_join KindedGroup t.ports t.vars k.ports k.vars)

module _ (text : List ℕ) (ts : List Token) (kinds starts sizes : List ℕ) (n : ℕ) (tokens : TokensIn ts kinds starts n) (words : WordsIn text ts sizes n) where
  valued_at : (i : ℕ) → i < n → Valued text (token_at ts i)
  valued_at i h = let c = tokens.count in each_at (Valued text) ts no_token words.valued i (omega arith)

  -- two names of the text, by their indices
  pub same_tokens : (a b : ℕ) → (token_at ts a).kind ≡ NAME → (token_at ts b).kind ≡ NAME → same_in text starts sizes n a b
      ≡ eqb (token_at ts a).value (token_at ts b).value
  unfolding same_in
  same_tokens a b p q =
      let i : a < n = kind_inside tokens a NAME p (omega arith) in
      let j : b < n = kind_inside tokens b NAME q (omega arith) in
      let s : n ≤ 16384 = tokens.short in
      parts (number_in starts n a) (number_in sizes n a) (number_in starts n b) (number_in sizes n b) (place_is tokens a)
      (number_inside sizes n a s i ∙ words.size a i)
      (place_is tokens b) (number_inside sizes n b s j ∙ words.size b j) (same_names text (token_at ts a) (token_at ts b) (valued_at a i) (valued_at b j) p q)
    where
      parts : (sa za sb zb : ℕ) → sa ≡ (token_at ts a).place → za ≡ (token_at ts a).size → sb ≡ (token_at ts b).place → zb ≡ (token_at ts b).size
          → equal (map B.lower (part text (token_at ts a).place (token_at ts a).size)) (map B.lower (part text (token_at ts b).place (token_at ts b).size))
          ≡ eqb (token_at ts a).value (token_at ts b).value
          → equal (map B.lower (part text sa za)) (map B.lower (part text sb zb)) ≡ eqb (token_at ts a).value (token_at ts b).value
      parts sa za sb zb e f g h z = rw (e, f, g, h) z

  owner_found : (decls : List ℕ) (i : ℕ) → (token_at ts i).kind ≡ NAME → (Δ : List Decl) → Each Named Δ → (j c : ℕ) → list_from (outline_in ts decls) j c
      ≡ map of_decl Δ
      → owner_from text starts sizes n decls i j c ≡ j + position Δ (token_at ts i).value
  unfolding owner_from list_from position
  owner_found decls i k [] p j zero e = omega arith
  owner_found decls i k [] p j (suc c) e = absurd (let z : ◌≡◌ {A = ℕ} 0 1 = cc in omega arith)
  owner_found decls i k (x ∷ Δ) p j zero e = absurd (let z : ◌≡◌ {A = ℕ} 0 1 = cc in omega arith)
  owner_found decls i k (x ∷ Δ) p j (suc c) e =
      let z : outline_in ts decls j ≡ of_decl x = cc in
      let w : token_at ts (get_or decls (6 * j) 0) ≡ x.name = ap (λ (o : Outline). o.name) z in
      let q : (token_at ts (get_or decls (6 * j) 0)).kind ≡ NAME = ap (λ (y : Token). y.kind) w ∙ p.0 in
      ap (λ (b : Bool). choose b j (owner_from text starts sizes n decls i (j + 1) c))
      (same_tokens (get_or decls (6 * j) 0) i q k ∙ ap (λ (y : Token). eqb y.value (token_at ts i).value) w)
      ∙ go (eqb x.name.value (token_at ts i).value) (owner_from text starts sizes n decls i (j + 1) c) (position Δ (token_at ts i).value)
      (owner_found decls i k Δ p.1 (j + 1) c (cc))
    where
      go : (b : Bool) (o q : ℕ) → o ≡ j + 1 + q → choose b j o ≡ j + cond b zero (suc q)
      go true o q h = omega arith
      go false o q h = omega arith

-- The array after the loop.
module _ (f : ℕ → ℕ) (kinds : List ℕ) where
  filled_length : (i : ℕ) (l : List ℕ) → length (filled f kinds i l) ≡ length l
  filled_length i l = go (eqb (get_or kinds i 0) NAME)
    where
      go : (b : Bool) → length (choose b (set l i (f i)) l) ≡ length l
      go true = length-set l i (f i)
      go false = refl

  filled_other : (i m : ℕ) (l : List ℕ) → (get_or kinds i 0 ≡ NAME → m ≡ i → ⊥) → get_or (filled f kinds i l) m 0 ≡ get_or l m 0
  filled_other i m l h = go (eqb (get_or kinds i 0) NAME) refl
    where
      go : (b : Bool) → eqb (get_or kinds i 0) NAME ≡ b → get_or (choose b (set l i (f i)) l) m 0 ≡ get_or l m 0
      go true q = get_or-set_other l i m (f i) 0 (h (eqb-true (get_or kinds i 0) NAME q))
      go false q = refl

  -- what no name's index is stays
  untouched : (m c i : ℕ) (l : List ℕ) → ((j : ℕ) → i ≤ j → j < i + c → get_or kinds j 0 ≡ NAME → m ≡ j → ⊥) → get_or (fill_from f kinds i c l) m 0 ≡ get_or l m 0
  unfolding fill_from
  untouched m zero i l h = refl
  untouched m (suc c) i l h =
      untouched m c (i + 1) (filled f kinds i l) (λ j p q. h j (omega arith) (omega arith)) ∙ filled_other i m l (h i (omega arith) (omega arith))

  -- a name gets its number
  touched : (m : ℕ) → get_or kinds m 0 ≡ NAME → (c i : ℕ) (l : List ℕ) → i ≤ m → m < i + c → m < length l → get_or (fill_from f kinds i c l) m 0 ≡ f m
  unfolding fill_from
  touched m k zero i l p q r = absurd (omega arith)
  touched m k (suc c) i l p q r =
      go (eqb m i) refl (λ w. touched m k c (i + 1) (filled f kinds i l) w (omega arith) (let z = filled_length i l in omega arith))
    where
      here : m ≡ i → get_or (filled f kinds i l) m 0 ≡ f m
      here e = rw e (first (rw e at k) (rw e at r))
        where
          first : get_or kinds i 0 ≡ NAME → i < length l → get_or (filled f kinds i l) i 0 ≡ f i
          first h s = ap (λ (b : Bool). get_or (choose b (set l i (f i)) l) i 0) (ap (λ (x : ℕ). eqb x NAME) h) ∙ get_or-set_same l i (f i) 0 s

      go : (b : Bool) → eqb m i ≡ b → (i + 1 ≤ m → get_or (fill_from f kinds (i + 1) c (filled f kinds i l)) m 0 ≡ f m)
          → get_or (fill_from f kinds (i + 1) c (filled f kinds i l)) m 0 ≡ f m
      go true e ih = let z = eqb-true m i e in untouched m c (i + 1) (filled f kinds i l) (λ j s t v w. omega arith) ∙ here z
      go false e ih = let z = eqb-false m i e in ih (omega (arith, z))

-- THE LAW
pub resolves : (text kinds starts sizes : List ℕ) (n : ℕ) (decls : List ℕ) (d : ℕ) (owners₀ owners₁ : List ℕ)
    → owners₁ ≡ fill_from (owner_in text starts sizes n decls d) kinds 0 (min n 16384) owners₀ → Resolves text kinds starts sizes n decls d owners₀ owners₁
resolves text kinds starts sizes n decls d owners₀ owners₁ e =
    record { answer = e; kept = kept; owners = λ ts t l tokens words ds k. record { owner = owner ts t l tokens words ds k } }
  where
    kept : (i : ℕ) → (n ≤ i) ⊎ (get_or kinds i 0 ≡ NAME → ⊥) → get_or owners₁ i 0 ≡ get_or owners₀ i 0
    kept i (inl h) = rw e (untouched (owner_in text starts sizes n decls d) kinds i (min n 16384) 0 owners₀ (λ j p q r s. omega arith))
    kept i (inr h) = rw e
        (untouched (owner_in text starts sizes n decls d) kinds i (min n 16384) 0 owners₀ (λ j p q r s. h (ap (λ (x : ℕ). get_or kinds x 0) s ∙ r)))

    owner : (ts : List Token) (t : Text) → n ≤ length owners₀ → TokensIn ts kinds starts n → WordsIn text ts sizes n → DeclsIn ts (headings t) decls d
        → Kinded t
        → (i : ℕ) → i < n → (token_at ts i).kind ≡ NAME → get_or owners₁ i 0 ≡ position (declared t) (token_at ts i).value
    owner ts t l tokens words ds k i h q =
        let a : n ≤ 16384 = tokens.short in
        let b : min d 65 ≡ d = let s = ds.short in omega arith in
        rw e (touched (owner_in text starts sizes n decls d) kinds i (tokens.kind i h ∙ q) (min n 16384) 0 owners₀ (omega arith) (omega arith) (omega arith))
        ∙ (ap (owner_from text starts sizes n decls i 0) b
        ∙ (owner_found text ts kinds starts sizes n tokens words decls i q (declared t) (named_declared t k) 0 d (decls_are ts t decls d ds) ∙ omega arith))
