-- What the arrays have at an index, and the token there: its place, and of a name the number of its declaration. Assumes nothing.
use mathlib.Core.Path.{◌≡◌, refl, sym, ◌∙◌, ap}
use mathlib.Core.Bool.{Bool, true, false}
use mathlib.Core.List.{List}
use Prim.Native.Nat.{ℕ, ◌≤◌, ◌<◌}
use native.Mathlib.Omega.{arith}
use borrow.Author.Tests.{lt-ltb, ltb-true, ltb-false}
use lib.Dec.{ltb}
use lib.ListN.{length, get_or, get_or-eq_default}
use Rattle.spec_grammar.specs.Token.{Token}
use Rattle.base_codes.specs.Token.{NAME}
use Rattle.spec_grammar.specs.Reader.{choose}
use Rattle.spec_language.specs.Declarations.{Decl}
use Rattle.spec_language.specs.Elaboration.{position}
use Rattle.spec_language.proofs.Facts.{clash}
use Rattle.front_layout.specs.Tokens.{no_token, token_at}
use Rattle.front_layout.specs.Arrays.{number_in, TokensIn, OwnersIn}

-- the number at an index that counts
pub number_inside : (l : List ℕ) (n i : ℕ) → n ≤ 16384 → i < n → number_in l n i ≡ get_or l i 0
number_inside l n i s h = rw (lt-ltb i n h, lt-ltb i 16384 (omega arith))

pub past_last : (ts : List Token) (i : ℕ) → length ts ≤ i → token_at ts i ≡ no_token
past_last ts i h = get_or-eq_default ts no_token h

module _ {ts : List Token} {kinds places : List ℕ} {n : ℕ} (h : TokensIn ts kinds places n) (i : ℕ) where
  -- a token that has a kind is there
  pub kind_inside : (k : ℕ) → (token_at ts i).kind ≡ k → 0 < k → i < n
  kind_inside k e p = go (ltb i n) refl
    where
      go : (b : Bool) → ltb i n ≡ b → i < n
      go true q = ltb-true i n q
      go false q =
          let l = ltb-false i n q in
          let c = h.count in
          let z : (token_at ts i).kind ≡ 0 = ap (λ (x : Token). x.kind) (past_last ts i (omega arith)) in
          absurd (omega arith)

  pub place_is : number_in places n i ≡ (token_at ts i).place
  place_is = go (ltb i n) refl
    where
      go : (b : Bool) → ltb i n ≡ b → number_in places n i ≡ (token_at ts i).place
      go true q = number_inside places n i h.short (ltb-true i n q) ∙ h.place i (ltb-true i n q)
      go false q =
          let l = ltb-false i n q in
          let c = h.count in
          rw q (sym (ap (λ (x : Token). x.place) (past_last ts i (omega arith))))

  pub owner_is : (Δ : List Decl) (owners : List ℕ) → OwnersIn ts Δ owners n → (token_at ts i).kind ≡ NAME → number_in owners n i ≡ position Δ (token_at ts i).value
  owner_is Δ owners o e =
      let l : i < n = kind_inside NAME e (omega arith) in
      number_inside owners n i h.short l ∙ o.owner i l e

-- what goes by a test
pub picked : {A : Type 0} (b : Bool) (x y r : A) → b ≡ true → r ≡ x → r ≡ choose b x y
picked true x y r e f = f
picked false x y r e f = clash (sym e)

pub passed : {A : Type 0} (b : Bool) (x y r : A) → b ≡ false → r ≡ y → r ≡ choose b x y
passed true x y r e f = clash e
passed false x y r e f = f
