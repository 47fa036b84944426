-- Which production of an expression's parts the reader takes at a token, by the grammar's tables. Assumes nothing.
use mathlib.Core.Path.{◌≡◌, refl}
use mathlib.Core.Bool.{Bool, true, false, ◌||◌}
use mathlib.Core.Logic.{◌⊎◌, inl, inr}
use mathlib.Core.List.{[], ◌∷◌}
use Prim.Native.Nat.{ℕ}
use native.Mathlib.Omega.{arith}
use borrow.Author.Tests.{ne_eqb}
use lib.Dec.{eqb}
use Rattle.spec_grammar.specs.Token.{Token}
use Rattle.spec_grammar.specs.Tree.{Expr, number, bit, name, sign, negate, binary, parens}
use Rattle.spec_grammar.specs.Grammar.{NonTerminal, expression, chain, ands, ors, xors, relation, compared, simple, terms, term, factors, factor, primary, tk}
use Rattle.spec_grammar.specs.Grammar.{nt, item, opens, closes, Production, productions, ◌↠◌}
use Rattle.spec_grammar.specs.Reader.{choose, elem, first, firsts, follow, nullable, nullables, chosen, Pick, take, no_rule, pick}
use Rattle.front_cursor.proofs.Steps.{Into}
use Rattle.base_codes.specs.Token.{one_of, operands, adding, multiplying, relational, NAME, NUMBER, ZERO, ONE, LP, RP, MINUS, AND, OR, XOR, NOT}
use Rattle.base_codes.proofs.TokenLaws.{each}

-- the productions
abbrev pub leaf_rule : (k : ℕ) → (Token → Expr) → Production primary
leaf_rule k f = tk item k ∷ [] ↠ f

abbrev pub parens_rule : Production primary
parens_rule = tk opens LP ∷ nt expression ∷ tk closes RP ∷ [] ↠ λ _ e _. parens e

abbrev pub not_rule : Production factor
not_rule = tk item NOT ∷ nt primary ∷ [] ↠ λ x a. negate x a

abbrev pub sign_rule : Production simple
sign_rule = tk item MINUS ∷ nt term ∷ nt terms ∷ [] ↠ λ s a f. f (sign s a)

abbrev pub term_rule : ℕ → Production terms
term_rule k = tk item k ∷ nt term ∷ nt terms ∷ [] ↠ λ x b f a. f (binary x a b)

abbrev pub factor_rule : ℕ → Production factors
factor_rule k = tk item k ∷ nt factor ∷ nt factors ∷ [] ↠ λ x b f a. f (binary x a b)

abbrev pub compared_rule : ℕ → Production compared
compared_rule k = tk item k ∷ nt simple ∷ [] ↠ λ x b a. binary x a b

abbrev pub and_rule : ℕ → Production ands
and_rule k = tk item k ∷ nt relation ∷ nt ands ∷ [] ↠ λ x b f a. f (binary x a b)

abbrev pub or_rule : ℕ → Production ors
or_rule k = tk item k ∷ nt relation ∷ nt ors ∷ [] ↠ λ x b f a. f (binary x a b)

abbrev pub xor_rule : ℕ → Production xors
xor_rule k = tk item k ∷ nt relation ∷ nt xors ∷ [] ↠ λ x b f a. f (binary x a b)

-- by the kind of the token
pub pick_name : pick (productions primary) NAME ≡ take (leaf_rule NAME (λ x. name x))
unfolding pick productions chosen firsts nullables first nullable follow elem
pick_name = refl

pub pick_number : pick (productions primary) NUMBER ≡ take (leaf_rule NUMBER (λ x. number x))
unfolding pick productions chosen firsts nullables first nullable follow elem
pick_number = refl

pub pick_zero : pick (productions primary) ZERO ≡ take (leaf_rule ZERO (λ x. bit x))
unfolding pick productions chosen firsts nullables first nullable follow elem
pick_zero = refl

pub pick_one : pick (productions primary) ONE ≡ take (leaf_rule ONE (λ x. bit x))
unfolding pick productions chosen firsts nullables first nullable follow elem
pick_one = refl

pub pick_parens : pick (productions primary) LP ≡ take parens_rule
unfolding pick productions chosen firsts nullables first nullable follow elem
pick_parens = refl

pub pick_not : pick (productions factor) NOT ≡ take not_rule
unfolding pick productions chosen firsts nullables first nullable follow elem
pick_not = refl

pub pick_sign : pick (productions simple) MINUS ≡ take sign_rule
unfolding pick productions chosen firsts nullables first nullable follow elem
pick_sign = refl

pub pick_term : (k : ℕ) → one_of k adding ≡ true → pick (productions terms) k ≡ take (term_rule k)
unfolding pick productions chosen firsts nullables first nullable follow elem
pick_term = each (λ (k : ℕ). pick (productions terms) k ≡ take (term_rule k)) adding (refl, (refl, tt))

pub pick_and : (k : ℕ) → k ≡ AND → pick (productions ands) k ≡ take (and_rule k)
unfolding pick productions chosen firsts nullables first nullable follow elem
pick_and k e = rw e

pub pick_or : (k : ℕ) → k ≡ OR → pick (productions ors) k ≡ take (or_rule k)
unfolding pick productions chosen firsts nullables first nullable follow elem
pick_or k e = rw e

pub pick_xor : (k : ℕ) → k ≡ XOR → pick (productions xors) k ≡ take (xor_rule k)
unfolding pick productions chosen firsts nullables first nullable follow elem
pick_xor k e = rw e

-- the first operator of a chain
pub chain_and : (k : ℕ) → k ≡ AND → pick (productions chain) k ≡ take ((and_rule k).rhs ↠ (and_rule k).says)
unfolding pick productions chosen firsts nullables first nullable follow elem
chain_and k e = rw e

pub chain_or : (k : ℕ) → k ≡ OR → pick (productions chain) k ≡ take ((or_rule k).rhs ↠ (or_rule k).says)
unfolding pick productions chosen firsts nullables first nullable follow elem
chain_or k e = rw e

pub chain_xor : (k : ℕ) → k ≡ XOR → pick (productions chain) k ≡ take ((xor_rule k).rhs ↠ (xor_rule k).says)
unfolding pick productions chosen firsts nullables first nullable follow elem
chain_xor k e = rw e

-- an operator of a product
pub pick_factor : (k : ℕ) → one_of k multiplying ≡ true → pick (productions factors) k ≡ take (factor_rule k)
unfolding pick productions chosen firsts nullables first nullable follow elem
pick_factor = each (λ (k : ℕ). pick (productions factors) k ≡ take (factor_rule k)) multiplying (refl, (refl, (refl, (refl, tt))))

-- a comparison
pub pick_compared : (k : ℕ) → one_of k relational ≡ true → pick (productions compared) k ≡ take (compared_rule k)
unfolding pick productions chosen firsts nullables first nullable follow elem
pick_compared = each (λ (k : ℕ). pick (productions compared) k ≡ take (compared_rule k)) relational (refl, (refl, (refl, (refl, (refl, (refl, tt))))))

pub or_left : (a b : Bool) → a || b ≡ false → a ≡ false
or_left true b e = e
or_left false b e = refl

pub or_right : (a b : Bool) → a || b ≡ false → b ≡ false
or_right true b e = absurd (let z : ◌≡◌ {A = ℕ} 0 1 = cc in omega arith)
or_right false b e = e

-- none of the kinds of a primary
pub no_primary : (k : ℕ) → (k ≡ LP → ⊥) → one_of k operands ≡ false → pick (productions primary) k ≡ no_rule
unfolding pick productions chosen firsts nullables first nullable follow elem one_of
no_primary k l e =
    let a = or_right (eqb k NAME) (one_of k (NUMBER ∷ ZERO ∷ ONE ∷ [])) e in
    let b = or_right (eqb k NUMBER) (one_of k (ZERO ∷ ONE ∷ [])) a in
    let c = or_right (eqb k ZERO) (one_of k (ONE ∷ [])) b in
    rw (
      or_left (eqb k NUMBER) (one_of k (ZERO ∷ ONE ∷ [])) a,
      or_left (eqb k ZERO) (one_of k (ONE ∷ [])) b,
      or_left (eqb k ONE) false c,
      or_left (eqb k NAME) (one_of k (NUMBER ∷ ZERO ∷ ONE ∷ [])) e,
      ne_eqb k LP l,
    )

-- The parts that begin with another part: where the other can begin, so can they.
pub tests : {M A : NonTerminal} (r : Production M) (p : Pick A) (b : Bool) → (b ≡ false → p ≡ no_rule)
    → (choose b (take r) no_rule ≡ take r) ⊎ ((choose b (take r) no_rule ≡ no_rule) × (p ≡ no_rule))
tests r p true h = inl refl
tests r p false h = inr (refl, h refl)

pub into_relation : (k : ℕ) → Into expression relation (nt chain ∷ []) (λ a f. f a) k
unfolding pick productions chosen firsts nullables first nullable follow elem
into_relation k = tests (nt relation ∷ nt chain ∷ [] ↠ λ a f. f a) (pick (productions relation) k) (elem k (first relation)) (λ e. rw e)

pub into_simple : (k : ℕ) → Into relation simple (nt compared ∷ []) (λ a f. f a) k
unfolding pick productions chosen firsts nullables first nullable follow elem
into_simple k =
    tests (nt simple ∷ nt compared ∷ [] ↠ λ a f. f a) (pick (productions simple) k) (elem k (first simple))
    (λ e. rw (or_right (eqb k MINUS) (elem k (first term)) e, or_left (eqb k MINUS) (elem k (first term)) e))

pub into_term : (k : ℕ) → (k ≡ MINUS → ⊥) → Into simple term (nt terms ∷ []) (λ a f. f a) k
unfolding pick productions chosen firsts nullables first nullable follow elem
into_term k m = rw (ne_eqb k MINUS m) (tests (nt term ∷ nt terms ∷ [] ↠ λ a f. f a) (pick (productions term) k) (elem k (first term)) (λ e. rw e))

pub into_factor : (k : ℕ) → Into term factor (nt factors ∷ []) (λ a f. f a) k
unfolding pick productions chosen firsts nullables first nullable follow elem
into_factor k =
    tests (nt factor ∷ nt factors ∷ [] ↠ λ a f. f a) (pick (productions factor) k) (elem k (first factor))
    (λ e. rw (or_right (eqb k NOT) (elem k (first primary)) e, or_left (eqb k NOT) (elem k (first primary)) e))

pub into_primary : (k : ℕ) → (k ≡ NOT → ⊥) → Into factor primary [] (λ a. a) k
unfolding pick productions chosen firsts nullables first nullable follow elem
into_primary k m =
    rw (ne_eqb k NOT m) (tests (nt primary ∷ [] ↠ λ a. a) (pick (productions primary) k) (elem k (first primary))
    (λ e. let a = or_right (eqb k NUMBER) (elem k (ZERO ∷ ONE ∷ NAME ∷ LP ∷ [])) e in
    let b = or_right (eqb k ZERO) (elem k (ONE ∷ NAME ∷ LP ∷ [])) a in
    let c = or_right (eqb k ONE) (elem k (NAME ∷ LP ∷ [])) b in
    rw (
      or_left (eqb k NUMBER) (elem k (ZERO ∷ ONE ∷ NAME ∷ LP ∷ [])) e,
      or_left (eqb k ZERO) (elem k (ONE ∷ NAME ∷ LP ∷ [])) a,
      or_left (eqb k ONE) (elem k (NAME ∷ LP ∷ [])) b,
      or_left (eqb k NAME) (elem k (LP ∷ [])) c,
      or_left (eqb k LP) false (or_right (eqb k NAME) (elem k (LP ∷ [])) c),
    )))
