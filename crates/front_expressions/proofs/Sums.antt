-- The returns of the readers of factors, products, sums and relations: each follows the grammar's reader by its laws. Assumes nothing.
use mathlib.Core.Path.{◌≡◌, refl, sym, ◌∙◌, ap, subst}
use mathlib.Core.Bool.{Bool, true, false, not}
use mathlib.Core.List.{List, [], ◌∷◌, ◌++◌, append_assoc, append-nil}
use Prim.Native.Nat.{ℕ, ◌<◌}
use native.Mathlib.Omega.{arith}
use borrow.Author.Tests.{ne_eqb, eqb-true, eqb-false}
use lib.Dec.{T, eqb, lit<}
use lib.ListN.{length}
use Rattle.base_codes.specs.Operation as O
use Rattle.base_codes.specs.Operation.{operation_of}
use Rattle.spec_grammar.specs.Token.{Token}
use Rattle.spec_grammar.specs.Tree.{Expr, sign, negate, binary}
use Rattle.spec_grammar.specs.Grammar.{NonTerminal, expression, chain, ands, ors, xors, relation, compared, simple, terms, term, factors, factor, primary, Says}
use Rattle.spec_grammar.specs.Grammar.{Sym, tk, nt, Fun, item, Production, productions, ◌↠◌}
use Rattle.spec_grammar.specs.Meter.{InHeading}
use Rattle.spec_grammar.specs.Derivation.{here, ◌∈◌}
use Rattle.spec_grammar.specs.Reader.{compose, elem, first, pick, take}
use Rattle.spec_grammar.proofs.Steps.{Ok}
use Rattle.spec_grammar.proofs.Tables.{pick_rule}
use Rattle.front_layout.specs.Tokens.{token_at, kind_in, Holds}
use Rattle.front_cursor.specs.Reading.{Read, from, Fine, Asks, Moves}
use Rattle.front_cursor.proofs.Steps.{kind_is, kind_inside, from_stays, rule_at, left_at, into_at}
use Rattle.front_layout.specs.Postfix.{Item, item_of, binary_item, postfix}
use Rattle.front_layout.specs.Items.{Arrays, Wrote}
use Rattle.base_codes.specs.Token.{one_of, operands, adding, multiplying, relational, logical, MINUS, AND, OR, XOR, NOT}
use Rattle.base_codes.proofs.TokenLaws.{each, some_kind, not_one}
use Rattle.front_expressions.specs.Readers.{ReadsOver, Tail, sum, product, and_chain, or_chain, xor_chain, tail_of, whole_of, of_tail, of_whole, operator_of}
use Rattle.front_expressions.specs.Readers.{PartlyOver, TurnOver, OneTurn}
use Rattle.front_layout.proofs.ItemLists.{wrote_none, wrote_then}
use Rattle.front_expressions.proofs.Behind.{BehindOver}
use Rattle.front_expressions.proofs.Primaries.{ok_of, stay_moves}
use Rattle.front_expressions.proofs.Picks.{and_rule, or_rule, xor_rule, pick_not, pick_sign, pick_term, pick_factor, pick_and, pick_or, pick_xor, chain_and}
use Rattle.front_expressions.proofs.Picks.{chain_or, chain_xor, pick_compared, into_relation, into_simple, into_term, into_factor, into_primary}

pub moves_then : {n : ℕ} {q a r : Read} → Moves n q a → Moves n a r → Moves n q r
moves_then u v = record { on = omega arith; inside = omega arith; room = omega arith; few = omega arith; began = λ z. u.began (v.began z) }

-- an operator with its operand, by a production that begins with them
taken : (M A : NonTerminal) (flat : Says A → List Item) (δ : List Sym)
    (says : Token → Says A → Fun δ (Says M)) {kinds long : List ℕ} {n : ℕ} {q r : Read} {d k code : ℕ} {before after : Arrays}
    → kind_in kinds n q.at ≡ k → pick (productions M) k ≡ take (tk item k ∷ nt A ∷ δ ↠ says)
    → (b : BehindOver A flat k code kinds long n q d before r after) (ts : List Token) (holds : Holds ts kinds long n)
    → (S : NonTerminal) (s l : ℕ) (h : InHeading) → Fine s h → (γ : List Sym) (κ : Says M → Fun γ (Says S)) → Ok (nt M ∷ γ)
    → from ts S s l h q d (nt M ∷ γ) κ ≡ from ts S s l h r d (δ ++ γ) (compose M S δ γ (says (token_at ts q.at) (b.reads ts holds).value) κ)
unfolding compose
taken M A flat δ says {n = n} {q} {d = d} {k} e p b ts holds S s l h fine γ κ o =
    let r : Production M = tk item k ∷ nt A ∷ δ ↠ says in
    let w : pick (productions M) (token_at ts q.at).kind ≡ take r = ap (pick (productions M)) (sym (kind_is holds q.at) ∙ e) ∙ p in
    rule_at ts S s l h q d M γ κ r w (let z = holds.count in let i = b.inside in omega arith)
    ∙ (b.reads ts holds).goes S s l h fine (δ ++ γ) (λ x v. compose M S δ γ (says x v) κ) (ok_of γ (pick_rule r (token_at ts q.at).kind w) o)

module _ {kinds long : List ℕ} {n : ℕ} {q : Read} {d : ℕ} where
  -- a factor
  pub factor_plain : {before after : Arrays} {r : Read} → (kind_in kinds n q.at ≡ 22 → ⊥) → ReadsOver primary postfix kinds long n q d before r after
      → ReadsOver factor postfix kinds long n q d before r after
  unfolding compose productions
  factor_plain f p = record {
    moves = p.moves;
    reads = λ ts holds. record {
      value = (p.reads ts holds).value;
      goes = λ S s l h fine γ κ o.
          into_at ts S s l h q d factor primary [] (λ a. a) γ κ (into_primary (token_at ts q.at).kind (λ z. f (kind_is holds q.at ∙ z)))
          ∙ (p.reads ts holds).goes S s l h fine γ κ (ok_of {r = nt primary ∷ [] ↠ λ a. a} γ here o);
      wrote = (p.reads ts holds).wrote;
    };
  }

  pub factor_not : {before after : Arrays} {r : Read} → kind_in kinds n q.at ≡ 22 → BehindOver primary postfix NOT O.NOT kinds long n q d before r after
      → ReadsOver factor postfix kinds long n q d before r after
  unfolding compose postfix
  factor_not e b = record {
    moves = b.moves;
    reads = λ ts holds. record {
      value = negate (token_at ts q.at) (b.reads ts holds).value;
      goes = taken factor primary postfix [] (λ x a. negate x a) e pick_not b ts holds;
      wrote = (b.reads ts holds).wrote;
    };
  }

  -- the first factor of a product
  pub product_first : {before after : Arrays} {r : Read} → ReadsOver factor postfix kinds long n q d before r after
      → PartlyOver product kinds long n q d before r after
  unfolding compose productions
  product_first p = record {
    moves = p.moves;
    reads = λ ts holds. record {
      value = (p.reads ts holds).value;
      goes = λ S s l h fine γ κ o.
          into_at ts S s l h q d term factor (nt factors ∷ []) (λ a f. f a) γ κ (into_factor (token_at ts q.at).kind)
          ∙ (p.reads ts holds).goes S s l h fine (nt factors ∷ γ) (λ a f. κ (f a)) (ok_of {r = nt factor ∷ nt factors ∷ [] ↠ λ a f. f a} γ here o);
      wrote = (p.reads ts holds).wrote;
    };
  }

  -- the first term of a sum
  pub signed_plain : {before after : Arrays} {r : Read} → (kind_in kinds n q.at ≡ 12 → ⊥) → ReadsOver term postfix kinds long n q d before r after
      → PartlyOver sum kinds long n q d before r after
  unfolding compose productions
  signed_plain f p = record {
    moves = p.moves;
    reads = λ ts holds. record {
      value = (p.reads ts holds).value;
      goes = λ S s l h fine γ κ o.
          into_at ts S s l h q d simple term (nt terms ∷ []) (λ a f. f a) γ κ (into_term (token_at ts q.at).kind (λ z. f (kind_is holds q.at ∙ z)))
          ∙ (p.reads ts holds).goes S s l h fine (nt terms ∷ γ) (λ a f. κ (f a)) (ok_of {r = nt term ∷ nt terms ∷ [] ↠ λ a f. f a} γ here o);
      wrote = (p.reads ts holds).wrote;
    };
  }

  pub signed_sign : {before after : Arrays} {r : Read} → kind_in kinds n q.at ≡ 12 → BehindOver term postfix MINUS O.SIGN kinds long n q d before r after
      → PartlyOver sum kinds long n q d before r after
  unfolding compose postfix
  signed_sign e b = record {
    moves = b.moves;
    reads = λ ts holds. record {
      value = sign (token_at ts q.at) (b.reads ts holds).value;
      goes = taken simple term postfix (nt terms ∷ []) (λ x a f. f (sign x a)) e pick_sign b ts holds;
      wrote = (b.reads ts holds).wrote;
    };
  }

-- an operator of a chain is none of a sum or of a product
logical_alone : (k : ℕ) → one_of k logical ≡ true → (one_of k adding ≡ true → ⊥) × (one_of k multiplying ≡ true → ⊥)
unfolding one_of
logical_alone =
    each (λ (k : ℕ). (one_of k adding ≡ true → ⊥) × (one_of k multiplying ≡ true → ⊥)) logical
    ((no_clash, no_clash), ((no_clash, no_clash), ((no_clash, no_clash), tt)))
  where
    no_clash : false ≡ true → ⊥
    no_clash e = let z : ◌≡◌ {A = ℕ} 0 1 = cc in omega arith

-- an operator with two operands is written with the code of its kind
binary_items : (q : Read) {kinds long : List ℕ} {n : ℕ} {ts : List Token} {m p : ℕ} {before after : Arrays} → Holds ts kinds long n → (k : ℕ)
    → kind_in kinds n q.at ≡ k → {code : ℕ} → code ≡ operation_of k → (xs : List Item)
    → Wrote ts m p before after (xs ++ (item_of code (token_at ts q.at) ∷ [])) → Wrote ts m p before after (xs ++ (binary_item (token_at ts q.at) ∷ []))
binary_items q {ts = ts} {m} {p} {before} {after} holds k e c xs w =
    subst (λ (j : ℕ). Wrote ts m p before after (xs ++ (item_of j (token_at ts q.at) ∷ []))) (c ∙ ap operation_of (sym e ∙ kind_is holds q.at)) w

-- Where the lists go on, and where they end.
-- a list's operands, and an operand's tree
abbrev operand_of : Tail → NonTerminal
operand_of sum = term
operand_of product = factor
operand_of and_chain = relation
operand_of or_chain = relation
operand_of xor_chain = relation

abbrev tree_of : (t : Tail) → Says (operand_of t) → Expr
tree_of sum v = v
tree_of product v = v
tree_of and_chain v = v
tree_of or_chain v = v
tree_of xor_chain v = v

module _ {kinds long : List ℕ} {n : ℕ} {q : Read} {d : ℕ} (k : ℕ) (e : kind_in kinds n q.at ≡ k) {code : ℕ} (is_code : code ≡ operation_of k) where
  one_turn : (t : Tail) {before after : Arrays} {r : Read}
      (b : BehindOver (operand_of t) (λ (v : Says (operand_of t)). postfix (tree_of t v)) k code kinds long n q d before r after)
      → ((ts : List Token) (holds : Holds ts kinds long n) → (a : Expr) (S : NonTerminal) (s l : ℕ) (h : InHeading) → Fine s h
      → (γ : List Sym) (κ : Expr → Fun γ (Says S)) → Ok (nt (tail_of t) ∷ γ)
      → from ts S s l h q d (nt (tail_of t) ∷ γ) (of_tail t S γ κ a) ≡ from ts S s l h r d (nt (tail_of t) ∷ γ)
      (of_tail t S γ κ (binary (token_at ts q.at) a (tree_of t (b.reads ts holds).value))))
      → OneTurn t kinds long n q d before r after
  unfolding postfix
  one_turn t b goes = record {
    turn = record {
      moves = b.moves;
      reads = λ ts holds.
          let v : Expr = tree_of t (b.reads ts holds).value in
          record {
            grow = λ a. binary (token_at ts q.at) a v;
            items = postfix v ++ (binary_item (token_at ts q.at) ∷ []);
            grows = λ a. refl;
            goes = goes ts holds;
            wrote = λ z. binary_items q holds k e is_code (postfix v) ((b.reads ts holds).wrote z);
          };
    };
    further = b.further;
  }

  -- an operator of a list, and the operand behind it
  pub list_turn : (t : Tail) {before after : Arrays} {r : Read} → operator_of t k
      → BehindOver (operand_of t) (λ (v : Says (operand_of t)). postfix (tree_of t v)) k code kinds long n q d before r after
      → OneTurn t kinds long n q d before r after
  unfolding compose
  list_turn sum op b = one_turn sum b (λ ts holds a S s l h fine γ κ o. taken terms term postfix (nt terms ∷ []) (λ x v f a. f (binary x a v)) e
      (pick_term k op) b ts holds S s l h fine γ (λ f. κ (f a)) o)
  list_turn product op b = one_turn product b
      (λ ts holds a S s l h fine γ κ o. taken factors factor postfix (nt factors ∷ []) (λ x v f a. f (binary x a v)) e
      (pick_factor k op) b ts holds S s l h fine γ (λ f. κ (f a)) o)
  list_turn and_chain op b = one_turn and_chain b
      (λ ts holds a S s l h fine γ κ o. taken ands relation postfix (nt ands ∷ []) (λ x v f a. f (binary x a v)) e (pick_and k op) b ts holds S s l h fine γ
      (λ f. κ (f a)) o)
  list_turn or_chain op b = one_turn or_chain b
      (λ ts holds a S s l h fine γ κ o. taken ors relation postfix (nt ors ∷ []) (λ x v f a. f (binary x a v)) e (pick_or k op) b ts holds S s l h fine γ
      (λ f. κ (f a)) o)
  list_turn xor_chain op b = one_turn xor_chain b
      (λ ts holds a S s l h fine γ κ o. taken xors relation postfix (nt xors ∷ []) (λ x v f a. f (binary x a v)) e (pick_xor k op) b ts holds S s l h fine γ
      (λ f. κ (f a)) o)

  -- the same of whichever chain has this operator
  pub joined_turn : {before after : Arrays} {r : Read} → one_of k logical ≡ true → (t : Tail) → operator_of t k
      → BehindOver relation postfix k code kinds long n q d before r after → OneTurn t kinds long n q d before r after
  joined_turn w sum op b = absurd ((logical_alone k w).0 op)
  joined_turn w product op b = absurd ((logical_alone k w).1 op)
  joined_turn w and_chain op b = list_turn and_chain op b
  joined_turn w or_chain op b = list_turn or_chain op b
  joined_turn w xor_chain op b = list_turn xor_chain op b

-- no turn, and one turn after others
pub turn_none : (t : Tail) {kinds long : List ℕ} {n : ℕ} {q : Read} {d : ℕ} (b : Arrays) → Asks n q → TurnOver t kinds long n q d b q b
turn_none t {n = n} {q} b a = record {
  moves = stay_moves n q a;
  reads = λ ts holds. record {
    grow = λ v. v;
    items = [];
    grows = λ v. sym
        (append-nil (postfix v));
    goes = λ v S s l h fine γ κ o. refl;
    wrote = λ z. wrote_none ts q.written q.written b refl;
  };
}

pub turn_then : {t : Tail} {kinds long : List ℕ} {n : ℕ} {q a r : Read} {d : ℕ} {before middle after : Arrays} → TurnOver t kinds long n q d before a middle
    → TurnOver t kinds long n a d middle r after → TurnOver t kinds long n q d before r after
turn_then u v = record {
  moves = moves_then u.moves v.moves;
  reads = λ ts holds.
      let x = u.reads ts holds in
      let y = v.reads ts holds in
      record {
        grow = λ e. y.grow (x.grow e);
        items = x.items ++ y.items;
        grows = λ e. y.grows (x.grow e) ∙ (ap (λ (l : List Item). l ++ y.items) (x.grows e) ∙ append_assoc (postfix e) x.items y.items);
        goes = λ e S s l h fine γ κ o. x.goes e S s l h fine γ κ o ∙ y.goes (x.grow e) S s l h fine γ κ o;
        wrote = λ z. wrote_then (x.wrote (v.moves.began z)) (y.wrote z);
      };
}

-- the tree so far, and turns after it
pub partly_then : {t : Tail} {kinds long : List ℕ} {n : ℕ} {q a r : Read} {d : ℕ} {before middle after : Arrays}
    → ((γ : List Sym) → Ok (nt (whole_of t) ∷ γ) → Ok (nt (tail_of t) ∷ γ))
    → PartlyOver t kinds long n q d before a middle → TurnOver t kinds long n a d middle r after → PartlyOver t kinds long n q d before r after
partly_then {t} {kinds} {long} {n} {q} {a} {r} {d} {before} {middle} {after} ok u v = record {
  moves = moves_then u.moves v.moves;
  reads = λ ts holds.
      let x = u.reads ts holds in
      let y = v.reads ts holds in
      record {
        value = y.grow x.value;
        goes = λ S s l h fine γ κ o. x.goes S s l h fine γ κ o ∙ y.goes x.value S s l h fine γ κ (ok γ o);
        wrote = λ z. subst (λ (l : List Item). Wrote ts q.written r.written before after l) (sym (y.grows x.value))
            (wrote_then (x.wrote (v.moves.began z)) (y.wrote z));
      };
}

ok_terms : (γ : List Sym) → Ok (nt simple ∷ γ) → Ok (nt terms ∷ γ)
unfolding productions
ok_terms γ o = (ok_of {r = nt term ∷ nt terms ∷ [] ↠ λ a f. f a} γ here o).2

ok_factors : (γ : List Sym) → Ok (nt term ∷ γ) → Ok (nt factors ∷ γ)
unfolding productions
ok_factors γ o = (ok_of {r = nt factor ∷ nt factors ∷ [] ↠ λ a f. f a} γ here o).2

no_term : (k : ℕ) → one_of k adding ≡ false → T (elem k (first terms)) → ⊥
unfolding first elem one_of
no_term k e t = subst T e t

no_factor : (k : ℕ) → one_of k multiplying ≡ false → T (elem k (first factors)) → ⊥
unfolding first elem one_of
no_factor k e t = subst T e t

-- a list ends where its operator does not stand, or where the reader has refused
tail_end : (t : Tail) (ts : List Token) (S : NonTerminal) (s l : ℕ) (h : InHeading) (r : Read) (d : ℕ) → (operator_of t (token_at ts r.at).kind → ⊥)
    → (γ : List Sym) (κ : Expr → Fun γ (Says S)) (a : Expr) → Ok (nt (tail_of t) ∷ γ)
    → from ts S s l h r d (nt (tail_of t) ∷ γ) (of_tail t S γ κ a) ≡ from ts S s l h r d γ (κ a)
unfolding productions first elem
tail_end sum ts S s l h r d f γ κ a o = left_at ts S s l h r d terms γ (λ g. κ (g a)) o (λ b. b) here (no_term (token_at ts r.at).kind (not_one _ _ f))
tail_end product ts S s l h r d f γ κ a o =
    left_at ts S s l h r d factors γ (λ g. κ (g a)) o (λ b. b) here (no_factor (token_at ts r.at).kind (not_one _ _ f))
tail_end and_chain ts S s l h r d f γ κ a o =
    left_at ts S s l h r d ands γ (λ g. κ (g a)) o (λ b. b) here (λ z. rw (ne_eqb (token_at ts r.at).kind AND f) at z)
tail_end or_chain ts S s l h r d f γ κ a o = left_at ts S s l h r d ors γ (λ g. κ (g a)) o (λ b. b) here (λ z. rw (ne_eqb (token_at ts r.at).kind OR f) at z)
tail_end xor_chain ts S s l h r d f γ κ a o =
    left_at ts S s l h r d xors γ (λ g. κ (g a)) o (λ b. b) here (λ z. rw (ne_eqb (token_at ts r.at).kind XOR f) at z)

pub tail_over : (t : Tail) (ts : List Token) (S : NonTerminal) (s l : ℕ) (h : InHeading) (r : Read) (d : ℕ)
    → (r.fault ≡ 0 → operator_of t (token_at ts r.at).kind → ⊥) → (γ : List Sym) (κ : Expr → Fun γ (Says S)) (a : Expr) → Ok (nt (tail_of t) ∷ γ)
    → from ts S s l h r d (nt (tail_of t) ∷ γ) (of_tail t S γ κ a) ≡ from ts S s l h r d γ (κ a)
tail_over t ts S s l h r d f γ κ a o = go (eqb r.fault 0) refl
  where
    go : (b : Bool) → eqb r.fault 0 ≡ b → from ts S s l h r d (nt (tail_of t) ∷ γ) (of_tail t S γ κ a) ≡ from ts S s l h r d γ (κ a)
    go true e = tail_end t ts S s l h r d (f (eqb-true r.fault 0 e)) γ κ a o
    go false e = from_stays ts S s l s l h h r r d d (nt (tail_of t) ∷ γ) γ (of_tail t S γ κ a) (κ a) (eqb-false r.fault 0 e) refl refl

-- a nonterminal is left out where it cannot begin, or where the reader has refused
left_over : (ts : List Token) (S : NonTerminal) (s l : ℕ) (h : InHeading) (r : Read) (d : ℕ) (M : NonTerminal) (γ : List Sym) (κ : Says M → Fun γ (Says S))
    → Ok (nt M ∷ γ) → (v : Says M) → ◌∈◌ {M = M} ([] ↠ v) (productions M) → (r.fault ≡ 0 → T (elem (token_at ts r.at).kind (first M)) → ⊥)
    → from ts S s l h r d (nt M ∷ γ) κ ≡ from ts S s l h r d γ (κ v)
left_over ts S s l h r d M γ κ o v m f = go (eqb r.fault 0) refl
  where
    go : (b : Bool) → eqb r.fault 0 ≡ b → from ts S s l h r d (nt M ∷ γ) κ ≡ from ts S s l h r d γ (κ v)
    go true e = left_at ts S s l h r d M γ κ o v m (f (eqb-true r.fault 0 e))
    go false e = from_stays ts S s l s l h h r r d d (nt M ∷ γ) γ κ (κ v) (eqb-false r.fault 0 e) refl refl

-- The whole list, where none of its operators follows.
module _ (t : Tail) {kinds long : List ℕ} {n : ℕ} {q r : Read} {d : ℕ} {before after : Arrays} where
  list_goes : ((γ : List Sym) → Ok (nt (whole_of t) ∷ γ) → Ok (nt (tail_of t) ∷ γ)) → (p : PartlyOver t kinds long n q d before r after)
      → (r.fault ≡ 0 → operator_of t (kind_in kinds n r.at) → ⊥) → (ts : List Token) (holds : Holds ts kinds long n)
      → (S : NonTerminal) (s l : ℕ) (h : InHeading) → Fine s h → (γ : List Sym) (κ : Expr → Fun γ (Says S)) → Ok (nt (whole_of t) ∷ γ)
      → from ts S s l h q d (nt (whole_of t) ∷ γ) (of_whole t S γ κ) ≡ from ts S s l h r d γ (κ (p.reads ts holds).value)
  list_goes ok p stop ts holds S s l h fine γ κ o =
      (p.reads ts holds).goes S s l h fine γ κ o
      ∙ tail_over t ts S s l h r d (λ z w. stop z (subst (operator_of t) (sym (kind_is holds r.at)) w)) γ κ (p.reads ts holds).value (ok γ o)

-- a sum
pub sum_read : {kinds long : List ℕ} {n : ℕ} {q a r : Read} {d : ℕ} {before middle after : Arrays} → PartlyOver sum kinds long n q d before a middle
    → TurnOver sum kinds long n a d middle r after
    → (r.fault ≡ 0 → one_of (kind_in kinds n r.at) adding ≡ true → ⊥) → ReadsOver simple postfix kinds long n q d before r after
sum_read u v e =
    let p = partly_then ok_terms u v in
    record {
      moves = p.moves;
      reads = λ ts holds. record {
        value = (p.reads ts holds).value;
        goes = list_goes sum ok_terms p e ts holds;
        wrote = (p.reads ts holds).wrote;
      };
    }

-- a product
pub product_read : {kinds long : List ℕ} {n : ℕ} {q a r : Read} {d : ℕ} {before middle after : Arrays}
    → ReadsOver factor postfix kinds long n q d before a middle → TurnOver product kinds long n a d middle r after
    → (r.fault ≡ 0 → one_of (kind_in kinds n r.at) multiplying ≡ true → ⊥) → ReadsOver term postfix kinds long n q d before r after
product_read u v e =
    let p = partly_then ok_factors (product_first u) v in
    record {
      moves = p.moves;
      reads = λ ts holds. record {
        value = (p.reads ts holds).value;
        goes = list_goes product ok_factors p e ts holds;
        wrote = (p.reads ts holds).wrote;
      };
    }

-- a relation
no_comparison : (k : ℕ) → one_of k relational ≡ false → T (elem k (first compared)) → ⊥
unfolding first elem one_of
no_comparison k e t = subst T e t

no_chain : (k : ℕ) → one_of k logical ≡ false → T (elem k (first chain)) → ⊥
unfolding first elem one_of
no_chain k e t = subst T e t

module _ {kinds long : List ℕ} {n : ℕ} {q : Read} {d : ℕ} where
  pub relation_plain : {before after : Arrays} {r : Read} → ReadsOver simple postfix kinds long n q d before r after
      → (r.fault ≡ 0 → one_of (kind_in kinds n r.at) relational ≡ false) → ReadsOver relation postfix kinds long n q d before r after
  unfolding compose productions
  relation_plain {r = r} p f = record {
    moves = p.moves;
    reads = λ ts holds. record {
      value = (p.reads ts holds).value;
      goes = λ S s l h fine γ κ o.
          let ok : Ok (nt simple ∷ nt compared ∷ γ) = ok_of {r = nt simple ∷ nt compared ∷ [] ↠ λ a f. f a} γ here o in
          into_at ts S s l h q d relation simple (nt compared ∷ []) (λ a f. f a) γ κ (into_simple (token_at ts q.at).kind)
          ∙ ((p.reads ts holds).goes S s l h fine (nt compared ∷ γ) (λ a f. κ (f a)) ok
          ∙ left_over ts S s l h r d compared γ (λ f. κ (f (p.reads ts holds).value)) ok.2 (λ a. a) here
          (λ z. no_comparison (token_at ts r.at).kind (subst (λ (k : ℕ). one_of k relational ≡ false) (kind_is holds r.at) (f z))));
      wrote = (p.reads ts holds).wrote;
    };
  }

  pub relation_compared : {before middle after : Arrays} {a r : Read} (k : ℕ) → ReadsOver simple postfix kinds long n q d before a middle
      → one_of k relational ≡ true → kind_in kinds n a.at ≡ k
      → {code : ℕ} → code ≡ operation_of k → BehindOver simple postfix k code kinds long n a d middle r after
      → ReadsOver relation postfix kinds long n q d before r after
  unfolding compose productions postfix
  relation_compared {before} {middle} {after} {a} {r} k p op e is_code b = record {
    moves = moves_then p.moves b.moves;
    reads = λ ts holds.
        let x = p.reads ts holds in
        let y = b.reads ts holds in
        record {
          value = binary (token_at ts a.at) x.value y.value;
          goes = λ S s l h fine γ κ o.
              let ok : Ok (nt simple ∷ nt compared ∷ γ) = ok_of {r = nt simple ∷ nt compared ∷ [] ↠ λ a f. f a} γ here o in
              into_at ts S s l h q d relation simple (nt compared ∷ []) (λ a f. f a) γ κ (into_simple (token_at ts q.at).kind)
              ∙ (x.goes S s l h fine (nt compared ∷ γ) (λ a f. κ (f a)) ok
              ∙ taken compared simple postfix [] (λ t v c. binary t c v) e (pick_compared k op) b ts holds S s l h fine γ (λ f. κ (f x.value)) ok.2);
          wrote = λ z. wrote_then (x.wrote (b.moves.began z)) (binary_items a holds k e is_code (postfix y.value) (y.wrote z));
        };
  }

  -- an expression
  pub expression_plain : {before after : Arrays} {r : Read} → ReadsOver relation postfix kinds long n q d before r after
      → (r.fault ≡ 0 → one_of (kind_in kinds n r.at) logical ≡ false) → ReadsOver expression postfix kinds long n q d before r after
  unfolding compose productions
  expression_plain {r = r} p f = record {
    moves = p.moves;
    reads = λ ts holds. record {
      value = (p.reads ts holds).value;
      goes = λ S s l h fine γ κ o.
          let ok : Ok (nt relation ∷ nt chain ∷ γ) = ok_of {r = nt relation ∷ nt chain ∷ [] ↠ λ a f. f a} γ here o in
          into_at ts S s l h q d expression relation (nt chain ∷ []) (λ a f. f a) γ κ (into_relation (token_at ts q.at).kind)
          ∙ ((p.reads ts holds).goes S s l h fine (nt chain ∷ γ) (λ a f. κ (f a)) ok
          ∙ left_over ts S s l h r d chain γ (λ f. κ (f (p.reads ts holds).value)) ok.2 (λ a. a) here
          (λ z. no_chain (token_at ts r.at).kind (subst (λ (k : ℕ). one_of k logical ≡ false) (kind_is holds r.at) (f z))));
      wrote = (p.reads ts holds).wrote;
    };
  }

-- at an operator a chain is a chain of that operator
chain_start : (q : Read) (d : ℕ) (t : Tail) (k : ℕ) → one_of k logical ≡ true → operator_of t k → {kinds long : List ℕ} {n : ℕ} {ts : List Token}
    → Holds ts kinds long n → kind_in kinds n q.at ≡ k → (S : NonTerminal) (s l : ℕ) (h : InHeading) (γ : List Sym) (κ : Expr → Fun γ (Says S)) (a : Expr)
    → from ts S s l h q d (nt chain ∷ γ) (λ f. κ (f a)) ≡ from ts S s l h q d (nt (tail_of t) ∷ γ) (of_tail t S γ κ a)
unfolding compose
chain_start q d sum k w op holds e S s l h γ κ a = absurd ((logical_alone k w).0 op)
chain_start q d product k w op holds e S s l h γ κ a = absurd ((logical_alone k w).1 op)
chain_start q d and_chain k w op {kinds} {long} {n} {ts} holds e S s l h γ κ a =
    let i : q.at < length ts = (let z = holds.count in let w = kind_inside kinds n q.at k e (omega arith) in omega arith) in
    let z = sym (kind_is holds q.at) ∙ e in
    rule_at ts S s l h q d chain γ (λ f. κ (f a)) ((and_rule k).rhs ↠ (and_rule k).says) (ap (pick (productions chain)) z ∙ chain_and k op) i
    ∙ sym (rule_at ts S s l h q d ands γ (λ f. κ (f a)) (and_rule k) (ap (pick (productions ands)) z ∙ pick_and k op) i)
chain_start q d or_chain k w op {kinds} {long} {n} {ts} holds e S s l h γ κ a =
    let i : q.at < length ts = (let z = holds.count in let w = kind_inside kinds n q.at k e (omega arith) in omega arith) in
    let z = sym (kind_is holds q.at) ∙ e in
    rule_at ts S s l h q d chain γ (λ f. κ (f a)) ((or_rule k).rhs ↠ (or_rule k).says) (ap (pick (productions chain)) z ∙ chain_or k op) i
    ∙ sym (rule_at ts S s l h q d ors γ (λ f. κ (f a)) (or_rule k) (ap (pick (productions ors)) z ∙ pick_or k op) i)
chain_start q d xor_chain k w op {kinds} {long} {n} {ts} holds e S s l h γ κ a =
    let i : q.at < length ts = (let z = holds.count in let w = kind_inside kinds n q.at k e (omega arith) in omega arith) in
    let z = sym (kind_is holds q.at) ∙ e in
    rule_at ts S s l h q d chain γ (λ f. κ (f a)) ((xor_rule k).rhs ↠ (xor_rule k).says) (ap (pick (productions chain)) z ∙ chain_xor k op) i
    ∙ sym (rule_at ts S s l h q d xors γ (λ f. κ (f a)) (xor_rule k) (ap (pick (productions xors)) z ∙ pick_xor k op) i)

ok_chain : (t : Tail) (k : ℕ) → one_of k logical ≡ true → operator_of t k → (γ : List Sym) → Ok (nt chain ∷ γ) → Ok (nt (tail_of t) ∷ γ)
ok_chain sum k w op γ o = absurd ((logical_alone k w).0 op)
ok_chain product k w op γ o = absurd ((logical_alone k w).1 op)
ok_chain and_chain k w op γ o = (ok_of γ (pick_rule ((and_rule k).rhs ↠ (and_rule k).says) k (chain_and k op)) o).2
ok_chain or_chain k w op γ o = (ok_of γ (pick_rule ((or_rule k).rhs ↠ (or_rule k).says) k (chain_or k op)) o).2
ok_chain xor_chain k w op γ o = (ok_of γ (pick_rule ((xor_rule k).rhs ↠ (xor_rule k).says) k (chain_xor k op)) o).2

not_operator : (t : Tail) (k j : ℕ) → one_of k logical ≡ true → operator_of t k → (j ≡ k → ⊥) → operator_of t j → ⊥
not_operator sum k j w op f z = (logical_alone k w).0 op
not_operator product k j w op f z = (logical_alone k w).1 op
not_operator and_chain k j w op f z = f (z ∙ sym op)
not_operator or_chain k j w op f z = f (z ∙ sym op)
not_operator xor_chain k j w op f z = f (z ∙ sym op)

-- an operator of a chain
pub which : (k : ℕ) → one_of k logical ≡ true → (t : Tail) × operator_of t k
which = each (λ (k : ℕ). (t : Tail) × operator_of t k) logical ((and_chain, refl), ((or_chain, refl), ((xor_chain, refl), tt)))

pub expression_chain : {kinds long : List ℕ} {n : ℕ} {q a r : Read} {d : ℕ} {before middle after : Arrays} (k : ℕ) → one_of k logical ≡ true
    → ReadsOver relation postfix kinds long n q d before a middle → kind_in kinds n a.at ≡ k
    → ((t : Tail) → operator_of t k → TurnOver t kinds long n a d middle r after) → (r.fault ≡ 0 → kind_in kinds n r.at ≡ k → ⊥)
    → ReadsOver expression postfix kinds long n q d before r after
unfolding compose productions
expression_chain {kinds} {long} {n} {q} {a} {r} {d} {before} {middle} {after} k w p e turns stop =
    let t : Tail = (which k w).0 in
    let op : operator_of t k = (which k w).1 in
    let v = turns t op in
    record {
      moves = moves_then p.moves v.moves;
      reads = λ ts holds.
          let x = p.reads ts holds in
          let y = v.reads ts holds in
          record {
            value = y.grow x.value;
            goes = λ S s l h fine γ κ o.
                let ok : Ok (nt relation ∷ nt chain ∷ γ) = ok_of {r = nt relation ∷ nt chain ∷ [] ↠ λ a f. f a} γ here o in
                let on : Ok (nt (tail_of t) ∷ γ) = ok_chain t k w op γ ok.2 in
                into_at ts S s l h q d expression relation (nt chain ∷ []) (λ a f. f a) γ κ (into_relation (token_at ts q.at).kind)
                ∙ (x.goes S s l h fine (nt chain ∷ γ) (λ a f. κ (f a)) ok
                ∙ (chain_start a d t k w op holds e S s l h γ κ x.value
                ∙ (y.goes x.value S s l h fine γ κ on
                ∙ tail_over t ts S s l h r d (λ z. not_operator t k (token_at ts r.at).kind w op
                (λ w. stop z (kind_is holds r.at ∙ w))) γ κ (y.grow x.value) on)));
            wrote = λ z. subst (λ (l : List Item). Wrote ts q.written r.written before after l) (sym (y.grows x.value))
                (wrote_then (x.wrote (v.moves.began z)) (y.wrote z));
          };
    }

-- What the needs of the calls and loops ask: bounds.
pub asks_after : {n : ℕ} {q a : Read} → Asks n q → Moves n q a → Asks n a
asks_after u v = record { short = omega arith; inside = omega arith; room = omega arith; few = omega arith }

-- a test that is turned round
pub denied : (b : Bool) → not b ≡ true → b ≡ false
denied true e = sym e
denied false e = refl

pub affirmed : (b : Bool) → not b ≡ false → b ≡ true
affirmed true e = refl
affirmed false e = sym e

-- a name or a literal is not `not`
pub operand_not : (k : ℕ) → one_of k operands ≡ true → k ≡ NOT → ⊥
operand_not = each (λ (k : ℕ). k ≡ NOT → ⊥) operands ((λ e. omega arith), ((λ e. omega arith), ((λ e. omega arith), ((λ e. omega arith), tt))))

-- an operator is no end of the text
pub adding_kind : (k : ℕ) → one_of k adding ≡ true → 0 < k
adding_kind = some_kind adding (lit< tt, (lit< tt, tt))

pub multiplying_kind : (k : ℕ) → one_of k multiplying ≡ true → 0 < k
multiplying_kind = some_kind multiplying (lit< tt, (lit< tt, (lit< tt, (lit< tt, tt))))

pub relational_kind : (k : ℕ) → one_of k relational ≡ true → 0 < k
relational_kind = some_kind relational (lit< tt, (lit< tt, (lit< tt, (lit< tt, (lit< tt, (lit< tt, tt))))))

pub logical_kind : (k : ℕ) → one_of k logical ≡ true → 0 < k
logical_kind = some_kind logical (lit< tt, (lit< tt, (lit< tt, tt)))

-- a loop over a chain of the operator with kind k
pub record Chained (k : ℕ) (kinds long : List ℕ) (n : ℕ) (q : Read) (d : ℕ) (before : Arrays) (r : Read) (after : Arrays) : Type 0 where
  pub moves : Moves n q r
  pub turns : (t : Tail) → operator_of t k → TurnOver t kinds long n q d before r after

pub chained_none : {k : ℕ} {kinds long : List ℕ} {n : ℕ} {q : Read} {d : ℕ} (b : Arrays) → Asks n q → Chained k kinds long n q d b q b
chained_none {n = n} {q} b a = record { moves = stay_moves n q a; turns = λ t op. turn_none t b a }

-- one turn more, at the operator j
pub chained_again : {k : ℕ} {kinds long : List ℕ} {n : ℕ} {q a r : Read} {d : ℕ} {before middle after : Arrays} → (j : ℕ) → one_of k logical ≡ true → j ≡ k
    → Chained k kinds long n q d before a middle
    → ((t : Tail) → operator_of t j → OneTurn t kinds long n a d middle r after) → Chained k kinds long n q d before r after
chained_again {k} j l e c f =
    let w = which k l in
    record {
      moves = moves_then c.moves (f w.0 (subst (operator_of w.0) (sym e) w.1)).turn.moves;
      turns = λ t op. turn_then (c.turns t op) (f t (subst (operator_of t) (sym e) op)).turn;
    }

pub chained_further : {k : ℕ} {kinds long : List ℕ} {n : ℕ} {a r : Read} {d : ℕ} {middle after : Arrays} → (j : ℕ) → one_of k logical ≡ true → j ≡ k
    → ((t : Tail) → operator_of t j → OneTurn t kinds long n a d middle r after) → r.fault ≡ 0 → a.at < r.at
chained_further {k} j l e f = let w = which k l in (f w.0 (subst (operator_of w.0) (sym e) w.1)).further
