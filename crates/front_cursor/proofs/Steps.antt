-- The laws of the cursor: a token or a production of the grammar's reader, at the place where the cursor stands. Assumes nothing.
use mathlib.Core.Path.{◌≡◌, refl, sym, ◌∙◌, subst, ap}
use mathlib.Core.Bool.{Bool, true, false, ◌||◌}
use mathlib.Core.Logic.{◌⊎◌, inl, inr}
use mathlib.Core.List.{List, [], ◌∷◌, ◌++◌}
use Prim.Native.Nat.{ℕ, suc, ◌+◌, ◌≤◌, ◌<◌}
use native.Mathlib.Omega.{arith}
use native.Mathlib.Numerals.{add-one}
use native.Mathlib.Decide.{dec_lt}
use borrow.Author.Tests.{lt-ltb, le-ltb, leb-true, leb-false, eq-eqb, ne_eqb, ltb-true, ltb-false, eqb-true, eqb-false}
use lib.Dec.{T, eqb, ltb, leb}
use lib.ListN.{length, get_or, drop, drop_of_length-le, get_or-eq_default}
use lib.Seq.{drop-cons}
use Rattle.spec_grammar.specs.Token.{Token}
use Rattle.spec_grammar.specs.Grammar.{NonTerminal, Says, Sym, tk, nt, Fun, Production, productions, ◌↠◌, Mark, plain, item, opens, closes, fresh, stmt}
use Rattle.spec_grammar.specs.Grammar.{stmt_fresh, deeper, shallower, declares, ins, outs, variables}
use Rattle.spec_grammar.specs.Meter.{Meter, InHeading, tick, over, zeroes}
use Rattle.spec_grammar.specs.Derivation.{◌∈◌}
use Rattle.spec_grammar.specs.Reader.{choose, elem, first, compose, take, no_rule, pick, Outcome, keep, run, after, Step, stuck, skip, to, advance}
use Rattle.spec_grammar.proofs.Steps.{Ok}
use Rattle.spec_grammar.proofs.Trees.{nil_cons, cons_head}
use Rattle.spec_grammar.proofs.Laws.{by_rule_lem, taken, not_taken, missing, left_out, run_stuck}
use Rattle.front_layout.specs.Tokens.{token_at, no_token, alone, kind_in, flag_in, Holds}
use Rattle.front_cursor.specs.declared.Unread.{Unread}
use Rattle.front_cursor.specs.declared.Unread.TheVariants.{NoSentence, LimitPassed}
use Rattle.front_cursor.specs.Reading.{Read, unread, meter, ending, from, Fine, Asks, Moves, refuse, step, step_item, item_at, expect_at, expect_one, follows_at}
use Rattle.front_cursor.proofs.Measures.{three, or_true}
use Rattle.front_cursor.proofs.Arms.{item_stays, item_long, item_full, item_taken, expect_stays, expect_writtenot, expect_long, expect_taken}

-- What a Meter says of the last token alone is set anew by the next one, so the reader does not depend on it.
abbrev pub settle : Meter → Meter
settle c = record {
  expr = c.expr;
  body = record { statements = c.body.statements; depth = c.body.depth; begun = 0 };
  head = c.head;
  bytes = 0;
  literal = 0;
}

tick_settle : (c : Meter) (m : Mark) (x : Token) → tick c m x ≡ tick (settle c) m x
unfolding tick
tick_settle c plain x = refl
tick_settle c item x = refl
tick_settle c opens x = refl
tick_settle c closes x = refl
tick_settle c fresh x = refl
tick_settle c stmt x = refl
tick_settle c stmt_fresh x = refl
tick_settle c deeper x = refl
tick_settle c shallower x = refl
tick_settle c declares x = refl
tick_settle c ins x = refl
tick_settle c outs x = refl
tick_settle c variables x = refl

pub run_settle : (lim : Meter → Bool) (ts : List Token) (S : NonTerminal) (c : Meter) (γ : List Sym) (κ : Fun γ (Says S))
    → run lim ts S c γ κ ≡ run lim ts S (settle c) γ κ
unfolding run after
run_settle lim [] S c γ κ = refl
run_settle lim (x ∷ ts) S c γ κ = go (advance S x γ κ)
  where
    go : (s : Step S []) → after lim c x ts s (run lim ts S) ≡ after lim (settle c) x ts s (run lim ts S)
    go stuck = refl
    go (skip κ') = refl
    go (to m δ κ') = ap (λ (d : Meter). keep (x ∷ ts) (lim d) (run lim ts S d δ κ')) (tick_settle c m x)

-- The arrays' kinds are the tokens' kinds.
pub kind_is : {ts : List Token} {kinds long : List ℕ} {n : ℕ} → Holds ts kinds long n → (at : ℕ) → kind_in kinds n at ≡ (token_at ts at).kind
kind_is {ts} {kinds} {long} {n} h at = go (ltb at n) refl
  where
    go : (b : Bool) → ltb at n ≡ b → choose b (get_or kinds at 0) 0 ≡ (token_at ts at).kind
    go true e = h.kind at (ltb-true at n e)
    go false e = let c = h.count in let k = ltb-false at n e in let l : length ts ≤ at = omega arith in
        sym (ap (λ (x : Token). x.kind) (get_or-eq_default ts no_token l))

-- a token of some kind is no end
pub kind_inside : (kinds : List ℕ) (n at k : ℕ) → kind_in kinds n at ≡ k → 0 < k → at < n
kind_inside kinds n at k e p = go (ltb at n) refl e
  where
    go : (b : Bool) → ltb at n ≡ b → choose b (get_or kinds at 0) 0 ≡ k → at < n
    go true w z = ltb-true at n w
    go false w z = absurd (let u : k ≡ 0 = sym z in omega arith)

-- What the limits say of a token that is an item, or moves no count.
module _ (s l : ℕ) (h : InHeading) (f : Fine s h) (d : ℕ) (g : d ≤ 16) (x : Token) where
  over_item : (i : ℕ) → over (tick (meter i d s l h) item x) ≡ alone x || ltb 64 (suc i)
  unfolding over tick alone
  over_item i = rw (
    le-ltb 17 h.inputs f.inputs,
    le-ltb 16 h.outputs f.outputs,
    le-ltb 32 h.vars f.vars,
    le-ltb 512 s
        f.statements,
    le-ltb 16 d g,
  ) (three (ltb 32 (tick zeroes plain x).bytes) (ltb 64 (suc i)) (ltb 2147483647 (tick zeroes plain x).literal))

  pub over_plain : (i : ℕ) → i ≤ 64 → over (tick (meter i d s l h) plain x) ≡ alone x
  unfolding over tick alone
  over_plain i k = rw (
    le-ltb 17 h.inputs f.inputs,
    le-ltb 16 h.outputs f.outputs,
    le-ltb 32 h.vars f.vars,
    le-ltb 512 s
        f.statements,
    le-ltb 16 d g,
    le-ltb 64 i k,
  )

-- The cursor goes on or has refused.
pub ending_goes : (S : NonTerminal) (k : ℕ) (ts : List Token) (o : Outcome (Says S)) → k ≡ 0 → ending S k ts o ≡ o
unfolding ending
ending_goes S k ts o e = rw e

-- what has refused stays so, whatever is still to come
pub from_stays : (ts : List Token) (S : NonTerminal) (s l s' l' : ℕ) (h h' : InHeading) (q r : Read) (d d' : ℕ) (γ δ : List Sym) (κ : Fun γ (Says S))
    (κ' : Fun δ (Says S))
    → (q.fault ≡ 0 → ⊥) → q.fault ≡ r.fault → q.at ≡ r.at → from ts S s l h q d γ κ ≡ from ts S s' l' h' r d' δ κ'
unfolding from ending
from_stays ts S s l s' l' h h' q r d d' γ δ κ κ' f e a = rw (sym e, sym a, ne_eqb q.fault 0 f)

-- the number of items written is no part of it
pub from_same : (ts : List Token) (S : NonTerminal) (s l : ℕ) (h : InHeading) (q r : Read) (d : ℕ) (γ : List Sym) (κ : Fun γ (Says S)) → q.fault ≡ r.fault
    → q.at ≡ r.at → q.items ≡ r.items → from ts S s l h q d γ κ ≡ from ts S s l h r d γ κ
unfolding from
from_same ts S s l h q r d γ κ e a i = rw (e, a, i)

module _ (ts : List Token) (S : NonTerminal) (s l : ℕ) (h : InHeading) (q : Read) (d : ℕ) where
  cut : q.at < length ts → drop q.at ts ≡ token_at ts q.at ∷ drop (q.at + 1) ts
  cut i = rw (add-one, drop-cons ts q.at no_token)

  ended : (q.at < length ts → ⊥) → drop q.at ts ≡ []
  ended i = drop_of_length-le ts {i = q.at} (omega arith)

  -- a production
  pub rule_at : (M : NonTerminal) (γ : List Sym) (κ : Says M → Fun γ (Says S)) (r : Production M) → pick (productions M) (token_at ts q.at).kind ≡ take r
      → q.at < length ts
      → from ts S s l h q d (nt M ∷ γ) κ ≡ from ts S s l h q d (r.rhs ++ γ) (compose M S r.rhs γ r.says κ)
  unfolding from
  rule_at M γ κ r e i =
      ap (ending S q.fault (drop q.at ts))
      (subst (λ (us : List Token). run over us S (meter q.items d s l h) (nt M ∷ γ) κ ≡ run over us S (meter q.items d s l h) (r.rhs ++ γ)
      (compose M S r.rhs γ r.says κ)) (sym (cut i))
      (by_rule_lem over (token_at ts q.at) (drop (q.at + 1) ts) S (meter q.items d s l h) M γ κ r e))

  -- a nonterminal that is left out
  pub left_at : (M : NonTerminal) (γ : List Sym) (κ : Says M → Fun γ (Says S)) → Ok (nt M ∷ γ) → (v : Says M) → ◌∈◌ {M = M} ([] ↠ v) (productions M)
      → (T (elem (token_at ts q.at).kind (first M)) → ⊥)
      → from ts S s l h q d (nt M ∷ γ) κ ≡ from ts S s l h q d γ (κ v)
  unfolding from
  left_at M γ κ o v m f = ap (ending S q.fault (drop q.at ts)) (left_out over S (meter q.items d s l h) M γ κ o v m (drop q.at ts) away)
    where
      away : (x : Token) (us : List Token) → drop q.at ts ≡ x ∷ us → T (elem x.kind (first M)) → ⊥
      away x us e t = elim (dec_lt q.at (length ts)) [
        | yes i ↦ f (subst (λ (y : Token). T (elem y.kind (first M))) (cons_head (sym e ∙ cut i)) t)
        | no i ↦ nil_cons (sym (ended i) ∙ e)
      ]

  -- a nonterminal that the token cannot begin
  pub refused_at_lem : (M : NonTerminal) (γ δ : List Sym) (κ : Says M → Fun γ (Says S)) (κ' : Fun δ (Says S)) (s' l' d' : ℕ) (h' : InHeading)
      → pick (productions M) (token_at ts q.at).kind ≡ no_rule → q.fault ≡ 0
      → from ts S s l h q d (nt M ∷ γ) κ ≡ from ts S s' l' h' (refuse 3 q) d' δ κ'
  unfolding from ending
  refused_at_lem M γ δ κ κ' s' l' d' h' e z = rw z (elim (dec_lt q.at (length ts)) [
    | yes i ↦ rw (cut i) (run_stuck over S (meter q.items d s l h) M γ κ (token_at ts q.at) (drop (q.at + 1) ts) e)
    | no i ↦ rw (ended i) (missing over S (meter q.items d s l h) (nt M) γ κ)
  ])

  -- a token: not there, past a limit, or taken
  pub token_not : (m : Mark) (k : ℕ) (γ δ : List Sym) (κ : Token → Fun γ (Says S)) (κ' : Fun δ (Says S)) (s' l' d' : ℕ) (h' : InHeading)
      → ((token_at ts q.at).kind ≡ k → ⊥) → q.fault ≡ 0
      → from ts S s l h q d (tk m k ∷ γ) κ ≡ from ts S s' l' h' (refuse 3 q) d' δ κ'
  unfolding from ending
  token_not m k γ δ κ κ' s' l' d' h' e z = rw z (elim (dec_lt q.at (length ts)) [
    | yes i ↦ rw (cut i) (not_taken over (token_at ts q.at) (drop (q.at + 1) ts) S (meter q.items d s l h) m k γ κ
        (ne_eqb (token_at ts q.at).kind k e))
    | no i ↦ rw (ended i) (missing over S (meter q.items d s l h) (tk m k) γ κ)
  ])

  pub token_over : (m : Mark) (k : ℕ) (γ δ : List Sym) (κ : Token → Fun γ (Says S)) (κ' : Fun δ (Says S)) (s' l' d' : ℕ) (h' : InHeading)
      → (token_at ts q.at).kind ≡ k → q.at < length ts → q.fault ≡ 0
      → over (tick (meter q.items d s l h) m (token_at ts q.at)) ≡ true
      → from ts S s l h q d (tk m k ∷ γ) κ ≡ from ts S s' l' h' (refuse 4 q) d' δ κ'
  unfolding from ending keep
  token_over m k γ δ κ κ' s' l' d' h' e i z o =
      rw (z, cut i) (taken over (token_at ts q.at) (drop (q.at + 1) ts) S (meter q.items d s l h) m k γ κ (eq-eqb (token_at ts q.at).kind k e)
      ∙ ap (λ (b : Bool). keep (token_at ts q.at ∷ drop (q.at + 1) ts) b
      (run over (drop (q.at + 1) ts) S (tick (meter q.items d s l h) m (token_at ts q.at)) γ (κ (token_at ts q.at)))) o)

  pub token_taken : (m : Mark) (k : ℕ) (γ : List Sym) (κ : Token → Fun γ (Says S)) (r : Read) (s' l' d' : ℕ) (h' : InHeading) → (token_at ts q.at).kind ≡ k
      → q.at < length ts → q.fault ≡ 0
      → over (tick (meter q.items d s l h) m (token_at ts q.at)) ≡ false
      → settle (tick (meter q.items d s l h) m (token_at ts q.at)) ≡ meter r.items d' s' l' h' → r.fault ≡ 0 → r.at ≡ q.at + 1
      → from ts S s l h q d (tk m k ∷ γ) κ ≡ from ts S s' l' h' r d' γ (κ (token_at ts q.at))
  unfolding from ending keep
  token_taken m k γ κ r s' l' d' h' e i z o w rz ra =
      rw (z, rz, ra, cut i) (taken over (token_at ts q.at) (drop (q.at + 1) ts) S (meter q.items d s l h) m k γ κ (eq-eqb (token_at ts q.at).kind k e)
      ∙ (ap (λ (b : Bool). keep (token_at ts q.at ∷ drop (q.at + 1) ts) b
      (run over (drop (q.at + 1) ts) S (tick (meter q.items d s l h) m (token_at ts q.at)) γ (κ (token_at ts q.at)))) o
      ∙ (run_settle over (drop (q.at + 1) ts) S (tick (meter q.items d s l h) m (token_at ts q.at)) γ (κ (token_at ts q.at))
      ∙ ap (λ (c : Meter). run over (drop (q.at + 1) ts) S c γ (κ (token_at ts q.at))) w)))

  -- an item of an expression
  pub item_at_lem : Fine s h → d ≤ 16 → (b : Bool) → alone (token_at ts q.at) ≡ b → (k : ℕ) → (token_at ts q.at).kind ≡ k → q.at < length ts
      → (γ : List Sym) (κ : Token → Fun γ (Says S))
      → from ts S s l h q d (tk item k ∷ γ) κ ≡ from ts S s l h (item_at b q) d γ (κ (token_at ts q.at))
  unfolding tick
  item_at_lem f g b a k e i γ κ = go (eqb q.fault 0) refl b refl (leb 64 q.items) refl
    where
      x : Token
      x = token_at ts q.at

      To : Read → Type 0
      To r = from ts S s l h q d (tk item k ∷ γ) κ ≡ from ts S s l h r d γ (κ (token_at ts q.at))

      past : (i : ℕ) → 64 ≤ i → ltb 64 (suc i) ≡ true
      past i le = lt-ltb 64 (suc i) (omega arith)

      below : (i : ℕ) → i < 64 → ltb 64 (suc i) ≡ false
      below i lt = le-ltb 64 (suc i) (omega arith)

      go : (w : Bool) → eqb q.fault 0 ≡ w → (u : Bool) → b ≡ u → (v : Bool) → leb 64 q.items ≡ v → To (item_at b q)
      go false w u bu v vu = subst To (item_stays q b (eqb-false q.fault 0 w))
          (from_stays ts S s l s l h h q q d d (tk item k ∷ γ) γ κ (κ x) (eqb-false q.fault 0 w) refl refl)
      go true w true bu v vu = subst To (item_long q b (eqb-true q.fault 0 w) bu)
          (token_over item k γ γ κ (κ x) s l d h e i (eqb-true q.fault 0 w) (over_item s l h f d g x q.items ∙ rw (a, bu)))
      go true w false bu true vu = subst To (item_full q b (eqb-true q.fault 0 w) bu (leb-true 64 q.items vu))
          (token_over item k γ γ κ (κ x) s l d h e i (eqb-true q.fault 0 w)
          (over_item s l h f d g x q.items ∙ (rw (past q.items (leb-true 64 q.items vu)) (or_true (alone x)))))
      go true w false bu false vu = subst To (item_taken q b (eqb-true q.fault 0 w) bu (leb-false 64 q.items vu))
          (token_taken item k γ κ (step_item q) s l d h e i (eqb-true q.fault 0 w)
          (over_item s l h f d g x q.items ∙ rw (a, bu, below q.items (leb-false 64 q.items vu))) (rw add-one) (eqb-true q.fault 0 w) refl)

  -- a token that must have a certain kind; what it does to the counts is d' open parentheses for d, or depth l' for l, or nothing
  pub expect_at_lem : (m : Mark) (d' l' : ℕ) → over (tick (meter q.items d s l h) m (token_at ts q.at)) ≡ alone (token_at ts q.at)
      → settle (tick (meter q.items d s l h) m (token_at ts q.at)) ≡ meter q.items d' s l' h → (k : ℕ) → 0 < k
      → (a b : Bool) → eqb (token_at ts q.at).kind k ≡ a → (q.at < length ts → alone (token_at ts q.at) ≡ b) → (γ : List Sym) (κ : Token → Fun γ (Says S))
      → from ts S s l h q d (tk m k ∷ γ) κ ≡ from ts S s l' h (expect_at a b q) d' γ (κ (token_at ts q.at))
  expect_at_lem m d' l' o w k p a b ea eb γ κ = go (eqb q.fault 0) refl a refl b refl
    where
      x : Token
      x = token_at ts q.at

      To : Read → Type 0
      To r = from ts S s l h q d (tk m k ∷ γ) κ ≡ from ts S s l' h r d' γ (κ (token_at ts q.at))

      inside : (token_at ts q.at).kind ≡ k → q.at < length ts
      inside e = elim (dec_lt q.at (length ts)) [
        | yes i ↦ i
        | no i ↦ absurd (let z : 0 ≡ k = sym (ap (λ (y : Token). y.kind) (get_or-eq_default ts no_token {n = q.at} (omega arith))) ∙ e in omega arith)
      ]

      go : (z : Bool) → eqb q.fault 0 ≡ z → (u : Bool) → a ≡ u → (v : Bool) → b ≡ v → To (expect_at a b q)
      go false z u au v bv = subst To (expect_stays q a b (eqb-false q.fault 0 z))
          (from_stays ts S s l s l' h h q q d d' (tk m k ∷ γ) γ κ (κ x) (eqb-false q.fault 0 z) refl refl)
      go true z false au v bv = subst To (expect_writtenot q a b (eqb-true q.fault 0 z) au)
          (token_not m k γ γ κ (κ x) s l' d' h (eqb-false x.kind k (ea ∙ au)) (eqb-true q.fault 0 z))
      go true z true au true bv = let e = eqb-true x.kind k (ea ∙ au) in subst To (expect_long q a b (eqb-true q.fault 0 z) au bv)
          (token_over m k γ γ κ (κ x) s l' d' h e (inside e) (eqb-true q.fault 0 z) (o ∙ eb (inside e) ∙ bv))
      go true z true au false bv = let e = eqb-true x.kind k (ea ∙ au) in subst To (expect_taken q a b (eqb-true q.fault 0 z) au bv)
          (token_taken m k γ κ (step q) s l' d' h e (inside e) (eqb-true q.fault 0 z) (o ∙ eb (inside e) ∙ bv) w (eqb-true q.fault 0 z) refl)

-- How the steps move.
pub item_moves : (n : ℕ) (q : Read) (b : Bool) → Asks n q → q.at < n → Moves n q (item_at b q)
unfolding item_at
item_moves n q b a i = go (eqb q.fault 0) refl b (leb 64 q.items) refl
  where
    go : (w : Bool) → eqb q.fault 0 ≡ w → (u v : Bool) → leb 64 q.items ≡ v
        → Moves n q (choose w (choose u (refuse 4 q) (choose v (refuse 4 q) (step_item q))) q)
    go false w u v e = record { on = omega arith; inside = omega arith; room = omega arith; few = omega arith; began = λ z. z }
    go true w true v e = record { on = omega arith; inside = omega arith; room = omega arith; few = omega arith; began = λ z. eqb-true q.fault 0 w }
    go true w false true e = record { on = omega arith; inside = omega arith; room = omega arith; few = omega arith; began = λ z. eqb-true q.fault 0 w }
    go true w false false e = let f = leb-false 64 q.items e in
        record { on = omega arith; inside = omega arith; room = omega arith; few = omega arith; began = λ z. eqb-true q.fault 0 w }

pub expect_moves : (n : ℕ) (q : Read) (a b : Bool) → Asks n q → (a ≡ true → q.at < n) → Moves n q (expect_at a b q)
unfolding expect_at
expect_moves n q a b h i = go (eqb q.fault 0) refl a refl b
  where
    go : (w : Bool) → eqb q.fault 0 ≡ w → (u : Bool) → a ≡ u → (v : Bool) → Moves n q (choose w (choose u (choose v (refuse 4 q) (step q)) (refuse 3 q)) q)
    go false w u e v = record { on = omega arith; inside = omega arith; room = omega arith; few = omega arith; began = λ z. z }
    go true w false e v = record { on = omega arith; inside = omega arith; room = omega arith; few = omega arith; began = λ z. eqb-true q.fault 0 w }
    go true w true e true = record { on = omega arith; inside = omega arith; room = omega arith; few = omega arith; began = λ z. eqb-true q.fault 0 w }
    go true w true e false = let f = i e in record
        { on = omega arith; inside = omega arith; room = omega arith; few = omega arith; began = λ z. eqb-true q.fault 0 w }

-- At a token of kind k, M goes on by the production that begins with A; or neither M nor A can begin with it.
abbrev pub Into : (M A : NonTerminal) (δ : List Sym) → Fun (nt A ∷ δ) (Says M) → ℕ → Type 0
Into M A δ f k = (pick (productions M) k ≡ take (nt A ∷ δ ↠ f)) ⊎ ((pick (productions M) k ≡ no_rule) × (pick (productions A) k ≡ no_rule))

module _ (ts : List Token) (S : NonTerminal) (s l : ℕ) (h : InHeading) (q : Read) (d : ℕ) where
  pub into_at : (M A : NonTerminal) (δ : List Sym) (f : Fun (nt A ∷ δ) (Says M)) (γ : List Sym) (κ : Says M → Fun γ (Says S))
      → Into M A δ f (token_at ts q.at).kind
      → from ts S s l h q d (nt M ∷ γ) κ ≡ from ts S s l h q d (nt A ∷ (δ ++ γ)) (compose M S (nt A ∷ δ) γ f κ)
  unfolding from
  into_at M A δ f γ κ p = elim (dec_lt q.at (length ts)) [
    | yes i ↦ go i p
    | no i ↦ ap (ending S q.fault (drop q.at ts))
        (rw (ended ts S s l h q d i) (missing over S c (nt M) γ κ ∙ sym (missing over S c (nt A) (δ ++ γ) κ')))
  ]
    where
      c : Meter
      c = meter q.items d s l h

      κ' : Says A → Fun (δ ++ γ) (Says S)
      κ' = compose M S (nt A ∷ δ) γ f κ

      go : q.at < length ts → Into M A δ f (token_at ts q.at).kind
          → from ts S s l h q d (nt M ∷ γ) κ ≡ from ts S s l h q d (nt A ∷ (δ ++ γ)) (compose M S (nt A ∷ δ) γ f κ)
      go i (inl e) = rule_at ts S s l h q d M γ κ (nt A ∷ δ ↠ f) e i
      go i (inr e) = ap (ending S q.fault (drop q.at ts)) (rw (cut ts S s l h q d i)
          (run_stuck over S c M γ κ (token_at ts q.at) (drop (q.at + 1) ts) e.0
          ∙ sym (run_stuck over S c A (δ ++ γ) κ' (token_at ts q.at) (drop (q.at + 1) ts) e.1)))

-- a token that must be there is not written
pub expect_written : (q : Read) (a b : Bool) → (expect_at a b q).fault ≡ 0 → (expect_at a b q).written ≡ q.written
unfolding expect_at
expect_written q a b = go (eqb q.fault 0) refl a b
  where
    go : (w : Bool) → eqb q.fault 0 ≡ w → (u v : Bool) → (choose w (choose u (choose v (refuse 4 q) (step q)) (refuse 3 q)) q).fault ≡ 0
        → (choose w (choose u (choose v (refuse 4 q) (step q)) (refuse 3 q)) q).written ≡ q.written
    go false e u v f = refl
    go true e false v f = absurd (let g : 3 ≡ 0 = f in omega arith)
    go true e true true f = absurd (let g : 4 ≡ 0 = f in omega arith)
    go true e true false f = refl

pub expect_less : (q : Read) (a b : Bool) → (expect_at a b q).written ≤ q.written
unfolding expect_at
expect_less q a b = go (eqb q.fault 0) a b
  where
    go : (w u v : Bool) → (choose w (choose u (choose v (refuse 4 q) (step q)) (refuse 3 q)) q).written ≤ q.written
    go false u v = omega arith
    go true false v = omega arith
    go true true true = omega arith
    go true true false = omega arith

-- a refusal does not go on
pub unread_ends : (e : Unread) → (unread e).fault ≡ 0 → ⊥
unread_ends (NoSentence at) f = let g : ◌≡◌ {A = ℕ} 3 0 = f in omega arith
unread_ends (LimitPassed at) f = let g : ◌≡◌ {A = ℕ} 4 0 = f in omega arith

-- the test whether a token of a kind follows
pub follows_true : (f k j : ℕ) → follows_at f k j ≡ true → (f ≡ 0) × (k ≡ j)
unfolding follows_at
follows_true f k j e = go (eqb f 0) refl e
  where
    go : (a : Bool) → eqb f 0 ≡ a → choose a (eqb k j) false ≡ true → (f ≡ 0) × (k ≡ j)
    go true u z = (eqb-true f 0 u, eqb-true k j z)
    go false u z = absurd (let y : ◌≡◌ {A = ℕ} 0 1 = cc in omega arith)

pub follows_false : (f k j : ℕ) → follows_at f k j ≡ false → f ≡ 0 → k ≡ j → ⊥
unfolding follows_at
follows_false f k j e z w = eqb-false k j (rw z at e) w

-- one step after another
pub asks_then : {n : ℕ} {q r : Read} → Asks n q → Moves n q r → Asks n r
asks_then a m = record { short = omega arith; inside = omega arith; room = omega arith; few = omega arith }

pub moves_then : {n : ℕ} {q r s : Read} → Moves n q r → Moves n r s → Moves n q s
moves_then u v = record { on = omega arith; inside = omega arith; room = omega arith; few = omega arith; began = λ z. u.began (v.began z) }

pub one_moves : (kinds long : List ℕ) (n k : ℕ) (q : Read) → 0 < k → Asks n q → Moves n q (expect_one kinds long n k q)
one_moves kinds long n k q pos a = expect_moves n q (eqb (kind_in kinds n q.at) k) (flag_in long q.at) a
    (λ z. kind_inside kinds n q.at k (eqb-true (kind_in kinds n q.at) k z) pos)

pub one_asks : (kinds long : List ℕ) {n : ℕ} (k : ℕ) {q r : Read} → 0 < k → Asks n q → r ≡ expect_one kinds long n k q → Asks n r
one_asks kinds long {n} k {q} pos a e = subst (λ (v : Read). Asks n v) (sym e) (asks_then a (one_moves kinds long n k q pos a))

-- what has refused takes no token, and none follows
pub expect_ended : (kinds long : List ℕ) (n k : ℕ) (e : Unread) → unread e ≡ expect_one kinds long n k (unread e)
expect_ended kinds long n k e = expect_stays (unread e) (eqb (kind_in kinds n (unread e).at) k) (flag_in long (unread e).at) (unread_ends e)

pub follows_ended : (e : Unread) (k j : ℕ) → follows_at (unread e).fault k j ≡ false
unfolding follows_at
follows_ended e k j = rw (ne_eqb (unread e).fault 0 (unread_ends e))
