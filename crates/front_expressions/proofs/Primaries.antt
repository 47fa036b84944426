-- The returns of the readers of a primary: each follows the grammar's reader by its laws. Assumes nothing.
use mathlib.Core.Path.{◌≡◌, refl, sym, ◌∙◌, ap, subst}
use mathlib.Core.Bool.{true, false}
use mathlib.Core.List.{List, [], ◌∷◌, ◌++◌}
use Prim.Native.Nat.{ℕ, suc, ◌+◌, ◌≤◌, ◌<◌}
use native.Mathlib.Omega.{arith}
use native.Mathlib.Numerals.{add-one}
use borrow.Author.Tests.{le-ltb, lt-ltb, eqb-true}
use lib.Dec.{eqb, ltb, lit<}
use Rattle.base_codes.specs.Token.{one_of, operands, NAME, NUMBER, ZERO, ONE, LP, RP}
use Rattle.base_codes.proofs.TokenLaws.{each}
use lib.ListN.{length}
use Rattle.spec_grammar.specs.Token.{Token}
use Rattle.spec_grammar.specs.Tree.{Expr, number, bit, name, parens}
use Rattle.spec_grammar.specs.Grammar.{NonTerminal, expression, primary, Says, Sym, tk, nt, Fun, opens, closes, plain, Production, productions}
use Rattle.spec_grammar.specs.Meter.{InHeading, over, tick, zeroes}
use Rattle.spec_grammar.specs.Derivation.{◌∈◌}
use Rattle.spec_grammar.specs.Reader.{compose, pick, take}
use Rattle.spec_grammar.proofs.Steps.{Ok, ok_rule_lem}
use Rattle.spec_grammar.proofs.Tables.{inside_ok, pick_rule}
use Rattle.front_layout.specs.Tokens.{token_at, no_token, alone, kind_in, flag_in, Holds}
use Rattle.front_cursor.specs.declared.Unread.{Unread}
use Rattle.front_cursor.specs.Reading.{Read, unread, meter, from, Fine, Asks, Moves, refuse, item_at, expect_at}
use Rattle.front_cursor.proofs.Measures.{or_true}
use Rattle.front_cursor.proofs.Steps.{settle, kind_is, kind_inside, from_stays, from_same, rule_at, refused_at_lem, token_over, token_taken, item_at_lem, expect_at_lem}
use Rattle.front_cursor.proofs.Steps.{expect_moves, expect_written, unread_ends}
use Rattle.front_layout.specs.Postfix.{Item, item_of, postfix}
use Rattle.front_layout.specs.Items.{Arrays, Wrote}
use Rattle.front_expressions.specs.Put.{Put}
use Rattle.front_expressions.specs.Tests.{leaf_code}
use Rattle.front_expressions.specs.Readers.{ReadsOver}
use Rattle.front_expressions.proofs.Items.{wrote_put, put_ends, Counts, put_counts}
use Rattle.front_expressions.proofs.Behind.{item_taken, behind_moves, operand_asks, BehindOver, behind_over}
use Rattle.front_expressions.proofs.Picks.{leaf_rule, parens_rule, pick_name, pick_number, pick_zero, pick_one, pick_parens, no_primary}

pub ok_of : {M : NonTerminal} {r : Production M} (γ : List Sym) → r ∈ productions M → Ok (nt M ∷ γ) → Ok (r.rhs ++ γ)
ok_of {M} {r} γ m o = ok_rule_lem M r.rhs γ (inside_ok m) o

pub stay_moves : (n : ℕ) (q : Read) → Asks n q → Moves n q q
stay_moves n q a = record { on = omega arith; inside = omega arith; room = omega arith; few = omega arith; began = λ z. z }

-- what has refused stays so
pub reads_stays : (M : NonTerminal) (flat : Says M → List Item) (v : Says M) {kinds long : List ℕ} {n : ℕ} {q : Read} {d : ℕ} (b : Arrays) → Asks n q
    → (q.fault ≡ 0 → ⊥) → ReadsOver M flat kinds long n q d b q b
reads_stays M flat v {n = n} {q} {d} b a f = record {
  moves = stay_moves n q a;
  reads = λ ts holds. record {
    value = v;
    goes = λ S s l h fine γ κ o. from_stays ts S s l s l h h q q d d (nt M ∷ γ) γ κ (κ v) f refl refl;
    wrote = λ z. absurd (f z);
  };
}

-- the operator is refused, so no operand was read
pub behind_refused : (A : NonTerminal) (flat : Says A → List Item) (v : Says A) (k : ℕ) {code : ℕ} {kinds long : List ℕ} {n : ℕ} {q : Read} {d : ℕ}
    (b : Arrays) (e : Unread) → 0 < k → Asks n q → d ≤ 16 → kind_in kinds n q.at ≡ k → unread e ≡ item_at (flag_in long q.at) q
    → BehindOver A flat k code kinds long n q d b (unread e) b
behind_refused A flat v k {kinds = kinds} {long} {n} {q} b e pos asks low z ea =
    behind_over A flat k pos asks low z ea
    (reads_stays A flat v b (operand_asks n q (unread e) q q (flag_in long q.at) asks (kind_inside kinds n q.at k z pos) ea) (unread_ends e)) (put_ends e b)

pub refuse_moves : (n : ℕ) (q : Read) (k : ℕ) → Asks n q → q.fault ≡ 0 → Moves n q (refuse k q)
refuse_moves n q k a z = record { on = omega arith; inside = omega arith; room = omega arith; few = omega arith; began = λ e. z }

-- the limits at a parenthesis
module _ (s l : ℕ) (h : InHeading) (f : Fine s h) (d : ℕ) (x : Token) (i : ℕ) (few : i ≤ 64) where
  over_full : 16 ≤ d → over (tick (meter i d s l h) opens x) ≡ true
  unfolding over tick
  over_full g =
      rw (
        le-ltb 17 h.inputs f.inputs,
        le-ltb 16 h.outputs f.outputs,
        le-ltb 32 h.vars f.vars,
        le-ltb 512 s
            f.statements,
        le-ltb 64 i few,
        lt-ltb 16 (suc d) (omega arith),
      )
      (or_true (ltb 32 (tick zeroes plain x).bytes))

  over_opens : d < 16 → x.kind ≡ LP → over (tick (meter i d s l h) opens x) ≡ false
  unfolding over tick
  over_opens g e =
      rw (
        le-ltb 17 h.inputs f.inputs,
        le-ltb 16 h.outputs f.outputs,
        le-ltb 32 h.vars f.vars,
        le-ltb 512 s
            f.statements,
        le-ltb 64 i few,
        le-ltb 16 (suc d) (omega arith),
        e,
      )

  over_closes : d ≤ 16 → over (tick (meter i (d + 1) s l h) closes x) ≡ alone x
  unfolding over tick alone
  over_closes g =
      rw (
        add-one,
        le-ltb 17 h.inputs f.inputs,
        le-ltb 16 h.outputs f.outputs,
        le-ltb 32 h.vars f.vars,
        le-ltb 512 s
            f.statements,
        le-ltb 64 i few,
        le-ltb 16 d g,
      )

module _ {kinds long : List ℕ} {n : ℕ} {q : Read} {d : ℕ} (asks : Asks n q) (low : d ≤ 16) (clear : q.fault ≡ 0) where
  -- no primary
  pub primary_refused : (b : Arrays) → (kind_in kinds n q.at ≡ LP → ⊥) → one_of (kind_in kinds n q.at) operands ≡ false
      → ReadsOver primary postfix kinds long n q d b (refuse 3 q) b
  primary_refused b p e = record {
    moves = refuse_moves n q 3 asks clear;
    reads = λ ts holds. record {
      value = number no_token;
      goes = λ S s l h fine γ κ o. refused_at_lem ts S s l h q d primary γ γ κ (κ (number no_token)) s l d h
          (no_primary (token_at ts q.at).kind (λ z. p (kind_is holds q.at ∙ z)) (subst (λ (k : ℕ). one_of k operands ≡ false) (kind_is holds q.at) e))
          clear;
      wrote = λ z. absurd (let g : 3 ≡ 0 = z in omega arith);
    };
  }

  -- a leaf
  leaf : (j : ℕ) (f : Token → Expr) (code : ℕ) → pick (productions primary) j ≡ take (leaf_rule j f) → ((x : Token) → postfix (f x) ≡ item_of code x ∷ [])
      → q.at < n → kind_in kinds n q.at ≡ j
      → (a r : Read) → a ≡ item_at (flag_in long q.at) q → {before after : Arrays} → Put a code q.at before r after
      → ReadsOver primary postfix kinds long n q d before r after
  unfolding compose
  leaf j f code p flat inside e a r ea {before} {after} put = record {
    moves = leaf_moves;
    reads = λ ts holds. record { value = f (token_at ts q.at); goes = goes ts holds; wrote = wrote ts };
  }
    where
      c : Counts a r
      c = put_counts a r put.answer

      leaf_moves : Moves n q r
      leaf_moves = behind_moves n q a a r (flag_in long q.at) asks inside ea (stay_moves n a (operand_asks n q a a r (flag_in long q.at) asks inside ea))
          put.answer

      goes : (ts : List Token) → Holds ts kinds long n → (S : NonTerminal) (s l : ℕ) (h : InHeading) → Fine s h → (γ : List Sym) (κ : Expr → Fun γ (Says S))
          → Ok (nt primary ∷ γ)
          → from ts S s l h q d (nt primary ∷ γ) κ ≡ from ts S s l h r d γ (κ (f (token_at ts q.at)))
      goes ts holds S s l h fine γ κ o =
          let i : q.at < length ts = (let z = holds.count in omega arith) in
          let k : (token_at ts q.at).kind ≡ j = sym (kind_is holds q.at) ∙ e in
          rule_at ts S s l h q d primary γ κ (leaf_rule j f) (ap (pick (productions primary)) k ∙ p) i
          ∙ (item_at_lem ts S s l h q d fine low (flag_in long q.at) (sym (holds.flag q.at inside)) j k i γ (λ x. κ (f x))
          ∙ (ap (λ (u : Read). from ts S s l h u d γ (κ (f (token_at ts q.at)))) (sym ea)
          ∙ from_same ts S s l h a r d γ (κ (f (token_at ts q.at))) (sym c.fault) (sym c.at) (sym c.items)))

      wrote : (ts : List Token) → r.fault ≡ 0 → Wrote ts q.written r.written before after (postfix (f (token_at ts q.at)))
      wrote ts z = subst (λ (m : ℕ). Wrote ts m r.written before after (postfix (f (token_at ts q.at)))) ((item_taken q a (flag_in long q.at) ea).same (sym c.fault ∙ z))
          (rw (flat (token_at ts q.at)) (wrote_put put z ts))

  pub primary_leaf : (k : ℕ) → one_of k operands ≡ true → kind_in kinds n q.at ≡ k
      → (a r : Read) → a ≡ item_at (flag_in long q.at) q → {before after : Arrays} → Put a (leaf_code k) q.at before r after
      → ReadsOver primary postfix kinds long n q d before r after
  unfolding postfix
  primary_leaf k op e a r ea {before} {after} put =
      each (λ (j : ℕ). kind_in kinds n q.at ≡ j → Put a (leaf_code j) q.at before r after → ReadsOver primary postfix kinds long n q d before r after)
      operands (
        (λ z w. leaf NAME (λ x. name x) _ pick_name (λ x. refl) (inside NAME (lit< tt) z) z a r ea w),
        (
          (λ z w. leaf NUMBER (λ x. number x) _ pick_number (λ x. refl) (inside NUMBER (lit< tt) z) z a r ea w),
          (
            (λ z w. leaf ZERO (λ x. bit x) _ pick_zero (λ x. refl) (inside ZERO (lit< tt) z) z a r ea w),
            ((λ z w. leaf ONE (λ x. bit x) _ pick_one (λ x. refl) (inside ONE (lit< tt) z) z a r ea w), tt),
          ),
        ),
      )
      k op e put
    where
      inside : (j : ℕ) → 0 < j → kind_in kinds n q.at ≡ j → q.at < n
      inside j p z = kind_inside kinds n q.at j z p

  -- ( e ), where 16 are open already
  pub parens_full : (b : Arrays) → 16 ≤ d → kind_in kinds n q.at ≡ 5 → ReadsOver primary postfix kinds long n q d b (refuse 4 q) b
  unfolding compose
  parens_full b g e = record {
    moves = refuse_moves n q 4 asks clear;
    reads = λ ts holds. record { value = number no_token; goes = goes ts holds; wrote = λ z. absurd (let w : 4 ≡ 0 = z in omega arith) };
  }
    where
      goes : (ts : List Token) → Holds ts kinds long n → (S : NonTerminal) (s l : ℕ) (h : InHeading) → Fine s h → (γ : List Sym) (κ : Expr → Fun γ (Says S))
          → Ok (nt primary ∷ γ)
          → from ts S s l h q d (nt primary ∷ γ) κ ≡ from ts S s l h (refuse 4 q) d γ (κ (number no_token))
      goes ts holds S s l h fine γ κ o =
          let i : q.at < length ts = (let z = holds.count in let w = kind_inside kinds n q.at 5 e (omega arith) in omega arith) in
          let k : (token_at ts q.at).kind ≡ LP = sym (kind_is holds q.at) ∙ e in
          rule_at ts S s l h q d primary γ κ parens_rule (ap (pick (productions primary)) k ∙ pick_parens) i
          ∙ token_over ts S s l h q d opens LP (nt expression ∷ tk closes RP ∷ γ) γ (λ _ e' _. κ (parens e')) (κ (number no_token)) s l d h k i clear
          (over_full s l h fine d (token_at ts q.at) q.items asks.few g)

  -- ( e )
  pub parens_read : d < 16 → kind_in kinds n q.at ≡ 5 → (a b r : Read) → a ≡ record { fault = 0; at = q.at + 1; items = q.items; written = q.written }
      → {before after : Arrays}
      → ReadsOver expression postfix kinds long n a (d + 1) before b after → r ≡ expect_at (eqb (kind_in kinds n b.at) 6) (flag_in long b.at) b
      → ReadsOver primary postfix kinds long n q d before r after
  unfolding compose postfix tick
  parens_read g e a b r ea {before} {after} inner er = record {
    moves = whole_moves;
    reads = λ ts holds. record { value = parens (inner.reads ts holds).value; goes = goes ts holds; wrote = λ z. wrote ts holds z };
  }
    where
      w : q.at < n
      w = kind_inside kinds n q.at 5 e (omega arith)

      b_asks : Asks n b
      b_asks = let m = inner.moves in let z = ap (λ (u : Read). u.at) ea in let y = ap (λ (u : Read). u.written) ea in
          record { short = omega arith; inside = omega arith; room = omega arith; few = omega arith }

      last : Moves n b r
      last = rw er (expect_moves n b (eqb (kind_in kinds n b.at) 6) (flag_in long b.at) b_asks
          (λ z. kind_inside kinds n b.at 6 (eqb-true (kind_in kinds n b.at) 6 z) (omega arith)))

      whole_moves : Moves n q r
      whole_moves = let m = inner.moves in let k = last in let z = ap (λ (u : Read). u.at) ea in let y = ap (λ (u : Read). u.written) ea in
          record { on = omega arith; inside = omega arith; room = omega arith; few = omega arith; began = λ f. clear }

      goes : (ts : List Token) (holds : Holds ts kinds long n) → (S : NonTerminal) (s l : ℕ) (h : InHeading) → Fine s h
          → (γ : List Sym) (κ : Expr → Fun γ (Says S)) → Ok (nt primary ∷ γ)
          → from ts S s l h q d (nt primary ∷ γ) κ ≡ from ts S s l h r d γ (κ (parens (inner.reads ts holds).value))
      goes ts holds S s l h fine γ κ o =
          let i : q.at < length ts = (let z = holds.count in let y = w in omega arith) in
          let k : (token_at ts q.at).kind ≡ LP = sym (kind_is holds q.at) ∙ e in
          let p : pick (productions primary) (token_at ts q.at).kind ≡ take parens_rule = ap (pick (productions primary)) k ∙ pick_parens in
          let v : Expr = (inner.reads ts holds).value in
          rule_at ts S s l h q d primary γ κ parens_rule p i
          ∙ (token_taken ts S s l h q d opens LP (nt expression ∷ tk closes RP ∷ γ) (λ _ e' _. κ (parens e')) a s l (d + 1) h k i clear
          (over_opens s l h fine d (token_at ts q.at) q.items asks.few g k) (settled s l h (token_at ts q.at)) (ap (λ (u : Read). u.fault) ea)
          (ap (λ (u : Read). u.at) ea)
          ∙ ((inner.reads ts holds).goes S s l h fine (tk closes RP ∷ γ) (λ e' _. κ (parens e')) (ok_of γ (pick_rule parens_rule (token_at ts q.at).kind p) o)
          ∙ (expect_at_lem ts S s l h b (d + 1) closes d l (over_closes s l h fine d (token_at ts b.at) b.items inner.moves.few low)
          (closed s l h (token_at ts b.at)) RP (omega arith)
          (eqb (kind_in kinds n b.at) 6) (flag_in long b.at) (ap (λ (j : ℕ). eqb j 6) (sym (kind_is holds b.at)))
          (λ u. sym (holds.flag b.at (let z = holds.count in omega arith))) γ (λ _. κ (parens v))
          ∙ ap (λ (u : Read). from ts S s l h u d γ (κ (parens v))) (sym er))))
        where
          settled : (s l : ℕ) (h : InHeading) (x : Token) → settle (tick (meter q.items d s l h) opens x) ≡ meter a.items (d + 1) s l h
          settled s l h x = rw (ap (λ (u : Read). u.items) ea, add-one)

          closed : (s l : ℕ) (h : InHeading) (x : Token) → settle (tick (meter b.items (d + 1) s l h) closes x) ≡ meter b.items d s l h
          closed s l h x = rw add-one

      wrote : (ts : List Token) (holds : Holds ts kinds long n) → r.fault ≡ 0
          → Wrote ts q.written r.written before after (postfix (inner.reads ts holds).value)
      wrote ts holds z =
          subst (λ (m : ℕ). Wrote ts m r.written before after (postfix (inner.reads ts holds).value)) (ap (λ (u : Read). u.written) ea)
          (subst (λ (m : ℕ). Wrote ts a.written m before after (postfix (inner.reads ts holds).value))
          (sym (ap (λ (u : Read). u.written) er ∙ expect_written b (eqb (kind_in kinds n b.at) 6) (flag_in long b.at) (sym (ap (λ (u : Read). u.fault) er) ∙ z)))
          ((inner.reads ts holds).wrote (last.began z)))
