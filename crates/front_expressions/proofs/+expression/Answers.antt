-- The proof of the cycle of calls of the readers of expressions. The measure is the tokens left, 10 for each, and a number for the level, so that it
-- falls at a call at the same token too. Each return is one lemma of `Primaries` or `Sums`; a loop's invariant is that the tree so far has only grown.
-- Assumes nothing.
use Prim.Native.Nat.{ℕ}
use mathlib.Core.Path.{◌≡◌, refl, sym, ◌∙◌, subst}
use mathlib.Core.Bool.{true, false}
use native.Mathlib.Omega.{arith}
use borrow.Author.Tests.{eqb-true, eqb-false}
use lib.Dec.{lit<}
use Rattle.spec_grammar.specs.Grammar.{primary as primary_part, factor as factor_part, term as term_part, simple as simple_part, relation as relation_part}
use Rattle.spec_grammar.specs.Tree.{number}
use Rattle.front_layout.specs.Tokens.{no_token, kind_in, flag_in}
use Rattle.std.proofs.lemmas.Result.{err_from_is_err_and}
use Rattle.front_cursor.specs.Reading.{here, unread}
use Rattle.front_cursor.proofs.Arms.{expect_stays}
use Rattle.front_cursor.proofs.Steps.{kind_inside, unread_ends}
use Rattle.front_layout.specs.Postfix.{postfix}
use Rattle.front_expressions.specs.Readers.{sum, product as product_tail, operator_of}
use Rattle.front_expressions.proofs.Items.{put_ends}
use Rattle.front_expressions.proofs.Behind.{first_moves, operand_asks, put_room, behind_over}
use Rattle.front_expressions.proofs.Primaries.{behind_refused, primary_refused, parens_full, parens_read}
use Rattle.front_expressions.proofs.Sums.{asks_after, adding_kind, multiplying_kind, relational_kind, logical_kind, denied, affirmed, operand_not}
use Rattle.front_expressions.proofs.Sums.{chained_none, chained_again, chained_further, factor_plain, factor_not, signed_plain}
use Rattle.front_expressions.proofs.Sums.{signed_sign, list_turn, joined_turn, turn_none, turn_then, sum_read}
use Rattle.front_expressions.proofs.Sums.{product_read, relation_plain, relation_compared, expression_plain, expression_chain}
use Rattle.base_codes.specs.Token.{one_of, operands, adding, multiplying, relational, logical}
use Rattle.front_expressions.proofs.+expression.Goals as goal

pub chain-returns-in_err-a : goal.chain-returns-in_err-a
chain-returns-in_err-a t c =
    let p = err_from_is_err_and c.from_residual.result c.from_residual.ensures.1 in
    rw (p.1, p.2) (expression_plain c.in_err-a.ensures (λ z. absurd (unread_ends _ z)))

pub chain-returns-then-not-is_logical : goal.chain-returns-then-not-is_logical
chain-returns-then-not-is_logical t c =
    expression_plain c.in_ok-a.ensures
    (λ z. subst (λ (k : ℕ). one_of k logical ≡ false) c.kind_at-kind.ensures
    (sym c.is_logical.ensures ∙ denied c.is_logical.result c.if-not-is_logical.true-raw))

pub chain-loop-text-init : goal.chain-loop-text-init
chain-loop-text-init t c = chained_none _ (asks_after c.requires.1 c.in_ok-a.ensures.moves)

pub chain-returns-in_err-a-2 : goal.chain-returns-in_err-a-2
chain-returns-in_err-a-2 t c =
    let s = c.args in
    let l = sym c.is_logical.ensures ∙ affirmed c.is_logical.result c.if-not-is_logical.false-raw in
    let p = err_from_is_err_and c.from_residual-in_err-a-2.result c.from_residual-in_err-a-2.ensures.1 in
    rw (p.1, p.2)
    (expression_chain c.kind_at-kind.result l c.in_ok-a.ensures (sym c.kind_at-kind.ensures)
    (chained_again (kind_in s.text.kinds.now s.text.count c.loop-text.a.at) l (eqb-true _ _ (sym c.follows.ensures ∙ c.loop-text-test.true))
    c.loop-text.invariant c.in_err-a-2.ensures).turns (λ z. absurd (unread_ends _ z)))

pub chain-loop-text-smaller : goal.chain-loop-text-smaller
chain-loop-text-smaller t c =
    let s = c.args in
    let o = c.in_ok-a.ensures.moves in
    let i = c.loop-text.invariant.moves in
    let l = sym c.is_logical.ensures ∙ affirmed c.is_logical.result c.if-not-is_logical.false-raw in
    let e = eqb-true _ c.kind_at-kind.result (sym c.follows.ensures ∙ c.loop-text-test.true) in
    let f = chained_further (kind_in s.text.kinds.now s.text.count c.loop-text.a.at) l e c.in_ok-a-2.ensures refl in
    let m = (chained_again (kind_in s.text.kinds.now s.text.count c.loop-text.a.at) l e c.loop-text.invariant c.in_ok-a-2.ensures).moves in
    omega arith

pub chain-loop-text-preserved : goal.chain-loop-text-preserved
chain-loop-text-preserved t c =
    let s = c.args in
    chained_again (kind_in s.text.kinds.now s.text.count c.loop-text.a.at)
    (sym c.is_logical.ensures ∙ affirmed c.is_logical.result c.if-not-is_logical.false-raw)
    (eqb-true _ _ (sym c.follows.ensures ∙ c.loop-text-test.true)) c.loop-text.invariant c.in_ok-a-2.ensures

pub chain-returns : goal.chain-returns
chain-returns t c =
    expression_chain c.kind_at-kind.result
    (sym c.is_logical.ensures ∙ affirmed c.is_logical.result c.if-not-is_logical.false-raw)
    c.in_ok-a.ensures (sym c.kind_at-kind.ensures)
    c.loop-text.invariant.turns (λ z. eqb-false _ _ (sym c.follows.ensures ∙ c.loop-text-test.false))

pub factor-returns-then-is_operand : goal.factor-returns-then-is_operand
factor-returns-then-is_operand t c =
    factor_plain (operand_not _
    (subst (λ (k : ℕ). one_of k operands ≡ true) c.kind_at-kind.ensures
    (sym c.is_operand.ensures ∙ c.if-is_operand.true)))
    (c.leaf.ensures c.args.parens c.requires.0)

pub factor-returns-then-kind-ne-NOT : goal.factor-returns-then-kind-ne-NOT
factor-returns-then-kind-ne-NOT t c =
    factor_plain (λ z. c.if-kind-ne-NOT.true (c.kind_at-kind.ensures ∙ z)) c.parenthesised.ensures

pub factor-returns-in_err-a : goal.factor-returns-in_err-a
factor-returns-in_err-a t c =
    let e = sym c.kind_at-kind.ensures ∙ c.if-kind-ne-NOT.false in
    let p = err_from_is_err_and c.from_residual.result c.from_residual.ensures.1 in
    rw (p.1, p.2)
    (factor_not e (behind_refused primary_part postfix (number no_token) 22 _ _ (lit< tt) c.requires.1 c.requires.0 e c.in_err-a.ensures))

pub factor-primary-requires : goal.factor-primary-requires
factor-primary-requires t c =
    let s = c.args in
    let i = kind_inside s.text.kinds.now s.text.count s.q.at 22 (sym c.kind_at-kind.ensures ∙ c.if-kind-ne-NOT.false) (lit< tt) in
    let q = here s.q in
    let a = operand_asks s.text.count q (here c.in_ok-a.a) q q (flag_in s.text.long.now s.q.at) c.requires.1 i c.in_ok-a.ensures in
    let m = first_moves s.text.count q (here c.in_ok-a.a) q q (flag_in s.text.long.now s.q.at) c.requires.1 i c.in_ok-a.ensures in omega arith

pub factor-returns-in_err-b : goal.factor-returns-in_err-b
factor-returns-in_err-b t c =
    let e = sym c.kind_at-kind.ensures ∙ c.if-kind-ne-NOT.false in
    let p = err_from_is_err_and c.from_residual-in_err-b.result c.from_residual-in_err-b.ensures.1 in
    rw (p.1, p.2)
    (factor_not e (behind_over primary_part postfix 22 (lit< tt) c.requires.1 c.requires.0 e c.in_ok-a.ensures c.in_err-b.ensures (put_ends _ _)))

pub factor-put-requires : goal.factor-put-requires
factor-put-requires t c =
    let s = c.args in
    let i = kind_inside s.text.kinds.now s.text.count s.q.at 22 (sym c.kind_at-kind.ensures ∙ c.if-kind-ne-NOT.false) (lit< tt) in (
      put_room s.text.count (here s.q) (here c.in_ok-a.a) (here c.in_ok-b.b) (here s.q) (flag_in s.text.long.now s.q.at) c.requires.1 i
          c.in_ok-a.ensures c.in_ok-b.ensures.moves refl,
      omega arith,
    )

pub factor-returns : goal.factor-returns
factor-returns t c =
    let e = sym c.kind_at-kind.ensures ∙ c.if-kind-ne-NOT.false in
    factor_not e (behind_over primary_part postfix 22 (lit< tt) c.requires.1 c.requires.0 e c.in_ok-a.ensures c.in_ok-b.ensures c.put.ensures)

pub joined-item-requires : goal.joined-item-requires
joined-item-requires t c =
    let s = c.args in
    let i = kind_inside s.text.kinds.now s.text.count s.q.at (kind_in s.text.kinds.now s.text.count s.q.at) refl (logical_kind _ c.requires.2) in omega arith

pub joined-returns-in_err-a : goal.joined-returns-in_err-a
joined-returns-in_err-a t c =
    let e = sym c.kind_at.ensures in
    let u = subst (λ (k : ℕ). one_of k logical ≡ true) e c.requires.2 in
    let p = err_from_is_err_and c.from_residual.result c.from_residual.ensures.1 in
    rw (p.1, p.2)
    (λ t op. joined_turn c.kind_at.result e c.operation_of-code.ensures u t (subst (operator_of t) e op) (behind_refused relation_part postfix (number no_token) c.kind_at.result _ _ (logical_kind _ u) c.requires.1 c.requires.0 e c.in_err-a.ensures))

pub joined-relation-requires : goal.joined-relation-requires
joined-relation-requires t c =
    let s = c.args in
    let i = kind_inside s.text.kinds.now s.text.count s.q.at (kind_in s.text.kinds.now s.text.count s.q.at) refl (logical_kind _ c.requires.2) in
    let q = here s.q in
    let a = operand_asks s.text.count q (here c.in_ok-a.a) q q (flag_in s.text.long.now s.q.at) c.requires.1 i c.in_ok-a.ensures in
    let m = first_moves s.text.count q (here c.in_ok-a.a) q q (flag_in s.text.long.now s.q.at) c.requires.1 i c.in_ok-a.ensures in omega arith

pub joined-returns-in_err-b : goal.joined-returns-in_err-b
joined-returns-in_err-b t c =
    let e = sym c.kind_at.ensures in
    let u = subst (λ (k : ℕ). one_of k logical ≡ true) e c.requires.2 in
    let p = err_from_is_err_and c.from_residual-in_err-b.result c.from_residual-in_err-b.ensures.1 in
    rw (p.1, p.2)
    (λ t op. joined_turn c.kind_at.result e c.operation_of-code.ensures u t (subst (operator_of t) e op) (behind_over relation_part postfix c.kind_at.result (logical_kind _ u) c.requires.1 c.requires.0 e c.in_ok-a.ensures c.in_err-b.ensures (put_ends _ _)))

pub joined-put-requires : goal.joined-put-requires
joined-put-requires t c =
    let s = c.args in
    let i = kind_inside s.text.kinds.now s.text.count s.q.at (kind_in s.text.kinds.now s.text.count s.q.at) refl (logical_kind _ c.requires.2) in (
      put_room s.text.count (here s.q) (here c.in_ok-a.a) (here c.in_ok-b.b) (here s.q) (flag_in s.text.long.now s.q.at) c.requires.1 i
          c.in_ok-a.ensures c.in_ok-b.ensures.moves refl,
      omega arith,
    )

pub joined-returns : goal.joined-returns
joined-returns t c =
    let e = sym c.kind_at.ensures in
    let u = subst (λ (k : ℕ). one_of k logical ≡ true) e c.requires.2 in
    λ t op. joined_turn c.kind_at.result e c.operation_of-code.ensures u t (subst (operator_of t) e op) (behind_over relation_part postfix c.kind_at.result (logical_kind _ u) c.requires.1 c.requires.0 e c.in_ok-a.ensures c.in_ok-b.ensures c.put.ensures)

pub multiplied-item-requires : goal.multiplied-item-requires
multiplied-item-requires t c =
    let s = c.args in
    let i = kind_inside s.text.kinds.now s.text.count s.q.at (kind_in s.text.kinds.now s.text.count s.q.at) refl (multiplying_kind _ c.requires.2) in omega arith

pub multiplied-returns-in_err-a : goal.multiplied-returns-in_err-a
multiplied-returns-in_err-a t c =
    let e = sym c.kind_at.ensures in
    let u = subst (λ (k : ℕ). one_of k multiplying ≡ true) e c.requires.2 in
    let p = err_from_is_err_and c.from_residual.result c.from_residual.ensures.1 in
    rw (p.1, p.2)
    (list_turn c.kind_at.result e c.operation_of-code.ensures product_tail u (behind_refused factor_part postfix (number no_token) c.kind_at.result _ _ (multiplying_kind _ u) c.requires.1 c.requires.0 e c.in_err-a.ensures))

pub multiplied-factor-requires : goal.multiplied-factor-requires
multiplied-factor-requires t c =
    let s = c.args in
    let i = kind_inside s.text.kinds.now s.text.count s.q.at (kind_in s.text.kinds.now s.text.count s.q.at) refl (multiplying_kind _ c.requires.2) in
    let q = here s.q in
    let a = operand_asks s.text.count q (here c.in_ok-a.a) q q (flag_in s.text.long.now s.q.at) c.requires.1 i c.in_ok-a.ensures in
    let m = first_moves s.text.count q (here c.in_ok-a.a) q q (flag_in s.text.long.now s.q.at) c.requires.1 i c.in_ok-a.ensures in omega arith

pub multiplied-returns-in_err-b : goal.multiplied-returns-in_err-b
multiplied-returns-in_err-b t c =
    let e = sym c.kind_at.ensures in
    let u = subst (λ (k : ℕ). one_of k multiplying ≡ true) e c.requires.2 in
    let p = err_from_is_err_and c.from_residual-in_err-b.result c.from_residual-in_err-b.ensures.1 in
    rw (p.1, p.2)
    (list_turn c.kind_at.result e c.operation_of-code.ensures product_tail u (behind_over factor_part postfix c.kind_at.result (multiplying_kind _ u) c.requires.1 c.requires.0 e c.in_ok-a.ensures c.in_err-b.ensures (put_ends _ _)))

pub multiplied-put-requires : goal.multiplied-put-requires
multiplied-put-requires t c =
    let s = c.args in
    let i = kind_inside s.text.kinds.now s.text.count s.q.at (kind_in s.text.kinds.now s.text.count s.q.at) refl (multiplying_kind _ c.requires.2) in (
      put_room s.text.count (here s.q) (here c.in_ok-a.a) (here c.in_ok-b.b) (here s.q) (flag_in s.text.long.now s.q.at) c.requires.1 i
          c.in_ok-a.ensures c.in_ok-b.ensures.moves refl,
      omega arith,
    )

pub multiplied-returns : goal.multiplied-returns
multiplied-returns t c =
    let e = sym c.kind_at.ensures in
    let u = subst (λ (k : ℕ). one_of k multiplying ≡ true) e c.requires.2 in
    list_turn c.kind_at.result e c.operation_of-code.ensures product_tail u (behind_over factor_part postfix c.kind_at.result (multiplying_kind _ u) c.requires.1 c.requires.0 e c.in_ok-a.ensures c.in_ok-b.ensures c.put.ensures)

pub parenthesised-returns-then-kind_at-ne-LP : goal.parenthesised-returns-then-kind_at-ne-LP
parenthesised-returns-then-kind_at-ne-LP t c =
    primary_refused c.requires.1 c.requires.0
    refl _ (λ z. c.if-kind_at-ne-LP.true (c.kind_at.ensures ∙ z))
    c.requires.2

pub parenthesised-returns-then-parens-ge-PARENTHESES : goal.parenthesised-returns-then-parens-ge-PARENTHESES
parenthesised-returns-then-parens-ge-PARENTHESES t c =
    parens_full c.requires.1 c.requires.0
    refl _ c.if-parens-ge-PARENTHESES.true (sym c.kind_at.ensures ∙ c.if-kind_at-ne-LP.false)

pub parenthesised-returns-in_err-b : goal.parenthesised-returns-in_err-b
parenthesised-returns-in_err-b t c =
    let p = err_from_is_err_and c.from_residual.result c.from_residual.ensures.1 in
    rw (p.1, p.2)
    (parens_read c.requires.1 c.requires.0 refl c.if-parens-ge-PARENTHESES.false
    (sym c.kind_at.ensures ∙ c.if-kind_at-ne-LP.false) _ _ _ refl
    c.in_err-b.ensures (expect_stays (unread _) _ _ (unread_ends _)))

pub parenthesised-returns : goal.parenthesised-returns
parenthesised-returns t c =
    parens_read c.requires.1 c.requires.0 refl c.if-parens-ge-PARENTHESES.false
    (sym c.kind_at.ensures ∙ c.if-kind_at-ne-LP.false) _ _ _ refl
    c.in_ok-b.ensures c.expect.ensures

pub product-returns-in_err-a : goal.product-returns-in_err-a
product-returns-in_err-a t c =
    let p = err_from_is_err_and c.from_residual.result c.from_residual.ensures.1 in
    rw (p.1, p.2)
    (product_read c.in_err-a.ensures (turn_none product_tail _ (asks_after c.requires.1 c.in_err-a.ensures.moves)) (λ z. absurd (unread_ends _ z)))

pub product-loop-text-init : goal.product-loop-text-init
product-loop-text-init t c = turn_none product_tail _ (asks_after c.requires.1 c.in_ok-a.ensures.moves)

pub product-returns-in_err-a-2 : goal.product-returns-in_err-a-2
product-returns-in_err-a-2 t c =
    let p = err_from_is_err_and c.from_residual-in_err-a-2.result c.from_residual-in_err-a-2.ensures.1 in
    rw (p.1, p.2)
    (product_read c.in_ok-a.ensures (turn_then c.loop-text.invariant c.in_err-a-2.ensures.turn) (λ z. absurd (unread_ends _ z)))

pub product-loop-text-preserved : goal.product-loop-text-preserved
product-loop-text-preserved t c = turn_then c.loop-text.invariant c.in_ok-a-2.ensures.turn

pub product-returns : goal.product-returns
product-returns t c =
    product_read c.in_ok-a.ensures c.loop-text.invariant
    (λ z w. let x : true ≡ false = sym w ∙ (subst (λ (k : ℕ). one_of k multiplying ≡ false) c.kind_at.ensures (sym c.is_multiplying.ensures ∙ c.loop-text-test.false)) in
    let y : ◌≡◌ {A = ℕ} 0 1 = cc in omega arith)

pub relation-returns-in_err-a : goal.relation-returns-in_err-a
relation-returns-in_err-a t c =
    let p = err_from_is_err_and c.from_residual.result c.from_residual.ensures.1 in
    rw (p.1, p.2) (relation_plain c.in_err-a.ensures (λ z. absurd (unread_ends _ z)))

pub relation-item-requires : goal.relation-item-requires
relation-item-requires t c =
    let s = c.args in
    let o = c.in_ok-a.ensures.moves in
    let i = kind_inside s.text.kinds.now s.text.count c.in_ok-a.a.at c.kind_at-kind.result (sym c.kind_at-kind.ensures) (relational_kind _ (sym c.is_relational.ensures ∙ c.if-is_relational.true)) in omega arith

pub relation-returns-in_err-b : goal.relation-returns-in_err-b
relation-returns-in_err-b t c =
    let e = sym c.kind_at-kind.ensures in
    let w = sym c.is_relational.ensures ∙ c.if-is_relational.true in
    let p = err_from_is_err_and c.from_residual-in_err-b.result c.from_residual-in_err-b.ensures.1 in
    rw (p.1, p.2)
    (relation_compared c.kind_at-kind.result c.in_ok-a.ensures w e c.operation_of-code.ensures
    (behind_refused simple_part postfix (number no_token) c.kind_at-kind.result _ _ (relational_kind _ w)
    (asks_after c.requires.1 c.in_ok-a.ensures.moves) c.requires.0 e c.in_err-b.ensures))

pub relation-simple-requires-then-is_relational : goal.relation-simple-requires-then-is_relational
relation-simple-requires-then-is_relational t c =
    let s = c.args in
    let i = kind_inside s.text.kinds.now s.text.count c.in_ok-a.a.at c.kind_at-kind.result (sym c.kind_at-kind.ensures) (relational_kind _ (sym c.is_relational.ensures ∙ c.if-is_relational.true)) in
    let p = here c.in_ok-a.a in
    let h = asks_after c.requires.1 c.in_ok-a.ensures.moves in
    let a = operand_asks s.text.count p (here c.in_ok-b.b) p p (flag_in s.text.long.now c.in_ok-a.a.at) h i c.in_ok-b.ensures in
    let m = first_moves s.text.count p (here c.in_ok-b.b) p p (flag_in s.text.long.now c.in_ok-a.a.at) h i c.in_ok-b.ensures in
    let o = c.in_ok-a.ensures.moves in omega arith

pub relation-returns-in_err-c : goal.relation-returns-in_err-c
relation-returns-in_err-c t c =
    let e = sym c.kind_at-kind.ensures in
    let w = sym c.is_relational.ensures ∙ c.if-is_relational.true in
    let p = err_from_is_err_and c.from_residual-in_err-c.result c.from_residual-in_err-c.ensures.1 in
    rw (p.1, p.2)
    (relation_compared c.kind_at-kind.result c.in_ok-a.ensures w e c.operation_of-code.ensures
    (behind_over simple_part postfix c.kind_at-kind.result (relational_kind _ w)
    (asks_after c.requires.1 c.in_ok-a.ensures.moves) c.requires.0 e c.in_ok-b.ensures c.in_err-c.ensures (put_ends _ _)))

pub relation-put-requires : goal.relation-put-requires
relation-put-requires t c =
    let s = c.args in
    let h = c.requires.1 in
    let o = c.in_ok-a.ensures.moves in
    let i = kind_inside s.text.kinds.now s.text.count c.in_ok-a.a.at c.kind_at-kind.result (sym c.kind_at-kind.ensures) (relational_kind _ (sym c.is_relational.ensures ∙ c.if-is_relational.true)) in (
      put_room s.text.count (here c.in_ok-a.a) (here c.in_ok-b.b) (here c.in_ok-c.c) (here s.q) (flag_in s.text.long.now c.in_ok-a.a.at)
          (asks_after c.requires.1 c.in_ok-a.ensures.moves) i c.in_ok-b.ensures c.in_ok-c.ensures.moves refl,
      omega arith,
    )

pub relation-returns-then-is_relational : goal.relation-returns-then-is_relational
relation-returns-then-is_relational t c =
    let e = sym c.kind_at-kind.ensures in
    let w = sym c.is_relational.ensures ∙ c.if-is_relational.true in
    relation_compared c.kind_at-kind.result c.in_ok-a.ensures w e c.operation_of-code.ensures
    (behind_over simple_part postfix c.kind_at-kind.result (relational_kind _ w)
    (asks_after c.requires.1 c.in_ok-a.ensures.moves) c.requires.0 e c.in_ok-b.ensures c.in_ok-c.ensures c.put.ensures)

pub relation-returns : goal.relation-returns
relation-returns t c =
    relation_plain c.in_ok-a.ensures
    (λ z. subst (λ (k : ℕ). one_of k relational ≡ false) c.kind_at-kind.ensures (sym c.is_relational.ensures ∙ c.if-is_relational.false))

pub signed-returns-then-kind_at-ne-MINUS : goal.signed-returns-then-kind_at-ne-MINUS
signed-returns-then-kind_at-ne-MINUS t c = signed_plain (λ z. c.if-kind_at-ne-MINUS.true (c.kind_at.ensures ∙ z)) c.product.ensures

pub signed-returns-in_err-a : goal.signed-returns-in_err-a
signed-returns-in_err-a t c =
    let e = sym c.kind_at.ensures ∙ c.if-kind_at-ne-MINUS.false in
    let p = err_from_is_err_and c.from_residual.result c.from_residual.ensures.1 in
    rw (p.1, p.2)
    (signed_sign e (behind_refused term_part postfix (number no_token) 12 _ _ (lit< tt) c.requires.1 c.requires.0 e c.in_err-a.ensures))

pub signed-product-requires-2 : goal.signed-product-requires-2
signed-product-requires-2 t c =
    let s = c.args in
    let i = kind_inside s.text.kinds.now s.text.count s.q.at 12 (sym c.kind_at.ensures ∙ c.if-kind_at-ne-MINUS.false) (lit< tt) in
    let q = here s.q in
    let a = operand_asks s.text.count q (here c.in_ok-a.a) q q (flag_in s.text.long.now s.q.at) c.requires.1 i c.in_ok-a.ensures in
    let m = first_moves s.text.count q (here c.in_ok-a.a) q q (flag_in s.text.long.now s.q.at) c.requires.1 i c.in_ok-a.ensures in omega arith

pub signed-returns-in_err-whole : goal.signed-returns-in_err-whole
signed-returns-in_err-whole t c =
    let e = sym c.kind_at.ensures ∙ c.if-kind_at-ne-MINUS.false in
    let p = err_from_is_err_and c.from_residual-in_err-whole.result c.from_residual-in_err-whole.ensures.1 in
    rw (p.1, p.2)
    (signed_sign e (behind_over term_part postfix 12 (lit< tt) c.requires.1 c.requires.0 e c.in_ok-a.ensures c.in_err-whole.ensures (put_ends _ _)))

pub signed-put-requires : goal.signed-put-requires
signed-put-requires t c =
    let s = c.args in
    let i = kind_inside s.text.kinds.now s.text.count s.q.at 12 (sym c.kind_at.ensures ∙ c.if-kind_at-ne-MINUS.false) (lit< tt) in (
      put_room s.text.count (here s.q) (here c.in_ok-a.a) (here c.in_ok-whole.whole) (here s.q) (flag_in s.text.long.now s.q.at) c.requires.1 i
          c.in_ok-a.ensures c.in_ok-whole.ensures.moves refl,
      omega arith,
    )

pub signed-returns : goal.signed-returns
signed-returns t c =
    let e = sym c.kind_at.ensures ∙ c.if-kind_at-ne-MINUS.false in
    signed_sign e (behind_over term_part postfix 12 (lit< tt) c.requires.1 c.requires.0 e c.in_ok-a.ensures c.in_ok-whole.ensures c.put.ensures)

pub simple-returns-in_err-a : goal.simple-returns-in_err-a
simple-returns-in_err-a t c =
    let p = err_from_is_err_and c.from_residual.result c.from_residual.ensures.1 in
    rw (p.1, p.2)
    (sum_read c.in_err-a.ensures (turn_none sum _ (asks_after c.requires.1 c.in_err-a.ensures.moves)) (λ z. absurd (unread_ends _ z)))

pub simple-loop-text-init : goal.simple-loop-text-init
simple-loop-text-init t c = turn_none sum _ (asks_after c.requires.1 c.in_ok-a.ensures.moves)

pub simple-returns-in_err-a-2 : goal.simple-returns-in_err-a-2
simple-returns-in_err-a-2 t c =
    let p = err_from_is_err_and c.from_residual-in_err-a-2.result c.from_residual-in_err-a-2.ensures.1 in
    rw (p.1, p.2)
    (sum_read c.in_ok-a.ensures (turn_then c.loop-text.invariant c.in_err-a-2.ensures.turn) (λ z. absurd (unread_ends _ z)))

pub simple-loop-text-preserved : goal.simple-loop-text-preserved
simple-loop-text-preserved t c = turn_then c.loop-text.invariant c.in_ok-a-2.ensures.turn

pub simple-returns : goal.simple-returns
simple-returns t c =
    sum_read c.in_ok-a.ensures c.loop-text.invariant
    (λ z w. let x : true ≡ false = sym w ∙ (subst (λ (k : ℕ). one_of k adding ≡ false) c.kind_at.ensures (sym c.is_adding.ensures ∙ c.loop-text-test.false)) in
    let y : ◌≡◌ {A = ℕ} 0 1 = cc in omega arith)

pub term-item-requires : goal.term-item-requires
term-item-requires t c =
    let s = c.args in
    let i = kind_inside s.text.kinds.now s.text.count s.q.at (kind_in s.text.kinds.now s.text.count s.q.at) refl (adding_kind _ c.requires.2) in omega arith

pub term-returns-in_err-a : goal.term-returns-in_err-a
term-returns-in_err-a t c =
    let e = sym c.kind_at.ensures in
    let u = subst (λ (k : ℕ). one_of k adding ≡ true) e c.requires.2 in
    let p = err_from_is_err_and c.from_residual.result c.from_residual.ensures.1 in
    rw (p.1, p.2)
    (list_turn c.kind_at.result e c.operation_of-code.ensures sum u (behind_refused term_part postfix (number no_token) c.kind_at.result _ _ (adding_kind _ u) c.requires.1 c.requires.0 e c.in_err-a.ensures))

pub term-product-requires : goal.term-product-requires
term-product-requires t c =
    let s = c.args in
    let i = kind_inside s.text.kinds.now s.text.count s.q.at (kind_in s.text.kinds.now s.text.count s.q.at) refl (adding_kind _ c.requires.2) in
    let q = here s.q in
    let a = operand_asks s.text.count q (here c.in_ok-a.a) q q (flag_in s.text.long.now s.q.at) c.requires.1 i c.in_ok-a.ensures in
    let m = first_moves s.text.count q (here c.in_ok-a.a) q q (flag_in s.text.long.now s.q.at) c.requires.1 i c.in_ok-a.ensures in omega arith

pub term-returns-in_err-b : goal.term-returns-in_err-b
term-returns-in_err-b t c =
    let e = sym c.kind_at.ensures in
    let u = subst (λ (k : ℕ). one_of k adding ≡ true) e c.requires.2 in
    let p = err_from_is_err_and c.from_residual-in_err-b.result c.from_residual-in_err-b.ensures.1 in
    rw (p.1, p.2)
    (list_turn c.kind_at.result e c.operation_of-code.ensures sum u (behind_over term_part postfix c.kind_at.result (adding_kind _ u) c.requires.1 c.requires.0 e c.in_ok-a.ensures c.in_err-b.ensures (put_ends _ _)))

pub term-put-requires : goal.term-put-requires
term-put-requires t c =
    let s = c.args in
    let i = kind_inside s.text.kinds.now s.text.count s.q.at (kind_in s.text.kinds.now s.text.count s.q.at) refl (adding_kind _ c.requires.2) in (
      put_room s.text.count (here s.q) (here c.in_ok-a.a) (here c.in_ok-b.b) (here s.q) (flag_in s.text.long.now s.q.at) c.requires.1 i
          c.in_ok-a.ensures c.in_ok-b.ensures.moves refl,
      omega arith,
    )

pub term-returns : goal.term-returns
term-returns t c =
    let e = sym c.kind_at.ensures in
    let u = subst (λ (k : ℕ). one_of k adding ≡ true) e c.requires.2 in
    list_turn c.kind_at.result e c.operation_of-code.ensures sum u (behind_over term_part postfix c.kind_at.result (adding_kind _ u) c.requires.1 c.requires.0 e c.in_ok-a.ensures c.in_ok-b.ensures c.put.ensures)
