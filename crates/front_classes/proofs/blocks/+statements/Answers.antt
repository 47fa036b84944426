-- The cycle of calls over statements in statements: each return is one lemma of `Steps`. Assumes nothing.
use Rattle.std.proofs.Common.{sym, ◌∙◌, arith}
use Rattle.front_classes.proofs.Steps.{if_is, while_is, wait_is, plain_is, resting_first, resting_again, resting_stop}
use Rattle.front_classes.proofs.blocks.+statements.Goals as goal

pub block-loop-at-init : goal.block-loop-at-init
block-loop-at-init t c = resting_first c.requires.0

pub block-statement-s-requires : goal.block-statement-s-requires
block-statement-s-requires t c =
    let k = c.loop-at.invariant in
    omega arith

pub block-loop-at-preserved : goal.block-loop-at-preserved
block-loop-at-preserved t c = resting_again c.loop-at.invariant c.loop-at-test.true (c.clamp-end.ensures ∙ rw c.number.ensures)
    c.statement-s.ensures c.sequence_class-class.ensures c.lower-lowest.ensures

pub block-returns : goal.block-returns
block-returns t c = resting_stop c.loop-at.invariant c.loop-at-test.false

pub if_statement-block-a-requires : goal.if_statement-block-a-requires
if_statement-block-a-requires t c = omega arith

pub if_statement-block-b-requires : goal.if_statement-block-b-requires
if_statement-block-b-requires t c = omega arith

pub if_statement-returns : goal.if_statement-returns
if_statement-returns t c = if_is c.requires.0 c.requires.2 (c.clamp-other.ensures ∙ rw c.number.ensures) c.block-a.ensures
    c.block-b.ensures c.if_class.ensures c.lower.ensures

pub statement-if_statement-requires : goal.statement-if_statement-requires
statement-if_statement-requires t c = omega arith

pub statement-while_statement-requires : goal.statement-while_statement-requires
statement-while_statement-requires t c = omega arith

pub statement-returns-in-0 : goal.statement-returns-in-0
statement-returns-in-0 t c = wait_is (sym c.number.ensures ∙ c.in-0.is)

pub statement-returns-in_default : goal.statement-returns-in_default
statement-returns-in_default t c = plain_is (λ z. omega arith) (λ z. omega arith) (λ z. omega arith)

pub while_statement-block-body-requires : goal.while_statement-block-body-requires
while_statement-block-body-requires t c = omega arith

pub while_statement-returns : goal.while_statement-returns
while_statement-returns t c = while_is c.requires.0 c.requires.2 c.block-body.ensures
    (c.place_at-place.ensures ∙ rw c.number-i.ensures) c.body_allowed.ensures c.offence-own.ensures c.while_class.ensures
    c.lower.ensures
