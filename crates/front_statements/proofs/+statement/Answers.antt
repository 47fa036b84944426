-- The proof of the cycle of calls of the readers of statements. The measure is the tokens left, 8 for each, and a number for the level, so that it
-- falls at a call at the same token too. Each return is one lemma of `Bodies` or `Nested`. Assumes nothing.
use mathlib.Core.Path.{refl, sym, ◌∙◌, ap}
use native.Mathlib.Omega.{arith}
use lib.Dec.{lit<}
use Rattle.std.proofs.lemmas.Result.{err_from_is_err_and}
use Rattle.front_cursor.proofs.Steps.{kind_inside, unread_ends, expect_ended}
use Rattle.front_statements.specs.Listings.{is_start}
use Rattle.front_statements.proofs.Steps.{cursor_asks, asks_listing, stepped_asks, took_steps, statement_halted, lines_halted}
use Rattle.front_statements.proofs.Bodies.{statement_refused, further_none, further_again, body_read, body_ended}
use Rattle.front_statements.proofs.Nested.{else_none, else_ended, else_read, if_refused, if_read, while_refused, while_read}
use Rattle.front_statements.proofs.+statement.Goals as goal

pub statement_list-returns-in_err-a : goal.statement_list-returns-in_err-a
statement_list-returns-in_err-a t c =
    let p = err_from_is_err_and c.from_residual.result c.from_residual.ensures.1 in
    rw (p.1, p.2)
    (body_read c.in_err-a.ensures (further_none _ (asks_listing c.requires.1 c.in_err-a.ensures.moves)) (λ z. absurd (unread_ends _ z)))

pub statement_list-loop-text-init : goal.statement_list-loop-text-init
statement_list-loop-text-init t c = further_none _ (asks_listing c.requires.1 c.in_ok-a.ensures.moves)

pub statement_list-statement-requires-in-loop-text : goal.statement_list-statement-requires-in-loop-text
statement_list-statement-requires-in-loop-text t c =
    let o = c.in_ok-a.ensures.moves in
    let i = c.loop-text.invariant.moves in (
      omega arith,
      (c.requires.0, asks_listing (asks_listing c.requires.1 c.in_ok-a.ensures.moves) c.loop-text.invariant.moves),
    )

pub statement_list-returns-in_err-a-2 : goal.statement_list-returns-in_err-a-2
statement_list-returns-in_err-a-2 t c =
    let p = err_from_is_err_and c.from_residual-in_err-a-2.result c.from_residual-in_err-a-2.ensures.1 in
    rw (p.1, p.2)
    (lines_halted c.loop-text.a.statements _ c.requires.1 (body_read c.in_ok-a.ensures
    (further_again c.loop-text.invariant (sym (ap is_start c.kind_at.ensures) ∙ (sym c.begins_statement.ensures ∙ c.loop-text-test.true)) c.in_err-a-2.ensures)
    (λ z. absurd (unread_ends _ z))))

pub statement_list-loop-text-smaller : goal.statement_list-loop-text-smaller
statement_list-loop-text-smaller t c =
    let o = c.in_ok-a.ensures.moves in
    let i = c.loop-text.invariant.moves in
    let m = c.in_ok-a-2.ensures.moves in
    let f = c.in_ok-a-2.ensures.further refl in
    omega arith

pub statement_list-loop-text-preserved : goal.statement_list-loop-text-preserved
statement_list-loop-text-preserved t c =
    further_again c.loop-text.invariant (sym (ap is_start c.kind_at.ensures) ∙ (sym c.begins_statement.ensures ∙ c.loop-text-test.true)) c.in_ok-a-2.ensures

pub statement_list-returns : goal.statement_list-returns
statement_list-returns t c =
    body_read c.in_ok-a.ensures c.loop-text.invariant
    (λ z. sym (ap is_start c.kind_at.ensures) ∙ (sym c.begins_statement.ensures ∙ c.loop-text-test.false))

pub else_part-returns-then-kind_at-ne-ELSE : goal.else_part-returns-then-kind_at-ne-ELSE
else_part-returns-then-kind_at-ne-ELSE t c = else_none _ c.requires.1 (λ z. c.if-kind_at-ne-ELSE.true (c.kind_at.ensures ∙ z))

pub else_part-returns-in_err-e : goal.else_part-returns-in_err-e
else_part-returns-in_err-e t c =
    let s = c.args in
    let h = c.requires.1 in
    let u = took_steps s.text.kinds.now s.text.long.now 39 (lit< tt) h c.in_err-e.ensures in
    let p = err_from_is_err_and c.from_residual.result c.from_residual.ensures.1 in
    rw (p.1, p.2)
    (else_read h (sym c.kind_at.ensures ∙ c.if-kind_at-ne-ELSE.false) c.in_err-e.ensures (body_ended _ (stepped_asks h u.steps) (unread_ends _)))

pub else_part-statement_list-requires : goal.else_part-statement_list-requires
else_part-statement_list-requires t c =
    let s = c.args in
    let h = c.requires.1 in
    let u = took_steps s.text.kinds.now s.text.long.now 39 (lit< tt) h c.in_ok-e.ensures in
    let m = u.steps.moves in
    let t0 = c.decreases in
    (omega arith, (c.requires.0, stepped_asks h u.steps))

pub else_part-returns : goal.else_part-returns
else_part-returns t c =
    else_read c.requires.1 (sym c.kind_at.ensures ∙ c.if-kind_at-ne-ELSE.false) c.in_ok-e.ensures c.statement_list.ensures

pub if_statement-opening-requires : goal.if_statement-opening-requires
if_statement-opening-requires t c =
    let s = c.args in
    (c.requires.1, kind_inside s.text.kinds.now s.text.count s.p.cursor.at 37 c.requires.2 (lit< tt), lit< tt, c.requires.2)

pub if_statement-returns-in_err-o : goal.if_statement-returns-in_err-o
if_statement-returns-in_err-o t c =
    let p = err_from_is_err_and c.from_residual.result c.from_residual.ensures.1 in
    rw (p.1, p.2) (if_refused _ c.requires.2 c.in_err-o.ensures (unread_ends _))

pub if_statement-statement_list-requires : goal.if_statement-statement_list-requires
if_statement-statement_list-requires t c =
    let op = c.in_ok-o.ensures in
    let h = asks_listing op.asks op.moves in
    let x = op.opened refl in
    let f = x.further in
    let d = x.shallow in
    let t0 = c.decreases in
    (omega arith, (omega arith, h))

pub if_statement-returns-in_err-c : goal.if_statement-returns-in_err-c
if_statement-returns-in_err-c t c =
    let s = c.args in
    let e = c.in_err-c.field-0.0 in
    let op = c.in_ok-o.ensures in
    let hc = asks_listing (asks_listing op.asks op.moves) c.in_err-c.ensures.moves in
    let p = err_from_is_err_and c.from_residual-in_err-c.result c.from_residual-in_err-c.ensures.1 in
    rw (p.1, p.2)
    (statement_halted c.in_ok-o.o.listing.statements e c.requires.1
    (if_read op.first op c.in_err-c.ensures (else_ended _ hc (unread_ends e))
    (expect_ended s.text.kinds.now s.text.long.now s.text.count 26 e) (expect_ended s.text.kinds.now s.text.long.now s.text.count 37 e) (expect_ended s.text.kinds.now s.text.long.now s.text.count 7 e)
    (λ z. absurd (unread_ends e z))))

pub if_statement-else_part-requires : goal.if_statement-else_part-requires
if_statement-else_part-requires t c =
    let op = c.in_ok-o.ensures in
    let h = asks_listing op.asks op.moves in
    let x = op.opened refl in
    let mb = c.in_ok-c.ensures.moves in
    let f = x.further in
    let d = x.shallow in
    let t0 = c.decreases in
    (omega arith, (omega arith, asks_listing h mb))

pub if_statement-returns-in_err-d : goal.if_statement-returns-in_err-d
if_statement-returns-in_err-d t c =
    let s = c.args in
    let e = c.in_err-d.field-0.0 in
    let op = c.in_ok-o.ensures in
    let p = err_from_is_err_and c.from_residual-in_err-d.result c.from_residual-in_err-d.ensures.1 in
    rw (p.1, p.2)
    (statement_halted c.in_ok-c.c.statements e c.requires.1
    (if_read op.first op c.in_ok-c.ensures c.in_err-d.ensures
    (expect_ended s.text.kinds.now s.text.long.now s.text.count 26 e) (expect_ended s.text.kinds.now s.text.long.now s.text.count 37 e) (expect_ended s.text.kinds.now s.text.long.now s.text.count 7 e)
    (λ z. absurd (unread_ends e z))))

pub if_statement-end_of-requires : goal.if_statement-end_of-requires
if_statement-end_of-requires t c =
    let op = c.in_ok-o.ensures in
    let h = asks_listing op.asks op.moves in
    (lit< tt, cursor_asks (asks_listing (asks_listing h c.in_ok-c.ensures.moves) c.in_ok-d.ensures.moves))

pub if_statement-returns-in_err-i : goal.if_statement-returns-in_err-i
if_statement-returns-in_err-i t c =
    let op = c.in_ok-o.ensures in
    let p = err_from_is_err_and c.from_residual-in_err-i.result c.from_residual-in_err-i.ensures.1 in
    rw (p.1, p.2)
    (statement_halted c.in_ok-d.d.statements _ c.requires.1
    (if_read op.first op c.in_ok-c.ensures c.in_ok-d.ensures refl refl c.in_err-i.ensures (λ z. absurd (unread_ends _ z))))

pub if_statement-finish-requires : goal.if_statement-finish-requires
if_statement-finish-requires t c =
    let op = c.in_ok-o.ensures in
    let a = op.asks in
    let m = op.moves in
    let x = op.opened refl in
    let e = x.one in
    let w = x.written in
    let mb = c.in_ok-c.ensures.moves in
    let md = c.in_ok-d.ensures.moves in (
      omega arith,
      record {
        index_fits = omega arith;
        from_fits = omega arith;
        to_fits = omega arith;
        other_fits = omega arith;
        end_fits = omega arith;
      },
    )

pub if_statement-returns : goal.if_statement-returns
if_statement-returns t c =
    let op = c.in_ok-o.ensures in
    if_read op.first op c.in_ok-c.ensures c.in_ok-d.ensures refl refl c.in_ok-i.ensures (λ z. c.finish.ensures)

pub statement-returns-in-34 : goal.statement-returns-in-34
statement-returns-in-34 t c = c.null_statement.ensures _

pub statement-returns-in-35 : goal.statement-returns-in-35
statement-returns-in-35 t c = c.wait_statement.ensures _

pub statement-returns-in_default : goal.statement-returns-in_default
statement-returns-in_default t c =
    statement_refused _ c.kind_at.result c.requires.1 refl (sym c.kind_at.ensures)
    (λ z. omega arith) (λ z. omega arith) (λ z. omega arith) (λ z. omega arith) (λ z. omega arith)

pub while_statement-opening-requires : goal.while_statement-opening-requires
while_statement-opening-requires t c =
    let s = c.args in
    (c.requires.1, kind_inside s.text.kinds.now s.text.count s.p.cursor.at 40 c.requires.2 (lit< tt), lit< tt, c.requires.2)

pub while_statement-returns-in_err-o : goal.while_statement-returns-in_err-o
while_statement-returns-in_err-o t c =
    let p = err_from_is_err_and c.from_residual.result c.from_residual.ensures.1 in
    rw (p.1, p.2) (while_refused _ c.requires.2 c.in_err-o.ensures (unread_ends _))

pub while_statement-statement_list-requires : goal.while_statement-statement_list-requires
while_statement-statement_list-requires t c =
    let op = c.in_ok-o.ensures in
    let h = asks_listing op.asks op.moves in
    let x = op.opened refl in
    let f = x.further in
    let d = x.shallow in
    let t0 = c.decreases in
    (omega arith, (omega arith, h))

pub while_statement-returns-in_err-c : goal.while_statement-returns-in_err-c
while_statement-returns-in_err-c t c =
    let s = c.args in
    let e = c.in_err-c.field-0.0 in
    let op = c.in_ok-o.ensures in
    let p = err_from_is_err_and c.from_residual-in_err-c.result c.from_residual-in_err-c.ensures.1 in
    rw (p.1, p.2)
    (statement_halted c.in_ok-o.o.listing.statements e c.requires.1
    (while_read op.first op c.in_err-c.ensures
    (expect_ended s.text.kinds.now s.text.long.now s.text.count 26 e) (expect_ended s.text.kinds.now s.text.long.now s.text.count 41 e) (expect_ended s.text.kinds.now s.text.long.now s.text.count 7 e)
    (λ z. absurd (unread_ends e z))))

pub while_statement-end_of-requires : goal.while_statement-end_of-requires
while_statement-end_of-requires t c =
    let op = c.in_ok-o.ensures in
    let h = asks_listing op.asks op.moves in
    (lit< tt, cursor_asks (asks_listing h c.in_ok-c.ensures.moves))

pub while_statement-returns-in_err-i : goal.while_statement-returns-in_err-i
while_statement-returns-in_err-i t c =
    let op = c.in_ok-o.ensures in
    let p = err_from_is_err_and c.from_residual-in_err-i.result c.from_residual-in_err-i.ensures.1 in
    rw (p.1, p.2)
    (statement_halted c.in_ok-c.c.statements _ c.requires.1
    (while_read op.first op c.in_ok-c.ensures refl refl c.in_err-i.ensures (λ z. absurd (unread_ends _ z))))

pub while_statement-finish-requires : goal.while_statement-finish-requires
while_statement-finish-requires t c =
    let op = c.in_ok-o.ensures in
    let a = op.asks in
    let m = op.moves in
    let x = op.opened refl in
    let e = x.one in
    let w = x.written in
    let mb = c.in_ok-c.ensures.moves in (
      omega arith,
      record {
        index_fits = omega arith;
        from_fits = omega arith;
        to_fits = omega arith;
        other_fits = omega arith;
        end_fits = omega arith;
      },
    )

pub while_statement-returns : goal.while_statement-returns
while_statement-returns t c =
    let op = c.in_ok-o.ensures in
    while_read op.first op c.in_ok-c.ensures refl refl c.in_ok-i.ensures (λ z. c.finish.ensures)
