-- `front_statements::opening` meets its contract: the first token, the condition and the word behind it, or a refusal. Assumes nothing.
use lib.Dec.{lit≤}
use Rattle.std.proofs.lemmas.Result.{err_from_is_err_and}
use Rattle.front_layout.specs.Tokens.{flag_in}
use Rattle.front_cursor.proofs.Steps.{unread_ends, expect_ended}
use Rattle.front_statements.specs.Listings.{listing_here}
use Rattle.front_statements.proofs.Steps.{cursor_asks, asks_listing, stepped_asks, begin_steps, opening_halted}
use Rattle.front_statements.proofs.Assignments.{expression_moves}
use Rattle.front_statements.proofs.Nested.{opening_refused, opening_read}
use Rattle.front_statements.proofs.opening.Goals as goal

pub returns-in_err-a : goal.returns-in_err-a
returns-in_err-a c =
    let p = err_from_is_err_and c.from_residual.result c.from_residual.ensures.1 in
    rw (p.1, p.2) (opening_refused _ 0 _ c.requires.3 c.requires.0 c.requires.1 c.in_err-a.ensures (unread_ends _))

pub expression-requires : goal.expression-requires
expression-requires c =
    let s = c.args in
    let q = listing_here s.p in
    let b = begin_steps {p = q} (flag_in s.text.long.now s.p.cursor.at) s.depth 0 c.requires.0 c.requires.1 (lit≤ tt) c.in_ok-a.ensures in
    (lit≤ tt, cursor_asks (stepped_asks c.requires.0 b.steps))

pub returns-in_err-e : goal.returns-in_err-e
returns-in_err-e c =
    let s = c.args in
    let p = err_from_is_err_and c.from_residual-in_err-e.result c.from_residual-in_err-e.ensures.1 in
    rw (p.1, p.2)
    (opening_halted c.in_ok-a.a.statements _ _
    (opening_read c.requires.2 c.requires.3 c.requires.0 c.requires.1 c.in_ok-a.ensures c.in_err-e.ensures
    (expect_ended s.text.kinds.now s.text.long.now s.text.count s.word _)))

pub expect-requires : goal.expect-requires
expect-requires c =
    let s = c.args in
    let q = listing_here s.p in
    let b = begin_steps {p = q} (flag_in s.text.long.now s.p.cursor.at) s.depth 0 c.requires.0 c.requires.1 (lit≤ tt) c.in_ok-a.ensures in
    let ha = stepped_asks c.requires.0 b.steps in
    (c.requires.2, cursor_asks (asks_listing ha (expression_moves ha c.in_ok-e.ensures.moves)))

pub returns-in_err-t : goal.returns-in_err-t
returns-in_err-t c =
    let p = err_from_is_err_and c.from_residual-in_err-t.result c.from_residual-in_err-t.ensures.1 in
    rw (p.1, p.2)
    (opening_halted c.in_ok-a.a.statements _ _
    (opening_read c.requires.2 c.requires.3 c.requires.0 c.requires.1 c.in_ok-a.ensures c.in_ok-e.ensures c.in_err-t.ensures))

pub returns : goal.returns
returns c =
    opening_read c.requires.2 c.requires.3 c.requires.0 c.requires.1 c.in_ok-a.ensures c.in_ok-e.ensures c.in_ok-t.ensures
