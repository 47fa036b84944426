-- `front_statements::assignment` meets its contract: the operator, the expression and one token after the first, then the row. Assumes nothing.
use mathlib.Core.Path.{refl, sym}
use native.Mathlib.Omega.{arith}
use lib.Dec.{lit<, lit≤}
use Rattle.std.proofs.lemmas.Result.{err_from_is_err_and}
use Rattle.front_layout.specs.Tokens.{flag_in}
use Rattle.front_cursor.proofs.Steps.{kind_inside, unread_ends, expect_ended}
use Rattle.front_statements.specs.Listings.{listing_here, is_assigning}
use Rattle.front_statements.proofs.Steps.{cursor_asks, asks_listing, stepped_asks, begin_steps, statement_halted}
use Rattle.front_statements.proofs.Assignments.{fresh_steps, fresh_ended, assigning_inside, expression_moves, assignment_read, assignment_refused}
use Rattle.front_statements.proofs.assignment.Goals as goal

pub returns-in_err-a : goal.returns-in_err-a
returns-in_err-a c =
    let p = err_from_is_err_and c.from_residual.result c.from_residual.ensures.1 in
    rw (p.1, p.2)
    (assignment_refused c.requires.0 _ _ _ c.requires.1 c.in_err-a.ensures refl (fresh_ended _ _))

pub fresh-requires : goal.fresh-requires
fresh-requires c =
    let s = c.args in
    let h = c.requires.0 in
    let q = listing_here s.p in
    let i = kind_inside s.text.kinds.now s.text.count s.p.cursor.at 1 c.requires.1 (lit< tt) in
    let b = begin_steps {p = q} (flag_in s.text.long.now s.p.cursor.at) s.depth s.p.cursor.items h i h.few c.in_ok-a.ensures in
    let ha = stepped_asks h b.steps in omega arith

pub returns-in_err-b : goal.returns-in_err-b
returns-in_err-b c =
    let p = err_from_is_err_and c.from_residual-in_err-b.result c.from_residual-in_err-b.ensures.1 in
    rw (p.1, p.2)
    (assignment_refused c.requires.0 _ _ _ c.requires.1 c.in_ok-a.ensures c.kind_at-kind.ensures c.in_err-b.ensures)

pub expression-requires : goal.expression-requires
expression-requires c =
    let s = c.args in
    let h = c.requires.0 in
    let q = listing_here s.p in
    let i = kind_inside s.text.kinds.now s.text.count s.p.cursor.at 1 c.requires.1 (lit< tt) in
    let b = begin_steps {p = q} (flag_in s.text.long.now s.p.cursor.at) s.depth s.p.cursor.items h i h.few c.in_ok-a.ensures in
    let ha = stepped_asks h b.steps in
    let u = fresh_steps (is_assigning c.kind_at-kind.result) ha
    (λ z. assigning_inside s.text.kinds.now s.text.count c.in_ok-a.a.cursor.at c.kind_at-kind.result (sym c.kind_at-kind.ensures) z) c.in_ok-b.ensures in
    (lit≤ tt, cursor_asks (stepped_asks ha u.steps))

pub returns-in_err-e : goal.returns-in_err-e
returns-in_err-e c =
    let s = c.args in
    let p = err_from_is_err_and c.from_residual-in_err-e.result c.from_residual-in_err-e.ensures.1 in
    rw (p.1, p.2)
    (statement_halted c.in_ok-a.a.statements _ c.requires.0
    (assignment_read c.requires.0 c.requires.1 c.in_ok-a.ensures c.kind_at-kind.ensures c.in_ok-b.ensures c.in_err-e.ensures
    (expect_ended s.text.kinds.now s.text.long.now s.text.count 7 _) (λ z. absurd (unread_ends _ z))))

pub expect-requires : goal.expect-requires
expect-requires c =
    let s = c.args in
    let h = c.requires.0 in
    let q = listing_here s.p in
    let i = kind_inside s.text.kinds.now s.text.count s.p.cursor.at 1 c.requires.1 (lit< tt) in
    let b = begin_steps {p = q} (flag_in s.text.long.now s.p.cursor.at) s.depth s.p.cursor.items h i h.few c.in_ok-a.ensures in
    let ha = stepped_asks h b.steps in
    let u = fresh_steps (is_assigning c.kind_at-kind.result) ha
    (λ z. assigning_inside s.text.kinds.now s.text.count c.in_ok-a.a.cursor.at c.kind_at-kind.result (sym c.kind_at-kind.ensures) z) c.in_ok-b.ensures in
    let hb = stepped_asks ha u.steps in
    (lit< tt, cursor_asks (asks_listing hb (expression_moves hb c.in_ok-e.ensures.moves)))

pub returns-in_err-c : goal.returns-in_err-c
returns-in_err-c c =
    let p = err_from_is_err_and c.from_residual-in_err-c.result c.from_residual-in_err-c.ensures.1 in
    rw (p.1, p.2)
    (statement_halted c.in_ok-a.a.statements _ c.requires.0
    (assignment_read c.requires.0 c.requires.1 c.in_ok-a.ensures c.kind_at-kind.ensures c.in_ok-b.ensures c.in_ok-e.ensures
    c.in_err-c.ensures (λ z. absurd (unread_ends _ z))))

pub finish-requires : goal.finish-requires
finish-requires c =
    let s = c.args in
    let h = c.requires.0 in
    let q = listing_here s.p in
    let i = kind_inside s.text.kinds.now s.text.count s.p.cursor.at 1 c.requires.1 (lit< tt) in
    let b = begin_steps {p = q} (flag_in s.text.long.now s.p.cursor.at) s.depth s.p.cursor.items h i h.few c.in_ok-a.ensures in
    let ha = stepped_asks h b.steps in
    let u = fresh_steps (is_assigning c.kind_at-kind.result) ha
    (λ z. assigning_inside s.text.kinds.now s.text.count c.in_ok-a.a.cursor.at c.kind_at-kind.result (sym c.kind_at-kind.ensures) z) c.in_ok-b.ensures in
    let hb = stepped_asks ha u.steps in
    let mc = expression_moves hb c.in_ok-e.ensures.moves in
    let hc = asks_listing hb mc in
    let g = b.one refl in
    let m = b.steps.moves in
    omega arith

pub returns : goal.returns
returns c =
    assignment_read c.requires.0 c.requires.1 c.in_ok-a.ensures c.kind_at-kind.ensures c.in_ok-b.ensures c.in_ok-e.ensures c.in_ok-c.ensures
    (λ z. rw c.row_kind.ensures at c.finish.ensures)
