-- `front_statements::wait_statement` meets its contract: five tokens after the first, then the row. Assumes nothing.
use mathlib.Core.Path.{refl}
use native.Mathlib.Omega.{arith}
use lib.Dec.{lit<}
use Rattle.std.proofs.lemmas.Result.{err_from_is_err_and}
use Rattle.front_layout.specs.Tokens.{flag_in}
use Rattle.front_cursor.proofs.Steps.{kind_inside, unread_ends, expect_ended}
use Rattle.front_statements.specs.Listings.{listing_here}
use Rattle.front_statements.proofs.Steps.{cursor_asks, stepped_asks, took_steps, begin_steps, statement_halted}
use Rattle.front_statements.proofs.Simple.{wait_read}
use Rattle.front_statements.proofs.wait_statement.Goals as goal

pub returns-in_err-a : goal.returns-in_err-a
returns-in_err-a c x =
    let s = c.args in
    let e = c.in_err-a.field-0.0 in
    let p = err_from_is_err_and c.from_residual.result c.from_residual.ensures.1 in
    rw (p.1, p.2)
    (wait_read c.requires.0 c.requires.1 c.in_err-a.ensures (expect_ended s.text.kinds.now s.text.long.now s.text.count 36 e) (expect_ended s.text.kinds.now s.text.long.now s.text.count 1 e) (expect_ended s.text.kinds.now s.text.long.now s.text.count 13 e) (expect_ended s.text.kinds.now s.text.long.now s.text.count 4 e) (expect_ended s.text.kinds.now s.text.long.now s.text.count 7 e)
    (λ z. absurd (unread_ends e z)) x)

pub expect-requires : goal.expect-requires
expect-requires c =
    let s = c.args in
    let h = c.requires.0 in
    let q = listing_here s.p in
    let i = kind_inside s.text.kinds.now s.text.count s.p.cursor.at 35 c.requires.1 (lit< tt) in
    let b = begin_steps {p = q} (flag_in s.text.long.now s.p.cursor.at) s.depth s.p.cursor.items h i h.few c.in_ok-a.ensures in
    let ha = stepped_asks h b.steps in
    (lit< tt, cursor_asks ha)

pub returns-in_err-b : goal.returns-in_err-b
returns-in_err-b c x =
    let s = c.args in
    let e = c.in_err-b.field-0.0 in
    let p = err_from_is_err_and c.from_residual-in_err-b.result c.from_residual-in_err-b.ensures.1 in
    rw (p.1, p.2)
    (statement_halted c.in_ok-a.a.statements e c.requires.0
    (wait_read c.requires.0 c.requires.1 c.in_ok-a.ensures c.in_err-b.ensures (expect_ended s.text.kinds.now s.text.long.now s.text.count 1 e) (expect_ended s.text.kinds.now s.text.long.now s.text.count 13 e) (expect_ended s.text.kinds.now s.text.long.now s.text.count 4 e) (expect_ended s.text.kinds.now s.text.long.now s.text.count 7 e)
    (λ z. absurd (unread_ends e z)) x))

pub expect-requires-2 : goal.expect-requires-2
expect-requires-2 c =
    let s = c.args in
    let h = c.requires.0 in
    let q = listing_here s.p in
    let i = kind_inside s.text.kinds.now s.text.count s.p.cursor.at 35 c.requires.1 (lit< tt) in
    let b = begin_steps {p = q} (flag_in s.text.long.now s.p.cursor.at) s.depth s.p.cursor.items h i h.few c.in_ok-a.ensures in
    let ha = stepped_asks h b.steps in
    let hb = stepped_asks ha (took_steps s.text.kinds.now s.text.long.now 36 (lit< tt) ha c.in_ok-b.ensures).steps in
    (lit< tt, cursor_asks hb)

pub returns-in_err-c : goal.returns-in_err-c
returns-in_err-c c x =
    let s = c.args in
    let e = c.in_err-c.field-0.0 in
    let p = err_from_is_err_and c.from_residual-in_err-c.result c.from_residual-in_err-c.ensures.1 in
    rw (p.1, p.2)
    (statement_halted c.in_ok-a.a.statements e c.requires.0
    (wait_read c.requires.0 c.requires.1 c.in_ok-a.ensures c.in_ok-b.ensures c.in_err-c.ensures (expect_ended s.text.kinds.now s.text.long.now s.text.count 13 e) (expect_ended s.text.kinds.now s.text.long.now s.text.count 4 e) (expect_ended s.text.kinds.now s.text.long.now s.text.count 7 e)
    (λ z. absurd (unread_ends e z)) x))

pub expect-requires-3 : goal.expect-requires-3
expect-requires-3 c =
    let s = c.args in
    let h = c.requires.0 in
    let q = listing_here s.p in
    let i = kind_inside s.text.kinds.now s.text.count s.p.cursor.at 35 c.requires.1 (lit< tt) in
    let b = begin_steps {p = q} (flag_in s.text.long.now s.p.cursor.at) s.depth s.p.cursor.items h i h.few c.in_ok-a.ensures in
    let ha = stepped_asks h b.steps in
    let hb = stepped_asks ha (took_steps s.text.kinds.now s.text.long.now 36 (lit< tt) ha c.in_ok-b.ensures).steps in
    let hc = stepped_asks hb (took_steps s.text.kinds.now s.text.long.now 1 (lit< tt) hb c.in_ok-c.ensures).steps in
    (lit< tt, cursor_asks hc)

pub returns-in_err-d : goal.returns-in_err-d
returns-in_err-d c x =
    let s = c.args in
    let e = c.in_err-d.field-0.0 in
    let p = err_from_is_err_and c.from_residual-in_err-d.result c.from_residual-in_err-d.ensures.1 in
    rw (p.1, p.2)
    (statement_halted c.in_ok-a.a.statements e c.requires.0
    (wait_read c.requires.0 c.requires.1 c.in_ok-a.ensures c.in_ok-b.ensures c.in_ok-c.ensures c.in_err-d.ensures (expect_ended s.text.kinds.now s.text.long.now s.text.count 4 e) (expect_ended s.text.kinds.now s.text.long.now s.text.count 7 e)
    (λ z. absurd (unread_ends e z)) x))

pub expect-requires-4 : goal.expect-requires-4
expect-requires-4 c =
    let s = c.args in
    let h = c.requires.0 in
    let q = listing_here s.p in
    let i = kind_inside s.text.kinds.now s.text.count s.p.cursor.at 35 c.requires.1 (lit< tt) in
    let b = begin_steps {p = q} (flag_in s.text.long.now s.p.cursor.at) s.depth s.p.cursor.items h i h.few c.in_ok-a.ensures in
    let ha = stepped_asks h b.steps in
    let hb = stepped_asks ha (took_steps s.text.kinds.now s.text.long.now 36 (lit< tt) ha c.in_ok-b.ensures).steps in
    let hc = stepped_asks hb (took_steps s.text.kinds.now s.text.long.now 1 (lit< tt) hb c.in_ok-c.ensures).steps in
    let hd = stepped_asks hc (took_steps s.text.kinds.now s.text.long.now 13 (lit< tt) hc c.in_ok-d.ensures).steps in
    (lit< tt, cursor_asks hd)

pub returns-in_err-e : goal.returns-in_err-e
returns-in_err-e c x =
    let s = c.args in
    let e = c.in_err-e.field-0.0 in
    let p = err_from_is_err_and c.from_residual-in_err-e.result c.from_residual-in_err-e.ensures.1 in
    rw (p.1, p.2)
    (statement_halted c.in_ok-a.a.statements e c.requires.0
    (wait_read c.requires.0 c.requires.1 c.in_ok-a.ensures c.in_ok-b.ensures c.in_ok-c.ensures c.in_ok-d.ensures c.in_err-e.ensures (expect_ended s.text.kinds.now s.text.long.now s.text.count 7 e)
    (λ z. absurd (unread_ends e z)) x))

pub expect-requires-5 : goal.expect-requires-5
expect-requires-5 c =
    let s = c.args in
    let h = c.requires.0 in
    let q = listing_here s.p in
    let i = kind_inside s.text.kinds.now s.text.count s.p.cursor.at 35 c.requires.1 (lit< tt) in
    let b = begin_steps {p = q} (flag_in s.text.long.now s.p.cursor.at) s.depth s.p.cursor.items h i h.few c.in_ok-a.ensures in
    let ha = stepped_asks h b.steps in
    let hb = stepped_asks ha (took_steps s.text.kinds.now s.text.long.now 36 (lit< tt) ha c.in_ok-b.ensures).steps in
    let hc = stepped_asks hb (took_steps s.text.kinds.now s.text.long.now 1 (lit< tt) hb c.in_ok-c.ensures).steps in
    let hd = stepped_asks hc (took_steps s.text.kinds.now s.text.long.now 13 (lit< tt) hc c.in_ok-d.ensures).steps in
    let he = stepped_asks hd (took_steps s.text.kinds.now s.text.long.now 4 (lit< tt) hd c.in_ok-e.ensures).steps in
    (lit< tt, cursor_asks he)

pub returns-in_err-f : goal.returns-in_err-f
returns-in_err-f c x =
    let s = c.args in
    let e = c.in_err-f.field-0.0 in
    let p = err_from_is_err_and c.from_residual-in_err-f.result c.from_residual-in_err-f.ensures.1 in
    rw (p.1, p.2)
    (statement_halted c.in_ok-a.a.statements e c.requires.0
    (wait_read c.requires.0 c.requires.1 c.in_ok-a.ensures c.in_ok-b.ensures c.in_ok-c.ensures c.in_ok-d.ensures c.in_ok-e.ensures c.in_err-f.ensures
    (λ z. absurd (unread_ends e z)) x))

pub finish-requires : goal.finish-requires
finish-requires c =
    let s = c.args in
    let h = c.requires.0 in
    let q = listing_here s.p in
    let i = kind_inside s.text.kinds.now s.text.count s.p.cursor.at 35 c.requires.1 (lit< tt) in
    let b = begin_steps {p = q} (flag_in s.text.long.now s.p.cursor.at) s.depth s.p.cursor.items h i h.few c.in_ok-a.ensures in
    let ha = stepped_asks h b.steps in
    let hb = stepped_asks ha (took_steps s.text.kinds.now s.text.long.now 36 (lit< tt) ha c.in_ok-b.ensures).steps in
    let hc = stepped_asks hb (took_steps s.text.kinds.now s.text.long.now 1 (lit< tt) hb c.in_ok-c.ensures).steps in
    let hd = stepped_asks hc (took_steps s.text.kinds.now s.text.long.now 13 (lit< tt) hc c.in_ok-d.ensures).steps in
    let he = stepped_asks hd (took_steps s.text.kinds.now s.text.long.now 4 (lit< tt) hd c.in_ok-e.ensures).steps in
    let hf = stepped_asks he (took_steps s.text.kinds.now s.text.long.now 7 (lit< tt) he c.in_ok-f.ensures).steps in
    let g = b.one refl in
    let m = b.steps.moves in
    omega arith

pub returns : goal.returns
returns c x =
    wait_read c.requires.0 c.requires.1 c.in_ok-a.ensures c.in_ok-b.ensures c.in_ok-c.ensures c.in_ok-d.ensures c.in_ok-e.ensures c.in_ok-f.ensures
    (λ z. c.finish.ensures) x
