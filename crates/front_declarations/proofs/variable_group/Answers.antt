-- `front_declarations::variable_group` meets its contract: the parts follow the grammar one after another, and the rows are written last. Assumes nothing.
use mathlib.Core.Path.{refl, ap}
use lib.Dec.{lit<}
use Rattle.std.proofs.lemmas.Result.{err_from_is_err_and}
use Rattle.front_cursor.specs.Reading.{Read, unread}
use Rattle.front_cursor.proofs.Steps.{unread_ends, expect_ended}
use Rattle.front_declarations.specs.Headers.{header_here}
use Rattle.front_declarations.proofs.Steps.{asks_header, cursor_asks, at_by}
use Rattle.front_declarations.proofs.NameLists.{names_ended}
use Rattle.front_declarations.proofs.Values.{took_kept, tail_moves, tail_ended}
use Rattle.front_declarations.proofs.Groups.{zeroed, variable_moves, variable_read, variable_refused}
use Rattle.front_declarations.proofs.variable_group.Goals as goal

pub returns-in_err-q : goal.returns-in_err-q
returns-in_err-q c =
    let s = c.args in
    let e = c.in_err-q.field-0.0 in
    let a = zeroed (unread e) (header_here s.p) in
    let ea = ap (λ (u : Read). zeroed u (header_here s.p)) c.in_err-q.ensures in
    let ha = asks_header c.requires.0 (variable_moves s.text.kinds.now s.text.long.now c.requires.0 ea).moves in
    let p = err_from_is_err_and c.from_residual.result c.from_residual.ensures.1 in
    rw (p.1, p.2)
    (variable_refused e a c.requires.0 refl c.requires.1 ea (names_ended ha (unread_ends e)) (at_by a (expect_ended s.text.kinds.now s.text.long.now s.text.count 8 e))
    (at_by a (tail_ended s.text.kinds.now s.text.long.now s.text.count e)) (at_by a (expect_ended s.text.kinds.now s.text.long.now s.text.count 7 e)))

pub names-requires : goal.names-requires
names-requires c =
    let s = c.args in
    let ea = ap (λ (u : Read). zeroed u (header_here s.p)) c.in_ok-q.ensures in
    asks_header c.requires.0 (variable_moves s.text.kinds.now s.text.long.now c.requires.0 ea).moves

pub returns-in_err-b : goal.returns-in_err-b
returns-in_err-b c =
    let s = c.args in
    let e = c.in_err-b.field-0.0 in
    let ea = ap (λ (u : Read). zeroed u (header_here s.p)) c.in_ok-q.ensures in
    let b = zeroed (unread e) (header_here s.p) in
    let p = err_from_is_err_and c.from_residual-in_err-b.result c.from_residual-in_err-b.ensures.1 in
    rw (p.1, p.2)
    (variable_refused e b c.requires.0 refl c.requires.1 ea c.in_err-b.ensures (at_by b (expect_ended s.text.kinds.now s.text.long.now s.text.count 8 e))
    (at_by b (tail_ended s.text.kinds.now s.text.long.now s.text.count e)) (at_by b (expect_ended s.text.kinds.now s.text.long.now s.text.count 7 e)))

pub expect-requires-2 : goal.expect-requires-2
expect-requires-2 c =
    let s = c.args in
    let ea = ap (λ (u : Read). zeroed u (header_here s.p)) c.in_ok-q.ensures in
    let ha = asks_header c.requires.0 (variable_moves s.text.kinds.now s.text.long.now c.requires.0 ea).moves in
    (lit< tt, cursor_asks (asks_header ha c.in_ok-b.ensures.moves))

pub returns-in_err-u : goal.returns-in_err-u
returns-in_err-u c =
    let s = c.args in
    let e = c.in_err-u.field-0.0 in
    let ea = ap (λ (u : Read). zeroed u (header_here s.p)) c.in_ok-q.ensures in
    let b = header_here c.in_ok-b.b in
    let p = err_from_is_err_and c.from_residual-in_err-u.result c.from_residual-in_err-u.ensures.1 in
    rw (p.1, p.2)
    (variable_refused e b c.requires.0 refl c.requires.1 ea c.in_ok-b.ensures (at_by b c.in_err-u.ensures)
    (at_by b (tail_ended s.text.kinds.now s.text.long.now s.text.count e)) (at_by b (expect_ended s.text.kinds.now s.text.long.now s.text.count 7 e)))

pub tail-requires : goal.tail-requires
tail-requires c =
    let s = c.args in
    let ea = ap (λ (u : Read). zeroed u (header_here s.p)) c.in_ok-q.ensures in
    let b = header_here c.in_ok-b.b in
    let ha = asks_header c.requires.0 (variable_moves s.text.kinds.now s.text.long.now c.requires.0 ea).moves in
    let hb = asks_header ha c.in_ok-b.ensures.moves in
    cursor_asks (asks_header hb (took_kept s.text.kinds.now s.text.long.now 8 (lit< tt) hb (at_by b c.in_ok-u.ensures)).moves)

pub returns-in_err-v : goal.returns-in_err-v
returns-in_err-v c =
    let s = c.args in
    let e = c.in_err-v.field-0.0 in
    let ea = ap (λ (u : Read). zeroed u (header_here s.p)) c.in_ok-q.ensures in
    let b = header_here c.in_ok-b.b in
    let p = err_from_is_err_and c.from_residual-in_err-v.result c.from_residual-in_err-v.ensures.1 in
    rw (p.1, p.2)
    (variable_refused e b c.requires.0 refl c.requires.1 ea c.in_ok-b.ensures (at_by b c.in_ok-u.ensures)
    (at_by b c.in_err-v.ensures) (at_by b (expect_ended s.text.kinds.now s.text.long.now s.text.count 7 e)))

pub expect-requires-3 : goal.expect-requires-3
expect-requires-3 c =
    let s = c.args in
    let ea = ap (λ (u : Read). zeroed u (header_here s.p)) c.in_ok-q.ensures in
    let b = header_here c.in_ok-b.b in
    let ha = asks_header c.requires.0 (variable_moves s.text.kinds.now s.text.long.now c.requires.0 ea).moves in
    let hb = asks_header ha c.in_ok-b.ensures.moves in
    let hc = asks_header hb (took_kept s.text.kinds.now s.text.long.now 8 (lit< tt) hb (at_by b c.in_ok-u.ensures)).moves in
    (lit< tt, cursor_asks (asks_header hc (tail_moves s.text.kinds.now s.text.long.now hc (at_by b c.in_ok-v.ensures)).moves))

pub returns-in_err-w : goal.returns-in_err-w
returns-in_err-w c =
    let s = c.args in
    let e = c.in_err-w.field-0.0 in
    let ea = ap (λ (u : Read). zeroed u (header_here s.p)) c.in_ok-q.ensures in
    let b = header_here c.in_ok-b.b in
    let p = err_from_is_err_and c.from_residual-in_err-w.result c.from_residual-in_err-w.ensures.1 in
    rw (p.1, p.2)
    (variable_refused e b c.requires.0 refl c.requires.1 ea c.in_ok-b.ensures (at_by b c.in_ok-u.ensures)
    (at_by b c.in_ok-v.ensures) (at_by b c.in_err-w.ensures))

pub put_group-requires : goal.put_group-requires
put_group-requires c =
    let s = c.args in
    let h = c.requires.0 in
    let ea = ap (λ (u : Read). zeroed u (header_here s.p)) c.in_ok-q.ensures in
    let b = header_here c.in_ok-b.b in
    let ha = asks_header h (variable_moves s.text.kinds.now s.text.long.now h ea).moves in
    let hb = asks_header ha c.in_ok-b.ensures.moves in
    let hc = asks_header hb (took_kept s.text.kinds.now s.text.long.now 8 (lit< tt) hb (at_by b c.in_ok-u.ensures)).moves in
    let hd = asks_header hc (tail_moves s.text.kinds.now s.text.long.now hc (at_by b c.in_ok-v.ensures)).moves in
    let ke = took_kept s.text.kinds.now s.text.long.now 7 (lit< tt) hd (at_by b c.in_ok-w.ensures) in
    (h, asks_header hd ke.moves, ha.inside, hc.inside)

pub returns : goal.returns
returns c =
    let s = c.args in
    let ea = ap (λ (u : Read). zeroed u (header_here s.p)) c.in_ok-q.ensures in
    let b = header_here c.in_ok-b.b in
    variable_read c.requires.0 refl c.requires.1 ea c.in_ok-b.ensures (at_by b c.in_ok-u.ensures)
    (at_by b c.in_ok-v.ensures) (at_by b c.in_ok-w.ensures) (λ z. c.put_group.ensures)
