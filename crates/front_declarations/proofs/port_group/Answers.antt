-- `front_declarations::port_group` meets its contract: the parts follow the grammar one after another, and the rows are written last. Assumes nothing.
use mathlib.Core.Path.{◌∙◌}
use lib.Dec.{lit<}
use Rattle.std.proofs.lemmas.Result.{err_from_is_err_and}
use Rattle.front_cursor.specs.Reading.{unread}
use Rattle.front_cursor.proofs.Steps.{expect_ended}
use Rattle.front_declarations.specs.Headers.{header_here, header_at}
use Rattle.front_declarations.proofs.Steps.{asks_header, cursor_asks, at_by}
use Rattle.front_declarations.proofs.Values.{took_kept, mode_moves, tail_moves, mode_ended, tail_ended}
use Rattle.front_declarations.proofs.Groups.{port_read, port_refused}
use Rattle.front_declarations.proofs.port_group.Goals as goal

pub returns-in_err-a : goal.returns-in_err-a
returns-in_err-a c =
    let s = c.args in
    let e = c.in_err-a.field-0.0 in
    let a = header_at (unread e) (header_here s.p) in
    let p = err_from_is_err_and c.from_residual.result c.from_residual.ensures.1 in
    rw (p.1, p.2)
    (port_refused e (header_here s.p) c.requires c.in_err-a.ensures (at_by a (expect_ended s.text.kinds.now s.text.long.now s.text.count 8 e))
    (mode_ended _ e (header_here s.p)) (at_by a (tail_ended s.text.kinds.now s.text.long.now s.text.count e)))

pub returns-in_err-u : goal.returns-in_err-u
returns-in_err-u c =
    let s = c.args in
    let e = c.in_err-u.field-0.0 in
    let a = header_here c.in_ok-a.a in
    let p = err_from_is_err_and c.from_residual-in_err-u.result c.from_residual-in_err-u.ensures.1 in
    rw (p.1, p.2)
    (port_refused e a c.requires c.in_ok-a.ensures (at_by a c.in_err-u.ensures) (mode_ended _ e a)
    (at_by (header_at (unread e) a) (tail_ended s.text.kinds.now s.text.long.now s.text.count e)))

pub mode-requires : goal.mode-requires
mode-requires c =
    let s = c.args in
    let a = header_here c.in_ok-a.a in
    let ha = asks_header c.requires.asks c.in_ok-a.ensures.moves in
    asks_header ha (took_kept s.text.kinds.now s.text.long.now 8 (lit< tt) ha (at_by a c.in_ok-u.ensures)).moves

pub returns-in_err-c : goal.returns-in_err-c
returns-in_err-c c =
    let s = c.args in
    let e = c.in_err-c.field-0.0 in
    let a = header_here c.in_ok-a.a in
    let p = err_from_is_err_and c.from_residual-in_err-c.result c.from_residual-in_err-c.ensures.1 in
    rw (p.1, p.2)
    (port_refused e a c.requires c.in_ok-a.ensures (at_by a c.in_ok-u.ensures) c.in_err-c.ensures
    (at_by (header_at (unread e) a) (tail_ended s.text.kinds.now s.text.long.now s.text.count e)))

pub tail-requires : goal.tail-requires
tail-requires c =
    let s = c.args in
    let a = header_here c.in_ok-a.a in
    let ha = asks_header c.requires.asks c.in_ok-a.ensures.moves in
    let hb = asks_header ha (took_kept s.text.kinds.now s.text.long.now 8 (lit< tt) ha (at_by a c.in_ok-u.ensures)).moves in
    cursor_asks (asks_header hb (mode_moves s.text.kinds.now hb c.in_ok-c.ensures).moves)

pub returns-in_err-w : goal.returns-in_err-w
returns-in_err-w c =
    let e = c.in_err-w.field-0.0 in
    let a = header_here c.in_ok-a.a in
    let p = err_from_is_err_and c.from_residual-in_err-w.result c.from_residual-in_err-w.ensures.1 in
    rw (p.1, p.2)
    (port_refused e (header_here c.in_ok-c.c) c.requires c.in_ok-a.ensures (at_by a c.in_ok-u.ensures) c.in_ok-c.ensures
    (at_by (header_here c.in_ok-c.c) c.in_err-w.ensures))

pub put_group-requires : goal.put_group-requires
put_group-requires c =
    let s = c.args in
    let a = header_here c.in_ok-a.a in
    let h = c.requires.asks in
    let ha = asks_header h c.in_ok-a.ensures.moves in
    let hb = asks_header ha (took_kept s.text.kinds.now s.text.long.now 8 (lit< tt) ha (at_by a c.in_ok-u.ensures)).moves in
    let hc = asks_header hb (mode_moves s.text.kinds.now hb c.in_ok-c.ensures).moves in
    let ke = tail_moves s.text.kinds.now s.text.long.now hc (at_by (header_here c.in_ok-c.c) c.in_ok-w.ensures) in
    (h, asks_header hc ke.moves, h.inside, hc.inside)

pub returns : goal.returns
returns c =
    let a = header_here c.in_ok-a.a in
    port_read c.requires c.in_ok-a.ensures (at_by a c.in_ok-u.ensures) c.in_ok-c.ensures
    (at_by (header_here c.in_ok-c.c) c.in_ok-w.ensures) (λ z. c.put_group.ensures ∙ rw (c.mode_of-m.ensures, c.kind_at.ensures))
