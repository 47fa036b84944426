-- `front_declarations::port_groups` meets its contract: the loop's invariant is that the groups have only grown; a turn gets further, or refuses. Assumes nothing.
use mathlib.Core.Path.{refl, sym, ◌∙◌}
use native.Mathlib.Omega.{arith}
use borrow.Author.Tests.{eqb-true, eqb-false}
use lib.Dec.{lit<}
use Rattle.std.proofs.lemmas.Result.{err_from_is_err_and}
use Rattle.front_cursor.proofs.Steps.{unread_ends}
use Rattle.front_declarations.specs.Headers.{header_here}
use Rattle.front_declarations.specs.Readers.{AsksGroup}
use Rattle.front_declarations.proofs.Steps.{cursor_asks, at_by, asks_header, took_moves}
use Rattle.front_declarations.proofs.Groups.{ports_halted, port_ended}
use Rattle.front_declarations.proofs.GroupLists.{ports_none, took_group, ports_again, ports_read}
use Rattle.front_declarations.proofs.port_groups.Goals as goal

pub returns-in_err-a : goal.returns-in_err-a
returns-in_err-a c =
    let v = c.in_err-a.ensures in
    let p = err_from_is_err_and c.from_residual.result c.from_residual.ensures.1 in
    rw (p.1, p.2)
    (ports_read v (ports_none _ (record { asks = asks_header c.requires.asks v.moves; none = v.none })) (λ z. absurd (unread_ends _ z)))

pub loop-text-init : goal.loop-text-init
loop-text-init c =
    let v = c.in_ok-a.ensures in
    ports_none _ (record { asks = asks_header c.requires.asks v.moves; none = v.none })

pub expect-requires : goal.expect-requires
expect-requires c =
    (lit< tt, cursor_asks (asks_header (asks_header c.requires.asks c.in_ok-a.ensures.moves) c.loop-text.invariant.moves))

pub returns-in_err-cursor : goal.returns-in_err-cursor
returns-in_err-cursor c =
    let s = c.args in
    let e = c.in_err-cursor.field-0.0 in
    let a = header_here c.loop-text.a in
    let i = c.loop-text.invariant in
    let ha = asks_header c.requires.asks c.in_ok-a.ensures.moves in
    let hg : AsksGroup s.text.count a = record { asks = asks_header ha i.moves; none = i.none } in
    let hb = took_group s.text.kinds.now s.text.long.now 7 (lit< tt) hg (at_by a c.in_err-cursor.ensures) in
    let p = err_from_is_err_and c.from_residual-in_err-cursor.result c.from_residual-in_err-cursor.ensures.1 in
    rw (p.1, p.2)
    (ports_halted a e c.requires.asks (ports_read c.in_ok-a.ensures
    (ports_again ha i (eqb-true _ 7 (sym c.follows.ensures ∙ c.loop-text-test.true)) (at_by a c.in_err-cursor.ensures) (port_ended _ hb (unread_ends e)))
    (λ z. absurd (unread_ends e z))))

pub port_group-requires-in-loop-text : goal.port_group-requires-in-loop-text
port_group-requires-in-loop-text c =
    let s = c.args in
    let a = header_here c.loop-text.a in
    let i = c.loop-text.invariant in
    let ha = asks_header c.requires.asks c.in_ok-a.ensures.moves in
    let hg : AsksGroup s.text.count a = record { asks = asks_header ha i.moves; none = i.none } in
    took_group s.text.kinds.now s.text.long.now 7 (lit< tt) hg (at_by a c.in_ok-cursor.ensures)

pub returns-in_err-a-2 : goal.returns-in_err-a-2
returns-in_err-a-2 c =
    let a = header_here c.loop-text.a in
    let ha = asks_header c.requires.asks c.in_ok-a.ensures.moves in
    let p = err_from_is_err_and c.from_residual-in_err-a-2.result c.from_residual-in_err-a-2.ensures.1 in
    rw (p.1, p.2)
    (ports_halted a _ c.requires.asks (ports_read c.in_ok-a.ensures
    (ports_again ha c.loop-text.invariant (eqb-true _ 7 (sym c.follows.ensures ∙ c.loop-text-test.true)) (at_by a c.in_ok-cursor.ensures)
    c.in_err-a-2.ensures)
    (λ z. absurd (unread_ends _ z))))

pub loop-text-smaller : goal.loop-text-smaller
loop-text-smaller c =
    let s = c.args in
    let a = header_here c.loop-text.a in
    let hl = asks_header (asks_header c.requires.asks c.in_ok-a.ensures.moves) c.loop-text.invariant.moves in
    let m = took_moves s.text.kinds.now s.text.long.now 7 (lit< tt) hl (at_by a c.in_ok-cursor.ensures) in
    let v = c.in_ok-a-2.ensures.moves in
    let f = c.in_ok-a-2.ensures.further refl in
    omega arith

pub loop-text-preserved : goal.loop-text-preserved
loop-text-preserved c =
    let a = header_here c.loop-text.a in
    let ha = asks_header c.requires.asks c.in_ok-a.ensures.moves in
    ports_again ha c.loop-text.invariant (eqb-true _ 7 (sym c.follows.ensures ∙ c.loop-text-test.true)) (at_by a c.in_ok-cursor.ensures)
    c.in_ok-a-2.ensures

pub returns : goal.returns
returns c = ports_read c.in_ok-a.ensures c.loop-text.invariant (λ z. eqb-false _ 7 (sym c.follows.ensures ∙ c.loop-text-test.false))
