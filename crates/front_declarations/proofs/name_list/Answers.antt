-- `front_declarations::name_list` meets its contract: the loop's invariant is that the names have only grown; a turn gets further, or refuses. Assumes nothing.
use mathlib.Core.Path.{refl, sym, ◌∙◌}
use native.Mathlib.Omega.{arith}
use borrow.Author.Tests.{eqb-true, eqb-false}
use Rattle.std.proofs.lemmas.Result.{err_from_is_err_and}
use Rattle.front_cursor.proofs.Steps.{unread_ends}
use Rattle.front_declarations.specs.Headers.{header_here}
use Rattle.front_declarations.proofs.Steps.{asks_header, name_moves}
use Rattle.front_declarations.proofs.NameLists.{names_none, names_again, names_read, next_moves, names_halted}
use Rattle.front_declarations.proofs.name_list.Goals as goal

pub returns-in_err-a : goal.returns-in_err-a
returns-in_err-a c =
    let s = c.args in
    let p = err_from_is_err_and c.from_residual.result c.from_residual.ensures.1 in
    let nm = name_moves s.text.kinds.now s.text.long.now s.variables c.requires c.in_err-a.ensures in
    rw (p.1, p.2) (names_read c.requires c.in_err-a.ensures (names_none (asks_header c.requires nm.moves)) (λ z. absurd (unread_ends _ z)))

pub loop-text-init : goal.loop-text-init
loop-text-init c =
    let s = c.args in
    let nm = name_moves s.text.kinds.now s.text.long.now s.variables c.requires c.in_ok-a.ensures in
    names_none (asks_header c.requires nm.moves)

pub next_name-requires : goal.next_name-requires
next_name-requires c =
    let s = c.args in
    let nm = name_moves s.text.kinds.now s.text.long.now s.variables c.requires c.in_ok-a.ensures in
    asks_header (asks_header c.requires nm.moves) c.loop-text.invariant.moves

pub returns-in_err-a-2 : goal.returns-in_err-a-2
returns-in_err-a-2 c =
    let s = c.args in
    let p = err_from_is_err_and c.from_residual-in_err-a-2.result c.from_residual-in_err-a-2.ensures.1 in
    let nm = name_moves s.text.kinds.now s.text.long.now s.variables c.requires c.in_ok-a.ensures in
    let ha = asks_header c.requires nm.moves in
    rw (p.1, p.2)
    (names_halted (header_here c.loop-text.a) _ c.requires (names_read c.requires c.in_ok-a.ensures
    (names_again ha c.loop-text.invariant (eqb-true _ 9 (sym c.follows.ensures ∙ c.loop-text-test.true)) refl refl c.in_err-a-2.ensures)
    (λ z. absurd (unread_ends _ z))))

pub loop-text-smaller : goal.loop-text-smaller
loop-text-smaller c =
    let s = c.args in
    let nm = name_moves s.text.kinds.now s.text.long.now s.variables c.requires c.in_ok-a.ensures in
    let hb = asks_header (asks_header c.requires nm.moves) c.loop-text.invariant.moves in
    let m = next_moves s.text.kinds.now s.text.long.now s.variables hb c.in_ok-a-2.ensures in
    let o = m.0 in
    let f = m.1 refl in
    omega arith

pub loop-text-preserved : goal.loop-text-preserved
loop-text-preserved c =
    let s = c.args in
    let nm = name_moves s.text.kinds.now s.text.long.now s.variables c.requires c.in_ok-a.ensures in
    names_again (asks_header c.requires nm.moves) c.loop-text.invariant (eqb-true _ 9 (sym c.follows.ensures ∙ c.loop-text-test.true)) refl refl
    c.in_ok-a-2.ensures

pub returns : goal.returns
returns c =
    names_read c.requires c.in_ok-a.ensures c.loop-text.invariant
    (λ z. eqb-false _ 9 (sym c.follows.ensures ∙ c.loop-text-test.false))
