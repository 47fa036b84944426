-- `front_parser::entity` meets its contract: five tokens, the ports, five tokens. Assumes nothing.
use mathlib.Core.Path.{refl}
use mathlib.Core.List.{[], ◌∷◌}
use lib.Dec.{lit<}
use Rattle.std.proofs.lemmas.Result.{err_from_is_err_and}
use Rattle.base_codes.specs.Token.{NAME, LP, RP, SEMI, IS, PORT, END}
use Rattle.front_cursor.specs.Reading.{here, unread}
use Rattle.front_cursor.proofs.Steps.{one_asks, unread_ends}
use Rattle.front_declarations.specs.Headers.{header_here, header_at}
use Rattle.front_declarations.proofs.Steps.{cursor_asks, asks_header}
use Rattle.front_parser.specs.Runs.{heading_at}
use Rattle.front_parser.proofs.RunLaws.{all_asks, all_ended}
use Rattle.front_parser.proofs.PartLaws.{start_asks, group_of, entity_read, entity_halted, ports_ended}
use Rattle.front_parser.proofs.entity.Goals as goal

pub expect-requires : goal.expect-requires
expect-requires c = (lit< tt, start_asks c.requires)

pub returns-in_err-a : goal.returns-in_err-a
returns-in_err-a c =
    let s = c.args in
    let e = c.in_err-a.field-0.0 in
    let ha = one_asks s.text.kinds.now s.text.long.now 23 (lit< tt) (start_asks c.requires) c.in_err-a.ensures in
    let p = err_from_is_err_and c.from_residual.result c.from_residual.ensures.1 in
    rw (p.1, p.2)
    (entity_halted (heading_at (unread e)) _ _ e
    (entity_read c.requires c.in_err-a.ensures (all_ended s.text.kinds.now s.text.long.now s.text.count (NAME ∷ IS ∷ PORT ∷ LP ∷ []) e)
    (ports_ended _ (group_of ha) (unread_ends e)) (all_ended s.text.kinds.now s.text.long.now s.text.count (RP ∷ SEMI ∷ END ∷ []) e)
    (all_ended s.text.kinds.now s.text.long.now s.text.count (NAME ∷ SEMI ∷ []) e) refl))

pub expect_all-requires : goal.expect_all-requires
expect_all-requires c =
    let s = c.args in
    (refl, one_asks s.text.kinds.now s.text.long.now 23 (lit< tt) (start_asks c.requires) c.in_ok-a.ensures)

pub returns-in_err-cursor : goal.returns-in_err-cursor
returns-in_err-cursor c =
    let s = c.args in
    let e = c.in_err-cursor.field-0.0 in
    let ha = one_asks s.text.kinds.now s.text.long.now 23 (lit< tt) (start_asks c.requires) c.in_ok-a.ensures in
    let hc = all_asks s.text.kinds.now s.text.long.now (NAME ∷ IS ∷ PORT ∷ LP ∷ []) c.in_err-cursor.ensures refl ha in
    let p = err_from_is_err_and c.from_residual-in_err-cursor.result c.from_residual-in_err-cursor.ensures.1 in
    rw (p.1, p.2)
    (entity_halted (heading_at (unread e)) _ _ e
    (entity_read c.requires c.in_ok-a.ensures c.in_err-cursor.ensures
    (ports_ended _ (group_of hc) (unread_ends e)) (all_ended s.text.kinds.now s.text.long.now s.text.count (RP ∷ SEMI ∷ END ∷ []) e)
    (all_ended s.text.kinds.now s.text.long.now s.text.count (NAME ∷ SEMI ∷ []) e) refl))

pub ports-requires : goal.ports-requires
ports-requires c =
    let s = c.args in
    let ha = one_asks s.text.kinds.now s.text.long.now 23 (lit< tt) (start_asks c.requires) c.in_ok-a.ensures in
    group_of (all_asks s.text.kinds.now s.text.long.now (NAME ∷ IS ∷ PORT ∷ LP ∷ []) c.in_ok-cursor.ensures refl ha)

pub returns-in_err-d : goal.returns-in_err-d
returns-in_err-d c =
    let s = c.args in
    let e = c.in_err-d.field-0.0 in
    let d = header_at (unread e) (heading_at (here c.in_ok-cursor.cursor)) in
    let p = err_from_is_err_and c.from_residual-in_err-d.result c.from_residual-in_err-d.ensures.1 in
    rw (p.1, p.2)
    (entity_halted d _ _ e
    (entity_read c.requires c.in_ok-a.ensures c.in_ok-cursor.ensures c.in_err-d.ensures
    (all_ended s.text.kinds.now s.text.long.now s.text.count (RP ∷ SEMI ∷ END ∷ []) e)
    (all_ended s.text.kinds.now s.text.long.now s.text.count (NAME ∷ SEMI ∷ []) e) refl))

pub expect_all-requires-2 : goal.expect_all-requires-2
expect_all-requires-2 c =
    let s = c.args in
    let ha = one_asks s.text.kinds.now s.text.long.now 23 (lit< tt) (start_asks c.requires) c.in_ok-a.ensures in
    let hg = group_of (all_asks s.text.kinds.now s.text.long.now (NAME ∷ IS ∷ PORT ∷ LP ∷ []) c.in_ok-cursor.ensures refl ha) in
    (refl, cursor_asks (asks_header hg.asks c.in_ok-d.ensures.moves))

pub returns-in_err-e : goal.returns-in_err-e
returns-in_err-e c =
    let s = c.args in
    let e = c.in_err-e.field-0.0 in
    let p = err_from_is_err_and c.from_residual-in_err-e.result c.from_residual-in_err-e.ensures.1 in
    rw (p.1, p.2)
    (entity_halted (header_here c.in_ok-d.d) _ _ e
    (entity_read c.requires c.in_ok-a.ensures c.in_ok-cursor.ensures c.in_ok-d.ensures c.in_err-e.ensures
    (all_ended s.text.kinds.now s.text.long.now s.text.count (NAME ∷ SEMI ∷ []) e) refl))

pub expect_all-requires-3 : goal.expect_all-requires-3
expect_all-requires-3 c =
    let s = c.args in
    let ha = one_asks s.text.kinds.now s.text.long.now 23 (lit< tt) (start_asks c.requires) c.in_ok-a.ensures in
    let hg = group_of (all_asks s.text.kinds.now s.text.long.now (NAME ∷ IS ∷ PORT ∷ LP ∷ []) c.in_ok-cursor.ensures refl ha) in
    let hd = asks_header hg.asks c.in_ok-d.ensures.moves in
    (refl, all_asks s.text.kinds.now s.text.long.now (RP ∷ SEMI ∷ END ∷ []) c.in_ok-e.ensures refl (cursor_asks hd))

pub returns-in_err-f : goal.returns-in_err-f
returns-in_err-f c =
    let e = c.in_err-f.field-0.0 in
    let p = err_from_is_err_and c.from_residual-in_err-f.result c.from_residual-in_err-f.ensures.1 in
    rw (p.1, p.2)
    (entity_halted (header_here c.in_ok-d.d) _ _ e
    (entity_read c.requires c.in_ok-a.ensures c.in_ok-cursor.ensures c.in_ok-d.ensures c.in_ok-e.ensures c.in_err-f.ensures refl))

pub returns : goal.returns
returns c =
    entity_read c.requires c.in_ok-a.ensures c.in_ok-cursor.ensures c.in_ok-d.ensures c.in_ok-e.ensures c.in_ok-f.ensures refl
