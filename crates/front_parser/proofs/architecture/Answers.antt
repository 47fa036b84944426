-- `front_parser::architecture` meets its contract: seven tokens, the variables, one token. Assumes nothing.
use mathlib.Core.Path.{refl}
use mathlib.Core.List.{[], ◌∷◌}
use lib.Dec.{lit<}
use Rattle.std.proofs.lemmas.Result.{err_from_is_err_and}
use Rattle.base_codes.specs.Token.{NAME, IS, OF, BEGIN}
use Rattle.front_cursor.specs.Reading.{here, unread}
use Rattle.front_cursor.proofs.Steps.{one_asks, expect_ended, unread_ends}
use Rattle.front_declarations.specs.Headers.{header_here, header_at}
use Rattle.front_declarations.proofs.Steps.{cursor_asks, asks_header}
use Rattle.front_parser.proofs.RunLaws.{all_asks, all_ended}
use Rattle.front_parser.proofs.PartLaws.{words_asks, architecture_read, architecture_halted, variables_ended}
use Rattle.front_parser.proofs.architecture.Goals as goal

pub expect-requires : goal.expect-requires
expect-requires c = (lit< tt, cursor_asks c.requires)

pub returns-in_err-a : goal.returns-in_err-a
returns-in_err-a c =
    let s = c.args in
    let e = c.in_err-a.field-0.0 in
    let h = header_at (unread e) (header_here s.p) in
    let hh = words_asks s.text.kinds.now s.text.long.now c.requires c.in_err-a.ensures (all_ended s.text.kinds.now s.text.long.now s.text.count (NAME ∷ OF ∷ []) e) (all_ended s.text.kinds.now s.text.long.now s.text.count (NAME ∷ IS ∷ BEGIN ∷ []) e) (expect_ended s.text.kinds.now s.text.long.now s.text.count 30 e) refl in
    let p = err_from_is_err_and c.from_residual.result c.from_residual.ensures.1 in
    rw (p.1, p.2)
    (architecture_halted h _ _ _ e
    (architecture_read c.requires c.in_err-a.ensures (all_ended s.text.kinds.now s.text.long.now s.text.count (NAME ∷ OF ∷ []) e) (all_ended s.text.kinds.now s.text.long.now s.text.count (NAME ∷ IS ∷ BEGIN ∷ []) e) (expect_ended s.text.kinds.now s.text.long.now s.text.count 30 e) refl (variables_ended _ hh (unread_ends e)) (expect_ended s.text.kinds.now s.text.long.now s.text.count 29 e) refl))

pub expect_all-requires : goal.expect_all-requires
expect_all-requires c =
    let s = c.args in
    (refl, one_asks s.text.kinds.now s.text.long.now 27 (lit< tt) (cursor_asks c.requires) c.in_ok-a.ensures)

pub returns-in_err-b : goal.returns-in_err-b
returns-in_err-b c =
    let s = c.args in
    let e = c.in_err-b.field-0.0 in
    let h = header_at (unread e) (header_here s.p) in
    let hh = words_asks s.text.kinds.now s.text.long.now c.requires c.in_ok-a.ensures c.in_err-b.ensures (all_ended s.text.kinds.now s.text.long.now s.text.count (NAME ∷ IS ∷ BEGIN ∷ []) e) (expect_ended s.text.kinds.now s.text.long.now s.text.count 30 e) refl in
    let p = err_from_is_err_and c.from_residual-in_err-b.result c.from_residual-in_err-b.ensures.1 in
    rw (p.1, p.2)
    (architecture_halted h _ _ _ e
    (architecture_read c.requires c.in_ok-a.ensures c.in_err-b.ensures (all_ended s.text.kinds.now s.text.long.now s.text.count (NAME ∷ IS ∷ BEGIN ∷ []) e) (expect_ended s.text.kinds.now s.text.long.now s.text.count 30 e) refl (variables_ended _ hh (unread_ends e)) (expect_ended s.text.kinds.now s.text.long.now s.text.count 29 e) refl))

pub expect_all-requires-2 : goal.expect_all-requires-2
expect_all-requires-2 c =
    let s = c.args in
    let ha = one_asks s.text.kinds.now s.text.long.now 27 (lit< tt) (cursor_asks c.requires) c.in_ok-a.ensures in
    (refl, all_asks s.text.kinds.now s.text.long.now (NAME ∷ OF ∷ []) c.in_ok-b.ensures refl ha)

pub returns-in_err-c : goal.returns-in_err-c
returns-in_err-c c =
    let s = c.args in
    let e = c.in_err-c.field-0.0 in
    let h = header_at (unread e) (header_here s.p) in
    let hh = words_asks s.text.kinds.now s.text.long.now c.requires c.in_ok-a.ensures c.in_ok-b.ensures c.in_err-c.ensures (expect_ended s.text.kinds.now s.text.long.now s.text.count 30 e) refl in
    let p = err_from_is_err_and c.from_residual-in_err-c.result c.from_residual-in_err-c.ensures.1 in
    rw (p.1, p.2)
    (architecture_halted h _ _ _ e
    (architecture_read c.requires c.in_ok-a.ensures c.in_ok-b.ensures c.in_err-c.ensures (expect_ended s.text.kinds.now s.text.long.now s.text.count 30 e) refl (variables_ended _ hh (unread_ends e)) (expect_ended s.text.kinds.now s.text.long.now s.text.count 29 e) refl))

pub expect-requires-2 : goal.expect-requires-2
expect-requires-2 c =
    let s = c.args in
    let ha = one_asks s.text.kinds.now s.text.long.now 27 (lit< tt) (cursor_asks c.requires) c.in_ok-a.ensures in
    let hb = all_asks s.text.kinds.now s.text.long.now (NAME ∷ OF ∷ []) c.in_ok-b.ensures refl ha in
    (lit< tt, all_asks s.text.kinds.now s.text.long.now (NAME ∷ IS ∷ BEGIN ∷ []) c.in_ok-c.ensures refl hb)

pub returns-in_err-d : goal.returns-in_err-d
returns-in_err-d c =
    let s = c.args in
    let e = c.in_err-d.field-0.0 in
    let h = header_at (unread e) (header_here s.p) in
    let hh = words_asks s.text.kinds.now s.text.long.now c.requires c.in_ok-a.ensures c.in_ok-b.ensures c.in_ok-c.ensures c.in_err-d.ensures refl in
    let p = err_from_is_err_and c.from_residual-in_err-d.result c.from_residual-in_err-d.ensures.1 in
    rw (p.1, p.2)
    (architecture_halted h _ _ _ e
    (architecture_read c.requires c.in_ok-a.ensures c.in_ok-b.ensures c.in_ok-c.ensures c.in_err-d.ensures refl (variables_ended _ hh (unread_ends e)) (expect_ended s.text.kinds.now s.text.long.now s.text.count 29 e) refl))

pub variables-requires : goal.variables-requires
variables-requires c =
    let s = c.args in
    words_asks s.text.kinds.now s.text.long.now c.requires c.in_ok-a.ensures c.in_ok-b.ensures c.in_ok-c.ensures c.in_ok-d.ensures refl

pub returns-in_err-e : goal.returns-in_err-e
returns-in_err-e c =
    let s = c.args in
    let e = c.in_err-e.field-0.0 in
    let h = header_at (unread e) (header_at (here c.in_ok-d.d) (header_here s.p)) in
    let p = err_from_is_err_and c.from_residual-in_err-e.result c.from_residual-in_err-e.ensures.1 in
    rw (p.1, p.2)
    (architecture_halted h _ _ _ e
    (architecture_read c.requires c.in_ok-a.ensures c.in_ok-b.ensures c.in_ok-c.ensures c.in_ok-d.ensures refl c.in_err-e.ensures
    (expect_ended s.text.kinds.now s.text.long.now s.text.count 29 e) refl))

pub expect-requires-3 : goal.expect-requires-3
expect-requires-3 c =
    let s = c.args in
    let hh = words_asks s.text.kinds.now s.text.long.now c.requires c.in_ok-a.ensures c.in_ok-b.ensures c.in_ok-c.ensures c.in_ok-d.ensures refl in
    (lit< tt, cursor_asks (asks_header hh c.in_ok-e.ensures.moves))

pub returns-in_err-f : goal.returns-in_err-f
returns-in_err-f c =
    let e = c.in_err-f.field-0.0 in
    let p = err_from_is_err_and c.from_residual-in_err-f.result c.from_residual-in_err-f.ensures.1 in
    rw (p.1, p.2)
    (architecture_halted (header_here c.in_ok-e.e) _ _ _ e
    (architecture_read c.requires c.in_ok-a.ensures c.in_ok-b.ensures c.in_ok-c.ensures c.in_ok-d.ensures refl c.in_ok-e.ensures
    c.in_err-f.ensures refl))

pub returns : goal.returns
returns c =
    architecture_read c.requires c.in_ok-a.ensures c.in_ok-b.ensures c.in_ok-c.ensures c.in_ok-d.ensures refl c.in_ok-e.ensures
    c.in_ok-f.ensures refl
