-- `front_parser::process` meets its contract: the statements, and six tokens. Assumes nothing.
use mathlib.Core.Path.{refl}
use mathlib.Core.List.{[], ◌∷◌}
use lib.Dec.{lit≤}
use Rattle.std.proofs.lemmas.Result.{err_from_is_err_and}
use Rattle.base_codes.specs.Token.{NAME, SEMI, END, PROCESS}
use Rattle.front_statements.proofs.Steps.{cursor_asks, asks_listing}
use Rattle.front_parser.proofs.RunLaws.{all_asks, all_ended}
use Rattle.front_parser.proofs.PartLaws.{first_asks, process_read, process_halted}
use Rattle.front_parser.proofs.process.Goals as goal

pub body-requires : goal.body-requires
body-requires c = (lit≤ tt, first_asks c.requires.0)

pub returns-in_err-a : goal.returns-in_err-a
returns-in_err-a c =
    let s = c.args in
    let e = c.in_err-a.field-0.0 in
    let p = err_from_is_err_and c.from_residual.result c.from_residual.ensures.1 in
    rw (p.1, p.2)
    (process_halted 0 _ e
    (process_read c.requires.0 c.requires.1 c.in_err-a.ensures (all_ended s.text.kinds.now s.text.long.now s.text.count (END ∷ PROCESS ∷ SEMI ∷ END ∷ []) e)
    (all_ended s.text.kinds.now s.text.long.now s.text.count (NAME ∷ SEMI ∷ []) e)))

pub expect_all-requires : goal.expect_all-requires
expect_all-requires c = (refl, cursor_asks (asks_listing (first_asks c.requires.0) c.in_ok-a.ensures.moves))

pub returns-in_err-b : goal.returns-in_err-b
returns-in_err-b c =
    let s = c.args in
    let e = c.in_err-b.field-0.0 in
    let p = err_from_is_err_and c.from_residual-in_err-b.result c.from_residual-in_err-b.ensures.1 in
    rw (p.1, p.2)
    (process_halted c.in_ok-a.a.statements _ e
    (process_read c.requires.0 c.requires.1 c.in_ok-a.ensures c.in_err-b.ensures (all_ended s.text.kinds.now s.text.long.now s.text.count (NAME ∷ SEMI ∷ []) e)))

pub expect_all-requires-2 : goal.expect_all-requires-2
expect_all-requires-2 c =
    let s = c.args in
    let ha = cursor_asks (asks_listing (first_asks c.requires.0) c.in_ok-a.ensures.moves) in
    (refl, all_asks s.text.kinds.now s.text.long.now (END ∷ PROCESS ∷ SEMI ∷ END ∷ []) c.in_ok-b.ensures refl ha)

pub returns-in_err-c : goal.returns-in_err-c
returns-in_err-c c =
    let e = c.in_err-c.field-0.0 in
    let p = err_from_is_err_and c.from_residual-in_err-c.result c.from_residual-in_err-c.ensures.1 in
    rw (p.1, p.2)
    (process_halted c.in_ok-a.a.statements _ e (process_read c.requires.0 c.requires.1 c.in_ok-a.ensures c.in_ok-b.ensures c.in_err-c.ensures))

pub returns : goal.returns
returns c = process_read c.requires.0 c.requires.1 c.in_ok-a.ensures c.in_ok-b.ensures c.in_ok-c.ensures
