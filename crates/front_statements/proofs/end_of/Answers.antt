-- `front_statements::end_of` meets its contract: three tokens, one after another. Assumes nothing.
use mathlib.Core.Path.{sym}
use lib.Dec.{lit<}
use Rattle.std.proofs.lemmas.Result.{err_from_is_err_and}
use Rattle.front_cursor.proofs.Steps.{one_asks, expect_ended}
use Rattle.front_statements.proofs.end_of.Goals as goal

pub returns-in_err-f : goal.returns-in_err-f
returns-in_err-f c =
    let s = c.args in
    let p = err_from_is_err_and c.from_residual.result c.from_residual.ensures.1 in
    rw (p.1, p.2, sym c.in_err-f.ensures, sym (expect_ended s.text.kinds.now s.text.long.now s.text.count s.word c.in_err-f.field-0.0))
    (expect_ended s.text.kinds.now s.text.long.now s.text.count 7 _)

pub expect-requires-2 : goal.expect-requires-2
expect-requires-2 c =
    let s = c.args in
    (c.requires.0, one_asks s.text.kinds.now s.text.long.now 26 (lit< tt) c.requires.1 c.in_ok-f.ensures)

pub returns-in_err-g : goal.returns-in_err-g
returns-in_err-g c =
    let s = c.args in
    let p = err_from_is_err_and c.from_residual-in_err-g.result c.from_residual-in_err-g.ensures.1 in
    rw (p.1, p.2, sym c.in_ok-f.ensures, sym c.in_err-g.ensures) (expect_ended s.text.kinds.now s.text.long.now s.text.count 7 _)

pub expect-requires-3 : goal.expect-requires-3
expect-requires-3 c =
    let s = c.args in (
      lit< tt,
      one_asks s.text.kinds.now s.text.long.now s.word c.requires.0
          (one_asks s.text.kinds.now s.text.long.now 26 (lit< tt) c.requires.1 c.in_ok-f.ensures) c.in_ok-g.ensures,
    )
