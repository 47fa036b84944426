-- `front_declarations::next_name` meets its contract: a token, then a name. Assumes nothing.
use mathlib.Core.Path.{sym}
use borrow.Author.Tests.{ne_eqb}
use lib.Dec.{lit<}
use Rattle.std.proofs.lemmas.Result.{err_from_is_err_and}
use Rattle.front_cursor.specs.Reading.{unread}
use Rattle.front_cursor.proofs.Steps.{unread_ends}
use Rattle.front_declarations.specs.Headers.{header_here, name_at}
use Rattle.front_declarations.proofs.Steps.{at_by, asks_header, took_moves}
use Rattle.front_declarations.proofs.next_name.Goals as goal

pub returns-in_err-cursor : goal.returns-in_err-cursor
unfolding name_at
returns-in_err-cursor c =
    let p = err_from_is_err_and c.from_residual.result c.from_residual.ensures.1 in
    rw (p.1, p.2, sym c.in_err-cursor.ensures, ne_eqb (unread c.in_err-cursor.field-0.0).fault 0 (unread_ends _))

pub name-requires : goal.name-requires
name-requires c =
    let s = c.args in
    asks_header c.requires
    (took_moves s.text.kinds.now s.text.long.now 9 (lit< tt) c.requires (at_by (header_here s.p) c.in_ok-cursor.ensures))
