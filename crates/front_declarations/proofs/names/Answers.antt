-- `front_declarations::names` meets its contract: what has refused stays as it is, and else the contract of `name_list` is its own. Assumes nothing.
use mathlib.Core.Path.{sym, subst}
use Rattle.std.specs.Prelude.{Err}
use Rattle.std.proofs.lemmas.Result.{err_from_is_err_and}
use Rattle.front_cursor.proofs.Steps.{unread_ends}
use Rattle.front_declarations.specs.Headers.{HeaderRead, header_here, header_after, AsksHeader}
use Rattle.front_declarations.specs.Readers.{NamesOver}
use Rattle.front_declarations.proofs.Steps.{after_header}
use Rattle.front_declarations.proofs.NameLists.{names_ended}
use Rattle.front_declarations.proofs.names.Goals as goal

pub returns-in_err-p : goal.returns-in_err-p
returns-in_err-p g c =
    let s = c.args in
    let e = c.in_err-p.field-0.0 in
    let p = err_from_is_err_and c.from_residual.result c.from_residual.ensures.1 in
    let asks = subst (λ (h : HeaderRead). AsksHeader s.text.count h) (sym c.in_err-p.ensures) c.requires in
    rw (p.1, p.2)
    (subst (λ (h : HeaderRead). NamesOver s.text.kinds.now s.text.long.now s.text.count h s.variables (header_after h (Err e))) c.in_err-p.ensures
    (names_ended asks (unread_ends e)))

pub name_list-requires : goal.name_list-requires
name_list-requires g c = subst (λ (h : HeaderRead). AsksHeader c.args.text.count h) (sym c.in_ok-p.ensures) c.requires

pub returns : goal.returns
returns g c =
    let s = c.args in
    let p = c.in_ok-p.p in
    let r = c.name_list.result in
    subst (λ (h : HeaderRead). NamesOver s.text.kinds.now s.text.long.now s.text.count h s.variables (header_after h r)) c.in_ok-p.ensures
    (subst (λ (x : HeaderRead). NamesOver s.text.kinds.now s.text.long.now s.text.count (header_here p) s.variables x) (after_header p r)
    c.name_list.ensures)
