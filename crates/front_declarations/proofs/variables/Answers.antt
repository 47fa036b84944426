-- `front_declarations::variables` meets its contract: what has refused stays as it is, and else the contract of `variable_groups` is its own. Assumes nothing.
use mathlib.Core.Path.{sym, subst}
use Rattle.std.specs.Prelude.{Err}
use Rattle.std.proofs.lemmas.Result.{err_from_is_err_and}
use Rattle.front_cursor.proofs.Steps.{unread_ends}
use Rattle.front_declarations.specs.Headers.{HeaderRead, header_here, header_after, AsksHeader}
use Rattle.front_declarations.specs.Readers.{VariablesOver}
use Rattle.front_declarations.proofs.Steps.{after_header}
use Rattle.front_declarations.proofs.GroupLists.{variables_ended}
use Rattle.front_declarations.proofs.variables.Goals as goal

pub returns-in_err-p : goal.returns-in_err-p
returns-in_err-p g c =
    let s = c.args in
    let e = c.in_err-p.field-0.0 in
    let p = err_from_is_err_and c.from_residual.result c.from_residual.ensures.1 in
    let asks = subst (λ (h : HeaderRead). AsksHeader s.text.count h) (sym c.in_err-p.ensures) c.requires in
    rw (p.1, p.2)
    (subst (λ (h : HeaderRead). VariablesOver s.text.kinds.now s.text.long.now s.text.count h s.decls.now (header_after h (Err e)) s.decls.now) c.in_err-p.ensures
    (variables_ended s.decls.now asks (unread_ends e)))

pub variable_groups-requires : goal.variable_groups-requires
variable_groups-requires g c = subst (λ (h : HeaderRead). AsksHeader c.args.text.count h) (sym c.in_ok-p.ensures) c.requires

pub returns : goal.returns
returns g c =
    let s = c.args in
    let p = c.in_ok-p.p in
    let r = c.variable_groups.result in
    subst (λ (h : HeaderRead). VariablesOver s.text.kinds.now s.text.long.now s.text.count h s.decls.now (header_after h r) c.variable_groups.new.decls) c.in_ok-p.ensures
    (subst (λ (x : HeaderRead). VariablesOver s.text.kinds.now s.text.long.now s.text.count (header_here p) s.decls.now x c.variable_groups.new.decls) (after_header p r)
    c.variable_groups.ensures)
