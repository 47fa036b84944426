-- `front_declarations::ports` meets its contract: what has refused stays as it is, and else the contract of `port_groups` is its own. Assumes nothing.
use mathlib.Core.Path.{sym, subst}
use Rattle.std.specs.Prelude.{Err}
use Rattle.std.proofs.lemmas.Result.{err_from_is_err_and}
use Rattle.spec_grammar.specs.Grammar.{ports as ports_part}
use Rattle.front_layout.specs.Headings.{groups_names}
use Rattle.front_cursor.proofs.Steps.{unread_ends}
use Rattle.front_declarations.specs.Headers.{HeaderRead, header_here, header_after}
use Rattle.front_declarations.specs.Readers.{AsksGroup, PortsOver}
use Rattle.front_declarations.proofs.Steps.{after_header}
use Rattle.front_declarations.proofs.GroupLists.{ports_ended}
use Rattle.front_declarations.proofs.ports.Goals as goal

pub returns-in_err-p : goal.returns-in_err-p
returns-in_err-p g c =
    let s = c.args in
    let e = c.in_err-p.field-0.0 in
    let p = err_from_is_err_and c.from_residual.result c.from_residual.ensures.1 in
    let asks = subst (λ (h : HeaderRead). AsksGroup s.text.count h) (sym c.in_err-p.ensures) c.requires in
    rw (p.1, p.2)
    (subst (λ (h : HeaderRead). PortsOver ports_part groups_names s.text.kinds.now s.text.long.now s.text.count h s.decls.now (header_after h (Err e)) s.decls.now) c.in_err-p.ensures
    (ports_ended s.decls.now asks (unread_ends e)))

pub port_groups-requires : goal.port_groups-requires
port_groups-requires g c = subst (λ (h : HeaderRead). AsksGroup c.args.text.count h) (sym c.in_ok-p.ensures) c.requires

pub returns : goal.returns
returns g c =
    let s = c.args in
    let p = c.in_ok-p.p in
    let r = c.port_groups.result in
    subst (λ (h : HeaderRead). PortsOver ports_part groups_names s.text.kinds.now s.text.long.now s.text.count h s.decls.now (header_after h r) c.port_groups.new.decls) c.in_ok-p.ensures
    (subst (λ (x : HeaderRead). PortsOver ports_part groups_names s.text.kinds.now s.text.long.now s.text.count (header_here p) s.decls.now x c.port_groups.new.decls) (after_header p r)
    c.port_groups.ensures)
