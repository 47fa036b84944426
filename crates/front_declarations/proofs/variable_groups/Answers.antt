-- `front_declarations::variable_groups` meets its contract: the loop's invariant is that the groups have only grown; a turn gets further, or refuses. Assumes
-- nothing.
use mathlib.Core.Path.{refl, sym, ◌∙◌}
use native.Mathlib.Omega.{arith}
use borrow.Author.Tests.{eqb-true, eqb-false}
use Rattle.std.proofs.lemmas.Result.{err_from_is_err_and}
use Rattle.front_cursor.proofs.Steps.{unread_ends}
use Rattle.front_declarations.specs.Headers.{header_here}
use Rattle.front_declarations.proofs.Steps.{asks_header}
use Rattle.front_declarations.proofs.GroupLists.{variables_none, variables_again, variables_read, variables_halted}
use Rattle.front_declarations.proofs.variable_groups.Goals as goal

pub loop-text-init : goal.loop-text-init
loop-text-init c = variables_none c.args.decls.now c.requires

pub variable_group-requires : goal.variable_group-requires
variable_group-requires c =
    (asks_header c.requires c.loop-text.invariant.moves, eqb-true _ 33 (sym c.follows.ensures ∙ c.loop-text-test.true))

pub returns-in_err-a : goal.returns-in_err-a
returns-in_err-a c =
    let p = err_from_is_err_and c.from_residual.result c.from_residual.ensures.1 in
    rw (p.1, p.2)
    (variables_halted (header_here c.loop-text.a) _ c.requires
    (variables_read (variables_again c.loop-text.invariant c.in_err-a.ensures) (λ z. absurd (unread_ends _ z))))

pub loop-text-smaller : goal.loop-text-smaller
loop-text-smaller c =
    let i = c.loop-text.invariant.moves in
    let m = c.in_ok-a.ensures.moves in
    let f = c.in_ok-a.ensures.further refl in
    omega arith

pub loop-text-preserved : goal.loop-text-preserved
loop-text-preserved c = variables_again c.loop-text.invariant c.in_ok-a.ensures

pub returns : goal.returns
returns c = variables_read c.loop-text.invariant (λ z. eqb-false _ 33 (sym c.follows.ensures ∙ c.loop-text-test.false))
