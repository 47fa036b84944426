-- `front_typing::statements::statement_at` meets its contract: its numbers are those of the row. Assumes nothing.
use mathlib.Core.Path.{◌∙◌}
use Rattle.front_typing.specs.Expressions.{sources_of}
use Rattle.front_typing.proofs.StatementLaws.{statement_judged, statement_outside}
use Rattle.front_typing.proofs.statements.statement_at.Goals as goal

pub expression-e-requires : goal.expression-e-requires
expression-e-requires c = c.if-to-gt-TEXT.false

pub returns-then-to-gt-TEXT : goal.returns-then-to-gt-TEXT
returns-then-to-gt-TEXT c =
    let s = c.args in
    statement_outside (sources_of s.tree.now) s.tree.now.rows.now s.j
    c.from-to.result (c.from-to.ensures ∙ c.statement.ensures) c.if-to-gt-TEXT.true

pub returns : goal.returns
returns c =
    let s = c.args in
    statement_judged (sources_of s.tree.now) s.tree.now.rows.now s.j
    c.statement-4.result c.from-i.result c.from-from.result c.from-to.result c.wanted_type-wanted.result c.place.result
    c.offence-wrong.result c.lower.result c.expression-e.result c.fits.result
    c.statement-4.ensures (c.from-i.ensures ∙ c.statement-3.ensures) (c.from-from.ensures ∙ c.statement-2.ensures) (c.from-to.ensures ∙ c.statement.ensures)
    c.if-to-gt-TEXT.false c.expression-e.ensures c.wanted_type-wanted.ensures c.fits.ensures c.place.ensures c.offence-wrong.ensures
    c.lower.ensures
