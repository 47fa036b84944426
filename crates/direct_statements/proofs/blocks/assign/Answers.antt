-- `direct_statements::blocks::assign` meets its contract: an if or a while picks a part, any other kind with a value stores it. Assumes nothing.
use mathlib.Core.Path.{sym, ◌∙◌}
use mir.Facts.{to_z-of_z}
use Rattle.direct_statements.proofs.StatementLaws.{branch_acts, store_acts}
use Rattle.direct_statements.proofs.blocks.assign.Goals as goal

pub returns-then-has_parts : goal.returns-then-has_parts
returns-then-has_parts c =
    branch_acts c.requires _ _ _
    (sym c.has_parts.ensures ∙ c.if-has_parts.true) c.entry.ensures.value
    c.entry-then-has_parts.ensures.value (rw (to_z-of_z c.ranges.v) at c.branch-at.ensures)

pub returns : goal.returns
returns c =
    store_acts c.requires _ _ _
    (sym c.has_parts.ensures
    ∙ c.if-has_parts.false) c.entry-n.ensures.value
    (rw (to_z-of_z c.ranges.v) at c.store.ensures) (rw (to_z-of_z c.ranges.v) at c.store-2.ensures)
