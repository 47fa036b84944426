-- `trace_lines::row_line` meets its contract: the values that were read, or an unreadable row. Assumes nothing.
use mathlib.Core.Path.{refl}
use Rattle.trace_lines.proofs.ShowLaws.{first_values, read_values, read_nothing, row_known, row_unknown}
use Rattle.trace_lines.specs.Rows.{decimals}
use Rattle.trace_lines.proofs.row_line.Goals as goal

pub returns-in-Some : goal.returns-in-Some
returns-in-Some c =
    row_known _ _ _ _ _ _ _ _ _ _ (read_values (decimals c.args.line.now) _ _ _ _ refl c.read_row.ensures c.in-Some.is)
    (first_values _ _ _ c.read_row.auto.values c.min-k.ensures) c.call_row.ensures

pub returns-in-None : goal.returns-in-None
returns-in-None c =
    row_unknown _ _ _ _ _ _ _ _
    (read_nothing (decimals c.args.line.now) _ _ _
    c.read_row.ensures c.in-None.is) refl
    c.refused_line-size.ensures
