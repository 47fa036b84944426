-- `trace_lines::rows::store` meets its contract: past the end nothing is stored. Assumes nothing.
use mathlib.Core.Path.{sym}
use lib.Seq.{set_out}
use Rattle.trace_lines.proofs.rows.store.Goals as goal

pub returns-else-n-values : goal.returns-else-n-values
returns-else-n-values c = sym (set_out _ _ _ c.if-n-values.false)
