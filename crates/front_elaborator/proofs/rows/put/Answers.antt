-- `front_elaborator::rows::put` meets its contract: the row as it is, then its target. Assumes nothing.
use Rattle.std.proofs.Common.{arith}
use Rattle.front_layout.specs.Rows.{set_row}
use Rattle.front_elaborator.proofs.RowLoop.{row_copied}
use Rattle.front_elaborator.proofs.rows.put.Goals as goal

pub returns : goal.returns
unfolding set_row
returns c =
    rw (← c.target_at-target.ensures)
    (row_copied c.args.out.now c.args.rows.now _ _ _ _ (omega arith) (omega arith) (omega arith) c.copy_from_slice.ensures.after)
