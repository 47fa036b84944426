-- `trace_lines::printing::put_integer` meets its contract: by its sign. Assumes nothing.
use mir.Facts.{to_z-of_z}
use Rattle.trace_lines.proofs.PrintingLaws.{puts_up, puts_down}
use Rattle.trace_lines.proofs.printing.put_integer.Goals as goal
use Rattle.trace_lines.proofs.printing.put_integer.Goals.{then-v-lt0, else-v-lt0}

pub returns : goal.returns
returns c =
    let same = to_z-of_z c.ranges.v in
    elim c.if-v-lt0.branch [
      | then-v-lt0 w ↦
          puts_down _ _ _ _ (rw same at c.unsigned_abs.ensures.value) _ _ _ _ (rw same at w.if-v-lt0.true) w.put-next.ensures
          (rw (w.out-is, w.next-is) at c.put_number.ensures)
      | else-v-lt0 w ↦
          puts_up _ _ _ _ (rw same at c.unsigned_abs.ensures.value) _ _ (rw same at w.if-v-lt0.false)
          (rw (w.out-is, w.next-is) at c.put_number.ensures)
    ]
