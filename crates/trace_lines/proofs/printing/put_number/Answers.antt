-- `trace_lines::printing::put_number` meets its contract: 20 digits are enough. Assumes nothing.
use native.Mathlib.Omega.{arith}
use Rattle.trace_lines.proofs.PrintingLaws.{digits_enough}
use Rattle.trace_lines.proofs.printing.put_number.Goals as goal

pub returns : goal.returns
returns c = c.put_digits.ensures 19 (digits_enough _ (omega arith))
