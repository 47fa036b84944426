-- `trace_header::blank` meets its contract. Assumes nothing.
use mathlib.Core.Path.{refl}
use Rattle.trace_header.specs.Lines.{padded, line_of}
use Rattle.trace_header.proofs.blank.Goals as goal

pub returns : goal.returns
unfolding line_of padded
returns c = refl
