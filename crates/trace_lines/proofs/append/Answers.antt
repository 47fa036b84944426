-- `trace_lines::append` meets its contract: the next line is put into the part of the buffer behind its first bytes. Assumes nothing.
use native.Mathlib.Omega.{arith}
use Rattle.trace_lines.proofs.FillLaws.{part_puts, part_inside}
use Rattle.trace_lines.proofs.append.Goals as goal

pub overflow_add-result : goal.overflow_add-result
overflow_add-result c =
    let a = c.args in
    let z = part_inside a.out.now a.size _ _ _ c.requires.2
    c.next-line.ensures.1 in omega arith

pub returns : goal.returns
returns c =
    let a = c.args in
    (c.next-line.ensures.0, part_puts a.out.now a.size _ _ _ c.next-line.ensures.1)
