-- `trace_lines::next` meets its contract: the line of the row at the place. Assumes nothing.
use native.Mathlib.Omega.{arith}
use Rattle.trace_lines.proofs.ChunkLaws.{goes_facts, line_fits, next_some}
use Rattle.trace_lines.proofs.RowLaws.{row_inside}
use Prim.Native.Nat.{◌-◌}
use Rattle.trace_lines.proofs.next.Goals as goal

pub row_line-ran-requires : goal.row_line-ran-requires
row_line-ran-requires c =
    let a = c.args in (
      c.requires.0,
      line_fits a.rows.now _ a.p.number a.p.at
          (c.part_end-end.result - a.p.at) c.requires.1 c.part_of.ensures,
    )

pub overflow_add-end : goal.overflow_add-end
overflow_add-end c =
    let f = goes_facts _ _ _ c.requires.1 in
    let r = row_inside _ _ f.1 in
    omega (arith, f.0, r.1, c.part_end-end.ensures)

pub overflow_add-progress : goal.overflow_add-progress
overflow_add-progress c = let f = goes_facts _ _ _ c.requires.1 in omega (arith, f.2)

pub returns : goal.returns
returns c =
    next_some _ _ c.args.p
    c.requires.1 _ _ _ _ _ _ _
    c.part_end-end.ensures c.part_of.ensures
    c.row_line-ran.ensures c.min.ensures
