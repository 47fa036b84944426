-- `direct_statements::blocks::part` meets its contract: the statements from the row on still have the wait; the measure is the rows left. Assumes nothing.
use native.Mathlib.Omega.{arith}
use Rattle.direct_statements.proofs.ResumeLaws.{later_first, later_found, later_again, later_inside}
use Rattle.direct_statements.proofs.blocks.part.Goals as goal

pub loop-at-init : goal.loop-at-init
loop-at-init c = (
  omega arith,
  (
    let b = c.requires in
        omega arith,
    λ codes args s h b x. later_first codes args c.args.rows.now s c.args.first c.args.end
        c.args.place h b x,
  ),
)

pub overflow_mul-at : goal.overflow_mul-at
overflow_mul-at c = let b = c.requires in let h = c.loop-at-test.true in omega arith

pub overflow_add-at : goal.overflow_add-at
overflow_add-at c = let b = c.requires in let h = c.loop-at-test.true in omega arith

pub returns-then-place-next : goal.returns-then-place-next
returns-then-place-next c =
    record {
      lower_bound = (c.loop-at.invariant.0, c.loop-at.invariant.1.0);
      by_index = (λ codes args s h b x. later_found codes args c.args.rows.now s
          c.args.first c.args.end
          c.args.place c.loop-at.at c.entry-next.result
          (c.loop-at.invariant.1.1 codes args s h b x) c.entry-next.ensures.value c.if-place-next.true);
    }

pub returns-then-next-at : goal.returns-then-next-at
returns-then-next-at c =
    record {
      lower_bound = (c.loop-at.invariant.0, c.loop-at.invariant.1.0);
      by_index = (λ codes args s h b x. absurd (let l = (later_again codes args c.args.rows.now s
          c.args.first c.args.end
          c.args.place c.loop-at.at c.entry-next.result
          (c.loop-at.invariant.1.1 codes args s h b x) c.entry-next.ensures.value c.if-place-next.false).0 in
          let g = c.if-next-at.true in omega arith));
    }

pub loop-at-smaller : goal.loop-at-smaller
loop-at-smaller c = let g = c.if-next-at.false in let h = c.loop-at-test.true in omega arith

pub loop-at-preserved : goal.loop-at-preserved
loop-at-preserved c =
    let g = c.if-next-at.false in
    let k = c.loop-at.invariant.0 in (
      omega arith,
      (
        c.entry-next.ensures.upper_bound,
        λ codes args s h b x. (later_again codes args
            c.args.rows.now s c.args.first
            c.args.end c.args.place
            c.loop-at.at c.entry-next.result
            (c.loop-at.invariant.1.1 codes args s h b x)
            c.entry-next.ensures.value c.if-place-next.false).1,
      ),
    )

pub returns : goal.returns
returns c =
    record {
      lower_bound = (c.loop-at.invariant.0, c.loop-at.invariant.1.0);
      by_index = (λ codes args s h b x. absurd (let l = later_inside codes args c.args.rows.now s c.args.first
          c.args.end c.args.place c.loop-at.at (c.loop-at.invariant.1.1 codes args s h b x) in
          let g = c.loop-at-test.false in omega arith));
    }
