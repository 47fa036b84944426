-- `direct_statements::blocks::inside` meets its contract: the statement with the wait is found, and of it the part with the wait. Assumes nothing.
use mathlib.Core.Path.{refl, sym, ◌∙◌}
use native.Mathlib.Omega.{arith}
use Rattle.direct_statements.proofs.ResumeLaws.{part_rows, part_waited, part_within, within_nested, part_inside}
use Rattle.direct_statements.proofs.blocks.inside.Goals as goal

pub returns-then-next-at : goal.returns-then-next-at
returns-then-next-at c =
    record {
      inside_rows = tt;
      resumes_at = (λ codes args s h b x. let p = part_rows codes args _ s _ _ _ _ (c.part-at.ensures.by_index codes args s h b x) in
          let n = c.entry-next.ensures.value in let g = c.if-next-at.true in omega arith);
    }

pub returns-then-end-next : goal.returns-then-end-next
returns-then-end-next c =
    record {
      inside_rows = tt;
      resumes_at = (λ codes args s h b x. let p = part_rows codes args _ s _ _ _ _ (c.part-at.ensures.by_index codes args s h b x) in
          let n = c.entry-next.ensures.value in let g = c.if-end-next.true in omega arith);
    }

pub returns-then-kind-eq-WAIT : goal.returns-then-kind-eq-WAIT
returns-then-kind-eq-WAIT c =
    let p = c.part-at.ensures.lower_bound in
    let x = c.if-next-at.false in
    let y = c.if-end-next.false in record {
      inside_rows = (omega arith, omega arith);
      resumes_at = (λ codes args s h b x. part_waited codes args _ s _ _ _ _
          (c.part-at.ensures.by_index codes args s h b x) _ c.entry-next.ensures.value
          (sym c.entry-kind.ensures.value ∙ c.if-kind-eq-WAIT.true));
    }

pub returns-then-nested : goal.returns-then-nested
returns-then-nested c =
    record {
      inside_rows = part_inside _ _ _ _ _ _ c.entry-kind.result _ _
          c.part-at.ensures.lower_bound.0
          c.if-next-at.false
          c.if-end-next.false
          c.requires.1 c.nested.ensures
          c.if-nested.true c.again.ensures;
      resumes_at = (λ codes args s h b x. (part_within codes args _ s _ _ _ _
          (c.part-at.ensures.by_index codes args s h b x)
          c.entry-next.ensures.value
          c.entry-kind.ensures.value c.if-kind-eq-WAIT.false
          c.entry-other.ensures.value c.pick-a.ensures
          c.pick-b.ensures c.again.ensures).within);
    }

pub returns : goal.returns
returns c =
    record {
      inside_rows = tt;
      resumes_at = (λ codes args s h b x. within_nested codes args _ s _ _ _ _
          (c.part-at.ensures.by_index codes args s h b x) _
          (part_within codes args _ s _ _ _ _
          (c.part-at.ensures.by_index codes args s h b x)
          c.entry-next.ensures.value
          c.entry-kind.ensures.value c.if-kind-eq-WAIT.false
          c.entry-other.ensures.value c.pick-a.ensures c.pick-b.ensures refl)
          c.nested.ensures c.if-nested.false);
    }
