-- `trace_lines::fill_opened` meets its contract. The invariant: what is put so far, then what the rest from here puts, is what the whole puts. The measure is
-- what is left of the rows. Assumes nothing.
use mathlib.Core.Path.{sym, ◌∙◌}
use native.Mathlib.Omega.{arith}
use Rattle.image_runtime.proofs.OpenedImage.{all_bytes}
use Rattle.trace_lines.proofs.FillLaws.{more_facts, filling_first, filling_kept, filling_again, filling_less, filling_end}
use Rattle.trace_lines.proofs.fill_opened.Goals as goal

pub loop-at-init : goal.loop-at-init
loop-at-init c = filling_first _ _ _ _

pub overflow_sub-out : goal.overflow_sub-out
overflow_sub-out c = let g = c.loop-at.invariant in let k = filling_kept _ _ _ _ _ _ _ g in omega (arith, g.fits)

pub append-line-requires : goal.append-line-requires
append-line-requires c =
    let g = c.loop-at.invariant in
    let k = filling_kept _ _ _ _ _ _ _ g in (
      c.requires,
      (more_facts _ _ _
          (sym c.has_more.ensures ∙ c.loop-at-test.true)).1,
      omega (arith, g.fits),
    )

pub loop-at-smaller : goal.loop-at-smaller
loop-at-smaller c =
    filling_less _ _ _ _ _ _ _ c.loop-at.invariant
    (sym c.has_more.ensures ∙ c.loop-at-test.true) _
    c.append-line.ensures.0

pub loop-at-preserved : goal.loop-at-preserved
loop-at-preserved c =
    let bytes = all_bytes c.args.image.now
    (λ k. omega (arith, c.shared_slice_known-1.given k)) in
    filling_again _ _ _ _ _ _ _ c.loop-at.invariant bytes
    (sym c.has_more.ensures ∙ c.loop-at-test.true) _ _ _
    c.append-line.ensures.0 c.append-line.ensures.1

pub shape_of-out : goal.shape_of-out
shape_of-out c = filling_kept _ _ _ _ _ _ _ c.loop-at.invariant

pub returns : goal.returns
returns c = filling_end _ _ _ _ _ _ _ c.loop-at.invariant (sym c.has_more.ensures ∙ c.loop-at-test.false)
