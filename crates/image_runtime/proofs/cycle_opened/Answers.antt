-- `image_runtime::cycle_opened` meets its contract: the parts are the sections of the image, and what they come to is what the image comes to.
-- Assumes nothing.
use native.Mathlib.Omega.{arith}
use Rattle.image_runtime.proofs.OpenedImage.{all_bytes}
use Rattle.image_runtime.proofs.Whole.{placed, sections_advance}
use Rattle.image_runtime.proofs.cycle_opened.Goals as goal

pub slice_bounds-advance-count : goal.slice_bounds-advance-count
slice_bounds-advance-count c = let p = placed c.args.image.now c.args.at c.requires in omega arith

pub slice_bounds-advance-start : goal.slice_bounds-advance-start
slice_bounds-advance-start c = let p = placed c.args.image.now c.args.at c.requires in omega arith

pub slice_bounds-advance-end : goal.slice_bounds-advance-end
slice_bounds-advance-end c = let p = placed c.args.image.now c.args.at c.requires in omega arith

pub slice_bounds-advance-count-2 : goal.slice_bounds-advance-count-2
slice_bounds-advance-count-2 c = let p = placed c.args.image.now c.args.at c.requires in omega arith

pub slice_bounds-advance-start-2 : goal.slice_bounds-advance-start-2
slice_bounds-advance-start-2 c = let p = placed c.args.image.now c.args.at c.requires in omega arith

pub slice_bounds-advance-end-2 : goal.slice_bounds-advance-end-2
slice_bounds-advance-end-2 c = let p = placed c.args.image.now c.args.at c.requires in omega arith

pub slice_bounds-advance-count-3 : goal.slice_bounds-advance-count-3
slice_bounds-advance-count-3 c =
    let p = placed c.args.image.now c.args.at c.requires in
    omega arith

pub slice_bounds-advance-start-3 : goal.slice_bounds-advance-start-3
slice_bounds-advance-start-3 c =
    let p = placed c.args.image.now c.args.at c.requires in
    omega arith

pub slice_bounds-advance-end-3 : goal.slice_bounds-advance-end-3
slice_bounds-advance-end-3 c =
    let p = placed c.args.image.now c.args.at c.requires in
    omega arith

pub returns : goal.returns
returns c =
    let a = c.args in
    sections_advance a.image.now a.at c.requires
    (all_bytes a.image.now (λ k. omega (arith, c.type_inv.image k))) a.s a.inputs.now
    a.row.now _ _ c.advance.ensures
