-- `image_batch::widths_of` meets its contract: the part is the signature section of the image. Assumes nothing.
use native.Mathlib.Omega.{arith}
use Rattle.image_runtime.proofs.OpenedImage.{all_bytes}
use Rattle.image_runtime.proofs.Whole.{placed}
use Rattle.image_batch.proofs.RowLaws.{image_widths}
use Rattle.image_batch.proofs.widths_of.Goals as goal

pub slice_bounds-widths_in-count : goal.slice_bounds-widths_in-count
slice_bounds-widths_in-count c = let p = placed c.args.image.now c.args.at c.requires in omega arith

pub slice_bounds-widths_in-start : goal.slice_bounds-widths_in-start
slice_bounds-widths_in-start c = let p = placed c.args.image.now c.args.at c.requires in omega arith

pub slice_bounds-widths_in-end : goal.slice_bounds-widths_in-end
slice_bounds-widths_in-end c = let p = placed c.args.image.now c.args.at c.requires in omega arith

pub returns : goal.returns
returns c =
    let a = c.args in
    image_widths a.image.now a.at c.requires
    (all_bytes a.image.now (λ k. omega (arith, c.type_inv.image k))) _ _ c.widths_in.ensures
