-- `image_runtime::fresh_on_sections` meets its contract: the part is the signature section of the image. Assumes nothing.
use native.Mathlib.Omega.{arith}
use Rattle.image_runtime.proofs.OpenedImage.{all_bytes}
use Rattle.image_runtime.proofs.Whole.{placed}
use Rattle.image_runtime.proofs.Start.{fresh_state}
use Rattle.image_runtime.proofs.fresh_on_sections.Goals as goal

pub slice_bounds-fresh-count : goal.slice_bounds-fresh-count
slice_bounds-fresh-count c = let p = placed c.args.image.now c.args.at c.requires in omega arith

pub slice_bounds-fresh-start : goal.slice_bounds-fresh-start
slice_bounds-fresh-start c = let p = placed c.args.image.now c.args.at c.requires in omega arith

pub slice_bounds-fresh-end : goal.slice_bounds-fresh-end
slice_bounds-fresh-end c = let p = placed c.args.image.now c.args.at c.requires in omega arith

pub returns : goal.returns
returns c =
    let a = c.args in
    fresh_state a.image.now a.at c.requires
    (all_bytes a.image.now (λ k. omega (arith, c.type_inv.image k))) _ c.fresh.ensures
