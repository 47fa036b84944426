-- `api_c::rabtishu_open` meets its contract: the opener's, its answer as three numbers, whose place has 32 bits. Assumes nothing.
use mathlib.Core.Path.{ap, ◌∙◌}
use Rattle.base_answers.specs.Answers.{Told}
use Rattle.base_answers.specs.declared.Sections.{Sections}
use Rattle.spec_format.specs.Opening.{open_of}
use Rattle.base_answers.specs.Numbers.{numbers_of, uncounted}
use Rattle.api_c.proofs.CallLaws.{opened_numbers_lem}
use native.Mathlib.Omega.{arith}
use Rattle.image_runtime.proofs.OpenedImage.{all_bytes}
use Rattle.api_c.proofs.NarrowLaws.{open_narrow}
use Rattle.api_c.proofs.rabtishu_open.Goals as goal

pub answered-requires : goal.answered-requires
answered-requires c =
    let b = c.args.image.now in
    open_narrow b (all_bytes b (λ k. omega (arith, c.shared_slice_known-1.given k))) c.«open».result c.«open».ensures

pub returns : goal.returns
returns c =
    let b = c.args.image.now in
    c.answered.ensures ∙ (ap (λ (t : Told Sections). numbers_of (uncounted t)) c.«open».ensures ∙ opened_numbers_lem b (open_of b))
