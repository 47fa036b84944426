-- `image_loader::signature::types` meets its contract: the test of each place from the first to the last. Assumes nothing.
use Rattle.std.proofs.Common.{◌+◌, arith, refl, rules, tests, ◌∙◌}
use Rattle.std.proofs.lemmas.Iterator.Search.{all_from_yields_List}
use Rattle.std.proofs.lemmas.Iterator.{YieldsList-from_range}
use Rattle.image_loader.proofs.SignatureLaws.{type_here, types_all}
use Rattle.image_loader.proofs.signature.types.Goals as goal

pub returns : goal.returns
returns c =
    let a = c.args in
    all_from_yields_List (λ k. type_here k a.s.now) _ _ c.all.result c.all.ensures.ran (YieldsList-from_range a.at (a.at + a.n) a.n refl (omega arith))
    (λ x b q k. search (rules, tests)) ∙ types_all a.n a.at a.s.now
