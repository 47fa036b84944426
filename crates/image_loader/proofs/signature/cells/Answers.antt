-- `image_loader::signature::cells` meets its contract: the test of each cell by its place. Assumes nothing.
use Rattle.std.proofs.Common.{◌+◌, ◌*◌, arith, refl, rules, tests, ◌∙◌}
use Rattle.std.proofs.lemmas.Iterator.Search.{all_from_yields_List}
use Rattle.std.proofs.lemmas.Iterator.{YieldsList-from_range}
use Rattle.image_loader.proofs.SignatureLaws.{cell_here, cells_all}
use Rattle.image_loader.proofs.signature.cells.Goals as goal

pub returns : goal.returns
returns c =
    let a = c.args in
    all_from_yields_List (λ k. cell_here (a.at + 5 * k) a.s.now) _ _ c.all.result c.all.ensures.ran (YieldsList-from_range 0 a.n a.n refl (omega arith))
    (λ x b q k. search (rules, tests)) ∙ cells_all a.n 0 a.at a.at a.s.now (omega arith)
