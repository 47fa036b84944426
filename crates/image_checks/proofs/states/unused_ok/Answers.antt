-- `image_checks::states::unused_ok` meets its contract: every slot is tested. Assumes nothing.
use Rattle.std.proofs.Common.{rules, tests, pos, ◌∙◌}
use Rattle.std.proofs.lemmas.Iterator.Search.{all_from_yields_List}
use Rattle.std.proofs.lemmas.Iterator.{YieldsList-from_slice}
use Rattle.spec_design.specs.Types.{eq_z}
use Rattle.image_checks.proofs.Steps.{zeros_all}
use Rattle.image_checks.proofs.states.unused_ok.Goals as goal

pub returns : goal.returns
returns c =
    let l = c.args.slots.now in
    all_from_yields_List (λ z. eq_z z (pos 0)) _ _ c.all.result c.all.ensures.ran (YieldsList-from_slice l cc) (λ x b q k. search (rules, tests)) ∙ zeros_all l
