-- `direct_cycle::calls::fresh` meets its contract: the slots are the initial values, then 0. Assumes nothing.
use native.Mathlib.Omega.{arith}
use mathlib.Core.Path.{◌≡◌, refl, ◌∙◌}
use lib.ListN.{length}
use Rattle.direct_cycle.proofs.CallLaws.{part_first, fresh_law}
use borrow.Author.Rules.{rules}
use Rattle.direct_cycle.proofs.calls.fresh.Goals as goal

pub slice_bounds-fill-end : goal.slice_bounds-fill-end
slice_bounds-fill-end c = let l : length c.args.d.outputs.values ≡ 32 = search rules in let b = c.requires.3 in omega arith

pub slice_bounds-fill-end-3 : goal.slice_bounds-fill-end-3
slice_bounds-fill-end-3 c =
    let l : length c.args.d.variables.values ≡ 32 = search rules in
    let b = c.requires.4 in omega arith

pub returns : goal.returns
returns c =
    λ p n. fresh_law p _ _ _ _ _ refl c.fill.ensures c.fill-2.ensures
    (part_first c.args.d.outputs.values
    c.args.d.outputs.count ∙ n.first_outputs.1)
    (part_first c.args.d.variables.values
    c.args.d.variables.count ∙ n.first_variables.1)
