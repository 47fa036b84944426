-- `direct_cycle::checks::state_right` meets its contract: the parts in use are those of `in_use`. Assumes nothing.
use mathlib.Core.Path.{◌≡◌}
use native.Mathlib.Omega.{arith}
use lib.ListN.{length}
use borrow.Author.Rules.{rules}
use Rattle.direct_cycle.proofs.checks.state_right.Goals as goal

pub slice_bounds-state_check-end : goal.slice_bounds-state_check-end
slice_bounds-state_check-end c =
    let l : length c.args.d.outputs.types ≡ 32 = search rules in
    let b = c.requires.3 in omega arith

pub slice_bounds-state_check-end-2 : goal.slice_bounds-state_check-end-2
slice_bounds-state_check-end-2 c =
    let l : length c.args.d.variables.types ≡ 32 = search rules in
    let b = c.requires.4 in omega arith

pub returns : goal.returns
returns c = record { value = c.state_check.ensures.value; outputs_len = c.state_check.ensures.outputs_len }
