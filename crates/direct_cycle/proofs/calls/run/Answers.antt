-- `direct_cycle::calls::run` meets its contract: the cycle works on the parts of the slots that are in use. Assumes nothing.
use mathlib.Core.Path.{◌≡◌}
use native.Mathlib.Omega.{arith}
use lib.ListN.{length}
use Rattle.spec_semantics.proofs.Described.{parts}
use Rattle.direct_cycle.proofs.CallLaws.{run_concluded}
use borrow.Author.Rules.{rules}
use Rattle.direct_cycle.proofs.calls.run.Goals as goal

pub returns-then-output_count-gt-OUTPUTS : goal.returns-then-output_count-gt-OUTPUTS
returns-then-output_count-gt-OUTPUTS c =
    λ p d oc vc room f. absurd (let h = c.if-output_count-gt-OUTPUTS.true in let b = d.well_formed.outputs in omega arith)

pub returns-then-variable_count-gt-VARIABLES : goal.returns-then-variable_count-gt-VARIABLES
returns-then-variable_count-gt-VARIABLES c =
    λ p d oc vc room f. absurd (let h = c.if-variable_count-gt-VARIABLES.true in let b = d.well_formed.variables in omega arith)

pub slice_bounds-outputs-end : goal.slice_bounds-outputs-end
slice_bounds-outputs-end c =
    let lo : length c.args.s.outputs ≡ 16 = search rules in
    let h = c.if-output_count-gt-OUTPUTS.false in omega arith

pub slice_bounds-variables-end : goal.slice_bounds-variables-end
slice_bounds-variables-end c =
    let lo : length c.args.s.variables ≡ 32 = search rules in
    let h = c.if-variable_count-gt-VARIABLES.false in omega arith

pub returns : goal.returns
returns c =
    λ p d oc vc room f.
    let a = c.args in
    run_concluded p a.s f d.well_formed a.inputs.now a.row.now room a.output_count a.variable_count oc vc _ _
    c.cycle-r.result c.concluded.result _
    (c.cycle-r.ensures p.body d.body d.block
    (let b = d.well_formed.statements in let e = d.body.end in omega arith) (parts p a.s f).0)
    c.concluded.ensures (search rules) (search rules)
