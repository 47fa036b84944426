-- `direct_statements::cycles::cycle` meets its contract: a cycle is the body entered, then started again where it is passed. Assumes nothing.
use mathlib.Core.Option.{some}
use mathlib.Core.List.{[]}
use native.Mathlib.Omega.{arith}
use Rattle.spec_semantics.specs.Equations.{enter as enter_of, cycle as cycle_of}
use Rattle.spec_semantics.specs.DirectRow.{place_for}
use Rattle.direct_statements.specs.Standing.{run}
use Rattle.direct_statements.proofs.cycles.cycle.Goals as goal

pub returns-then-size-gt-STATEMENTS : goal.returns-then-size-gt-STATEMENTS
returns-then-size-gt-STATEMENTS c = λ s h b l x. absurd (let g = c.if-size-gt-STATEMENTS.true in omega arith)

pub returns : goal.returns
unfolding cycle_of
returns c =
    λ s h b l x. c.go_on.ensures.goes_on
    (enter_of s (place_for c.args.place)
    c.args.inputs.now
    (run [] c.args.outputs.now
    c.args.variables.now)) (some s)
    (c.enter-r.ensures.enters s h b x) (h, b)
