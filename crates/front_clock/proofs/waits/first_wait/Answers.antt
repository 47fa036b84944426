-- `front_clock::waits::first_wait` meets its contract. The invariant: the rest from here has the first wait where the whole has it. Assumes nothing.
use mathlib.Core.Path.{◌∙◌, ap}
use Rattle.front_clock.specs.Positions.{wait_from}
use Rattle.front_clock.proofs.Waiting.{waiting_first, waiting_found, waiting_again, waiting_stop}
use Rattle.front_clock.proofs.waits.first_wait.Goals as goal

pub loop-j-init : goal.loop-j-init
loop-j-init c = waiting_first _ _

pub returns-then-rows-j-eq-WAIT : goal.returns-then-rows-j-eq-WAIT
returns-then-rows-j-eq-WAIT c =
    c.from.ensures ∙
    (waiting_found _ _ _ c.loop-j-test.true c.if-rows-j-eq-WAIT.true
    c.loop-j.invariant ∙ ap (wait_from _ 0) c.min-end.ensures)

pub loop-j-preserved : goal.loop-j-preserved
loop-j-preserved c = waiting_again _ _ _ c.loop-j-test.true c.if-rows-j-eq-WAIT.false c.loop-j.invariant

pub returns : goal.returns
returns c = waiting_stop _ _ _ c.loop-j-test.false c.loop-j.invariant ∙ ap (wait_from _ 0) c.min-end.ensures
