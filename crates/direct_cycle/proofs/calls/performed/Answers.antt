-- `direct_cycle::calls::performed` meets its contract: the tests hold for no place of a text and no row of its length. Assumes nothing.
use native.Mathlib.Omega.{arith}
use Rattle.direct_cycle.proofs.calls.performed.Goals as goal

pub returns-then-row-gt-OUTPUTS : goal.returns-then-row-gt-OUTPUTS
returns-then-row-gt-OUTPUTS c = λ small few. absurd (let h = c.if-row-gt-OUTPUTS.true in omega arith)

pub returns-then-p-gt-LAST : goal.returns-then-p-gt-LAST
returns-then-p-gt-LAST c = λ small few. absurd (let h = c.if-p-gt-LAST.true in omega arith)
