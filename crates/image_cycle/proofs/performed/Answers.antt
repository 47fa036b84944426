-- `image_cycle::performed` meets its contract: a line of an opened image fits the place. Assumes nothing.
use native.Mathlib.Omega.{arith}
use Rattle.image_cycle.proofs.performed.Goals as goal

pub returns-then-p-gt-LAST : goal.returns-then-p-gt-LAST
returns-then-p-gt-LAST c = λ small. absurd (let h = c.if-p-gt-LAST.true in omega arith)
