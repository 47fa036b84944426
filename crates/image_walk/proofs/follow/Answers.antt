-- `image_walk::follow` meets its contract. The loop's invariant: the rest of the lines answers what the whole answers. Assumes nothing.
use mathlib.Core.Path.{refl, ap}
use native.Mathlib.Omega.{arith}
use Rattle.std.proofs.Common.{rules}
use Rattle.spec_design.specs.Expression.{fine}
use Rattle.image_walk.proofs.Turns.{rest_spent, rest_again, rest_wait, rest_stopped}
use Rattle.image_walk.proofs.follow.Goals as goal

pub returns-in-Err : goal.returns-in-Err
returns-in-Err c =
    let m = c.loop-n in
    rest_stopped m.n m.invariant.rest c.loop-n-test.true c.line_of.ensures c.in-Err.ensures.performs_line _ refl

pub returns-in-Wait : goal.returns-in-Wait
returns-in-Wait c =
    let m = c.loop-n in
    rest_wait m.n m.invariant.rest c.loop-n-test.true c.line_of.ensures c.in-Ok.ensures.performs_line (ap fine c.in-Wait.is)

pub loop-n-preserved : goal.loop-n-preserved
loop-n-preserved c =
    let m = c.loop-n in record {
      rest = rest_again m.n m.invariant.rest c.loop-n-test.true c.line_of.ensures c.in-Ok.ensures.performs_line _ (ap fine c.in-Next.is);
      outputs = search rules;
      variables = search rules;
      room = c.perform-m.ensures.room;
    }

pub returns : goal.returns
returns c = rest_spent c.loop-n.n c.loop-n.invariant.rest (let h = c.loop-n-test.false in omega arith)
