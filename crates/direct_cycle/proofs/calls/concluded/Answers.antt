-- `direct_cycle::calls::concluded` meets its contract: each case is what it calls. Assumes nothing.
use mathlib.Core.Path.{refl, ap, ◌∙◌}
use Rattle.std.specs.Prelude.{Err}
use Rattle.base_answers.specs.declared.Refusal.{Refusal}
use Rattle.direct_cycle.proofs.calls.concluded.Goals as goal

pub returns-in-Passed : goal.returns-in-Passed
returns-in-Passed c = rw c.in-Passed.is c.performed.ensures

pub returns-in-Reached : goal.returns-in-Reached
returns-in-Reached c = rw c.in-Reached.is c.performed-in-Reached.ensures

pub returns-in-Refused : goal.returns-in-Refused
returns-in-Refused c =
    rw c.in-Refused.is (λ small few. (
      c.refused.ensures
          ∙ ap (λ (z : Refusal). record { state = c.args.s; answer = Err z })
          c.operator_refusal.ensures,
      refl,
    ))
