-- `direct_statements::blocks::perform` meets its contract: the tests of the kind are those of the definition. Assumes nothing.
use mathlib.Core.Path.{◌≡◌, ap}
use mir.Syntax.{w32}
use mir.Val.{SFits}
use mir.Facts.{to_z-of_z}
use Rattle.std.specs.Prelude.{Err}
use Rattle.std.proofs.Common.{rules}
use Rattle.base_codes.specs.Fault.{outcome}
use Rattle.direct_statements.proofs.StatementLaws.{wait_acts, null_acts, ends_read, fault_acts, value_acts}
use Rattle.direct_statements.proofs.blocks.perform.Goals as goal

pub returns-then-k-eq-WAIT : goal.returns-then-k-eq-WAIT
returns-then-k-eq-WAIT c = wait_acts _ _ _ _ _ c.entry-k.ensures.value c.if-k-eq-WAIT.true

pub returns-then-k-eq-NULL : goal.returns-then-k-eq-NULL
returns-then-k-eq-NULL c = null_acts _ _ _ _ _ c.entry-k.ensures.value c.if-k-eq-NULL.true

pub returns-in_err-v : goal.returns-in_err-v
returns-in_err-v c =
    let r : c.from_residual.result ≡ Err c.in_err-v.field-0.0 = search rules in
    rw r (fault_acts _ _ _ _ _ c.entry-k.ensures.value c.if-k-eq-WAIT.false c.if-k-eq-NULL.false
    (ends_read _ _ _ _ _ c.entry-from.ensures.value c.entry-to.ensures.value c.evaluate.ensures.value) (ap outcome c.in_err-v.was))

pub returns : goal.returns
returns c =
    let fit : SFits w32 c.in_ok-v.v = search rules in
    value_acts _ _ _ _ _ (ends_read _ _ _ _ _ c.entry-from.ensures.value c.entry-to.ensures.value c.evaluate.ensures.value)
    (ap outcome c.in_ok-v.was) (rw (to_z-of_z fit) at c.assign.ensures)
