-- `direct_cycle::checks::row_check` meets its contract: both lengths, then the values. Assumes nothing.
use mathlib.Core.Path.{◌∙◌}
use Rattle.direct_cycle.proofs.CheckLaws.{inputs_wrong, room_wrong, values_judged}
use Rattle.direct_cycle.proofs.checks.row_check.Goals as goal

pub returns-then-inputs-types : goal.returns-then-inputs-types
returns-then-inputs-types c =
    inputs_wrong c.args.types.now c.args.inputs.now c.args.outputs
    c.args.room c.if-inputs-types.true

pub returns-then-room-outputs : goal.returns-then-room-outputs
returns-then-room-outputs c =
    room_wrong c.args.types.now c.args.inputs.now c.args.outputs
    c.args.room c.if-inputs-types.false c.if-room-outputs.true

pub returns : goal.returns
returns c =
    c.first_wrong.ensures ∙ values_judged c.args.types.now
    c.args.inputs.now c.args.outputs c.args.room
    c.if-inputs-types.false c.if-room-outputs.false
