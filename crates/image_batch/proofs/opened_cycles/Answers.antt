-- `image_batch::opened_cycles` meets its contract: the lengths are judged by the image's widths, then come the rows. Assumes nothing.
use Rattle.image_batch.proofs.CallLaws.{not_due, lengths, taken}
use Rattle.image_batch.proofs.opened_cycles.Goals as goal

pub returns-then-not-all_due : goal.returns-then-not-all_due
returns-then-not-all_due c =
    rw c.refused.ensures (not_due c.args.image.now c.args.s c.args.count c.args.inputs.now c.args.outputs.now c.args.answers.now
    c.args.at c.requires c.widths_of-width.result c.widths_of-width.ensures _
    c.all_due.ensures c.if-not-all_due.true)

pub rows-p-requires : goal.rows-p-requires
rows-p-requires c =
    let l = lengths c.args.image.now c.args.s c.args.count c.args.inputs.now c.args.outputs.now c.args.answers.now c.args.at
    c.requires c.widths_of-width.result c.widths_of-width.ensures _
    c.all_due.ensures c.if-not-all_due.false in record { at_value = c.requires; due = l }

pub returns : goal.returns
returns c =
    taken c.args.image.now c.args.s c.args.count c.args.inputs.now c.args.outputs.now c.args.answers.now c.args.at c.requires
    c.widths_of-width.result
    c.widths_of-width.ensures _
    c.all_due.ensures
    c.if-not-all_due.false c.rows-p.result _ _
    c.rows-p.ensures
