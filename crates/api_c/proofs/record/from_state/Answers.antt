-- `api_c::record::from_state` meets its contract: the place, the outputs and the variables are written one after the other. Assumes nothing.
use mathlib.Core.Path.{◌∙◌}
use mir.Syntax.{w32}
use mir.Val.{SFits, to_z, of_z}
use mir.Facts.{to_z-of_z}
use Rattle.api_c.proofs.RecordLaws.{c_of_state_lem}
use borrow.Author.Rules.{rules}
use Rattle.api_c.proofs.record.from_state.Goals as goal

pub returns : goal.returns
returns c =
    let fit : SFits w32 c.from.result = search rules in
    c_of_state_lem c.args.s c.blank-slots.result c.copy_from_slice.new.self c.copy_from_slice-2.new.self (to_z w32 (of_z w32 c.from.result))
    c.blank-slots.ensures (search rules) (to_z-of_z fit ∙ c.from.ensures) c.copy_from_slice.ensures.after c.copy_from_slice-2.ensures.after
