-- `api_c::record::to_state` meets its contract, field by field. Assumes nothing.
use mathlib.Core.Path.{ap, ◌∙◌}
use lib.ListN.{get_or}
use lib.IntN.{pos}
use mir.Syntax.{w32}
use mir.Val.{SFits}
use mir.Facts.{to_z-of_z}
use Rattle.spec_interface.specs.CInterface.{place_of_c}
use Rattle.api_c.proofs.RecordLaws.{state_of}
use borrow.Author.Rules.{rules}
use Rattle.api_c.proofs.record.to_state.Goals as goal

pub returns : goal.returns
returns c =
    let fit : SFits w32 (get_or c.args.slots 0 (pos 0)) = search rules in
    state_of c.args.slots _ _ _ (c.place_from-place.ensures ∙ ap place_of_c (to_z-of_z fit)) c.copy_from_slice.ensures.after
    c.copy_from_slice-2.ensures.after
