-- `base_files::shown::SlotsDisplay::fmt` meets its contract: a slot is printed unless its value is 0. Assumes nothing.
use Rattle.std.proofs.Common.{◌≡◌, sym, ◌∙◌, ap, get_or, rules, w32}
use Rattle.std.specs.Prelude.{pos}
use Rattle.std.proofs.Output.{has_written_append, has_written_of_eq}
use Rattle.std.proofs.Math.Facts.{to_z-of_z}
use Rattle.base_files.proofs.SlotLaws.{slot_shown, slot_left}
use Rattle.base_files.proofs.shown.SlotsDisplay.fmt.Goals as goal
use Rattle.base_files.proofs.shown.SlotsDisplay.fmt.Goals.{then-v-ne0+in_ok-write, else-v-ne0}
use mir.Val.{SFits, of_z, to_z}

pub loop-k-preserved : goal.loop-k-preserved
loop-k-preserved g c plain =
    let at = c.loop-k.k-counter in
    let all = c.args.self.now.values.now in
    let fit : SFits w32 (get_or all at (pos 0)) = search rules in
    elim c.if-v-ne0.branch [
      | then-v-ne0+in_ok-write w ↦
          rw w.f-is
          (has_written_of_eq _ _ _ _ _ (slot_shown _ all at (λ e. w.if-v-ne0.true (ap (of_z w32) e)))
          (has_written_append _ _ _ _ _ _ (c.loop-k.invariant plain) (search rules)))
      | else-v-ne0 w ↦
          let zero : get_or all at (pos 0) ≡ pos 0 = sym (to_z-of_z fit) ∙ ap (to_z w32) w.if-v-ne0.false in
          rw w.f-is (has_written_of_eq _ _ _ _ _ (slot_left _ all at zero) (c.loop-k.invariant plain))
    ]
