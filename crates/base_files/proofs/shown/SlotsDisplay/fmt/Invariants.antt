use Rattle.std.specs.Fmt.{HasWritten, IsPlainFormatter}
use Rattle.base_files.specs.Shown.{slots_to}
use Rattle.base_files.proofs.shown.SlotsDisplay.fmt.Given as goal

abbrev pub invariant-loop-k : goal.invariant-loop-k
invariant-loop-k g l =
    IsPlainFormatter l.initial.f
    → HasWritten g.W.Write.write_str_gives l.initial.f (slots_to l.label l.v-items l.k-counter) l.f
