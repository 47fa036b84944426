use Rattle.std.proofs.Common.{◌≡◌, ◌+◌, ◌-◌, ◌*◌, ◌≤◌}
use Rattle.image_encoder.specs.Emitted.{width_from}
use Rattle.image_encoder.proofs.sections.run_width.Given as goal

abbrev pub invariant-loop-i : goal.invariant-loop-i
invariant-loop-i l = record {
  rest : l.w + width_from l.codes l.i (l.stop - l.i) ≡ width_from l.codes l.from (l.stop - l.from);
  few : l.w + 5 * (l.stop - l.i) ≤ 5 * l.stop;
}
