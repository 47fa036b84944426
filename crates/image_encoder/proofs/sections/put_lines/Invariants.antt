use Rattle.std.proofs.Common.{◌≡◌, ◌+◌, ◌-◌, ◌*◌, ◌≤◌}
use lib.Seq.{sets}
use Rattle.spec_format.specs.Image.{raws_bytes}
use Rattle.image_encoder.specs.Emitted.{lines_from}
use Rattle.image_encoder.proofs.sections.put_lines.Given as goal

abbrev pub invariant-loop-j : goal.invariant-loop-j
invariant-loop-j l = record {
  offset : l.p ≤ 81920 * l.j;
  rest : sets l.image (l.at + 12 * l.j) (raws_bytes (lines_from l.codes l.rows l.links l.reaches l.j (l.n - l.j) l.p))
      ≡ sets l.initial.image l.at (raws_bytes (lines_from l.codes l.rows l.links l.reaches 0 l.n 0));
}
