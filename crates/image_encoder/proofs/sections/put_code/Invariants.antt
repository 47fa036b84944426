use Rattle.std.proofs.Common.{◌≡◌, ◌+◌, ◌-◌, ◌*◌, ◌≤◌}
use lib.Seq.{sets}
use Rattle.image_encoder.specs.Emitted.{code_from}
use Rattle.image_encoder.proofs.sections.put_code.Given as goal

abbrev pub invariant-loop-i : goal.invariant-loop-i
invariant-loop-i l = record {
  place : l.p ≤ l.at + 5 * l.i;
  rest : sets l.image l.p (code_from l.codes l.args l.i (l.k - l.i)) ≡ sets l.initial.image l.at (code_from l.codes l.args 0 l.k);
}
