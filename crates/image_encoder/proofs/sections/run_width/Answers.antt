-- `image_encoder::sections::run_width` meets its contract. The invariant: what is counted and the rest is the whole. Assumes nothing.
use Rattle.std.proofs.Common.{arith}
use Rattle.std.proofs.Common.{◌∙◌, ap, ◌-◌, ℕ}
use Rattle.image_encoder.specs.Emitted.{width_from}
use Rattle.image_encoder.proofs.SectionsLaws.{width_again, width_done}
use Rattle.image_encoder.proofs.sections.run_width.Goals as goal

pub loop-i-preserved : goal.loop-i-preserved
loop-i-preserved c =
    record {
      rest = width_again _ _ _ _ _ _ c.loop-i-test.true c.width-w.ensures.value c.loop-i.invariant.rest;
      few = omega (arith, c.width-w.ensures.upper_bound);
    }

pub returns-clause-value : goal.returns-clause-value
returns-clause-value c =
    width_done _ _ _ _ _ c.loop-i-test.false c.loop-i.invariant.rest
    ∙ ap (λ (s : ℕ). width_from c.args.codes.now c.args.from (s - c.args.from)) c.min-stop.ensures
