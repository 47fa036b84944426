-- `direct_statements::cycles::enter` meets its contract: 512 is the beginning, any other place a wait of the body. Assumes nothing.
use mathlib.Core.Path.{refl}
use mathlib.Core.Option.{some}
use mathlib.Core.List.{[]}
use native.Mathlib.Omega.{arith}
use Rattle.direct_statements.specs.Standing.{run}
use Rattle.direct_statements.proofs.EntryLaws.{enter_starts, enter_resumes, place_wait}
use Rattle.direct_statements.proofs.cycles.enter.Goals as goal

pub returns-then-place-eq-BEGINNING : goal.returns-then-place-eq-BEGINNING
returns-then-place-eq-BEGINNING c =
    let u = c.start.ensures.result_bound in record {
      result_bound = omega arith;
      enters = (λ s h b x. enter_starts s c.args.place
          c.args.inputs.now
          (run [] c.args.outputs.now
          c.args.variables.now) c.start.result _ _
          c.if-place-eq-BEGINNING.true (c.start.ensures.starts (some s) [] (h, b) refl));
    }

pub returns : goal.returns
returns c =
    let u = c.resume.ensures.result_bound in record {
      result_bound = omega arith;
      enters = (λ s h b x. enter_resumes s c.args.place
          c.args.inputs.now
          (run [] c.args.outputs.now
          c.args.variables.now) c.resume.result _ _
          c.if-place-eq-BEGINNING.false
          (c.resume.ensures.resumes s h b
          (place_wait s c.args.place
          c.if-place-eq-BEGINNING.false x)));
    }
