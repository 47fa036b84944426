-- Demand 2 on the definitions, from the theorems of language, semantics and behaviour. Assumes nothing.
use mathlib.Core.List.{List}
use Prim.Native.Nat.{ℕ}
use Rattle.spec_language.proofs.Judged.{accepts, refuses}
use Rattle.spec_language.proofs.Answers.{valid_one, one_reading}
use Rattle.spec_language.proofs.WellFormed.{valid_well_formed}
use Rattle.spec_semantics.proofs.Rows.{rows_answer}
use Rattle.spec_semantics.proofs.PublishedRows.{rows_published}
use Rattle.spec_semantics.proofs.PrintedRows.{rows_printed}
use Rattle.spec_behaviour.proofs.DirectRun.{direct_run}
use Rattle.spec_promises.specs.Promises.{Demand2}

pub demand2 : (b : List ℕ) → Demand2 b
demand2 b = record {
  accepts = accepts b;
  refuses = refuses b;
  one_reading = λ t u p q. one_reading p q;
  one_meaning = λ d e v w. valid_one v w;
  published = λ d v cs. rows_published d (valid_well_formed v) cs;
  printed = λ d v cs. rows_printed d (valid_well_formed v) cs;
  answered = λ d v cs. rows_answer d (valid_well_formed v) cs;
  direct = direct_run b;
}
