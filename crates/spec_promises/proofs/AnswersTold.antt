-- The answers: each by the cases of its `Result`. Assumes nothing.
use Prim.Native.Nat.{ℕ}
use mathlib.Core.Path.{◌≡◌, refl, sym, ap}
use lib.ListN.{length}
use Rattle.std.specs.Prelude.{Err, Ok, Result}
use Rattle.base_answers.specs.declared.Counts.{Counts}
use Rattle.base_answers.specs.Answers.{done, refusal, told, cycle_told}
use Rattle.base_answers.proofs.Told.{done_refused}
use Rattle.base_answers.specs.declared.Refusal.{Refusal}
use Rattle.spec_promises.specs.Promises.{RefusedAs, AnswersTold}

-- an answer told as done is `Ok` of what is done
pub done_is : {A : Type 0} (r : Result A Refusal) (x : A) → told r ≡ done x → r ≡ Ok x
done_is (Ok y) x e = let z : y ≡ x = cc in ap Ok z
done_is (Err y) x e = done_refused (sym e)

-- one told as refused is a refusal by that number and place
pub refused_is : {A : Type 0} (r : Result A Refusal) (q k : ℕ) → told r ≡ refusal q k → RefusedAs r q k
refused_is (Ok y) q k e = done_refused e
refused_is (Err y) q k e = (y, refl, cc, cc)

cycled_is : (r : Result Counts Refusal) (n : ℕ) → cycle_told r ≡ done n → r ≡ Ok (record { lines = n })
cycled_is (Ok c) n e = let z : c.lines ≡ n = cc in ap (λ (k : ℕ). Ok (record { lines = k })) z
cycled_is (Err x) n e = done_refused (sym e)

cycle_refused_is : (r : Result Counts Refusal) (q k : ℕ) → cycle_told r ≡ refusal q k → RefusedAs r q k
cycle_refused_is (Ok c) q k e = done_refused e
cycle_refused_is (Err x) q k e = (x, refl, cc, cc)

pub answers_told : AnswersTold
answers_told =
    record {
      compiled = done_is;
      compile_refused = refused_is;
      started = λ r s e. done_is r tt e;
      start_refused = refused_is;
      cycled = λ r way e. cycled_is r (length way) e;
      cycle_refused = cycle_refused_is;
    }
