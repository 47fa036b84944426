-- What is done is not refused, and an answer that is `Ok` is done. Assumes nothing.
use Rattle.std.specs.Prelude.{◌≡◌, refl, Result, Ok, Err, is_ok}
use Rattle.base_answers.specs.declared.Refusal.{Refusal}
use Rattle.base_answers.specs.declared.Counts.{Counts}
use Prim.Native.Nat.{ℕ}
use native.Mathlib.Omega.{arith}
use Rattle.base_answers.specs.Answers.{done, refusal, told, is_done, cycle_told}

pub done_refused : {A B : Type 0} {x : A} {q k : ℕ} → done x ≡ refusal q k → B
done_refused e = absurd (let z : ◌≡◌ {A = ℕ} 0 1 = cc in omega arith)

-- an answer is `Ok` where it is told as done
pub ok_done : {A : Type 0} (r : Result A Refusal) → is_ok r ≡ is_done (told r)
ok_done (Ok x) = refl
ok_done (Err r) = refl

pub ok_performed : (c : Result Counts Refusal) → is_ok c ≡ is_done (cycle_told c)
ok_performed (Ok n) = refl
ok_performed (Err r) = refl
