-- What entry leaves and tells beside its answers: each by the cases of the answer. Assumes nothing.
use Prim.Native.Nat.{ℕ}
use mathlib.Core.Path.{ap}
use mathlib.Core.List.{List}
use Rattle.base_answers.specs.declared.State.{State}
use Rattle.spec_semantics.specs.Records.{Started}
use Rattle.spec_interface.specs.Entry.{state_after, opening_told}
use Rattle.spec_interface.specs.Told.{ToldByEntry}

pub told_by_entry : (text image : List ℕ) (s : State) → ToldByEntry text image s
told_by_entry text image s =
    let after : Started → State = λ x. state_after x s in
    record {
      opened = λ x t e. ap (opening_told x) e;
      open_refused = λ x q k e. ap (opening_told x) e;
      started = λ x e. ap after e;
      start_refused = λ q k e. ap after e;
      run_started = λ x e. ap after e;
      run_start_refused = λ q k e. ap after e;
    }
