-- What the front end's answer says of a compile. Assumes nothing.
use mathlib.Core.Path.{◌≡◌, refl, ap}
use Prim.Native.Nat.{ℕ}
use mathlib.Core.List.{List}
use lib.IntN.{ℤ}
use Rattle.std.specs.Prelude.{Result, Err}
use Rattle.base_answers.specs.declared.Refusal.{Refusal}
use Rattle.base_answers.specs.Answers.{told}
use Rattle.spec_language.specs.Verdict.{Verdict, verdict}
use Rattle.spec_format.specs.Encode.{encode}
use Rattle.spec_format.specs.Writing.{written_into}
use Rattle.spec_interface.specs.Compile.{on_verdict, compile_of}
use Rattle.base_ir.specs.declared.Declared.{Declared}
use Rattle.front_accept.specs.Fronts.{DesignArrays, FrontAs}
use Rattle.front_accept.proofs.Told.{Design, turned_of}

pub compiled_accepted : {text : List ℕ} {d : Declared} {ops : List ℕ} {args : List ℤ} {lines : List ℕ} (x : Design text d ops args lines) (b : List ℕ)
    → compile_of text b ≡ written_into (encode x.process) b
unfolding compile_of
compiled_accepted x b = ap (λ (v : Verdict). on_verdict v b) x.is_verdict

-- a refused text
pub compiled_refused : (text : List ℕ) (r : Result Declared Refusal) {x : Refusal} (after : DesignArrays) (b : List ℕ) → FrontAs (verdict text) text r after
    → r ≡ Err x
    → (told (Err x) ≡ (compile_of text b).answer) × (b ≡ (compile_of text b).buffer)
unfolding compile_of
compiled_refused text r after b f e = rw (turned_of text r after f e) (refl, refl)
