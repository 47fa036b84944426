-- What the front end's answer says of the verdict: the process of an accepted text with what holds it, or the refusal. Assumes nothing.
use mathlib.Core.Path.{◌≡◌, refl, sym, ◌∙◌, ap, subst}
use mathlib.Core.List.{List}
use Prim.Native.Nat.{ℕ}
use lib.IntN.{ℤ}
use Rattle.base_answers.specs.declared.Refusal.{Refusal}
use Rattle.base_answers.specs.Answers.{number_of, place_of, refusal, refused_by}
use Rattle.base_answers.proofs.Told.{done_refused}
use Rattle.spec_design.specs.Process.{Process, WellFormed}
use Rattle.spec_language.specs.Verdict.{Verdict, accepted, refused, verdict}
use Rattle.spec_language.proofs.Judged.{accepts}
use Rattle.spec_language.proofs.WellFormed.{valid_well_formed}
use Rattle.base_ir.specs.declared.Declared.{Declared}
use Rattle.std.specs.Prelude.{Result, Ok, Err}
use Rattle.front_accept.specs.Designs.{Border}
use Rattle.front_accept.specs.Fronts.{DesignArrays, FrontAs, front_told}

-- an accepted text: its process, and the struct and the arrays that hold it
pub record Design (text : List ℕ) (d : Declared) (ops : List ℕ) (args : List ℤ) (lines : List ℕ) : Type 0 where
  pub process : Process
  pub is_verdict : verdict text ≡ accepted process
  pub border : Border text process d ops args lines
  pub formed : WellFormed process

module _ (text : List ℕ) (r : Result Declared Refusal) (after : DesignArrays) (f : FrontAs (verdict text) text r after) where
  pub design_of : {d : Declared} → r ≡ Ok d → Design text d after.ops after.args after.lines
  design_of {d} e = go (verdict text) refl (subst (λ (x : Result Declared Refusal). FrontAs (verdict text) text x after) e f)
    where
      go : (v : Verdict) → verdict text ≡ v → FrontAs v text (Ok d) after → Design text d after.ops after.args after.lines
      go (accepted p) h (g, k) = record { process = p; is_verdict = h; border = k; formed = valid_well_formed ((accepts text p).0 h) }
      go (refused n k) h (g, u) = done_refused g

  -- a refused text: its verdict has the number and the place of the refusal that the front end answers
  pub turned_of : {x : Refusal} → r ≡ Err x → verdict text ≡ refused (number_of x) (place_of x)
  turned_of {x} e = go (verdict text) refl f
    where
      go : (v : Verdict) → verdict text ≡ v → FrontAs v text r after → verdict text ≡ refused (number_of x) (place_of x)
      go (accepted p) h (g, k) = done_refused (sym g ∙ ap front_told e)
      go (refused n k) h (g, u) =
          let z : refused_by x ≡ refusal n k = sym (ap front_told e) ∙ g in
          let y : n ≡ number_of x = cc in
          let w : k ≡ place_of x = cc in
          h ∙ rw (y, w)
