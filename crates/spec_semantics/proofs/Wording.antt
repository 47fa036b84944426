-- The equations say what document 01 says, word for word, where their definition takes a shortcut: a statement of class C is never passed when
-- started, so that testing or starting once more changes nothing. Assumes nothing.
use Prim.Native.Nat.{ℕ, suc}
use mathlib.Core.Path.{◌≡◌, refl, sym, ◌∙◌}
use mathlib.Core.Bool.{Bool, true, false}
use mathlib.Core.List.{List}
use lib.IntN.{ℤ}
use Rattle.spec_design.specs.Expression.{Expr, Out, fine, fault}
use Rattle.spec_design.specs.Statement.{Stmt, while, C, class_of}
use Rattle.spec_semantics.specs.Equations.{Run, passed, holds, then, tested, start, Place, cycle}
use Rattle.spec_semantics.proofs.Results.{then_assoc, then_cong, then_stays, C_stops}

-- "A while, started, tests its condition: false, it is passed; true, its body is started. .. Whenever its body is passed, it tests again."
pub while_again : (e : Expr) (b : Stmt) → class_of b ≡ C → (n : ℕ) (i : List ℤ) (σ : Run)
    → start (while e b) n i σ ≡ tested (holds e i σ.memory) n σ (λ τ. then (start b (suc n) i τ) (λ ρ. start (while e b) n i ρ)) passed
unfolding start tested
while_again e b c n i σ = go (holds e i σ.memory)
  where
    go : (v : Out Bool) → tested v n σ (λ τ. start b (suc n) i τ) passed ≡ tested v n σ (λ τ. then (start b (suc n) i τ) (λ ρ. start (while e b) n i ρ)) passed
    go (fine true) = sym (then_stays _ _ (λ τ h. C_stops b c (suc n) i _ τ h))
    go (fine false) = refl
    go (fault q) = refl

-- "whenever passed, it is started again without stopping": a cycle, were it passed, would start the body again
pub again : (s : Stmt) → class_of s ≡ C → (q : Place) (i : List ℤ) (σ : Run) → cycle s q i σ ≡ then (cycle s q i σ) (λ τ. start s 0 i τ)
unfolding cycle
again s c q i σ = sym (then_assoc _ _ _ ∙ then_cong _ _ _ _ refl (λ τ. then_stays _ _ (λ ρ h. C_stops s c 0 i τ ρ h)))
