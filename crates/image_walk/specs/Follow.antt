-- Lines followed, by their bytes: at most so many lines from a line on (document 01, "Classes and cycles", "Image, form 1"). Assumes nothing.
use Rattle.std.specs.Prelude.{List, ℕ, zero, suc, ℤ}
use Rattle.base_codes.specs.Image as M
use Rattle.image_walk.specs.Moves.{value_at, move_at, stored_at}
use Rattle.image_walk.specs.declared.Move.{Move}
use Rattle.image_walk.specs.declared.Move.TheVariants.{Wait, Next}
use Rattle.base_codes.specs.Fault.{number_of}
use Rattle.spec_design.specs.Expression.{Out, fine, fault}
use Rattle.image_walk.specs.declared.Followed.{Followed}
use Rattle.image_walk.specs.declared.Followed.TheVariants.{Reached, Stopped, Spent}

-- where the lines lead: to a wait, with the number of lines performed; to a refusal's number at a line; or to no wait within the lines allowed
pub data Lead : Type 0 where
  at_wait : ℕ → ℕ → Lead
  stopped : ℕ → ℕ → Lead
  spent : Lead

-- the same, as an answer tells it
abbrev pub lead_of : Followed → Lead
lead_of (Reached x n) = at_wait x n
lead_of (Stopped q x) = stopped (number_of q) x
lead_of Spent = spent

-- where the lines lead, with outputs and variables as they are left
pub record Went : Type 0 where
  pub answer : Lead
  pub outputs : List ℤ
  pub variables : List ℤ

abbrev pub went : Followed → List ℤ → List ℤ → Went
went r o v = record { answer = lead_of r; outputs = o; variables = v }

-- after the line x, the n lines before it counted, with the outputs o and the variables v that it leaves; go is what is done at the line that follows
abbrev pub went_on : Out Move → ℕ → ℕ → List ℤ → List ℤ → (ℕ → Went) → Went
went_on (fine Wait) x n o v go = record { answer = at_wait x (suc n); outputs = o; variables = v }
went_on (fine (Next y)) x n o v go = go y
went_on (fault q) x n o v go = record { answer = stopped q x; outputs = o; variables = v }

-- at most `left` lines from the line x on, n having been performed before
unfoldable pub follow_at : List ℕ → List ℕ → List ℕ → List ℕ → List ℤ → ℕ → ℕ → ℕ → List ℤ → List ℤ → Went
follow_at l c is vs i zero x n o v = record { answer = spent; outputs = o; variables = v }
follow_at l c is vs i (suc left) x n o v =
    let e = value_at l c x is vs i v in
    let o' = stored_at M.OUTPUT l x e o in
    let v' = stored_at M.VARIABLE l x e v in
    went_on (move_at l x e) x n o' v' (λ y. follow_at l c is vs i left y (suc n) o' v')
