-- What a turn of the loop over lines keeps: the rest of the lines answers what the whole answers. Assumes nothing.
use Prim.Native.Nat.{ℕ, suc, ◌+◌, ◌*◌, ◌-◌, ◌≤◌, ◌<◌}
use native.Mathlib.Omega.{arith}
use mathlib.Core.Path.{◌≡◌, refl, sym, ap, ◌∙◌}
use mathlib.Core.List.{List}
use lib.ListN.{take, drop}
use lib.IntN.{ℤ}
use Rattle.spec_format.specs.Image.{RawLine}
use Rattle.spec_format.specs.Opening.{raw_line_at}
use Rattle.base_codes.specs.declared.fault.Fault.{Fault}
use Rattle.base_codes.specs.Fault.{number_of}
use Rattle.spec_design.specs.Expression.{Out, fine, fault}
use Rattle.image_evaluator.specs.declared.Found.{Found}
use Rattle.image_evaluator.specs.Value.{machine_for, part_value, evaluated_of}
use Rattle.image_walk.specs.Moves.{value_at, move_of, stored_of, Performs, PerformsLine}
use Rattle.image_walk.specs.Follow.{Went, went, went_on, follow_at}
use Rattle.image_walk.specs.declared.Move.{Move}
use Rattle.image_walk.specs.declared.Move.TheVariants.{Wait, Next}
use Rattle.image_walk.specs.declared.Followed.TheVariants.{Reached, Stopped, Spent}
use Rattle.image_walk.proofs.Fields.{at, raw_take, raw_drop}

-- One line more, by the bytes: the move m and what the line leaves.
pub follow_on : (l c is vs : List ℕ) (i : List ℤ) (k x n : ℕ) (o v : List ℤ) (m : Out Move) (o' v' : List ℤ) → Performs l x (value_at l c x is vs i v) o v m o' v'
    → follow_at l c is vs i (suc k) x n o v ≡ went_on m x n o' v' (λ y. follow_at l c is vs i k y (suc n) o' v')
unfolding follow_at
follow_on l c is vs i k x n o v m o' v' p = rw (p.move, p.outputs, p.variables) refl

-- a line that was lent as its own bytes
line_performed : (l c is vs : List ℕ) (i : List ℤ) (x : ℕ) (o v : List ℤ) (d : List ℕ) (m : Out Move) (o' v' : List ℤ) → d ≡ take 12 (drop (x * 12) l)
    → PerformsLine d c is vs i o v m o' v' → Performs l x (value_at l c x is vs i v) o v m o' v'
line_performed l c is vs i x o v d m o' v' lent p =
    let e : raw_line_at d ≡ at l x = ap (λ (s : List ℕ). raw_line_at s) lent ∙ (raw_take (drop (x * 12) l) ∙ raw_drop l x) in
    record {
      move = p.move ∙ ap (λ (w : RawLine). move_of w.kind (value_of w) w.next w.other) e;
      outputs = p.outputs ∙ ap (λ (w : RawLine). stored_of 1 w.kind w.target (value_of w) o) e;
      variables = p.variables ∙ ap (λ (w : RawLine). stored_of 2 w.kind w.target (value_of w) v) e;
    }
  where
    value_of : RawLine → Out Found
    value_of w = evaluated_of (part_value (machine_for is vs i v) c w.offset w.size)

module _ (l c is vs : List ℕ) (i : List ℤ) (limit first : ℕ) (o₀ v₀ : List ℤ) where
  abbrev whole : Went
  whole = follow_at l c is vs i limit first 0 o₀ v₀

  -- at the line x, n lines having been performed, with outputs o and variables v: the rest answers what the whole answers
  pub record Rest (n x : ℕ) (o v : List ℤ) : Type 0 where
    pub same : follow_at l c is vs i (limit - n) x n o v ≡ whole

  pub rest_first : Rest 0 first o₀ v₀
  rest_first = record { same = let z : limit - 0 ≡ limit = omega arith in rw z refl }

module _ {l c is vs : List ℕ} {i : List ℤ} {limit first : ℕ} {o₀ v₀ : List ℤ} {x : ℕ} {o v : List ℤ} where
  pub rest_spent : (n : ℕ) → Rest l c is vs i limit first o₀ v₀ n x o v → limit ≤ n → went Spent o v ≡ whole l c is vs i limit first o₀ v₀
  unfolding follow_at
  rest_spent n h b = let z : limit - n ≡ 0 = omega arith in rw z at h.same

  module _ {d : List ℕ} {m : Out Move} {o' v' : List ℤ} (n : ℕ) (h : Rest l c is vs i limit first o₀ v₀ n x o v) (b : n < limit)
      (e : d ≡ take 12 (drop (x * 12) l)) (p : PerformsLine d c is vs i o v m o' v') where
    -- the line x was lent and performed with the move m
    turn : went_on m x n o' v' (λ y. follow_at l c is vs i (limit - (n + 1)) y (suc n) o' v') ≡ whole l c is vs i limit first o₀ v₀
    turn =
        let z : limit - n ≡ suc (limit - (n + 1)) = omega arith in
        sym (follow_on l c is vs i (limit - (n + 1)) x n o v m o' v' (line_performed l c is vs i x o v d m o' v' e p)) ∙ (rw z at h.same)

    pub rest_again : (y : ℕ) → m ≡ fine (Next y) → Rest l c is vs i limit first o₀ v₀ (n + 1) y o' v'
    rest_again y q = record { same = let k : suc n ≡ n + 1 = omega arith in rw k at (rw q at turn) }

    pub rest_wait : m ≡ fine Wait → went (Reached x (n + 1)) o' v' ≡ whole l c is vs i limit first o₀ v₀
    rest_wait q = let k : suc n ≡ n + 1 = omega arith in rw k at (rw q at turn)

    pub rest_stopped : (r : Fault) → m ≡ fault (number_of r) → went (Stopped r x) o' v' ≡ whole l c is vs i limit first o₀ v₀
    rest_stopped r q = rw q at turn
