-- What a line does, by its bytes: the line to follow, and what it leaves in the slots (document 01, "Image, form 1"). Assumes nothing.
use Rattle.std.specs.Prelude.{◌≡◌, cond, List, ℕ, set, ℤ, eqb}
use Rattle.base_codes.specs.Image as M
use Rattle.spec_semantics.specs.Evaluation.{is_one}
use Rattle.spec_design.specs.Expression.{Out, fine, fault}
use Rattle.image_evaluator.specs.declared.Found.{Found}
use Rattle.image_evaluator.specs.Value.{machine_for, part_value, evaluated_of}
use Rattle.image_walk.specs.Fields.{kind_at, target_at, offset_at, size_at, next_at, other_at}
use Rattle.image_walk.specs.declared.Move.{Move}
use Rattle.image_walk.specs.declared.Move.TheVariants.{Wait, Next}

-- the value of the code of the line x, over type bytes and values of inputs and variables
abbrev pub value_at : List ℕ → List ℕ → ℕ → List ℕ → List ℕ → List ℤ → List ℤ → Out Found
value_at l c x is vs i v = evaluated_of (part_value (machine_for is vs i v) c (offset_at l x) (size_at l x))

-- "a branch takes next if true, other if false"
abbrev pub branched : Out Found → ℕ → ℕ → Out Move
branched (fine x) f g = fine (Next (cond (is_one x.value) f g))
branched (fault q) f g = fault q

-- an output or a variable is followed by next
abbrev pub assigned : Out Found → ℕ → Out Move
assigned (fine x) f = fine (Next f)
assigned (fault q) f = fault q

-- "0 wait, 1 output, 2 variable, 3 branch, 4 null": what a line of kind k with the value e leads to
abbrev pub move_of : ℕ → Out Found → ℕ → ℕ → Out Move
move_of k e f g = cond (eqb k M.WAIT) (fine Wait) (cond (eqb k M.NULL) (fine (Next f)) (cond (eqb k M.BRANCH) (branched e f g) (assigned e f)))

abbrev pub move_at : List ℕ → ℕ → Out Found → Out Move
move_at l x e = move_of (kind_at l x) e (next_at l x) (other_at l x)

-- the slots that lines of kind w store into, after a line of kind k with the target n and the value e
abbrev pub stored_of : ℕ → ℕ → ℕ → Out Found → List ℤ → List ℤ
stored_of w k n (fine x) s = cond (eqb k w) (set s n x.value) s
stored_of w k n (fault q) s = s

abbrev pub stored_at : ℕ → List ℕ → ℕ → Out Found → List ℤ → List ℤ
stored_at w l x e s = stored_of w (kind_at l x) (target_at l x) e s

-- a line that has a value: neither a wait nor null
pub record Valued (l : List ℕ) (x : ℕ) : Type 0 where
  pub no_wait : kind_at l x ≡ M.WAIT → ⊥
  pub no_null : kind_at l x ≡ M.NULL → ⊥

-- the line x with the value e was performed over the outputs o and the variables v: its move m, and what it leaves in them
pub record Performs (l : List ℕ) (x : ℕ) (e : Out Found) (o v : List ℤ) (m : Out Move) (o' v' : List ℤ) : Type 0 where
  pub move : m ≡ move_at l x e
  pub outputs : o' ≡ stored_at M.OUTPUT l x e o
  pub variables : v' ≡ stored_at M.VARIABLE l x e v

-- the same of the line whose bytes are l, over its code in c and the type bytes and values of inputs and variables
abbrev pub PerformsLine : List ℕ → List ℕ → List ℕ → List ℕ → List ℤ → List ℤ → List ℤ → Out Move → List ℤ → List ℤ → Type 0
PerformsLine l c is vs i o v m o' v' = Performs l 0 (value_at l c 0 is vs i v) o v m o' v'
