-- Values of their types: of an expression's type, and lists of values beside lists of types. Assumes nothing.
use Rattle.std.specs.Prelude.{◌≡◌, Bool, true, List, [], ◌∷◌, ℤ}
use Rattle.spec_design.specs.Types.{Ty, std_logic, ExprTy, plain, boolean, in_type}
use Rattle.spec_design.specs.Process.{Process, slot_types}
use Rattle.spec_semantics.specs.Equations.{Memory}

-- z is a value of an expression's type; a boolean is 0 or 1, as a std_logic is
unfoldable pub of_type : ExprTy → ℤ → Bool
of_type (plain t) z = in_type t z
of_type boolean z = in_type std_logic z

-- as many values as types, each of its type
unfoldable pub Values : List Ty → List ℤ → Type 0
Values [] [] = Unit {0}
Values [] (z ∷ l) = ⊥
Values (t ∷ ts) [] = ⊥
Values (t ∷ ts) (z ∷ l) = (in_type t z ≡ true) × Values ts l

-- outputs and variables have these numbers and types
pub record Typed (os vs : List Ty) (m : Memory) : Type 0 where
  pub outputs : Values os m.outputs
  pub variables : Values vs m.variables

-- the declared ones of a process
abbrev pub WellTyped : Process → Memory → Type 0
WellTyped p m = Typed (slot_types p.outputs) (slot_types p.variables) m
