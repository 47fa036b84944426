-- A process, and what holds of the process that an accepted text means. Assumes nothing.
use Rattle.std.specs.Prelude.{◌≡◌, Bool, true, false, ◌&&◌, List, [], ◌∷◌, map, ℕ, ◌≤◌, length, ℤ, leb}
use Rattle.std.proofs.Math.Option.{Option, none, some}
use Rattle.spec_design.specs.Types.{Ty, ExprTy, boolean, same_type, in_type}
use Rattle.spec_design.specs.Expression.{Expr, items, nth, plainly, type_of}
use Rattle.spec_design.specs.Statement.{Act, output, variable, null, Stmt, act, wait, if_then, if_else, while, seq, size, C, class_of, LoopsC}

-- a data input ("all but the clock"): its folded name and its type
pub record Source : Type 0 where
  pub name : ℕ
  pub type : Ty

-- an output or a variable: its folded name, its type and its initial value
pub record Slot : Type 0 where
  pub name : ℕ
  pub type : Ty
  pub initial : ℤ

-- inputs, outputs and variables in declared order; the clock is no part of it
pub record Process : Type 0 where
  pub inputs : List Source
  pub outputs : List Slot
  pub variables : List Slot
  pub body : Stmt

abbrev pub source_types : List Source → List Ty
source_types l = map (λ (s : Source). s.type) l

abbrev pub slot_types : List Slot → List Ty
slot_types l = map (λ (s : Slot). s.type) l

abbrev pub initials : List Slot → List ℤ
initials l = map (λ (s : Slot). s.initial) l

-- Types of statements, over the types of inputs, outputs and variables.

-- the expression has the type that is needed, and at most 64 items
unfoldable pub is_type : Option ExprTy → Option ExprTy → Bool
is_type none u = false
is_type (some t) none = false
is_type (some t) (some u) = same_type t u

unfoldable pub fits : List Ty → List Ty → Expr → Option ExprTy → Bool
fits is vs e t = leb (items e) 64 && is_type (type_of is vs e) t

-- a target is there and has the expression's type
unfoldable pub typed_act : List Ty → List Ty → List Ty → Act → Bool
typed_act is os vs (output k e) = fits is vs e (plainly (nth os k))
typed_act is os vs (variable k e) = fits is vs e (plainly (nth vs k))
typed_act is os vs null = true

-- a condition is boolean
unfoldable pub typed : List Ty → List Ty → List Ty → Stmt → Bool
typed is os vs (act a) = typed_act is os vs a
typed is os vs wait = true
typed is os vs (if_then e a) = fits is vs e (some boolean) && typed is os vs a
typed is os vs (if_else e a b) = fits is vs e (some boolean) && (typed is os vs a && typed is os vs b)
typed is os vs (while e b) = fits is vs e (some boolean) && typed is os vs b
typed is os vs (seq a b) = typed is os vs a && typed is os vs b

abbrev pub typed_process : Process → Bool
typed_process p = typed (source_types p.inputs) (slot_types p.outputs) (slot_types p.variables) p.body

-- every initial value is of its type
abbrev pub Initialised : List Slot → Type 0
Initialised [] = Unit {0}
Initialised (s ∷ ss) = (in_type s.type s.initial ≡ true) × Initialised ss

-- what every accepted text's process is: the limits on counts, types, initial values and classes
pub record WellFormed (p : Process) : Type 0 where
  pub inputs : length p.inputs ≤ 16
  pub outputs : length p.outputs ≤ 16
  pub variables : length p.variables ≤ 32
  pub statements : size p.body ≤ 512
  pub initial_outputs : Initialised p.outputs
  pub initial_variables : Initialised p.variables
  pub typed : typed_process p ≡ true
  pub class : class_of p.body ≡ C
  pub loops : LoopsC p.body
