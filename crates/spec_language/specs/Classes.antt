-- Refusal 9: "while with a classed body that is not C; if none, process body not C", at `while` or `process`. All offences of a tree. Assumes nothing.
use Rattle.std.specs.Prelude.{Bool, true, false, List, [], ◌∷◌, ℕ}
use Rattle.std.proofs.Math.Option.{Option, none, some}
use Rattle.spec_grammar.specs.Tree.{Stmt, output, assign, null, wait, if_then, if_else, while, Body, only, and_then, Text}
use Rattle.spec_design.specs.Statement.{Class, A, B, C, seq_class, if_class}
use Rattle.spec_language.specs.Lists.{unless, each}
use Rattle.spec_language.specs.Declarations.{statements}

-- the class of two parts that both have one
unfoldable pub pair : (Class → Class → Class) → Option Class → Option Class → Option Class
pair f none y = none
pair f (some x) none = none
pair f (some x) (some y) = some (f x y)

-- "A while needs a C body and is B."
unfoldable pub looped : Option Class → Option Class
looped none = none
looped (some A) = none
looped (some B) = none
looped (some C) = some B

-- "Assignments and null are A, wait is C"; "a missing else counts as null". None: unclassed, as it is or holds a while whose body is not C.
unfoldable mutual
  pub class : Stmt → Option Class
  class (output x e) = some A
  class (assign x e) = some A
  class null = some A
  class (wait x) = some C
  class (if_then i e a) = pair if_class (classes a) (some A)
  class (if_else i e a b) = pair if_class (classes a) (classes b)
  class (while w e a) = looped (classes a)

  pub classes : Body → Option Class
  classes (only s) = class s
  classes (and_then s b) = pair seq_class (class s) (classes b)

unfoldable pub is_c : Option Class → Bool
is_c none = false
is_c (some A) = false
is_c (some B) = false
is_c (some C) = true

-- a body that may stand in a while, or has no class
unfoldable pub not_classed_wrong : Option Class → Bool
not_classed_wrong none = true
not_classed_wrong (some A) = false
not_classed_wrong (some B) = false
not_classed_wrong (some C) = true

-- "while with a classed body that is not C"
unfoldable pub loops_of : Stmt → List ℕ
loops_of (output x e) = []
loops_of (assign x e) = []
loops_of null = []
loops_of (wait x) = []
loops_of (if_then i e a) = []
loops_of (if_else i e a b) = []
loops_of (while w e a) = unless (not_classed_wrong (classes a)) w.place

-- "if none, process body not C"
unfoldable pub or_whole : List ℕ → Bool → ℕ → List ℕ
or_whole [] ok p = unless ok p
or_whole (q ∷ l) ok p = q ∷ l

unfoldable pub loops : Text → List ℕ
loops t = or_whole (each loops_of (statements t.body)) (is_c (classes t.body)) t.process.place
