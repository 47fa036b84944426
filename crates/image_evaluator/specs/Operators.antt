-- What the evaluator's inner functions answer: the operators, as the typed machine of the format has them, and the operands.
-- Assumes nothing.
use Rattle.std.specs.Prelude.{cond, List, [], ◌∷◌, ℕ, ◌+◌, length, get_or, ℤ, pos, leb}
use Rattle.std.proofs.Math.Option.{Option, none, some}
use Rattle.spec_design.specs.Types.{Ty}
use Rattle.spec_design.specs.Expression.{Leaf, Unary, Binary, Out, fine, fault, nth, plainly}
use Rattle.spec_semantics.specs.Evaluation.{values}
use Rattle.spec_format.specs.Code.{Machine, with_type, typed}
use Rattle.image_evaluator.specs.Position.{Next, stop, pushed}
use Rattle.image_evaluator.specs.Value.{Cell}

-- the typed machine's operators are the same for all inputs and variables
abbrev pub operators : Machine Cell
operators = typed [] [] (values [] [])

-- an operator of one operand applied; 13 where it is none
abbrev pub unary_of : Option Unary → Cell → Out Cell
unary_of none x = fault 13
unary_of (some o) x = operators.of_unary o x

-- an operator of two operands applied, the left one first; 13 where it is none
abbrev pub binary_of : Option Binary → Cell → Cell → Out Cell
binary_of none x y = fault 13
binary_of (some o) x y = operators.of_binary o x y

-- an operator of one operand on the stack; the byte k follows
abbrev pub unary_next : Option Unary → ℕ → List Cell → Next Cell
unary_next o k [] = stop 13
unary_next o k (x ∷ st) = pushed (unary_of o x) k st

-- an operator of two operands on the stack, the right one on top
abbrev pub binary_next : Option Binary → ℕ → List Cell → Next Cell
binary_next o k [] = stop 13
binary_next o k (y ∷ []) = stop 13
binary_next o k (y ∷ x ∷ st) = pushed (binary_of o x y) k st

-- the literal or the name at the byte k, as the machine has it; 13 where there is none
abbrev pub leaf_of : Machine Cell → Option Leaf → Out Cell
leaf_of M none = fault 13
leaf_of M (some l) = M.of_leaf l

-- the input or the variable with the index after the byte k, over their types and their row
abbrev pub named_at : List ℕ → ℕ → List Ty → List ℤ → Out Cell
named_at s k ts l =
    cond (leb (k + 2) (length s)) (with_type (plainly (nth ts (get_or s (k + 1) 0))) (fine (get_or l (get_or s (k + 1) 0) (pos 0)))) (fault 13)
