-- What the evaluator answers for the code of a line: a value with its type, 16 or 18 by an operator, or 13 where the bytes are no expression. Assumes nothing.
use Rattle.std.specs.Prelude.{cond, List, [], map, ℕ, ◌+◌, length, take, drop, ℤ, leb, eqb}
use Rattle.spec_design.specs.Types.{Ty, std_logic, integer, ExprTy}
use Rattle.spec_design.specs.Expression.{Out, fine, fault}
use Rattle.spec_semantics.specs.Evaluation.{values}
use Rattle.base_codes.specs.Types.{tag_of}
use Rattle.spec_format.specs.Code.{Machine, typed}
use Rattle.image_evaluator.specs.Position.{ROOM, run_at}
use Rattle.image_evaluator.specs.declared.Found.{Found}

-- a value on the stack, with its type
abbrev pub Cell : Type 0
Cell = ExprTy × ℤ

-- "0 std_logic, 1 integer": the types of a signature's type bytes; the loader lets no other byte pass
abbrev pub type_for : ℕ → Ty
type_for k = cond (eqb k 0) std_logic integer

-- the types of all type bytes, in declared order
unfoldable pub types_for : List ℕ → List Ty
types_for l = map type_for l

-- the machine that evaluates, over the type bytes of the data inputs and of the variables, the input row and the variables
abbrev pub machine_for : List ℕ → List ℕ → List ℤ → List ℤ → Machine Cell
machine_for is vs i v = typed (types_for is) (types_for vs) (values i v)

-- "1 to 64 operations": the value of code bytes by that machine, with room for 64 values; a refusal is given where its operation is reached
unfoldable pub code_value : Machine Cell → List ℕ → Out Cell
code_value M s = run_at M ROOM ROOM s 0 []

-- the value of the n code bytes from the byte k on; 13 where the code section has not so many
unfoldable pub part_value : Machine Cell → List ℕ → ℕ → ℕ → Out Cell
part_value M s k n = cond (leb (k + n) (length s)) (code_value M (take n (drop k s))) (fault 13)

-- a value, with the number of its type
abbrev pub found : ℕ → ℤ → Out Found
found k z = fine (record { kind = k; value = z })

-- the answer for an outcome: the value with the number of its type, or the refusal
abbrev pub evaluated_of : Out Cell → Out Found
evaluated_of (fine x) = found (tag_of x.0) x.1
evaluated_of (fault q) = fault q
