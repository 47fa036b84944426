-- Code of expressions: operations in postfix, their bytes, reading them back, running them on a stack (document 01, "Image, form 1"). Assumes nothing.
use Rattle.std.specs.Prelude.{Bool, true, false, cond, List, [], ◌∷◌, ◌++◌, ℕ, zero, suc, length, eqb}
use Rattle.std.proofs.Math.Option.{Option, none, some, map, bind as and_then}
use Rattle.spec_design.specs.Types.{Ty, ExprTy, same_type}
use Rattle.spec_design.specs.Expression.{Leaf, int, bit, input, variable, Unary, Binary, Expr, leaf, unary, binary, Out, fine, fault, bind, Algebra, leaf_type, type_of_unary, type_of_binary}
use Rattle.base_codes.specs.Operation as O
use Rattle.base_codes.specs.Operation.{unary_code, binary_code, unary_for, binary_for}
use Rattle.spec_format.specs.Words.{word4, bytes4}
use Rattle.spec_semantics.specs.Twos.{signed32, unsigned32}

-- an operation: a literal or a name is pushed, an operator is applied to what was pushed
pub data Operation : Type 0 where
  push : Leaf → Operation
  apply1 : Unary → Operation
  apply2 : Binary → Operation

-- "Code is postfix, left operand first"
unfoldable pub post : Expr → List Operation
post (leaf l) = push l ∷ []
post (unary o t a) = post a ++ (apply1 o ∷ [])
post (binary o t a b) = post a ++ (post b ++ (apply2 o ∷ []))

-- '0' and '1'
abbrev pub byte_of_bit : Bool → ℕ
byte_of_bit true = 1
byte_of_bit false = 0

-- "1 integer (4 bytes), 2 std_logic (1 byte), 3 input, 4 variable (1-byte index)": an operation's first byte
abbrev pub first : Operation → ℕ
first (push (int z)) = O.INTEGER
first (push (bit b)) = O.STD_LOGIC
first (push (input k)) = O.INPUT
first (push (variable k)) = O.VARIABLE
first (apply1 o) = unary_code o
first (apply2 o) = binary_code o

-- an operation's bytes after the first
abbrev pub others : Operation → List ℕ
others (push (int z)) = bytes4 (unsigned32 z)
others (push (bit b)) = byte_of_bit b ∷ []
others (push (input k)) = k ∷ []
others (push (variable k)) = k ∷ []
others (apply1 o) = []
others (apply2 o) = []

-- the bytes of operations, one after the other
unfoldable pub operation_bytes : List Operation → List ℕ
operation_bytes [] = []
operation_bytes (i ∷ is) = first i ∷ (others i ++ operation_bytes is)

-- the code of an expression
unfoldable pub code : Expr → List ℕ
code e = operation_bytes (post e)

-- Reading: an operation and the bytes after it, or none where there is no operation.

-- what reading one operation gives
abbrev pub Taken : Type 0
Taken = Option (Operation × List ℕ)

-- "1 integer (4 bytes)": any four bytes are an integer
abbrev pub read_int : List ℕ → Taken
read_int [] = none
read_int (a ∷ []) = none
read_int (a ∷ b ∷ []) = none
read_int (a ∷ b ∷ c ∷ []) = none
read_int (a ∷ b ∷ c ∷ d ∷ s) = some (push (int (signed32 (word4 a b c d))), s)

-- a std_logic literal is 0 or 1
abbrev pub bit_of : ℕ → Option Bool
bit_of k = cond (eqb k 0) (some false) (cond (eqb k 1) (some true) none)

-- "2 std_logic (1 byte)"
abbrev pub read_bit : List ℕ → Taken
read_bit [] = none
read_bit (a ∷ s) = map (λ b. (push (bit b), s)) (bit_of a)

-- "3 input, 4 variable (1-byte index)"
abbrev pub read_name : (ℕ → Leaf) → List ℕ → Taken
read_name f [] = none
read_name f (a ∷ s) = some (push (f a), s)

-- the operator that has a code, as an operation
abbrev pub applying : Option Unary → Option Binary → Option Operation
applying (some o) b = some (apply1 o)
applying none (some o) = some (apply2 o)
applying none none = none

abbrev pub operator : ℕ → Option Operation
operator k = applying (unary_for k) (binary_for k)

-- the operation that begins with the byte k
abbrev pub read_operation : ℕ → List ℕ → Taken
read_operation k s =
    cond (eqb k O.INTEGER) (read_int s) (cond (eqb k O.STD_LOGIC) (read_bit s)
    (cond (eqb k O.INPUT) (read_name input s) (cond (eqb k O.VARIABLE) (read_name variable s)
    (map (λ i. (i, s)) (operator k)))))

-- the operations of code bytes; the number bounds how many are read
unfoldable pub operations : ℕ → List ℕ → Option (List Operation)
operations zero [] = some []
operations zero (k ∷ s) = none
operations (suc f) [] = some []
operations (suc f) (k ∷ s) = and_then (read_operation k s) (λ p. map (λ l. p.0 ∷ l) (operations f p.1))

-- Running: what a machine makes of leaves and operators. Unlike an algebra's, its operators are not told their operands' type: code has none.
pub record Machine (X : Type 0) : Type 0 where
  pub of_leaf : Leaf → Out X
  pub of_unary : Unary → X → Out X
  pub of_binary : Binary → X → X → Out X

-- a value is pushed on the stack st, and what is left goes on; a fault ends the run
unfoldable pub onto : {X : Type 0} → Out X → List X → (List X → Out X) → Out X
onto (fine x) st k = k (x ∷ st)
onto (fault q) st k = fault q

-- "It must leave one value": the operations run on a stack, its top first; 13 where an operand is missing or not one value is left
unfoldable pub run : {X : Type 0} → Machine X → List Operation → List X → Out X
run M [] [] = fault 13
run M [] (x ∷ []) = fine x
run M [] (x ∷ y ∷ st) = fault 13
run M (push l ∷ is) st = onto (M.of_leaf l) st (λ u. run M is u)
run M (apply1 o ∷ is) [] = fault 13
run M (apply1 o ∷ is) (x ∷ st) = onto (M.of_unary o x) st (λ u. run M is u)
run M (apply2 o ∷ is) [] = fault 13
run M (apply2 o ∷ is) (y ∷ []) = fault 13
run M (apply2 o ∷ is) (y ∷ x ∷ st) = onto (M.of_binary o x y) st (λ u. run M is u)

-- the operations that were read, run on an empty stack
unfoldable pub run_operations : {X : Type 0} → Machine X → Option (List Operation) → Out X
run_operations M none = fault 13
run_operations M (some is) = run M is []

-- what code bytes come to
unfoldable pub run_code : {X : Type 0} → Machine X → List ℕ → Out X
run_code M s = run_operations M (operations (length s) s)

-- a value with its type, or 13 where there is no type
unfoldable pub with_type : {X : Type 0} → Option ExprTy → Out X → Out (ExprTy × X)
with_type none v = fault 13
with_type (some t) v = bind v (λ x. fine (t, x))

-- the machine of any algebra, over the types of the data inputs and of the variables: each value stands with its type, and an operator is told
-- its operands' type; 13 where the operands have not the operator's types
abbrev pub typed : {X : Type 0} → List Ty → List Ty → Algebra X → Machine (ExprTy × X)
typed is vs A =
    record {
      of_leaf = λ l. with_type (leaf_type is vs l) (A.of_leaf l);
      of_unary = λ o x. with_type (type_of_unary o x.0) (A.of_unary o x.0 x.1);
      of_binary = λ o x y. cond (same_type x.0 y.0) (with_type (type_of_binary o x.0) (A.of_binary o x.0 x.1 y.1)) (fault 13);
    }

-- the algebra that makes the expression itself
abbrev pub trees : Algebra Expr
trees = record { of_leaf = λ l. fine (leaf l); of_unary = λ o t x. fine (unary o t x); of_binary = λ o t x y. fine (binary o t x y) }

-- a value, or none for a fault
unfoldable pub value_of : {X : Type 0} → Out X → Option X
value_of (fine x) = some x
value_of (fault q) = none

-- the expression that code bytes stand for, with its type, over the types of the data inputs and of the variables; none where there is none
unfoldable pub decode : List Ty → List Ty → List ℕ → Option (ExprTy × Expr)
decode is vs s = value_of (run_code (typed is vs trees) s)
