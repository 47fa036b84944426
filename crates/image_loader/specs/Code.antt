-- The code of a line, checked by place on a stack of types by number (document 01, "Image, form 1"). `code_type` is by `decode` of the crate spec_format;
-- `code_tags` and `rest_turn` tie the stack to it. Assumes nothing.
use Rattle.std.specs.Prelude.{cond, List, [], ◌∷◌, ℕ, ◌+◌, ◌≤◌, ◌≡◌, length, get_or, ltb, leb, eqb, None, Some, IfSome}
use Rattle.std.specs.Prelude as Code
use Rattle.std.proofs.Math.Option.{Option, none, some, bind}
use Rattle.base_codes.specs.Stack.{stack_of}
use Rattle.spec_design.specs.Types.{Ty, std_logic, integer, ExprTy, plain}
use Rattle.spec_design.specs.Expression.{items, nth, plainly}
use Rattle.base_codes.specs.Operation.{INTEGER, STD_LOGIC, INPUT, VARIABLE, operands_of, width_of}
use Rattle.base_codes.specs.Types.{NONE, tag_of, unary_type_for, binary_type_for}
use Rattle.base_codes.specs.Limit.{ITEMS}
use Rattle.spec_format.specs.Words.{only_if}
use Rattle.spec_format.specs.Code.{decode}
use Rattle.spec_format.specs.Signature.{Signature, types, signature_of}

-- the signature of a section that is one
abbrev pub or_empty : Option Signature → Signature
or_empty none = record { inputs = []; outputs = []; variables = [] }
or_empty (some σ) = σ

unfoldable pub signature_at : List ℕ → Signature
signature_at s = or_empty (signature_of s)

-- the types of inputs, outputs and variables by the signature section s
abbrev pub input_types : List ℕ → List Ty
input_types s = (signature_at s).inputs

abbrev pub output_types : List ℕ → List Ty
output_types s = types (signature_at s).outputs

abbrev pub variable_types : List ℕ → List Ty
variable_types s = types (signature_at s).variables

-- the number of a type, where there is one
abbrev pub Tag : Type 0
Tag = Code.Option ℕ

abbrev pub tagged : Option ExprTy → Tag
tagged none = None
tagged (some t) = Some (tag_of t)

-- a number that is a type's, or that of none
abbrev pub tag_known : ℕ → Tag
tag_known t = cond (eqb t NONE) None (Some t)

-- the tag of the k-th type
abbrev pub tag_at : List Ty → ℕ → Tag
tag_at ts k = tagged (plainly (nth ts k))

-- "1 to 64 operations": the type of the value that code leaves; none where it is no expression or has more operations
unfoldable pub code_type : List Ty → List Ty → List ℕ → Option ExprTy
code_type is vs s = bind (decode is vs s) (λ p. only_if (leb (items p.1) ITEMS) (some p.0))

-- a std_logic literal is 0 or 1
abbrev pub bit_tag : ℕ → Tag
bit_tag b = cond (leb b 1) (Some (tag_of (plain std_logic))) None

-- "1 integer (4 bytes), 2 std_logic (1 byte), 3 input, 4 variable (1-byte index)": the tag of the leaf at the place `at` whose first byte is k
unfoldable pub leaf_tag : List Ty → List Ty → List ℕ → ℕ → ℕ → Tag
leaf_tag is vs s at k =
    cond (ltb (length s) (at + width_of k)) None
    (cond (eqb k INTEGER) (Some (tag_of (plain integer)))
    (cond (eqb k STD_LOGIC) (bit_tag (get_or s (at + 1) 0))
    (cond (eqb k INPUT) (tag_at is (get_or s (at + 1) 0)) (cond (eqb k VARIABLE) (tag_at vs (get_or s (at + 1) 0)) None))))

-- the stack with a tag on top; none where there is no type
abbrev pub pushed : Tag → List ℕ → Option (List ℕ)
pushed None st = none
pushed (Some t) st = some (t ∷ st)

-- the stack after an operator of one operand, and of two of one type
unfoldable pub unary_step : ℕ → List ℕ → Option (List ℕ)
unary_step k [] = none
unary_step k (x ∷ st) = pushed (tagged (unary_type_for k x)) st

unfoldable pub binary_step : ℕ → List ℕ → Option (List ℕ)
binary_step k [] = none
binary_step k (y ∷ []) = none
binary_step k (y ∷ x ∷ st) = cond (eqb x y) (pushed (tagged (binary_type_for k x)) st) none

-- the stack after the operation at the place `at` whose first byte is k
unfoldable pub step_at : List Ty → List Ty → List ℕ → ℕ → ℕ → List ℕ → Option (List ℕ)
step_at is vs s at k st =
    cond (eqb (operands_of k) 0) (pushed (leaf_tag is vs s at k) st) (cond (eqb (operands_of k) 1) (unary_step k st) (binary_step k st))

-- the stack of depth r in the array a, where there is one
abbrev pub stack_or : List ℕ → Code.Option ℕ → Option (List ℕ)
stack_or a None = none
stack_or a (Some r) = some (stack_of 0 a r)

-- what a function answers that leaves the stack o: its depth r, in the array b; d was the depth before
pub record Stepped (o : Option (List ℕ)) (d : ℕ) (b : List ℕ) (r : Code.Option ℕ) : Type 0 where
  pub same : stack_or b r ≡ o
  pub depth : IfSome r (λ n. n ≤ d + 1)
  pub size : length b ≡ ITEMS
