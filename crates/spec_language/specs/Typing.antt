-- Refusal 6: "operator's operands, target, condition, initial value of wrong type; what holds a wrong operator is untyped and not itself judged",
-- at "operator, target, if or while, value's first token". All offences of a tree. Assumes nothing.
use Rattle.std.specs.Prelude.{cond, List, [], ◌∷◌, ◌++◌, ℕ}
use Rattle.std.proofs.Math.Option.{Option, none, some}
use Rattle.spec_grammar.specs.Tree as T
use Rattle.spec_grammar.specs.Tree.{Expr, number, bit, name, sign, negate, binary, parens, Stmt, output, assign, null, wait, if_then, if_else, while, Init, without, integer_literal, logic_literal, Group, Text}
use Rattle.spec_design.specs.Types.{Ty, std_logic, integer, ExprTy, plain, boolean, same_ty, same_type}
use Rattle.spec_design.specs.Expression.{Binary, sum_type, logical_type, type_of_binary}
use Rattle.base_codes.specs.Operation.{operator_of}
use Rattle.spec_language.specs.Lists.{unless, each}
use Rattle.spec_language.specs.Declarations.{Decl, type_named, declared, groups, is_input, find, type_in, statements}

unfoldable pub result_of : Option Binary → ExprTy → Option ExprTy
result_of none t = none
result_of (some o) t = type_of_binary o t

-- the type after an operator on one operand, and on two of one type
unfoldable pub on_one : (ExprTy → Option ExprTy) → Option ExprTy → Option ExprTy
on_one f none = none
on_one f (some t) = f t

unfoldable pub on_two : (ExprTy → Option ExprTy) → Option ExprTy → Option ExprTy → Option ExprTy
on_two f none u = none
on_two f (some t) none = none
on_two f (some t) (some u) = cond (same_type t u) (f t) none

-- the type of an expression; none: it is or holds a wrong operator, and is untyped
unfoldable pub type_of : List Decl → Expr → Option ExprTy
type_of Δ (number x) = some (plain integer)
type_of Δ (bit x) = some (plain std_logic)
type_of Δ (name x) = type_in (find Δ x.value)
type_of Δ (sign x a) = on_one sum_type (type_of Δ a)
type_of Δ (negate x a) = on_one logical_type (type_of Δ a)
type_of Δ (binary x a b) = on_two (result_of (operator_of x.kind)) (type_of Δ a) (type_of Δ b)
type_of Δ (parens a) = type_of Δ a

-- an operator is wrong where its operands have types and it has none: "what holds a wrong operator is .. not itself judged"
unfoldable pub wrong1 : Option ExprTy → Option ExprTy → ℕ → List ℕ
wrong1 none r p = []
wrong1 (some t) none p = p ∷ []
wrong1 (some t) (some r) p = []

unfoldable pub wrong2 : Option ExprTy → Option ExprTy → Option ExprTy → ℕ → List ℕ
wrong2 none u r p = []
wrong2 (some t) u r p = wrong1 u r p

unfoldable pub types_in : List Decl → Expr → List ℕ
types_in Δ (number x) = []
types_in Δ (bit x) = []
types_in Δ (name x) = []
types_in Δ (sign x a) = types_in Δ a ++ wrong1 (type_of Δ a) (type_of Δ (sign x a)) x.place
types_in Δ (negate x a) = types_in Δ a ++ wrong1 (type_of Δ a) (type_of Δ (negate x a)) x.place
types_in Δ (binary x a b) = types_in Δ a ++ (types_in Δ b ++ wrong2 (type_of Δ a) (type_of Δ b) (type_of Δ (binary x a b)) x.place)
types_in Δ (parens a) = types_in Δ a

-- a typed expression where the type t is wanted
unfoldable pub wants : Option ExprTy → Option ExprTy → ℕ → List ℕ
wants none u p = []
wants (some t) none p = []
wants (some t) (some u) p = unless (same_type t u) p

-- targets have the expression's type; conditions are boolean
unfoldable pub types_of : List Decl → Stmt → List ℕ
types_of Δ (output x e) = types_in Δ e ++ wants (type_in (find Δ x.value)) (type_of Δ e) x.place
types_of Δ (assign x e) = types_in Δ e ++ wants (type_in (find Δ x.value)) (type_of Δ e) x.place
types_of Δ null = []
types_of Δ (wait x) = []
types_of Δ (if_then i e a) = types_in Δ e ++ wants (some boolean) (type_of Δ e) i.place
types_of Δ (if_else i e a b) = types_in Δ e ++ wants (some boolean) (type_of Δ e) i.place
types_of Δ (while w e a) = types_in Δ e ++ wants (some boolean) (type_of Δ e) w.place

-- an initial value: a number is an integer, '0' and '1' are std_logics
unfoldable pub initial_of : Ty → Init → List ℕ
initial_of t without = []
initial_of t (integer_literal x) = unless (same_ty t integer) x.place
initial_of t (logic_literal x) = unless (same_ty t std_logic) x.place
initial_of t (T.minus s x) = unless (same_ty t integer) s.place

-- "Initial values of inputs are ignored, their type included."
unfoldable pub initials_of : Group → List ℕ
initials_of g = cond (is_input g.mode) [] (initial_of (type_named g.type) g.init)

unfoldable pub types : Text → List ℕ
types t = each initials_of (groups t) ++ each (types_of (declared t)) (statements t.body)
