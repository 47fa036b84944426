-- What a tree means as a process: a rule for each construct (Elaborates), and the same computed (elaborate). On a tree without offences there is
-- exactly one such process, the computed one (proofs/Elaborated.antt). Assumes nothing.
use Rattle.std.specs.Prelude.{◌≡◌, Bool, true, false, cond, List, [], ◌∷◌, map, ℕ, zero, suc, eqb, ℤ, pos, negsuc}
use Rattle.std.proofs.Math.Option.{Option, none, some}
use Rattle.spec_grammar.specs.Token.{Token}
use Rattle.spec_grammar.specs.Tree as T
use Rattle.spec_grammar.specs.Tree.{Body, Init, Text, Mode}
use Rattle.spec_design.specs.Types.{Ty, std_logic, integer, ExprTy, plain, boolean}
use Rattle.spec_design.specs.Expression as E
use Rattle.spec_design.specs.Expression.{Expr, leaf, unary, Binary, sum_type, logical_type, type_of_binary}
use Rattle.spec_design.specs.Statement as D
use Rattle.spec_design.specs.Statement.{Act, Stmt}
use Rattle.spec_design.specs.Process.{Source, Slot, Process}
use Rattle.spec_language.specs.Declarations.{Decl, Scope, scope_of, declared, find}
use Rattle.spec_language.specs.Typing.{type_of}
use Rattle.base_codes.specs.Operation.{operator_of}

-- the k-th declaration of the list, counted from 0, has the folded name v and the type t
pub data Kth : List Decl → ℕ → ℕ → Ty → Type 0 where
  here : {d : Decl} {ds : List Decl} {v : ℕ} → d.name.value ≡ v → Kth (d ∷ ds) v zero d.type
  there : {d : Decl} {ds : List Decl} {v k : ℕ} {t : Ty} → Kth ds v k t → Kth (d ∷ ds) v (suc k) t

-- an expression of the tree, the same with its names resolved, and its type; the left operand is left, parentheses are gone
pub data Means (Γ : Scope) : T.Expr → Expr → ExprTy → Type 0 where
  number : (x : Token) → Means Γ (T.number x) (leaf (E.int (pos x.value))) (plain integer)
  bit : (x : Token) → Means Γ (T.bit x) (leaf (E.bit (eqb x.value 1))) (plain std_logic)
  input : {k : ℕ} {t : Ty} (x : Token) → Kth Γ.inputs x.value k t → Means Γ (T.name x) (leaf (E.input k)) (plain t)
  variable : {k : ℕ} {t : Ty} (x : Token) → Kth Γ.variables x.value k t → Means Γ (T.name x) (leaf (E.variable k)) (plain t)
  sign : {a : T.Expr} {c : Expr} {t u : ExprTy} (x : Token) → sum_type t ≡ some u → Means Γ a c t → Means Γ (T.sign x a) (unary E.sign t c) u
  invert : {a : T.Expr} {c : Expr} {t u : ExprTy} (x : Token) → logical_type t ≡ some u → Means Γ a c t → Means Γ (T.negate x a) (unary E.invert t c) u
  binary : {a b : T.Expr} {c d : Expr} {o : Binary} {t u : ExprTy} (x : Token) → operator_of x.kind ≡ some o → type_of_binary o t ≡ some u
      → Means Γ a c t → Means Γ b d t → Means Γ (T.binary x a b) (E.binary o t c d) u
  parens : {a : T.Expr} {c : Expr} {t : ExprTy} → Means Γ a c t → Means Γ (T.parens a) c t

-- statements, in text order; the clock is left out of a wait
mutual
  pub data Does (Γ : Scope) : T.Stmt → Stmt → Type 0 where
    output : {e : T.Expr} {c : Expr} {k : ℕ} {t : Ty} (x : Token) → Kth Γ.outputs x.value k t → Means Γ e c (plain t)
        → Does Γ (T.output x e) (D.act (D.Act.output k c))
    assign : {e : T.Expr} {c : Expr} {k : ℕ} {t : Ty} (x : Token) → Kth Γ.variables x.value k t → Means Γ e c (plain t)
        → Does Γ (T.assign x e) (D.act (D.Act.variable k c))
    null : Does Γ T.null (D.act D.null)
    wait : (x : Token) → Does Γ (T.wait x) D.wait
    if_then : {e : T.Expr} {c : Expr} {a : Body} {s : Stmt} (x : Token) → Means Γ e c boolean → DoesAll Γ a s → Does Γ (T.if_then x e a) (D.if_then c s)
    if_else : {e : T.Expr} {c : Expr} {a b : Body} {s r : Stmt} (x : Token) → Means Γ e c boolean → DoesAll Γ a s → DoesAll Γ b r
        → Does Γ (T.if_else x e a b) (D.if_else c s r)
    while : {e : T.Expr} {c : Expr} {a : Body} {s : Stmt} (x : Token) → Means Γ e c boolean → DoesAll Γ a s → Does Γ (T.while x e a) (D.while c s)

  pub data DoesAll (Γ : Scope) : Body → Stmt → Type 0 where
    only : {s : T.Stmt} {r : Stmt} → Does Γ s r → DoesAll Γ (T.only s) r
    and_then : {s : T.Stmt} {b : Body} {r q : Stmt} → Does Γ s r → DoesAll Γ b q → DoesAll Γ (T.and_then s b) (D.seq r q)

-- minus n
unfoldable pub minus : ℕ → ℤ
minus zero = pos zero
minus (suc n) = negsuc n

-- '0' and '1' as integers
unfoldable pub bit_value : Bool → ℤ
bit_value true = pos 1
bit_value false = pos 0

-- an initial value as an integer
pub data Begins : Init → ℤ → Type 0 where
  number : (x : Token) → Begins (T.integer_literal x) (pos x.value)
  bit : (x : Token) → Begins (T.logic_literal x) (bit_value (eqb x.value 1))
  negative : (s x : Token) → Begins (T.minus s x) (minus x.value)

pub record Holds (d : Decl) (s : Slot) : Type 0 where
  pub name : s.name ≡ d.name.value
  pub type : s.type ≡ d.type
  pub initial : Begins d.init s.initial

pub data Slots : List Decl → List Slot → Type 0 where
  nil : Slots [] []
  cons : {d : Decl} {ds : List Decl} {s : Slot} {ss : List Slot} → Holds d s → Slots ds ss → Slots (d ∷ ds) (s ∷ ss)

unfoldable pub source : Decl → Source
source d = record { name = d.name.value; type = d.type }

-- the process p is what the tree t means
pub record Elaborates (t : Text) (p : Process) : Type 0 where
  pub inputs : p.inputs ≡ map source (scope_of t).inputs
  pub outputs : Slots (scope_of t).outputs p.outputs
  pub variables : Slots (scope_of t).variables p.variables
  pub body : DoesAll (scope_of t) t.body p.body

-- The same computed. Where a tree has offences the answer means nothing.
unfoldable pub position : List Decl → ℕ → ℕ
position [] v = zero
position (d ∷ ds) v = let r = suc (position ds v) in cond (eqb d.name.value v) zero r

unfoldable pub name_code : Scope → ℕ → Mode → Expr
name_code Γ v T.input = leaf (E.input (position Γ.inputs v))
name_code Γ v T.output_port = leaf (E.bit false)
name_code Γ v T.variable_mode = leaf (E.variable (position Γ.variables v))

unfoldable pub named : Scope → ℕ → Option Decl → Expr
named Γ v none = leaf (E.bit false)
named Γ v (some d) = name_code Γ v d.mode

unfoldable pub or_boolean : Option ExprTy → ExprTy
or_boolean none = boolean
or_boolean (some t) = t

unfoldable pub or_plus : Option Binary → Binary
or_plus none = E.plus
or_plus (some o) = o

unfoldable pub code : List Decl → Scope → T.Expr → Expr
code Δ Γ (T.number x) = leaf (E.int (pos x.value))
code Δ Γ (T.bit x) = leaf (E.bit (eqb x.value 1))
code Δ Γ (T.name x) = named Γ x.value (find Δ x.value)
code Δ Γ (T.sign x a) = unary E.sign (or_boolean (type_of Δ a)) (code Δ Γ a)
code Δ Γ (T.negate x a) = unary E.invert (or_boolean (type_of Δ a)) (code Δ Γ a)
code Δ Γ (T.binary x a b) = E.binary (or_plus (operator_of x.kind)) (or_boolean (type_of Δ a)) (code Δ Γ a) (code Δ Γ b)
code Δ Γ (T.parens a) = code Δ Γ a

unfoldable mutual
  pub stmt : List Decl → Scope → T.Stmt → Stmt
  stmt Δ Γ (T.output x e) = D.act (D.Act.output (position Γ.outputs x.value) (code Δ Γ e))
  stmt Δ Γ (T.assign x e) = D.act (D.Act.variable (position Γ.variables x.value) (code Δ Γ e))
  stmt Δ Γ T.null = D.act D.null
  stmt Δ Γ (T.wait x) = D.wait
  stmt Δ Γ (T.if_then i e a) = D.if_then (code Δ Γ e) (stmts Δ Γ a)
  stmt Δ Γ (T.if_else i e a b) = D.if_else (code Δ Γ e) (stmts Δ Γ a) (stmts Δ Γ b)
  stmt Δ Γ (T.while w e a) = D.while (code Δ Γ e) (stmts Δ Γ a)

  pub stmts : List Decl → Scope → Body → Stmt
  stmts Δ Γ (T.only s) = stmt Δ Γ s
  stmts Δ Γ (T.and_then s b) = D.seq (stmt Δ Γ s) (stmts Δ Γ b)

unfoldable pub initial : Init → ℤ
initial T.without = pos zero
initial (T.integer_literal x) = pos x.value
initial (T.logic_literal x) = bit_value (eqb x.value 1)
initial (T.minus s x) = minus x.value

unfoldable pub slot : Decl → Slot
slot d = record { name = d.name.value; type = d.type; initial = initial d.init }

unfoldable pub process_for : List Decl → Scope → Body → Process
process_for Δ Γ b = record { inputs = map source Γ.inputs; outputs = map slot Γ.outputs; variables = map slot Γ.variables; body = stmts Δ Γ b }

unfoldable pub elaborate : Text → Process
elaborate t = process_for (declared t) (scope_of t) t.body
