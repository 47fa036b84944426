-- Running the code of an expression on a stack is recursion over the expression, for any machine: by the law of postfix items. Assumes nothing.
use Prim.Native.Nat.{ℕ, zero, suc, ◌+◌, ◌≤◌}
use native.Mathlib.Omega.{arith}
use mathlib.Core.Path.{◌≡◌, refl, sym, ap, ◌∙◌}
use mathlib.Core.Bool.{Bool, true, false}
use mathlib.Core.Option.{Option, some, map, bind as and_then}
use mathlib.Core.List.{List, [], ◌∷◌, ◌++◌, append-nil}
use lib.ListN.{length, length-append}
use Rattle.spec_design.specs.Types.{ExprTy, in_range}
use Rattle.spec_design.specs.Expression.{Leaf, int, bit, input, variable, Unary, sign, invert, Binary, plus, minus, equal, unequal, less, at_most, greater}
use Rattle.spec_design.specs.Expression.{at_least, and, or, xor, times, divide, modulo, remainder, Expr, items, Out, fine, fault, bind}
use Rattle.spec_design.specs.Expression.{Algebra, fold}
use Rattle.spec_design.proofs.Postfix.{Lays, lay_items, stack_law}
use Rattle.spec_semantics.proofs.Basic.{none_some}
use Rattle.spec_format.specs.Code.{Operation, push, apply1, apply2, post, byte_of_bit, first, others, operation_bytes, code, Taken, read_operation, operations}
use Rattle.spec_format.specs.Code.{Machine, onto, run, run_operations, run_code}
use Rattle.base_codes.specs.Operation.{unary_code, binary_code}
use Rattle.spec_format.proofs.Words.{integer_bytes}
use Rattle.spec_format.proofs.Basic.{and_then_some, map_some}

-- Values handed on.

pub bind_bind : {X Y Z : Type 0} (o : Out X) (f : X → Out Y) (k : Y → Out Z) → bind (bind o f) k ≡ bind o (λ x. bind (f x) k)
unfolding bind
bind_bind (fine x) f k = refl
bind_bind (fault q) f k = refl

bind_itself : {X : Type 0} (o : Out X) → bind o (λ x. fine x) ≡ o
unfolding bind
bind_itself (fine x) = refl
bind_itself (fault q) = refl

onto_bind : {X : Type 0} (o : Out X) (st : List X) (k : List X → Out X) → onto o st k ≡ bind o (λ x. k (x ∷ st))
unfolding onto bind
onto_bind (fine x) st k = refl
onto_bind (fault q) st k = refl

-- A machine as an algebra: it does not look at types.
abbrev pub untyped_algebra : {X : Type 0} → Machine X → Algebra X
untyped_algebra M = record { of_leaf = M.of_leaf; of_unary = λ o t x. M.of_unary o x; of_binary = λ o t x y. M.of_binary o x y }

-- operations stand behind their operands, so that the law of postfix items (spec_design/proofs/Postfix.antt) is theirs
-- code has no types
abbrev pub untyped1 : Unary → ExprTy → Operation
untyped1 o t = apply1 o

abbrev pub untyped2 : Binary → ExprTy → Operation
untyped2 o t = apply2 o

pub post_laid : Lays push untyped1 untyped2 post
unfolding post
post_laid = record { leaf = λ l. refl; unary = λ o t a. refl; binary = λ o t a b. refl }

module _ {X : Type 0} (M : Machine X) where
  run_leaf : (l : Leaf) (is : List Operation) (st : List X) → run M (push l ∷ is) st ≡ bind (M.of_leaf l) (λ x. run M is (x ∷ st))
  unfolding run
  run_leaf l is st = onto_bind (M.of_leaf l) st _

  run_unary : (o : Unary) (is : List Operation) (x : X) (st : List X) → run M (apply1 o ∷ is) (x ∷ st) ≡ bind (M.of_unary o x) (λ z. run M is (z ∷ st))
  unfolding run
  run_unary o is x st = onto_bind (M.of_unary o x) st _

  run_binary : (o : Binary) (is : List Operation) (x y : X) (st : List X)
      → run M (apply2 o ∷ is) (y ∷ x ∷ st) ≡ bind (M.of_binary o x y) (λ z. run M is (z ∷ st))
  unfolding run
  run_binary o is x y st = onto_bind (M.of_binary o x y) st _

  -- the operations of an expression push what the recursion gives; this machine's stack has room for any number
  pub run_post : (e : Expr) (is : List Operation) (st : List X) → run M (post e ++ is) st ≡ bind (fold (untyped_algebra M) e) (λ x. run M is (x ∷ st))
  run_post e is st =
      stack_law (untyped_algebra M) push untyped1 untyped2 post post_laid (length st + items e) (run M)
      (λ l k s f. run_leaf l k s) (λ o t k x s. run_unary o k x s) (λ o t k x y s. run_binary o k x y s) e is st (omega arith)

  pub run_tree : (e : Expr) → run M (post e) [] ≡ fold (untyped_algebra M) e
  unfolding run
  run_tree e = ap (λ l. run M l []) (sym (append-nil (post e))) ∙ run_post e [] [] ∙ bind_itself (fold (untyped_algebra M) e)

-- "1 to 64 operations" are the literals, names and operators
pub post_items : (e : Expr) → length (post e) ≡ items e
post_items e = lay_items push untyped1 untyped2 post post_laid e

-- Operations are read back from their bytes.

-- integer literals are integers: nothing else is asked of an operation to be read back
abbrev pub CodableLeaf : Leaf → Type 0
CodableLeaf (int z) = in_range z ≡ true
CodableLeaf (bit b) = Unit {0}
CodableLeaf (input k) = Unit {0}
CodableLeaf (variable k) = Unit {0}

abbrev pub CodableOperation : Operation → Type 0
CodableOperation (push l) = CodableLeaf l
CodableOperation (apply1 o) = Unit {0}
CodableOperation (apply2 o) = Unit {0}

unfoldable pub Codable : List Operation → Type 0
Codable [] = Unit {0}
Codable (i ∷ is) = CodableOperation i × Codable is

read_apply1 : (o : Unary) (s : List ℕ) → read_operation (unary_code o) s ≡ some (apply1 o, s)
read_apply1 sign s = refl
read_apply1 invert s = refl

read_apply2 : (o : Binary) (s : List ℕ) → read_operation (binary_code o) s ≡ some (apply2 o, s)
read_apply2 plus s = refl
read_apply2 minus s = refl
read_apply2 equal s = refl
read_apply2 unequal s = refl
read_apply2 less s = refl
read_apply2 at_most s = refl
read_apply2 greater s = refl
read_apply2 at_least s = refl
read_apply2 and s = refl
read_apply2 or s = refl
read_apply2 xor s = refl
read_apply2 times s = refl
read_apply2 divide s = refl
read_apply2 modulo s = refl
read_apply2 remainder s = refl

read_bit_lem : (b : Bool) (s : List ℕ) → read_operation 2 (byte_of_bit b ∷ s) ≡ some (push (bit b), s)
read_bit_lem true s = refl
read_bit_lem false s = refl

pub read_operation_lem : (i : Operation) (s : List ℕ) → CodableOperation i → read_operation (first i) (others i ++ s) ≡ some (i, s)
read_operation_lem (push (int z)) s h = ap {B = Taken} (λ n. some (push (int n), s)) (integer_bytes z h)
read_operation_lem (push (bit b)) s h = read_bit_lem b s
read_operation_lem (push (input k)) s h = refl
read_operation_lem (push (variable k)) s h = refl
read_operation_lem (apply1 o) s h = read_apply1 o s
read_operation_lem (apply2 o) s h = read_apply2 o s

some_map : {X Y : Type 0} (f : X → Y) (x : X) (o : Option X) → o ≡ some x → map f o ≡ some (f x)
some_map f x o e = rw e

pub operations_bytes : (is : List Operation) (f : ℕ) → Codable is → length (operation_bytes is) ≤ f → operations f (operation_bytes is) ≡ some is
unfolding operations operation_bytes Codable and_then
operations_bytes [] zero h l = refl
operations_bytes [] (suc f) h l = refl
operations_bytes (i ∷ is) zero h l = absurd (omega arith)
operations_bytes (i ∷ is) (suc f) h l =
    rw (read_operation_lem i (operation_bytes is) h.0)
    (some_map (λ l. i ∷ l) is _ (operations_bytes is f h.1 (omega (arith, length-append (others i) (operation_bytes is)))))

-- The code bytes of an expression, run on a stack, come to what recursion over the expression gives, for any machine.
pub run_code_lem : {X : Type 0} (M : Machine X) (e : Expr) → Codable (post e) → run_code M (code e) ≡ fold (untyped_algebra M) e
unfolding run_code code run_operations
run_code_lem M e h = rw (operations_bytes (post e) (length (operation_bytes (post e))) h (omega arith)) (run_tree M e)

-- the number that bounds the operations matters only where it is too small
pub operations_any : (f g : ℕ) (s : List ℕ) (is : List Operation) → operations f s ≡ some is → length is ≤ g → operations g s ≡ some is
unfolding operations and_then
operations_any zero zero [] is e b = e
operations_any zero (suc g) [] is e b = e
operations_any zero g (k ∷ s) is e b = none_some is e
operations_any (suc f) zero [] is e b = e
operations_any (suc f) (suc g) [] is e b = e
operations_any (suc f) zero (k ∷ s) is e b =
    let p = and_then_some (read_operation k s) _ is e in
    let q = map_some (λ l. p.0.0 ∷ l) (operations f p.0.1) is p.2 in
    absurd (omega (arith, ap length q.2))
operations_any (suc f) (suc g) (k ∷ s) is e b =
    let p = and_then_some (read_operation k s) _ is e in
    let q = map_some (λ l. p.0.0 ∷ l) (operations f p.0.1) is p.2 in
    joined p.0 q.0 p.1 (operations_any f g p.0.1 q.0 q.1 (omega (arith, ap length q.2))) q.2
  where
    joined : (p : Operation × List ℕ) (l : List Operation) → read_operation k s ≡ some p → operations g p.1 ≡ some l → p.0 ∷ l ≡ is
        → and_then (read_operation k s) (λ p. map (λ l. p.0 ∷ l) (operations g p.1)) ≡ some is
    joined p l h i m = rw (h, i) (ap some m)
