-- A typed expression over values of their types has a value of its type: by induction on the expression. Assumes nothing.
use Prim.Native.Nat.{ℕ, zero, suc}
use mathlib.Core.Path.{◌≡◌, refl, sym, ap}
use mathlib.Core.Bool.{Bool, true, false, cond, not, ◌&&◌, ◌||◌}
use mathlib.Core.Option.{Option, none, some}
use mathlib.Core.List.{List, [], ◌∷◌}
use lib.ListN.{length, get_or, set}
use lib.IntN.{ℤ, pos}
use lib.Signed.{le_z, lt_z}
use Rattle.spec_design.specs.Types.{Ty, std_logic, integer, ExprTy, plain, boolean, same_type, eq_z, in_range, in_type}
use Rattle.spec_design.specs.Expression.{Leaf, int, bit, input, variable, Unary, sign, invert, Binary, plus, minus, equal, unequal, less, at_most, greater}
use Rattle.spec_design.specs.Expression.{at_least, and, or, xor, times, divide, modulo, remainder, Expr, leaf, unary, binary, Out, fine, fault, fold, nth}
use Rattle.spec_design.specs.Expression.{plainly, sum_type, order_type, equality_type, logical_type, type_of_unary, type_of_binary, leaf_type, given, given2, type_of}
use Rattle.spec_semantics.specs.Evaluation.{bit_of, is_one, differ, unary_result, binary_result, as_integer, apply_unary, apply_binary, leaf_value, evaluate}
use Rattle.spec_semantics.specs.Values.{of_type, Values}
use Rattle.spec_semantics.specs.Division.{by_nonzero}
use Rattle.spec_design.proofs.Types.{same_type_eq}
use Rattle.spec_semantics.proofs.Divided.{rem_inside, mod_inside}
use Rattle.spec_semantics.proofs.Basic.{none_some, fault_fine, some_injective, fine_injective, bind_fine}

pub values_length : (ts : List Ty) (l : List ℤ) → Values ts l → length l ≡ length ts
unfolding Values
values_length [] [] h = refl
values_length [] (z ∷ l) h = absurd h
values_length (t ∷ ts) [] h = absurd h
values_length (t ∷ ts) (z ∷ l) h = ap suc (values_length ts l h.1)

pub values_nth : (ts : List Ty) (l : List ℤ) (k : ℕ) (t : Ty) → Values ts l → nth ts k ≡ some t → in_type t (get_or l k (pos 0)) ≡ true
unfolding Values nth
values_nth [] [] k t h e = none_some t e
values_nth [] (z ∷ l) k t h e = absurd h
values_nth (s ∷ ts) [] k t h e = absurd h
values_nth (s ∷ ts) (z ∷ l) zero t h e = rw (← some_injective s t e) h.0
values_nth (s ∷ ts) (z ∷ l) (suc k) t h e = values_nth ts l k t h.1 e

-- a value of its type may be put in the k-th place
pub values_set : (ts : List Ty) (l : List ℤ) (k : ℕ) (t : Ty) (z : ℤ) → Values ts l → nth ts k ≡ some t → in_type t z ≡ true → Values ts (set l k z)
unfolding Values nth
values_set [] [] k t z h e q = tt
values_set [] (y ∷ l) k t z h e q = absurd h
values_set (s ∷ ts) [] k t z h e q = absurd h
values_set (s ∷ ts) (y ∷ l) zero t z h e q = (rw (some_injective s t e) q, h.1)
values_set (s ∷ ts) (y ∷ l) (suc k) t z h e q = (h.0, values_set ts l k t z h.1 e q)

as_integer_in : (x z : ℤ) → as_integer x ≡ fine z → in_range z ≡ true
unfolding as_integer
as_integer_in x z e = go (in_range x) refl e
  where
    go : (b : Bool) → in_range x ≡ b → cond b (fine x) (fault 16) ≡ fine z → in_range z ≡ true
    go true q h = rw (← fine_injective x z h) q
    go false q h = fault_fine 16 z h

-- Results 0 and 1 are values of std_logic and of boolean.

data Logical : ExprTy → Type 0 where
  std_logic_is : Logical (plain std_logic)
  boolean_is : Logical boolean

bit_in : (b : Bool) → in_type std_logic (bit_of b) ≡ true
unfolding in_type
bit_in true = refl
bit_in false = refl

logical_in : {t : ExprTy} → Logical t → (b : Bool) (z : ℤ) → fine (bit_of b) ≡ fine z → of_type t z ≡ true
unfolding of_type
logical_in std_logic_is b z e = rw (← fine_injective (bit_of b) z e) (bit_in b)
logical_in boolean_is b z e = rw (← fine_injective (bit_of b) z e) (bit_in b)

logical_cast : (s t : ExprTy) → some s ≡ some t → Logical s → Logical t
logical_cast s t e l = rw (← some_injective s t e) l

order_logical : (s t : ExprTy) → order_type s ≡ some t → Logical t
unfolding order_type
order_logical (plain std_logic) t e = none_some t e
order_logical (plain integer) t e = logical_cast _ t e boolean_is
order_logical boolean t e = none_some t e

equality_logical : (s t : ExprTy) → equality_type s ≡ some t → Logical t
unfolding equality_type
equality_logical (plain s) t e = logical_cast _ t e boolean_is
equality_logical boolean t e = none_some t e

logical_logical : (s t : ExprTy) → logical_type s ≡ some t → Logical t
unfolding logical_type
logical_logical (plain std_logic) t e = logical_cast _ t e std_logic_is
logical_logical (plain integer) t e = none_some t e
logical_logical boolean t e = logical_cast _ t e boolean_is

sum_integer : (s t : ExprTy) → sum_type s ≡ some t → plain integer ≡ t
unfolding sum_type
sum_integer (plain std_logic) t e = none_some t e
sum_integer (plain integer) t e = some_injective _ t e
sum_integer boolean t e = none_some t e

sum_in : (s t : ExprTy) (x z : ℤ) → sum_type s ≡ some t → as_integer x ≡ fine z → of_type t z ≡ true
unfolding of_type in_type
sum_in s t x z e h = rw (← sum_integer s t e) (as_integer_in x z h)

unary_in : (o : Unary) (s t : ExprTy) (x z : ℤ) → type_of_unary o s ≡ some t → apply_unary o s x ≡ fine z → of_type t z ≡ true
unfolding type_of_unary apply_unary unary_result
unary_in sign s t x z e h = sum_in s t _ z e h
unary_in invert s t x z e h = logical_in (logical_logical s t e) (not (is_one x)) z h

-- of integers the remainder and the modulus are integers
integer_is : (s t : ExprTy) (x : ℤ) → sum_type s ≡ some t → of_type s x ≡ true → in_range x ≡ true
unfolding sum_type of_type in_type
integer_is (plain std_logic) t x e h = none_some t e
integer_is (plain integer) t x e h = h
integer_is boolean t x e h = none_some t e

inside : (s t : ExprTy) (z : ℤ) → sum_type s ≡ some t → in_range z ≡ true → of_type t z ≡ true
unfolding of_type in_type
inside s t z e h = rw (← sum_integer s t e) h

nonzero_in : (y : ℤ) (o : Out ℤ) (z : ℤ) → by_nonzero y o ≡ fine z → (eq_z y (pos 0) ≡ false) × (o ≡ fine z)
unfolding by_nonzero
nonzero_in y o z e = go (eq_z y (pos 0)) refl e
  where
    go : (b : Bool) → eq_z y (pos 0) ≡ b → cond b (fault 18) o ≡ fine z → (eq_z y (pos 0) ≡ false) × (o ≡ fine z)
    go true q h = fault_fine 18 z h
    go false q h = (q, h)

binary_in : (o : Binary) (s t : ExprTy) (x y z : ℤ) → of_type s x ≡ true → of_type s y ≡ true → type_of_binary o s ≡ some t → apply_binary o s x y ≡ fine z
    → of_type t z ≡ true
unfolding type_of_binary apply_binary binary_result
binary_in plus s t x y z p q e h = sum_in s t _ z e h
binary_in minus s t x y z p q e h = sum_in s t _ z e h
binary_in equal s t x y z p q e h = logical_in (equality_logical s t e) (eq_z x y) z h
binary_in unequal s t x y z p q e h = logical_in (equality_logical s t e) (not (eq_z x y)) z h
binary_in less s t x y z p q e h = logical_in (order_logical s t e) (lt_z x y) z h
binary_in at_most s t x y z p q e h = logical_in (order_logical s t e) (le_z x y) z h
binary_in greater s t x y z p q e h = logical_in (order_logical s t e) (lt_z y x) z h
binary_in at_least s t x y z p q e h = logical_in (order_logical s t e) (le_z y x) z h
binary_in and s t x y z p q e h = logical_in (logical_logical s t e) (is_one x && is_one y) z h
binary_in or s t x y z p q e h = logical_in (logical_logical s t e) (is_one x || is_one y) z h
binary_in xor s t x y z p q e h = logical_in (logical_logical s t e) (differ (is_one x) (is_one y)) z h
binary_in times s t x y z p q e h = sum_in s t _ z e h
binary_in divide s t x y z p q e h = sum_in s t _ z e (nonzero_in y _ z h).1
binary_in modulo s t x y z p q e h =
    let r = nonzero_in y _ z h in
    rw (← fine_injective _ z r.1) (inside s t _ e (mod_inside x y (integer_is s t y e q) r.0))
binary_in remainder s t x y z p q e h =
    let r = nonzero_in y _ z h in
    rw (← fine_injective _ z r.1) (inside s t _ e (rem_inside x y (integer_is s t x e p)))

-- the operator's type where its operands have theirs
pub given_is : (f : ExprTy → Option ExprTy) (s t : ExprTy) (o : Option ExprTy) → given f s o ≡ some t → f s ≡ some t
unfolding given
given_is f s t none e = none_some t e
given_is f s t (some u) e = go (same_type s u) e
  where
    go : (b : Bool) → cond b (f s) none ≡ some t → f s ≡ some t
    go true h = h
    go false h = none_some t h

-- the operands have the type that the operator is given
given_same : (f : ExprTy → Option ExprTy) (s t : ExprTy) (o : Option ExprTy) → given f s o ≡ some t → o ≡ some s
unfolding given
given_same f s t none e = none_some t e
given_same f s t (some u) e = go (same_type s u) refl e
  where
    go : (b : Bool) → same_type s u ≡ b → cond b (f s) none ≡ some t → some u ≡ some s
    go true q h = ap some (sym (same_type_eq s u q))
    go false q h = none_some t h

given2_same : (f : ExprTy → Option ExprTy) (s t : ExprTy) (o q : Option ExprTy) → given2 f s o q ≡ some t → (o ≡ some s) × (q ≡ some s)
unfolding given2
given2_same f s t none q e = none_some t e
given2_same f s t (some u) q e = go (same_type s u) refl e
  where
    go : (b : Bool) → same_type s u ≡ b → cond b (given f s q) none ≡ some t → (some u ≡ some s) × (q ≡ some s)
    go true m h = (ap some (sym (same_type_eq s u m)), given_same f s t q h)
    go false m h = none_some t h

pub given2_is : (f : ExprTy → Option ExprTy) (s t : ExprTy) (o q : Option ExprTy) → given2 f s o q ≡ some t → f s ≡ some t
unfolding given2
given2_is f s t none q e = none_some t e
given2_is f s t (some u) q e = go (same_type s u) e
  where
    go : (b : Bool) → cond b (given f s q) none ≡ some t → f s ≡ some t
    go true h = given_is f s t q h
    go false h = none_some t h

module _ (is vs : List Ty) (i v : List ℤ) (hi : Values is i) (hv : Values vs v) where
  name_in : (ts : List Ty) (l : List ℤ) → Values ts l → (k : ℕ) (t : ExprTy) → plainly (nth ts k) ≡ some t → of_type t (get_or l k (pos 0)) ≡ true
  unfolding plainly of_type
  name_in ts l h k t e = go (nth ts k) refl e
    where
      go : (o : Option Ty) → nth ts k ≡ o → plainly o ≡ some t → of_type t (get_or l k (pos 0)) ≡ true
      go none n m = none_some t m
      go (some s) n m = rw (← some_injective (plain s) t m) (values_nth ts l k s h n)

  leaf_in : (l : Leaf) (t : ExprTy) → leaf_type is vs l ≡ some t → of_type t (leaf_value i v l) ≡ true
  unfolding leaf_type leaf_value of_type in_type
  leaf_in (int n) t e = go (in_range n) refl e
    where
      go : (b : Bool) → in_range n ≡ b → cond b (some (plain integer)) none ≡ some t → of_type t n ≡ true
      go true q m = rw (← some_injective (plain integer) t m) q
      go false q m = none_some t m
  leaf_in (bit b) t e = logical_in (logical_cast _ t e std_logic_is) b _ refl
  leaf_in (input k) t e = name_in is i hi k t e
  leaf_in (variable k) t e = name_in vs v hv k t e

  -- An expression of the type t has, where it has a value, a value of the type t.
  pub value_typed : (e : Expr) (t : ExprTy) (z : ℤ) → type_of is vs e ≡ some t → evaluate e i v ≡ fine z → of_type t z ≡ true
  unfolding type_of evaluate fold
  value_typed (leaf l) t z e h = rw (← fine_injective _ z h) (leaf_in l t e)
  value_typed (unary o s a) t z e h = let q = bind_fine _ _ z h in unary_in o s t q.0 z (given_is _ s t _ e) q.2
  value_typed (binary o s a b) t z e h =
      let q = bind_fine _ _ z h in
      let r = bind_fine _ _ z q.2 in
      let g = given2_same _ s t _ _ e in
      binary_in o s t q.0 r.0 z (value_typed a s q.0 g.0 q.1) (value_typed b s r.0 g.1 r.1) (given2_is _ s t _ _ e) r.2
