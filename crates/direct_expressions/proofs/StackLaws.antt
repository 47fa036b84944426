-- A stack in an array: one number more, one or two fewer, and what a turn of the evaluator's loop keeps. By induction on the depth. Assumes nothing.
use Prim.Native.Nat.{ℕ, zero, suc, ◌+◌, ◌-◌, ◌≤◌, ◌<◌}
use mathlib.Core.Path.{◌≡◌, refl, ◌∙◌}
use mathlib.Core.List.{List}
use native.Mathlib.Omega.{arith}
use borrow.Author.Tests.{lt-ltb, le-ltb, ne_eqb}
use lib.ListN.{get_or, set, length-set}
use lib.IntN.{ℤ, pos}
use mir.Syntax.{w32}
use mir.Val.{SFits, to_z, of_z}
use mir.Facts.{to_z-of_z}
use Rattle.spec_design.specs.Expression.{Out, fine, fault, bind}
use Rattle.spec_semantics.specs.Twos.{unsigned32}
use Rattle.base_ir.specs.Operations.{op}
use Rattle.base_ir.specs.Arrays.{ops_from}
use Rattle.base_codes.specs.Operation.{operands_of}
use Rattle.std.specs.Prelude.{Result, Ok, Err, IsOk}
use Rattle.base_codes.specs.declared.fault.Fault.{Fault}
use Rattle.base_codes.specs.Fault.{number_of}
use Rattle.base_operators.specs.Operators.{unary_on, binary_on, Applied}
use Rattle.base_codes.specs.Stack.{stack_of}
use Rattle.base_codes.proofs.StackLaws.{stack_length, stack_push}
use Rattle.direct_expressions.specs.Machine.{kind_of, pushed, pushed_within, unary_next, binary_next, step_of, run_ops, top_of, value_in}
use Rattle.direct_expressions.specs.Stack.{Room, Says}

-- a transition that says one thing says what equals it
pub saying : {a : List ℤ} {r : Result ℕ Fault} {m n : Out (List ℤ)} → n ≡ m → Says a r m → Says a r n
saying e s = rw e s

-- a number put at element i
put : (a : List ℤ) (i : ℕ) (v : ℤ) → Room a (i + 1) → Says (set a i v) (Ok (i + 1)) (pushed (fine v) (stack_of (pos 0) a i))
put a i v m =
    record {
      room = record { numbers = length-set a i v ∙ m.numbers; depth = m.depth };
      says = rw (stack_push (pos 0) a i v (omega (arith, m.numbers, m.depth)));
    }

-- through a local
pub kept : (a : List ℤ) (i : ℕ) (v : ℤ) → SFits w32 v → Room a (i + 1)
    → Says (set a i (to_z w32 (of_z w32 v))) (Ok (i + 1)) (pushed (fine v) (stack_of (pos 0) a i))
kept a i v f m = rw (to_z-of_z f) (put a i v m)

-- a stop changes nothing
pub stopped : (a : List ℤ) (n : ℕ) (q : Fault) {o : Out (List ℤ)} → Room a n → fault (number_of q) ≡ o → Says a (Err q) o
stopped a n q m e = record { room = record { numbers = m.numbers; depth = omega arith }; says = e }

-- an operator that gives o, applied at element i
pub went : {b : List ℤ} {r : Result Unit Fault} {n : Out (List ℤ)} (o : Out ℤ) (a : List ℤ) (i : ℕ) → n ≡ pushed o (stack_of (pos 0) a i) → Applied o a i b r → IsOk r
    → Room a (i + 1)
    → Says b (Ok (i + 1)) n
went o a i h p e m = let v = p.value e in saying h (rw (v.1, v.2) (put a i v.0 m))

pub halted : {b : List ℤ} {r : Result Unit Fault} {n : Out (List ℤ)} (f : Fault) (o : Out ℤ) (a : List ℤ) (i : ℕ) → n ≡ pushed o (stack_of (pos 0) a i) → Applied o a i b r → r ≡ Err f
    → Room a (i + 1) → Says b (Err f) n
halted f o a i h p e m = let v = p.refused f e in saying h (rw (v.0, v.1) (stopped a (i + 1) f m refl))

pub push_full : (a : List ℤ) (n : ℕ) (z : ℤ) → 64 ≤ n → fault 13 ≡ pushed_within z (stack_of (pos 0) a n)
push_full a n z h = rw (stack_length (pos 0) a n, le-ltb n 64 h)

pub push_room : (a : List ℤ) (n : ℕ) (z : ℤ) → n < 64 → pushed_within z (stack_of (pos 0) a n) ≡ pushed (fine z) (stack_of (pos 0) a n)
push_room a n z h = rw (stack_length (pos 0) a n, lt-ltb n 64 h)

-- operators on too few numbers, and on enough
pub unary_short : (a : List ℤ) (n k t : ℕ) → n < 1 → fault 13 ≡ unary_next k t (stack_of (pos 0) a n)
unfolding stack_of
unary_short a zero k t h = refl
unary_short a (suc n) k t h = absurd (omega arith)

pub binary_short : (a : List ℤ) (n k t : ℕ) → n ≤ 1 → fault 13 ≡ binary_next k t (stack_of (pos 0) a n)
unfolding stack_of
binary_short a zero k t h = refl
binary_short a (suc zero) k t h = refl
binary_short a (suc (suc n)) k t h = absurd (omega arith)

pub unary_more : (a : List ℤ) (n k t : ℕ) → 1 ≤ n
    → unary_next k t (stack_of (pos 0) a n) ≡ pushed (unary_on k t (get_or a (n - 1) (pos 0))) (stack_of (pos 0) a (n - 1))
unfolding stack_of
unary_more a zero k t h = absurd (omega arith)
unary_more a (suc n) k t h = let e : suc n - 1 ≡ n = omega arith in rw e

pub binary_more : (a : List ℤ) (n k t : ℕ) → 2 ≤ n
    → binary_next k t (stack_of (pos 0) a n) ≡ pushed (binary_on k t (get_or a (n - 2) (pos 0)) (get_or a (n - 2 + 1) (pos 0))) (stack_of (pos 0) a (n - 2))
unfolding stack_of
binary_more a zero k t h = absurd (omega arith)
binary_more a (suc zero) k t h = absurd (omega arith)
binary_more a (suc (suc n)) k t h =
    let d : suc (suc n) - 2 ≡ n = omega arith in
    let e : n + 1 ≡ suc n = omega arith in
    rw (d, e)

-- the number on top
pub top_none : (a : List ℤ) (n : ℕ) → n < 1 → fault 13 ≡ top_of (stack_of (pos 0) a n)
unfolding stack_of
top_none a zero h = refl
top_none a (suc n) h = absurd (omega arith)

pub top_some : (a : List ℤ) (n : ℕ) → 1 ≤ n → fine (get_or a (n - 1) (pos 0)) ≡ top_of (stack_of (pos 0) a n)
unfolding stack_of
top_some a zero h = absurd (omega arith)
top_some a (suc n) h = let e : suc n - 1 ≡ n = omega arith in rw e

-- an operation by the tests of its code
module _ (i v : List ℤ) (k : ℕ) (z : ℤ) (st : List ℤ) where
  pub step_literal : k < 3 → step_of i v (op k z) st ≡ pushed_within z st
  unfolding step_of
  step_literal h = rw (lt-ltb k 3 h)

  pub step_input : k ≡ 3 → step_of i v (op k z) st ≡ pushed_within (get_or i (unsigned32 z) (pos 0)) st
  unfolding step_of
  step_input h = rw h

  pub step_variable : k ≡ 4 → step_of i v (op k z) st ≡ pushed_within (get_or v (unsigned32 z) (pos 0)) st
  unfolding step_of
  step_variable h = rw h

  pub step_unary : 3 ≤ k → (k ≡ 3 → ⊥) → (k ≡ 4 → ⊥) → operands_of k ≡ 1 → step_of i v (op k z) st ≡ unary_next k (kind_of z) st
  unfolding step_of
  step_unary a b c d = rw (le-ltb k 3 a, ne_eqb k 3 b, ne_eqb k 4 c, d)

  pub step_binary : 3 ≤ k → (k ≡ 3 → ⊥) → (k ≡ 4 → ⊥) → (operands_of k ≡ 1 → ⊥) → step_of i v (op k z) st ≡ binary_next k (kind_of z) st
  unfolding step_of
  step_binary a b c d = rw (le-ltb k 3 a, ne_eqb k 3 b, ne_eqb k 4 c, ne_eqb (operands_of k) 1 d)

-- THE LOOP
module _ (codes : List ℕ) (args : List ℤ) (from to : ℕ) (i v : List ℤ) where
  -- with n numbers in the array a, at the operation k: the rest leaves what the whole leaves
  pub record Left (a : List ℤ) (n k : ℕ) : Type 0 where
    pub room : Room a n
    pub same : bind (run_ops (step_of i v) (ops_from codes args k (to - k)) (stack_of (pos 0) a n)) top_of ≡ value_in codes args from to i v

  pub left_first : (a : List ℤ) → Room a 0 → Left a 0 from
  unfolding value_in stack_of
  left_first a h = record { room = h; same = refl }

  -- the run, an operation at a time
  turn : (n k : ℕ) (a : List ℤ) (o : Out (List ℤ)) → Left a n k → k < to → o ≡ step_of i v (op (get_or codes k 0) (get_or args k (pos 0))) (stack_of (pos 0) a n)
      → bind (bind o (λ u. run_ops (step_of i v) (ops_from codes args (k + 1) (to - (k + 1))) u)) top_of ≡ value_in codes args from to i v
  unfolding ops_from run_ops
  turn n k a o p h e =
      let z : to - k ≡ suc (to - (k + 1)) = omega arith in
      rw e (rw z at p.same)

  pub left_again : (n k : ℕ) (a a' : List ℤ) (r : Result ℕ Fault) (d : ℕ) → Left a n k → k < to
      → Says a' r (step_of i v (op (get_or codes k 0) (get_or args k (pos 0))) (stack_of (pos 0) a n)) → r ≡ Ok d → Left a' d (k + 1)
  unfolding bind
  left_again n k a a' r d p h q e =
      let w = rw e at q in
      record { room = w.room; same = turn n k a (fine (stack_of (pos 0) a' d)) p h w.says }

  pub left_stop : (n k : ℕ) (a a' : List ℤ) (r : Result ℕ Fault) (x : Fault) → Left a n k → k < to
      → Says a' r (step_of i v (op (get_or codes k 0) (get_or args k (pos 0))) (stack_of (pos 0) a n)) → r ≡ Err x
      → fault (number_of x) ≡ value_in codes args from to i v
  unfolding bind
  left_stop n k a a' r x p h q e =
      let w = rw e at q in
      turn n k a (fault (number_of x)) p h w.says

  pub left_end : (n k : ℕ) (a : List ℤ) (r : Out ℤ) → Left a n k → to ≤ k → r ≡ top_of (stack_of (pos 0) a n)
      → r ≡ value_in codes args from to i v
  unfolding bind run_ops ops_from
  left_end n k a r p h e =
      let z : to - k ≡ 0 = omega arith in
      e ∙ (rw z at p.same)
