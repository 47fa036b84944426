-- THE LAW: telling types from the first operation on gives the operations of a well-typed process, whatever stood in the place of the types. Assumes nothing.
use mathlib.Core.Path.{◌≡◌, refl, ◌∙◌, ap}
use mathlib.Core.Bool.{Bool, true, false, ◌&&◌, cond}
use mathlib.Core.Option.{Option, none, some}
use mathlib.Core.List.{List, [], ◌∷◌, ◌++◌, map, append_assoc, append-nil}
use Prim.Native.Nat.{ℕ, zero, suc, ◌≤◌}
use native.Mathlib.Omega.{arith}
use lib.Dec.{eqb}
use lib.ListN.{length, get_or, take}
use lib.IntN.{pos}
use borrow.Author.Tests.{lt-ltb}
use Rattle.spec_design.specs.Types.{Ty, integer, ExprTy, plain, boolean, in_range, type_byte}
use Rattle.spec_design.specs.Expression.{Leaf, int, bit, input, variable, Unary, Binary, Expr, nth, plainly, leaf_type, type_of_unary}
use Rattle.spec_design.specs.Expression.{type_of_binary, type_of}
use Rattle.spec_design.specs.Statement as S
use Rattle.spec_design.specs.Statement.{Stmt, act, wait, if_then, if_else, while, seq}
use Rattle.spec_design.specs.Process.{fits, typed_act, typed}
use Rattle.spec_design.proofs.Postfix.{Steps, lay_law}
use Rattle.base_codes.specs.Limit.{VARIABLES}
use Rattle.base_codes.specs.Operation.{count_or, operands_of}
use Rattle.base_codes.specs.Types.{tag_of, tag_or}
use Rattle.base_codes.proofs.OperationLaws.{unary_operands, binary_operands}
use Rattle.base_codes.proofs.TypeLaws.{unary_result_lem, binary_result_lem}
use Rattle.spec_semantics.proofs.Basic.{none_some}
use Rattle.base_ir.specs.Operations.{Op, op, leaf_op, ops, with_type, bare_op}
use Rattle.base_ir.specs.Entries.{entries, entry_ops}
use Rattle.base_ir.proofs.Held.{entry_ops_append}
use Rattle.base_ir.proofs.Laid.{unary_op, binary_op, ops_laid}
use Rattle.base_ir.proofs.Bare.{leaf_with, unary_with, binary_with}
use Rattle.front_operands.specs.Told.{tag_at, leaf_tag, tag_after, told}
use Rattle.spec_semantics.proofs.Typed.{fits_type, given_some, given2_some, named_below}

-- WHATEVER STOOD IN THE PLACE OF THE TYPES

-- it is not looked at: not for the argument, not for the type of what ends here
with_bare : (t : ℕ) (o : Op) → with_type t (bare_op o) ≡ with_type t o
unfolding with_type
with_bare t o = go (eqb (operands_of o.code) 0)
  where
    go : (b : Bool) → op o.code (cond b (cond b o.arg (pos 0)) (pos t)) ≡ op o.code (cond b o.arg (pos t))
    go true = refl
    go false = refl

after_bare : (is vs : List ℕ) (t : ℕ) (o : Op) → tag_after is vs (bare_op o) t ≡ tag_after is vs o t
unfolding tag_after with_type
after_bare is vs t o = go (eqb (operands_of o.code) 0) _
  where
    go : (b : Bool) (x : ℕ) → cond b (leaf_tag is vs o.code (cond b o.arg (pos 0))) x ≡ cond b (leaf_tag is vs o.code o.arg) x
    go true x = refl
    go false x = refl

bare_told : (is vs : List ℕ) (t : ℕ) (os : List Op) → told is vs t (map bare_op os) ≡ told is vs t os
unfolding told
bare_told is vs t [] = refl
bare_told is vs t (o ∷ os) = rw (with_bare t o, after_bare is vs t o, bare_told is vs (tag_after is vs o t) os)

-- NAMES

-- the number of a name's type stands at its index
type_at_lem : (ts : List Ty) (l : List ℕ) (k : ℕ) (t : Ty) → take (length ts) l ≡ map type_byte ts → nth ts k ≡ some t → get_or l k 0 ≡ type_byte t
unfolding nth
type_at_lem [] l k t e h = none_some t h
type_at_lem (s ∷ ts) [] k t e h = absurd (let z : ◌≡◌ {A = ℕ} 0 1 = cc in omega arith)
type_at_lem (s ∷ ts) (x ∷ l) zero t e h = let a : x ≡ type_byte s = cc in let b : s ≡ t = cc in a ∙ ap type_byte b
type_at_lem (s ∷ ts) (x ∷ l) (suc k) t e h = let a : take (length ts) l ≡ map type_byte ts = cc in type_at_lem ts l k t a h

name_tag : (ts : List Ty) (l : List ℕ) (k : ℕ) (u : ExprTy) → length ts ≤ VARIABLES → take (length ts) l ≡ map type_byte ts → plainly (nth ts k) ≡ some u
    → tag_at l k ≡ tag_or (plainly (nth ts k))
unfolding plainly
name_tag ts l k u n e h = let b = named_below ts k u h in rw (lt-ltb k 32 (omega arith)) (go (nth ts k) refl h)
  where
    go : (o : Option Ty) → nth ts k ≡ o → plainly o ≡ some u → get_or l k 0 ≡ tag_or (plainly o)
    go none q m = none_some u m
    go (some t) q m = type_at_lem ts l k t e q

-- EXPRESSIONS

module _ (is vs : List Ty) (ti tv : List ℕ) (ni : length is ≤ VARIABLES) (nv : length vs ≤ VARIABLES)
    (ei : take (length is) ti ≡ map type_byte is) (ev : take (length vs) tv ≡ map type_byte vs) where
  leaf_tag_lem : (l : Leaf) (t : ℕ) (u : ExprTy) → leaf_type is vs l ≡ some u → tag_after ti tv (leaf_op l) t ≡ tag_or (leaf_type is vs l)
  unfolding tag_after leaf_tag leaf_type operands_of count_or
  leaf_tag_lem (int z) t u h = go (in_range z) h
    where
      go : (b : Bool) → cond b (some (plain integer)) none ≡ some u → type_byte integer ≡ tag_or (cond b (some (plain integer)) none)
      go true m = refl
      go false m = none_some u m
  leaf_tag_lem (bit b) t u h = refl
  leaf_tag_lem (input k) t u h = name_tag is ti k u ni ei h
  leaf_tag_lem (variable k) t u h = name_tag vs tv k u nv ev h

  -- an operator before k, where its operands have the type s
  unary_told : (o : Unary) (s u : ExprTy) (k : List Op) (x y : Option ExprTy) → x ≡ some s → y ≡ some u → type_of_unary o s ≡ some u → told ti tv (tag_or y) k ≡ k
      → told ti tv (tag_or x) (unary_op o s ∷ k) ≡ unary_op o s ∷ k
  unfolding told tag_after
  unary_told o s u k x y e f g c = rw (e, unary_with (tag_of s) o (pos (tag_of s)), unary_operands o, unary_result_lem o s u g, rw f at c)

  binary_told : (o : Binary) (s u : ExprTy) (k : List Op) (x y : Option ExprTy) → x ≡ some s → y ≡ some u → type_of_binary o s ≡ some u → told ti tv (tag_or y) k ≡ k
      → told ti tv (tag_or x) (binary_op o s ∷ k) ≡ binary_op o s ∷ k
  unfolding told tag_after
  binary_told o s u k x y e f g c = rw (e, binary_with (tag_of s) o (pos (tag_of s)), binary_operands o, binary_result_lem o s u g, rw f at c)

  leaf_told : (l : Leaf) (t : ℕ) (k : List Op) (u : ExprTy) → leaf_type is vs l ≡ some u → told ti tv (tag_or (leaf_type is vs l)) k ≡ k
      → told ti tv t (leaf_op l ∷ k) ≡ leaf_op l ∷ k
  unfolding told
  leaf_told l t k u h c = rw (leaf_with t l, leaf_tag_lem l t u h, c)

  -- the number of the type of what ends before the next operation is the state
  told_steps : Steps leaf_op unary_op binary_op (λ (e : Expr) (t : ℕ). (u : ExprTy) × (type_of is vs e ≡ some u)) (λ (e : Expr) (t : ℕ). tag_or (type_of is vs e))
      (λ (k : List Op) (t : ℕ). told ti tv t k ≡ k)
  unfolding type_of
  told_steps =
      record {
        leaf = λ l t k f c. leaf_told l t k f.0 f.1 c;
        unary = λ o s a t k f. let p = given_some (type_of_unary o) s f.0 (type_of is vs a) f.1 in
            ((s, p.0), λ c. unary_told o s f.0 k (type_of is vs a) _ p.0 f.1 p.1 c);
        binary = λ o s a b t k f.
            let p = given2_some (type_of_binary o) s f.0 (type_of is vs a) (type_of is vs b) f.1 in
            ((s, p.0), (s, p.1), λ c. binary_told o s f.0 k (type_of is vs b) _ p.1 f.1 p.2 c);
      }

  -- operations that stay as they are, whatever type ends before them
  abbrev Stays : List Op → Type 0
  Stays k = (t : ℕ) → told ti tv t k ≡ k

  expr_stays : (e : Expr) (x : Option ExprTy) → fits is vs e x ≡ true → (k : List Op) → Stays k → Stays (ops e ++ k)
  expr_stays e x h k c t = let q = fits_type is vs e x h in lay_law ops_laid told_steps e t k (q.0, q.1) (c (tag_or (type_of is vs e)))

  -- STATEMENTS

  and_first : (a b : Bool) → (a && b) ≡ true → a ≡ true
  and_first true b e = refl
  and_first false b e = e

  and_second : (a b : Bool) → (a && b) ≡ true → b ≡ true
  and_second true b e = e
  and_second false true e = refl
  and_second false false e = e

  -- an expression's operations, then those of the statements inside
  inside : (e : Expr) (x : Option ExprTy) → fits is vs e x ≡ true → (l k : List Op) → Stays (l ++ k) → Stays ((ops e ++ l) ++ k)
  inside e x h l k c = rw (append_assoc (ops e) l k) (expr_stays e x h (l ++ k) c)

  both : (a b : Stmt) (k : List Op) → Stays (entry_ops (entries a) ++ (entry_ops (entries b) ++ k)) → Stays (entry_ops (entries a ++ entries b) ++ k)
  both a b k c = rw (entry_ops_append (entries a) (entries b), append_assoc (entry_ops (entries a)) (entry_ops (entries b)) k) c

  stmt_stays : (os : List Ty) (s : Stmt) → typed is os vs s ≡ true → (k : List Op) → Stays k → Stays (entry_ops (entries s) ++ k)
  unfolding entries entry_ops typed typed_act
  stmt_stays os (act (S.output n e)) h k c = inside e (plainly (nth os n)) h [] k c
  stmt_stays os (act (S.variable n e)) h k c = inside e (plainly (nth vs n)) h [] k c
  stmt_stays os (act S.null) h k c = c
  stmt_stays os wait h k c = c
  stmt_stays os (if_then e a) h k c =
      inside e (some boolean) (and_first (fits is vs e (some boolean)) (typed is os vs a) h) (entry_ops (entries a)) k
      (stmt_stays os a (and_second (fits is vs e (some boolean)) (typed is os vs a) h) k c)
  stmt_stays os (if_else e a b) h k c =
      let r = and_second (fits is vs e (some boolean)) (typed is os vs a && typed is os vs b) h in
      inside e (some boolean) (and_first (fits is vs e (some boolean)) (typed is os vs a && typed is os vs b) h) (entry_ops (entries a ++ entries b)) k
      (both a b k (stmt_stays os a (and_first (typed is os vs a) (typed is os vs b) r) (entry_ops (entries b) ++ k)
      (stmt_stays os b (and_second (typed is os vs a) (typed is os vs b) r) k c)))
  stmt_stays os (while e b) h k c =
      inside e (some boolean) (and_first (fits is vs e (some boolean)) (typed is os vs b) h) (entry_ops (entries b)) k
      (stmt_stays os b (and_second (fits is vs e (some boolean)) (typed is os vs b) h) k c)
  stmt_stays os (seq a b) h k c =
      both a b k (stmt_stays os a (and_first (typed is os vs a) (typed is os vs b) h) (entry_ops (entries b) ++ k)
      (stmt_stays os b (and_second (typed is os vs a) (typed is os vs b) h) k c))

  -- the operations of a well-typed statement are told right, from whatever type on
  pub told_right : (os : List Ty) (s : Stmt) → typed is os vs s ≡ true → (t : ℕ) → told ti tv t (map bare_op (entry_ops (entries s))) ≡ entry_ops (entries s)
  unfolding told
  told_right os s h t = bare_told ti tv t (entry_ops (entries s)) ∙ (rw (append-nil (entry_ops (entries s))) at (stmt_stays os s h [] nothing t))
    where
      nothing : Stays []
      nothing t = refl
