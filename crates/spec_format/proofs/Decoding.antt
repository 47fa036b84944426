-- Decoding is the inverse of coding, and a typed machine gives each operator its operands' type: by induction on the expression one way,
-- on the operations, over a stack of typed expressions, the other. Assumes nothing.
use Prim.Native.Nat.{ℕ, zero, suc}
use mathlib.Core.Path.{◌≡◌, refl, sym, ap, ◌∙◌}
use mathlib.Core.Logic.{◌↔◌}
use mathlib.Core.Bool.{Bool, true, false, cond}
use mathlib.Core.Option.{Option, none, some}
use mathlib.Core.List.{List, [], ◌∷◌, ◌++◌, append_assoc, append-nil}
use lib.ListN.{length}
use lib.Dec.{eqb}
use Rattle.spec_design.specs.Types.{Ty, ExprTy, same_type, in_range}
use Rattle.spec_design.specs.Expression.{Leaf, int, bit, input, variable, Unary, Binary, Expr, leaf, unary, binary, Out, fine, fault, bind, Algebra, fold}
use Rattle.spec_design.specs.Expression.{leaf_type, type_of_unary, type_of_binary, given, given2, type_of}
use Rattle.spec_design.proofs.Types.{same_type_refl}
use Rattle.spec_design.proofs.Postfix.{Steps, lay_whole}
use Rattle.spec_semantics.proofs.Basic.{none_some, fault_fine, some_injective, fine_injective, eqb-true, cond_case}
use Rattle.spec_format.specs.Words.{Bytes, word4}
use Rattle.spec_semantics.specs.Twos.{signed32}
use Rattle.spec_format.specs.Code.{Operation, push, apply1, apply2, post, byte_of_bit, first, others, operation_bytes, code, read_int, bit_of, read_bit, read_name}
use Rattle.spec_format.specs.Code.{applying, operator, read_operation, operations, onto, run, run_operations, run_code, with_type, typed, trees, value_of}
use Rattle.spec_format.specs.Code.{decode}
use Rattle.base_codes.specs.Operation.{unary_for, binary_for}
use Rattle.base_codes.proofs.OperationLaws.{unary_is, binary_is}
use Rattle.spec_format.proofs.Words.{word4_small, signed_range, bytes_integer}
use Rattle.spec_format.proofs.Basic.{and_then_some, map_some}
use Rattle.spec_format.proofs.Coding.{untyped1, untyped2, bind_bind, untyped_algebra, CodableOperation, Codable, post_laid, run_code_lem}
use Rattle.spec_semantics.proofs.Typed.{bind_cong, given_some, given2_some}

-- Types of operands.

unary_type : (is vs : List Ty) (o : Unary) (s t : ExprTy) (a : Expr) → type_of is vs a ≡ some s → type_of_unary o s ≡ some t → type_of is vs (unary o s a) ≡ some t
unfolding type_of given
unary_type is vs o s t a p h = rw (p, same_type_refl s) h

binary_type : (is vs : List Ty) (o : Binary) (s u t : ExprTy) (a b : Expr)
    → type_of is vs a ≡ some s → type_of is vs b ≡ some u → same_type s u ≡ true → type_of_binary o s ≡ some t → type_of is vs (binary o s a b) ≡ some t
unfolding type_of given2 given
binary_type is vs o s u t a b p q e h = rw (p, q, same_type_refl s, e) h

-- A typed expression has integer literals only, so that its code is read back.

typed_leaf : (is vs : List Ty) (l : Leaf) (t : ExprTy) → leaf_type is vs l ≡ some t → Codable (push l ∷ [])
unfolding Codable leaf_type
typed_leaf is vs (int z) t e = (cond_case (in_range z) e (λ q m. q) (λ q m. none_some t m), tt)
typed_leaf is vs (bit b) t e = (tt, tt)
typed_leaf is vs (input k) t e = (tt, tt)
typed_leaf is vs (variable k) t e = (tt, tt)

codable_steps : (is vs : List Ty) → Steps push untyped1 untyped2 (λ (e : Expr) (w : Unit {0}). (t : ExprTy) × (type_of is vs e ≡ some t))
    (λ (e : Expr) (w : Unit {0}). w) (λ (k : List Operation) (w : Unit {0}). Codable k)
unfolding type_of Codable
codable_steps is vs =
    record {
      leaf = λ l w k f c. ((typed_leaf is vs l f.0 f.1).0, c);
      unary = λ o s a w k f. ((s, (given_some (type_of_unary o) s f.0 (type_of is vs a) f.1).0), λ c. (tt, c));
      binary = λ o s a b w k f. let p = given2_some (type_of_binary o) s f.0 (type_of is vs a) (type_of is vs b) f.1 in ((s, p.0), (s, p.1), λ c. (tt, c));
    }

pub typed_codable : (is vs : List Ty) (e : Expr) (t : ExprTy) → type_of is vs e ≡ some t → Codable (post e)
unfolding Codable
typed_codable is vs e t h = lay_whole post_laid (codable_steps is vs) e tt (t, h) tt

module _ {X : Type 0} (is vs : List Ty) (A : Algebra X) where
  -- over a typed expression the typed machine gives the algebra's value with the expression's type
  pub fold_typed : (e : Expr) (t : ExprTy) → type_of is vs e ≡ some t → fold (untyped_algebra (typed is vs A)) e ≡ bind (fold A e) (λ x. fine (t, x))
  unfolding type_of fold with_type bind
  fold_typed (leaf l) t h = rw h
  fold_typed (unary o s a) t h =
      let p = given_some (type_of_unary o) s t (type_of is vs a) h in
      ap (λ z. bind z (λ x. with_type (type_of_unary o x.0) (A.of_unary o x.0 x.1))) (fold_typed a s p.0)
      ∙ bind_bind (fold A a) (λ x. fine (s, x)) _
      ∙ bind_cong (fold A a) _ _ (λ x. ap (λ z. with_type z (A.of_unary o s x)) p.1)
      ∙ sym (bind_bind (fold A a) (λ x. A.of_unary o s x) _)
  fold_typed (binary o s a b) t h =
      let p = given2_some (type_of_binary o) s t (type_of is vs a) (type_of is vs b) h in
      let two : ExprTy × X → ExprTy × X → Out (ExprTy × X) =
      λ x y. cond (same_type x.0 y.0) (with_type (type_of_binary o x.0) (A.of_binary o x.0 x.1 y.1)) (fault 13) in
      ap (λ z. bind z (λ x. bind (fold (untyped_algebra (typed is vs A)) b) (λ y. two x y))) (fold_typed a s p.0)
      ∙ ap (λ z. bind (bind (fold A a) (λ x. fine (s, x))) (λ x. bind z (λ y. two x y))) (fold_typed b s p.1)
      ∙ bind_bind (fold A a) (λ x. fine (s, x)) _
      ∙ bind_cong (fold A a) _ _ (λ x. bind_bind (fold A b) (λ y. fine (s, y)) _
      ∙ bind_cong (fold A b) _ _ (λ y. rw (same_type_refl s, p.2))
      ∙ sym (bind_bind (fold A b) (λ y. A.of_binary o s x y) _))
      ∙ sym (bind_bind (fold A a) (λ x. bind (fold A b) (λ y. A.of_binary o s x y)) _)

  -- The code of a typed expression comes to the algebra's value, every operator getting its operands' type.
  pub run_typed : (e : Expr) (t : ExprTy) → type_of is vs e ≡ some t → run_code (typed is vs A) (code e) ≡ bind (fold A e) (λ x. fine (t, x))
  run_typed e t h = run_code_lem (typed is vs A) e (typed_codable is vs e t h) ∙ fold_typed e t h

fold_trees : (e : Expr) → fold trees e ≡ fine e
unfolding fold bind
fold_trees (leaf l) = refl
fold_trees (unary o t a) = rw (fold_trees a)
fold_trees (binary o t a b) = rw (fold_trees a, fold_trees b)

-- A typed expression is read back from its code, with its type.
pub decode_code : (is vs : List Ty) (e : Expr) (t : ExprTy) → type_of is vs e ≡ some t → decode is vs (code e) ≡ some (t, e)
unfolding decode value_of bind
decode_code is vs e t h = rw (run_typed is vs trees e t h, fold_trees e)

-- Operations that are read are those that would be written.

pub record Read (k : ℕ) (s : List ℕ) (i : Operation) (r : List ℕ) : Type 0 where
  pub byte : k ≡ first i
  pub rest : s ≡ others i ++ r
  pub codable : CodableOperation i
  pub bytes : Bytes r

read_cast : (k : ℕ) (s : List ℕ) (p q : Operation × List ℕ) → p ≡ q → Read k s p.0 p.1 → Read k s q.0 q.1
read_cast k s p q e b = rw e at b

int_read : (s : List ℕ) (p : Operation × List ℕ) → Bytes s → read_int s ≡ some p → Read 1 s p.0 p.1
unfolding Bytes
int_read [] p h e = none_some p e
int_read (a ∷ []) p h e = none_some p e
int_read (a ∷ b ∷ []) p h e = none_some p e
int_read (a ∷ b ∷ c ∷ []) p h e = none_some p e
int_read (a ∷ b ∷ c ∷ d ∷ s) p h e =
    read_cast 1 _ (push (int (signed32 (word4 a b c d))), s) p (some_injective _ p e)
    (record {
      byte = refl;
      rest = ap (λ l. l ++ s) (sym (bytes_integer a b c d h.0 h.1.0 h.1.1.0 h.1.1.1.0));
      codable = signed_range (word4 a b c d) (word4_small a b c d h.0 h.1.0 h.1.1.0 h.1.1.1.0);
      bytes = h.1.1.1.1;
    })

bit_byte : (a : ℕ) (b : Bool) → bit_of a ≡ some b → a ≡ byte_of_bit b
bit_byte a b e =
    cond_case (eqb a 0) e
    (λ q m. eqb-true a 0 q ∙ ap byte_of_bit (some_injective false b m))
    (λ q m. cond_case (eqb a 1) m (λ q' m'. eqb-true a 1 q' ∙ ap byte_of_bit (some_injective true b m')) (λ q' m'. none_some b m'))

bit_read : (s : List ℕ) (p : Operation × List ℕ) → Bytes s → read_bit s ≡ some p → Read 2 s p.0 p.1
unfolding Bytes
bit_read [] p h e = none_some p e
bit_read (a ∷ s) p h e =
    let q = map_some _ (bit_of a) p e in
    read_cast 2 _ (push (bit q.0), s) p q.2 (record { byte = refl; rest = ap (λ x. x ∷ s) (bit_byte a q.0 q.1); codable = tt; bytes = h.1 })

input_read : (s : List ℕ) (p : Operation × List ℕ) → Bytes s → read_name input s ≡ some p → Read 3 s p.0 p.1
unfolding Bytes
input_read [] p h e = none_some p e
input_read (a ∷ s) p h e = read_cast 3 _ (push (input a), s) p (some_injective _ p e) (record { byte = refl; rest = refl; codable = tt; bytes = h.1 })

variable_read : (s : List ℕ) (p : Operation × List ℕ) → Bytes s → read_name variable s ≡ some p → Read 4 s p.0 p.1
unfolding Bytes
variable_read [] p h e = none_some p e
variable_read (a ∷ s) p h e = read_cast 4 _ (push (variable a), s) p (some_injective _ p e) (record { byte = refl; rest = refl; codable = tt; bytes = h.1 })

record Operator (k : ℕ) (i : Operation) : Type 0 where
  byte : k ≡ first i
  rest : others i ≡ []
  codable : CodableOperation i

operator_read : (k : ℕ) (i : Operation) → operator k ≡ some i → Operator k i
operator_read k i e = go (unary_for k) (binary_for k) refl refl e
  where
    go : (u : Option Unary) (b : Option Binary) → unary_for k ≡ u → binary_for k ≡ b → applying u b ≡ some i → Operator k i
    go (some o) b p q m = rw (← some_injective (apply1 o) i m) (record { byte = unary_is k o p; rest = refl; codable = tt })
    go none (some o) p q m = rw (← some_injective (apply2 o) i m) (record { byte = binary_is k o q; rest = refl; codable = tt })
    go none none p q m = none_some i m

read_byte : (k n : ℕ) (s : List ℕ) (p : Operation × List ℕ) → eqb k n ≡ true → Read n s p.0 p.1 → Read k s p.0 p.1
read_byte k n s p q b = rw (eqb-true k n q) b

operation_read : (k : ℕ) (s : List ℕ) (p : Operation × List ℕ) → Bytes s → read_operation k s ≡ some p → Read k s p.0 p.1
operation_read k s p h e =
    cond_case (eqb k 1) e (λ q m. read_byte k 1 s p q (int_read s p h m)) (λ q1 e1.
    cond_case (eqb k 2) e1 (λ q m. read_byte k 2 s p q (bit_read s p h m)) (λ q2 e2.
    cond_case (eqb k 3) e2 (λ q m. read_byte k 3 s p q (input_read s p h m)) (λ q3 e3.
    cond_case (eqb k 4) e3 (λ q m. read_byte k 4 s p q (variable_read s p h m)) (λ q4 e4. rest (map_some _ (operator k) p e4)))))
  where
    rest : (i : Operation) × (operator k ≡ some i) × ((i, s) ≡ p) → Read k s p.0 p.1
    rest t =
        let o = operator_read k t.0 t.1 in
        read_cast k s (t.0, s) p t.2 (record { byte = o.byte; rest = ap (λ l. l ++ s) (sym o.rest); codable = o.codable; bytes = h })

pub operations_read : (f : ℕ) (s : List ℕ) (is : List Operation) → Bytes s → operations f s ≡ some is → (s ≡ operation_bytes is) × Codable is
unfolding operations operation_bytes Codable Bytes
operations_read zero [] is h e = rw (← some_injective [] is e) (refl, tt)
operations_read zero (k ∷ s) is h e = none_some is e
operations_read (suc f) [] is h e = rw (← some_injective [] is e) (refl, tt)
operations_read (suc f) (k ∷ s) is h e =
    let p = and_then_some (read_operation k s) _ is e in
    let b = operation_read k s p.0 h.1 p.1 in
    let q = map_some _ (operations f p.0.1) is p.2 in
    joined p.0.0 p.0.1 q.0 b (operations_read f p.0.1 q.0 b.bytes q.1) q.2
  where
    joined : (i : Operation) (r : List ℕ) (l : List Operation) → Read k s i r → (r ≡ operation_bytes l) × Codable l → i ∷ l ≡ is
        → (k ∷ s ≡ operation_bytes is) × Codable is
    joined i r l b t m = rw (← m) (rw (b.byte, b.rest, t.0) refl, (b.codable, t.1))

-- Operations that run to an expression are its postfix.

-- the operations that have built a stack
before : List (ExprTy × Expr) → List Operation
before [] = []
before (x ∷ st) = before st ++ post x.1

-- every expression of a stack has its type
Stack : List Ty → List Ty → List (ExprTy × Expr) → Type 0
Stack is vs [] = Unit {0}
Stack is vs (x ∷ st) = (type_of is vs x.1 ≡ some x.0) × Stack is vs st

-- a value that is pushed has a type
onto_fine : (o : Option ExprTy) (x : Expr) (st : List (ExprTy × Expr)) (k : List (ExprTy × Expr) → Out (ExprTy × Expr)) (p : ExprTy × Expr)
    → onto (with_type o (fine x)) st k ≡ fine p → (t : ExprTy) × (o ≡ some t) × (k ((t, x) ∷ st) ≡ fine p)
unfolding onto with_type bind
onto_fine none x st k p e = fault_fine 13 p e
onto_fine (some t) x st k p e = (t, refl, e)

onto_same : (b : Bool) (v : Out (ExprTy × Expr)) (st : List (ExprTy × Expr)) (k : List (ExprTy × Expr) → Out (ExprTy × Expr)) (p : ExprTy × Expr)
    → onto (cond b v (fault 13)) st k ≡ fine p → (b ≡ true) × (onto v st k ≡ fine p)
unfolding onto
onto_same true v st k p e = (refl, e)
onto_same false v st k p e = fault_fine 13 p e

module _ (is vs : List Ty) where
  run_back : (ops : List Operation) (st : List (ExprTy × Expr)) (p : ExprTy × Expr) → Stack is vs st → run (typed is vs trees) ops st ≡ fine p
      → (before st ++ ops ≡ post p.1) × (type_of is vs p.1 ≡ some p.0)
  unfolding run before post Stack type_of
  run_back [] [] p g h = fault_fine 13 p h
  run_back [] (x ∷ []) p g h = let e = fine_injective x p h in (append-nil (post x.1) ∙ ap (λ (y : ExprTy × Expr). post y.1) e, rw e at g.0)
  run_back [] (x ∷ y ∷ st) p g h = fault_fine 13 p h
  run_back (push l ∷ ops) st p g h =
      let q = onto_fine (leaf_type is vs l) (leaf l) st _ p h in
      let r = run_back ops ((q.0, leaf l) ∷ st) p (q.1, g) q.2 in
      (sym (append_assoc (before st) (push l ∷ []) ops) ∙ r.0, r.1)
  run_back (apply1 o ∷ ops) [] p g h = fault_fine 13 p h
  run_back (apply1 o ∷ ops) (x ∷ st) p g h =
      let q = onto_fine (type_of_unary o x.0) (unary o x.0 x.1) st _ p h in
      let r = run_back ops ((q.0, unary o x.0 x.1) ∷ st) p (unary_type is vs o x.0 q.0 x.1 g.0 q.1, g.1) q.2 in (
        sym (append_assoc (before st ++ post x.1) (apply1 o ∷ []) ops) ∙ ap (λ l. l ++ ops) (append_assoc (before st) (post x.1) (apply1 o ∷ []))
            ∙ r.0,
        r.1,
      )
  run_back (apply2 o ∷ ops) [] p g h = fault_fine 13 p h
  run_back (apply2 o ∷ ops) (y ∷ []) p g h = fault_fine 13 p h
  run_back (apply2 o ∷ ops) (y ∷ x ∷ st) p g h =
      let s = onto_same (same_type x.0 y.0) _ st _ p h in
      let q = onto_fine (type_of_binary o x.0) (binary o x.0 x.1 y.1) st _ p s.1 in
      let u = binary_type is vs o x.0 y.0 q.0 x.1 y.1 g.1.0 g.0 s.0 q.1 in
      let r = run_back ops ((q.0, binary o x.0 x.1 y.1) ∷ st) p (u, g.1.1) q.2 in (
        sym (append_assoc ((before st ++ post x.1) ++ post y.1) (apply2 o ∷ []) ops)
            ∙ ap (λ l. l ++ ops) (append_assoc (before st ++ post x.1) (post y.1) (apply2 o ∷ [])
            ∙ append_assoc (before st) (post x.1) (post y.1 ++ (apply2 o ∷ [])))
            ∙ r.0,
        r.1,
      )

  value_fine : (r : Out (ExprTy × Expr)) (p : ExprTy × Expr) → value_of r ≡ some p → r ≡ fine p
  unfolding value_of
  value_fine (fine x) p h = ap fine (some_injective x p h)
  value_fine (fault q) p h = none_some p h

  -- Code bytes that decode are the code of the expression, which has the type.
  pub decode_back : (s : List ℕ) (t : ExprTy) (e : Expr) → Bytes s → decode is vs s ≡ some (t, e) → (s ≡ code e) × (type_of is vs e ≡ some t)
  unfolding decode run_code code
  decode_back s t e h d = go (operations (length s) s) refl (value_fine _ (t, e) d)
    where
      go : (o : Option (List Operation)) → operations (length s) s ≡ o → run_operations (typed is vs trees) o ≡ fine (t, e)
          → (s ≡ operation_bytes (post e)) × (type_of is vs e ≡ some t)
      go none q m = unfold run_operations in fault_fine 13 (t, e) m
      go (some ops) q m =
          let r : (ops ≡ post e) × (type_of is vs e ≡ some t) = unfold before Stack run_operations in run_back ops [] (t, e) tt m in
          ((operations_read (length s) s ops h q).0 ∙ ap operation_bytes r.0, r.1)

  -- One expression for each code, one code for each typed expression.
  pub decode_exactly : (s : List ℕ) (t : ExprTy) (e : Expr) → Bytes s → (decode is vs s ≡ some (t, e)) ↔ ((s ≡ code e) × (type_of is vs e ≡ some t))
  decode_exactly s t e h = (decode_back s t e h, λ p. ap (decode is vs) p.0 ∙ decode_code is vs e t p.1)

  -- So the code of any line of any image that opens comes to what its expression gives, for any algebra.
  pub run_decoded : {X : Type 0} (A : Algebra X) (s : List ℕ) (t : ExprTy) (e : Expr) → Bytes s → decode is vs s ≡ some (t, e)
      → run_code (typed is vs A) s ≡ bind (fold A e) (λ x. fine (t, x))
  run_decoded A s t e h d = let b = decode_back s t e h d in ap (run_code (typed is vs A)) b.0 ∙ run_typed is vs A e t b.1
