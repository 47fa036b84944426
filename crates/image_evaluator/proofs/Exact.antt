-- The typed machine of any algebra, run by position with room for m values and m operations, comes to a value exactly where the bytes are the code of
-- a typed expression of at most m literals, names and operators; the value is the algebra's. One way from `Position` and the format's laws, the other
-- by running the algebra of expressions beside it. Assumes nothing.
use Prim.Native.Nat.{ℕ, ◌≤◌}
use native.Mathlib.Omega.{arith}
use mathlib.Core.Path.{◌≡◌, refl, sym, ap, ◌∙◌}
use mathlib.Core.Logic.{◌↔◌}
use mathlib.Core.Bool.{Bool, true, false, cond}
use mathlib.Core.Option.{Option, none, some}
use mathlib.Core.List.{List, [], ◌∷◌}
use lib.ListN.{length, length-append}
use Rattle.spec_design.specs.Types.{Ty, ExprTy, same_type}
use Rattle.spec_design.specs.Expression.{Expr, leaf, unary, binary, items, Out, fine, fault, bind, Algebra, fold, leaf_type, type_of_unary, type_of_binary, type_of}
use Rattle.spec_semantics.proofs.Basic.{some_injective, fault_fine, fine_injective, bind_fine}
use Rattle.spec_format.specs.Words.{Bytes}
use Rattle.spec_format.specs.Code.{Operation, push, apply1, apply2, others, post, operation_bytes, code, operations}
use Rattle.spec_format.specs.Code.{onto, run, run_operations, run_code, with_type, typed, trees, value_of, decode}
use Rattle.spec_format.proofs.Coding.{post_items, operations_bytes, run_tree, operations_any}
use Rattle.spec_format.proofs.Decoding.{typed_codable, fold_typed, operations_read, decode_back}
use Rattle.image_evaluator.specs.Position.{run_at}
use Rattle.image_evaluator.proofs.Position.{run_position, position_value}

-- an operation has at least one byte
bytes_longer : (is : List Operation) → length is ≤ length (operation_bytes is)
unfolding operation_bytes
bytes_longer [] = omega arith
bytes_longer (i ∷ is) = omega (arith, bytes_longer is, length-append (others i) (operation_bytes is))

-- a value that is pushed has a type
typed_fine : {X : Type 0} (o : Option ExprTy) (v : Out X) (st : List (ExprTy × X)) (k : List (ExprTy × X) → Out (ExprTy × X)) (p : ExprTy × X)
    → onto (with_type o v) st k ≡ fine p → (t : ExprTy) × (x : X) × (o ≡ some t) × (k ((t, x) ∷ st) ≡ fine p)
unfolding onto with_type bind
typed_fine none v st k p e = fault_fine 13 p e
typed_fine (some t) (fine x) st k p e = (t, x, refl, e)
typed_fine (some t) (fault q) st k p e = fault_fine q p e

onto_same : {X : Type 0} (b : Bool) (v : Out X) (st : List X) (k : List X → Out X) (p : X) → onto (cond b v (fault 13)) st k ≡ fine p
    → (b ≡ true) × (onto v st k ≡ fine p)
unfolding onto
onto_same true v st k p e = (refl, e)
onto_same false v st k p e = fault_fine 13 p e

onto_typed : {X : Type 0} (o : Option ExprTy) (t : ExprTy) (x : X) (st : List (ExprTy × X)) (k : List (ExprTy × X) → Out (ExprTy × X))
    → o ≡ some t → onto (with_type o (fine x)) st k ≡ k ((t, x) ∷ st)
unfolding onto with_type bind
onto_typed o t x st k e = rw e

module _ {X : Type 0} (is vs : List Ty) (A : Algebra X) where
  -- two stacks of the same types
  Alike : List (ExprTy × X) → List (ExprTy × Expr) → Type 0
  Alike [] [] = Unit {0}
  Alike [] (b ∷ ys) = ⊥
  Alike (a ∷ xs) [] = ⊥
  Alike (a ∷ xs) (b ∷ ys) = (a.0 ≡ b.0) × Alike xs ys

  -- where the algebra's machine comes to a value, the machine of expressions comes to an expression of that type
  tree_of_run : (ops : List Operation) (xs : List (ExprTy × X)) (ys : List (ExprTy × Expr)) (p : ExprTy × X) → Alike xs ys
      → run (typed is vs A) ops xs ≡ fine p → (e : Expr) × (run (typed is vs trees) ops ys ≡ fine (p.0, e))
  unfolding run Alike
  tree_of_run [] [] ys p g h = fault_fine 13 p h
  tree_of_run [] (a ∷ []) [] p g h = absurd g
  tree_of_run [] (a ∷ []) (b ∷ []) p g h = (b.1, ap (λ (t : ExprTy). fine (t, b.1)) (sym g.0 ∙ ap (λ (c : ExprTy × X). c.0) (fine_injective a p h)))
  tree_of_run [] (a ∷ []) (b ∷ c ∷ ys) p g h = absurd g.1
  tree_of_run [] (a ∷ b ∷ xs) ys p g h = fault_fine 13 p h
  tree_of_run (push l ∷ ops) xs ys p g h =
      let q = typed_fine (leaf_type is vs l) (A.of_leaf l) xs _ p h in
      let r = tree_of_run ops ((q.0, q.1) ∷ xs) ((q.0, leaf l) ∷ ys) p (refl, g) q.3 in
      (r.0, onto_typed (leaf_type is vs l) q.0 (leaf l) ys _ q.2 ∙ r.1)
  tree_of_run (apply1 o ∷ ops) [] ys p g h = fault_fine 13 p h
  tree_of_run (apply1 o ∷ ops) (a ∷ xs) [] p g h = absurd g
  tree_of_run (apply1 o ∷ ops) (a ∷ xs) (b ∷ ys) p g h =
      let q = typed_fine (type_of_unary o a.0) (A.of_unary o a.0 a.1) xs _ p h in
      let r = tree_of_run ops ((q.0, q.1) ∷ xs) ((q.0, unary o b.0 b.1) ∷ ys) p (refl, g.1) q.3 in
      (r.0, onto_typed (type_of_unary o b.0) q.0 (unary o b.0 b.1) ys _ (sym (ap (type_of_unary o) g.0) ∙ q.2) ∙ r.1)
  tree_of_run (apply2 o ∷ ops) [] ys p g h = fault_fine 13 p h
  tree_of_run (apply2 o ∷ ops) (a ∷ []) ys p g h = fault_fine 13 p h
  tree_of_run (apply2 o ∷ ops) (a ∷ b ∷ xs) [] p g h = absurd g
  tree_of_run (apply2 o ∷ ops) (a ∷ b ∷ xs) (c ∷ []) p g h = absurd g.1
  tree_of_run (apply2 o ∷ ops) (a ∷ b ∷ xs) (c ∷ d ∷ ys) p g h =
      let s = onto_same (same_type b.0 a.0) _ xs _ p h in
      let q = typed_fine (type_of_binary o b.0) (A.of_binary o b.0 b.1 a.1) xs _ p s.1 in
      let r = tree_of_run ops ((q.0, q.1) ∷ xs) ((q.0, binary o d.0 d.1 c.1) ∷ ys) p (refl, g.1.1) q.3 in
      let w : same_type d.0 c.0 ≡ true = rw (← g.0, ← g.1.0) s.0 in
      (r.0, rw w (onto_typed (type_of_binary o d.0) q.0 (binary o d.0 d.1 c.1) ys _ (sym (ap (type_of_binary o) g.1.0) ∙ q.2)) ∙ r.1)

  -- Any algebra's typed machine with room for m values and m operations, at the code of a typed expression that has no more.
  pub run_code_at : (m : ℕ) (e : Expr) (t : ExprTy) → type_of is vs e ≡ some t → items e ≤ m
      → run_at (typed is vs A) m m (code e) 0 [] ≡ bind (fold A e) (λ x. fine (t, x))
  unfolding code
  run_code_at m e t h b =
      let l : length (post e) ≤ m = omega (arith, post_items e) in
      run_position (typed is vs A) m (code e) m 0 (post e) [] (omega arith)
      (operations_any (length (code e)) m (code e) (post e) (operations_bytes (post e) (length (code e)) (typed_codable is vs e t h) (omega arith)) l)
      ∙ run_tree (typed is vs A) e ∙ fold_typed is vs A e t h

  decoded : (s : List ℕ) (ops : List Operation) (t : ExprTy) (e : Expr)
      → operations (length s) s ≡ some ops → run (typed is vs trees) ops [] ≡ fine (t, e) → decode is vs s ≡ some (t, e)
  unfolding decode run_code run_operations value_of
  decoded s ops t e h r = rw (h, r)

  -- the expression that the bytes stand for has no more than m operations
  few : (m : ℕ) (s : List ℕ) (ops : List Operation) (e : Expr) (t : ExprTy) → operations (length s) s ≡ some ops → length ops ≤ m
      → (s ≡ code e) × (type_of is vs e ≡ some t) → items e ≤ m
  unfolding code
  few m s ops e t h b k =
      let q : operations (length (code e)) (code e) ≡ some (post e) =
      operations_bytes (post e) (length (code e)) (typed_codable is vs e t k.1) (omega arith) in
      let z : ops ≡ post e = some_injective ops (post e) (sym h ∙ ap (λ r. operations (length r) r) k.0 ∙ q) in
      omega (arith, post_items e, ap length z)

  value_only : (o : Out X) (t : ExprTy) (x : X) → bind {Y = ExprTy × X} o (λ y. fine (t, y)) ≡ fine (t, x) → o ≡ fine x
  value_only o t x h =
      let p = bind_fine o (λ y. fine (t, y)) (t, x) h in
      p.1 ∙ ap fine (ap (λ (c : ExprTy × X). c.1) (fine_injective (t, p.0) (t, x) p.2))

  pub code_exactly : (m : ℕ) (s : List ℕ) (t : ExprTy) (x : X) → Bytes s
      → (run_at (typed is vs A) m m s 0 [] ≡ fine (t, x)) ↔ ((e : Expr) × (decode is vs s ≡ some (t, e)) × (items e ≤ m) × (fold A e ≡ fine x))
  unfolding Alike
  code_exactly m s t x w = (there, back)
    where
      there : run_at (typed is vs A) m m s 0 [] ≡ fine (t, x) → (e : Expr) × (decode is vs s ≡ some (t, e)) × (items e ≤ m) × (fold A e ≡ fine x)
      there q =
          let c = position_value (typed is vs A) m s m 0 [] (t, x) q in
          let b = operations_read m s c.0 w c.1 in
          let l : length c.0 ≤ length s = omega (arith, bytes_longer c.0, ap length b.0) in
          let h : operations (length s) s ≡ some c.0 = operations_any m (length s) s c.0 c.1 l in
          let r = tree_of_run c.0 [] [] (t, x) tt c.3 in
          let d = decoded s c.0 t r.0 h r.1 in
          let k = decode_back is vs s t r.0 w d in
          let n = few m s c.0 r.0 t h c.2 k in
          (r.0, d, n, value_only (fold A r.0) t x (sym (run_code_at m r.0 t k.1 n) ∙ sym (ap (λ z. run_at (typed is vs A) m m z 0 []) k.0) ∙ q))

      back : (e : Expr) × (decode is vs s ≡ some (t, e)) × (items e ≤ m) × (fold A e ≡ fine x) → run_at (typed is vs A) m m s 0 [] ≡ fine (t, x)
      back p =
          let k = decode_back is vs s t p.0 w p.1 in
          ap (λ z. run_at (typed is vs A) m m z 0 []) k.0 ∙ run_code_at m p.0 t k.1 p.2 ∙ (unfold bind in rw p.3)
