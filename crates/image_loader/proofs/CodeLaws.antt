-- The stack of type tags, by place, comes to the type that decoding gives: the operations read by place are those of the code, the run on
-- tags is the run on typed expressions, and an expression has as many items as its code has operations. Assumes nothing.
use Prim.Native.Nat.{ℕ, zero, suc, ◌+◌, ◌≤◌, ◌<◌}
use native.Mathlib.Omega.{arith}
use native.Mathlib.Decide.{dec_lt}
use mathlib.Core.Path.{◌≡◌, refl, sym, ap, ◌∙◌}
use mathlib.Core.Bool.{Bool, true, false, cond}
use mathlib.Core.Option
use mathlib.Core.Option.{Option, none, some, bind as and_then}
use mathlib.Core.List.{List, [], ◌∷◌, map}
use lib.ListN.{length, get_or, drop, length-drop, drop_of_length-le}
use lib.Seq.{get_or-drop, drop-drop, drop-cons}
use lib.Dec.{ltb, leb, eqb}
use borrow.Author.Tests.{lt-ltb, le-ltb, le-leb, lt-leb, eqb-true, eqb-false, ne_eqb}
use Rattle.spec_design.specs.Types.{Ty, integer, ExprTy, plain, same_type}
use Rattle.spec_design.specs.Expression.{Leaf, int, bit, input, variable, Unary, Binary, Expr, leaf, unary, binary, items, Out, fine, fault, bind, nth, plainly}
use Rattle.spec_design.specs.Expression.{leaf_type, type_of_unary, type_of_binary}
use Rattle.base_codes.specs.Operation.{INTEGER, STD_LOGIC, INPUT, VARIABLE, unary_for, binary_for, count_or, operands_of, width_of}
use Rattle.std.specs.Prelude.{None, Some}
use Rattle.base_codes.specs.Types.{tag_of, type_after}
use Rattle.base_codes.specs.Limit.{ITEMS}
use Rattle.base_codes.proofs.OperationLaws.{one_operand, two_operands, no_operands}
use Rattle.base_codes.proofs.TypeLaws.{tag_type, same_tag, unary_type_is, binary_type_is}
use Rattle.spec_semantics.proofs.Basic.{none_some, fault_fine, some_injective, fine_injective, cond_case}
use Rattle.spec_format.specs.Words.{Bytes, word4_at, only_if}
use Rattle.spec_semantics.specs.Twos.{signed32}
use Rattle.spec_format.specs.Code.{Operation, push, apply1, apply2, Taken, read_int, bit_of, read_bit, read_name, applying, operator, read_operation, operations}
use Rattle.spec_format.specs.Code.{Machine, onto, run, run_operations, run_code, with_type, typed, trees, value_of, decode}
use Rattle.spec_format.proofs.Words.{word4_small, signed_range, byte_at}
use Rattle.spec_format.proofs.Basic.{and_then_some, map_some}
use Rattle.spec_format.proofs.Coding.{operations_any}
use Rattle.image_loader.specs.Code.{Tag, tagged, tag_at, code_type, leaf_tag, pushed, unary_step, binary_step, step_at}
use Rattle.image_loader.proofs.SectionLaws.{word_drop}

-- Reading.

-- an operation has at least its first byte, so that what is left is shorter
rest_shorter : (k : ℕ) (s : List ℕ) (p : Operation × List ℕ) → read_operation k s ≡ some p → length p.1 ≤ length s
rest_shorter k s p e =
    cond_case (eqb k 1) e (λ q m. ints s m (omega arith)) (λ q1 e1.
    cond_case (eqb k 2) e1 (λ q m. bits s m (omega arith)) (λ q2 e2.
    cond_case (eqb k 3) e2 (λ q m. names input s m (omega arith)) (λ q3 e3.
    cond_case (eqb k 4) e3 (λ q m. names variable s m (omega arith)) (λ q4 e4. rest (map_some _ (operator k) p e4)))))
  where
    cut : (i : Operation) (r : List ℕ) → (i, r) ≡ p → length r ≤ length s → length p.1 ≤ length s
    cut i r e h = rw (← e) h

    ints : (r : List ℕ) → read_int r ≡ some p → length r ≤ length s → length p.1 ≤ length s
    ints [] m h = none_some p m
    ints (a ∷ []) m h = none_some p m
    ints (a ∷ b ∷ []) m h = none_some p m
    ints (a ∷ b ∷ c ∷ []) m h = none_some p m
    ints (a ∷ b ∷ c ∷ d ∷ r) m h = cut _ r (some_injective _ p m) (omega arith)

    bits : (r : List ℕ) → read_bit r ≡ some p → length r ≤ length s → length p.1 ≤ length s
    bits [] m h = none_some p m
    bits (a ∷ r) m h = let q = map_some _ (bit_of a) p m in cut _ r q.2 (omega arith)

    names : (f : ℕ → Leaf) (r : List ℕ) → read_name f r ≡ some p → length r ≤ length s → length p.1 ≤ length s
    names f [] m h = none_some p m
    names f (a ∷ r) m h = cut _ r (some_injective _ p m) (omega arith)

    rest : (i : Operation) × (operator k ≡ some i) × ((i, s) ≡ p) → length p.1 ≤ length s
    rest t = cut t.0 s t.2 (omega arith)

-- the bound on the number of operations matters only where it is too small
operations_few : (f : ℕ) (s : List ℕ) (is : List Operation) → operations f s ≡ some is → (length is ≤ f) × (length is ≤ length s)
unfolding operations
operations_few zero [] is e = rw (← some_injective [] is e) (omega arith, omega arith)
operations_few zero (k ∷ s) is e = none_some is e
operations_few (suc f) [] is e = rw (← some_injective [] is e) (omega arith, omega arith)
operations_few (suc f) (k ∷ s) is e =
    let p = and_then_some (read_operation k s) _ is e in
    let q = map_some _ (operations f p.0.1) is p.2 in
    let r = operations_few f p.0.1 q.0 q.1 in
    let c = rest_shorter k s p.0 p.1 in
    let z : suc (length q.0) ≡ length is = ap length q.2 in
    (omega (arith, r.0), omega (arith, r.1))

-- Running on tags.

abbrev out_tag : Option ExprTy → Out ℕ
out_tag none = fault 13
out_tag (some t) = fine (tag_of t)

-- the machine on tags
abbrev tags : List Ty → List Ty → Machine ℕ
tags is vs =
    record {
      of_leaf = λ l. out_tag (leaf_type is vs l);
      of_unary = λ o x. out_tag (type_after (type_of_unary o) x);
      of_binary = λ o x y. cond (eqb x y) (out_tag (type_after (type_of_binary o) x)) (fault 13);
    }

abbrev top : ExprTy × Expr → ℕ
top p = tag_of p.0

abbrev map_out : Out (ExprTy × Expr) → Out ℕ
map_out (fine p) = fine (top p)
map_out (fault q) = fault q

module _ (is vs : List Ty) where
  push_same : (o : Option ExprTy) (e : Expr) (st : List (ExprTy × Expr)) (ops : List Operation)
      → ((u : List (ExprTy × Expr)) → run (tags is vs) ops (map top u) ≡ map_out (run (typed is vs trees) ops u))
      → onto (out_tag o) (map top st) (λ u. run (tags is vs) ops u) ≡ map_out (onto (with_type o (fine e)) st (λ u. run (typed is vs trees) ops u))
  unfolding onto with_type bind
  push_same none e st ops h = refl
  push_same (some t) e st ops h = h ((t, e) ∷ st)

  two_same : (b : Bool) (o : Option ExprTy) (e : Expr) (st : List (ExprTy × Expr)) (ops : List Operation)
      → ((u : List (ExprTy × Expr)) → run (tags is vs) ops (map top u) ≡ map_out (run (typed is vs trees) ops u))
      → onto (cond b (out_tag o) (fault 13)) (map top st) (λ u. run (tags is vs) ops u)
      ≡ map_out (onto (cond b (with_type o (fine e)) (fault 13)) st (λ u. run (typed is vs trees) ops u))
  unfolding onto
  two_same true o e st ops h = push_same o e st ops h
  two_same false o e st ops h = refl

  -- the run on tags is the run on typed expressions
  run_tags : (ops : List Operation) (st : List (ExprTy × Expr)) → run (tags is vs) ops (map top st) ≡ map_out (run (typed is vs trees) ops st)
  unfolding run and_then
  run_tags [] [] = refl
  run_tags [] (x ∷ []) = refl
  run_tags [] (x ∷ y ∷ st) = refl
  run_tags (push l ∷ ops) st = push_same (leaf_type is vs l) (leaf l) st ops (λ u. run_tags ops u)
  run_tags (apply1 o ∷ ops) [] = refl
  run_tags (apply1 o ∷ ops) (x ∷ st) =
      rw (tag_type x.0) (push_same (type_of_unary o x.0) (unary o x.0 x.1) st ops (λ u. run_tags ops u))
  run_tags (apply2 o ∷ ops) [] = refl
  run_tags (apply2 o ∷ ops) (y ∷ []) = refl
  run_tags (apply2 o ∷ ops) (y ∷ x ∷ st) =
      rw (tag_type x.0, same_tag x.0 y.0)
      (two_same (same_type x.0 y.0) (type_of_binary o x.0) (binary o x.0 x.1 y.1) st ops (λ u. run_tags ops u))

  -- an expression has as many items as its code has operations
  total : List (ExprTy × Expr) → ℕ
  total [] = 0
  total (x ∷ st) = items x.1 + total st

  pushed_fine : (o : Option ExprTy) (x : Expr) (st : List (ExprTy × Expr)) (k : List (ExprTy × Expr) → Out (ExprTy × Expr)) (p : ExprTy × Expr)
      → onto (with_type o (fine x)) st k ≡ fine p → (t : ExprTy) × (k ((t, x) ∷ st) ≡ fine p)
  unfolding onto with_type bind
  pushed_fine none x st k p e = fault_fine 13 p e
  pushed_fine (some t) x st k p e = (t, e)

  two_fine : (b : Bool) (v : Out (ExprTy × Expr)) (st : List (ExprTy × Expr)) (k : List (ExprTy × Expr) → Out (ExprTy × Expr)) (p : ExprTy × Expr)
      → onto (cond b v (fault 13)) st k ≡ fine p → onto v st k ≡ fine p
  unfolding onto
  two_fine true v st k p e = e
  two_fine false v st k p e = fault_fine 13 p e

  run_items : (ops : List Operation) (st : List (ExprTy × Expr)) (p : ExprTy × Expr) → run (typed is vs trees) ops st ≡ fine p
      → items p.1 ≡ length ops + total st
  unfolding run total items
  run_items [] [] p h = fault_fine 13 p h
  run_items [] (x ∷ []) p h = let e : items x.1 ≡ items p.1 = ap (λ (y : ExprTy × Expr). items y.1) (fine_injective x p h) in omega arith
  run_items [] (x ∷ y ∷ st) p h = fault_fine 13 p h
  run_items (push l ∷ ops) st p h =
      let q = pushed_fine (leaf_type is vs l) (leaf l) st _ p h in
      run_items ops ((q.0, leaf l) ∷ st) p q.1 ∙ omega arith
  run_items (apply1 o ∷ ops) [] p h = fault_fine 13 p h
  run_items (apply1 o ∷ ops) (x ∷ st) p h =
      let q = pushed_fine (type_of_unary o x.0) (unary o x.0 x.1) st _ p h in
      run_items ops ((q.0, unary o x.0 x.1) ∷ st) p q.1 ∙ omega arith
  run_items (apply2 o ∷ ops) [] p h = fault_fine 13 p h
  run_items (apply2 o ∷ ops) (y ∷ []) p h = fault_fine 13 p h
  run_items (apply2 o ∷ ops) (y ∷ x ∷ st) p h =
      let q = pushed_fine (type_of_binary o x.0) (binary o x.0 x.1 y.1) st _ p (two_fine (same_type x.0 y.0) _ st _ p h) in
      run_items ops ((q.0, binary o x.0 x.1 y.1) ∷ st) p q.1 ∙ omega arith

-- the tag that a run leaves, where it leaves one
abbrev pub leaves : Out ℕ → Tag
leaves (fine t) = Some t
leaves (fault q) = None

-- the operations that were read, run on tags
abbrev pub run_rest : List Ty → List Ty → Option (List Operation) → List ℕ → Tag
run_rest is vs none st = None
run_rest is vs (some ops) st = leaves (run (tags is vs) ops st)

abbrev limited : Option (ExprTy × Expr) → Tag
limited d = tagged (and_then d (λ p. only_if (leb (items p.1) ITEMS) (some p.0)))

-- What code is judged by: at most 64 operations, run on tags.
pub code_tags : (is vs : List Ty) (s : List ℕ) → tagged (code_type is vs s) ≡ run_rest is vs (operations 64 s) []
unfolding code_type decode run_code run_operations value_of and_then total
code_tags is vs s = go (operations (length s) s) refl (operations 64 s) refl
  where
    few : (ops : List Operation) (r : Out (ExprTy × Expr)) → run (typed is vs trees) ops [] ≡ r → length ops ≤ 64 → limited (value_of r) ≡ leaves (map_out r)
    few ops (fine p) e h =
        let z : items p.1 ≡ length ops + 0 = run_items is vs ops [] p e in
        rw (le-leb (items p.1) 64 (omega arith))
    few ops (fault q) e h = refl

    many : (ops : List Operation) (r : Out (ExprTy × Expr)) → run (typed is vs trees) ops [] ≡ r → 64 < length ops → limited (value_of r) ≡ None
    many ops (fine p) e h =
        let z : items p.1 ≡ length ops + 0 = run_items is vs ops [] p e in
        rw (lt-leb (items p.1) 64 (omega arith))
    many ops (fault q) e h = refl

    go : (o : Option (List Operation)) → operations (length s) s ≡ o → (q : Option (List Operation)) → operations 64 s ≡ q
        → limited (value_of (run_operations (typed is vs trees) o)) ≡ run_rest is vs q []
    go none e none m = refl
    go none e (some ops) m = none_some ops (sym e ∙ operations_any 64 (length s) s ops m (operations_few 64 s ops m).1)
    go (some ops) e none m = judged (dec_lt 64 (length ops))
      where
        judged : Dec (64 < length ops) → limited (value_of (run (typed is vs trees) ops [])) ≡ None
        judged (yes h) = many ops (run (typed is vs trees) ops []) refl h
        judged (no h) = none_some ops (sym m ∙ operations_any (length s) 64 s ops e (omega arith))
    go (some ops) e (some pos) m =
        let z : ops ≡ pos = some_injective ops pos (sym e ∙ operations_any 64 (length s) s pos m (operations_few 64 s pos m).1) in
        let b : length pos ≤ 64 = (operations_few 64 s pos m).0 in
        few ops (run (typed is vs trees) ops []) refl (rw z b) ∙ ap leaves (sym (run_tags is vs ops []))
        ∙ ap (λ (l : List Operation). leaves (run (tags is vs) l [])) z

-- Reading by place.

-- a number is n or another
pub byte_case : (P : ℕ → Type 0) (k n : ℕ) → P n → ((k ≡ n → ⊥) → P k) → P k
byte_case P k n p f = go (eqb k n) refl
  where
    go : (b : Bool) → eqb k n ≡ b → P k
    go true e = rw (eqb-true k n e) p
    go false e = f (eqb-false k n e)

-- the stack with a type on top
abbrev stacked : Option ExprTy → List ℕ → Option (List ℕ)
stacked none st = none
stacked (some t) st = some (tag_of t ∷ st)

stacked_pushed : (o : Option ExprTy) (st : List ℕ) → stacked o st ≡ pushed (tagged o) st
stacked_pushed none st = refl
stacked_pushed (some t) st = refl

-- what an operation makes of a stack of tags
abbrev pub on_step : Option (List ℕ) → (List ℕ → Tag) → Tag
on_step none k = None
on_step (some u) k = k u

module _ (is vs : List Ty) where
  abbrev applied : Operation → List ℕ → Option (List ℕ)
  applied (push l) st = stacked (leaf_type is vs l) st
  applied (apply1 o) [] = none
  applied (apply1 o) (x ∷ st) = stacked (type_after (type_of_unary o) x) st
  applied (apply2 o) [] = none
  applied (apply2 o) (y ∷ []) = none
  applied (apply2 o) (y ∷ x ∷ st) = cond (eqb x y) (stacked (type_after (type_of_binary o) x) st) none

  onto_step : (o : Option ExprTy) (st : List ℕ) (k : List ℕ → Out ℕ) → leaves (onto (out_tag o) st k) ≡ on_step (stacked o st) (λ u. leaves (k u))
  unfolding onto
  onto_step none st k = refl
  onto_step (some t) st k = refl

  two_step : (b : Bool) (o : Option ExprTy) (st : List ℕ) (k : List ℕ → Out ℕ)
      → leaves (onto (cond b (out_tag o) (fault 13)) st k) ≡ on_step (cond b (stacked o st) none) (λ u. leaves (k u))
  unfolding onto
  two_step true o st k = onto_step o st k
  two_step false o st k = refl

  run_step : (i : Operation) (ops : List Operation) (st : List ℕ)
      → leaves (run (tags is vs) (i ∷ ops) st) ≡ on_step (applied i st) (λ u. leaves (run (tags is vs) ops u))
  unfolding run
  run_step (push l) ops st = onto_step (leaf_type is vs l) st _
  run_step (apply1 o) ops [] = refl
  run_step (apply1 o) ops (x ∷ st) = onto_step (type_after (type_of_unary o) x) st _
  run_step (apply2 o) ops [] = refl
  run_step (apply2 o) ops (y ∷ []) = refl
  run_step (apply2 o) ops (y ∷ x ∷ st) = two_step (eqb x y) (type_after (type_of_binary o) x) st _

  step_none : (o : Option (List ℕ)) → None ≡ on_step o (λ u. None)
  step_none none = refl
  step_none (some u) = refl

  rest_step : (i : Operation) (o : Option (List Operation)) (st : List ℕ)
      → run_rest is vs (Option.map (λ l. i ∷ l) o) st ≡ on_step (applied i st) (λ u. run_rest is vs o u)
  rest_step i none st = step_none (applied i st)
  rest_step i (some ops) st = run_step i ops st

  unary_step_lem : (k : ℕ) (o : Unary) → unary_for k ≡ some o → (st : List ℕ) → applied (apply1 o) st ≡ unary_step k st
  unfolding unary_step
  unary_step_lem k o e [] = refl
  unary_step_lem k o e (x ∷ st) = stacked_pushed (type_after (type_of_unary o) x) st ∙ ap (λ z. pushed (tagged z) st) (sym (unary_type_is k o e x))

  binary_step_lem : (k : ℕ) (o : Binary) → binary_for k ≡ some o → (st : List ℕ) → applied (apply2 o) st ≡ binary_step k st
  unfolding binary_step
  binary_step_lem k o e [] = refl
  binary_step_lem k o e (y ∷ []) = refl
  binary_step_lem k o e (y ∷ x ∷ st) =
      ap (λ z. cond (eqb x y) z none) (stacked_pushed (type_after (type_of_binary o) x) st ∙ ap (λ z. pushed (tagged z) st) (sym (binary_type_is k o e x)))

  -- One operation by place, in the code s whose elements are bytes.
  module _ (s : List ℕ) (b : Bytes s) (f at : ℕ) (st : List ℕ) where
    -- what is said of the operation with the first byte k
    abbrev Step : ℕ → Type 0
    Step k =
        run_rest is vs (and_then (read_operation k (drop (suc at) s)) (λ p. Option.map (λ l. p.0 ∷ l) (operations f p.1))) st
        ≡ on_step (step_at is vs s at k st) (λ u. run_rest is vs (operations f (drop (at + width_of k) s)) u)

    step_some : (k w : ℕ) (i : Operation) (o : Option (List ℕ)) → width_of k ≡ w → read_operation k (drop (suc at) s) ≡ some (i, drop (at + w) s)
        → applied i st ≡ o → o ≡ step_at is vs s at k st → Step k
    unfolding and_then
    step_some k w i o ew e h g =
        rw (e, ew) (rest_step i (operations f (drop (at + w) s)) st ∙ ap (λ z. on_step z (λ u. run_rest is vs (operations f (drop (at + w) s)) u)) (h ∙
        g))

    step_stop : (k : ℕ) → read_operation k (drop (suc at) s) ≡ none → none ≡ step_at is vs s at k st → Step k
    unfolding and_then
    step_stop k e h = rw (e, ← h)

    one_more : drop (suc at) s ≡ drop (at + 1) s
    one_more = let e : suc at ≡ at + 1 = omega arith in ap (λ z. drop z s) e

    second : get_or (drop (suc at) s) 0 0 ≡ get_or s (at + 1) 0
    second = let e : suc at + 0 ≡ at + 1 = omega arith in get_or-drop (suc at) s 0 0 ∙ ap (λ z. get_or s z 0) e

    two_more : drop 1 (drop (suc at) s) ≡ drop (at + 2) s
    two_more = let e : suc at + 1 ≡ at + 2 = omega arith in drop-drop 1 (suc at) s ∙ ap (λ z. drop z s) e

    integer_read : at + 5 ≤ length s → read_int (drop (suc at) s) ≡ some (push (int (signed32 (word4_at s (at + 1)))), drop (at + 5) s)
    integer_read h = shape (drop (suc at) s) (omega (arith, length-drop (suc at) s)) ∙ moved
      where
        shape : (r : List ℕ) → 4 ≤ length r → read_int r ≡ some (push (int (signed32 (word4_at r 0))), drop 4 r)
        shape [] l = absurd (omega arith)
        shape (a ∷ []) l = absurd (omega arith)
        shape (a ∷ b ∷ []) l = absurd (omega arith)
        shape (a ∷ b ∷ c ∷ []) l = absurd (omega arith)
        shape (a ∷ b ∷ c ∷ d ∷ r) l = refl

        moved : ◌≡◌ {A = Taken} (some (push (int (signed32 (word4_at (drop (suc at) s) 0))), drop 4 (drop (suc at) s)))
            (some (push (int (signed32 (word4_at s (at + 1)))), drop (at + 5) s))
        moved =
            let e : suc at + 0 ≡ at + 1 = omega arith in
            let m : suc at + 4 ≡ at + 5 = omega arith in
            ap (λ z. some (push (int (signed32 z)), drop 4 (drop (suc at) s))) (word_drop (suc at) 0 (at + 1) s e)
            ∙ ap (λ z. some (push (int (signed32 (word4_at s (at + 1)))), z)) (drop-drop 4 (suc at) s ∙ ap (λ z. drop z s) m)

    integer_short : length s < at + 5 → read_int (drop (suc at) s) ≡ none
    integer_short h = shape (drop (suc at) s) (omega (arith, length-drop (suc at) s))
      where
        shape : (r : List ℕ) → length r < 4 → read_int r ≡ none
        shape [] l = refl
        shape (a ∷ []) l = refl
        shape (a ∷ b ∷ []) l = refl
        shape (a ∷ b ∷ c ∷ []) l = refl
        shape (a ∷ b ∷ c ∷ d ∷ r) l = absurd (omega arith)

    integer_typed : leaf_type is vs (int (signed32 (word4_at s (at + 1)))) ≡ some (plain integer)
    unfolding leaf_type
    integer_typed =
        rw (signed_range (word4_at s (at + 1)) (word4_small (get_or s (at + 1) 0) (get_or s (at + 1 + 1) 0) (get_or s (at + 1 + 2) 0) (get_or s (at + 1 + 3) 0)
        (byte_at s (at + 1) b) (byte_at s (at + 1 + 1) b) (byte_at s (at + 1 + 2) b) (byte_at s (at + 1 + 3) b)))

    step_1 : Step 1
    unfolding step_at leaf_tag operands_of count_or width_of
    step_1 = go (dec_lt (length s) (at + 5))
      where
        go : Dec (length s < at + 5) → Step 1
        go (yes h) = step_stop 1 (integer_short h) (rw (lt-ltb (length s) (at + 5) h))
        go (no h) =
            step_some 1 5 (push (int (signed32 (word4_at s (at + 1))))) (some (1 ∷ st)) refl (integer_read (omega arith)) (rw integer_typed)
            (rw (le-ltb (length s) (at + 5) (omega arith)))

    -- the byte after the first
    byte_there : at + 2 ≤ length s → drop (suc at) s ≡ get_or s (at + 1) 0 ∷ drop (at + 2) s
    byte_there h = drop-cons s (suc at) 0 (omega arith) ∙ moved
      where
        moved : get_or s (suc at) 0 ∷ drop (suc (suc at)) s ≡ get_or s (at + 1) 0 ∷ drop (at + 2) s
        moved =
            let e : suc at ≡ at + 1 = omega arith in
            let m : suc (suc at) ≡ at + 2 = omega arith in
            ap (λ z. get_or s z 0 ∷ drop (suc (suc at)) s) e ∙ ap (λ z. get_or s (at + 1) 0 ∷ drop z s) m

    byte_short : length s < at + 2 → drop (suc at) s ≡ []
    byte_short h = let l : length s ≤ suc at = omega arith in drop_of_length-le s l

    step_2 : Step 2
    unfolding step_at leaf_tag leaf_type operands_of count_or width_of
    step_2 = go (dec_lt (length s) (at + 2))
      where
        bits : (x : ℕ) → drop (suc at) s ≡ x ∷ drop (at + 2) s → get_or s (at + 1) 0 ≡ x → at + 2 ≤ length s → Step 2
        bits zero e g h = step_some 2 2 (push (bit false)) (some (0 ∷ st)) refl (ap read_bit e) refl (rw (le-ltb (length s) (at + 2) h, g))
        bits (suc zero) e g h = step_some 2 2 (push (bit true)) (some (0 ∷ st)) refl (ap read_bit e) refl (rw (le-ltb (length s) (at + 2) h, g))
        bits (suc (suc x)) e g h =
            step_stop 2 (ap read_bit e ∙ rw (ne_eqb (suc (suc x)) 0 (λ q. omega arith), ne_eqb (suc (suc x)) 1 (λ q. omega arith)))
            (rw (le-ltb (length s) (at + 2) h, g, lt-leb (suc (suc x)) 1 (omega arith)))

        go : Dec (length s < at + 2) → Step 2
        go (yes h) = step_stop 2 (ap read_bit (byte_short h)) (rw (lt-ltb (length s) (at + 2) h))
        go (no h) = bits (get_or s (at + 1) 0) (byte_there (omega arith)) refl (omega arith)

    step_3 : Step 3
    unfolding step_at leaf_tag leaf_type operands_of count_or width_of
    step_3 = go (dec_lt (length s) (at + 2))
      where
        go : Dec (length s < at + 2) → Step 3
        go (yes h) = step_stop 3 (ap (read_name input) (byte_short h)) (rw (lt-ltb (length s) (at + 2) h))
        go (no h) =
            step_some 3 2 (push (input (get_or s (at + 1) 0))) (pushed (tag_at is (get_or s (at + 1) 0)) st) refl (ap (read_name input) (byte_there (omega arith)))
            (stacked_pushed (plainly (nth is (get_or s (at + 1) 0))) st) (rw (le-ltb (length s) (at + 2) (omega arith)))

    step_4 : Step 4
    unfolding step_at leaf_tag leaf_type operands_of count_or width_of
    step_4 = go (dec_lt (length s) (at + 2))
      where
        go : Dec (length s < at + 2) → Step 4
        go (yes h) = step_stop 4 (ap (read_name variable) (byte_short h)) (rw (lt-ltb (length s) (at + 2) h))
        go (no h) =
            step_some 4 2 (push (variable (get_or s (at + 1) 0))) (pushed (tag_at vs (get_or s (at + 1) 0)) st) refl
            (ap (read_name variable) (byte_there (omega arith)))
            (stacked_pushed (plainly (nth vs (get_or s (at + 1) 0))) st) (rw (le-ltb (length s) (at + 2) (omega arith)))

    -- the first byte k is that of no literal and of no name
    module _ (k : ℕ) (n1 : k ≡ INTEGER → ⊥) (n2 : k ≡ STD_LOGIC → ⊥) (n3 : k ≡ INPUT → ⊥) (n4 : k ≡ VARIABLE → ⊥) where
      operator_width : width_of k ≡ 1
      unfolding width_of
      operator_width = rw (ne_eqb k INTEGER n1, ne_eqb k STD_LOGIC n2, ne_eqb k INPUT n3, ne_eqb k VARIABLE n4)

      operator_read : read_operation k (drop (suc at) s) ≡ Option.map (λ i. (i, drop (suc at) s)) (operator k)
      operator_read = rw (ne_eqb k INTEGER n1, ne_eqb k STD_LOGIC n2, ne_eqb k INPUT n3, ne_eqb k VARIABLE n4)

      no_leaf : None ≡ leaf_tag is vs s at k
      unfolding leaf_tag
      no_leaf = rw (ne_eqb k INTEGER n1, ne_eqb k STD_LOGIC n2, ne_eqb k INPUT n3, ne_eqb k VARIABLE n4) (either (ltb (length s) (at + width_of k)))
        where
          either : (b : Bool) → ◌≡◌ {A = Tag} None (cond b None None)
          either true = refl
          either false = refl

      -- an operator is one byte
      step_applied : (i : Operation) (o : Option (List ℕ)) → operator k ≡ some i → applied i st ≡ o → o ≡ step_at is vs s at k st → Step k
      step_applied i o e h g =
          step_some k 1 i o operator_width (operator_read ∙ ap (λ z. Option.map (λ i. (i, drop (suc at) s)) z) e ∙ ap (λ z. some (i, z)) one_more) h g

      step_operator : (u : Option Unary) → unary_for k ≡ u → (b : Option Binary) → binary_for k ≡ b → Step k
      unfolding step_at
      step_operator (some o) e b q =
          step_applied (apply1 o) (unary_step k st) (ap (λ z. applying z (binary_for k)) e) (unary_step_lem k o e st) (rw (one_operand k o e))
      step_operator none e (some o) q =
          step_applied (apply2 o) (binary_step k st) (ap (λ z. applying z (binary_for k)) e ∙ ap (applying none) q) (binary_step_lem k o q st)
          (rw (two_operands k o e q))
      step_operator none e none q =
          step_stop k (operator_read ∙ ap (λ z. Option.map (λ i. (i, drop (suc at) s)) z) (ap (λ z. applying z (binary_for k)) e ∙ ap (applying none) q))
          (rw (no_operands k e q, ← no_leaf))

    step_any : (k : ℕ) → Step k
    step_any k =
        byte_case Step k INTEGER step_1 (λ n1. byte_case Step k STD_LOGIC step_2 (λ n2. byte_case Step k INPUT step_3 (λ n3. byte_case Step k VARIABLE step_4
        (λ n4. step_operator k n1 n2 n3 n4 (unary_for k) refl (binary_for k) refl))))

  -- What the loop over the operations keeps: the rest of the code, with f operations left.
  abbrev pub rest_of : List ℕ → ℕ → ℕ → List ℕ → Tag
  rest_of s f at st = run_rest is vs (operations f (drop at s)) st

  pub rest_turn : (s : List ℕ) → Bytes s → (f at : ℕ) (st : List ℕ) → at < length s
      → rest_of s (suc f) at st ≡ on_step (step_at is vs s at (get_or s at 0) st) (λ u. rest_of s f (at + width_of (get_or s at 0)) u)
  unfolding operations
  rest_turn s b f at st h = ap (λ z. run_rest is vs (operations (suc f) z) st) (drop-cons s at 0 h) ∙ step_any s b f at st (get_or s at 0)

  pub rest_out : (s : List ℕ) (at : ℕ) (st : List ℕ) → at < length s → rest_of s 0 at st ≡ None
  unfolding operations
  rest_out s at st h = ap (λ z. run_rest is vs (operations 0 z) st) (drop-cons s at 0 h)

  pub rest_end : (s : List ℕ) (f at : ℕ) (st : List ℕ) → length s ≤ at → rest_of s f at st ≡ leaves (run (tags is vs) [] st)
  unfolding operations
  rest_end s zero at st h = ap (λ z. run_rest is vs (operations 0 z) st) (drop_of_length-le s h)
  rest_end s (suc f) at st h = ap (λ z. run_rest is vs (operations (suc f) z) st) (drop_of_length-le s h)
