-- Running code by position is running the operations that the bytes stand for, where the stack has room for them; and where it comes to a value,
-- the bytes are operations that come to that value. By induction on the bound of the operations. Assumes nothing.
use Prim.Native.Nat.{ℕ, zero, suc, ◌+◌, ◌≤◌, ◌<◌}
use native.Mathlib.Omega.{arith}
use native.Mathlib.Decide.{dec_lt}
use mathlib.Core.Path.{◌≡◌, refl, sym, ap, ◌∙◌}
use mathlib.Core.Bool.{Bool, true, false, cond}
use mathlib.Core.Option.{Option, none, some, map, bind as and_then}
use mathlib.Core.List.{List, [], ◌∷◌}
use lib.ListN.{length, drop, length-drop, drop_of_length-le}
use lib.Seq.{drop-cons}
use lib.Dec.{ltb}
use borrow.Author.Tests.{lt-ltb, le-ltb}
use Rattle.spec_design.specs.Expression.{Out, fine, fault}
use Rattle.spec_semantics.proofs.Basic.{none_some, some_injective, fault_fine}
use Rattle.spec_format.specs.Code.{Operation, push, apply1, apply2, operations, Machine, onto, run}
use Rattle.spec_format.proofs.Basic.{map_some}
use Rattle.image_evaluator.specs.Position.{fetch_at, stop, pushed, applied, next_of, resume, finish, run_at}
use Rattle.image_evaluator.proofs.Fetch.{after, fetch_read}

-- no bytes left, no operations left
ended : (s : List ℕ) (f at : ℕ) → length s ≤ at → operations f (drop at s) ≡ some []
unfolding operations
ended s zero at h = rw (drop_of_length-le s h)
ended s (suc f) at h = rw (drop_of_length-le s h)

-- the first operation and the others
pub operations_on : (s : List ℕ) (f at : ℕ) (i : Operation) (w : ℕ) (is : List Operation)
    → at < length s → fetch_at s at ≡ some (i, w) → operations f (drop (at + w) s) ≡ some is → operations (suc f) (drop at s) ≡ some (i ∷ is)
unfolding operations and_then
operations_on s f at i w is b e h = ap (operations (suc f)) (drop-cons s at 0 b) ∙ rw (fetch_read s at, e, h)

module _ {X : Type 0} (M : Machine X) (m : ℕ) where
  run_nothing : (st : List X) → finish st ≡ run M [] st
  unfolding run
  run_nothing [] = refl
  run_nothing (x ∷ []) = refl
  run_nothing (x ∷ y ∷ st) = refl

  onto_pushed : (o : Out X) (st : List X) (j : ℕ) (f : ℕ → List X → Out X) → resume (pushed o j st) f ≡ onto o st (λ u. f j u)
  unfolding onto
  onto_pushed (fine x) st j f = refl
  onto_pushed (fault q) st j f = refl

  run_operation : (i : Operation) (is : List Operation) (st : List X) (j : ℕ)
      → length st < m → run M (i ∷ is) st ≡ resume (applied M m i j st) (λ k u. run M is u)
  unfolding run
  run_operation (push l) is st j b = rw (lt-ltb (length st) m b) (sym (onto_pushed (M.of_leaf l) st j (λ k u. run M is u)))
  run_operation (apply1 o) is [] j b = refl
  run_operation (apply1 o) is (x ∷ st) j b = sym (onto_pushed (M.of_unary o x) st j (λ k u. run M is u))
  run_operation (apply2 o) is [] j b = refl
  run_operation (apply2 o) is (y ∷ []) j b = refl
  run_operation (apply2 o) is (y ∷ x ∷ st) j b = sym (onto_pushed (M.of_binary o x y) st j (λ k u. run M is u))

  pushed_cong : (o : Out X) (st : List X) (j : ℕ) (f g : ℕ → List X → Out X)
      → ((u : List X) → length u ≤ suc (length st) → f j u ≡ g j u) → resume (pushed o j st) f ≡ resume (pushed o j st) g
  pushed_cong (fine x) st j f g e = e (x ∷ st) (omega arith)
  pushed_cong (fault q) st j f g e = refl

  applied_cong : (i : Operation) (st : List X) (j : ℕ) (f g : ℕ → List X → Out X)
      → ((u : List X) → length u ≤ suc (length st) → f j u ≡ g j u) → resume (applied M m i j st) f ≡ resume (applied M m i j st) g
  applied_cong (push l) st j f g e = pick (ltb (length st) m)
    where
      pick : (b : Bool) → resume (cond b (pushed (M.of_leaf l) j st) (stop 13)) f ≡ resume (cond b (pushed (M.of_leaf l) j st) (stop 13)) g
      pick true = pushed_cong (M.of_leaf l) st j f g e
      pick false = refl
  applied_cong (apply1 o) [] j f g e = refl
  applied_cong (apply1 o) (x ∷ st) j f g e = pushed_cong (M.of_unary o x) st j f g (λ u b. e u (omega arith))
  applied_cong (apply2 o) [] j f g e = refl
  applied_cong (apply2 o) (y ∷ []) j f g e = refl
  applied_cong (apply2 o) (y ∷ x ∷ st) j f g e = pushed_cong (M.of_binary o x y) st j f g (λ u b. e u (omega arith))

  finish_run : (s : List ℕ) (f at : ℕ) (is : List Operation) (st : List X) → length s ≤ at → operations f (drop at s) ≡ some is → finish st ≡ run M is st
  finish_run s f at is st h e = run_nothing st ∙ ap (λ l. run M l st) (some_injective [] is (sym (ended s f at h) ∙ e))

  -- The run by position comes to what the operations come to, where the stack has room for all of them.
  pub run_position : (s : List ℕ) (f at : ℕ) (is : List Operation) (st : List X)
      → length st + length is ≤ m → operations f (drop at s) ≡ some is → run_at M m f s at st ≡ run M is st
  unfolding run_at operations and_then
  run_position s zero at is st room e = by (drop at s) refl
    where
      by : (r : List ℕ) → drop at s ≡ r → cond (ltb at (length s)) (fault 13) (finish st) ≡ run M is st
      by [] q =
          let b : length s ≤ at = omega (arith, length-drop at s, ap length q) in
          rw (le-ltb at (length s) b) (finish_run s 0 at is st b e)
      by (k ∷ r) q = none_some is (sym (ap (operations 0) q) ∙ e)
  run_position s (suc f) at is st room e = by (dec_lt at (length s)) (λ j l h u b. run_position s f j l u b h)
    where
      by : Dec (at < length s)
          → ((j : ℕ) (l : List Operation) → operations f (drop j s) ≡ some l → (u : List X) → length u + length l ≤ m → run_at M m f s j u ≡ run M l u)
          → cond (ltb at (length s)) (resume (next_of M m (fetch_at s at) at st) (λ j u. run_at M m f s j u)) (finish st) ≡ run M is st
      by (no n) ih = rw (le-ltb at (length s) (omega arith)) (finish_run s (suc f) at is st (omega arith) e)
      by (yes b) ih =
          rw (lt-ltb at (length s) b)
          (fetched (fetch_at s at)
          (sym (ap (λ o. and_then o (λ p. map (λ l. p.0 ∷ l) (operations f p.1))) (fetch_read s at))
          ∙ sym (ap (operations (suc f)) (drop-cons s at 0 b)) ∙ e))
        where
          one : (i : Operation) (j : ℕ) (l : List Operation) → operations f (drop j s) ≡ some l → i ∷ l ≡ is
              → resume (applied M m i j st) (λ k u. run_at M m f s k u) ≡ run M is st
          one i j l h q =
              let z : suc (length l) ≡ length is = ap length q in
              applied_cong i st j (λ k u. run_at M m f s k u) (λ k u. run M l u) (λ u b. ih j l h u (omega arith)) ∙ sym (run_operation i l st j (omega arith))
              ∙ ap (λ (r : List Operation). run M r st) q

          fetched : (o : Option (Operation × ℕ)) → and_then (map (after s at) o) (λ p. map (λ l. p.0 ∷ l) (operations f p.1)) ≡ some is
              → resume (next_of M m o at st) (λ j u. run_at M m f s j u) ≡ run M is st
          fetched none q = none_some is q
          fetched (some p) q =
              let y = map_some (λ l. p.0 ∷ l) (operations f (drop (at + p.1) s)) is q in
              one p.0 (at + p.1) y.0 y.1 y.2

  -- Where it comes to a value, the bytes are at most f operations that come to it.
  pushed_value : (o : Out X) (st : List X) (j : ℕ) (f : ℕ → List X → Out X) (x : X) → resume (pushed o j st) f ≡ fine x
      → (u : List X) × (f j u ≡ fine x) × ((h : List X → Out X) → h u ≡ fine x → onto o st h ≡ fine x)
  unfolding onto
  pushed_value (fine y) st j f x e = (y ∷ st, e, λ h q. q)
  pushed_value (fault n) st j f x e = fault_fine n x e

  abbrev Goes : Operation → List X → ℕ → (ℕ → List X → Out X) → X → Type 0
  Goes i st j f x = (u : List X) × (f j u ≡ fine x) × ((is : List Operation) → run M is u ≡ fine x → run M (i ∷ is) st ≡ fine x)

  applied_value : (i : Operation) (st : List X) (j : ℕ) (f : ℕ → List X → Out X) (x : X) → resume (applied M m i j st) f ≡ fine x → Goes i st j f x
  unfolding run
  applied_value (push l) st j f x e = pick (ltb (length st) m) e
    where
      pick : (b : Bool) → resume (cond b (pushed (M.of_leaf l) j st) (stop 13)) f ≡ fine x → Goes (push l) st j f x
      pick true q = let t = pushed_value (M.of_leaf l) st j f x q in (t.0, t.1, λ is h. t.2 (λ u. run M is u) h)
      pick false q = fault_fine 13 x q
  applied_value (apply1 o) [] j f x e = fault_fine 13 x e
  applied_value (apply1 o) (y ∷ st) j f x e = let t = pushed_value (M.of_unary o y) st j f x e in (t.0, t.1, λ is h. t.2 (λ u. run M is u) h)
  applied_value (apply2 o) [] j f x e = fault_fine 13 x e
  applied_value (apply2 o) (y ∷ []) j f x e = fault_fine 13 x e
  applied_value (apply2 o) (y ∷ z ∷ st) j f x e = let t = pushed_value (M.of_binary o z y) st j f x e in (t.0, t.1, λ is h. t.2 (λ u. run M is u) h)

  abbrev Comes : List ℕ → ℕ → ℕ → List X → X → Type 0
  Comes s f at st x = (is : List Operation) × (operations f (drop at s) ≡ some is) × (length is ≤ f) × (run M is st ≡ fine x)

  ended_value : (s : List ℕ) (f at : ℕ) (st : List X) (x : X) → length s ≤ at → finish st ≡ fine x → Comes s f at st x
  ended_value s f at st x h e = ([], ended s f at h, omega arith, sym (run_nothing st) ∙ e)

  pub position_value : (s : List ℕ) (f at : ℕ) (st : List X) (x : X) → run_at M m f s at st ≡ fine x → Comes s f at st x
  unfolding run_at
  position_value s zero at st x e = by (dec_lt at (length s))
    where
      by : Dec (at < length s) → Comes s 0 at st x
      by (yes b) = fault_fine 13 x (rw (lt-ltb at (length s) b) at e)
      by (no n) = ended_value s 0 at st x (omega arith) (rw (le-ltb at (length s) (omega arith)) at e)
  position_value s (suc f) at st x e = by (dec_lt at (length s)) (λ j u h. position_value s f j u x h)
    where
      by : Dec (at < length s) → ((j : ℕ) (u : List X) → run_at M m f s j u ≡ fine x → Comes s f j u x) → Comes s (suc f) at st x
      by (no n) ih = ended_value s (suc f) at st x (omega arith) (rw (le-ltb at (length s) (omega arith)) at e)
      by (yes b) ih = fetched (fetch_at s at) refl (rw (lt-ltb at (length s) b) at e)
        where
          joined : (i : Operation) (w : ℕ) → fetch_at s at ≡ some (i, w) → (u : List X)
              → ((is : List Operation) → run M is u ≡ fine x → run M (i ∷ is) st ≡ fine x) → Comes s f (at + w) u x → Comes s (suc f) at st x
          joined i w q u k c = (i ∷ c.0, operations_on s f at i w c.0 b q c.1, omega (arith, c.2), k c.0 c.3)

          fetched : (o : Option (Operation × ℕ)) → fetch_at s at ≡ o → resume (next_of M m o at st) (λ j u. run_at M m f s j u) ≡ fine x → Comes s (suc f) at st x
          fetched none q h = fault_fine 13 x h
          fetched (some p) q h =
              let t = applied_value p.0 st (at + p.1) (λ j u. run_at M m f s j u) x h in
              joined p.0 p.1 q t.0 t.2 (ih (at + p.1) t.0 t.1)
