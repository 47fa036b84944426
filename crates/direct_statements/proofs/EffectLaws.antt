-- What a statement that the arrays hold does itself is what the equations have it do, and the part that follows it is held too. By cases on the
-- statement. Assumes nothing.
use Prim.Native.Nat.{ℕ, suc, ◌+◌, ◌≤◌, ◌<◌}
use mathlib.Core.Path.{◌≡◌, refl, sym, subst}
use mathlib.Core.Bool.{Bool, true, false}
use mathlib.Core.Option.{Option, none, some}
use mathlib.Core.List.{List, [], ◌∷◌, ◌++◌}
use native.Mathlib.Numerals.{add-one}
use native.Mathlib.Omega.{arith}
use lib.ListN.{length, set}
use lib.IntN.{ℤ}
use Rattle.spec_design.specs.Expression.{Expr, Out, fine, fault, bind}
use Rattle.spec_design.specs.Statement.{output, variable, null, Stmt, act, wait, if_then, if_else, while, size}
use Rattle.spec_semantics.specs.Evaluation.{is_one, evaluate}
use Rattle.spec_semantics.specs.Equations.{Run, Result, passed, reached, refused, perform, holds, log, acted, tested, start}
use Rattle.base_ir.specs.Operations.{ops}
use Rattle.base_ir.specs.Entries.{Single, single_act, single_wait, single_if, single_else, single_while, Block}
use Rattle.base_ir.specs.Arrays.{ops_from, Row, row_in, At}
use Rattle.base_ir.proofs.Held.{at_output, at_variable, at_null, at_wait, at_if, at_while, at_else}
use Rattle.direct_expressions.specs.Machine.{value_in, Performable}
use Rattle.direct_statements.specs.Effects.{branch_of, effect_of, stored_of, value_of}
use Rattle.direct_statements.specs.Holding.{Ready, HeldIn, HeldRest, start_rest}
use Rattle.direct_statements.specs.Standing.{run}
use Rattle.direct_statements.specs.declared.Effect.{Effect}
use Rattle.direct_statements.specs.declared.Effect.TheVariants.{Waits, Performed}
use Rattle.direct_expressions.proofs.ExpressionLaws.{value_expr}

module _ (codes : List ℕ) (args : List ℤ) (rows : List ℕ) (i : List ℤ) where
  -- performed, statement j goes on with the block that the rows a .. b hold, inside j .. next
  pub record Inner (j next : ℕ) (w : List ℕ) (R : Result) (a b : ℕ) (o v : List ℤ) : Type 0 where
    pub block : Option Stmt
    pub held : HeldRest codes args rows block a b
    pub low : j < a
    pub mid : a ≤ b
    pub high : b ≤ next
    pub same : R ≡ start_rest block a i (run (w ++ (j ∷ [])) o v)

  -- the result R of statement j, as an effect tells it
  abbrev pub EffectSays : ℕ → ℕ → List ℕ → Result → Out Effect → List ℤ → List ℤ → Type 0
  EffectSays j next w R (fine Waits) o v = (R ≡ reached j (run (w ++ (j ∷ [])) o v))
  EffectSays j next w R (fine (Performed a b)) o v = Inner j next w R a b o v
  EffectSays j next w R (fault q) o v = (R ≡ refused q j)

  -- the effect by the row r says what R is
  abbrev By : ℕ → ℕ → List ℕ → Result → List ℤ → List ℤ → Row → Type 0
  By j next w R o v r =
      let e = value_of codes args i v r in
      EffectSays j next w R (effect_of r.kind e j r.other r.end) (stored_of 1 r.kind r.target e o) (stored_of 2 r.kind r.target e v)

  module _ (j next : ℕ) (w : List ℕ) (o v : List ℤ) where
    -- nothing follows
    alone : (R : Result) (o' v' : List ℤ) → j < next → R ≡ passed (run (w ++ (j ∷ [])) o' v') → Inner j next w R (j + 1) (j + 1) o' v'
    alone R o' v' h e = record { block = none; held = refl; low = omega arith; mid = omega arith; high = omega arith; same = e }

    -- the value of an expression that the arrays hold
    valued : (m : ℕ) (e : Expr) (P : Out ℤ → Type 0) → ops_from codes args m (length (ops e)) ≡ ops e → Performable e → P (evaluate e i v)
        → P (value_in codes args m (m + length (ops e)) i v)
    valued m e P h n p = subst (λ (r : Out ℤ). P r) (sym (value_expr i v codes args m e h n)) p

    output_says : (k : ℕ) (e : Expr) → HeldIn codes args rows (act (output k e)) j next
        → By j next w (start (act (output k e)) j i (run w o v)) o v (row_in rows j)
    unfolding Ready size start acted perform bind
    output_says k e h =
        let own = at_output h.lies in
        let n = h.end in
        subst (λ (r : Row). By j next w (start (act (output k e)) j i (run w o v)) o v r) (sym own.line)
        (valued h.m e
        (λ (r : Out ℤ). EffectSays j next w (start (act (output k e)) j i (run w o v)) (effect_of 1 r j (j + 1 + 0) (j + 1 + 0)) (stored_of 1 1 k r o)
        (stored_of 2 1 k r v))
        own.code h.ready (go (evaluate e i v) (omega arith)))
      where
        go : (r : Out ℤ) → j < next
            → EffectSays j next w (acted (bind r (λ z. fine (record { outputs = set o k z; variables = v }))) j (run w o v))
            (effect_of 1 r j (j + 1 + 0) (j + 1 + 0)) (stored_of 1 1 k r o) (stored_of 2 1 k r v)
        go (fine z) l = alone (passed (run (w ++ (j ∷ [])) (set o k z) v)) (set o k z) v l refl
        go (fault q) l = refl

    variable_says : (k : ℕ) (e : Expr) → HeldIn codes args rows (act (variable k e)) j next
        → By j next w (start (act (variable k e)) j i (run w o v)) o v (row_in rows j)
    unfolding Ready size start acted perform bind
    variable_says k e h =
        let own = at_variable h.lies in
        let n = h.end in
        subst (λ (r : Row). By j next w (start (act (variable k e)) j i (run w o v)) o v r) (sym own.line)
        (valued h.m e
        (λ (r : Out ℤ). EffectSays j next w (start (act (variable k e)) j i (run w o v)) (effect_of 2 r j (j + 1 + 0) (j + 1 + 0)) (stored_of 1 2 k r o)
        (stored_of 2 2 k r v))
        own.code h.ready (go (evaluate e i v) (omega arith)))
      where
        go : (r : Out ℤ) → j < next
            → EffectSays j next w (acted (bind r (λ z. fine (record { outputs = o; variables = set v k z }))) j (run w o v))
            (effect_of 2 r j (j + 1 + 0) (j + 1 + 0)) (stored_of 1 2 k r o) (stored_of 2 2 k r v)
        go (fine z) l = alone (passed (run (w ++ (j ∷ [])) o (set v k z))) o (set v k z) l refl
        go (fault q) l = refl

    null_says : HeldIn codes args rows (act null) j next → By j next w (start (act null) j i (run w o v)) o v (row_in rows j)
    unfolding size start acted perform
    null_says h =
        let n = h.end in
        subst (λ (r : Row). By j next w (start (act null) j i (run w o v)) o v r) (sym (at_null h.lies).line)
        (go (value_in codes args h.m (h.m + 0) i v) (omega arith))
      where
        go : (r : Out ℤ) → j < next
            → EffectSays j next w (passed (run (w ++ (j ∷ [])) o v)) (fine (Performed (j + 1) (j + 1))) (stored_of 1 4 0 r o) (stored_of 2 4 0 r v)
        go (fine z) l = alone (passed (run (w ++ (j ∷ [])) o v)) o v l refl
        go (fault q) l = alone (passed (run (w ++ (j ∷ [])) o v)) o v l refl

    wait_says : HeldIn codes args rows wait j next → By j next w (start wait j i (run w o v)) o v (row_in rows j)
    unfolding start log
    wait_says h = subst (λ (r : Row). By j next w (start wait j i (run w o v)) o v r) (sym (at_wait h.lies).line)
        (go (value_in codes args h.m (h.m + 0) i v))
      where
        go : (r : Out ℤ) → EffectSays j next w (reached j (run (w ++ (j ∷ [])) o v)) (fine Waits) (stored_of 1 0 0 r o) (stored_of 2 0 0 r v)
        go (fine z) = refl
        go (fault q) = refl

    -- the first part of an if or a while, the second part of an if, and none
    first_part : (a : Stmt) (m : ℕ) (R : Result) → At codes args rows a (j + 1) m → Ready a → Block a → j + 1 + size a ≤ next
        → R ≡ start a (suc j) i (run (w ++ (j ∷ [])) o v) → Inner j next w R (j + 1) (j + 1 + size a) o v
    first_part a m R p s k h e =
        record {
          block = some a;
          held = (record { m = m; lies = p; ready = s; end = refl }, k);
          low = omega arith;
          mid = omega arith;
          high = h;
          same = rw add-one e;
        }

    -- an if or a while, by its condition
    chosen : (f g : Run → Result) (a b : ℕ) (x : Bool)
        → Inner j next w (f (run (w ++ (j ∷ [])) o v)) (j + 1) a o v → Inner j next w (g (run (w ++ (j ∷ [])) o v)) a b o v
        → EffectSays j next w (tested (fine x) j (run w o v) f g) (fine (branch_of x j a b)) o v
    unfolding tested log
    chosen f g a b true p q = p
    chosen f g a b false p q = q

    -- no part follows
    none_part : (a : ℕ) (R : Result) → j < a → a ≤ next → R ≡ passed (run (w ++ (j ∷ [])) o v) → Inner j next w R a a o v
    none_part a R l h e = record { block = none; held = refl; low = l; mid = omega arith; high = h; same = e }

    if_says : (e : Expr) (a : Stmt) → Block a → HeldIn codes args rows (if_then e a) j next
        → By j next w (start (if_then e a) j i (run w o v)) o v (row_in rows j)
    unfolding Ready size start holds bind tested
    if_says e a k h =
        let p = at_if h.lies in
        let n = h.end in
        subst (λ (r : Row). By j next w (start (if_then e a) j i (run w o v)) o v r) (sym p.0.line)
        (valued h.m e
        (λ (r : Out ℤ). EffectSays j next w (start (if_then e a) j i (run w o v)) (effect_of 3 r j (j + 1 + size a) (j + 1 + size a)) (stored_of 1 3 0 r o)
        (stored_of 2 3 0 r v))
        p.0.code h.ready.0
        (go (evaluate e i v)
        (first_part a _ (start a (suc j) i (run (w ++ (j ∷ [])) o v)) p.1 h.ready.1 k (omega arith) refl)
        (none_part (j + 1 + size a) (passed (run (w ++ (j ∷ [])) o v)) (omega arith) (omega arith) refl)))
      where
        go : (r : Out ℤ) → Inner j next w (start a (suc j) i (run (w ++ (j ∷ [])) o v)) (j + 1) (j + 1 + size a) o v
            → Inner j next w (passed (run (w ++ (j ∷ [])) o v)) (j + 1 + size a) (j + 1 + size a) o v
            → EffectSays j next w (tested (bind r (λ z. fine (is_one z))) j (run w o v) (λ τ. start a (suc j) i τ) passed)
            (effect_of 3 r j (j + 1 + size a) (j + 1 + size a)) (stored_of 1 3 0 r o) (stored_of 2 3 0 r v)
        go (fine z) p q = chosen (λ τ. start a (suc j) i τ) passed (j + 1 + size a) (j + 1 + size a) (is_one z) p q
        go (fault q) p p' = refl

    while_says : (e : Expr) (a : Stmt) → Block a → HeldIn codes args rows (while e a) j next
        → By j next w (start (while e a) j i (run w o v)) o v (row_in rows j)
    unfolding Ready size start holds bind tested
    while_says e a k h =
        let p = at_while h.lies in
        let n = h.end in
        subst (λ (r : Row). By j next w (start (while e a) j i (run w o v)) o v r) (sym p.0.line)
        (valued h.m e
        (λ (r : Out ℤ). EffectSays j next w (start (while e a) j i (run w o v)) (effect_of 5 r j (j + 1 + size a) (j + 1 + size a)) (stored_of 1 5 0 r o)
        (stored_of 2 5 0 r v))
        p.0.code h.ready.0
        (go (evaluate e i v)
        (first_part a _ (start a (suc j) i (run (w ++ (j ∷ [])) o v)) p.1 h.ready.1 k (omega arith) refl)
        (none_part (j + 1 + size a) (passed (run (w ++ (j ∷ [])) o v)) (omega arith) (omega arith) refl)))
      where
        go : (r : Out ℤ) → Inner j next w (start a (suc j) i (run (w ++ (j ∷ [])) o v)) (j + 1) (j + 1 + size a) o v
            → Inner j next w (passed (run (w ++ (j ∷ [])) o v)) (j + 1 + size a) (j + 1 + size a) o v
            → EffectSays j next w (tested (bind r (λ z. fine (is_one z))) j (run w o v) (λ τ. start a (suc j) i τ) passed)
            (effect_of 5 r j (j + 1 + size a) (j + 1 + size a)) (stored_of 1 5 0 r o) (stored_of 2 5 0 r v)
        go (fine z) p q = chosen (λ τ. start a (suc j) i τ) passed (j + 1 + size a) (j + 1 + size a) (is_one z) p q
        go (fault q) p p' = refl

    -- the second part of an if
    second_part : (b : Stmt) (m a c : ℕ) (R : Result) → At codes args rows b a m → Ready b → Block b → c ≡ a + size b → j < a → c ≤ next
        → R ≡ start b a i (run (w ++ (j ∷ [])) o v) → Inner j next w R a c o v
    second_part b m a c R p s k n l h e =
        record {
          block = some b;
          held = (record { m = m; lies = p; ready = s; end = n }, k);
          low = l;
          mid = omega arith;
          high = h;
          same = e;
        }

    else_says : (e : Expr) (a b : Stmt) → Block a → Block b → HeldIn codes args rows (if_else e a b) j next
        → By j next w (start (if_else e a b) j i (run w o v)) o v (row_in rows j)
    unfolding Ready size start holds bind tested
    else_says e a b k l h =
        let p = at_else h.lies in
        let n = h.end in
        let z : suc j + size a ≡ j + 1 + size a = omega arith in
        subst (λ (r : Row). By j next w (start (if_else e a b) j i (run w o v)) o v r) (sym p.0.line)
        (valued h.m e
        (λ (r : Out ℤ). EffectSays j next w (start (if_else e a b) j i (run w o v)) (effect_of 3 r j (j + 1 + size a) (j + 1 + (size a + size b)))
        (stored_of 1 3 0 r o) (stored_of 2 3 0 r v))
        p.0.code h.ready.0
        (go (evaluate e i v)
        (first_part a _ (start a (suc j) i (run (w ++ (j ∷ [])) o v)) p.1.0 h.ready.1.0 k (omega arith) refl)
        (second_part b _ (j + 1 + size a) (j + 1 + (size a + size b)) (start b (suc j + size a) i (run (w ++ (j ∷ [])) o v)) p.1.1 h.ready.1.1 l
        (omega arith) (omega arith) (omega arith) (rw z))))
      where
        go : (r : Out ℤ) → Inner j next w (start a (suc j) i (run (w ++ (j ∷ [])) o v)) (j + 1) (j + 1 + size a) o v
            → Inner j next w (start b (suc j + size a) i (run (w ++ (j ∷ [])) o v)) (j + 1 + size a) (j + 1 + (size a + size b)) o v
            → EffectSays j next w (tested (bind r (λ z. fine (is_one z))) j (run w o v) (λ τ. start a (suc j) i τ) (λ τ. start b (suc j + size a) i τ))
            (effect_of 3 r j (j + 1 + size a) (j + 1 + (size a + size b))) (stored_of 1 3 0 r o) (stored_of 2 3 0 r v)
        go (fine z) p q = chosen (λ τ. start a (suc j) i τ) (λ τ. start b (suc j + size a) i τ) (j + 1 + size a) (j + 1 + (size a + size b)) (is_one z) p q
        go (fault q) p p' = refl

    -- every statement that the arrays hold
    pub effect_says : {f : Stmt} → Single f → HeldIn codes args rows f j next → By j next w (start f j i (run w o v)) o v (row_in rows j)
    effect_says (single_act (output k e)) h = output_says k e h
    effect_says (single_act (variable k e)) h = variable_says k e h
    effect_says (single_act null) h = null_says h
    effect_says single_wait h = wait_says h
    effect_says {f = if_then e a} (single_if k) h = if_says e a k h
    effect_says {f = if_else e a b} (single_else k l) h = else_says e a b k l h
    effect_says {f = while e a} (single_while k) h = while_says e a k h
