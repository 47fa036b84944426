-- Started and resumed statements, and cycles, are those of document 000's B.3, refusals and way included, for every statement whose loops have C
-- bodies: one law for each published equation, then induction on the statement. Assumes nothing.
use Prim.Native.Nat.{ℕ, suc, ◌+◌}
use native.Mathlib.Omega.{arith}
use mathlib.Core.Path.{◌≡◌, refl, sym, ◌∙◌}
use mathlib.Core.Bool.{Bool, true, false, not, ◌||◌}
use mathlib.Core.Option.{Option, none, some}
use mathlib.Core.Logic.{◌⊎◌, inl, inr, ⊎_elim}
use mathlib.Core.List.{List, [], ◌∷◌, ◌++◌}
use lib.ListN.{set}
use lib.IntN.{ℤ}
use Rattle.spec_design.specs.Expression.{Expr, Out, fine, fault, bind}
use Rattle.spec_design.specs.Statement.{Act, output, variable, null, Stmt, act, wait, if_then, if_else, while, seq, size, has, Class, A, B, C, seq_class}
use Rattle.spec_design.specs.Statement.{if_class, class_of, LoopsC}
use Rattle.spec_semantics.specs.Evaluation.{is_one, evaluate}
use Rattle.spec_semantics.specs.Equations.{Run, Result, passed, reached, refused, perform, holds, log, then, acted, tested, pick, start, resume, enter}
use Rattle.spec_semantics.specs.Equations.{cycle}
use Rattle.spec_semantics.specs.Effects.{Step, ends, stops, and_then, traced}
use Rattle.spec_semantics.specs.Published.{ι, ω, φ, PRIMREC_option, PRIMREC_sum, ◌⇒◌∣◌, type_a_statement, type_b_statement, type_c_statement}
use Rattle.spec_semantics.specs.Published.{condition, negate_condition, SIGNAL_ASSIGNMENT, VARIABLE_ASSIGNMENT, NULL_STATEMENT, «WAIT», SEQ_AA}
use Rattle.spec_semantics.specs.Published.{SEQ_AB, SEQ_AC, SEQ_BA, SEQ_BB, SEQ_BC, SEQ_CA, SEQ_CB, SEQ_CC, IF_THEN_ELSE_AA}
use Rattle.spec_semantics.specs.Published.{IF_THEN_ELSE_AB, IF_THEN_ELSE_AC, IF_THEN_ELSE_BA, IF_THEN_ELSE_BB, IF_THEN_ELSE_BC}
use Rattle.spec_semantics.specs.Published.{IF_THEN_ELSE_CA, IF_THEN_ELSE_CB, IF_THEN_ELSE_CC, WHILE_C, CLOSE_C}
use Rattle.spec_semantics.specs.Waits.{seq_waits, seq_part, if_waits, if_part, Waits, number_of}
use Rattle.spec_semantics.specs.Denotation.{raised, tracing, performing, Sem, seq_sem, if_sem, while_sem, close_sem, act_sem, wait_sem, condition_sem, sem}
use Rattle.spec_semantics.specs.Denotation.{process}
use Rattle.spec_semantics.specs.Correspondence.{run, placed, to_a, to_b, to_c, starts, resumes, place_of}
use Rattle.spec_semantics.proofs.Basic.{eqb_same, or_left, or_right}
use Rattle.spec_semantics.proofs.Results.{then_cong, A_C, B_C, has_below}

-- a condition's branches
abbrev branched : Step Bool → (List ℕ → Result) → (List ℕ → Result) → Result
branched (ends true w) f g = f w
branched (ends false w) f g = g w
branched (stops q n) f g = refused q n

-- What follows a part: it goes on where the part is passed (bind), or only renames its waits (tail).

module _ {Y : Type 0} (to : Step Y → Result) (strict : (q n : ℕ) → to (stops q n) ≡ refused q n) where
  bind_A : (v : Step (ω × φ)) (h : ω × φ → List ℕ → Step Y) (k : Run → Result) → ((so : ω) (sq : φ) (w : List ℕ) → to (h (so, sq) w) ≡ k (run w so sq))
      → to (and_then v h) ≡ then (to_a v) k
  unfolding and_then then
  bind_A (ends p w) h k e = e p.0 p.1 w
  bind_A (stops q n) h k e = strict q n

  bind_B : {γ : Type 0} (m : γ → ℕ) (v : Step (ω × φ × Option γ)) (h : ω × φ × Option γ → List ℕ → Step Y) (k : Run → Result)
      → ((so : ω) (sq : φ) (w : List ℕ) → to (h (so, sq, none) w) ≡ k (run w so sq))
      → ((so : ω) (sq : φ) (u : γ) (w : List ℕ) → to (h (so, sq, some u) w) ≡ reached (m u) (run w so sq)) → to (and_then v h) ≡ then (to_b m v) k
  unfolding and_then then
  bind_B {γ} m (ends p w) h k e e' = go p.2
    where
      go : (s : Option γ) → to (h (p.0, p.1, s) w) ≡ then (placed m (run w p.0 p.1) s) k
      go none = e p.0 p.1 w
      go (some u) = e' p.0 p.1 u w
  bind_B m (stops q n) h k e e' = strict q n

  bind_C : {γ : Type 0} (m : γ → ℕ) (v : Step (ω × φ × γ)) (h : ω × φ × γ → List ℕ → Step Y) (k : Run → Result)
      → ((so : ω) (sq : φ) (u : γ) (w : List ℕ) → to (h (so, sq, u) w) ≡ reached (m u) (run w so sq)) → to (and_then v h) ≡ then (to_c m v) k
  unfolding and_then then
  bind_C m (ends p w) h k e = e p.0 p.1 p.2 w
  bind_C m (stops q n) h k e = strict q n

  tail_A : (v : Step (ω × φ)) (h : ω × φ → List ℕ → Step Y) → ((so : ω) (sq : φ) (w : List ℕ) → to (h (so, sq) w) ≡ passed (run w so sq))
      → to (and_then v h) ≡ to_a v
  unfolding and_then
  tail_A (ends p w) h e = e p.0 p.1 w
  tail_A (stops q n) h e = strict q n

  tail_B : {γ : Type 0} (m : γ → ℕ) (v : Step (ω × φ × Option γ)) (h : ω × φ × Option γ → List ℕ → Step Y)
      → ((so : ω) (sq : φ) (w : List ℕ) → to (h (so, sq, none) w) ≡ passed (run w so sq))
      → ((so : ω) (sq : φ) (u : γ) (w : List ℕ) → to (h (so, sq, some u) w) ≡ reached (m u) (run w so sq)) → to (and_then v h) ≡ to_b m v
  unfolding and_then
  tail_B {γ} m (ends p w) h e e' = go p.2
    where
      go : (s : Option γ) → to (h (p.0, p.1, s) w) ≡ placed m (run w p.0 p.1) s
      go none = e p.0 p.1 w
      go (some u) = e' p.0 p.1 u w
  tail_B m (stops q n) h e e' = strict q n

  tail_C : {γ : Type 0} (m : γ → ℕ) (v : Step (ω × φ × γ)) (h : ω × φ × γ → List ℕ → Step Y)
      → ((so : ω) (sq : φ) (u : γ) (w : List ℕ) → to (h (so, sq, u) w) ≡ reached (m u) (run w so sq)) → to (and_then v h) ≡ to_c m v
  unfolding and_then
  tail_C m (ends p w) h e = e p.0 p.1 p.2 w
  tail_C m (stops q n) h e = strict q n

  bind_condition : (v : Step Bool) (h : Bool → List ℕ → Step Y) (f g : List ℕ → Result)
      → ((w : List ℕ) → to (h true w) ≡ f w) → ((w : List ℕ) → to (h false w) ≡ g w) → to (and_then v h) ≡ branched v f g
  unfolding and_then
  bind_condition (ends true w) h f g e e' = e w
  bind_condition (ends false w) h f g e e' = e' w
  bind_condition (stops q n) h f g e e' = strict q n

then_C : {γ : Type 0} (m : γ → ℕ) (v : Step (ω × φ × γ)) (k : Run → Result) → to_c m v ≡ then (to_c m v) k
unfolding then
then_C m (ends p w) k = refl
then_C m (stops q n) k = refl

branched_not : (c : condition traced) (si : ι) (sq : φ) (w : List ℕ) (f g : List ℕ → Result)
    → branched (negate_condition traced c si sq w) f g ≡ branched (c si sq w) g f
unfolding negate_condition and_then
branched_not c si sq w f g = go (c si sq w)
  where
    go : (v : Step Bool) → branched (and_then v (λ b. λ w. ends (not b) w)) f g ≡ branched v g f
    go (ends true w) = refl
    go (ends false w) = refl
    go (stops q n) = refl

-- Sequences.

module _ (i : ι) where
  seq_start : (x y : Class) (γ δ : Type 0) (f : Sem tracing x γ) (g : Sem tracing y δ) (a : γ → ℕ) (b : δ → ℕ) (σ : Run)
      → starts (seq_class x y) (seq_waits x y γ δ) (seq_sem tracing x y γ δ f g) (λ w. ⊎_elim a b (seq_part x y γ δ w)) i σ
      ≡ then (starts x γ f a i σ) (λ τ. starts y δ g b i τ)
  unfolding seq_class PRIMREC_option SEQ_AA SEQ_AB SEQ_AC SEQ_BA SEQ_BB SEQ_BC SEQ_CA SEQ_CB SEQ_CC
  seq_start A A γ δ f g a b σ = bind_A to_a (λ q n. refl) (f i _ _ _) _ _ (λ so sq w. tail_A to_a (λ q n. refl) (g i so sq w) _ (λ so sq w. refl))
  seq_start A B γ δ f g a b σ =
      bind_A (to_b b) (λ q n. refl) (f i _ _ _) _ _ (λ so sq w. tail_B (to_b b) (λ q n. refl) b (g i so sq none w) _ (λ so sq w. refl) (λ so sq u w. refl))
  seq_start A C γ δ f g a b σ = bind_A (to_c b) (λ q n. refl) (f i _ _ _) _ _ (λ so sq w. tail_C (to_c b) (λ q n. refl) b (g.0 i so sq w) _ (λ so sq u w. refl))
  seq_start B A γ δ f g a b σ =
      bind_B (to_b a) (λ q n. refl) a (f i _ _ none _) _ _ (λ so sq w. tail_A (to_b a) (λ q n. refl) (g i so sq w) _ (λ so sq w. refl)) (λ so sq u w. refl)
  seq_start B B γ δ f g a b σ =
      bind_B (to_b (⊎_elim a b)) (λ q n. refl) a (f i _ _ none _) _ _
      (λ so sq w. tail_B (to_b (⊎_elim a b)) (λ q n. refl) b (g i so sq none w) _ (λ so sq w. refl) (λ so sq u w. refl)) (λ so sq u w. refl)
  seq_start B C γ δ f g a b σ =
      bind_B (to_c (⊎_elim a b)) (λ q n. refl) a (f i _ _ none _) _ _
      (λ so sq w. tail_C (to_c (⊎_elim a b)) (λ q n. refl) b (g.0 i so sq w) _ (λ so sq u w. refl)) (λ so sq u w. refl)
  seq_start C A γ δ f g a b σ = then_C a (f.0 i _ _ _) _
  seq_start C B γ δ f g a b σ = bind_C (to_c (⊎_elim a b)) (λ q n. refl) a (f.0 i _ _ _) _ _ (λ so sq u w. refl)
  seq_start C C γ δ f g a b σ = bind_C (to_c (⊎_elim a b)) (λ q n. refl) a (f.0 i _ _ _) _ _ (λ so sq u w. refl)

  seq_resume : (x y : Class) (γ δ : Type 0) (f : Sem tracing x γ) (g : Sem tracing y δ) (a : γ → ℕ) (b : δ → ℕ) (v : seq_waits x y γ δ) (σ : Run)
      → resumes (seq_class x y) (seq_waits x y γ δ) (seq_sem tracing x y γ δ f g) (λ w. ⊎_elim a b (seq_part x y γ δ w)) v i σ
      ≡ ⊎_elim (λ u. then (resumes x γ f a u i σ) (λ τ. starts y δ g b i τ)) (λ u. resumes y δ g b u i σ) (seq_part x y γ δ v)
  unfolding seq_class PRIMREC_option PRIMREC_sum SEQ_AA SEQ_AB SEQ_AC SEQ_BA SEQ_BB SEQ_BC SEQ_CA SEQ_CB SEQ_CC
  seq_resume A A γ δ f g a b v σ = absurd v
  seq_resume A B γ δ f g a b v σ = refl
  seq_resume A C γ δ f g a b v σ = refl
  seq_resume B A γ δ f g a b v σ =
      bind_B (to_b a) (λ q n. refl) a (f i _ _ (some v) _) _ _ (λ so sq w. tail_A (to_b a) (λ q n. refl) (g i so sq w) _ (λ so sq w. refl)) (λ so sq u w. refl)
  seq_resume B B γ δ f g a b (inl v) σ =
      bind_B (to_b (⊎_elim a b)) (λ q n. refl) a (f i _ _ (some v) _) _ _
      (λ so sq w. tail_B (to_b (⊎_elim a b)) (λ q n. refl) b (g i so sq none w) _ (λ so sq w. refl) (λ so sq u w. refl)) (λ so sq u w. refl)
  seq_resume B B γ δ f g a b (inr v) σ = tail_B (to_b (⊎_elim a b)) (λ q n. refl) b (g i _ _ (some v) _) _ (λ so sq w. refl) (λ so sq u w. refl)
  seq_resume B C γ δ f g a b (inl v) σ =
      bind_B (to_b (⊎_elim a b)) (λ q n. refl) a (f i _ _ (some v) _) _ _
      (λ so sq w. tail_C (to_b (⊎_elim a b)) (λ q n. refl) b (g.0 i so sq w) _ (λ so sq u w. refl)) (λ so sq u w. refl)
  seq_resume B C γ δ f g a b (inr v) σ = tail_B (to_b (⊎_elim a b)) (λ q n. refl) b (g.1 i _ _ v _) _ (λ so sq w. refl) (λ so sq u w. refl)
  seq_resume C A γ δ f g a b v σ =
      bind_B (to_b a) (λ q n. refl) a (f.1 i _ _ v _) _ _ (λ so sq w. tail_A (to_b a) (λ q n. refl) (g i so sq w) _ (λ so sq w. refl)) (λ so sq u w. refl)
  seq_resume C B γ δ f g a b (inl v) σ =
      bind_B (to_b (⊎_elim a b)) (λ q n. refl) a (f.1 i _ _ v _) _ _
      (λ so sq w. tail_B (to_b (⊎_elim a b)) (λ q n. refl) b (g i so sq none w) _ (λ so sq w. refl) (λ so sq u w. refl)) (λ so sq u w. refl)
  seq_resume C B γ δ f g a b (inr v) σ = tail_B (to_b (⊎_elim a b)) (λ q n. refl) b (g i _ _ (some v) _) _ (λ so sq w. refl) (λ so sq u w. refl)
  seq_resume C C γ δ f g a b (inl v) σ =
      bind_B (to_b (⊎_elim a b)) (λ q n. refl) a (f.1 i _ _ v _) _ _
      (λ so sq w. tail_C (to_b (⊎_elim a b)) (λ q n. refl) b (g.0 i so sq w) _ (λ so sq u w. refl)) (λ so sq u w. refl)
  seq_resume C C γ δ f g a b (inr v) σ = tail_B (to_b (⊎_elim a b)) (λ q n. refl) b (g.1 i _ _ v _) _ (λ so sq w. refl) (λ so sq u w. refl)

  -- If-then-else structures.

  if_AB : (γ : Type 0) (c : condition traced) (f : type_a_statement traced) (g : type_b_statement traced γ) (b : γ → ℕ) (so : ω) (sq : φ) (w : List ℕ)
      → to_b b (IF_THEN_ELSE_AB traced c f g i so sq none w) ≡ branched (c i sq w) (λ u. to_a (f i so sq u)) (λ u. to_b b (g i so sq none u))
  unfolding IF_THEN_ELSE_AB PRIMREC_option ◌⇒◌∣◌
  if_AB γ c f g b so sq w =
      bind_condition (to_b b) (λ q n. refl) (c i sq w) _ _ _ (λ u. tail_A (to_b b) (λ q n. refl) (f i so sq u) _ (λ so sq w. refl)) (λ u. refl)

  if_AC : (γ : Type 0) (c : condition traced) (f : type_a_statement traced) (g : type_c_statement traced γ) (b : γ → ℕ) (so : ω) (sq : φ) (w : List ℕ)
      → to_b b (IF_THEN_ELSE_AC traced c f g i so sq none w) ≡ branched (c i sq w) (λ u. to_a (f i so sq u)) (λ u. to_c b (g.0 i so sq u))
  unfolding IF_THEN_ELSE_AC PRIMREC_option ◌⇒◌∣◌
  if_AC γ c f g b so sq w =
      bind_condition (to_b b) (λ q n. refl) (c i sq w) _ _ _ (λ u. tail_A (to_b b) (λ q n. refl) (f i so sq u) _ (λ so sq w. refl))
      (λ u. tail_C (to_b b) (λ q n. refl) b (g.0 i so sq u) _ (λ so sq v w. refl))

  if_BC : (γ δ : Type 0) (c : condition traced) (f : type_b_statement traced γ) (g : type_c_statement traced δ) (m : γ ⊎ δ → ℕ) (so : ω) (sq : φ)
      (w : List ℕ)
      → to_b m (IF_THEN_ELSE_BC traced c f g i so sq none w)
      ≡ branched (c i sq w) (λ u. to_b (λ v. m (inl v)) (f i so sq none u)) (λ u. to_c (λ v. m (inr v)) (g.0 i so sq u))
  unfolding IF_THEN_ELSE_BC PRIMREC_option ◌⇒◌∣◌
  if_BC γ δ c f g m so sq w =
      bind_condition (to_b m) (λ q n. refl) (c i sq w) _ _ _
      (λ u. tail_B (to_b m) (λ q n. refl) (λ v. m (inl v)) (f i so sq none u) _ (λ so sq w. refl) (λ so sq v w. refl))
      (λ u. tail_C (to_b m) (λ q n. refl) (λ v. m (inr v)) (g.0 i so sq u) _ (λ so sq v w. refl))

  if_start : (x y : Class) (γ δ : Type 0) (c : condition traced) (f : Sem tracing x γ) (g : Sem tracing y δ)
      (a : γ → ℕ) (b : δ → ℕ) (so : ω) (sq : φ) (w : List ℕ)
      → starts (if_class x y) (if_waits x y γ δ) (if_sem tracing x y γ δ c f g) (λ v. ⊎_elim a b (if_part x y γ δ v)) i (run w so sq)
      ≡ branched (c i sq w) (λ u. starts x γ f a i (run u so sq)) (λ u. starts y δ g b i (run u so sq))
  unfolding if_class PRIMREC_option ◌⇒◌∣◌ IF_THEN_ELSE_AA IF_THEN_ELSE_BA IF_THEN_ELSE_BB IF_THEN_ELSE_CA IF_THEN_ELSE_CB IF_THEN_ELSE_CC
  if_start A A γ δ c f g a b so sq w = bind_condition to_a (λ q n. refl) (c i sq w) _ _ _ (λ u. refl) (λ u. refl)
  if_start A B γ δ c f g a b so sq w = if_AB δ c f g b so sq w
  if_start A C γ δ c f g a b so sq w = if_AC δ c f g b so sq w
  if_start B A γ δ c f g a b so sq w = if_AB γ (negate_condition traced c) g f a so sq w ∙ branched_not c i sq w _ _
  if_start B B γ δ c f g a b so sq w =
      bind_condition (to_b (⊎_elim a b)) (λ q n. refl) (c i sq w) _ _ _
      (λ u. tail_B (to_b (⊎_elim a b)) (λ q n. refl) a (f i so sq none u) _ (λ so sq w. refl) (λ so sq v w. refl))
      (λ u. tail_B (to_b (⊎_elim a b)) (λ q n. refl) b (g i so sq none u) _ (λ so sq w. refl) (λ so sq v w. refl))
  if_start B C γ δ c f g a b so sq w = if_BC γ δ c f g (⊎_elim a b) so sq w
  if_start C A γ δ c f g a b so sq w = if_AC γ (negate_condition traced c) g f a so sq w ∙ branched_not c i sq w _ _
  if_start C B γ δ c f g a b so sq w = if_BC δ γ (negate_condition traced c) g f (λ v. ⊎_elim a b (if_part C B γ δ v)) so sq w ∙ branched_not c i sq w _ _
  if_start C C γ δ c f g a b so sq w =
      bind_condition (to_c (⊎_elim a b)) (λ q n. refl) (c i sq w) _ _ _
      (λ u. tail_C (to_c (⊎_elim a b)) (λ q n. refl) a (f.0 i so sq u) _ (λ so sq v w. refl))
      (λ u. tail_C (to_c (⊎_elim a b)) (λ q n. refl) b (g.0 i so sq u) _ (λ so sq v w. refl))

  if_resume : (x y : Class) (γ δ : Type 0) (c : condition traced) (f : Sem tracing x γ) (g : Sem tracing y δ)
      (a : γ → ℕ) (b : δ → ℕ) (v : if_waits x y γ δ) (σ : Run)
      → resumes (if_class x y) (if_waits x y γ δ) (if_sem tracing x y γ δ c f g) (λ w. ⊎_elim a b (if_part x y γ δ w)) v i σ
      ≡ ⊎_elim (λ u. resumes x γ f a u i σ) (λ u. resumes y δ g b u i σ) (if_part x y γ δ v)
  unfolding if_class PRIMREC_option PRIMREC_sum IF_THEN_ELSE_AB IF_THEN_ELSE_AC IF_THEN_ELSE_BA IF_THEN_ELSE_BB IF_THEN_ELSE_BC IF_THEN_ELSE_CA
      IF_THEN_ELSE_CB IF_THEN_ELSE_CC
  if_resume A A γ δ c f g a b v σ = absurd v
  if_resume A B γ δ c f g a b v σ = refl
  if_resume A C γ δ c f g a b v σ = refl
  if_resume B A γ δ c f g a b v σ = refl
  if_resume B B γ δ c f g a b (inl v) σ = tail_B (to_b (⊎_elim a b)) (λ q n. refl) a (f i _ _ (some v) _) _ (λ so sq w. refl) (λ so sq u w. refl)
  if_resume B B γ δ c f g a b (inr v) σ = tail_B (to_b (⊎_elim a b)) (λ q n. refl) b (g i _ _ (some v) _) _ (λ so sq w. refl) (λ so sq u w. refl)
  if_resume B C γ δ c f g a b (inl v) σ = tail_B (to_b (⊎_elim a b)) (λ q n. refl) a (f i _ _ (some v) _) _ (λ so sq w. refl) (λ so sq u w. refl)
  if_resume B C γ δ c f g a b (inr v) σ = tail_B (to_b (⊎_elim a b)) (λ q n. refl) b (g.1 i _ _ v _) _ (λ so sq w. refl) (λ so sq u w. refl)
  if_resume C A γ δ c f g a b v σ = refl
  if_resume C B γ δ c f g a b (inl v) σ =
      tail_B (to_b (λ w. ⊎_elim a b (if_part C B γ δ w))) (λ q n. refl) b (g i _ _ (some v) _) _ (λ so sq w. refl) (λ so sq u w. refl)
  if_resume C B γ δ c f g a b (inr v) σ =
      tail_B (to_b (λ w. ⊎_elim a b (if_part C B γ δ w))) (λ q n. refl) a (f.1 i _ _ v _) _ (λ so sq w. refl) (λ so sq u w. refl)
  if_resume C C γ δ c f g a b (inl v) σ = tail_B (to_b (⊎_elim a b)) (λ q n. refl) a (f.1 i _ _ v _) _ (λ so sq w. refl) (λ so sq u w. refl)
  if_resume C C γ δ c f g a b (inr v) σ = tail_B (to_b (⊎_elim a b)) (λ q n. refl) b (g.1 i _ _ v _) _ (λ so sq w. refl) (λ so sq u w. refl)

  -- While loops and processes.

  while_start : (x : Class) → x ≡ C → (γ : Type 0) (c : condition traced) (f : Sem tracing x γ) (m : γ → ℕ) (so : ω) (sq : φ) (w : List ℕ)
      → to_b m (while_sem tracing x γ c f i so sq none w) ≡ branched (c i sq w) (λ u. starts x γ f m i (run u so sq)) (λ u. passed (run u so sq))
  unfolding WHILE_C PRIMREC_option ◌⇒◌∣◌
  while_start A e γ c f m so sq w = A_C e
  while_start B e γ c f m so sq w = B_C e
  while_start C e γ c f m so sq w =
      bind_condition (to_b m) (λ q n. refl) (c i sq w) _ _ _ (λ u. tail_C (to_b m) (λ q n. refl) m (f.0 i so sq u) _ (λ so sq v w. refl)) (λ u. refl)

  while_resume : (x : Class) → x ≡ C → (γ : Type 0) (c : condition traced) (f : Sem tracing x γ) (m : γ → ℕ) (v : γ) (σ : Run)
      → to_b m (while_sem tracing x γ c f i σ.memory.outputs σ.memory.variables (some v) σ.way)
      ≡ then (resumes x γ f m v i σ) (λ τ. to_b m (while_sem tracing x γ c f i τ.memory.outputs τ.memory.variables none τ.way))
  unfolding WHILE_C PRIMREC_option
  while_resume A e γ c f m v σ = A_C e
  while_resume B e γ c f m v σ = B_C e
  while_resume C e γ c f m v σ = bind_B (to_b m) (λ q n. refl) m (f.1 i _ _ v _) _ _ (λ so sq w. refl) (λ so sq u w. refl)

  close_none : (x : Class) → x ≡ C → (γ : Type 0) (f : Sem tracing x γ) (m : γ → ℕ) (σ : Run)
      → then (starts x γ f m i σ) (λ τ. starts x γ f m i τ) ≡ to_b m (close_sem tracing x γ f i σ.memory.outputs σ.memory.variables none σ.way)
  unfolding CLOSE_C PRIMREC_option
  close_none A e γ f m σ = A_C e
  close_none B e γ f m σ = B_C e
  close_none C e γ f m σ = sym (bind_C (to_b m) (λ q n. refl) m (f.0 i _ _ _) _ _ (λ so sq u w. refl))

  close_some : (x : Class) → x ≡ C → (γ : Type 0) (f : Sem tracing x γ) (m : γ → ℕ) (v : γ) (σ : Run)
      → then (resumes x γ f m v i σ) (λ τ. starts x γ f m i τ) ≡ to_b m (close_sem tracing x γ f i σ.memory.outputs σ.memory.variables (some v) σ.way)
  unfolding CLOSE_C PRIMREC_option
  close_some A e γ f m v σ = A_C e
  close_some B e γ f m v σ = B_C e
  close_some C e γ f m v σ =
      sym (bind_B (to_b m) (λ q n. refl) m (f.1 i _ _ v _) _ _ (λ so sq w. tail_C (to_b m) (λ q n. refl) m (f.0 i so sq w) _ (λ so sq u w. refl))
      (λ so sq u w. refl))

-- Every statement.

act_start : (a : Act) (n : ℕ) (i : ι) (σ : Run)
    → acted (perform a i σ.memory) n σ ≡ to_a (act_sem tracing a n i σ.memory.outputs σ.memory.variables σ.way)
unfolding acted perform bind act_sem performing and_then raised SIGNAL_ASSIGNMENT VARIABLE_ASSIGNMENT NULL_STATEMENT
act_start (output k e) n i σ = go (evaluate e i σ.memory.variables)
  where
    go : (v : Out ℤ) → acted (bind v (λ z. fine (record { outputs = set σ.memory.outputs k z; variables = σ.memory.variables }))) n σ
        ≡ to_a (and_then (and_then (raised n v (σ.way ++ (n ∷ []))) (λ z w. ends (set σ.memory.outputs k z) w)) (λ so w. ends (so, σ.memory.variables) w))
    go (fine z) = refl
    go (fault q) = refl
act_start (variable k e) n i σ = go (evaluate e i σ.memory.variables)
  where
    go : (v : Out ℤ) → acted (bind v (λ z. fine (record { outputs = σ.memory.outputs; variables = set σ.memory.variables k z }))) n σ
        ≡ to_a (and_then (and_then (raised n v (σ.way ++ (n ∷ []))) (λ z w. ends (set σ.memory.variables k z) w)) (λ sq w. ends (σ.memory.outputs, sq) w))
    go (fine z) = refl
    go (fault q) = refl
act_start null n i σ = refl

condition_tested : (e : Expr) (n : ℕ) (i : ι) (σ : Run) (f g f' g' : Run → Result) → ((τ : Run) → f τ ≡ f' τ) → ((τ : Run) → g τ ≡ g' τ)
    → tested (holds e i σ.memory) n σ f g
    ≡ branched (condition_sem tracing e n i σ.memory.variables σ.way)
    (λ w. f' (run w σ.memory.outputs σ.memory.variables)) (λ w. g' (run w σ.memory.outputs σ.memory.variables))
unfolding tested holds bind log condition_sem performing and_then raised
condition_tested e n i σ f g f' g' hf hg = go (evaluate e i σ.memory.variables)
  where
    pick_branch : (b : Bool) → tested (fine b) n σ f g
        ≡ branched (ends b (σ.way ++ (n ∷ []))) (λ w. f' (run w σ.memory.outputs σ.memory.variables))
        (λ w. g' (run w σ.memory.outputs σ.memory.variables))
    pick_branch true = hf _
    pick_branch false = hg _

    go : (v : Out ℤ) → tested (bind v (λ z. fine (is_one z))) n σ f g
        ≡ branched (and_then (raised n v (σ.way ++ (n ∷ []))) (λ z w. ends (is_one z) w))
        (λ w. f' (run w σ.memory.outputs σ.memory.variables)) (λ w. g' (run w σ.memory.outputs σ.memory.variables))
    go (fine z) = pick_branch (is_one z)
    go (fault q) = refl

-- A statement is started as the published equations start it.
pub same_start : (s : Stmt) → LoopsC s → (n : ℕ) (i : ι) (σ : Run) → start s n i σ ≡ starts (class_of s) (Waits s) (sem tracing s n) (number_of s n) i σ
unfolding start sem class_of LoopsC log wait_sem performing and_then «WAIT» NULL_STATEMENT
same_start (act a) g n i σ = act_start a n i σ
same_start wait g n i σ = refl
same_start (if_then e a) g n i σ =
    condition_tested e n i σ _ _ _ _ (λ τ. same_start a g (suc n) i τ) (λ τ. refl)
    ∙ sym (if_start i (class_of a) A (Waits a) ⊥ (condition_sem tracing e n) (sem tracing a (suc n)) (NULL_STATEMENT traced) (number_of a (suc n))
    (λ v. absurd v) _ _ _)
same_start (if_else e a b) g n i σ =
    condition_tested e n i σ _ _ _ _ (λ τ. same_start a g.0 (suc n) i τ) (λ τ. same_start b g.1 (suc n + size a) i τ)
    ∙ sym (if_start i (class_of a) (class_of b) (Waits a) (Waits b) (condition_sem tracing e n) (sem tracing a (suc n)) (sem tracing b (suc n + size a))
    (number_of a (suc n)) (number_of b (suc n + size a)) _ _ _)
same_start (while e b) g n i σ =
    condition_tested e n i σ _ _ _ _ (λ τ. same_start b g.1 (suc n) i τ) (λ τ. refl)
    ∙ sym (while_start i (class_of b) g.0 (Waits b) (condition_sem tracing e n) (sem tracing b (suc n)) (number_of b (suc n)) _ _ _)
same_start (seq a b) g n i σ =
    then_cong _ _ _ _ (same_start a g.0 n i σ) (λ τ. same_start b g.1 (n + size a) i τ)
    ∙ sym (seq_start i (class_of a) (class_of b) (Waits a) (Waits b) (sem tracing a n) (sem tracing b (n + size a)) (number_of a n) (number_of b (n + size a)) σ)

either_part : {γ δ : Type 0} (a : γ → ℕ) (b : δ → ℕ) (h k : ℕ → Bool) → ((v : γ) → h (a v) ≡ true) → ((v : δ) → k (b v) ≡ true)
    → (z : γ ⊎ δ) → (h (⊎_elim a b z) || k (⊎_elim a b z)) ≡ true
either_part a b h k p q (inl v) = or_left _ _ (p v)
either_part a b h k p q (inr v) = or_right (h (b v)) _ (q v)

-- the number of a wait is that of a wait
pub number_has : (s : Stmt) (n : ℕ) (v : Waits s) → has s n (number_of s n v) ≡ true
unfolding has
number_has (act a) n v = absurd v
number_has wait n v = eqb_same n
number_has (if_then e a) n v = go (if_part (class_of a) A (Waits a) ⊥ v) (number_has a (suc n))
  where
    go : (z : Waits a ⊎ ⊥) → ((v : Waits a) → has a (suc n) (number_of a (suc n) v) ≡ true)
        → has a (suc n) (⊎_elim (number_of a (suc n)) (λ v. absurd v) z) ≡ true
    go (inl v) h = h v
    go (inr v) h = absurd v
number_has (if_else e a b) n v =
    either_part (number_of a (suc n)) (number_of b (suc n + size a)) (has a (suc n)) (has b (suc n + size a))
    (number_has a (suc n)) (number_has b (suc n + size a)) (if_part (class_of a) (class_of b) (Waits a) (Waits b) v)
number_has (while e b) n v = number_has b (suc n) v
number_has (seq a b) n v =
    either_part (number_of a n) (number_of b (n + size a)) (has a n) (has b (n + size a))
    (number_has a n) (number_has b (n + size a)) (seq_part (class_of a) (class_of b) (Waits a) (Waits b) v)

-- a wait of the second part is no wait of the first
not_in_first : (a b : Stmt) (n : ℕ) (v : Waits b) → has a n (number_of b (n + size a) v) ≡ false
not_in_first a b n v = go (has a n (number_of b (n + size a) v)) refl
  where
    go : (d : Bool) → has a n (number_of b (n + size a) v) ≡ d → has a n (number_of b (n + size a) v) ≡ false
    go true e =
        let p = has_below a n _ e in
        let q = has_below b (n + size a) _ (number_has b (n + size a) v) in
        absurd (omega arith)
    go false e = e

-- the part with the wait is picked
part_picked : {γ δ : Type 0} (a : γ → ℕ) (b : δ → ℕ) (h : ℕ → Bool) (x y : ℕ → Result) (x' : γ → Result) (y' : δ → Result)
    → ((v : γ) → h (a v) ≡ true) → ((v : δ) → h (b v) ≡ false) → ((v : γ) → x (a v) ≡ x' v) → ((v : δ) → y (b v) ≡ y' v)
    → (z : γ ⊎ δ) → pick (h (⊎_elim a b z)) (x (⊎_elim a b z)) (y (⊎_elim a b z)) ≡ ⊎_elim x' y' z
unfolding pick
part_picked a b h x y x' y' t f p q (inl v) = rw (t v) (p v)
part_picked a b h x y x' y' t f p q (inr v) = rw (f v) (q v)

-- A statement is resumed at a wait as the published equations resume it.
pub same_resume : (s : Stmt) → LoopsC s → (n : ℕ) (i : ι) (v : Waits s) (σ : Run)
    → resume s n (number_of s n v) i σ ≡ resumes (class_of s) (Waits s) (sem tracing s n) (number_of s n) v i σ
unfolding resume sem class_of LoopsC wait_sem «WAIT»
same_resume (act a) g n i v σ = absurd v
same_resume wait g n i v σ = refl
same_resume (if_then e a) g n i v σ =
    go (if_part (class_of a) A (Waits a) ⊥ v) (λ u. same_resume a g (suc n) i u σ)
    ∙ sym (if_resume i (class_of a) A (Waits a) ⊥ (condition_sem tracing e n) (sem tracing a (suc n)) (NULL_STATEMENT traced) (number_of a (suc n))
    (λ u. absurd u) v σ)
  where
    go : (z : Waits a ⊎ ⊥)
        → ((u : Waits a) → resume a (suc n) (number_of a (suc n) u) i σ ≡ resumes (class_of a) (Waits a) (sem tracing a (suc n)) (number_of a (suc n)) u i σ)
        → resume a (suc n) (⊎_elim (number_of a (suc n)) (λ u. absurd u) z) i σ
        ≡ ⊎_elim (λ u. resumes (class_of a) (Waits a) (sem tracing a (suc n)) (number_of a (suc n)) u i σ) (λ u. passed σ) z
    go (inl u) h = h u
    go (inr u) h = absurd u
same_resume (if_else e a b) g n i v σ =
    part_picked (number_of a (suc n)) (number_of b (suc n + size a)) (has a (suc n)) (λ p. resume a (suc n) p i σ) (λ p. resume b (suc n + size a) p i σ) _ _
    (number_has a (suc n)) (not_in_first a b (suc n)) (λ u. same_resume a g.0 (suc n) i u σ) (λ u. same_resume b g.1 (suc n + size a) i u σ)
    (if_part (class_of a) (class_of b) (Waits a) (Waits b) v)
    ∙ sym (if_resume i (class_of a) (class_of b) (Waits a) (Waits b) (condition_sem tracing e n) (sem tracing a (suc n)) (sem tracing b (suc n + size a))
    (number_of a (suc n)) (number_of b (suc n + size a)) v σ)
same_resume (while e b) g n i v σ =
    then_cong _ _ _ _ (same_resume b g.1 (suc n) i v σ) (λ τ. same_start (while e b) g n i τ)
    ∙ sym (while_resume i (class_of b) g.0 (Waits b) (condition_sem tracing e n) (sem tracing b (suc n)) (number_of b (suc n)) v σ)
same_resume (seq a b) g n i v σ =
    part_picked (number_of a n) (number_of b (n + size a)) (has a n) (λ p. then (resume a n p i σ) (λ τ. start b (n + size a) i τ))
    (λ p. resume b (n + size a) p i σ) _ _
    (number_has a n) (not_in_first a b n)
    (λ u. then_cong _ _ _ _ (same_resume a g.0 n i u σ) (λ τ. same_start b g.1 (n + size a) i τ))
    (λ u. same_resume b g.1 (n + size a) i u σ) (seq_part (class_of a) (class_of b) (Waits a) (Waits b) v)
    ∙ sym (seq_resume i (class_of a) (class_of b) (Waits a) (Waits b) (sem tracing a n) (sem tracing b (n + size a)) (number_of a n) (number_of b (n + size a)) v σ)

-- One cycle is CLOSE_C of the body: place, outputs, variables and way, or the refusal's number and statement.
pub same_cycle : (s : Stmt) → LoopsC s → class_of s ≡ C → (ss : Option (Waits s)) (i : ι) (σ : Run)
    → cycle s (place_of s ss) i σ ≡ to_b (number_of s 0) (process tracing s i σ.memory.outputs σ.memory.variables ss σ.way)
unfolding cycle enter process
same_cycle s g c none i σ =
    then_cong _ _ _ _ (same_start s g 0 i σ) (λ τ. same_start s g 0 i τ) ∙ close_none i (class_of s) c (Waits s) (sem tracing s 0) (number_of s 0) σ
same_cycle s g c (some v) i σ =
    then_cong _ _ _ _ (same_resume s g 0 i v σ) (λ τ. same_start s g 0 i τ) ∙ close_some i (class_of s) c (Waits s) (sem tracing s 0) (number_of s 0) v σ
