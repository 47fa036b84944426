-- The meaning of a statement is parametric in what it is composed with: a relation that pure and bind keep, and that holds of the steps and the
-- values of two interpretations, holds of the meanings they give to every statement. One law for each equation, then induction. Assumes nothing.
use Prim.Native.Nat.{ℕ, suc, ◌+◌}
use mathlib.Core.Bool.{Bool, true, false}
use mathlib.Core.Option.{Option, none, some}
use mathlib.Core.Logic.{◌⊎◌, inl, inr}
use Rattle.spec_design.specs.Expression.{Expr}
use Rattle.spec_design.specs.Statement.{Act, output, variable, null, Stmt, act, wait, if_then, if_else, while, seq, size, Class, A, B, C, seq_class, if_class}
use Rattle.spec_design.specs.Statement.{class_of}
use Rattle.spec_semantics.specs.Published.{ι, ω, φ, PRIMREC_option, PRIMREC_sum, ◌⇒◌∣◌, type_a_statement, type_b_statement, type_c_statement}
use Rattle.spec_semantics.specs.Published.{condition, negate_condition, SIGNAL_ASSIGNMENT, VARIABLE_ASSIGNMENT, NULL_STATEMENT, «WAIT», SEQ_AA}
use Rattle.spec_semantics.specs.Published.{SEQ_AB, SEQ_AC, SEQ_BA, SEQ_BB, SEQ_BC, SEQ_CA, SEQ_CB, SEQ_CC, IF_THEN_ELSE_AA}
use Rattle.spec_semantics.specs.Published.{IF_THEN_ELSE_AB, IF_THEN_ELSE_AC, IF_THEN_ELSE_BA, IF_THEN_ELSE_BB, IF_THEN_ELSE_BC}
use Rattle.spec_semantics.specs.Published.{IF_THEN_ELSE_CA, IF_THEN_ELSE_CB, IF_THEN_ELSE_CC, WHILE_C, CLOSE_C}
use Rattle.spec_semantics.specs.Waits.{seq_waits, if_waits, Waits}
use Rattle.spec_semantics.specs.Denotation.{Interpretation, performing, Sem, seq_sem, if_sem, while_sem, close_sem, act_sem, wait_sem, condition_sem, sem}
use Rattle.spec_semantics.specs.Denotation.{process}

-- a relation between the values of two interpretations that pure, bind, the steps and the values of expressions keep
pub record Related (I J : Interpretation) : Type 1 where
  pub holds : {X : Type 0} → I.monad.Of X → J.monad.Of X → Type 0
  pub pure_holds : {X : Type 0} (x : X) → holds (I.monad.pure x) (J.monad.pure x)
  pub bind_holds : {X Y : Type 0} (v : I.monad.Of X) (v' : J.monad.Of X) (k : X → I.monad.Of Y) (k' : X → J.monad.Of Y)
      → holds v v' → ((x : X) → holds (k x) (k' x)) → holds (I.monad.bind v k) (J.monad.bind v' k')
  pub step_holds : (n : ℕ) → holds (I.step n) (J.step n)
  pub value_holds : (n : ℕ) (e : Expr) (si : ι) (sq : φ) → holds (I.value n e si sq) (J.value n e si sq)

module _ (I J : Interpretation) (Q : Related I J) where
  abbrev R : {X : Type 0} → I.monad.Of X → J.monad.Of X → Type 0
  R v v' = Q.holds v v'

  pure_R : {X : Type 0} (x : X) → R (I.monad.pure x) (J.monad.pure x)
  pure_R x = Q.pure_holds x

  bind_R : {X Y : Type 0} (v : I.monad.Of X) (v' : J.monad.Of X) (k : X → I.monad.Of Y) (k' : X → J.monad.Of Y)
      → R v v' → ((x : X) → R (k x) (k' x)) → R (I.monad.bind v k) (J.monad.bind v' k')
  bind_R v v' k k' h g = Q.bind_holds v v' k k' h g

  abbrev RelA : type_a_statement I.monad → type_a_statement J.monad → Type 0
  RelA f f' = (si : ι) (so : ω) (sq : φ) → R (f si so sq) (f' si so sq)

  abbrev RelB : (γ : Type 0) → type_b_statement I.monad γ → type_b_statement J.monad γ → Type 0
  RelB γ f f' = (si : ι) (so : ω) (sq : φ) (ss : Option γ) → R (f si so sq ss) (f' si so sq ss)

  abbrev RelC : (γ : Type 0) → type_c_statement I.monad γ → type_c_statement J.monad γ → Type 0
  RelC γ f f' = ((si : ι) (so : ω) (sq : φ) → R (f.0 si so sq) (f'.0 si so sq)) × ((si : ι) (so : ω) (sq : φ) (ss : γ) → R (f.1 si so sq ss)
      (f'.1 si so sq ss))

  abbrev RelCondition : condition I.monad → condition J.monad → Type 0
  RelCondition c c' = (si : ι) (sq : φ) → R (c si sq) (c' si sq)

  abbrev Rel : (x : Class) (γ : Type 0) → Sem I x γ → Sem J x γ → Type 0
  Rel A γ f f' = RelA f f'
  Rel B γ f f' = RelB γ f f'
  Rel C γ f f' = RelC γ f f'

  option_R : {γ X : Type 0} (ss : Option γ) (x : I.monad.Of X) (x' : J.monad.Of X) (f : γ → I.monad.Of X) (f' : γ → J.monad.Of X)
      → R x x' → ((v : γ) → R (f v) (f' v)) → R (PRIMREC_option ss x f) (PRIMREC_option ss x' f')
  unfolding PRIMREC_option
  option_R none x x' f f' h k = h
  option_R (some v) x x' f f' h k = k v

  sum_R : {γ δ X : Type 0} (ss : γ ⊎ δ) (f : γ → I.monad.Of X) (f' : γ → J.monad.Of X) (g : δ → I.monad.Of X) (g' : δ → J.monad.Of X)
      → ((v : γ) → R (f v) (f' v)) → ((v : δ) → R (g v) (g' v)) → R (PRIMREC_sum ss f g) (PRIMREC_sum ss f' g')
  unfolding PRIMREC_sum
  sum_R (inl v) f f' g g' h k = h v
  sum_R (inr v) f f' g g' h k = k v

  branch_R : {X : Type 0} (b : Bool) (x y : I.monad.Of X) (x' y' : J.monad.Of X) → R x x' → R y y' → R (b ⇒ x ∣ y) (b ⇒ x' ∣ y')
  unfolding ◌⇒◌∣◌
  branch_R true x y x' y' h k = h
  branch_R false x y x' y' h k = k

  negate_R : (c : condition I.monad) (c' : condition J.monad) → RelCondition c c'
      → RelCondition (negate_condition I.monad c) (negate_condition J.monad c')
  unfolding negate_condition
  negate_R c c' h si sq = bind_R _ _ _ _ (h si sq) (λ b. pure_R _)

  seq_R : (x y : Class) (γ δ : Type 0) (f : Sem I x γ) (f' : Sem J x γ) (g : Sem I y δ) (g' : Sem J y δ) → Rel x γ f f' → Rel y δ g g'
      → Rel (seq_class x y) (seq_waits x y γ δ) (seq_sem I x y γ δ f g) (seq_sem J x y γ δ f' g')
  unfolding seq_class SEQ_AA SEQ_AB SEQ_AC SEQ_BA SEQ_BB SEQ_BC SEQ_CA SEQ_CB SEQ_CC
  seq_R A A γ δ f f' g g' hf hg = λ si so sq. bind_R _ _ _ _ (hf si so sq) (λ p. bind_R _ _ _ _ (hg si p.0 p.1) (λ p. pure_R _))
  seq_R A B γ δ f f' g g' hf hg = λ si so sq ss.
      option_R ss _ _ _ _ (bind_R _ _ _ _ (hf si so sq) (λ p. bind_R _ _ _ _ (hg si p.0 p.1 none) (λ p. pure_R _))) (λ v. hg si so sq (some v))
  seq_R A C γ δ f f' g g' hf hg =
      (λ si so sq. bind_R _ _ _ _ (hf si so sq) (λ p. bind_R _ _ _ _ (hg.0 si p.0 p.1) (λ p. pure_R _)), hg.1)
  seq_R B A γ δ f f' g g' hf hg = λ si so sq ss.
      bind_R _ _ _ _ (hf si so sq ss) (λ p. option_R p.2 _ _ _ _ (bind_R _ _ _ _ (hg si p.0 p.1) (λ q. pure_R _)) (λ v. pure_R _))
  seq_R B B γ δ f f' g g' hf hg = λ si so sq ss.
      option_R ss _ _ _ _
      (bind_R _ _ _ _ (hf si so sq none) (λ p. option_R p.2 _ _ _ _ (bind_R _ _ _ _ (hg si p.0 p.1 none) (λ q. pure_R _)) (λ v. pure_R _)))
      (λ v. sum_R v _ _ _ _
      (λ u. bind_R _ _ _ _ (hf si so sq (some u)) (λ p. option_R p.2 _ _ _ _ (bind_R _ _ _ _ (hg si p.0 p.1 none) (λ q. pure_R _)) (λ v. pure_R _)))
      (λ u. bind_R _ _ _ _ (hg si so sq (some u)) (λ p. pure_R _)))
  seq_R B C γ δ f f' g g' hf hg = (
    λ si so sq. bind_R _ _ _ _ (hf si so sq none) (λ p. option_R p.2 _ _ _ _ (bind_R _ _ _ _ (hg.0 si p.0 p.1) (λ q. pure_R _)) (λ v. pure_R _)),
    λ si so sq ss. sum_R ss _ _ _ _
        (λ u. bind_R _ _ _ _ (hf si so sq (some u)) (λ p. option_R p.2 _ _ _ _ (bind_R _ _ _ _ (hg.0 si p.0 p.1) (λ q. pure_R _)) (λ v. pure_R _)))
        (λ u. bind_R _ _ _ _ (hg.1 si so sq u) (λ p. pure_R _)),
  )
  seq_R C A γ δ f f' g g' hf hg = (
    hf.0,
    λ si so sq ss. bind_R _ _ _ _ (hf.1 si so sq ss) (λ p. option_R p.2 _ _ _ _ (bind_R _ _ _ _ (hg si p.0 p.1) (λ q. pure_R _)) (λ v. pure_R _)),
  )
  seq_R C B γ δ f f' g g' hf hg = (
    λ si so sq. bind_R _ _ _ _ (hf.0 si so sq) (λ p. pure_R _),
    λ si so sq ss. sum_R ss _ _ _ _
        (λ u. bind_R _ _ _ _ (hf.1 si so sq u) (λ p. option_R p.2 _ _ _ _ (bind_R _ _ _ _ (hg si p.0 p.1 none) (λ q. pure_R _)) (λ v. pure_R _)))
        (λ u. bind_R _ _ _ _ (hg si so sq (some u)) (λ p. pure_R _)),
  )
  seq_R C C γ δ f f' g g' hf hg = (
    λ si so sq. bind_R _ _ _ _ (hf.0 si so sq) (λ p. pure_R _),
    λ si so sq ss. sum_R ss _ _ _ _
        (λ u. bind_R _ _ _ _ (hf.1 si so sq u) (λ p. option_R p.2 _ _ _ _ (bind_R _ _ _ _ (hg.0 si p.0 p.1) (λ q. pure_R _)) (λ v. pure_R _)))
        (λ u. bind_R _ _ _ _ (hg.1 si so sq u) (λ p. pure_R _)),
  )

  if_AB_R : (γ : Type 0) (c : condition I.monad) (c' : condition J.monad) (f : type_a_statement I.monad) (f' : type_a_statement J.monad)
      (g : type_b_statement I.monad γ) (g' : type_b_statement J.monad γ) → RelCondition c c' → RelA f f' → RelB γ g g'
      → RelB γ (IF_THEN_ELSE_AB I.monad c f g) (IF_THEN_ELSE_AB J.monad c' f' g')
  unfolding IF_THEN_ELSE_AB
  if_AB_R γ c c' f f' g g' hc hf hg si so sq ss =
      option_R ss _ _ _ _ (bind_R _ _ _ _ (hc si sq) (λ b. branch_R b _ _ _ _ (bind_R _ _ _ _ (hf si so sq) (λ p. pure_R _)) (hg si so sq none)))
      (λ v. hg si so sq (some v))

  if_AC_R : (γ : Type 0) (c : condition I.monad) (c' : condition J.monad) (f : type_a_statement I.monad) (f' : type_a_statement J.monad)
      (g : type_c_statement I.monad γ) (g' : type_c_statement J.monad γ) → RelCondition c c' → RelA f f' → RelC γ g g'
      → RelB γ (IF_THEN_ELSE_AC I.monad c f g) (IF_THEN_ELSE_AC J.monad c' f' g')
  unfolding IF_THEN_ELSE_AC
  if_AC_R γ c c' f f' g g' hc hf hg si so sq ss =
      option_R ss _ _ _ _
      (bind_R _ _ _ _ (hc si sq) (λ b. branch_R b _ _ _ _ (bind_R _ _ _ _ (hf si so sq) (λ p. pure_R _)) (bind_R _ _ _ _ (hg.0 si so sq) (λ p. pure_R _))))
      (λ v. hg.1 si so sq v)

  if_BC_R : (γ δ : Type 0) (c : condition I.monad) (c' : condition J.monad) (f : type_b_statement I.monad γ) (f' : type_b_statement J.monad γ)
      (g : type_c_statement I.monad δ) (g' : type_c_statement J.monad δ) → RelCondition c c' → RelB γ f f' → RelC δ g g'
      → RelB (γ ⊎ δ) (IF_THEN_ELSE_BC I.monad c f g) (IF_THEN_ELSE_BC J.monad c' f' g')
  unfolding IF_THEN_ELSE_BC
  if_BC_R γ δ c c' f f' g g' hc hf hg si so sq ss =
      option_R ss _ _ _ _
      (bind_R _ _ _ _ (hc si sq) (λ b. branch_R b _ _ _ _ (bind_R _ _ _ _ (hf si so sq none) (λ p. pure_R _))
      (bind_R _ _ _ _ (hg.0 si so sq) (λ p. pure_R _))))
      (λ v. sum_R v _ _ _ _ (λ u. bind_R _ _ _ _ (hf si so sq (some u)) (λ p. pure_R _)) (λ u. bind_R _ _ _ _ (hg.1 si so sq u) (λ p. pure_R _)))

  if_R : (x y : Class) (γ δ : Type 0) (c : condition I.monad) (c' : condition J.monad) (f : Sem I x γ) (f' : Sem J x γ) (g : Sem I y δ) (g' : Sem J y δ)
      → RelCondition c c' → Rel x γ f f' → Rel y δ g g' → Rel (if_class x y) (if_waits x y γ δ) (if_sem I x y γ δ c f g) (if_sem J x y γ δ c' f' g')
  unfolding if_class IF_THEN_ELSE_AA IF_THEN_ELSE_BA IF_THEN_ELSE_BB IF_THEN_ELSE_CA IF_THEN_ELSE_CB IF_THEN_ELSE_CC
  if_R A A γ δ c c' f f' g g' hc hf hg = λ si so sq. bind_R _ _ _ _ (hc si sq) (λ b. branch_R b _ _ _ _ (hf si so sq) (hg si so sq))
  if_R A B γ δ c c' f f' g g' hc hf hg = if_AB_R δ c c' f f' g g' hc hf hg
  if_R A C γ δ c c' f f' g g' hc hf hg = if_AC_R δ c c' f f' g g' hc hf hg
  if_R B A γ δ c c' f f' g g' hc hf hg = if_AB_R γ _ _ g g' f f' (negate_R c c' hc) hg hf
  if_R B B γ δ c c' f f' g g' hc hf hg = λ si so sq ss.
      option_R ss _ _ _ _
      (bind_R _ _ _ _ (hc si sq) (λ b. branch_R b _ _ _ _ (bind_R _ _ _ _ (hf si so sq none) (λ p. pure_R _))
      (bind_R _ _ _ _ (hg si so sq none) (λ p. pure_R _))))
      (λ v. sum_R v _ _ _ _ (λ u. bind_R _ _ _ _ (hf si so sq (some u)) (λ p. pure_R _)) (λ u. bind_R _ _ _ _ (hg si so sq (some u)) (λ p. pure_R _)))
  if_R B C γ δ c c' f f' g g' hc hf hg = if_BC_R γ δ c c' f f' g g' hc hf hg
  if_R C A γ δ c c' f f' g g' hc hf hg = if_AC_R γ _ _ g g' f f' (negate_R c c' hc) hg hf
  if_R C B γ δ c c' f f' g g' hc hf hg = if_BC_R δ γ _ _ g g' f f' (negate_R c c' hc) hg hf
  if_R C C γ δ c c' f f' g g' hc hf hg = (
    λ si so sq. bind_R _ _ _ _ (hc si sq) (λ b. branch_R b _ _ _ _ (bind_R _ _ _ _ (hf.0 si so sq) (λ p. pure_R _))
        (bind_R _ _ _ _ (hg.0 si so sq) (λ p. pure_R _))),
    λ si so sq ss. sum_R ss _ _ _ _ (λ u. bind_R _ _ _ _ (hf.1 si so sq u) (λ p. pure_R _)) (λ u. bind_R _ _ _ _ (hg.1 si so sq u) (λ p. pure_R _)),
  )

  while_R : (x : Class) (γ : Type 0) (c : condition I.monad) (c' : condition J.monad) (f : Sem I x γ) (f' : Sem J x γ)
      → RelCondition c c' → Rel x γ f f' → RelB γ (while_sem I x γ c f) (while_sem J x γ c' f')
  unfolding WHILE_C
  while_R A γ c c' f f' hc hf = λ si so sq ss. pure_R _
  while_R B γ c c' f f' hc hf = λ si so sq ss. pure_R _
  while_R C γ c c' f f' hc hf = λ si so sq ss.
      option_R ss _ _ _ _ (test si so sq) (λ v. bind_R _ _ _ _ (hf.1 si so sq v) (λ p. option_R p.2 _ _ _ _ (test si p.0 p.1) (λ u. pure_R _)))
    where
      test : (si : ι) (so : ω) (sq : φ)
          → R {X = ω × φ × Option γ} (I.monad.bind (c si sq)
          (λ b. b ⇒ I.monad.bind (f.0 si so sq) (λ p. I.monad.pure (p.0, p.1, some p.2)) ∣ I.monad.pure (so, sq, none)))
          (J.monad.bind (c' si sq) (λ b. b ⇒ J.monad.bind (f'.0 si so sq) (λ p. J.monad.pure (p.0, p.1, some p.2)) ∣ J.monad.pure (so, sq, none)))
      test si so sq = bind_R _ _ _ _ (hc si sq) (λ b. branch_R b _ _ _ _ (bind_R _ _ _ _ (hf.0 si so sq) (λ p. pure_R _)) (pure_R _))

  close_R : (x : Class) (γ : Type 0) (f : Sem I x γ) (f' : Sem J x γ) → Rel x γ f f' → RelB γ (close_sem I x γ f) (close_sem J x γ f')
  unfolding CLOSE_C
  close_R A γ f f' hf = λ si so sq ss. pure_R _
  close_R B γ f f' hf = λ si so sq ss. pure_R _
  close_R C γ f f' hf = λ si so sq ss.
      option_R ss _ _ _ _ (bind_R _ _ _ _ (hf.0 si so sq) (λ p. pure_R _))
      (λ v. bind_R _ _ _ _ (hf.1 si so sq v) (λ p. option_R p.2 _ _ _ _ (bind_R _ _ _ _ (hf.0 si p.0 p.1) (λ q. pure_R _)) (λ u. pure_R _)))

  performing_R : {X : Type 0} (n : ℕ) (v : I.monad.Of X) (v' : J.monad.Of X) → R v v' → R (performing I n v) (performing J n v')
  unfolding performing
  performing_R n v v' h = bind_R _ _ _ _ (Q.step_holds n) (λ u. h)

  act_R : (a : Act) (n : ℕ) → RelA (act_sem I a n) (act_sem J a n)
  unfolding act_sem SIGNAL_ASSIGNMENT VARIABLE_ASSIGNMENT NULL_STATEMENT
  act_R (output k e) n si so sq = performing_R n _ _ (bind_R _ _ _ _ (bind_R _ _ _ _ (Q.value_holds n e si sq) (λ z. pure_R _)) (λ p. pure_R _))
  act_R (variable k e) n si so sq = performing_R n _ _ (bind_R _ _ _ _ (bind_R _ _ _ _ (Q.value_holds n e si sq) (λ z. pure_R _)) (λ p. pure_R _))
  act_R null n si so sq = performing_R n _ _ (pure_R _)

  condition_R : (e : Expr) (n : ℕ) → RelCondition (condition_sem I e n) (condition_sem J e n)
  unfolding condition_sem
  condition_R e n si sq = performing_R n _ _ (bind_R _ _ _ _ (Q.value_holds n e si sq) (λ z. pure_R _))

  -- The two meanings of a statement are related.
  pub sem_R : (s : Stmt) (n : ℕ) → Rel (class_of s) (Waits s) (sem I s n) (sem J s n)
  unfolding sem class_of wait_sem «WAIT» NULL_STATEMENT
  sem_R (act a) n = act_R a n
  sem_R wait n = (λ si so sq. performing_R n _ _ (pure_R _), λ si so sq ss. pure_R _)
  sem_R (if_then e a) n = if_R (class_of a) A (Waits a) ⊥ _ _ _ _ _ _ (condition_R e n) (sem_R a (suc n)) (λ si so sq. pure_R _)
  sem_R (if_else e a b) n = if_R (class_of a) (class_of b) (Waits a) (Waits b) _ _ _ _ _ _ (condition_R e n) (sem_R a (suc n)) (sem_R b (suc n + size a))
  sem_R (while e b) n = while_R (class_of b) (Waits b) _ _ _ _ (condition_R e n) (sem_R b (suc n))
  sem_R (seq a b) n = seq_R (class_of a) (class_of b) (Waits a) (Waits b) _ _ _ _ (sem_R a n) (sem_R b (n + size a))

  -- The two cycles of a process are related.
  pub process_R : (s : Stmt) → RelB (Waits s) (process I s) (process J s)
  unfolding process
  process_R s = close_R (class_of s) (Waits s) _ _ (sem_R s 0)
