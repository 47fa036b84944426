-- The meaning that document 000 gives to a statement: the published equations of B.3, picked by the classes of the parts (table 5.3). Assumes nothing.
use Rattle.std.proofs.Math.Option.{Option}
use Rattle.std.specs.Prelude.{List, [], ◌∷◌, ◌++◌, ℕ, suc, ◌+◌, set, ℤ}
use Rattle.spec_design.specs.Expression.{Expr, Out, fine, fault}
use Rattle.spec_design.specs.Statement.{Act, output, variable, null, Stmt, act, wait, if_then, if_else, while, seq, size, Class, A, B, C, seq_class, if_class, class_of}
use Rattle.spec_semantics.specs.Evaluation.{is_one, evaluate, exact_value}
use Rattle.spec_semantics.specs.Effects.{Monad, printed, Step, ends, stops, traced}
use Rattle.spec_semantics.specs.Waits.{seq_waits, if_waits, Waits}
use Rattle.spec_semantics.specs.Published.{ι, ω, φ, type_a_statement, type_b_statement, type_c_statement, condition, SIGNAL_ASSIGNMENT, VARIABLE_ASSIGNMENT, NULL_STATEMENT, «WAIT», SEQ_AA, SEQ_AB, SEQ_AC, SEQ_BA, SEQ_BB, SEQ_BC, SEQ_CA, SEQ_CB, SEQ_CC, IF_THEN_ELSE_AA, IF_THEN_ELSE_AB, IF_THEN_ELSE_AC, IF_THEN_ELSE_BA, IF_THEN_ELSE_BB, IF_THEN_ELSE_BC, IF_THEN_ELSE_CA, IF_THEN_ELSE_CB, IF_THEN_ELSE_CC, WHILE_C, CLOSE_C}

-- What performing the statement with the number n does, and an expression's value in that statement. Neither is part of the published equations.
pub record Interpretation : Type 1 where
  pub monad : Monad
  pub step : ℕ → monad.Of (Unit {0})
  pub value : ℕ → Expr → ι → φ → monad.Of ℤ

-- the printed equations over unbounded integers: no refusal, no way
abbrev pub exactly : Interpretation
exactly = record { monad = printed; step = λ n. tt; value = λ n e si sq. exact_value e si sq }

-- a refused operator refuses at its statement's number
unfoldable pub raised : {X : Type 0} → ℕ → Out X → List ℕ → Step X
raised n (fine x) w = ends x w
raised n (fault q) w = stops q n

-- with refusals and the way
abbrev pub tracing : Interpretation
tracing = record { monad = traced; step = λ n w. ends tt (w ++ (n ∷ [])); value = λ n e si sq. raised n (evaluate e si sq) }

module _ (I : Interpretation) where
  abbrev E : Monad
  E = I.monad

  -- the statement with the number n is performed
  unfoldable pub performing : {X : Type 0} → ℕ → E.Of X → E.Of X
  performing n v = E.bind (I.step n) (λ u. v)

  -- a statement's logical type, by its class (5.2)
  abbrev pub Sem : Class → Type 0 → Type 0
  Sem A γ = type_a_statement E
  Sem B γ = type_b_statement E γ
  Sem C γ = type_c_statement E γ

  -- table 5.3, sequence
  abbrev pub seq_sem : (x y : Class) (γ δ : Type 0) → Sem x γ → Sem y δ → Sem (seq_class x y) (seq_waits x y γ δ)
  unfolding seq_class
  seq_sem A A γ δ f g = SEQ_AA E f g
  seq_sem A B γ δ f g = SEQ_AB E f g
  seq_sem A C γ δ f g = SEQ_AC E f g
  seq_sem B A γ δ f g = SEQ_BA E f g
  seq_sem B B γ δ f g = SEQ_BB E f g
  seq_sem B C γ δ f g = SEQ_BC E f g
  seq_sem C A γ δ f g = SEQ_CA E f g
  seq_sem C B γ δ f g = SEQ_CB E f g
  seq_sem C C γ δ f g = SEQ_CC E f g

  -- table 5.3, if-then-else
  abbrev pub if_sem : (x y : Class) (γ δ : Type 0) → condition E → Sem x γ → Sem y δ → Sem (if_class x y) (if_waits x y γ δ)
  unfolding if_class
  if_sem A A γ δ c f g = IF_THEN_ELSE_AA E c f g
  if_sem A B γ δ c f g = IF_THEN_ELSE_AB E c f g
  if_sem A C γ δ c f g = IF_THEN_ELSE_AC E c f g
  if_sem B A γ δ c f g = IF_THEN_ELSE_BA E c f g
  if_sem B B γ δ c f g = IF_THEN_ELSE_BB E c f g
  if_sem B C γ δ c f g = IF_THEN_ELSE_BC E c f g
  if_sem C A γ δ c f g = IF_THEN_ELSE_CA E c f g
  if_sem C B γ δ c f g = IF_THEN_ELSE_CB E c f g
  if_sem C C γ δ c f g = IF_THEN_ELSE_CC E c f g

  -- table 5.3, while: only for a C body; any value stands for the others
  abbrev pub while_sem : (x : Class) (γ : Type 0) → condition E → Sem x γ → type_b_statement E γ
  while_sem A γ c f = λ si so sq ss. E.pure (so, sq, ss)
  while_sem B γ c f = λ si so sq ss. E.pure (so, sq, ss)
  while_sem C γ c f = WHILE_C E c f

  -- a process has a C body; any value stands for the others
  abbrev pub close_sem : (x : Class) (γ : Type 0) → Sem x γ → ι → ω → φ → Option γ → E.Of (ω × φ × Option γ)
  close_sem A γ f = λ si so sq ss. E.pure (so, sq, ss)
  close_sem B γ f = λ si so sq ss. E.pure (so, sq, ss)
  close_sem C γ f = CLOSE_C E f

  -- assignments to the k-th output or variable, and null, with the number n
  unfoldable pub act_sem : Act → ℕ → type_a_statement E
  act_sem (output k e) n si so sq = performing n (SIGNAL_ASSIGNMENT E (λ si so sq. E.bind (I.value n e si sq) (λ z. E.pure (set so k z))) si so sq)
  act_sem (variable k e) n si so sq = performing n (VARIABLE_ASSIGNMENT E (λ si sq. E.bind (I.value n e si sq) (λ z. E.pure (set sq k z))) si so sq)
  act_sem null n si so sq = performing n (NULL_STATEMENT E si so sq)

  -- a wait is performed when it is reached, not when it is resumed
  unfoldable pub wait_sem : ℕ → type_c_statement E (Unit {0})
  wait_sem n = (λ si so sq. performing n ((«WAIT» E).0 si so sq), («WAIT» E).1)

  -- the condition of the if or while with the number n
  unfoldable pub condition_sem : Expr → ℕ → condition E
  condition_sem e n si sq = performing n (E.bind (I.value n e si sq) (λ z. E.pure (is_one z)))

  -- the meaning of s, whose first number is n; a missing else is a null without a number
  unfoldable pub sem : (s : Stmt) → ℕ → Sem (class_of s) (Waits s)
  unfolding class_of
  sem (act a) n = act_sem a n
  sem wait n = wait_sem n
  sem (if_then e a) n = if_sem (class_of a) A (Waits a) ⊥ (condition_sem e n) (sem a (suc n)) (NULL_STATEMENT E)
  sem (if_else e a b) n = if_sem (class_of a) (class_of b) (Waits a) (Waits b) (condition_sem e n) (sem a (suc n)) (sem b (suc n + size a))
  sem (while e b) n = while_sem (class_of b) (Waits b) (condition_sem e n) (sem b (suc n))
  sem (seq a b) n = seq_sem (class_of a) (class_of b) (Waits a) (Waits b) (sem a n) (sem b (n + size a))

  -- one cycle of the process with the body s
  unfoldable pub process : (s : Stmt) → ι → ω → φ → Option (Waits s) → E.Of (ω × φ × Option (Waits s))
  process s = close_sem (class_of s) (Waits s) (sem s 0)
