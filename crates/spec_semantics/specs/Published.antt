-- Document 000, appendix B.3: one definition for each published equation, under its published name; input si, output state so, variable state sq,
-- control state ss. The monad E is what statements are composed with: without effects the equations are the printed ones. Assumes nothing.
--
-- mk_ and dest_ are left out. A printed `let x = e in` is a line `x ← e` of a do block, a printed result is handed on by `pure`, any is `some`,
-- INL and INR are `inl` and `inr`, and `b ⇒ x | y` is `b ⇒ x ∣ y`, with the bar also where the print leaves it out.
--
-- Where the print is at odds with 5.3 to 5.5, the sentence there decides:
-- SIGNAL_ASSIGNMENT, printed `f((si, so, sq), sq)`: "The new output state is determined by g and the variable state v is left unchanged." (5.3)
-- SEQ_AB, printed so that resuming in the second part repeats the first, and SEQ_AC, printed with pgb inside the first function's result: "If the
-- evaluation starts from one of the internal wait statements of y, then this result becomes the result of the entire sequence." (5.4)
-- CLOSE_C is printed with the old output state as the output row; document 01 has "the output row gets all outputs, what the cycle assigned
-- included". So it hands on the new state alone here, and CLOSE_C_printed is the print.
use Rattle.std.specs.Prelude.{Bool, true, false, not, ◌⊎◌, List, ℤ}
use Rattle.std.proofs.Math.Option.{Option, none, some}
use Rattle.std.proofs.Common.{inl, inr}
use Rattle.spec_semantics.specs.Effects.{Monad}

-- "Let ι be the type of the input of the process, ω be the type of the output of the process and φ be the type of the variables of the process."
abbrev pub ι : Type 0
ι = List ℤ

-- the output, in declared order
abbrev pub ω : Type 0
ω = List ℤ

-- the variables, in declared order
abbrev pub φ : Type 0
φ = List ℤ

-- `PRIMREC_option ss x f` is x at none and f w at any w
unfoldable pub PRIMREC_option : {γ X : Type 0} → Option γ → X → (γ → X) → X
PRIMREC_option none x f = x
PRIMREC_option (some w) x f = f w

-- `PRIMREC_sum ss f g` is f w at INL w and g w at INR w
unfoldable pub PRIMREC_sum : {γ δ X : Type 0} → γ ⊎ δ → (γ → X) → (δ → X) → X
PRIMREC_sum (inl w) f g = f w
PRIMREC_sum (inr w) f g = g w

-- `b ⇒ x ∣ y` is x where b is true, else y
infix 2 ◌⇒◌∣◌
unfoldable pub ◌⇒◌∣◌ : {X : Type 0} → Bool → X → X → X
true ⇒ x ∣ y = x
false ⇒ x ∣ y = y

module _ (E : Monad) where
  -- a value with no effect
  abbrev pure : {X : Type 0} → X → E.Of X
  pure x = E.pure x

  -- what a line `x ← e` of a do block stands for
  infixl 10 ◌>>=◌
  abbrev ◌>>=◌ : {X Y : Type 0} → E.Of X → (X → E.Of Y) → E.Of Y
  v >>= k = E.bind v k

  -- "functions mapping the input, the old output and the old variable state to the current output and the new variable state" (5.2)
  abbrev pub type_a_statement : Type 0
  type_a_statement = ι → ω → φ → E.Of (ω × φ)

  -- with the control state: "the extra element none is used to indicate the beginning", and in the result "the end of the statement" (5.2)
  abbrev pub type_b_statement : Type 0 → Type 0
  type_b_statement γ = ι → ω → φ → Option γ → E.Of (ω × φ × Option γ)

  -- "the function is split into a pair of two functions", from the beginning and from a wait (5.2)
  abbrev pub type_c_statement : Type 0 → Type 0
  type_c_statement γ = (ι → ω → φ → E.Of (ω × φ × γ)) × (ι → ω → φ → γ → E.Of (ω × φ × Option γ))

  -- "predicates on input signals and variable states" (5.2)
  abbrev pub condition : Type 0
  condition = ι → φ → E.Of Bool

  -- the condition holds where cond does not
  unfoldable pub negate_condition : condition → condition
  negate_condition cond si sq = do
    b ← cond si sq
    pure (not b)

  -- Basic statements (5.3).

  -- corrected, see above
  unfoldable pub SIGNAL_ASSIGNMENT : (ι → ω → φ → E.Of ω) → type_a_statement
  SIGNAL_ASSIGNMENT f si so sq = do
    so ← f si so sq
    pure (so, sq)

  unfoldable pub VARIABLE_ASSIGNMENT : (ι → φ → E.Of φ) → type_a_statement
  VARIABLE_ASSIGNMENT f si so sq = do
    sq ← f si sq
    pure (so, sq)

  unfoldable pub NULL_STATEMENT : type_a_statement
  NULL_STATEMENT si so sq = pure (so, sq)

  unfoldable pub «WAIT» : type_c_statement (Unit {0})
  «WAIT» = (λ si so sq. pure (so, sq, tt), λ si so sq ss. pure (so, sq, none))

  -- Sequences (5.4), by the types of their parts.

  unfoldable pub SEQ_AA : type_a_statement → type_a_statement → type_a_statement
  SEQ_AA pf pg si so sq = do
    (so, sq) ← pf si so sq
    (so, sq) ← pg si so sq
    pure (so, sq)

  -- corrected, see above
  unfoldable pub SEQ_AB : {γ : Type 0} → type_a_statement → type_b_statement γ → type_b_statement γ
  SEQ_AB pf pg si so sq ssopt =
      PRIMREC_option ssopt
      (do
        (so, sq) ← pf si so sq
        (so, sq, ssopt) ← pg si so sq none
        pure (so, sq, ssopt))
      (λ ss2. pg si so sq (some ss2))

  -- corrected, see above
  unfoldable pub SEQ_AC : {γ : Type 0} → type_a_statement → type_c_statement γ → type_c_statement γ
  SEQ_AC pf (pga, pgb) = (
    λ si so sq. (do
      (so, sq) ← pf si so sq
      (so, sq, ss) ← pga si so sq
      pure (so, sq, ss)),
    pgb,
  )

  unfoldable pub SEQ_BA : {γ : Type 0} → type_b_statement γ → type_a_statement → type_b_statement γ
  SEQ_BA pf pg si so sq ss = do
    (so, sq, ss) ← pf si so sq ss
    PRIMREC_option ss
        (do
          (so, sq) ← pg si so sq
          pure (so, sq, ss))
        (λ dummy. pure (so, sq, ss))

  unfoldable pub SEQ_BB : {γ δ : Type 0} → type_b_statement γ → type_b_statement δ → type_b_statement (γ ⊎ δ)
  SEQ_BB pf pg si so sq ss12opt =
      PRIMREC_option ss12opt
      (do
        (so, sq, ss1opt) ← pf si so sq none
        PRIMREC_option ss1opt
            (do
              (so, sq, ss2opt) ← pg si so sq none
              pure (so, sq, PRIMREC_option ss2opt none (λ ss2. some (inr ss2))))
            (λ ss1. pure (so, sq, some (inl ss1))))
      (λ ss12. PRIMREC_sum ss12
      (λ ss1. do
        (so, sq, ss1opt) ← pf si so sq (some ss1)
        PRIMREC_option ss1opt
            (do
              (so, sq, ss2opt) ← pg si so sq none
              pure (so, sq, PRIMREC_option ss2opt none (λ ss2. some (inr ss2))))
            (λ ss1. pure (so, sq, some (inl ss1))))
      (λ ss2. do
        (so, sq, ss2opt) ← pg si so sq (some ss2)
        pure (so, sq, PRIMREC_option ss2opt none (λ ss2. some (inr ss2)))))

  unfoldable pub SEQ_BC : {γ δ : Type 0} → type_b_statement γ → type_c_statement δ → type_c_statement (γ ⊎ δ)
  SEQ_BC pf (pga, pgb) = (
    λ si so sq. (do
      (so, sq, ss1opt) ← pf si so sq none
      PRIMREC_option ss1opt
          (do
            (so, sq, ss2) ← pga si so sq
            pure (so, sq, inr ss2))
          (λ ss1. pure (so, sq, inl ss1))),
    λ si so sq ss12. PRIMREC_sum ss12
        (λ ss1. do
          (so, sq, ss1opt) ← pf si so sq (some ss1)
          PRIMREC_option ss1opt
              (do
                (so, sq, ss2) ← pga si so sq
                pure (so, sq, some (inr ss2)))
              (λ ss1. pure (so, sq, some (inl ss1))))
        (λ ss2. do
          (so, sq, ss2opt) ← pgb si so sq ss2
          pure (so, sq, PRIMREC_option ss2opt none (λ ss2. some (inr ss2)))),
  )

  unfoldable pub SEQ_CA : {γ : Type 0} → type_c_statement γ → type_a_statement → type_c_statement γ
  SEQ_CA (pfa, pfb) pg = (
    pfa,
    λ si so sq ss. do
      (so, sq, ssopt) ← pfb si so sq ss
      PRIMREC_option ssopt
          (do
            (so, sq) ← pg si so sq
            pure (so, sq, none))
          (λ ss. pure (so, sq, ssopt)),
  )

  unfoldable pub SEQ_CB : {γ δ : Type 0} → type_c_statement γ → type_b_statement δ → type_c_statement (γ ⊎ δ)
  SEQ_CB (pfa, pfb) pg = (
    λ si so sq. (do
      (so, sq, ss1) ← pfa si so sq
      pure (so, sq, inl ss1)),
    λ si so sq ss12. PRIMREC_sum ss12
        (λ ss1. do
          (so, sq, ss1opt) ← pfb si so sq ss1
          PRIMREC_option ss1opt
              (do
                (so, sq, ss2opt) ← pg si so sq none
                pure (so, sq, PRIMREC_option ss2opt none (λ ss2. some (inr ss2))))
              (λ ss1. pure (so, sq, some (inl ss1))))
        (λ ss2. do
          (so, sq, ss2opt) ← pg si so sq (some ss2)
          pure (so, sq, PRIMREC_option ss2opt none (λ ss2. some (inr ss2)))),
  )

  unfoldable pub SEQ_CC : {γ δ : Type 0} → type_c_statement γ → type_c_statement δ → type_c_statement (γ ⊎ δ)
  SEQ_CC (pfa, pfb) (pga, pgb) = (
    λ si so sq. (do
      (so, sq, ss1) ← pfa si so sq
      pure (so, sq, inl ss1)),
    λ si so sq ss12. PRIMREC_sum ss12
        (λ ss1. do
          (so, sq, ss1opt) ← pfb si so sq ss1
          PRIMREC_option ss1opt
              (do
                (so, sq, ss2) ← pga si so sq
                pure (so, sq, some (inr ss2)))
              (λ ss1. pure (so, sq, some (inl ss1))))
        (λ ss2. do
          (so, sq, ss2opt) ← pgb si so sq ss2
          pure (so, sq, PRIMREC_option ss2opt none (λ ss2. some (inr ss2)))),
  )

  -- If-then-else structures (5.4), by the types of their branches.

  unfoldable pub IF_THEN_ELSE_AA : condition → type_a_statement → type_a_statement → type_a_statement
  IF_THEN_ELSE_AA cond pf pg si so sq = do
    b ← cond si sq
    b ⇒ pf si so sq ∣ pg si so sq

  unfoldable pub IF_THEN_ELSE_AB : {γ : Type 0} → condition → type_a_statement → type_b_statement γ → type_b_statement γ
  IF_THEN_ELSE_AB cond pf pg si so sq ss =
      PRIMREC_option ss
      (do
        b ← cond si sq
        b ⇒ (do
          (so, sq) ← pf si so sq
          pure (so, sq, none)) ∣ pg si so sq none)
      (λ ss. pg si so sq (some ss))

  unfoldable pub IF_THEN_ELSE_AC : {γ : Type 0} → condition → type_a_statement → type_c_statement γ → type_b_statement γ
  IF_THEN_ELSE_AC cond pf (pga, pgb) si so sq ssopt =
      PRIMREC_option ssopt
      (do
        b ← cond si sq
        b ⇒ (do
          (so, sq) ← pf si so sq
          pure (so, sq, none)) ∣ (do
            (so, sq, ss) ← pga si so sq
            pure (so, sq, some ss)))
      (λ ss. pgb si so sq ss)

  unfoldable pub IF_THEN_ELSE_BA : {γ : Type 0} → condition → type_b_statement γ → type_a_statement → type_b_statement γ
  IF_THEN_ELSE_BA cond a b = IF_THEN_ELSE_AB (negate_condition cond) b a

  unfoldable pub IF_THEN_ELSE_BB : {γ δ : Type 0} → condition → type_b_statement γ → type_b_statement δ → type_b_statement (γ ⊎ δ)
  IF_THEN_ELSE_BB cond pf pg si so sq ss12opt =
      PRIMREC_option ss12opt
      (do
        b ← cond si sq
        b ⇒ (do
          (so, sq, ss1opt) ← pf si so sq none
          pure (so, sq, PRIMREC_option ss1opt none (λ ss1. some (inl ss1)))) ∣ (do
            (so, sq, ss2opt) ← pg si so sq none
            pure (so, sq, PRIMREC_option ss2opt none (λ ss2. some (inr ss2)))))
      (λ ss12. PRIMREC_sum ss12
      (λ ss1. do
        (so, sq, ss1opt) ← pf si so sq (some ss1)
        pure (so, sq, PRIMREC_option ss1opt none (λ ss1. some (inl ss1))))
      (λ ss2. do
        (so, sq, ss2opt) ← pg si so sq (some ss2)
        pure (so, sq, PRIMREC_option ss2opt none (λ ss2. some (inr ss2)))))

  unfoldable pub IF_THEN_ELSE_BC : {γ δ : Type 0} → condition → type_b_statement γ → type_c_statement δ → type_b_statement (γ ⊎ δ)
  IF_THEN_ELSE_BC cond pf (pga, pgb) si so sq ss12opt =
      PRIMREC_option ss12opt
      (do
        b ← cond si sq
        b ⇒ (do
          (so, sq, ss1opt) ← pf si so sq none
          pure (so, sq, PRIMREC_option ss1opt none (λ ss1. some (inl ss1)))) ∣ (do
            (so, sq, ss2) ← pga si so sq
            pure (so, sq, some (inr ss2))))
      (λ ss12. PRIMREC_sum ss12
      (λ ss1. do
        (so, sq, ss1opt) ← pf si so sq (some ss1)
        pure (so, sq, PRIMREC_option ss1opt none (λ ss1. some (inl ss1))))
      (λ ss2. do
        (so, sq, ss2opt) ← pgb si so sq ss2
        pure (so, sq, PRIMREC_option ss2opt none (λ ss2. some (inr ss2)))))

  unfoldable pub IF_THEN_ELSE_CA : {γ : Type 0} → condition → type_c_statement γ → type_a_statement → type_b_statement γ
  IF_THEN_ELSE_CA cond a b = IF_THEN_ELSE_AC (negate_condition cond) b a

  unfoldable pub IF_THEN_ELSE_CB : {γ δ : Type 0} → condition → type_c_statement γ → type_b_statement δ → type_b_statement (δ ⊎ γ)
  IF_THEN_ELSE_CB cond a b = IF_THEN_ELSE_BC (negate_condition cond) b a

  unfoldable pub IF_THEN_ELSE_CC : {γ δ : Type 0} → condition → type_c_statement γ → type_c_statement δ → type_c_statement (γ ⊎ δ)
  IF_THEN_ELSE_CC cond (pfa, pfb) (pga, pgb) = (
    λ si so sq. (do
      b ← cond si sq
      b ⇒ (do
        (so, sq, ss1) ← pfa si so sq
        pure (so, sq, inl ss1)) ∣ (do
          (so, sq, ss2) ← pga si so sq
          pure (so, sq, inr ss2))),
    λ si so sq ss12. PRIMREC_sum ss12
        (λ ss1. do
          (so, sq, ss1opt) ← pfb si so sq ss1
          pure (so, sq, PRIMREC_option ss1opt none (λ ss1. some (inl ss1))))
        (λ ss2. do
          (so, sq, ss2opt) ← pgb si so sq ss2
          pure (so, sq, PRIMREC_option ss2opt none (λ ss2. some (inr ss2)))),
  )

  -- While loops (5.4).

  unfoldable pub WHILE_C : {γ : Type 0} → condition → type_c_statement γ → type_b_statement γ
  WHILE_C conds (pfa, pfb) si so sq ssopt =
      PRIMREC_option ssopt
      (do
        b ← conds si sq
        b ⇒ (do
          (so, sq, ss) ← pfa si so sq
          pure (so, sq, some ss)) ∣ pure (so, sq, none))
      (λ ss. do
        (so, sq, ssopt) ← pfb si so sq ss
        PRIMREC_option ssopt
            (do
              b ← conds si sq
              b ⇒ (do
                (so, sq, ss) ← pfa si so sq
                pure (so, sq, some ss)) ∣ pure (so, sq, none))
            (λ ss. pure (so, sq, ssopt)))

  -- Processes (5.5). CLOSE_A and PROCESS_A are no part of the product.

  -- without the output row, see above
  unfoldable pub CLOSE_C : {γ : Type 0} → type_c_statement γ → ι → ω → φ → Option γ → E.Of (ω × φ × Option γ)
  CLOSE_C (pfa, pfb) si so sq ssopt =
      PRIMREC_option ssopt
      (do
        (so, sq, ss) ← pfa si so sq
        pure (so, sq, some ss))
      (λ ss. do
        (so, sq, ssopt) ← pfb si so sq ss
        PRIMREC_option ssopt
            (do
              (so, sq, ss) ← pfa si so sq
              pure (so, sq, some ss))
            (λ ss. pure (so, sq, some ss)))

  -- as printed: the output row is the old output state so'
  unfoldable pub CLOSE_C_printed : {γ : Type 0} → type_c_statement γ → ι → ω → φ → Option γ → E.Of (ω × (ω × φ) × Option γ)
  CLOSE_C_printed (pfa, pfb) si so' sq ssopt =
      PRIMREC_option ssopt
      (do
        (so, sq, ss) ← pfa si so' sq
        pure (so', (so, sq), some ss))
      (λ ss. do
        (so, sq, ssopt) ← pfb si so' sq ss
        PRIMREC_option ssopt
            (do
              (so, sq, ss) ← pfa si so sq
              pure (so', (so, sq), some ss))
            (λ ss. pure (so', (so, sq), some ss)))
