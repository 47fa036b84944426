-- The set γ of a statement's waits as document 000 builds it (5.4), and the number of each. Assumes nothing.
use Rattle.std.specs.Prelude.{◌⊎◌, ℕ, suc, ◌+◌}
use Rattle.std.proofs.Common.{inl, inr, ⊎_elim}
use Rattle.spec_design.specs.Statement.{Stmt, act, wait, if_then, if_else, while, seq, size, Class, A, B, C, class_of}

-- the waits of a sequence, by the classes of its parts and their waits γ and δ: "the type of the compound statement becomes γ1 + γ2"
abbrev pub seq_waits : Class → Class → Type 0 → Type 0 → Type 0
seq_waits A A γ δ = ⊥
seq_waits A B γ δ = δ
seq_waits A C γ δ = δ
seq_waits B A γ δ = γ
seq_waits B B γ δ = γ ⊎ δ
seq_waits B C γ δ = γ ⊎ δ
seq_waits C A γ δ = γ
seq_waits C B γ δ = γ ⊎ δ
seq_waits C C γ δ = γ ⊎ δ

-- the part that a wait of a sequence is in
abbrev pub seq_part : (x y : Class) (γ δ : Type 0) → seq_waits x y γ δ → γ ⊎ δ
seq_part A A γ δ w = absurd w
seq_part A B γ δ w = inr w
seq_part A C γ δ w = inr w
seq_part B A γ δ w = inl w
seq_part B B γ δ w = w
seq_part B C γ δ w = w
seq_part C A γ δ w = inl w
seq_part C B γ δ w = w
seq_part C C γ δ w = w

-- the waits of an if: "deriving γ for an if-then-else structure is done in the same way"; IF_THEN_ELSE_CB exchanges the branches
abbrev pub if_waits : Class → Class → Type 0 → Type 0 → Type 0
if_waits A A γ δ = ⊥
if_waits A B γ δ = δ
if_waits A C γ δ = δ
if_waits B A γ δ = γ
if_waits B B γ δ = γ ⊎ δ
if_waits B C γ δ = γ ⊎ δ
if_waits C A γ δ = γ
if_waits C B γ δ = δ ⊎ γ
if_waits C C γ δ = γ ⊎ δ

-- the branch that a wait of an if is in
abbrev pub if_part : (x y : Class) (γ δ : Type 0) → if_waits x y γ δ → γ ⊎ δ
if_part A A γ δ w = absurd w
if_part A B γ δ w = inr w
if_part A C γ δ w = inr w
if_part B A γ δ w = inl w
if_part B B γ δ w = w
if_part B C γ δ w = w
if_part C A γ δ w = inl w
if_part C B γ δ w = ⊎_elim (λ d. inr d) (λ c. inl c) w
if_part C C γ δ w = w

-- the waits of a statement
abbrev pub Waits : Stmt → Type 0
Waits (act a) = ⊥
Waits wait = Unit {0}
Waits (if_then e a) = if_waits (class_of a) A (Waits a) ⊥
Waits (if_else e a b) = if_waits (class_of a) (class_of b) (Waits a) (Waits b)
Waits (while e b) = Waits b
Waits (seq a b) = seq_waits (class_of a) (class_of b) (Waits a) (Waits b)

-- the number of a wait of s, whose first number is n
abbrev pub number_of : (s : Stmt) → ℕ → Waits s → ℕ
number_of (act a) n w = absurd w
number_of wait n w = n
number_of (if_then e a) n w = ⊎_elim (number_of a (suc n)) (λ v. absurd v) (if_part (class_of a) A (Waits a) ⊥ w)
number_of (if_else e a b) n w = ⊎_elim (number_of a (suc n)) (number_of b (suc n + size a)) (if_part (class_of a) (class_of b) (Waits a) (Waits b) w)
number_of (while e b) n w = number_of b (suc n) w
number_of (seq a b) n w = ⊎_elim (number_of a n) (number_of b (n + size a)) (seq_part (class_of a) (class_of b) (Waits a) (Waits b) w)
