-- Laws of the state record as 49 numbers. Assumes nothing.
use Prim.Native.Nat.{ℕ, ◌≤◌}
use native.Mathlib.Omega.{arith}
use mathlib.Core.Path.{◌≡◌, sym, ap, ◌∙◌}
use mathlib.Core.List.{List, [], ◌∷◌, ◌++◌, append-nil}
use lib.ListN.{length, get_or, take, drop, set, drop_of_length-le, length-drop, length-set, length-append}
use lib.Seq.{take_at, drop_at, length-take-le}
use lib.IntN.{ℤ, pos}
use borrow.Rule.Slice.PartMut.{put_mid}
use Rattle.base_answers.specs.declared.State.{State}
use Rattle.spec_interface.specs.CInterface.{place_of_c, state_of_c, c_of_state}

-- a state record, field by field
pub state_of : (c : List ℤ) (p : ℕ) (o v : List ℤ) → p ≡ place_of_c (get_or c 0 (pos 0)) → o ≡ take 16 (drop 1 c) → v ≡ take 32 (drop 17 c)
    → ◌≡◌ {A = State} (record { place = p; outputs = o; variables = v }) (state_of_c c)
state_of c p o v e f g = rw (e, f, g)

-- The 49 numbers z, of which the first is written, then the outputs, then the variables.

pub outputs_room : (z : List ℤ) (x : ℤ) → length z ≡ 49 → 17 ≤ length (set z 0 x)
outputs_room z x n = omega (arith, length-set z 0 x)

pub outputs_length : (z o : List ℤ) (x : ℤ) → length z ≡ 49 → length o ≡ 16 → length o ≡ length (take 16 (drop 1 (set z 0 x)))
outputs_length [] o x n m = absurd (omega arith)
outputs_length (h ∷ t) o x n m = m ∙ sym (length-take-le 16 t (omega arith))

written_length : (t o : List ℤ) → length t ≡ 48 → length o ≡ 16 → length (o ++ drop 16 t) ≡ 48
written_length t o n m = omega (arith, length-append o (drop 16 t), length-drop 16 t)

pub variables_room : (z o : List ℤ) (x : ℤ) → length z ≡ 49 → length o ≡ 16 → 49 ≤ length (put_mid 1 16 (set z 0 x) o)
variables_room [] o x n m = absurd (omega arith)
variables_room (h ∷ t) o x n m = omega (arith, written_length t o (omega arith) m)

pub variables_length : (z o v : List ℤ) (x : ℤ) → length z ≡ 49 → length o ≡ 16 → length v ≡ 32
    → length v ≡ length (take 32 (drop 17 (put_mid 1 16 (set z 0 x) o)))
variables_length [] o v x n m k = absurd (omega arith)
variables_length (h ∷ t) o v x n m k =
    let w = written_length t o (omega arith) m in
    k ∙ sym (length-take-le 32 (drop 16 (o ++ drop 16 t)) (omega (arith, length-drop 16 (o ++ drop 16 t))))

all_written : (z o v : List ℤ) (x : ℤ) → length z ≡ 49 → length o ≡ 16 → put_mid 17 32 (put_mid 1 16 (set z 0 x) o) v ≡ x ∷ o ++ v
all_written [] o v x n m = absurd (omega arith)
all_written (h ∷ t) o v x n m =
    let d = drop 16 t in
    let e : drop 32 d ≡ [] = drop_of_length-le d {i = 32} (omega (arith, length-drop 16 t)) in
    ap (λ l. x ∷ l)
    (ap (λ l. l ++ (v ++ drop 32 (drop 16 (o ++ d)))) (take_at o d 16 m)
    ∙ ap (λ l. o ++ (v ++ drop 32 l)) (drop_at o d 16 m)
    ∙ ap (λ l. o ++ (v ++ l)) e ∙ ap (λ l. o ++ l) (append-nil v))

-- the 49 numbers are those of the state record
pub c_of_state_lem : (s : State) (z o v : List ℤ) (x : ℤ) → length z ≡ 49 → length s.outputs ≡ 16 → x ≡ pos s.place → o ≡ s.outputs → v ≡ s.variables
    → put_mid 17 32 (put_mid 1 16 (set z 0 x) o) v ≡ c_of_state s
c_of_state_lem s z o v x n m e f g = all_written z o v x n (ap length f ∙ m) ∙ rw (e, f, g)
