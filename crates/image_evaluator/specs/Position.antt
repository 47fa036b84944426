-- Code bytes by position: the operation at a byte, and the operations run on a stack that has room for so many values (document 01, "Image,
-- form 1"). For any machine, so that types are checked and values computed by one definition. Assumes nothing.
use Rattle.std.specs.Prelude.{cond, List, [], ◌∷◌, ℕ, zero, suc, ◌+◌, length, get_or, ltb, leb, eqb}
use Rattle.std.proofs.Math.Option.{Option, none, some, map}
use Rattle.spec_design.specs.Expression.{Leaf, int, bit, input, variable, Out, fine, fault}
use Rattle.spec_format.specs.Words.{word4_at}
use Rattle.spec_semantics.specs.Twos.{signed32}
use Rattle.spec_format.specs.Code.{Operation, push, apply1, apply2, bit_of, operator, Machine}

-- "1 to 64 operations", and so many values on the stack
abbrev pub ROOM : ℕ
ROOM = 64

-- "1 integer (4 bytes)": the literal whose operation starts at the byte k
abbrev pub integer_at : List ℕ → ℕ → Option Leaf
integer_at s k = cond (leb (k + 5) (length s)) (some (int (signed32 (word4_at s (k + 1))))) none

-- "2 std_logic (1 byte)"
abbrev pub bit_at : List ℕ → ℕ → Option Leaf
bit_at s k = cond (leb (k + 2) (length s)) (map bit (bit_of (get_or s (k + 1) 0))) none

-- "3 input, 4 variable (1-byte index)"
abbrev pub name_at : (ℕ → Leaf) → List ℕ → ℕ → Option Leaf
name_at f s k = cond (leb (k + 2) (length s)) (some (f (get_or s (k + 1) 0))) none

-- a literal or a name as an operation of w bytes
abbrev pub pushing : ℕ → Option Leaf → Option (Operation × ℕ)
pushing w o = map (λ l. (push l, w)) o

-- the operation that starts at the byte k, with the number of its bytes; none where there is no operation
unfoldable pub fetch_at : List ℕ → ℕ → Option (Operation × ℕ)
fetch_at s k =
    cond (eqb (get_or s k 0) 1) (pushing 5 (integer_at s k)) (cond (eqb (get_or s k 0) 2) (pushing 2 (bit_at s k))
    (cond (eqb (get_or s k 0) 3) (pushing 2 (name_at input s k)) (cond (eqb (get_or s k 0) 4) (pushing 2 (name_at variable s k))
    (map (λ i. (i, 1)) (operator (get_or s k 0))))))

-- after an operation: go on at a byte with a stack, its top first, or stop with a refusal's number
pub data Next (X : Type 0) : Type 0 where
  go : ℕ → List X → Next X
  stop : ℕ → Next X

-- a value, if there is one, goes on the stack; the byte k follows
abbrev pub pushed : {X : Type 0} → Out X → ℕ → List X → Next X
pushed (fine x) k st = go k (x ∷ st)
pushed (fault q) k st = stop q

-- a value goes on a stack that has room for m
abbrev pub pushed_within : {X : Type 0} → ℕ → Out X → ℕ → List X → Next X
pushed_within m o k st = cond (ltb (length st) m) (pushed o k st) (stop 13)

-- an operation on a stack that has room for m values; the byte k follows
abbrev pub applied : {X : Type 0} → Machine X → ℕ → Operation → ℕ → List X → Next X
applied M m (push l) k st = pushed_within m (M.of_leaf l) k st
applied M m (apply1 o) k [] = stop 13
applied M m (apply1 o) k (x ∷ st) = pushed (M.of_unary o x) k st
applied M m (apply2 o) k [] = stop 13
applied M m (apply2 o) k (y ∷ []) = stop 13
applied M m (apply2 o) k (y ∷ x ∷ st) = pushed (M.of_binary o x y) k st

-- the operation fetched at the byte k; 13 where there is none
abbrev pub next_of : {X : Type 0} → Machine X → ℕ → Option (Operation × ℕ) → ℕ → List X → Next X
next_of M m none k st = stop 13
next_of M m (some p) k st = applied M m p.0 (k + p.1) st

-- what follows an operation: the rest from where it goes on, or its refusal
abbrev pub resume : {X : Type 0} → Next X → (ℕ → List X → Out X) → Out X
resume (go k st) f = f k st
resume (stop q) f = fault q

-- "It must leave one value"
abbrev pub finish : {X : Type 0} → List X → Out X
finish [] = fault 13
finish (x ∷ []) = fine x
finish (x ∷ y ∷ st) = fault 13

-- at most n operations from the byte k on, over a stack that has room for m values
unfoldable pub run_at : {X : Type 0} → Machine X → ℕ → ℕ → List ℕ → ℕ → List X → Out X
run_at M m zero s k st = cond (ltb k (length s)) (fault 13) (finish st)
run_at M m (suc n) s k st = cond (ltb k (length s)) (resume (next_of M m (fetch_at s k) k st) (λ j u. run_at M m n s j u)) (finish st)
