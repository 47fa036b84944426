-- A stack in two arrays: one value more, one or two fewer, and answers put on it. By induction on the depth. Assumes nothing.
use Prim.Native.Nat.{ℕ, zero, suc, ◌+◌, ◌-◌, ◌≤◌, ◌<◌}
use mathlib.Core.Path.{◌≡◌, refl, sym, ap, ◌∙◌}
use mathlib.Core.Option.{Option}
use mathlib.Core.List.{List, ◌∷◌}
use native.Mathlib.Numerals.{add-one}
use native.Mathlib.Omega.{arith}
use native.Mathlib.Decide.{dec_lt}
use borrow.Author.Tests.{lt-ltb, le-ltb}
use lib.ListN.{length, get_or, set, length-set}
use lib.Seq.{get_or-set_same, get_or-set_other}
use lib.IntN.{ℤ, pos}
use mir.Syntax.{w32}
use mir.Val.{SFits, to_z, of_z}
use mir.Facts.{to_z-of_z}
use Rattle.spec_design.specs.Types.{ExprTy}
use Rattle.spec_design.specs.Expression.{Unary, Binary, Out, fine, fault}
use Rattle.base_codes.specs.Types.{tag_of}
use Rattle.base_codes.proofs.TypeLaws.{tag_type}
use Rattle.std.specs.Prelude.{Result, Ok, Err, IsOk}
use Rattle.base_codes.specs.declared.fault.Fault.{Fault}
use Rattle.base_codes.specs.Fault.{number_of}
use Rattle.image_evaluator.specs.declared.Progress.{Progress}
use Rattle.base_operators.specs.Operators.{Applied}
use Rattle.image_evaluator.specs.Position.{ROOM, Next, go, stop, pushed, pushed_within, finish}
use Rattle.image_evaluator.specs.Value.{Cell, found, evaluated_of}
use Rattle.image_evaluator.specs.Operators.{unary_of, binary_of, unary_next, binary_next}
use Rattle.image_evaluator.specs.Stack.{type_or, type_on, cells_of, Room, Says}
use Rattle.image_evaluator.specs.declared.Found.{Found}

pub cells_length : (a : List ℤ) (t : List ℕ) (n : ℕ) → length (cells_of a t n) ≡ n
unfolding cells_of
cells_length a t zero = refl
cells_length a t (suc n) = ap suc (cells_length a t n)

-- what is written above leaves the values below
cells_above : (a : List ℤ) (t : List ℕ) (n : ℕ) (v : ℤ) (u m : ℕ) → m ≤ n → cells_of (set a n v) (set t n u) m ≡ cells_of a t m
unfolding cells_of
cells_above a t n v u zero h = refl
cells_above a t n v u (suc m) h =
    rw (get_or-set_other a n m v (pos 0) (λ q. omega arith), get_or-set_other t n m u 0 (λ q. omega arith), cells_above a t n v u m (omega arith))

cells_push : (a : List ℤ) (t : List ℕ) (n : ℕ) (v : ℤ) (u : ℕ) → n < length a → n < length t
    → cells_of (set a n v) (set t n u) (n + 1) ≡ (type_on u, v) ∷ cells_of a t n
unfolding cells_of
cells_push a t n v u h k = rw (add-one, cells_above a t n v u n (omega arith), get_or-set_same a n v (pos 0) h, get_or-set_same t n u 0 k)

-- a transition that says one thing says what equals it
pub saying : {a : List ℤ} {t : List ℕ} {r : Result Progress Fault} {m n : Next Cell} → n ≡ m → Says a t r m → Says a t r n
saying e s = rw e s

-- a tag and its type
tag_on : (u : ExprTy) → type_on (tag_of u) ≡ u
tag_on u = ap (λ o. type_or o) (tag_type u)

-- tags in use stay numbers of types
kinds_push : (t : List ℕ) (i u : ℕ) → i < length t → u ≡ tag_of (type_on u) → ((k : ℕ) → k < i → get_or t k 0 ≡ tag_of (type_on (get_or t k 0)))
    → (k : ℕ) → k < i + 1 → get_or (set t i u) k 0 ≡ tag_of (type_on (get_or (set t i u) k 0))
kinds_push t i u h e f k l = go (dec_lt k i)
  where
    go : Dec (k < i) → get_or (set t i u) k 0 ≡ tag_of (type_on (get_or (set t i u) k 0))
    go (yes m) = rw (get_or-set_other t i k u 0 (λ q. omega arith)) (f k m)
    go (no m) = let z : k ≡ i = omega arith in rw (z, get_or-set_same t i u 0 h) e

-- a value put at element i
put_value : (a : List ℤ) (t : List ℕ) (i : ℕ) (v : ℤ) (u at : ℕ) (w : ExprTy) (z : ℤ) → u ≡ tag_of w → v ≡ z → Room a t i → i < ROOM
    → Says (set a i v) (set t i u) (Ok (record { depth = i + 1; at = at })) (go at ((w, z) ∷ cells_of a t i))
put_value a t i v u at w z p q m l =
    let y : type_on u ≡ w = ap type_on p ∙ tag_on w in
    record {
      room =
          record {
            numbers = length-set a i _ ∙ m.numbers;
            tags = length-set t i u ∙ m.tags;
            depth = omega arith;
            kinds = kinds_push t i u (omega (arith, m.tags)) (p ∙ sym (ap tag_of y)) m.kinds;
          };
      says = rw (cells_push a t i v u (omega (arith, m.numbers)) (omega (arith, m.tags)), y, q);
    }

-- an answer for an outcome, put on the stack
put : (a : List ℤ) (t : List ℕ) (i : ℕ) (v : ℤ) (u at : ℕ) (o : Out Cell) → found u v ≡ evaluated_of o → Room a t i → i < ROOM
    → Says (set a i v) (set t i u) (Ok (record { depth = i + 1; at = at })) (pushed o at (cells_of a t i))
put a t i v u at (fine (w, z)) q m l =
    let e : ◌≡◌ {A = Found} (record { kind = u; value = v }) (record { kind = tag_of w; value = z }) = cc in
    put_value a t i v u at w z (ap (λ (r : Found). r.kind) e) (ap (λ (r : Found). r.value) e) m l
put a t i v u at (fault p) q m l = absurd (let z : ◌≡◌ {A = ℕ} 0 1 = cc in omega arith)

-- the number through a local
pub kept : (a : List ℤ) (t : List ℕ) (i : ℕ) (v : ℤ) (u at : ℕ) (o : Out Cell) → found u v ≡ evaluated_of o → SFits w32 v → Room a t i → i < ROOM
    → Says (set a i (to_z w32 (of_z w32 v))) (set t i u) (Ok (record { depth = i + 1; at = at })) (pushed o at (cells_of a t i))
kept a t i v u at o q f m l = rw (to_z-of_z f) (put a t i v u at o q m l)

-- a stop changes nothing
pub stopped : (a : List ℤ) (t : List ℕ) (n : ℕ) (q : Fault) {o : Next Cell} → Room a t n → stop (number_of q) ≡ o → Says a t (Err q) o
stopped a t n q m e = record { room = record { numbers = m.numbers; tags = m.tags; depth = omega arith; kinds = λ k l. absurd (omega arith) }; says = e }

pub fault_pushed : (q at : ℕ) (o : Out Cell) (st : List Cell) → fault q ≡ evaluated_of o → stop q ≡ pushed o at st
fault_pushed q at (fine x) st e = absurd (let z : ◌≡◌ {A = ℕ} 0 1 = cc in omega arith)
fault_pushed q at (fault p) st e = let z : q ≡ p = cc in rw z

-- what an operator gives, as a value of the type with the number t
abbrev pub valued_of : ℕ → Out ℤ → Out Found
valued_of t (fine z) = found t z
valued_of t (fault q) = fault q

-- an operator that gives w, applied at element i; with its type's number u that is the outcome o
pub went : {b : List ℤ} {r : Result Unit Fault} {n : Next Cell} (w : Out ℤ) (a : List ℤ) (t : List ℕ) (i u at : ℕ) (o : Out Cell) → n ≡ pushed o at (cells_of a t i)
    → valued_of u w ≡ evaluated_of o → Applied w a i b r → IsOk r → Room a t i → i < ROOM → Says b (set t i u) (Ok (record { depth = i + 1; at = at })) n
went w a t i u at o h q p e m l = let v = p.value e in saying h (rw v.2 (put a t i v.0 u at o (rw v.1 at q) m l))

pub halted : {b : List ℤ} {r : Result Unit Fault} {n : Next Cell} (f : Fault) (w : Out ℤ) (a : List ℤ) (t : List ℕ) (i u at : ℕ) (o : Out Cell) → n ≡ pushed o at (cells_of a t i)
    → valued_of u w ≡ evaluated_of o → Applied w a i b r → r ≡ Err f → Room a t i → Says b t (Err f) n
halted f w a t i u at o h q p e m =
    let v = p.refused f e in
    saying h (rw v.1 (stopped a t i f m (fault_pushed (number_of f) at o (cells_of a t i) (rw v.0 at q))))

-- arrays of which nothing is in use, whatever they hold
pub room_empty : {a : List ℤ} {t : List ℕ} → length a ≡ ROOM → length t ≡ ROOM → Room a t 0
room_empty n t = record { numbers = n; tags = t; depth = omega arith; kinds = λ k l. absurd (omega arith) }

-- with fewer values in use
pub room_less : {a : List ℤ} {t : List ℕ} (n m : ℕ) → m ≤ n → Room a t n → Room a t m
room_less n m h r = record { numbers = r.numbers; tags = r.tags; depth = omega (arith, r.depth); kinds = λ k l. r.kinds k (omega arith) }

pub push_full : (a : List ℤ) (t : List ℕ) (n at : ℕ) (o : Out Cell) → 64 ≤ n → stop 13 ≡ pushed_within ROOM o at (cells_of a t n)
push_full a t n at o h = rw (cells_length a t n, le-ltb n 64 h)

pub push_room : (a : List ℤ) (t : List ℕ) (n at : ℕ) (o : Out Cell) → n < 64 → pushed_within ROOM o at (cells_of a t n) ≡ pushed o at (cells_of a t n)
push_room a t n at o h = rw (cells_length a t n, lt-ltb n 64 h)

-- operators on too few values, and on enough
pub unary_short : (a : List ℤ) (t : List ℕ) (n at : ℕ) (o : Option Unary) → n < 1 → stop 13 ≡ unary_next o at (cells_of a t n)
unfolding cells_of
unary_short a t zero at o h = refl
unary_short a t (suc n) at o h = absurd (omega arith)

pub binary_short : (a : List ℤ) (t : List ℕ) (n at : ℕ) (o : Option Binary) → n ≤ 1 → stop 13 ≡ binary_next o at (cells_of a t n)
unfolding cells_of
binary_short a t zero at o h = refl
binary_short a t (suc zero) at o h = refl
binary_short a t (suc (suc n)) at o h = absurd (omega arith)

pub unary_more : (a : List ℤ) (t : List ℕ) (n at : ℕ) (o : Option Unary) → 1 ≤ n
    → unary_next o at (cells_of a t n) ≡ pushed (unary_of o (type_on (get_or t (n - 1) 0), get_or a (n - 1) (pos 0))) at (cells_of a t (n - 1))
unfolding cells_of
unary_more a t zero at o h = absurd (omega arith)
unary_more a t (suc n) at o h = let e : suc n - 1 ≡ n = omega arith in rw e

pub binary_more : (a : List ℤ) (t : List ℕ) (n at : ℕ) (o : Option Binary) → 2 ≤ n
    → binary_next o at (cells_of a t n)
    ≡ pushed (binary_of o (type_on (get_or t (n - 1 - 1) 0), get_or a (n - 1 - 1) (pos 0)) (type_on (get_or t (n - 1) 0), get_or a (n - 1) (pos 0)))
    at (cells_of a t (n - 1 - 1))
unfolding cells_of
binary_more a t zero at o h = absurd (omega arith)
binary_more a t (suc zero) at o h = absurd (omega arith)
binary_more a t (suc (suc n)) at o h =
    let d : suc (suc n) - 1 - 1 ≡ n = omega arith in
    let e : suc (suc n) - 1 ≡ suc n = omega arith in
    rw (d, e)

-- the value that is left
pub finish_one : (a : List ℤ) (t : List ℕ) (n : ℕ) → n ≡ 1 → finish (cells_of a t n) ≡ fine (type_on (get_or t 0 0), get_or a 0 (pos 0))
unfolding cells_of
finish_one a t n e = rw e

pub finish_other : (a : List ℤ) (t : List ℕ) (n : ℕ) → (n ≡ 1 → ⊥) → finish (cells_of a t n) ≡ fault 13
unfolding cells_of
finish_other a t zero h = refl
finish_other a t (suc zero) h = absurd (h refl)
finish_other a t (suc (suc n)) h = refl
