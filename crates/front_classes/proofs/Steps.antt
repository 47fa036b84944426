-- The tests of the code are those of the definitions by position; the loop over the statements of a block: the rest from here answers what the whole answers.
-- Assumes nothing.
use mathlib.Core.Path.{◌≡◌, refl, sym, ◌∙◌, ap}
use mathlib.Core.Bool.{Bool}
use mathlib.Core.List.{List}
use Prim.Native.Nat.{ℕ, zero, suc, ◌+◌, ◌≤◌, ◌<◌, min, max}
use native.Mathlib.Omega.{arith}
use Rattle.std.specs.Prelude as P
use Rattle.front_classes.specs.declared.rules.Class as K
use Rattle.front_classes.specs.declared.rules.Class.TheVariants as V
use borrow.Author.Tests.{eq-eqb, ne_eqb, lt-ltb, le-ltb}
use Rattle.spec_language.specs.Lists.{unless}
use Rattle.front_offences.specs.Lowest.{lowest_of, lower}
use Rattle.front_layout.specs.Arrays.{number_in}
use Rattle.front_offences.specs.declared.Shape.{Shape}
use Rattle.front_classes.specs.declared.Summary.{Summary}
use Rattle.front_classes.specs.Codes.{sequence_code, if_code, while_code, body_allowed}
use Rattle.front_classes.specs.Held.{number_of}
use Rattle.front_classes.specs.Positions.{summary, in_sequence, of_if, of_while, end_in, other_in, statement_of, run_in, block_in, statement_in, StatementIs}
use Rattle.front_classes.specs.Positions.{BlockIs, whole_place_in, lowest_in}

if_parts : (a b a' b' : Summary) (c : P.Option K.Class) (w : P.Option ℕ) → a ≡ a' → b ≡ b' → c ≡ if_code a.class b.class → w ≡ lower a.lowest b.lowest → summary c w ≡ of_if a' b'
if_parts a b a' b' c w p q u v = rw (u, v, p, q)

while_parts : (a a' : Summary) (c : P.Option K.Class) (own w : P.Option ℕ) (i p : ℕ) (fine : Bool) → a ≡ a' → i ≡ p → fine ≡ body_allowed a.class → own ≡ lowest_of (unless fine i) → c
    ≡ while_code a.class → w ≡ lower own a.lowest → summary c w ≡ of_while p a'
while_parts a a' c own w i p fine e d f o u v = rw (u, v, o, f, d, e)

both_parts : (b b' : Summary) (code : P.Option K.Class) (low : P.Option ℕ) (c : P.Option K.Class) (w : P.Option ℕ) → b ≡ b' → c ≡ sequence_code code b.class → w ≡ lower low b.lowest → summary c w
    ≡ in_sequence (summary code low) b'
both_parts b b' code low c w p u v = rw (u, v, p)

-- a statement by its kind
module _ {rows places : List ℕ} {n at end : ℕ} where
  pub if_is : {other : ℕ} {c : P.Option K.Class} {w : P.Option ℕ} {a b : Summary} → at < end → number_of rows at 0 ≡ 3 → other ≡ max (at + 1) (min (number_of rows at 4) end)
      → BlockIs rows places n (at + 1) other a → BlockIs rows places n other end b
      → c ≡ if_code a.class b.class → w ≡ lower a.lowest b.lowest → StatementIs rows places n at end (summary c w)
  unfolding statement_of
  if_is {other} {c} {w} {a} {b} l k o f g u v = record {
    is = λ s h.
        let p : a ≡ block_in rows places n s (at + 1) (other_in rows places n at end) = f.is s (omega arith) ∙ ap (block_in rows places n s (at + 1)) o in
        let q : b ≡ block_in rows places n s (other_in rows places n at end) end = g.is s (omega arith) ∙ ap (λ (x : ℕ). block_in rows places n s x end) o in
        rw (eq-eqb (number_of rows at 0) 3 k) (if_parts a b _ _ c w p q u v);
  }

  pub while_is : {c : P.Option K.Class} {own w : P.Option ℕ} {i : ℕ} {fine : Bool} {a : Summary} → at < end → number_of rows at 0 ≡ 5 → BlockIs rows places n (at + 1) end a → i
      ≡ number_in places n (number_of rows at 1) → fine ≡ body_allowed a.class
      → own ≡ lowest_of (unless fine i) → c ≡ while_code a.class → w ≡ lower own a.lowest → StatementIs rows places n at end (summary c w)
  unfolding statement_of
  while_is {c} {own} {w} {i} {fine} {a} l k f d e o u v = record {
    is = λ s h. rw (ne_eqb (number_of rows at 0) 3 (λ z. omega arith), eq-eqb (number_of rows at 0) 5 k)
        (while_parts a _ c own w i _ fine (f.is s (omega arith)) d e o u v);
  }

  pub wait_is : number_of rows at 0 ≡ 0 → StatementIs rows places n at end (summary (P.Some V.C) P.None)
  unfolding statement_of
  wait_is k = record {
    is = λ s h. rw
        (ne_eqb (number_of rows at 0) 3 (λ z. omega arith), ne_eqb (number_of rows at 0) 5 (λ z. omega arith), eq-eqb (number_of rows at 0) 0 k);
  }

  pub plain_is : (number_of rows at 0 ≡ 3 → ⊥) → (number_of rows at 0 ≡ 5 → ⊥) → (number_of rows at 0 ≡ 0 → ⊥) → StatementIs rows places n at end (summary (P.Some V.A) P.None)
  unfolding statement_of
  plain_is k3 k5 k0 = record { is = λ s h. rw (ne_eqb (number_of rows at 0) 3 k3, ne_eqb (number_of rows at 0) 5 k5, ne_eqb (number_of rows at 0) 0 k0) }

-- The loop: in f steps the whole, in fewer the rest.
pub record Left (rows places : List ℕ) (n from to at : ℕ) (code : P.Option K.Class) (low : P.Option ℕ) (f : ℕ) : Type 0 where
  pub steps : ℕ
  pub enough : to ≤ at + steps
  pub same : run_in rows places n steps at to (summary code low) ≡ block_in rows places n f from to

pub record Resting (rows places : List ℕ) (n from to at : ℕ) (code : P.Option K.Class) (low : P.Option ℕ) : Type 0 where
  pub behind : from ≤ at
  pub inside : at ≤ to
  pub left : (f : ℕ) → to ≤ from + f → Left rows places n from to at code low f

pub resting_first : {rows places : List ℕ} {n from to : ℕ} → from ≤ to → Resting rows places n from to from (P.Some V.A) P.None
resting_first h = record { behind = omega arith; inside = h; left = λ f k. record { steps = f; enough = k; same = refl } }

run_step : (rows places : List ℕ) (n m at to : ℕ) (a : Summary) → at < to
    → run_in rows places n (suc m) at to a ≡ run_in rows places n m (end_in rows places n at to) to
    (in_sequence a (statement_in rows places n m at (end_in rows places n at to)))
unfolding run_in
run_step rows places n m at to a i = rw (lt-ltb at to i)

pub resting_again : {rows places : List ℕ} {n from to at end : ℕ} {code : P.Option K.Class} {low : P.Option ℕ} {c : P.Option K.Class} {w : P.Option ℕ} {b : Summary} → Resting rows places n from to at code low → at < to → end
    ≡ max (at + 1) (min (number_of rows at 5) to)
    → StatementIs rows places n at end b → c ≡ sequence_code code b.class → w ≡ lower low b.lowest → Resting rows places n from to end c w
resting_again {rows} {places} {n} {from} {to} {at} {end} {code} {low} {c} {w} {b} g i e s u v = record {
  behind = let a = g.behind in omega arith;
  inside = omega arith;
  left = λ f k. let r = g.left f k in go f r.steps r.enough r.same;
}
  where
    go : (f m : ℕ) → to ≤ at + m → run_in rows places n m at to (summary code low) ≡ block_in rows places n f from to → Left rows places n from to end c w f
    go f zero h q = absurd (omega arith)
    go f (suc m) h q =
        let z : b ≡ statement_in rows places n m at (end_in rows places n at to) = s.is m (omega arith) ∙ ap (statement_in rows places n m at) e in
        record {
          steps = m;
          enough = omega arith;
          same = ap (λ (x : ℕ). run_in rows places n m x to (summary c w)) e
              ∙ (ap (run_in rows places n m (end_in rows places n at to) to) (both_parts b _ code low c w z u v)
              ∙ (sym (run_step rows places n m at to (summary code low) i) ∙ q));
        }

stopped : (rows places : List ℕ) (n m at to : ℕ) (a : Summary) → to ≤ at → run_in rows places n m at to a ≡ a
unfolding run_in
stopped rows places n zero at to a h = refl
stopped rows places n (suc m) at to a h = rw (le-ltb at to h)

pub resting_stop : {rows places : List ℕ} {n from to at : ℕ} {code : P.Option K.Class} {low : P.Option ℕ} → Resting rows places n from to at code low → to ≤ at
    → BlockIs rows places n from to (summary code low)
resting_stop {rows} {places} {n} {from} {to} {at} {code} {low} g h = record {
  is = λ f k. let r = g.left f k in sym
      (stopped rows places n r.steps at to (summary code low) h) ∙ r.same;
}

-- the whole stage
module _ (starts : List ℕ) (p : Shape) (rows : List ℕ) (m : ℕ) (a : Summary) (e : m ≡ min p.statements 512) (f : BlockIs rows starts p.tokens 0 m a) where
  body : a ≡ block_in rows starts p.tokens (min p.statements 512) 0 (min p.statements 512)
  body = f.is (min p.statements 512) (omega arith) ∙ ap (block_in rows starts p.tokens (min p.statements 512) 0) e

  pub lowest_is : (r : P.Option ℕ) → r ≡ whole_place_in (number_in starts p.tokens p.process) a → r ≡ lowest_in starts p rows
  unfolding lowest_in
  lowest_is r h = h ∙ ap (whole_place_in (number_in starts p.tokens p.process)) body
