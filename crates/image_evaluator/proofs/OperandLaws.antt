-- The operands: what the tests of a literal's or a name's bytes come to is what the typed machine says. By cases on the tests. Assumes nothing.
use Prim.Native.Nat.{ℕ, zero, suc, ◌+◌, ◌≤◌, ◌<◌}
use mathlib.Core.Path.{◌≡◌, refl, ap, ◌∙◌}
use mathlib.Core.Bool.{Bool, true, false, cond}
use mathlib.Core.Option.{Option, none, some, map}
use mathlib.Core.List.{List, [], ◌∷◌}
use native.Mathlib.Omega.{arith}
use borrow.Author.Tests.{le-leb, lt-leb, ne_eqb}
use lib.ListN.{length, get_or}
use lib.IntN.{ℤ, pos}
use lib.Dec.{ltb, leb}
use mir.Syntax.{w32}
use mir.Val.{SFits}
use Rattle.spec_design.specs.Expression.{Leaf, int, bit, input, variable, Out, fault, bind, nth, plainly, leaf_type}
use Rattle.spec_semantics.specs.Evaluation.{leaf_value}
use Rattle.spec_format.specs.Words.{word4_at}
use Rattle.spec_semantics.specs.Twos.{signed32}
use Rattle.spec_format.specs.Code.{bit_of, with_type}
use Rattle.spec_design.specs.Types.{type_byte}
use Rattle.base_signed.proofs.Range.{range_fits}
use Rattle.image_evaluator.specs.Position.{integer_at, bit_at, name_at, pushing, Next, stop, pushed_within, next_of, fetch_at}
use Rattle.image_evaluator.specs.Value.{Cell, type_for, types_for, machine_for, found, evaluated_of}
use Rattle.image_evaluator.specs.Operators.{operators, leaf_of, named_at}

-- an integer literal: every 32-bit number is an integer
int_value : (z : ℤ) → SFits w32 z → found 1 z ≡ evaluated_of (operators.of_leaf (int z))
unfolding leaf_type leaf_value with_type bind
int_value z h = rw (range_fits z h)

module _ (s : List ℕ) (k : ℕ) where
  pub int_found : (z : ℤ) → k + 5 ≤ length s → SFits w32 z → z ≡ signed32 (word4_at s (k + 1)) → found 1 z ≡ evaluated_of (leaf_of operators (integer_at s k))
  int_found z h f e = rw (le-leb _ _ h) (int_value z f ∙ ap (λ (y : ℤ). evaluated_of (operators.of_leaf (int y))) e)

  pub int_short : length s < k + 5 → fault 13 ≡ evaluated_of (leaf_of operators (integer_at s k))
  int_short h = rw (lt-leb _ _ h)

  pub bit_short : length s < k + 2 → fault 13 ≡ evaluated_of (leaf_of operators (bit_at s k))
  bit_short h = rw (lt-leb _ _ h)

  pub bit_zero : k + 2 ≤ length s → get_or s (k + 1) 0 ≡ 0 → found 0 (pos 0) ≡ evaluated_of (leaf_of operators (bit_at s k))
  unfolding leaf_type leaf_value with_type bind
  bit_zero h e = rw (le-leb _ _ h, e)

  pub bit_one : k + 2 ≤ length s → get_or s (k + 1) 0 ≡ 1 → found 0 (pos 1) ≡ evaluated_of (leaf_of operators (bit_at s k))
  unfolding leaf_type leaf_value with_type bind
  bit_one h e = rw (le-leb _ _ h, e)

  pub bit_other : k + 2 ≤ length s → (get_or s (k + 1) 0 ≡ 0 → ⊥) → (get_or s (k + 1) 0 ≡ 1 → ⊥) → fault 13 ≡ evaluated_of (leaf_of operators (bit_at s k))
  bit_other h a b = rw (le-leb _ _ h, ne_eqb _ 0 a, ne_eqb _ 1 b)

-- the k-th of the types that type bytes stand for
types_found : (l : List ℕ) (k : ℕ) → k < length l → nth (types_for l) k ≡ some (type_for (get_or l k 0))
unfolding types_for nth
types_found [] k h = absurd (omega arith)
types_found (b ∷ l) zero h = refl
types_found (b ∷ l) (suc k) h = types_found l k (omega arith)

types_short : (l : List ℕ) (k : ℕ) → length l ≤ k → nth (types_for l) k ≡ none
unfolding types_for nth
types_short [] k h = refl
types_short (b ∷ l) zero h = absurd (omega arith)
types_short (b ∷ l) (suc k) h = types_short l k (omega arith)

module _ (s : List ℕ) (k : ℕ) (l : List ℕ) (row : List ℤ) where
  pub name_short : length s < k + 2 → fault 13 ≡ evaluated_of (named_at s k (types_for l) row)
  name_short h = rw (lt-leb _ _ h)

  pub name_unknown : k + 2 ≤ length s → length l ≤ get_or s (k + 1) 0 → fault 13 ≡ evaluated_of (named_at s k (types_for l) row)
  unfolding plainly with_type
  name_unknown h e = rw (le-leb _ _ h, types_short l (get_or s (k + 1) 0) e)

  pub name_found : k + 2 ≤ length s → get_or s (k + 1) 0 < length l
      → found (type_byte (type_for (get_or l (get_or s (k + 1) 0) 0))) (get_or row (get_or s (k + 1) 0) (pos 0)) ≡ evaluated_of (named_at s k (types_for l) row)
  unfolding plainly with_type bind
  name_found h e = rw (le-leb _ _ h, types_found l (get_or s (k + 1) 0) e)

-- a literal or a name that is fetched is pushed
push_fetched : (is vs : List ℕ) (i v : List ℤ) (w at : ℕ) (st : List Cell) (o : Option Leaf)
    → next_of (machine_for is vs i v) 64 (pushing w o) at st ≡ pushed_within 64 (leaf_of (machine_for is vs i v) o) (at + w) st
push_fetched is vs i v w at st none = go (ltb (length st) 64)
  where
    go : (b : Bool) → ◌≡◌ {A = Next Cell} (stop 13) (cond b (stop 13) (stop 13))
    go true = refl
    go false = refl
push_fetched is vs i v w at st (some l) = refl

leaf_cond : (is vs : List ℕ) (i v : List ℤ) (b : Bool) (l : Leaf) (x : Out Cell)
    → (machine_for is vs i v).of_leaf l ≡ x → leaf_of (machine_for is vs i v) (cond b (some l) none) ≡ cond b x (fault 13)
leaf_cond is vs i v true l x e = e
leaf_cond is vs i v false l x e = refl

module _ (is vs : List ℕ) (i v : List ℤ) (s : List ℕ) (k : ℕ) (st : List Cell) where
  int_same : leaf_of (machine_for is vs i v) (integer_at s k) ≡ leaf_of operators (integer_at s k)
  unfolding leaf_type leaf_value
  int_same = go (leb (k + 5) (length s))
    where
      go : (b : Bool) → leaf_of (machine_for is vs i v) (cond b (some (int (signed32 (word4_at s (k + 1))))) none) ≡ leaf_of operators
          (cond b (some (int (signed32 (word4_at s (k + 1))))) none)
      go true = refl
      go false = refl

  bit_same : leaf_of (machine_for is vs i v) (bit_at s k) ≡ leaf_of operators (bit_at s k)
  unfolding leaf_type leaf_value
  bit_same = go (leb (k + 2) (length s)) (bit_of (get_or s (k + 1) 0))
    where
      go : (b : Bool) (o : Option Bool) → leaf_of (machine_for is vs i v) (cond b (map bit o) none) ≡ leaf_of operators (cond b (map bit o) none)
      go true none = refl
      go true (some x) = refl
      go false o = refl

  -- the operation at the byte k, by its first byte
  pub at_int : get_or s k 0 ≡ 1 → next_of (machine_for is vs i v) 64 (fetch_at s k) k st ≡ pushed_within 64 (leaf_of operators (integer_at s k)) (k + 5) st
  unfolding fetch_at
  at_int e = rw e (push_fetched is vs i v 5 k st (integer_at s k) ∙ ap (λ (o : Out Cell). pushed_within 64 o (k + 5) st) int_same)

  pub at_bit : get_or s k 0 ≡ 2 → next_of (machine_for is vs i v) 64 (fetch_at s k) k st ≡ pushed_within 64 (leaf_of operators (bit_at s k)) (k + 2) st
  unfolding fetch_at
  at_bit e = rw e (push_fetched is vs i v 2 k st (bit_at s k) ∙ ap (λ (o : Out Cell). pushed_within 64 o (k + 2) st) bit_same)

  pub at_input : get_or s k 0 ≡ 3 → next_of (machine_for is vs i v) 64 (fetch_at s k) k st ≡ pushed_within 64 (named_at s k (types_for is) i) (k + 2) st
  unfolding fetch_at leaf_type leaf_value
  at_input e =
      rw e
      (push_fetched is vs i v 2 k st (name_at input s k)
      ∙ ap (λ (o : Out Cell). pushed_within 64 o (k + 2) st) (leaf_cond is vs i v (leb (k + 2) (length s)) (input (get_or s (k + 1) 0)) _ refl))

  pub at_variable : get_or s k 0 ≡ 4 → next_of (machine_for is vs i v) 64 (fetch_at s k) k st ≡ pushed_within 64 (named_at s k (types_for vs) v) (k + 2) st
  unfolding fetch_at leaf_type leaf_value
  at_variable e =
      rw e
      (push_fetched is vs i v 2 k st (name_at variable s k)
      ∙ ap (λ (o : Out Cell). pushed_within 64 o (k + 2) st) (leaf_cond is vs i v (leb (k + 2) (length s)) (variable (get_or s (k + 1) 0)) _ refl))
