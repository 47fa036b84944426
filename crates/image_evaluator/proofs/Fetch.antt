-- Fetching an operation by position is reading it from the rest of the bytes: for each kind of operation, then for the tests of its first byte.
-- Assumes nothing.
use Prim.Native.Nat.{ℕ, suc, ◌+◌, ◌<◌}
use native.Mathlib.Omega.{arith}
use mathlib.Core.Path.{◌≡◌, refl, sym, ap, ◌∙◌}
use mathlib.Core.Bool.{Bool, true, false, cond}
use mathlib.Core.Option.{Option, none, some, map}
use mathlib.Core.List.{List, [], ◌∷◌}
use lib.ListN.{length, get_or, drop, length-drop}
use lib.Seq.{get_or-drop, drop-drop}
use lib.Dec.{leb, eqb}
use borrow.Author.Tests.{le-leb}
use Rattle.spec_design.specs.Expression.{Leaf, int, bit, input, variable}
use Rattle.spec_format.specs.Words.{word4_at}
use Rattle.spec_semantics.specs.Twos.{signed32}
use Rattle.spec_format.specs.Code.{Operation, push, read_int, bit_of, read_bit, read_name, operator, read_operation}
use Rattle.spec_format.proofs.Basic.{leb_shift}
use Rattle.image_evaluator.specs.Position.{integer_at, bit_at, name_at, pushing, fetch_at}

-- reading by the length of the rest
int_shape : (r : List ℕ) → read_int r ≡ cond (leb 4 (length r)) (some (push (int (signed32 (word4_at r 0))), drop 4 r)) none
int_shape [] = refl
int_shape (a ∷ []) = refl
int_shape (a ∷ b ∷ []) = refl
int_shape (a ∷ b ∷ c ∷ []) = refl
int_shape (a ∷ b ∷ c ∷ d ∷ r) = rw (le-leb 4 (suc (suc (suc (suc (length r))))) (omega arith))

bit_shape : (r : List ℕ) → read_bit r ≡ cond (leb 1 (length r)) (map (λ b. (push (bit b), drop 1 r)) (bit_of (get_or r 0 0))) none
bit_shape [] = refl
bit_shape (a ∷ r) = rw (le-leb 1 (suc (length r)) (omega arith))

name_shape : (f : ℕ → Leaf) (r : List ℕ) → read_name f r ≡ cond (leb 1 (length r)) (some (push (f (get_or r 0 0)), drop 1 r)) none
name_shape f [] = refl
name_shape f (a ∷ r) = rw (le-leb 1 (suc (length r)) (omega arith))

map_pick : {X Y : Type 0} (f : X → Y) (b : Bool) (x y : Option X) → map f (cond b x y) ≡ cond b (map f x) (map f y)
map_pick f true x y = refl
map_pick f false x y = refl

cond_same : {X : Type 0} (b : Bool) (x y x' y' : X) → x ≡ x' → y ≡ y' → cond b x y ≡ cond b x' y'
cond_same true x y x' y' e e' = e
cond_same false x y x' y' e e' = e'

module _ (s : List ℕ) (at : ℕ) where
  -- an operation with the bytes after it
  abbrev pub after : Operation × ℕ → Operation × List ℕ
  after p = (p.0, drop (at + p.1) s)

  get : (k j : ℕ) → suc at + k ≡ j → get_or (drop (suc at) s) k 0 ≡ get_or s j 0
  get k j e = get_or-drop (suc at) s k 0 ∙ ap (λ (n : ℕ). get_or s n 0) e

  room : (n j : ℕ) → 0 < n → suc at + n ≡ j → leb n (length (drop (suc at) s)) ≡ leb j (length s)
  room n j l e =
      leb_shift n j (length (drop (suc at) s)) (length s) (λ h. omega (arith, length-drop (suc at) s)) (λ h. omega (arith, length-drop (suc at) s))

  rest : (n j : ℕ) → suc at + n ≡ j → drop n (drop (suc at) s) ≡ drop j s
  rest n j e = drop-drop n (suc at) s ∙ ap (λ k. drop k s) e

  int_at : read_int (drop (suc at) s) ≡ map after (pushing 5 (integer_at s at))
  int_at =
      int_shape (drop (suc at) s)
      ∙ rw (
        room 4 (at + 5) (omega arith) (omega arith),
        get 0 (at + 1) (omega arith),
        get 1 (at + 1 + 1) (omega arith),
        get 2 (at + 1 + 2) (omega arith),
        get 3 (at + 1 + 3) (omega arith),
        rest 4 (at + 5) (omega arith),
      )
      (go (leb (at + 5) (length s)))
    where
      go : (b : Bool)
          → cond b (some (push (int (signed32 (word4_at s (at + 1)))), drop (at + 5) s)) none
          ≡ map after (pushing 5 (cond b (some (int (signed32 (word4_at s (at + 1))))) none))
      go true = refl
      go false = refl

  bit_at_lem : read_bit (drop (suc at) s) ≡ map after (pushing 2 (bit_at s at))
  bit_at_lem =
      bit_shape (drop (suc at) s) ∙ rw (room 1 (at + 2) (omega arith) (omega arith), get 0 (at + 1) (omega arith), rest 1 (at + 2) (omega arith))
      (go (leb (at + 2) (length s)) (bit_of (get_or s (at + 1) 0)))
    where
      go : (b : Bool) (o : Option Bool)
          → cond b (map (λ x. (push (bit x), drop (at + 2) s)) o) none ≡ map after (pushing 2 (cond b (map bit o) none))
      go true none = refl
      go true (some x) = refl
      go false o = refl

  name_at_lem : (f : ℕ → Leaf) → read_name f (drop (suc at) s) ≡ map after (pushing 2 (name_at f s at))
  name_at_lem f =
      name_shape f (drop (suc at) s) ∙ rw (room 1 (at + 2) (omega arith) (omega arith), get 0 (at + 1) (omega arith), rest 1 (at + 2) (omega arith))
      (go (leb (at + 2) (length s)))
    where
      go : (b : Bool)
          → cond b (some (push (f (get_or s (at + 1) 0)), drop (at + 2) s)) none ≡ map after (pushing 2 (cond b (some (f (get_or s (at + 1) 0))) none))
      go true = refl
      go false = refl

  operator_at : map (λ i. (i, drop (suc at) s)) (operator (get_or s at 0)) ≡ map after (map (λ i. (i, 1)) (operator (get_or s at 0)))
  operator_at = go (operator (get_or s at 0))
    where
      go : (o : Option Operation) → map (λ i. (i, drop (suc at) s)) o ≡ map after (map (λ i. (i, 1)) o)
      go none = refl
      go (some i) = let d : suc at ≡ at + 1 = omega arith in ap (λ k. some (i, drop k s)) d

  pub fetch_read : read_operation (get_or s at 0) (drop (suc at) s) ≡ map after (fetch_at s at)
  unfolding fetch_at
  fetch_read =
      cond_same (eqb (get_or s at 0) 1) _ _ _ _ int_at
      (cond_same (eqb (get_or s at 0) 2) _ _ _ _ bit_at_lem
      (cond_same (eqb (get_or s at 0) 3) _ _ _ _ (name_at_lem input)
      (cond_same (eqb (get_or s at 0) 4) _ _ _ _ (name_at_lem variable) operator_at ∙ sym (map_pick after (eqb (get_or s at 0) 4) _ _))
      ∙ sym (map_pick after (eqb (get_or s at 0) 3) _ _)) ∙ sym (map_pick after (eqb (get_or s at 0) 2) _ _)) ∙ sym (map_pick after (eqb (get_or s at 0) 1) _ _)
