-- A stack of types in an array: one type more, the upper one replaced, the two upper ones replaced by one. Assumes nothing.
use mathlib.Core.Path.{◌≡◌, refl, sym, ◌∙◌}
use mathlib.Core.List.{List}
use Prim.Native.Nat.{ℕ, zero, suc, ◌+◌, ◌-◌, ◌≤◌, ◌<◌}
use native.Mathlib.Omega.{arith}
use Rattle.std.specs.Prelude.{Option, None}
use borrow.Author.Tests.{lt-ltb, le-ltb, eq-eqb, ne_eqb}
use lib.ListN.{get_or, set, length-set}
use lib.Seq.{get_or-set_same}
use Rattle.spec_language.specs.Lists.{unless}
use Rattle.front_offences.specs.Lowest.{lowest_of, lower}
use Rattle.base_codes.specs.Operation.{operands_of}
use Rattle.base_codes.specs.Types.{NONE, tag_or, unary_type_for}
use Rattle.base_codes.specs.Limit.{ITEMS}
use Rattle.front_typing.specs.Operators.{binary_code, right_one, right_two}
use Rattle.base_codes.specs.Stack.{stack_of}
use Rattle.base_codes.proofs.StackLaws.{stack_length, stack_above, stack_push}
use Rattle.front_typing.specs.Expressions.{Sources, Work, work, operand_code, pushed, unary_on, binary_on, step_work, item_work, items_work, expr_work, top_of}
use Rattle.front_typing.specs.Expressions.{Room, Says}
use Rattle.front_typing.specs.declared.Progress.{Progress}

-- a type pushed
pub push_room : (a : List ℕ) (n t : ℕ) (b : Option ℕ) → Room a n → n < ITEMS → Says (set a n t) (record { depth = n + 1; lowest = b }) (pushed t (stack_of 0 a n) b)
unfolding pushed
push_room a n t b m h =
    record {
      room = record { size = length-set a n t ∙ m.size; depth = omega arith };
      says = rw (stack_length 0 a n, lt-ltb n ITEMS h, stack_push 0 a n t (omega (arith, m.size)));
    }

pub push_full : (a : List ℕ) (n t : ℕ) (b : Option ℕ) → Room a n → ITEMS ≤ n → Says a (record { depth = n; lowest = b }) (pushed t (stack_of 0 a n) b)
unfolding pushed
push_full a n t b m h = record { room = m; says = rw (stack_length 0 a n, le-ltb n ITEMS h) }

-- an operator on one operand
pub unary_none : (a : List ℕ) (n c p : ℕ) (b : Option ℕ) → Room a n → n < 1 → Says a (record { depth = n; lowest = b }) (unary_on c p (stack_of 0 a n) b)
unfolding stack_of unary_on
unary_none a zero c p b m h = record { room = m; says = refl }
unary_none a (suc n) c p b m h = absurd (omega arith)

unary_top : (a : List ℕ) (n c p : ℕ) (b : Option ℕ) (r : ℕ) (w : Option ℕ) → Room a (suc n) → r ≡ tag_or (unary_type_for c (get_or a n 0))
    → w ≡ lower b (lowest_of (unless (right_one (get_or a n 0) r) p))
    → Says (set a n r) (record { depth = suc n; lowest = w }) (unary_on c p (stack_of 0 a (suc n)) b)
unfolding unary_on stack_of
unary_top a n c p b r w m e q =
    record {
      room = record { size = length-set a n r ∙ m.size; depth = m.depth };
      says = rw (stack_above 0 a n r n (omega arith), get_or-set_same a n r 0 (omega (arith, m.size, m.depth)), q, e);
    }

pub unary_some : (a : List ℕ) (n c p : ℕ) (b : Option ℕ) (r : ℕ) (w : Option ℕ) → Room a n → 1 ≤ n → r ≡ tag_or (unary_type_for c (get_or a (n - 1) 0))
    → w ≡ lower b (lowest_of (unless (right_one (get_or a (n - 1) 0) r) p))
    → Says (set a (n - 1) r) (record { depth = n; lowest = w }) (unary_on c p (stack_of 0 a n) b)
unary_some a zero c p b r w m h e q = absurd (omega arith)
unary_some a (suc n) c p b r w m h e q = let z : suc n - 1 ≡ n = omega arith in rw z (unary_top a n c p b r w m (rw z at e) (rw z at q))

-- an operator on two operands
pub binary_none : (a : List ℕ) (n c p : ℕ) (b : Option ℕ) → Room a n → n ≤ 1 → Says a (record { depth = n; lowest = b }) (binary_on c p (stack_of 0 a n) b)
unfolding stack_of binary_on
binary_none a zero c p b m h = record { room = m; says = refl }
binary_none a (suc zero) c p b m h = record { room = m; says = refl }
binary_none a (suc (suc n)) c p b m h = absurd (omega arith)

binary_top : (a : List ℕ) (n c p : ℕ) (b : Option ℕ) (r : ℕ) (w : Option ℕ) → Room a (suc (suc n)) → r ≡ binary_code c (get_or a n 0) (get_or a (suc n) 0)
    → w ≡ lower b (lowest_of (unless (right_two (get_or a n 0) (get_or a (suc n) 0) r) p))
    → Says (set a n r) (record { depth = suc n; lowest = w }) (binary_on c p (stack_of 0 a (suc (suc n))) b)
unfolding binary_on stack_of
binary_top a n c p b r w m e q =
    record {
      room = record { size = length-set a n r ∙ m.size; depth = omega (arith, m.depth) };
      says = rw (stack_above 0 a n r n (omega arith), get_or-set_same a n r 0 (omega (arith, m.size, m.depth)), q, e);
    }

pub binary_some : (a : List ℕ) (n c p : ℕ) (b : Option ℕ) (r : ℕ) (w : Option ℕ) → Room a n → 1 < n → r ≡ binary_code c (get_or a (n - 1 - 1) 0) (get_or a (n - 1) 0)
    → w ≡ lower b (lowest_of (unless (right_two (get_or a (n - 1 - 1) 0) (get_or a (n - 1) 0) r) p))
    → Says (set a (n - 1 - 1) r) (record { depth = n - 1; lowest = w }) (binary_on c p (stack_of 0 a n) b)
binary_some a zero c p b r w m h e q = absurd (omega arith)
binary_some a (suc zero) c p b r w m h e q = absurd (omega arith)
binary_some a (suc (suc n)) c p b r w m h e q =
    let z : suc (suc n) - 1 ≡ suc n = omega arith in
    let y : suc (suc n) - 1 - 1 ≡ n = omega arith in
    rw (y, z) (binary_top a n c p b r w m (rw (y, z) at e) (rw (y, z) at q))

-- the type on top
pub top_none : (a : List ℕ) (n : ℕ) → n < 1 → NONE ≡ top_of (stack_of 0 a n)
unfolding top_of stack_of
top_none a zero h = refl
top_none a (suc n) h = absurd (omega arith)

pub top_some : (a : List ℕ) (n : ℕ) → 1 ≤ n → get_or a (n - 1) 0 ≡ top_of (stack_of 0 a n)
unfolding top_of stack_of
top_some a zero h = absurd (omega arith)
top_some a (suc n) h = let z : suc n - 1 ≡ n = omega arith in rw z

-- An item by its code, which has n operands.

pub step_operand : {a : List ℕ} {r : Progress} (c t p u n : ℕ) (s : List ℕ) (b : Option ℕ) → n ≡ operands_of c → n ≡ 0 → u ≡ operand_code c t → Says a r (pushed u s b)
    → Says a r (step_work c t p (work s b))
unfolding step_work
step_operand c t p u n s b o h e q = rw (← o, eq-eqb n 0 h, sym e) q

pub step_unary : {a : List ℕ} {r : Progress} (c t p q n : ℕ) (s : List ℕ) (b : Option ℕ) → n ≡ operands_of c → (n ≡ 0 → ⊥) → n ≡ 1 → q ≡ p → Says a r (unary_on c q s b)
    → Says a r (step_work c t p (work s b))
unfolding step_work
step_unary c t p q n s b o h k e w = rw (← o, ne_eqb n 0 h, eq-eqb n 1 k, sym e) w

pub step_binary : {a : List ℕ} {r : Progress} (c t p q n : ℕ) (s : List ℕ) (b : Option ℕ) → n ≡ operands_of c → (n ≡ 0 → ⊥) → (n ≡ 1 → ⊥) → q ≡ p
    → Says a r (binary_on c q s b)
    → Says a r (step_work c t p (work s b))
unfolding step_work
step_binary c t p q n s b o h k e w = rw (← o, ne_eqb n 0 h, ne_eqb n 1 k, sym e) w

-- The loop over items: the rest from item m makes what the whole makes.

module _ (A : Sources) (from to : ℕ) where
  pub record Left (a : List ℕ) (n : ℕ) (b : Option ℕ) (m : ℕ) : Type 0 where
    pub room : Room a n
    pub same : items_work A m (to - m) (work (stack_of 0 a n) b) ≡ expr_work A from to

  pub left_first : (a : List ℕ) → Room a 0 → Left a 0 None from
  unfolding stack_of
  left_first a h = record { room = h; same = refl }

  next : (m c : ℕ) (w : Work) → items_work A m (suc c) w ≡ items_work A (m + 1) c (item_work A m w)
  unfolding items_work
  next m c w = refl

  pub left_again : (a a' : List ℕ) (n : ℕ) (b : Option ℕ) (m : ℕ) (r : Progress) → Left a n b m → m < to → Says a' r (item_work A m (work (stack_of 0 a n) b))
      → Left a' r.depth r.lowest (m + 1)
  left_again a a' n b m r h l q =
      let z : to - m ≡ suc (to - (m + 1)) = omega arith in
      record { room = q.room; same = rw q.says (sym (next m (to - (m + 1)) (work (stack_of 0 a n) b)) ∙ (rw z at h.same)) }

  pub left_stop : (a : List ℕ) (r : Progress) (m : ℕ) → Left a r.depth r.lowest m → to ≤ m → Says a r (expr_work A from to)
  unfolding items_work
  left_stop a r m h l = let z : to - m ≡ 0 = omega arith in record { room = h.room; says = rw z at h.same }
