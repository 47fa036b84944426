-- The two loops over the items: the rest from here stores what the whole stores; and both together. Assumes nothing.
use mathlib.Core.Path.{◌≡◌, refl, sym, ◌∙◌, ap}
use mathlib.Core.Bool.{Bool, true, false}
use mathlib.Core.List.{List, [], ◌∷◌, ◌++◌, map}
use Prim.Native.Nat.{ℕ, zero, suc, ◌+◌, ◌-◌, min, ◌≤◌, ◌<◌}
use native.Mathlib.Omega.{arith}
use native.Mathlib.Decide.{dec_lt}
use lib.Dec.{eqb}
use lib.ListN.{length, get_or, drop, set, length-set}
use lib.Seq.{sets, sets-eq, length-sets, drop_at, get_or-set_same, get_or-set_other}
use lib.IntN.{ℤ, pos}
use Rattle.base_codes.specs.Item.{NAME}
use Rattle.spec_grammar.specs.Reader.{choose}
use Rattle.spec_semantics.specs.Twos.{unsigned32}
use Rattle.front_offences.specs.Positions.{mode_in}
use Rattle.base_ir.specs.Operations.{Op}
use Rattle.front_elaborator.specs.Positions.{number_at, slot_at, within, name_code, name_arg, value_at, values_at, Resolves, code_of, arg_of, placed_at, Places}
use Rattle.front_elaborator.specs.Positions.{code_at, arg_at, ops_at, Elaborates}

-- one more stored
sets_next : {A : Type 0} (l : List A) (j : ℕ) (x : A) (rest w xs : List A) → xs ≡ x ∷ rest → sets l j xs ≡ w → sets (set l j x) (j + 1) rest ≡ w
sets_next l j x rest w xs e h = let y : j + 1 ≡ suc j = omega arith in rw y (rw e at h)

-- THE FIRST PASS

module _ (v : ℕ → ℕ → ℕ) (codes indices : List ℕ) (n : ℕ) (args₀ : List ℤ) where
  -- at item j of n
  pub record Resolving (args₁ : List ℤ) (j : ℕ) : Type 0 where
    pub inside : j ≤ n
    pub args : sets args₁ j (values_at v codes indices j (n - j)) ≡ sets args₀ 0 (values_at v codes indices 0 n)

  pub resolving_first : Resolving args₀ 0
  resolving_first = let z : n - 0 ≡ n = omega arith in record { inside = omega arith; args = rw z }

  pub resolving_again : {args₁ : List ℤ} {j i : ℕ} {a : ℤ} → j < n → i ≡ get_or indices j 0 → a ≡ pos (within (v (get_or codes j 0) i))
      → Resolving args₁ j → Resolving (set args₁ j a) (j + 1)
  unfolding values_at
  resolving_again {args₁} {j} {i} {a} l hi ha h =
      let z : n - j ≡ suc (n - (j + 1)) = omega arith in
      let e : a ≡ pos (within (v (get_or codes j 0) (get_or indices j 0))) = ha ∙ rw hi in
      record { inside = omega arith; args = rw e (sets_next args₁ j _ (values_at v codes indices (j + 1) (n - (j + 1))) _ _ refl (rw z at h.args)) }

  pub resolving_last : {args₁ : List ℤ} {j : ℕ} (k : ℕ) → n ≡ min k 16384 → n ≤ j → Resolving args₁ j → Resolves v codes indices k args₀ args₁
  unfolding values_at
  resolving_last {args₁} {j} k e l h = let z : n - j ≡ 0 = omega arith in (rw z at h.args) ∙ rw e

-- THE SECOND PASS

module _ (F : ℕ → ℤ → ℕ) (G : ℕ → ℤ → ℤ) (n : ℕ) (ops₀ : List ℕ) (args₀ : List ℤ) where
  -- at item j of n: what is still to be done stands as it stood
  pub record Placing (ops₁ : List ℕ) (args₁ : List ℤ) (j : ℕ) : Type 0 where
    pub inside : j ≤ n
    pub ops : sets ops₁ j (placed_at F ops₀ args₀ j (n - j)) ≡ sets ops₀ 0 (placed_at F ops₀ args₀ 0 n)
    pub args : sets args₁ j (placed_at G ops₀ args₀ j (n - j)) ≡ sets args₀ 0 (placed_at G ops₀ args₀ 0 n)
    pub old_ops : (i : ℕ) → j ≤ i → get_or ops₁ i 0 ≡ get_or ops₀ i 0
    pub old_args : (i : ℕ) → j ≤ i → get_or args₁ i (pos 0) ≡ get_or args₀ i (pos 0)

  pub placing_first : Placing ops₀ args₀ 0
  placing_first = let z : n - 0 ≡ n = omega arith in record { inside = omega arith; ops = rw z; args = rw z; old_ops = λ i h. refl; old_args = λ i h. refl }

  pub placing_again : {ops₁ ops₂ : List ℕ} {args₁ args₂ : List ℤ} {j : ℕ} → j < n → ops₂ ≡ set ops₁ j (F (get_or ops₁ j 0) (get_or args₁ j (pos 0)))
      → args₂ ≡ set args₁ j (G (get_or ops₁ j 0) (get_or args₁ j (pos 0)))
      → Placing ops₁ args₁ j → Placing ops₂ args₂ (j + 1)
  unfolding placed_at
  placing_again {ops₁} {ops₂} {args₁} {args₂} {j} l ho ha h =
      let z : n - j ≡ suc (n - (j + 1)) = omega arith in
      let c = h.old_ops j (omega arith) in
      let a = h.old_args j (omega arith) in
      let eo : ops₂ ≡ set ops₁ j (F (get_or ops₀ j 0) (get_or args₀ j (pos 0))) = ho ∙ rw (c, a) in
      let ea : args₂ ≡ set args₁ j (G (get_or ops₀ j 0) (get_or args₀ j (pos 0))) = ha ∙ rw (c, a) in
      record {
        inside = omega arith;
        ops = rw eo (sets_next ops₁ j _ (placed_at F ops₀ args₀ (j + 1) (n - (j + 1))) _ _ refl (rw z at h.ops));
        args = rw ea (sets_next args₁ j _ (placed_at G ops₀ args₀ (j + 1) (n - (j + 1))) _ _ refl (rw z at h.args));
        old_ops = λ i m. rw eo (get_or-set_other ops₁ j i _ 0 (λ q. omega arith) ∙ h.old_ops i (omega arith));
        old_args = λ i m. rw ea (get_or-set_other args₁ j i _ (pos 0) (λ q. omega arith) ∙ h.old_args i (omega arith));
      }

  pub placing_last : {ops₁ : List ℕ} {args₁ : List ℤ} {j : ℕ} (k : ℕ) → n ≡ min k 16384 → n ≤ j → Placing ops₁ args₁ j → Places F G k ops₀ ops₁ args₀ args₁
  unfolding placed_at
  placing_last {ops₁} {args₁} {j} k e l h = let z : n - j ≡ 0 = omega arith in record { ops = (rw z at h.ops) ∙ rw e; args = (rw z at h.args) ∙ rw e }

-- BOTH

sets_before : {X : Type 0} (l : List X) (j : ℕ) (xs : List X) (i : ℕ) (d : X) → i < j → get_or (sets l j xs) i d ≡ get_or l i d
sets_before l j [] i d h = refl
sets_before l j (x ∷ xs) i d h = sets_before (set l j x) (suc j) xs i d (omega arith) ∙ get_or-set_other l j i x d (λ q. omega arith)

-- a value that was stored, read back
value_read : (v : ℕ → ℕ → ℕ) (codes indices : List ℕ) (l : List ℤ) (j q i : ℕ) → j + q ≤ length l → j ≤ i → i < j + q
    → get_or (sets l j (values_at v codes indices j q)) i (pos 0) ≡ pos (within (v (get_or codes i 0) (get_or indices i 0)))
unfolding values_at
value_read v codes indices l j zero i h a b = absurd (omega arith)
value_read v codes indices l j (suc q) i h a b =
    go (dec_lt j i) (λ m w. value_read v codes indices (set l j (pos (within (v (get_or codes j 0) (get_or indices j 0))))) (j + 1) q i m w (omega arith))
  where
    x : ℤ
    x = pos (within (v (get_or codes j 0) (get_or indices j 0)))

    s : length (set l j (pos (within (v (get_or codes j 0) (get_or indices j 0))))) ≡ length l
    s = length-set l j (pos (within (v (get_or codes j 0) (get_or indices j 0))))

    y : j + 1 ≡ suc j
    y = omega arith

    go : Dec (j < i) → (j + 1 + q ≤ length (set l j (pos (within (v (get_or codes j 0) (get_or indices j 0))))) → j + 1 ≤ i
        → get_or (sets (set l j (pos (within (v (get_or codes j 0) (get_or indices j 0))))) (j + 1) (values_at v codes indices (j + 1) q)) i (pos 0) ≡ pos
        (within (v (get_or codes i 0) (get_or indices i 0))))
        → get_or (sets (set l j (pos (within (v (get_or codes j 0) (get_or indices j 0))))) (suc j) (values_at v codes indices (j + 1) q)) i (pos 0) ≡ pos
        (within (v (get_or codes i 0) (get_or indices i 0)))
    go (yes m) r = let e = s in rw (sym y) (r (omega arith) (omega arith))
    go (no m) r =
        let e : i ≡ j = omega arith in
        rw e (sets_before (set l j (pos (within (v (get_or codes j 0) (get_or indices j 0))))) (suc j) (values_at v codes indices (j + 1) q) j (pos 0) (omega arith)
        ∙ get_or-set_same l j (pos (within (v (get_or codes j 0) (get_or indices j 0)))) (pos 0) (omega arith))

values_length : (v : ℕ → ℕ → ℕ) (codes indices : List ℕ) (m q : ℕ) → length (values_at v codes indices m q) ≡ q
unfolding values_at
values_length v codes indices m zero = refl
values_length v codes indices m (suc q) = ap suc (values_length v codes indices (m + 1) q)

placed_length : {A : Type 0} (F : ℕ → ℤ → A) (codes : List ℕ) (args : List ℤ) (m q : ℕ) → length (placed_at F codes args m q) ≡ q
unfolding placed_at
placed_length F codes args m zero = refl
placed_length F codes args m (suc q) = ap suc (placed_length F codes args (m + 1) q)

-- items stored over others
sets_over : {A : Type 0} (l a b : List A) → length a ≡ length b → length a ≤ length l → sets (sets l 0 a) 0 b ≡ sets l 0 b
sets_over l a b e h =
    let x : sets l 0 a ≡ a ++ drop (0 + length a) l = sets-eq a l 0 (omega arith) in
    let n : length (sets l 0 a) ≡ length l = length-sets l 0 a in
    let y : sets (sets l 0 a) 0 b ≡ b ++ drop (0 + length b) (sets l 0 a) = sets-eq b (sets l 0 a) 0 (omega arith) in
    let z : drop (0 + length b) (a ++ drop (0 + length a) l) ≡ drop (0 + length a) l = drop_at a (drop (0 + length a) l) (0 + length b) (omega arith) in
    let w : sets l 0 b ≡ b ++ drop (0 + length b) l = sets-eq b l 0 (omega arith) in
    let q : drop (0 + length a) l ≡ drop (0 + length b) l = ap (λ (k : ℕ). drop (0 + k) l) e in
    y ∙ (ap (λ (r : List _). b ++ drop (0 + length b) r) x ∙ (ap (λ (r : List _). b ++ r) (z ∙ q) ∙ sym w))

module _ (text starts sizes kinds owners decls : List ℕ) (d : ℕ) (slots : List ℕ) where
  -- an item's code and argument from its value
  code_is : (c i : ℕ) → code_of decls d c (unsigned32 (pos (within (value_at text starts sizes kinds owners c i)))) ≡ code_at owners decls d c i
  unfolding code_of value_at code_at
  code_is c i = go (eqb c NAME) _ _
    where
      go : (b : Bool) (y r : ℕ) → choose b (name_code (mode_in decls d (within (choose b (number_at owners i) y)))) r ≡ choose b
          (name_code (mode_in decls d (within (number_at owners i)))) r
      go true y r = refl
      go false y r = refl

  arg_is : (c i : ℕ) → arg_of decls d slots c (pos (within (value_at text starts sizes kinds owners c i))) ≡ pos
      (within (arg_at text starts sizes kinds owners decls d slots c i))
  unfolding arg_of value_at arg_at
  arg_is c i = go (eqb c NAME) _
    where
      go : (b : Bool) (y : ℕ)
          → choose b (pos (within (name_arg (mode_in decls d (within (choose b (number_at owners i) y)))
          (slot_at slots (within (choose b (number_at owners i) y)))))) (pos (within (choose b (number_at owners i) y)))
          ≡ pos (within (choose b (name_arg (mode_in decls d (within (number_at owners i))) (slot_at slots (within (number_at owners i)))) y))
      go true y = refl
      go false y = refl

  -- from item m on, q of them
  all_codes : (codes indices : List ℕ) (args : List ℤ) (m q : ℕ)
      → ((i : ℕ) → i < m + q → m ≤ i → get_or args i (pos 0) ≡ pos (within (value_at text starts sizes kinds owners (get_or codes i 0) (get_or indices i 0))))
      → (placed_at (λ c z. code_of decls d c (unsigned32 z)) codes args m q ≡ map (λ (o : Op). o.code)
      (ops_at (code_at owners decls d) (arg_at text starts sizes kinds owners decls d slots) codes indices m q))
      × (placed_at (arg_of decls d slots) codes args m q ≡ map (λ (o : Op). o.arg)
      (ops_at (code_at owners decls d) (arg_at text starts sizes kinds owners decls d slots) codes indices m q))
  unfolding placed_at ops_at
  all_codes codes indices args m zero h = (refl, refl)
  all_codes codes indices args m (suc q) h =
      let r = all_codes codes indices args (m + 1) q (λ i a b. h i (omega arith) (omega arith)) in
      let e = h m (omega arith) (omega arith) in
      (rw (e, code_is (get_or codes m 0) (get_or indices m 0), r.0), rw (e, arg_is (get_or codes m 0) (get_or indices m 0), r.1))

  -- THE LAW: the two passes make every item its operation
  pub elaborated : {codes indices ops : List ℕ} {k : ℕ} {args₀ args₁ args₂ : List ℤ} → length args₀ ≡ 16384
      → Resolves (value_at text starts sizes kinds owners) codes indices k args₀ args₁
      → Places (λ c z. code_of decls d c (unsigned32 z)) (arg_of decls d slots) k codes ops args₁ args₂
      → Elaborates (code_at owners decls d) (arg_at text starts sizes kinds owners decls d slots) codes indices k codes ops args₀ args₂
  elaborated {codes} {indices} {ops} {k} {args₀} {args₁} {args₂} l r p =
      let a = all_codes codes indices args₁ 0 (min k 16384)
      (λ i m n. rw r (value_read (value_at text starts sizes kinds owners) codes indices args₀ 0 (min k 16384) i (omega arith) (omega arith) m)) in
      let x = values_length (value_at text starts sizes kinds owners) codes indices 0 (min k 16384) in
      let y = placed_length (arg_of decls d slots) codes args₁ 0 (min k 16384) in
      let o : sets args₁ 0 (placed_at (arg_of decls d slots) codes args₁ 0 (min k 16384)) ≡ sets args₀ 0
      (placed_at (arg_of decls d slots) codes args₁ 0 (min k 16384)) =
      ap (λ (q : List ℤ). sets q 0 (placed_at (arg_of decls d slots) codes args₁ 0 (min k 16384))) r
      ∙ sets_over args₀ (values_at (value_at text starts sizes kinds owners) codes indices 0 (min k 16384))
      (placed_at (arg_of decls d slots) codes args₁ 0 (min k 16384)) (x ∙ sym y) (omega arith) in
      record { ops = p.ops ∙ ap (sets codes 0) a.0; args = p.args ∙ (o ∙ ap (sets args₀ 0) a.1) }
