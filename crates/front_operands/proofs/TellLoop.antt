-- The loop over the operations: those before here are told, and the rest is told as the whole is. Assumes nothing.
use mathlib.Core.Path.{◌≡◌, refl, sym, ◌∙◌, ap}
use mathlib.Core.Logic.{◌⊎◌, inl, inr}
use mathlib.Core.List.{List, [], ◌∷◌, ◌++◌, map, append_assoc, append-nil}
use Prim.Native.Nat.{ℕ, zero, suc, ◌+◌, ◌-◌, min, ◌≤◌, ◌<◌}
use native.Mathlib.Omega.{arith}
use lib.ListN.{length, get_or, set, length-set, length-map}
use lib.Seq.{get_or-set_same, get_or-set_other}
use lib.IntN.{ℤ, pos}
use Rattle.spec_design.specs.Process.{Source, Slot, Process, WellFormed, source_types, slot_types}
use Rattle.base_codes.specs.Limit.{TEXT}
use Rattle.base_codes.specs.Types.{NONE}
use Rattle.base_ir.specs.Operations.{Op, op, arg_with, with_type, bare_op}
use Rattle.base_ir.specs.Entries.{entries, entry_ops}
use Rattle.base_ir.specs.Arrays.{ops_from, OpsIn, TypesIn}
use Rattle.front_operands.specs.Told.{tag_after, told, Tells}
use Rattle.front_operands.proofs.Telling.{told_right}

-- OPERATIONS BY POSITION

-- an argument that stands outside a stretch is none of its
ops_outside : (codes : List ℕ) (args : List ℤ) (j : ℕ) (a : ℤ) (m n : ℕ) → (j < m) ⊎ (m + n ≤ j) → ops_from codes (set args j a) m n ≡ ops_from codes args m n
unfolding ops_from
ops_outside codes args j a m zero h = refl
ops_outside codes args j a m (suc n) h = rw (get_or-set_other args j m a (pos 0) (apart h), ops_outside codes args j a (m + 1) n (further h))
  where
    apart : (j < m) ⊎ (m + suc n ≤ j) → m ≡ j → ⊥
    apart (inl l) e = omega arith
    apart (inr l) e = omega arith

    further : (j < m) ⊎ (m + suc n ≤ j) → (j < m + 1) ⊎ (m + 1 + n ≤ j)
    further (inl l) = inl (omega arith)
    further (inr l) = inr (omega arith)

-- one operation more at the end of a stretch
ops_more : (codes : List ℕ) (args : List ℤ) (m n : ℕ)
    → ops_from codes args m (suc n) ≡ ops_from codes args m n ++ (op (get_or codes (m + n) 0) (get_or args (m + n) (pos 0)) ∷ [])
unfolding ops_from
ops_more codes args m zero = let z : m + 0 ≡ m = omega arith in rw z
ops_more codes args m (suc n) = let z : m + suc n ≡ m + 1 + n = omega arith in rw (ops_more codes args (m + 1) n, z)

-- the first operation of a stretch
ops_first : (codes : List ℕ) (args : List ℤ) (m p q : ℕ) → p ≡ suc q
    → ops_from codes args m p ≡ op (get_or codes m 0) (get_or args m (pos 0)) ∷ ops_from codes args (m + 1) q
unfolding ops_from
ops_first codes args m p q e = rw e

-- THE LOOP

-- at operation j of n, where t is the number of the type of what ends before it
pub record Telling (codes is vs : List ℕ) (n : ℕ) (args₀ args₁ : List ℤ) (t j : ℕ) : Type 0 where
  pub inside : j ≤ n
  pub size : length args₁ ≡ length args₀
  pub ops : n ≤ length args₀ → ops_from codes args₁ 0 j ++ told is vs t (ops_from codes args₁ j (n - j)) ≡ told is vs NONE (ops_from codes args₀ 0 n)

module _ (codes is vs : List ℕ) (n : ℕ) (args₀ : List ℤ) where
  pub telling_first : Telling codes is vs n args₀ args₀ NONE 0
  unfolding ops_from
  telling_first = let z : n - 0 ≡ n = omega arith in record { inside = omega arith; size = refl; ops = λ h. rw z }

  module _ (args₁ : List ℤ) (t j : ℕ) where
    -- operation j is told
    telling_again : {c u : ℕ} {z a : ℤ} → j < n → c ≡ get_or codes j 0 → z ≡ get_or args₁ j (pos 0) → a ≡ arg_with c z t → u ≡ tag_after is vs (op c z) t
        → Telling codes is vs n args₀ args₁ t j → Telling codes is vs n args₀ (set args₁ j a) u (j + 1)
    unfolding told with_type
    telling_again {c} {u} {z} {a} l hc hz ha hu h =
        let s = h.size in
        let s' = length-set args₁ j a in
        record { inside = omega arith; size = omega arith; ops = λ m. next m ∙ h.ops m }
      where
        rest : List Op
        rest = ops_from codes args₁ (j + 1) (n - (j + 1))

        here : told is vs t (ops_from codes args₁ j (n - j)) ≡ op c a ∷ told is vs u rest
        here = rw (ops_first codes args₁ j (n - j) (n - (j + 1)) (omega arith), sym hc, sym hz, sym ha, sym hu)

        before : n ≤ length args₀ → ops_from codes (set args₁ j a) 0 (j + 1) ≡ ops_from codes args₁ 0 j ++ (op c a ∷ [])
        before m =
            let s = h.size in
            let y : j + 1 ≡ suc j = omega arith in
            let x : 0 + j ≡ j = omega arith in
            rw (
              y,
              ops_more codes (set args₁ j a) 0 j,
              x,
              ops_outside codes args₁ j a 0 j (inr (omega arith)),
              get_or-set_same args₁ j a (pos 0)
                  (omega arith),
              sym hc,
            )

        next : n ≤ length args₀ → ops_from codes (set args₁ j a) 0 (j + 1) ++ told is vs u
            (ops_from codes (set args₁ j a) (j + 1) (n - (j + 1))) ≡ ops_from codes args₁ 0 j ++ told is vs t (ops_from codes args₁ j (n - j))
        next m = rw (before m, ops_outside codes args₁ j a (j + 1) (n - (j + 1)) (inl (omega arith)), here)
            (append_assoc (ops_from codes args₁ 0 j) (op c a ∷ []) (told is vs u rest))

    -- the step's own words for it
    pub telling_step : {c u : ℕ} {b : List ℤ} → j < n → c ≡ get_or codes j 0 → u ≡ tag_after is vs (op c (get_or args₁ j (pos 0))) t
        → b ≡ set args₁ j (arg_with c (get_or args₁ j (pos 0)) t)
        → Telling codes is vs n args₀ args₁ t j → Telling codes is vs n args₀ b u (j + 1)
    telling_step l hc hu hb h = rw hb (telling_again l hc refl refl hu h)

    -- none is left: all are told
    all_told : n ≤ j → n ≤ length args₀ → Telling codes is vs n args₀ args₁ t j → ops_from codes args₁ 0 n ≡ told is vs NONE (ops_from codes args₀ 0 n)
    unfolding ops_from told
    all_told l m h =
        let a = h.inside in
        let z : n - j ≡ 0 = omega arith in
        let y : j ≡ n = omega arith in
        sym (append-nil (ops_from codes args₁ 0 n)) ∙ (rw (z, y) at (h.ops m))

    -- so they are the process's
    pub telling_last : (k : ℕ) → n ≡ min k TEXT → n ≤ j → Telling codes is vs n args₀ args₁ t j → Tells codes k is vs args₀ args₁
    telling_last k e l h = record { holds = λ p i v w s a b o. held p i v w s a b o }
      where
        held : (p : Process) (i v : ℕ) → WellFormed p → length args₀ ≡ TEXT → TypesIn (source_types p.inputs) is i → TypesIn (slot_types p.variables) vs v
            → OpsIn (map bare_op (entry_ops (entries p.body))) codes args₀ k → OpsIn (entry_ops (entries p.body)) codes args₁ k
        held p i v w s a b o =
            let q = o.short in
            let y : n ≡ k = omega arith in
            let hi = w.inputs in
            let hv = w.variables in
            let li = length-map p.inputs (λ (x : Source). x.type) in
            let lv = length-map p.variables (λ (x : Slot). x.type) in
            let r = told_right (source_types p.inputs) (slot_types p.variables) is vs (omega arith) (omega arith) (rw a.0 a.1) (rw b.0 b.1)
            (slot_types p.outputs) p.body w.typed NONE in
            record {
              count = sym (length-map (entry_ops (entries p.body)) bare_op) ∙ o.count;
              short = o.short;
              are = (rw y at (all_told l (omega arith) h)) ∙ (ap (told is vs NONE) o.are ∙ r);
            }
