-- The ways through a statement, each with its test; what comes of a statement's effect; and the numbers that a block's rows lie between. Assumes nothing.
use Prim.Native.Nat.{ℕ, ◌+◌, ◌≤◌, ◌<◌}
use mathlib.Core.Path.{◌≡◌, refl, sym, ap, ◌∙◌}
use mathlib.Core.Bool.{Bool, true, false, cond, ◌&&◌, ◌||◌}
use mathlib.Core.Option.{Option}
use mathlib.Core.List.{List, [], ◌∷◌, ◌++◌}
use native.Mathlib.Omega.{arith}
use borrow.Author.Tests.{eq-eqb, ne_eqb, ltb-true, leb-true, lt-ltb, le-leb}
use lib.ListN.{length, set}
use lib.IntN.{ℤ}
use lib.Dec.{eqb, ltb, leb}
use Rattle.spec_design.specs.Expression.{Out, fine, fault}
use Rattle.spec_design.specs.Statement.{Stmt}
use Rattle.spec_semantics.specs.Evaluation.{is_one}
use Rattle.spec_semantics.specs.Equations.{start}
use Rattle.spec_semantics.proofs.Basic.{and_left, and_right, false_true}
use Rattle.base_ir.specs.Entries.{Single}
use Rattle.base_ir.specs.Arrays.{Row, row_in}
use Rattle.direct_expressions.specs.Machine.{value_in}
use Rattle.base_codes.specs.declared.fault.Fault.{Fault}
use Rattle.base_codes.specs.Fault.{number_of}
use Rattle.direct_statements.specs.Effects.{branch_of, valued_of, effect_of, stored_of, value_of, Acts, Valued}
use Rattle.direct_statements.specs.Holding.{HeldIn, HeldRest, start_rest}
use Rattle.direct_statements.specs.Standing.{run, Stands}
use Rattle.direct_statements.specs.declared.Effect.{Effect}
use Rattle.direct_statements.specs.declared.Effect.TheVariants.{Waits, Performed}
use Rattle.direct_statements.specs.declared.Progress.{Progress}
use Rattle.direct_statements.specs.declared.Progress.TheVariants.{Reached, Refused as RefusedAt}
use Rattle.direct_statements.proofs.EffectLaws.{Inner, EffectSays, effect_says}
use Rattle.direct_statements.proofs.BlockLaws.{way_length}

-- Storing: the row of another kind is as it was; a place that the row has not changes nothing.
pub other_kind : (k w : ℕ) (l a : List ℤ) → (k ≡ w → ⊥) → l ≡ cond (eqb k w) a l
other_kind k w l a h = rw (ne_eqb k w h)

pub this_kind : (k w : ℕ) (l a b : List ℤ) → k ≡ w → a ≡ b → a ≡ cond (eqb k w) b l
this_kind k w l a b h e = rw (eq-eqb k w h) e

-- a branch by its test
pub branch_true : (o b : Bool) (j x n : ℕ) → o ≡ b → o ≡ true → Performed (j + 1) x ≡ branch_of b j x n
branch_true o b j x n e h = rw (sym e ∙ h)

pub branch_false : (o b : Bool) (j x n : ℕ) → o ≡ b → o ≡ false → Performed x n ≡ branch_of b j x n
branch_false o b j x n e h = rw (sym e ∙ h)

-- an if or a while, by one test
parts_by : {A : Type 0} (k : ℕ) (x y : A) → (eqb k 3 || eqb k 5) ≡ true → cond (eqb k 3) x (cond (eqb k 5) x y) ≡ x
parts_by k x y h = go (eqb k 3) (eqb k 5) h
  where
    go : (a b : Bool) → (a || b) ≡ true → cond a x (cond b x y) ≡ x
    go true b h = refl
    go false b h = rw h

no_parts : {A : Type 0} (k : ℕ) (x y : A) → (eqb k 3 || eqb k 5) ≡ false → cond (eqb k 3) x (cond (eqb k 5) x y) ≡ y
no_parts k x y h = go (eqb k 3) (eqb k 5) h
  where
    go : (a b : Bool) → (a || b) ≡ false → cond a x (cond b x y) ≡ y
    go true b h = false_true (sym h)
    go false b h = rw h

pub if_parts : (k : ℕ) → k ≡ 3 → true ≡ (eqb k 3 || eqb k 5)
if_parts k h = rw (eq-eqb k 3 h)

pub while_parts : (k : ℕ) → (k ≡ 3 → ⊥) → eqb k 5 ≡ (eqb k 3 || eqb k 5)
while_parts k h = rw (ne_eqb k 3 h)

-- the value of an expression, whose ends are read
pub ends_read : (codes : List ℕ) (args i v : List ℤ) {from to from' to' : ℕ} (e : Out ℤ) → from ≡ from' → to ≡ to'
    → e ≡ value_in codes args from to i v
    → e ≡ value_in codes args from' to' i v
ends_read codes args i v e a b h = rw (← a, ← b) h

-- the statement j with the row r and the value E of its expression, over outputs o and variables v
module _ (r : Row) (j : ℕ) (E : Out ℤ) (o v : List ℤ) where
  pub wait_acts : {k : ℕ} → k ≡ r.kind → k ≡ 0 → Acts r j E o v (fine Waits) o v
  wait_acts a h = let z : r.kind ≡ 0 = sym a ∙ h in record { effect = rw z; outputs = rw z (go E).0; variables = rw z (go E).1 }
    where
      go : (e : Out ℤ) → (o ≡ stored_of 1 0 r.target e o) × (v ≡ stored_of 2 0 r.target e v)
      go (fine z) = (refl, refl)
      go (fault q) = (refl, refl)

  pub null_acts : {k : ℕ} → k ≡ r.kind → k ≡ 4 → Acts r j E o v (fine (Performed (j + 1) (j + 1))) o v
  null_acts a h = let z : r.kind ≡ 4 = sym a ∙ h in record { effect = rw z; outputs = rw z (go E).0; variables = rw z (go E).1 }
    where
      go : (e : Out ℤ) → (o ≡ stored_of 1 4 r.target e o) × (v ≡ stored_of 2 4 r.target e v)
      go (fine z) = (refl, refl)
      go (fault q) = (refl, refl)

  pub fault_acts : {k q : ℕ} {e : Out ℤ} → k ≡ r.kind → (k ≡ 0 → ⊥) → (k ≡ 4 → ⊥) → e ≡ E → e ≡ fault q → Acts r j E o v (fault q) o v
  fault_acts {k} {q} {e} a h g b d =
      let z : E ≡ fault q = sym b ∙ d in
      record { effect = rw (z, ← a, ne_eqb k 0 h, ne_eqb k 4 g); outputs = rw z; variables = rw z }

  pub value_acts : {f : ℤ} {e : Out ℤ} {x : Out Effect} {o' v' : List ℤ} → e ≡ E → e ≡ fine f → Acts r j (fine f) o v x o' v'
      → Acts r j E o v x o' v'
  value_acts {f} {e} b d h = let z : E ≡ fine f = sym b ∙ d in rw z h

-- a statement of kind k with the value z
module _ {rows : List ℕ} {at k : ℕ} (m : Valued rows at k) (z : ℤ) (o v : List ℤ) where
  effect_by : {x : Out Effect} → x ≡ valued_of k (fine z) at (row_in rows at).other (row_in rows at).end
      → x ≡ effect_of (row_in rows at).kind (fine z) at (row_in rows at).other (row_in rows at).end
  effect_by h = rw (← m.kind, ne_eqb k 0 m.no_wait, ne_eqb k 4 m.no_null) h

  pub branch_acts : {x n : ℕ} {b : Effect} → (eqb k 3 || eqb k 5) ≡ true → x ≡ (row_in rows at).other → n ≡ (row_in rows at).end → b ≡ branch_of (is_one z) at x n
      → Acts (row_in rows at) at (fine z) o v (fine b) o v
  branch_acts h f g q =
      record {
        effect = effect_by (rw (parts_by k (fine (branch_of (is_one z) at (row_in rows at).other (row_in rows at).end)) (fine (Performed (at + 1) (at + 1))) h, ← f, ← g)
            (ap fine q));
        outputs = rw (← m.kind) (other_kind k 1 o _ (apart 1 (λ n. omega arith) (λ n. omega arith)));
        variables = rw (← m.kind) (other_kind k 2 v _ (apart 2 (λ n. omega arith) (λ n. omega arith)));
      }
    where
      apart : (w : ℕ) → (w ≡ 3 → ⊥) → (w ≡ 5 → ⊥) → k ≡ w → ⊥
      apart w a b e = let y : (eqb w 3 || eqb w 5) ≡ true = rw (← e) h in false_true (rw (ne_eqb w 3 a, ne_eqb w 5 b) at y)

  pub store_acts : {n : ℕ} {o' v' : List ℤ} → (eqb k 3 || eqb k 5) ≡ false → n ≡ (row_in rows at).target → o' ≡ cond (eqb k 1) (set o n z) o
      → v' ≡ cond (eqb k 2) (set v n z) v
      → Acts (row_in rows at) at (fine z) o v (fine (Performed (at + 1) (at + 1))) o' v'
  store_acts h p s u =
      record {
        effect = effect_by (sym (no_parts k (fine (branch_of (is_one z) at (row_in rows at).other (row_in rows at).end)) (fine (Performed (at + 1) (at + 1))) h));
        outputs = rw (← m.kind, ← p) s;
        variables = rw (← m.kind, ← p) u;
      }

-- a .. b inside at .. next
pub nested_true : (r : Bool) (at a b next : ℕ) → r ≡ (ltb at a && (leb a b && leb b next)) → r ≡ true → (at < a) × ((a ≤ b) × (b ≤ next))
nested_true r at a b next e h =
    let z : (ltb at a && (leb a b && leb b next)) ≡ true = sym e ∙ h in
    let y = and_right (ltb at a) (leb a b && leb b next) z in (
      ltb-true at a (and_left (ltb at a) (leb a b && leb b next) z),
      (leb-true a b (and_left (leb a b) (leb b next) y), leb-true b next (and_right (leb a b) (leb b next) y)),
    )

pub nested_false : (r : Bool) (at a b next : ℕ) → r ≡ (ltb at a && (leb a b && leb b next)) → r ≡ false → at < a → a ≤ b → b ≤ next → ⊥
nested_false r at a b next e h x y z =
    let n : (ltb at a && (leb a b && leb b next)) ≡ true = rw (lt-ltb at a x, le-leb a b y, le-leb b next z) in
    false_true (sym h ∙ (e ∙ n))

module _ (codes : List ℕ) (args : List ℤ) (rows : List ℕ) (i : List ℤ) (at next count : ℕ) (o v o' v' : List ℤ) (m : Out Effect) where
  -- statement `at` has had the effect m, and left o' and v'
  abbrev Done : Type 0
  Done = Acts (row_in rows at) at (value_of codes args i v (row_in rows at)) o v m o' v'

  says : {f : Stmt} (w : List ℕ) → Done → Single f → HeldIn codes args rows f at next
      → EffectSays codes args rows i at next w (start f at i (run w o v)) m o' v'
  says {f} w d s h = rw (d.effect, d.outputs, d.variables) (effect_says codes args rows i at next w o v s h)

  pub waits_stand : {f : Stmt} (w : List ℕ) → Done → m ≡ fine Waits → Single f → HeldIn codes args rows f at next → length w ≡ count
      → Stands (start f at i (run w o v)) (Reached at (count + 1)) o' v'
  waits_stand w d e s h n = record { is = (w ++ (at ∷ []), (way_length w at count n, rw e at (says w d s h))) }

  pub refuses_stand : {f : Stmt} (w : List ℕ) (q : Fault) → Done → m ≡ fault (number_of q) → Single f → HeldIn codes args rows f at next
      → Stands (start f at i (run w o v)) (RefusedAt q at) o' v'
  refuses_stand w q d e s h = record { is = rw e at (says w d s h) }

  module _ (a b : ℕ) (r : Progress) (o'' v'' : List ℤ) where
    pub enters_stand : {f : Stmt} (w : List ℕ) → Done → m ≡ fine (Performed a b)
        → ((q : Option Stmt) (u : List ℕ) → HeldRest codes args rows q a b → length u ≡ count + 1 → Stands (start_rest q a i (run u o' v')) r o'' v'')
        → Single f → HeldIn codes args rows f at next → length w ≡ count → Stands (start f at i (run w o v)) r o'' v''
    enters_stand {f} w d e k s h n =
        let p : Inner codes args rows i at next w (start f at i (run w o v)) a b o' v' = rw e at (says w d s h) in
        rw p.same (k p.block (w ++ (at ∷ [])) p.held (way_length w at count n))

  pub never_outside : {f : Stmt} (w : List ℕ) (a b : ℕ) (x : Bool) → Done → m ≡ fine (Performed a b) → x ≡ (ltb at a && (leb a b && leb b next)) → x ≡ false
      → Single f → HeldIn codes args rows f at next → ⊥
  never_outside {f} w a b x d e g y s h =
      let p : Inner codes args rows i at next w (start f at i (run w o v)) a b o' v' = rw e at (says w d s h) in
      nested_false x at a b next g y p.low p.mid p.high
