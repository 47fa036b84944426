-- IEEE 1076's sentences on division have one solution: two quotients of one division differ by a multiple of the divisor that is smaller than it, so by 0.
-- Assumes nothing.
use Prim.Native.Nat.{ℕ, zero, suc, ◌*◌, ◌<◌}
use mathlib.Core.Path.{◌≡◌, refl, sym, ap, ◌∙◌}
use mathlib.Core.Logic.{◌⊎◌, inl, inr}
use mathlib.Core.Bool.{Bool, true, false}
use native.Mathlib.Omega.{arith}
use native.Mathlib.Nat.{suc-mul}
use lib.IntN.{ℤ, pos, negsuc, suc_ℤ, pred_ℤ, neg_ℤ, ◌+ℤ◌, ◌-ℤ◌, ◌*ℤ◌, nat_abs, +ℤ_idl, +ℤ_idr, +ℤ_comm, +ℤ_assoc, suc_ℤ-+ℤ, pred_ℤ-+ℤ, +ℤ-neg_ℤ_cancel, -ℤ-+ℤ_cancel}
use lib.IntN.{zero-*ℤ, suc_ℤ-*ℤ, pred_ℤ-*ℤ, *ℤ_comm}
use Rattle.spec_semantics.specs.Division.{negative, Divided}
use Rattle.spec_semantics.proofs.Divided.{abs_neg, sub_case}

-- INTEGERS
-- (u + v) + w = (u + w) + v
exchange : (u v w : ℤ) → (u +ℤ v) +ℤ w ≡ (u +ℤ w) +ℤ v
exchange u v w = +ℤ_assoc u v w ∙ (ap (λ z. u +ℤ z) (+ℤ_comm v w) ∙ sym (+ℤ_assoc u w v))

cancel : (u v w : ℤ) → u +ℤ v ≡ u +ℤ w → v ≡ w
cancel u v w e =
    sym (+ℤ-neg_ℤ_cancel v u) ∙ (ap (λ z. z -ℤ u) (+ℤ_comm v u ∙ (e ∙ +ℤ_comm u w)) ∙ +ℤ-neg_ℤ_cancel w u)

-- one step of a product that is shared out
next_up : (x y k : ℤ) → (x +ℤ y) *ℤ k ≡ x *ℤ k +ℤ y *ℤ k → (suc_ℤ x +ℤ y) *ℤ k ≡ suc_ℤ x *ℤ k +ℤ y *ℤ k
next_up x y k e =
    ap (λ z. z *ℤ k) (suc_ℤ-+ℤ x y)
    ∙ (suc_ℤ-*ℤ (x +ℤ y) k ∙ (ap (λ z. z +ℤ k) e ∙ (exchange (x *ℤ k) (y *ℤ k) k ∙ ap (λ z. z +ℤ y *ℤ k) (sym (suc_ℤ-*ℤ x k)))))

next_down : (x y k : ℤ) → (x +ℤ y) *ℤ k ≡ x *ℤ k +ℤ y *ℤ k → (pred_ℤ x +ℤ y) *ℤ k ≡ pred_ℤ x *ℤ k +ℤ y *ℤ k
next_down x y k e =
    ap (λ z. z *ℤ k) (pred_ℤ-+ℤ x y)
    ∙ (pred_ℤ-*ℤ (x +ℤ y) k ∙ (ap (λ z. z -ℤ k) e ∙ (exchange (x *ℤ k) (y *ℤ k) (neg_ℤ k) ∙ ap (λ z. z +ℤ y *ℤ k) (sym (pred_ℤ-*ℤ x k)))))

nothing_out : (y k : ℤ) → (pos 0 +ℤ y) *ℤ k ≡ pos 0 *ℤ k +ℤ y *ℤ k
nothing_out y k = ap (λ z. z *ℤ k) (+ℤ_idl y) ∙ (sym (+ℤ_idl (y *ℤ k)) ∙ ap (λ z. z +ℤ y *ℤ k) (sym (zero-*ℤ k)))

shared_out : (x y k : ℤ) → (x +ℤ y) *ℤ k ≡ x *ℤ k +ℤ y *ℤ k
shared_out (pos zero) y k = nothing_out y k
shared_out (pos (suc n)) y k = next_up (pos n) y k (shared_out (pos n) y k)
shared_out (negsuc zero) y k = next_down (pos zero) y k (nothing_out y k)
shared_out (negsuc (suc n)) y k = next_down (negsuc n) y k (shared_out (negsuc n) y k)

abs_mul : (d b : ℤ) → nat_abs (d *ℤ b) ≡ nat_abs d * nat_abs b
abs_mul (pos d) (pos b) = refl
abs_mul (pos d) (negsuc b) = abs_neg (d * suc b)
abs_mul (negsuc d) (pos b) = abs_neg (suc d * b)
abs_mul (negsuc d) (negsuc b) = refl

-- a multiple of b that is smaller than b is 0
small_multiple : (d b : ℤ) → nat_abs (d *ℤ b) < nat_abs b → d ≡ pos 0
small_multiple d b h = go d (rw (abs_mul d b) at h)
  where
    more : (n m : ℕ) → suc n * m < m → {P : Type 0} → P
    more n m l = let e = suc-mul n m in absurd (omega arith)

    go : (d : ℤ) → nat_abs d * nat_abs b < nat_abs b → d ≡ pos 0
    go (pos zero) l = refl
    go (pos (suc n)) l = more n (nat_abs b) l
    go (negsuc n) l = more n (nat_abs b) l

-- two integers below n in size, each 0 or with the sign p, differ by less than n
abbrev Signed : Bool → ℤ → Type 0
Signed p r = (r ≡ pos 0) ⊎ (negative r ≡ p)

minus_pos : (s r n : ℕ) → s < n → r < n → nat_abs (pos s -ℤ pos r) < n
minus_pos s zero n h k = omega arith
minus_pos s (suc r) n h k = sub_case (λ z. nat_abs z < n) s (suc r) (λ l. omega arith) (λ l. omega arith)

differ_less : (p : Bool) (r s : ℤ) (n : ℕ) → Signed p r → Signed p s → nat_abs r < n → nat_abs s < n → nat_abs (s -ℤ r) < n
differ_less p (pos r) (pos s) n f g h k = minus_pos s r n k h
differ_less p (negsuc r) (negsuc s) n f g h k = sub_case (λ z. nat_abs z < n) (suc r) (suc s) (λ l. omega arith) (λ l. omega arith)
differ_less true (pos r) (negsuc s) n (inl f) g h k = let z : r ≡ 0 = cc in rw (z, +ℤ_idr (negsuc s)) k
differ_less true (pos r) (negsuc s) n (inr f) g h k = absurd (let z : ◌≡◌ {A = ℕ} 0 1 = cc in omega arith)
differ_less false (pos r) (negsuc s) n f (inl g) h k = absurd (let z : ◌≡◌ {A = ℕ} 0 1 = cc in omega arith)
differ_less false (pos r) (negsuc s) n f (inr g) h k = absurd (let z : ◌≡◌ {A = ℕ} 0 1 = cc in omega arith)
differ_less true (negsuc r) (pos s) n f (inl g) h k = let z : s ≡ 0 = cc in rw z (omega arith)
differ_less true (negsuc r) (pos s) n f (inr g) h k = absurd (let z : ◌≡◌ {A = ℕ} 0 1 = cc in omega arith)
differ_less false (negsuc r) (pos s) n (inl f) g h k = absurd (let z : ◌≡◌ {A = ℕ} 0 1 = cc in omega arith)
differ_less false (negsuc r) (pos s) n (inr f) g h k = absurd (let z : ◌≡◌ {A = ℕ} 0 1 = cc in omega arith)

-- one division: times and rest are settled by the rest's sign and size
one_division : (p : Bool) (b x y r s : ℤ) → x *ℤ b +ℤ r ≡ y *ℤ b +ℤ s → Signed p r → Signed p s → nat_abs r < nat_abs b → nat_abs s < nat_abs b → (x ≡ y) × (r ≡ s)
one_division p b x y r s e f g h k = (same, cancel (y *ℤ b) r s (ap (λ z. z *ℤ b +ℤ r) (sym same) ∙ e))
  where
    d : ℤ
    d = x -ℤ y

    apart : d *ℤ b +ℤ r ≡ s
    apart =
        cancel (y *ℤ b) (d *ℤ b +ℤ r) s
        (sym (+ℤ_assoc (y *ℤ b) (d *ℤ b) r)
        ∙ (ap (λ z. z +ℤ r) (+ℤ_comm (y *ℤ b) (d *ℤ b) ∙ (sym (shared_out d y b) ∙ ap (λ z. z *ℤ b) (-ℤ-+ℤ_cancel x y))) ∙ e))

    multiple : d *ℤ b ≡ s -ℤ r
    multiple = sym (+ℤ-neg_ℤ_cancel (d *ℤ b) r) ∙ ap (λ z. z -ℤ r) apart

    none : d ≡ pos 0
    none = small_multiple d b (rw (multiple) (differ_less p r s (nat_abs b) f g h k))

    same : x ≡ y
    same = sym (-ℤ-+ℤ_cancel x y) ∙ (ap (λ z. z +ℤ y) none ∙ +ℤ_idl y)

-- THE LAW: quotient, remainder and modulus are settled by IEEE 1076's sentences
pub divided_once : (a b q r m q' r' m' : ℤ) → Divided a b q r m → Divided a b q' r' m' → (q ≡ q') × (r ≡ r') × (m ≡ m')
divided_once a b q r m q' r' m' d e =
    let u = one_division (negative a) b q q' r r' (sym d.whole ∙ e.whole) d.rem_sign e.rem_sign d.rem_small e.rem_small in
    let n = d.times in
    let n' = e.times in
    let w : n *ℤ b +ℤ m ≡ n' *ℤ b +ℤ m' = ap (λ z. z +ℤ m) (*ℤ_comm n b) ∙ (sym d.mod_whole ∙ (e.mod_whole ∙ ap (λ z. z +ℤ m') (*ℤ_comm b n'))) in
    (u.0, u.1, (one_division (negative b) b n n' m m' w d.mod_sign e.mod_sign d.mod_small e.mod_small).1)
