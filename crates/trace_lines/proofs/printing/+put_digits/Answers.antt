-- The proof of the cycle of calls {put_digits}. The measure is the number, of which a call gets a tenth. Assumes nothing.
use mathlib.Core.Path.{◌≡◌, subst}
use native.Mathlib.Omega.{arith}
use native.Mathlib.Nat.{div-lt_self}
use Rattle.trace_lines.proofs.PrintingLaws.{digits_few, digits_more}
use Prim.Native.Nat.{ℕ, ◌/◌, ◌≤◌, ◌<◌}
use Rattle.trace_lines.proofs.printing.+put_digits.Goals as goal

-- a tenth is less
fall : (n t : ℕ) → 10 ≤ n → n ≡ t → n / 10 < t
fall n t h e = subst (λ (k : ℕ). n / 10 < k) e (div-lt_self (omega arith) (omega arith))

pub returns-then-n-lt-TEN : goal.returns-then-n-lt-TEN
returns-then-n-lt-TEN t c =
    λ f h. digits_few _ _ _ _ _ _ f c.if-n-lt-TEN.true
    c.digit_byte.ensures c.put.ensures

pub put_digits-next-requires : goal.put_digits-next-requires
put_digits-next-requires t c = (fall _ _ c.if-n-lt-TEN.false c.decreases, tt)

pub returns : goal.returns
returns t c =
    λ f h. digits_more _ _ _ _ _ _ _ _ f c.if-n-lt-TEN.false h
    c.put_digits-next.ensures c.digit_byte-2.ensures
    c.put-2.ensures
