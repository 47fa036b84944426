-- A length that does not divide into rows is not their due. Assumes nothing.
use mathlib.Core.Path.{◌≡◌, sym, ap, ◌∙◌}
use mathlib.Core.Bool.{false}
use Prim.Native.Nat.{ℕ, ◌*◌, ◌%◌}
use native.Mathlib.Nat.{mul-mod_left}
use lib.Dec.{eqb}
use borrow.Author.Tests.{ne_eqb}

module _ (l n w : ℕ) where
  -- what is left over is no row's
  pub due_rest : (l % w ≡ 0 → ⊥) → false ≡ eqb l (n * w)
  due_rest h = sym (ne_eqb l (n * w) (λ e. h (ap (λ (x : ℕ). x % w) e ∙ mul-mod_left n w)))
