-- `front_declarations::put_rows` meets its contract: the invariant is that the rows still to be stored make what all of them make. Assumes nothing.
use mathlib.Core.Path.{◌≡◌, subst}
use Prim.Native.Nat.{ℕ, ◌+◌, ◌*◌, ◌-◌}
use native.Mathlib.Omega.{arith}
use Rattle.front_declarations.proofs.RowLists.{Storing, storing_first, storing_again, storing_done}
use Rattle.front_declarations.proofs.put_rows.Goals as goal

pub loop-k-init : goal.loop-k-init
loop-k-init c =
    let s = c.args in
    let e : s.at ≡ s.at + 2 * (s.i - s.i) = omega arith in (
      omega arith,
      subst (λ (m : ℕ). Storing s.g s.i s.j s.at s.decls.now s.i m s.decls.now) e (storing_first s.g s.i s.j s.at s.decls.now c.requires.1),
    )

pub loop-k-preserved : goal.loop-k-preserved
loop-k-preserved c =
    let s = c.args in
    let k = c.loop-k.k in
    let low = c.loop-k.invariant.0 in
    let e : s.at + 2 * (k - s.i) + 2 ≡ s.at + 2 * (k + 1 - s.i) = omega arith in (
      omega arith,
      subst (λ (m : ℕ). Storing s.g s.i s.j s.at s.decls.now (k + 1) m c.put_row.new.decls) e
          (storing_again c.loop-k.invariant.1 (omega arith) c.put_row.ensures),
    )

pub returns : goal.returns
returns c = storing_done c.loop-k.invariant.1 (omega arith)
