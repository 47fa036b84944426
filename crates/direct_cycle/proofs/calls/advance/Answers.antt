-- `direct_cycle::calls::advance` meets its contract: 14 is judged as the definition judges it. Assumes nothing.
use Prim.Native.Nat.{ℕ}
use native.Mathlib.Omega.{arith}
use mathlib.Core.Path.{◌≡◌, ap, ◌∙◌}
use mathlib.Core.Option.{Option}
use lib.ListN.{length}
use Rattle.direct_cycle.specs.Checks.{check_of}
use Rattle.direct_cycle.proofs.CallLaws.{row_law, row_right, call_row}
use borrow.Author.Rules.{rules}
use Rattle.direct_cycle.proofs.calls.advance.Goals as goal

pub slice_bounds-row_check-end : goal.slice_bounds-row_check-end
slice_bounds-row_check-end c =
    let l : length c.args.d.inputs.types ≡ 32 = search rules in
    let b = c.requires.2 in omega arith

pub returns-in-Ok : goal.returns-in-Ok
returns-in-Ok c =
    λ p h w.
    let a = c.args in
    c.judged.ensures p h w
    (row_right p a.s a.inputs.now a.row.now c.row_check-check.result
    (c.row_check-check.ensures
    ∙ ap (λ (x : Option ℕ). check_of x) (row_law p a.d a.inputs.now (length a.row.now) h.declared))
    c.in-Ok.is)

pub returns-in-Err : goal.returns-in-Err
returns-in-Err c =
    λ p h w.
    let a = c.args in
    call_row p a.s a.inputs.now a.row.now c.in-Err.k c.row_check-check.result
    (c.row_check-check.ensures
    ∙ ap (λ (x : Option ℕ). check_of x) (row_law p a.d a.inputs.now (length a.row.now) h.declared)) c.in-Err.is
    c.refused.result c.refused.ensures
