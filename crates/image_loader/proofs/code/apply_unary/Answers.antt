-- `image_loader::code::apply_unary` meets its contract, by its test. Assumes nothing.
use native.Mathlib.Omega.{arith}
use mathlib.Core.Path.{◌∙◌}
use Rattle.base_codes.specs.Types.{unary_type_for}
use lib.ListN.{get_or}
use Rattle.image_loader.proofs.Stack.{known, unary_none, unary_some}
use Rattle.image_loader.proofs.code.apply_unary.Goals as goal

pub returns-in_err-top : goal.returns-in_err-top
returns-in_err-top c = rw c.from_residual.ensures (unary_none c.args.k c.args.depth c.args.stack.now c.in_err-top.ensures c.requires.stack_len)

pub returns : goal.returns
returns c =
    let a = c.args in
    let d = c.in_ok-top.ensures in
    let x = c.in_ok-top.top in
    unary_some a.k x a.depth a.stack.now (omega (arith, d.0, d.1)) (c.known-t.ensures ∙ known (unary_type_for a.k (get_or a.stack.now x 0)) c.unary_type.ensures)
    c.push.ensures
