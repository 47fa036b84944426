-- `image_loader::code::apply_binary` meets its contract, by its tests. Assumes nothing.
use native.Mathlib.Omega.{arith}
use mathlib.Core.Path.{◌∙◌}
use Rattle.base_codes.specs.Types.{binary_type_for}
use lib.ListN.{get_or}
use Rattle.image_loader.proofs.Stack.{known, binary_none, binary_differ, binary_some}
use Rattle.image_loader.proofs.code.apply_binary.Goals as goal

pub returns-in_err-left : goal.returns-in_err-left
returns-in_err-left c = rw c.from_residual.ensures (binary_none c.args.k c.args.depth c.args.stack.now c.in_err-left.ensures c.requires.stack_len)

pub returns-then-t-stack : goal.returns-then-t-stack
returns-then-t-stack c =
    let a = c.args in
    let d = c.in_ok-left.ensures in
    binary_differ a.k c.in_ok-left.left a.depth a.stack.now (omega (arith, d.0, d.1)) c.if-t-stack.true c.requires.stack_len

pub returns : goal.returns
returns c =
    let a = c.args in
    let d = c.in_ok-left.ensures in
    let x = c.in_ok-left.left in
    binary_some a.k x a.depth a.stack.now (omega (arith, d.0, d.1)) c.if-t-stack.false
    (c.known.ensures ∙ known (binary_type_for a.k (get_or a.stack.now x 0)) c.binary_type.ensures) c.push.ensures
