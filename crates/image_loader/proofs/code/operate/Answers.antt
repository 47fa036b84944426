-- `image_loader::code::operate` meets its contract, by how many operands the first byte's operation takes. Assumes nothing.
use mathlib.Core.Path.{refl}
use native.Mathlib.Omega.{arith}
use Rattle.std.proofs.Common.{rules, ◌≢◌}
use Rattle.image_loader.specs.Code.{input_types, variable_types}
use Rattle.image_loader.proofs.Stack.{step_leaf, step_unary, step_binary}
use Rattle.image_loader.proofs.code.operate.Goals as goal

pub returns-in-0 : goal.returns-in-0
returns-in-0 c =
    let a = c.args in
    step_leaf (input_types a.signature.now) (variable_types a.signature.now) a.s.now a.at a.depth a.stack.now refl c.operands.ensures c.in-0.is c.leaf_type.ensures
    c.push.ensures

pub returns-in-1 : goal.returns-in-1
returns-in-1 c =
    let a = c.args in
    let n0 : c.operands.result ≢ 0 = omega arith in
    step_unary (input_types a.signature.now) (variable_types a.signature.now) a.s.now a.at a.depth a.stack.now refl c.operands.ensures n0 c.in-1.is
    c.apply_unary.ensures

pub returns-in_default : goal.returns-in_default
returns-in_default c =
    let a = c.args in
    let n0 : c.operands.result ≢ 0 = search rules in
    let n1 : c.operands.result ≢ 1 = search rules in
    step_binary (input_types a.signature.now) (variable_types a.signature.now) a.s.now a.at a.depth a.stack.now refl c.operands.ensures n0 n1
    c.apply_binary.ensures
