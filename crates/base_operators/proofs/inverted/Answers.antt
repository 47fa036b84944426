-- `base_operators::inverted` meets its contract: the other truth value. Assumes nothing.
use mathlib.Core.Path.{ap, ◌∙◌}
use mathlib.Core.Bool.{Bool, not}
use Rattle.std.proofs.Common.{rules}
use mir.Facts.{to_z-of_z}
use mir.Val.{SFits}
use mir.Syntax.{w32}
use Rattle.spec_design.specs.Expression.{fine, logical_type, type_of_unary}
use Rattle.spec_semantics.specs.Evaluation.{bit_of, unary_result, apply_unary}
use Rattle.base_operators.proofs.inverted.Goals as goal

pub returns : goal.returns
unfolding type_of_unary logical_type apply_unary unary_result
returns c =
    let fit : SFits w32 c.from_bool.result = search rules in
    rw (to_z-of_z fit) (ap fine c.from_bool.ensures ∙ ap (λ (b : Bool). fine (bit_of (not b))) (rw (to_z-of_z c.ranges.x) at c.is_one.ensures))
