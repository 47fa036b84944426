-- `front_values::judge` meets its contract: the lowest place by position is exact. Assumes nothing.
use Rattle.std.proofs.Common.{rules}
use Rattle.spec_language.specs.Values.{values}
use Rattle.front_offences.proofs.Judged.{judged}
use Rattle.front_values.specs.Positions.{value_at}
use Rattle.front_values.proofs.Exact.{exact}
use Rattle.front_values.proofs.judge.Goals as goal

pub returns : goal.returns
returns c =
    let a = c.args in
    judged values (exact _ _ _)
    (rw c.min-end.ensures at (c.lowest_below.ensures (value_at a.decls.now a.starts.now a.shape.tokens) (λ j h r p. search rules)))
