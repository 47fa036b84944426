-- `front_scope::judge` meets its contract: the lowest place by position is exact. Assumes nothing.
use Rattle.std.proofs.Common.{rules}
use Rattle.spec_language.specs.Names.{names}
use Rattle.front_offences.proofs.Judged.{judged}
use Rattle.front_scope.specs.Positions.{lowest_in}
use Rattle.front_scope.proofs.Exact.{exact}
use Rattle.front_scope.proofs.judge.Goals as goal

pub returns : goal.returns
unfolding lowest_in
returns c = judged names (exact _ _ _ _ _ _ _ _ _) (search rules)
