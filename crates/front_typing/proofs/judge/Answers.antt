-- `front_typing::judge` meets its contract: the lowest place by position is exact. Assumes nothing.
use Rattle.std.proofs.Common.{rules}
use Rattle.spec_language.specs.Typing.{types}
use Rattle.front_offences.proofs.Judged.{judged}
use Rattle.front_typing.proofs.Exact.{exact}
use Rattle.front_typing.proofs.judge.Goals as goal

pub returns : goal.returns
returns c = judged types (exact _ _ _ _ _ _ _) (search rules)
