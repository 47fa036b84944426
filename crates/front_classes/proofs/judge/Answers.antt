-- `front_classes::judge` meets its contract: the offences of the whole body, or where there are none its class. Assumes nothing.
use Rattle.std.proofs.Common.{rules}
use Rattle.spec_language.specs.Classes.{loops}
use Rattle.front_offences.proofs.Judged.{judged}
use Rattle.front_classes.proofs.Steps.{lowest_is}
use Rattle.front_classes.proofs.Exact.{exact}
use Rattle.front_classes.proofs.judge.Goals as goal

pub returns : goal.returns
returns c = judged loops (exact _ _ _) (lowest_is _ _ _ _ _ c.min-end.ensures c.block-body.ensures _ (search rules))
