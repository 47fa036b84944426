-- `api_rattle::between` meets its contract: the part lies in the bytes, or it is empty. Assumes nothing.
use mathlib.Core.Path.{refl}
use native.Mathlib.Omega.{arith}
use Rattle.api_rattle.proofs.LendingLaws.{lent, not_lent, crossed, beyond}
use Rattle.api_rattle.proofs.between.Goals as goal

pub returns-then-end-start : goal.returns-then-end-start
returns-then-end-start c =
    not_lent c.args.bytes _ c.args.start c.args.end
    (crossed c.args.bytes.now c.args.start c.args.end c.if-end-start.true) refl refl
    (omega arith)

pub returns-then-bytes-end : goal.returns-then-bytes-end
returns-then-bytes-end c =
    not_lent c.args.bytes _ c.args.start c.args.end
    (beyond c.args.bytes.now c.args.start c.args.end
    c.if-end-start.false c.if-bytes-end.true) refl refl (omega arith)

pub returns : goal.returns
returns c =
    lent c.args.bytes _ c.args.start c.args.end
    c.if-end-start.false c.if-bytes-end.false refl refl (omega arith)
