-- `api_rattle::part` meets its contract: the bytes lie in those that are lent, or the part is empty. Assumes nothing.
use Prim.Native.Nat.{◌+◌}
use Rattle.api_rattle.proofs.TokenLent.{lent_empty, past_start, past_end}
use Rattle.api_rattle.proofs.part.Goals as goal

pub returns-then-bytes-start : goal.returns-then-bytes-start
returns-then-bytes-start c =
    lent_empty c.args.bytes c.args.start
    (c.args.start + c.args.n) _ c.between.ensures
    (past_start c.args.bytes.now c.args.start c.args.n
    c.if-bytes-start.true)

pub returns-then-bytes-start-2 : goal.returns-then-bytes-start-2
returns-then-bytes-start-2 c =
    lent_empty c.args.bytes c.args.start
    (c.args.start + c.args.n) _ c.between-then-bytes-start-2.ensures
    (past_end c.args.bytes.now c.args.start
    c.args.n c.if-bytes-start.false c.if-bytes-start-2.true)
