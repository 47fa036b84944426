-- `direct_statements::blocks::store` meets its contract: a row of another kind is as it was, and so is one that has no such place. Assumes nothing.
use mathlib.Core.Path.{sym, ap}
use lib.ListN.{set}
use lib.Seq.{set_out}
use mir.Facts.{to_z-of_z}
use Rattle.direct_statements.proofs.StatementLaws.{other_kind, this_kind}
use borrow.Author.Rules.{rules}
use Rattle.direct_statements.proofs.blocks.store.Goals as goal

pub returns-then-k-w : goal.returns-then-k-w
returns-then-k-w c = other_kind _ _ _ _ c.if-k-w.true

pub returns-then-n-row : goal.returns-then-n-row
returns-then-n-row c =
    this_kind _ _ _ _ _ c.if-k-w.false
    (ap (λ z. set c.args.row.now c.args.n z) (to_z-of_z c.ranges.v))

pub returns-else-n-row : goal.returns-else-n-row
returns-else-n-row c = this_kind _ _ _ _ _ c.if-k-w.false (sym (set_out _ _ _ (search rules)))
