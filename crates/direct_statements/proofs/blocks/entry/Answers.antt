-- `direct_statements::blocks::entry` meets its contract: past the end the number is 0. Assumes nothing.
use mathlib.Core.Path.{sym}
use native.Mathlib.Omega.{arith}
use lib.ListN.{get_or-eq_default}
use borrow.Author.Rules.{rules}
use Rattle.direct_statements.proofs.blocks.entry.Goals as goal

pub overflow_cast-result : goal.overflow_cast-result
overflow_cast-result c = omega (arith, c.shared_slice_known-1.given c.args.k)

pub returns-then-k-rows : goal.returns-then-k-rows
returns-then-k-rows c = record { value = search rules; upper_bound = omega (arith, c.shared_slice_known-1.given c.args.k) }

pub returns-else-k-rows : goal.returns-else-k-rows
returns-else-k-rows c = record { value = sym (get_or-eq_default c.args.rows.now 0 c.if-k-rows.false); upper_bound = omega arith }
