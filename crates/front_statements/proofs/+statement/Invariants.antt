use Prim.Native.Nat.{◌+◌, ◌*◌, ◌-◌}
use Rattle.front_layout.specs.Items.{arrays}
use Rattle.front_layout.specs.Rows.{output}
use Rattle.front_statements.specs.Listings.{listing_here}
use Rattle.front_statements.proofs.Bodies.{FurtherOver}
use Rattle.front_statements.proofs.+statement.Given as goal

abbrev pub decreases-statement_list : goal.decreases-statement_list
decreases-statement_list l = 8 * (l.text.count - l.p.cursor.at) + 3

abbrev pub decreases-else_part : goal.decreases-else_part
decreases-else_part l = 8 * (l.text.count - l.p.cursor.at) + 4

abbrev pub decreases-if_statement : goal.decreases-if_statement
decreases-if_statement l = 8 * (l.text.count - l.p.cursor.at) + 1

abbrev pub decreases-statement : goal.decreases-statement
decreases-statement l = 8 * (l.text.count - l.p.cursor.at) + 2

abbrev pub decreases-while_statement : goal.decreases-while_statement
decreases-while_statement l = 8 * (l.text.count - l.p.cursor.at) + 1

abbrev pub invariant-statement_list-loop-text : goal.invariant-statement_list-loop-text
invariant-statement_list-loop-text l = FurtherOver l.text.kinds.now l.text.long.now l.text.count (listing_here l.initial.a) l.depth (output (arrays l.initial.codes l.initial.tokens) l.initial.rows) (listing_here l.a) (output (arrays l.codes l.tokens) l.rows)

abbrev pub decreases-statement_list-loop-text : goal.decreases-statement_list-loop-text
decreases-statement_list-loop-text l = l.text.count - l.a.cursor.at
