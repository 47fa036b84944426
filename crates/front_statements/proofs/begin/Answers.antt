-- `front_statements::begin` meets its contract: each return is an arm of `begin_at`. Assumes nothing.
use borrow.Author.Tests.{ne_eqb, le-leb, lt-leb, lt-ltb, le-ltb}
use lib.ListN.{get_or}
use Rattle.front_statements.specs.Listings.{begin_at}
use Rattle.front_statements.proofs.begin.Goals as goal
use Rattle.front_statements.proofs.begin.Goals.{then-text-q-eq1-via-then-text-q-eq1, then-text-q-eq1-via-else-text-q-eq1+then-p-ge-STATEMENTS, then-text-q-eq1-via-else-text-q-eq1+else-p-ge-STATEMENTS+then-depth-gt-DEPTH}

pub returns-then-text-q-eq1 : goal.returns-then-text-q-eq1
unfolding begin_at
returns-then-text-q-eq1 c =
    elim c.then-text-q-eq1.branch [
      | then-text-q-eq1-via-then-text-q-eq1 w ↦ rw w.if-text-q-eq1.true
      | then-text-q-eq1-via-else-text-q-eq1+then-p-ge-STATEMENTS w ↦
          rw (ne_eqb (get_or c.args.text.long.now c.args.p.cursor.at 0) 1 w.if-text-q-eq1.false, le-leb 512 c.args.p.statements w.if-p-ge-STATEMENTS.true)
      | then-text-q-eq1-via-else-text-q-eq1+else-p-ge-STATEMENTS+then-depth-gt-DEPTH w ↦
          rw (
            ne_eqb (get_or c.args.text.long.now c.args.p.cursor.at 0) 1 w.if-text-q-eq1.false,
            lt-leb 512 c.args.p.statements w.if-p-ge-STATEMENTS.false,
            lt-ltb 16 c.args.depth w.if-depth-gt-DEPTH.true,
          )
    ]

pub returns : goal.returns
unfolding begin_at
returns c =
    rw (
      ne_eqb (get_or c.args.text.long.now c.args.p.cursor.at 0) 1 c.if-text-q-eq1.false,
      lt-leb 512 c.args.p.statements c.if-p-ge-STATEMENTS.false,
      le-ltb 16 c.args.depth c.if-depth-gt-DEPTH.false,
    )
