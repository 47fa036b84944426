-- `front_statements::null_statement` meets its contract: one token after the first, then the row. Assumes nothing.
use mathlib.Core.Path.{refl}
use native.Mathlib.Omega.{arith}
use lib.Dec.{lit<}
use Rattle.std.proofs.lemmas.Result.{err_from_is_err_and}
use Rattle.front_layout.specs.Tokens.{flag_in}
use Rattle.front_cursor.proofs.Steps.{kind_inside, unread_ends, expect_ended}
use Rattle.front_statements.specs.Listings.{listing_here}
use Rattle.front_statements.proofs.Steps.{cursor_asks, stepped_asks, begin_steps, statement_halted}
use Rattle.front_statements.proofs.Simple.{null_read}
use Rattle.front_statements.proofs.null_statement.Goals as goal

pub returns-in_err-a : goal.returns-in_err-a
returns-in_err-a c x =
    let s = c.args in
    let p = err_from_is_err_and c.from_residual.result c.from_residual.ensures.1 in
    rw (p.1, p.2)
    (null_read c.requires.0 c.requires.1 c.in_err-a.ensures (expect_ended s.text.kinds.now s.text.long.now s.text.count 7 _) (λ z. absurd (unread_ends _ z)) x)

pub expect-requires : goal.expect-requires
expect-requires c =
    let s = c.args in
    let h = c.requires.0 in
    let q = listing_here s.p in
    let i = kind_inside s.text.kinds.now s.text.count s.p.cursor.at 34 c.requires.1 (lit< tt) in
    let b = begin_steps {p = q} (flag_in s.text.long.now s.p.cursor.at) s.depth s.p.cursor.items h i h.few c.in_ok-a.ensures in
    (lit< tt, cursor_asks (stepped_asks h b.steps))

pub returns-in_err-b : goal.returns-in_err-b
returns-in_err-b c x =
    let p = err_from_is_err_and c.from_residual-in_err-b.result c.from_residual-in_err-b.ensures.1 in
    rw (p.1, p.2)
    (statement_halted c.in_ok-a.a.statements _ c.requires.0
    (null_read c.requires.0 c.requires.1 c.in_ok-a.ensures c.in_err-b.ensures (λ z. absurd (unread_ends _ z)) x))

pub finish-requires : goal.finish-requires
finish-requires c =
    let s = c.args in
    let h = c.requires.0 in
    let q = listing_here s.p in
    let i = kind_inside s.text.kinds.now s.text.count s.p.cursor.at 34 c.requires.1 (lit< tt) in
    let b = begin_steps {p = q} (flag_in s.text.long.now s.p.cursor.at) s.depth s.p.cursor.items h i h.few c.in_ok-a.ensures in
    let g = b.one refl in
    let m = b.steps.moves in
    omega arith

pub returns : goal.returns
returns c x = null_read c.requires.0 c.requires.1 c.in_ok-a.ensures c.in_ok-b.ensures (λ z. c.finish.ensures) x
