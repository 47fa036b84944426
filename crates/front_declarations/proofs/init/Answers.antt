-- `front_declarations::init` meets its contract: a value where := stands, or nothing. Assumes nothing.
use mathlib.Core.Path.{◌≡◌, sym, ◌∙◌}
use mathlib.Core.Bool.{true, false}
use lib.Dec.{lit<, eqb}
use Rattle.std.proofs.lemmas.Result.{err_from_is_err_and}
use Rattle.front_layout.specs.Tokens.{kind_in}
use Rattle.front_cursor.specs.Reading.{follows_at}
use Rattle.front_cursor.proofs.Steps.{one_asks}
use Rattle.front_declarations.specs.Headers.{init_at}
use Rattle.front_declarations.proofs.Values.{value_ended}
use Rattle.front_declarations.proofs.init.Goals as goal

pub returns-then-not-follows : goal.returns-then-not-follows
unfolding init_at follows_at
returns-then-not-follows c =
    let f : eqb (kind_in c.args.text.kinds.now c.args.text.count c.args.q.at) 10 ≡ false = sym c.if-not-follows.ensures in rw f

pub returns-in_err-a : goal.returns-in_err-a
unfolding init_at follows_at
returns-in_err-a c =
    let p = err_from_is_err_and c.from_residual.result c.from_residual.ensures.1 in
    let f : eqb (kind_in c.args.text.kinds.now c.args.text.count c.args.q.at) 10 ≡ true = sym c.if-not-follows.ensures in
    rw (p.1, p.2, sym c.in_err-a.ensures, f) (value_ended c.args.text.kinds.now c.args.text.long.now c.args.text.count _)

pub value-requires : goal.value-requires
value-requires c =
    let s = c.args in
    one_asks s.text.kinds.now s.text.long.now 10 (lit< tt) c.requires c.in_ok-a.ensures

pub returns : goal.returns
unfolding init_at follows_at
returns c =
    let f : eqb (kind_in c.args.text.kinds.now c.args.text.count c.args.q.at) 10 ≡ true = sym c.if-not-follows.ensures in
    c.value.ensures ∙ rw (sym c.in_ok-a.ensures, f)
