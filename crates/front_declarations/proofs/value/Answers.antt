-- `front_declarations::value` meets its contract: a sign and a number, or a literal. Assumes nothing.
use mathlib.Core.Path.{sym, ◌∙◌}
use borrow.Author.Tests.{eq-eqb, ne_eqb}
use lib.Dec.{lit<}
use Rattle.std.proofs.lemmas.Result.{err_from_is_err_and}
use Rattle.front_layout.specs.Tokens.{kind_in}
use Rattle.front_declarations.specs.Headers.{value_at}
use Rattle.front_cursor.proofs.Steps.{one_asks, expect_ended}
use Rattle.front_declarations.proofs.value.Goals as goal

pub returns-in_err-a : goal.returns-in_err-a
unfolding value_at
returns-in_err-a c =
    let p = err_from_is_err_and c.from_residual.result c.from_residual.ensures.1 in
    rw (
      p.1,
      p.2,
      sym c.in_err-a.ensures,
      eq-eqb (kind_in c.args.text.kinds.now c.args.text.count c.args.q.at) 12 (sym c.kind_at-kind.ensures ∙ c.if-kind-eq-MINUS.true),
    )
    (expect_ended c.args.text.kinds.now c.args.text.long.now c.args.text.count 2 _)

pub expect-requires-then-kind-eq-MINUS : goal.expect-requires-then-kind-eq-MINUS
expect-requires-then-kind-eq-MINUS c =
    let s = c.args in
    (lit< tt, one_asks s.text.kinds.now s.text.long.now 12 (lit< tt) c.requires c.in_ok-a.ensures)

pub returns-then-kind-eq-MINUS : goal.returns-then-kind-eq-MINUS
unfolding value_at
returns-then-kind-eq-MINUS c =
    c.expect-then-kind-eq-MINUS.ensures ∙ rw (
      sym c.in_ok-a.ensures,
      eq-eqb (kind_in c.args.text.kinds.now c.args.text.count c.args.q.at) 12 (sym c.kind_at-kind.ensures ∙ c.if-kind-eq-MINUS.true),
    )

pub returns : goal.returns
unfolding value_at
returns c =
    c.expect-2.ensures ∙ rw (
      c.literal_kind.ensures,
      c.kind_at-kind.ensures,
      ne_eqb (kind_in c.args.text.kinds.now c.args.text.count c.args.q.at) 12 (λ e. c.if-kind-eq-MINUS.false (c.kind_at-kind.ensures ∙ e)),
    )
