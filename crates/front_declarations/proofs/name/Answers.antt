-- `front_declarations::name` meets its contract: each return is an arm of `name_at`. Assumes nothing.
use mathlib.Core.Path.{sym, ◌∙◌}
use borrow.Author.Tests.{eq-eqb, ne_eqb}
use Rattle.front_layout.specs.Tokens.{kind_in}
use lib.ListN.{get_or}
use Rattle.front_declarations.specs.Headers.{name_at}
use Rattle.front_declarations.proofs.name.Goals as goal

pub returns-then-kind_at-ne-NAME : goal.returns-then-kind_at-ne-NAME
unfolding name_at
returns-then-kind_at-ne-NAME c =
    rw (ne_eqb (kind_in c.args.text.kinds.now c.args.text.count c.args.p.cursor.at) 1 (λ e. c.if-kind_at-ne-NAME.true (c.kind_at.ensures ∙ e)))

pub returns-then-text-at-eq1 : goal.returns-then-text-at-eq1
unfolding name_at
returns-then-text-at-eq1 c =
    rw (
      eq-eqb (kind_in c.args.text.kinds.now c.args.text.count c.args.p.cursor.at) 1 (sym c.kind_at.ensures ∙ c.if-kind_at-ne-NAME.false),
      c.if-text-at-eq1.true,
    )

pub returns : goal.returns
unfolding name_at
returns c =
    c.declared.ensures ∙ rw (
      eq-eqb (kind_in c.args.text.kinds.now c.args.text.count c.args.p.cursor.at) 1 (sym c.kind_at.ensures ∙ c.if-kind_at-ne-NAME.false),
      ne_eqb (get_or c.args.text.long.now c.args.p.cursor.at 0) 1 c.if-text-at-eq1.false,
    )
