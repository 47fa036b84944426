-- `front_declarations::mode` meets its contract: each return is an arm of `mode_at`. Assumes nothing.
use mathlib.Core.Path.{sym, ◌∙◌}
use borrow.Author.Tests.{ne_eqb}
use Rattle.front_declarations.specs.Headers.{mode_at}
use Rattle.front_declarations.proofs.mode.Goals as goal

pub returns-in-31 : goal.returns-in-31
unfolding mode_at
returns-in-31 c = c.inputs.ensures ∙ rw (sym c.kind_at.ensures ∙ c.in-31.is)

pub returns-in-32 : goal.returns-in-32
unfolding mode_at
returns-in-32 c = c.outputs.ensures ∙ rw (sym c.kind_at.ensures ∙ c.in-32.is)

pub returns-in_default : goal.returns-in_default
unfolding mode_at
returns-in_default c =
    rw (
      sym c.kind_at.ensures,
      ne_eqb c.kind_at.result 31 c.in_default.in_default-own.rest.0.1,
      ne_eqb c.kind_at.result 32 c.in_default.in_default-own.rest.1,
    )
