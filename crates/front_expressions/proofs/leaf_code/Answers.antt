-- `front_expressions::leaf_code` meets its contract: the tests are those of `leaf_code`. Assumes nothing.
use mathlib.Core.Path.{sym, ap}
use borrow.Author.Tests.{ne_eqb}
use Rattle.base_codes.specs.Token.{NAME, NUMBER}
use Rattle.front_expressions.specs.Tests.{leaf_code}
use Rattle.front_expressions.proofs.leaf_code.Goals as goal

pub returns-in-1 : goal.returns-in-1
returns-in-1 c = ap leaf_code (sym c.in-1.is)

pub returns-in-2 : goal.returns-in-2
returns-in-2 c = ap leaf_code (sym c.in-2.is)

pub returns-in_default : goal.returns-in_default
returns-in_default c =
    rw (ne_eqb c.args.kind NAME c.in_default.in_default-own.rest.0.1, ne_eqb c.args.kind NUMBER c.in_default.in_default-own.rest.1)
