-- `front_typing::expression::name_type` meets its contract: its tests are those of `name_code`. Assumes nothing.
use Rattle.std.proofs.Common.{rules}
use Rattle.front_typing.specs.Expressions.{name_code}
use Rattle.front_typing.proofs.expression.name_type.Goals as goal

pub returns-then-i-lt-TEXT : goal.returns-then-i-lt-TEXT
unfolding name_code
returns-then-i-lt-TEXT c = search rules

pub returns-else-i-lt-TEXT : goal.returns-else-i-lt-TEXT
unfolding name_code
returns-else-i-lt-TEXT c = search rules
