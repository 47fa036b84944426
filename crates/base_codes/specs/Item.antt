-- Items of expressions as the readers write them: an operator and a literal have their operation's code already; a name, of which only its declaration tells
-- whether it is an input or a variable, has that of an input until then. Assumes nothing.
use Rattle.std.specs.Prelude.{ℕ}
use Rattle.base_codes.specs.Operation.{INTEGER, STD_LOGIC, INPUT}

abbrev pub NAME : ℕ
NAME = INPUT

abbrev pub NUMBER : ℕ
NUMBER = INTEGER

-- '0' or '1'
abbrev pub BIT : ℕ
BIT = STD_LOGIC
