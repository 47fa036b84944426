-- Why an expression has no value, as the code answers it: the number of document 01's table that each fault is, and the outcome that an answer tells.
-- Assumes nothing.
use Rattle.std.specs.Prelude.{ℕ, Result, Ok, Err}
use Rattle.spec_design.specs.Expression.{Out, fine, fault}
use Rattle.base_codes.specs.declared.fault.Fault.{Fault}
use Rattle.base_codes.specs.declared.fault.Fault.TheVariants.{NoExpression, OutOfRange, ZeroDivisor}

-- the rows "lines or code", "result .. outside integer" and "zero divisor"
abbrev pub number_of : Fault → ℕ
number_of NoExpression = 13
number_of OutOfRange = 16
number_of ZeroDivisor = 18

-- the outcome that an answer tells: its value, or the number of its refusal
abbrev pub outcome : {X : Type 0} → Result X Fault → Out X
outcome (Ok x) = fine x
outcome (Err q) = fault (number_of q)
