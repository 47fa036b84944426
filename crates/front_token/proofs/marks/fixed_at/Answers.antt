-- `front_token::marks::fixed_at` meets its contract: three bytes are compared, then two, then one. Assumes nothing.
use Rattle.front_token.proofs.MarkLaws.{fixed_three, fixed_two, fixed_one, fixed_none}
use Rattle.front_token.proofs.marks.fixed_at.Goals as goal

pub returns-in-Some : goal.returns-in-Some
returns-in-Some c = fixed_three _ _ _ _ c.requires c.byte_at-c.ensures c.byte_at-d.ensures _ c.in-Some.ensures

pub returns-in-Some-of_two : goal.returns-in-Some-of_two
returns-in-Some-of_two c =
    fixed_two _ _ _ _ c.requires c.byte_at-c.ensures c.byte_at-d.ensures c.in_default.ensures _ c.in-Some-of_two.ensures

pub returns-in-Some-of_one : goal.returns-in-Some-of_one
returns-in-Some-of_one c =
    fixed_one _ _ _ _ c.requires c.byte_at-c.ensures c.byte_at-d.ensures c.in_default.ensures c.in_default-of_two.ensures _ c.in-Some-of_one.ensures

pub returns-in_default-of_one : goal.returns-in_default-of_one
returns-in_default-of_one c =
    fixed_none _ _ _ _ c.requires c.byte_at-c.ensures c.byte_at-d.ensures c.in_default.ensures c.in_default-of_two.ensures c.in_default-of_one.ensures
