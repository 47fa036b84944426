-- `base_signed::in_type` meets its contract: the tests are those of the definition, and every 32-bit number is an integer. Assumes nothing.
use Rattle.base_signed.proofs.Types.{zero_logic, one_logic, not_logic}
use Rattle.base_signed.proofs.in_type.Goals as goal

pub returns-then-v-eq0 : goal.returns-then-v-eq0
returns-then-v-eq0 c = zero_logic c.args.kind c.args.v c.if-kind-eq-STD_LOGIC.true c.ranges.v c.if-v-eq0.true

pub returns-else-v-eq0 : goal.returns-else-v-eq0
returns-else-v-eq0 c = one_logic c.args.kind c.args.v c.if-kind-eq-STD_LOGIC.true c.ranges.v c.if-v-eq0.false

pub returns-else-kind-eq-STD_LOGIC : goal.returns-else-kind-eq-STD_LOGIC
returns-else-kind-eq-STD_LOGIC c = not_logic c.args.kind c.args.v c.if-kind-eq-STD_LOGIC.false c.ranges.v
