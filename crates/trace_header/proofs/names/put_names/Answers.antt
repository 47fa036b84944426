-- `trace_header::names::put_names` meets its contract. The invariant: the labels that are left make all of them. Assumes nothing.
use Rattle.trace_header.proofs.Putting.{list_again, list_end}
use Rattle.trace_header.proofs.names.put_names.Goals as goal

pub loop-k-preserved : goal.loop-k-preserved
loop-k-preserved c = list_again _ _ c.loop-k.invariant c.loop-k-test.true c.put_name-next.ensures

pub returns : goal.returns
returns c = list_end _ _ c.loop-k.invariant c.loop-k-test.false
