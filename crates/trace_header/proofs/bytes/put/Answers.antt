-- `trace_header::bytes::put` meets its contract. Assumes nothing.
use Rattle.trace_header.proofs.Putting.{put_one}
use Rattle.trace_header.proofs.bytes.put.Goals as goal

pub returns-then-n-lt-ROOM : goal.returns-then-n-lt-ROOM
returns-then-n-lt-ROOM c = put_one _ c.if-n-lt-ROOM.true
