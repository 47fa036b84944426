-- `trace_header::named_line` meets its contract: the three parts of a header, one after the other. Assumes nothing.
use mathlib.Core.Path.{refl}
use Rattle.spec_language.specs.Bytes.{bytes, between, lower}
use Rattle.trace_header.proofs.Putting.{line_shows}
use Rattle.trace_header.proofs.named_line.Goals as goal

pub returns : goal.returns
unfolding bytes between lower
returns c =
    line_shows c.args.text.now
    c.args.outputs refl
    c.put_folded-first.ensures c.put_names-next.ensures c.put-size.ensures
