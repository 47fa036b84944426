-- `image_loader::lines::goes_on` meets its contract: what is read of the line. Assumes nothing.
use Rattle.image_loader.specs.Lines.{stored_reaches}
use Rattle.image_loader.proofs.LineLaws.{followers_read}
use Rattle.image_loader.proofs.lines.goes_on.Goals as goal

pub returns : goal.returns
returns c =
    let a = c.args in
    followers_read a.n (stored_reaches a.n a.lines.now) a.kind c.short-next.ensures.value
    c.short-other.ensures.value c.short-reach.ensures.value
    c.followers_fit.ensures
