-- `front_accept::layout::lay_out` meets its contract: its passes, one after the other. Assumes nothing.
use Rattle.front_accept.proofs.layout.lay_out.Goals as goal

pub returns : goal.returns
returns c =
    record {
      slots = _;
      indexed = c.slots.ensures;
      bare = _;
      placed = c.place.ensures;
      lines = c.statements.ensures;
      told = c.tell.ensures;
    }
