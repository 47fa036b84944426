-- `image_cycle::follow_line` meets its contract: limit and type bytes are the line's and the signature's. Assumes nothing.
use Rattle.image_cycle.proofs.Runs.{line_read}
use borrow.Author.Rules.{rules}
use Rattle.image_cycle.proofs.follow_line.Goals as goal

pub returns : goal.returns
returns c =
    λ σ e. line_read σ _ _ _ _ _ _ _ _ _ _ _ _ _ c.most-most.ensures
    (c.input_types.ensures σ e)
    (c.variable_types-n.ensures σ e (search rules))
    c.first.ensures c.follow.ensures
