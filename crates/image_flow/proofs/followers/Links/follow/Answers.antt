-- `image_flow::followers::Links::follow` meets its contract: the whole pass, from the process as a block that its beginning follows. Assumes nothing.
use Rattle.image_flow.proofs.FollowersLaws.{followed_done}
use Rattle.image_flow.proofs.followers.Links.follow.Goals as goal

pub returns : goal.returns
returns c = followed_done c.args.rows.now c.args.n c.args.self.now c.link_at.ensures c.pass.ensures
