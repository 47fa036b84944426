-- `front_accept::reading::read` meets its contract: the judgement is that on the flags of the limits, and the values of items come to a tree. Assumes nothing.
use mathlib.Core.Path.{refl}
use Rattle.front_accept.proofs.Fronting.{values_held, refused_still, flags_size}
use Rattle.front_accept.proofs.reading.read.Goals as goal

pub returns-in-Ok : goal.returns-in-Ok
returns-in-Ok c =
    record {
      judged = λ lo lc lr ts h. values_held c.in-Ok.is
          (c.judged-r.ensures.judged (flags_size _ _ _ _ _ _
          c.mark.ensures lo) lc refl lr ts (rw
          c.mark.ensures h)) c.resolve.ensures;
    }

pub returns-in_default : goal.returns-in_default
returns-in_default c =
    record {
      judged = λ lo lc lr ts h. refused_still _ _ c.in_default.is (c.judged-r.ensures.judged (flags_size _ _ _ _ _ _
          c.mark.ensures lo) lc refl lr ts (rw
          c.mark.ensures h));
    }
