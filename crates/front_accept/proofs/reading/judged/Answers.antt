-- `front_accept::reading::judged` meets its contract: a tree is judged by the rules, and what is no tree is refused. Assumes nothing.
use mathlib.Core.Path.{refl}
use Rattle.std.proofs.Common.{rules}
use Rattle.front_accept.proofs.Fronting.{ruling_mapped, judged_ruled, judged_tree, judged_unread}
use Rattle.front_accept.proofs.reading.judged.Goals as goal

pub returns-in-Ok : goal.returns-in-Ok
returns-in-Ok c =
    record {
      judged = λ lf lc li lr ts h. judged_tree _ ts
          (c.parse-parsing.ensures.reads ts
          h.tokens.short h.flagged) h.tokens _ _
          c.in-Ok.is h.words lc li lr refl
          (λ t i. judged_ruled (rw c.shape_of-shape.ensures at c.judge-ruling.ensures)
          c.resolve.ensures lf ts t i (ruling_mapped c.judge-ruling.result c.map-judgement.result c.shape_of-shape.ensures
          (search rules)));
    }

pub returns-in-Err : goal.returns-in-Err
returns-in-Err c =
    record {
      judged = λ lf lc li lr ts h. judged_unread _ ts (c.parse-parsing.ensures.reads ts h.tokens.short h.flagged)
          h.tokens _ c.in-Err.is c.unread-r.ensures;
    }
