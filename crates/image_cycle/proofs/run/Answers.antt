-- `image_cycle::run` meets its contract: a wait reached, an operator refused, and never the lines spent. Assumes nothing.
use Rattle.image_cycle.proofs.Calls.{place_right, reached_moves, stopped_moves, spent_never}
use Rattle.image_cycle.proofs.run.Goals as goal

pub returns-in-Reached : goal.returns-in-Reached
returns-in-Reached c =
    λ t o h right ok. let a = c.args in
    let e = rw c.in-Reached.is
    at (c.follow_from-f.ensures t h
    (place_right a.signature.now a.lines.now a.code.now t h a.s a.inputs.now o right ok)) in
    let r = reached_moves a.signature.now a.lines.now a.code.now t h a.s a.inputs.now o right ok _
    (record { lines = c.in-Reached.n }) _ _ e in
    r.1 _ (c.performed.ensures r.0)

pub returns-in-Stopped : goal.returns-in-Stopped
returns-in-Stopped c =
    λ t o h right ok. let a = c.args in
    let e = rw c.in-Stopped.is
    at (c.follow_from-f.ensures t h
    (place_right a.signature.now a.lines.now a.code.now t h a.s a.inputs.now o right ok)) in
    stopped_moves a.signature.now a.lines.now a.code.now t h a.s a.inputs.now o right ok _ _ _ _ _ e c.operator_refusal.ensures _
    c.refused.ensures

pub returns-in-Spent : goal.returns-in-Spent
returns-in-Spent c =
    λ t o h right ok. let a = c.args in
    let e = rw c.in-Spent.is
    at (c.follow_from-f.ensures t h
    (place_right a.signature.now a.lines.now a.code.now t h a.s a.inputs.now o right ok)) in
    spent_never a.signature.now a.lines.now a.code.now t h a.s a.inputs.now o right ok _ _ e
