-- `front_accept::parsed_text` meets its contract: what was read is laid out, or refused. Assumes nothing.
use mathlib.Core.Path.{refl}
use Rattle.std.proofs.Common.{rules}
use Rattle.front_accept.proofs.Fronting.{front_sound, front_unsound}
use Rattle.front_accept.proofs.Laying.{laid_out}
use Rattle.front_accept.proofs.parsed_text.Goals as goal

pub returns : goal.returns
returns c =
    λ z ts h. front_sound _
    (c.read-r.ensures.judged refl
    z.ops_size z.line_cells ts h)
    c.in_ok-shape.was
    (λ t held. laid_out c.clock_owner-clock.ensures
    c.declared-declared.ensures c.lay_out.ensures z.args_size held)

pub returns-in_err-shape : goal.returns-in_err-shape
returns-in_err-shape c =
    λ z ts h. front_unsound _ (c.read-r.ensures.judged refl z.ops_size z.line_cells ts h) _ _
    c.in_err-shape.was (search rules)
