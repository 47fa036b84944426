-- `image_compiler::compile` meets its contract. Assumes nothing.
use mathlib.Core.Path.{◌≡◌, refl}
use Rattle.std.proofs.Common.{rules}
use Rattle.std.specs.Prelude.{Err}
use Rattle.front_accept.proofs.Told.{design_of}
use Rattle.image_compiler.proofs.Accepted.{compiled_accepted, compiled_refused}
use Rattle.image_compiler.proofs.compile.Goals as goal

pub returns : goal.returns
returns c =
    let d = design_of _ c.accept.result _
    (c.accept.ensures
    (record { ops_size = refl; args_size = refl; line_cells = refl })) c.in_ok-declared.was in
    let e = c.write_image.ensures d.process d.border.holds d.formed in
    rw (compiled_accepted d
    c.args.image.now) e

pub returns-in_err-declared : goal.returns-in_err-declared
returns-in_err-declared c =
    let e : c.from_residual.result ≡ Err c.in_err-declared.field-0.0 = search rules in
    rw e (compiled_refused _ c.accept.result _ _
    (c.accept.ensures (record { ops_size = refl; args_size = refl; line_cells = refl })) c.in_err-declared.was)
