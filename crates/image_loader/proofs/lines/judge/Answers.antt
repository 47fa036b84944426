-- `image_loader::lines::judge` meets its contract. The invariant: the lines from here on answer what all lines answer. Assumes nothing.
use Prim.Native.Nat.{◌/◌}
use mathlib.Core.Path.{sym, ◌∙◌}
use lib.ListN.{length}
use Rattle.image_loader.proofs.LinesLoop.{left_again, left_bad, left_filled, left_over}
use Rattle.image_loader.proofs.lines.judge.Goals as goal

pub returns-then-not-line_fits : goal.returns-then-not-line_fits
returns-then-not-line_fits c =
    let a = c.args in
    left_bad a.signature.now a.lines.now a.code.now (length a.lines.now / 12) c.loop-x.invariant c.loop-x-test.true (sym c.line_fits.ensures ∙ c.if-not-line_fits.true)

pub loop-x-preserved : goal.loop-x-preserved
loop-x-preserved c =
    let a = c.args in
    left_again a.signature.now a.lines.now a.code.now (length a.lines.now / 12) c.loop-x.invariant c.loop-x-test.true c.short-p.ensures.value
    (sym c.line_fits.ensures ∙ c.if-not-line_fits.false)

pub returns-then-p-code : goal.returns-then-p-code
returns-then-p-code c =
    let a = c.args in
    left_over a.signature.now a.lines.now a.code.now (length a.lines.now / 12) c.loop-x.invariant c.loop-x-test.false c.if-p-code.true

pub returns : goal.returns
returns c =
    let a = c.args in
    left_filled a.signature.now a.lines.now a.code.now (length a.lines.now / 12) c.loop-x.invariant c.loop-x-test.false c.if-p-code.false
