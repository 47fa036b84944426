-- `image_loader::lines::line_fits` meets its contract, by its tests. Assumes nothing.
use Prim.Native.Nat.{◌+◌}
use mathlib.Core.Path.{refl, sym, ap, ◌∙◌}
use Rattle.image_loader.specs.Lines.{code_fits}
use Rattle.image_loader.proofs.NameTypes.{all_bytes}
use Rattle.image_loader.proofs.LineLaws.{run_same, offset_bad, size_bad, code_bad, line_good}
use Rattle.image_loader.proofs.lines.line_fits.Goals as goal
use Rattle.image_loader.proofs.lines.line_fits.Goals.{then-short-p-via-then-short-p, then-short-p-via-else-short-p+then-code-p}

pub returns-then-short-p : goal.returns-then-short-p
returns-then-short-p c =
    let a = c.args in
    let b = all_bytes a.code.now c.type_inv.code in
    elim c.then-short-p.branch [
      | then-short-p-via-then-short-p w ↦ offset_bad a.signature.now a.lines.now a.code.now a.n a.x a.p b c.short.ensures.value w.if-short-p.true
      | then-short-p-via-else-short-p+then-code-p w ↦
          size_bad a.signature.now a.lines.now a.code.now a.n a.x a.p b c.short.ensures.value c.short-size.ensures.value c.requires.p_in_bounds
          w.if-short-p.false w.if-code-p.true
    ]

pub returns-then-code_fits : goal.returns-then-code_fits
returns-then-code_fits c =
    let a = c.args in
    let size = c.short-size.result in
    line_good a.signature.now a.lines.now a.code.now a.n a.x a.p (all_bytes a.code.now c.type_inv.code) c.byte-kind.ensures c.count-target.ensures.value
    c.short.ensures.value c.short-size.ensures.value c.requires.p_in_bounds c.if-short-p.false c.if-code-p.false
    (sym (ap (λ r. code_fits a.signature.now c.byte-kind.result c.count-target.result r) (run_same a.code.now a.p size (a.p + size) refl))
    ∙ sym c.code_fits.ensures ∙ c.if-code_fits.true) c.goes_on.ensures

pub returns-else-code_fits : goal.returns-else-code_fits
returns-else-code_fits c =
    let a = c.args in
    let size = c.short-size.result in
    c.if-code_fits.false ∙ code_bad a.signature.now a.lines.now a.code.now a.n a.x a.p (all_bytes a.code.now c.type_inv.code) c.byte-kind.ensures c.count-target.ensures.value
    c.short.ensures.value c.short-size.ensures.value c.requires.p_in_bounds c.if-short-p.false c.if-code-p.false
    (sym (ap (λ r. code_fits a.signature.now c.byte-kind.result c.count-target.result r) (run_same a.code.now a.p size (a.p + size) refl))
    ∙ sym c.code_fits.ensures ∙ c.if-code_fits.false)
