-- `image_encoder::sections::put_cells` meets its contract. The invariant: the rest from here stores what the whole loop stores. Assumes nothing.
use mir.Facts.{to_z-of_z}
use mir.Val.{SFits}
use mir.Syntax.{w32}
use Rattle.std.proofs.Common.{pos, get_or, rules, ◌∙◌, ap, ◌∷◌, ◌+◌, ◌*◌}
use lib.IntN.{ℤ}
use lib.Seq.{sets}
use Rattle.spec_format.specs.Words.{bytes4}
use Rattle.spec_semantics.specs.Twos.{unsigned32}
use Rattle.image_encoder.proofs.SectionsLaws.{cells_again, cells_done}
use Rattle.image_encoder.proofs.sections.put_cells.Goals as goal

pub loop-k-preserved : goal.loop-k-preserved
loop-k-preserved c =
    let d = c.args.names.now in
    let l = c.loop-k in
    let h : SFits w32 (get_or d.values l.k (pos 0)) = search rules in
    cells_again _ _ _ _ _ _ c.loop-k-test.true (c.put_cell.ensures
    ∙ ap (λ (z : ℤ). sets l.image (c.args.at + 5 * l.k) (get_or d.types l.k 0 ∷ bytes4 (unsigned32 z))) (to_z-of_z h)) l.invariant

pub returns : goal.returns
returns c = cells_done _ _ _ _ _ _ c.loop-k-test.false c.loop-k.invariant
