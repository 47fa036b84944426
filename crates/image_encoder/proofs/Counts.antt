-- The counts of a design: the arrays that hold a process have counts within the limits. Assumes nothing.
use mathlib.Core.Path.{◌≡◌}
use mathlib.Core.Bool.{true}
use mathlib.Core.List.{List}
use Prim.Native.Nat.{ℕ}
use lib.IntN.{ℤ}
use borrow.Author.Tests.{le-leb}
use Rattle.spec_design.specs.Process.{Process, WellFormed}
use Rattle.base_ir.specs.declared.Declared.{Declared}
use Rattle.base_ir.specs.Arrays.{Holds}
use Rattle.base_ir.proofs.Bounds.{held_bounded}
use Rattle.image_encoder.specs.Outcome.{counts_ok}

-- the counts of a process that is held pass
pub counts_held : {p : Process} {codes : List ℕ} {args : List ℤ} {rows : List ℕ} (d : Declared) → Holds p d codes args rows → WellFormed p → counts_ok d ≡ true
counts_held d h w =
    let b = held_bounded d h w in
    rw (
      le-leb d.operations 16384 b.0,
      le-leb d.statements 512 b.1,
      le-leb d.inputs.count 16 b.2,
      le-leb d.outputs.count 16
          b.3,
      le-leb d.variables.count 32 b.4,
    )
