-- What holds a process has counts within the limits. Assumes nothing.
use mathlib.Core.List.{List}
use Prim.Native.Nat.{ℕ}
use native.Mathlib.Omega.{arith}
use lib.IntN.{ℤ}
use lib.ListN.{length-map}
use Rattle.spec_design.specs.Process.{Source, Slot, Process, WellFormed}
use Rattle.base_ir.specs.declared.Declared.{Declared}
use Rattle.base_ir.specs.Arrays.{Holds, Bounded}

pub held_bounded : {p : Process} {codes : List ℕ} {args : List ℤ} {rows : List ℕ} (d : Declared) → Holds p d codes args rows → WellFormed p → Bounded d
held_bounded {p} d h w =
    let li = length-map p.inputs (λ (s : Source). s.type) in
    let lo = length-map p.outputs (λ (s : Slot). s.type) in
    let lv = length-map p.variables (λ (s : Slot). s.type) in
    let ei = h.declared.inputs.0 in
    let eo = h.declared.outputs.0 in
    let ev = h.declared.variables.0 in
    let wi = w.inputs in
    let wo = w.outputs in
    let wv = w.variables in
    (h.body.code.short, h.body.lines.short, omega arith, omega arith, omega arith)
