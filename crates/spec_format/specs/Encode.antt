-- The image of a process (document 01, "Image, form 1"). Assumes nothing.
use Rattle.std.specs.Prelude.{List, map, ℕ}
use Rattle.spec_design.specs.Process.{Slot, Process, source_types}
use Rattle.spec_format.specs.Lines.{lines_of, reaches_of}
use Rattle.spec_format.specs.Signature.{Cell, Signature}
use Rattle.spec_format.specs.Image.{Table, encode_table}

-- "type and 4-byte initial value" of each output or variable
abbrev pub cells : List Slot → List Cell
cells l = map (λ (s : Slot). record { type = s.type; initial = s.initial }) l

-- data inputs, outputs and variables of a process; "The clock is omitted."
unfoldable pub signature_for : Process → Signature
signature_for p = record { inputs = source_types p.inputs; outputs = cells p.outputs; variables = cells p.variables }

-- "One .. line per statement in text order, from 0"
unfoldable pub table_of : Process → Table
table_of p = record { signature = signature_for p; lines = lines_of p.body; reaches = reaches_of p.body }

-- the image of a process
unfoldable pub encode : Process → List ℕ
encode p = encode_table (table_of p)
