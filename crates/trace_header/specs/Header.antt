-- The header that the trace program prints (document 01, "The trace of tally"). Assumes nothing.
use Rattle.std.specs.Prelude.{List, [], ◌∷◌, ◌++◌, ℕ}
use Rattle.spec_design.specs.Spelling.{name_bytes}
use Rattle.spec_design.specs.Process.{Slot, Process}
use Rattle.spec_language.specs.Bytes.{bytes}
use Rattle.spec_language.specs.Verdict.{Verdict, on_accepted}

-- "output names in lower case": each after one space, byte 32, in declared order
unfoldable pub labelled : List Slot → List ℕ
labelled [] = []
labelled (s ∷ ss) = 32 ∷ (name_bytes s.name ++ labelled ss)

-- "a header (`cycle`, `wait`, `lines`, output names in lower case)": a line, ended by LF, byte 10
unfoldable pub header_of : Process → List ℕ
header_of p = bytes "cycle wait lines" ++ (labelled p.outputs ++ (10 ∷ []))

-- "A refused text prints only `refused`, number, place": no header
unfoldable pub header_for : Verdict → List ℕ
header_for v = on_accepted header_of (λ n k. []) v
