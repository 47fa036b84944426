-- What the trace program prints, chunk by chunk (document 01, "The trace of tally"). Assumes nothing.
use Rattle.std.specs.Prelude.{Option, None, Some, List, ◌++◌, ℕ, length, take}
use Rattle.base_answers.specs.Answers.{Told, count_of}
use Rattle.spec_language.specs.Verdict.{verdict}
use Rattle.spec_interface.specs.Compile.{compile_of}
use Rattle.trace_header.specs.Header.{header_for}
use Rattle.trace_lines.specs.Chunks.{only_line, first_of, fills}

-- the only line, where there is one; else the header, then what at most 65,537 calls of `fill` put into a buffer of so many bytes, until one puts no bytes
abbrev pub printed_by : Option (List ℕ) → List ℕ → List ℕ → List ℕ → ℕ → List ℕ
printed_by None header image rows free = header ++ fills 65537 image rows (first_of image) free
printed_by (Some l) header image rows free = l

-- the same after a compile that told c and left the buffer b
abbrev pub printed_after : List ℕ → List ℕ → Told ℕ → List ℕ → ℕ → List ℕ
printed_after text rows c b free = printed_by (only_line c (length rows)) (header_for (verdict text)) (take (count_of c) b) rows free

-- what is printed for a text and rows, where the image is compiled into the buffer b and lines are put into a buffer of so many bytes
unfoldable pub printed_of : List ℕ → List ℕ → List ℕ → ℕ → List ℕ
printed_of text rows b free = printed_after text rows (compile_of text b).answer (compile_of text b).buffer free
