-- The header of tally (document 01, "The trace of tally"), of a text with capitals in its names, and of a refused text, by computing. Assumes nothing.
use mathlib.Core.Path.{◌≡◌, refl}
use mathlib.Core.List.{List, [], ◌∷◌, ◌++◌}
use Prim.Native.Nat.{ℕ}
use Rattle.spec_language.specs.Bytes.{bytes}
use Rattle.spec_language.specs.Verdict.{verdict}
use Rattle.spec_language.proofs.Computing.{computed}
use Rattle.spec_language.proofs.ExamplesReadings.{tally_text}
use Rattle.spec_design.specs.Spelling.{digits, name_bytes}
use Rattle.trace_header.specs.Header.{labelled, header_of, header_for}

-- "cycle wait lines total"
pub tally_header : header_for (verdict tally_text) ≡ bytes "cycle wait lines total" ++ (10 ∷ [])
unfolding computed digits name_bytes labelled header_of header_for
tally_header = refl

-- names with capitals, outputs between inputs, and a variable
unfoldable pub mixed : List ℕ
mixed =
    bytes "entity e is port (B_9 : out integer := 0; Clk : in std_logic; TOTAL, a : out std_logic := '0'); end e; architecture r of e is begin process variable V : integer := 1; begin B_9 <= v; wait until clk = '1'; end process; end r;"

-- "output names in lower case", in declared order
pub mixed_header : header_for (verdict mixed) ≡ bytes "cycle wait lines b_9 total a" ++ (10 ∷ [])
unfolding computed mixed digits name_bytes labelled header_of header_for
mixed_header = refl

-- "A refused text prints only `refused`, number, place"
pub refused_header : header_for (verdict (bytes "entity 5")) ≡ []
unfolding computed digits name_bytes labelled header_of header_for
refused_header = refl
