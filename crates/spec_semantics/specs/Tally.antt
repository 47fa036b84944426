-- The process of document 01's section "The trace of tally", with its calls. Assumes nothing.
use Rattle.std.specs.Prelude.{List, [], ◌∷◌, pos, negsuc}
use Rattle.spec_design.specs.Types.{integer, plain}
use Rattle.spec_design.specs.Expression.{int, input, variable as variable_leaf, plus, less, Expr, leaf, binary}
use Rattle.spec_design.specs.Statement.{output, variable, act, wait, while, seq}
use Rattle.spec_design.specs.Process.{Process}
use Rattle.spec_semantics.specs.Rows.{Call}

-- the variable s
abbrev s : Expr
s = leaf (variable_leaf 0)

-- "while s < 10 loop s := s + d; wait until clk = '1'; end loop; total <= s; s := 0; wait until clk = '1';"
unfoldable pub tally : Process
tally =
    record {
      inputs = record { name = 0; type = integer } ∷ [];
      outputs = record { name = 1; type = integer; initial = pos 0 } ∷ [];
      variables = record { name = 2; type = integer; initial = pos 0 } ∷ [];
      body =
          seq (while (binary less (plain integer) s (leaf (int (pos 10)))) (seq (act (variable 0 (binary plus (plain integer) s (leaf (input 0))))) wait))
          (seq (act (output 0 s)) (seq (act (variable 0 (leaf (int (pos 0))))) wait));
    }

-- "Rows 7, 7, 1, -5, -2147483648, 20"
unfoldable pub tally_calls : List Call
tally_calls =
    record { inputs = pos 7 ∷ []; room = 1 } ∷ record { inputs = pos 7 ∷ []; room = 1 } ∷ record { inputs = pos 1 ∷ []; room = 1 }
    ∷ record { inputs = negsuc 4 ∷ []; room = 1 } ∷ record { inputs = negsuc 2147483647 ∷ []; room = 1 } ∷ record { inputs = pos 20 ∷ []; room = 1 } ∷ []
