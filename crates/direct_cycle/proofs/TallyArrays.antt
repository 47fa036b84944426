-- The arrays of tally (document 01, "The trace of tally"): they hold its body, so that every contract of this crate speaks of it. Assumes nothing.
use mathlib.Core.Path.{refl}
use mathlib.Core.List.{List, [], ◌∷◌}
use Prim.Native.Nat.{ℕ}
use native.Mathlib.Bridge.{le_by_compare, IsLe}
use lib.IntN.{ℤ, pos}
use Rattle.spec_design.specs.Statement.{size}
use Rattle.spec_semantics.specs.Tally.{tally}
use Rattle.spec_semantics.proofs.Tally.{tally_well_formed}
use Rattle.base_ir.specs.Operations.{ops}
use Rattle.base_ir.specs.Entries.{entries, entry_ops, single_act, single_wait, single_while, only, and_then}
use Rattle.base_ir.specs.Arrays.{ops_from, rows_from, rows_of, BodyIn}
use Rattle.direct_cycle.specs.Calls.{Design}
use Rattle.direct_cycle.proofs.CallLaws.{design_held}

-- s < 10, s + d, s, 0; the argument of an operator is the number of its operands' type, integer
abbrev codes : List ℕ
codes = 4 ∷ 1 ∷ 22 ∷ 4 ∷ 3 ∷ 18 ∷ 4 ∷ 1 ∷ []

abbrev args : List ℤ
args = pos 0 ∷ pos 10 ∷ pos 1 ∷ pos 0 ∷ pos 0 ∷ pos 1 ∷ pos 0 ∷ pos 0 ∷ []

-- the while, s := s + d, wait; total <= s, s := 0, wait
abbrev rows : List ℕ
rows =
    5 ∷ 0 ∷ 0 ∷ 3 ∷ 3 ∷ 3 ∷ 2 ∷ 0 ∷ 3 ∷ 6 ∷ 2 ∷ 2 ∷ 0 ∷ 0 ∷ 6 ∷ 6 ∷ 3 ∷ 3
    ∷ 1 ∷ 0 ∷ 6 ∷ 7 ∷ 4 ∷ 4 ∷ 2 ∷ 0 ∷ 7 ∷ 8 ∷ 5 ∷ 5 ∷ 0 ∷ 0 ∷ 8 ∷ 8 ∷ 6 ∷ 6 ∷ []

tally_body : BodyIn tally codes args rows 8 6
unfolding tally size ops entries entry_ops ops_from rows_from rows_of IsLe
tally_body =
    record {
      block = and_then (single_while (and_then (single_act _) (only single_wait))) (and_then (single_act _) (and_then (single_act _) (only single_wait)));
      code = record { count = refl; short = le_by_compare 8 16384 tt; are = refl };
      lines = record { count = refl; short = le_by_compare 6 512 tt; are = refl };
    }

pub tally_design : Design tally codes args rows 6
tally_design = design_held tally codes args rows 8 6 tally_body tally_well_formed
