-- Whole texts followed through the equations: P1 (the trace of tally), P8, and document 000's GCD. Each is computed from the text's bytes. Assumes nothing.
use mathlib.Core.Path.{◌≡◌, refl}
use mathlib.Core.Option.{Option, none, some}
use mathlib.Core.List.{List, [], ◌∷◌}
use Prim.Native.Nat.{ℕ, suc}
use lib.ListN.{replicate}
use lib.IntN.{ℤ, pos, negsuc}
use Rattle.spec_design.specs.Types as Types
use Rattle.spec_design.specs.Expression as Expression
use Rattle.spec_design.specs.Statement as Statement
use Rattle.spec_language.specs.Verdict.{on_accepted, verdict}
use Rattle.spec_language.proofs.Computing.{computed}
use Rattle.spec_language.proofs.Examples.{stmts}
use Rattle.spec_language.proofs.ExamplesReadings.{tally_text, gcd_text}
use Rattle.spec_semantics.specs.Evaluation as Evaluation
use Rattle.spec_semantics.specs.Division as Division
use Rattle.spec_semantics.specs.Equations as Equations
use Rattle.spec_semantics.specs.Equations.{beginning, at}
use Rattle.spec_semantics.specs.Rows.{Call, Kept, Outcome, performed, row_refused, operator_refused, rows}
use Rattle.spec_semantics.specs.Rows as Rows

-- the rows of a text, if it is accepted
unfoldable pub rows_of : List ℕ → List Call → Option (List (Outcome × Kept))
rows_of b cs = on_accepted (λ p. some (rows p cs)) (λ n k. none) (verdict b)

-- opens all that rows compute by
unfoldable pub opened : List ℕ → List Call → Option (List (Outcome × Kept))
unfolding computed rows_of Types.in_range Types.in_type Expression.bind Expression.fold Statement.size Statement.has Evaluation.unary_result Evaluation.binary_result
    Evaluation.as_integer Evaluation.apply_unary Evaluation.apply_binary Evaluation.leaf_value Evaluation.evaluate Division.by_nonzero Equations.perform
    Equations.holds Equations.log Equations.then Equations.acted Equations.tested Equations.pick Equations.start Equations.resume Equations.enter
    Equations.cycle Rows.kept_at_first Rows.wrong_value Rows.row_refusal Rows.concluded Rows.judged Rows.row Rows.rows_from Rows.rows
opened b cs = rows_of b cs

-- a row of inputs, with room for so many outputs
abbrev call : ℕ → List ℤ → Call
call n i = record { inputs = i; room = n }

-- what is kept: the wait reached, the outputs, the variables
abbrev kept : ℕ → List ℤ → List ℤ → Kept
kept p o v = record { place = at p; memory = record { outputs = o; variables = v } }

-- P1: rows 7, 7, 1, -5, -2147483648, 20
pub p1 : rows_of tally_text (call 1 (pos 7 ∷ []) ∷ call 1 (pos 7 ∷ []) ∷ call 1 (pos 1 ∷ []) ∷ call 1 (negsuc 4 ∷ []) ∷ call 1 (negsuc 2147483647 ∷ []) ∷ call 1
    (pos 20 ∷ []) ∷ [])
    ≡ some (
    (performed (pos 0 ∷ []) (0 ∷ 1 ∷ 2 ∷ []), kept 2 (pos 0 ∷ []) (pos 7 ∷ [])) ∷
    (performed (pos 0 ∷ []) (0 ∷ 1 ∷ 2 ∷ []), kept 2 (pos 0 ∷ []) (pos 14 ∷ [])) ∷
    (performed (pos 14 ∷ []) (0 ∷ 3 ∷ 4 ∷ 5 ∷ []), kept 5 (pos 14 ∷ []) (pos 0 ∷ [])) ∷
    (performed (pos 14 ∷ []) (0 ∷ 1 ∷ 2 ∷ []), kept 2 (pos 14 ∷ []) (negsuc 4 ∷ [])) ∷
    (operator_refused 16 1, kept 2 (pos 14 ∷ []) (negsuc 4 ∷ [])) ∷
    (performed (pos 14 ∷ []) (0 ∷ 1 ∷ 2 ∷ []), kept 2 (pos 14 ∷ []) (pos 15 ∷ [])) ∷ [])
unfolding opened
p1 = refl

-- 14 at tally: rows of a wrong length, then an output row of a wrong length; an integer outside its range, at its index; nothing is kept of them
pub tally_14 : rows_of tally_text (call 1 [] ∷ call 1 (pos 1 ∷ pos 2 ∷ []) ∷ call 0 (pos 1 ∷ []) ∷ call 1 (pos 2147483648 ∷ []) ∷ call 1 (pos 3 ∷ []) ∷ [])
    ≡ some (
    (row_refused 0, record { place = beginning; memory = record { outputs = pos 0 ∷ []; variables = pos 0 ∷ [] } }) ∷
    (row_refused 0, record { place = beginning; memory = record { outputs = pos 0 ∷ []; variables = pos 0 ∷ [] } }) ∷
    (row_refused 0, record { place = beginning; memory = record { outputs = pos 0 ∷ []; variables = pos 0 ∷ [] } }) ∷
    (row_refused 0, record { place = beginning; memory = record { outputs = pos 0 ∷ []; variables = pos 0 ∷ [] } }) ∷
    (performed (pos 0 ∷ []) (0 ∷ 1 ∷ 2 ∷ []), kept 2 (pos 0 ∷ []) (pos 3 ∷ [])) ∷ [])
unfolding opened
tally_14 = refl

-- P8: -2147483647 - 1 is performed; its negative is accepted as a text and refused by 16 at its statement, and nothing is changed
abbrev row8 : Call
row8 = call 2 (pos 0 ∷ pos 1 ∷ pos 0 ∷ pos 5 ∷ [])

pub p8 : rows_of (stmts "s := -2147483647 - 1;") (row8 ∷ []) ≡ some ((performed (pos 0 ∷ pos 0 ∷ []) (0 ∷ 1 ∷ []), kept 1 (pos 0 ∷ pos 0 ∷ []) (negsuc 2147483647 ∷ pos 0 ∷ pos 1 ∷ [])) ∷ [])
unfolding opened
p8 = refl

pub p8_negative : rows_of (stmts "s := 3; u := -(-2147483647 - 1);") (row8 ∷ [])
    ≡ some ((operator_refused 16 1, record { place = beginning; memory = record { outputs = pos 0 ∷ pos 0 ∷ []; variables = pos 0 ∷ pos 0 ∷ pos 1 ∷ [] } })
    ∷ [])
unfolding opened
p8_negative = refl

-- both operands are evaluated, left first, also of a chain that is already decided; an operator that is not reached refuses nothing
pub both_evaluated : rows_of (stmts "if d = 0 and 2147483647 + d > 0 then null; end if;") (row8 ∷ [])
    ≡ some ((operator_refused 16 0, record { place = beginning; memory = record { outputs = pos 0 ∷ pos 0 ∷ []; variables = pos 0 ∷ pos 0 ∷ pos 1 ∷ [] } })
    ∷ [])
unfolding opened
both_evaluated = refl

pub not_reached : rows_of (stmts "if d = 0 then s := 2147483647 + d; else q <= f; end if;") (row8 ∷ [])
    ≡ some ((performed (pos 0 ∷ pos 1 ∷ []) (0 ∷ 2 ∷ 3 ∷ []), kept 3 (pos 0 ∷ pos 1 ∷ []) (pos 0 ∷ pos 0 ∷ pos 1 ∷ [])) ∷ [])
unfolding opened
not_reached = refl

-- GCD: wait, lines, ready and result of each row
abbrev gcd_row : ℕ → ℕ → ℕ → Call
gcd_row a b s = call 2 (pos a ∷ pos b ∷ pos s ∷ [])

pub gcd_rows : rows_of gcd_text (gcd_row 0 0 0 ∷ gcd_row 6 4 1 ∷ gcd_row 6 4 0 ∷ gcd_row 6 4 0 ∷ gcd_row 6 4 0 ∷ gcd_row 6 4 0 ∷ [])
    ≡ some (
    (performed (pos 0 ∷ pos 0 ∷ []) (0 ∷ 1 ∷ []), kept 1 (pos 0 ∷ pos 0 ∷ []) (pos 0 ∷ pos 0 ∷ pos 0 ∷ [])) ∷
    (performed (pos 0 ∷ pos 0 ∷ []) (0 ∷ 2 ∷ 3 ∷ 6 ∷ 7 ∷ 8 ∷ 9 ∷ 10 ∷ []), kept 10 (pos 0 ∷ pos 0 ∷ []) (pos 6 ∷ pos 4 ∷ pos 2 ∷ [])) ∷
    (performed (pos 0 ∷ pos 0 ∷ []) (11 ∷ 12 ∷ 8 ∷ 9 ∷ 10 ∷ []), kept 10 (pos 0 ∷ pos 0 ∷ []) (pos 4 ∷ pos 2 ∷ pos 2 ∷ [])) ∷
    (performed (pos 0 ∷ pos 0 ∷ []) (11 ∷ 12 ∷ 8 ∷ 9 ∷ 10 ∷ []), kept 10 (pos 0 ∷ pos 0 ∷ []) (pos 2 ∷ pos 2 ∷ pos 0 ∷ [])) ∷
    (performed (pos 1 ∷ pos 2 ∷ []) (11 ∷ 12 ∷ 8 ∷ 13 ∷ 14 ∷ 15 ∷ []), kept 15 (pos 1 ∷ pos 2 ∷ []) (pos 2 ∷ pos 0 ∷ pos 0 ∷ [])) ∷
    (performed (pos 1 ∷ pos 2 ∷ []) (0 ∷ 1 ∷ []), kept 1 (pos 1 ∷ pos 2 ∷ []) (pos 2 ∷ pos 0 ∷ pos 0 ∷ [])) ∷ [])
unfolding opened
gcd_rows = refl

-- the row 5 1 1 and then 5 1 0 again and again: rows 0 to 42 are performed, row 43 is refused by 16 at statement 9
abbrev refused_at : Outcome → Option ℕ
refused_at (performed o w) = none
refused_at (row_refused p) = none
refused_at (operator_refused q n) = some n

-- so many rows are performed, and then comes this refusal
unfoldable pub performed_then : ℕ → List (Outcome × Kept) → Option (ℕ × ℕ)
performed_then n [] = none
performed_then n ((o, k) ∷ l) = elim (refused_at o) [ some x ↦ some (n, x) | none ↦ performed_then (suc n) l ]

abbrev on_rows : Option (List (Outcome × Kept)) → Option (ℕ × ℕ)
on_rows none = none
on_rows (some l) = performed_then 0 l

pub gcd_overflow : on_rows (rows_of gcd_text (gcd_row 5 1 1 ∷ replicate 50 (gcd_row 5 1 0))) ≡ some (43, 9)
unfolding opened performed_then
gcd_overflow = refl
