-- `trace_lines::rows::read_decimal` meets its contract: by whether it begins with `-`. Assumes nothing.
use Rattle.std.proofs.Common.{◌∷◌, []}
use Rattle.std.proofs.lemmas.Bool.Decides.{Decides-eqb}
use Rattle.std.proofs.lemmas.Slice.Eq.{strip_prefix_is}
use Rattle.std.specs.Prelude.{None, Some}
use Rattle.trace_lines.proofs.ReadingLaws.{read_as_down, read_as_up}
use Rattle.trace_lines.proofs.rows.read_decimal.Goals as goal

pub returns-in_err-number-in-Some : goal.returns-in_err-number-in-Some
returns-in_err-number-in-Some c =
    read_as_down _ _ _ None _ (strip_prefix_is Decides-eqb _ (45 ∷ []) (Some c.in-Some.digits) c.in-Some.ensures.cases) c.number.ensures c.in_err-number-in-Some.was c.from_residual.ensures

pub returns-in_err-number-in-None : goal.returns-in_err-number-in-None
returns-in_err-number-in-None c =
    read_as_up _ _ None _ (strip_prefix_is Decides-eqb _ (45 ∷ []) None c.in-None.ensures.cases) c.number-in-None.ensures c.in_err-number-in-None.was
    c.from_residual-in_err-number-in-None.ensures

pub returns-in_ok-number-in-Some : goal.returns-in_ok-number-in-Some
returns-in_ok-number-in-Some c =
    read_as_down _ _ _ _ _ (strip_prefix_is Decides-eqb _ (45 ∷ []) (Some c.in-Some.digits) c.in-Some.ensures.cases) c.number.ensures c.in_ok-number-in-Some.was c.downward.ensures

pub returns-in_ok-number-in-None : goal.returns-in_ok-number-in-None
returns-in_ok-number-in-None c =
    read_as_up _ _ _ _ (strip_prefix_is Decides-eqb _ (45 ∷ []) None c.in-None.ensures.cases) c.number-in-None.ensures c.in_ok-number-in-None.was
    c.upward.ensures
