-- `base_codes::operation::result_type` meets its contract: the codes of the comparisons are successive, computed. Assumes nothing.
use mathlib.Core.Path.{refl}
use borrow.Author.Rules.{rules}
use Rattle.base_codes.specs.Token.{one_of}
use Rattle.base_codes.specs.Types.{comparing}
use Rattle.base_codes.proofs.Finite.{all}
use Rattle.base_codes.proofs.TokenLaws.{Successive, successive}
use Rattle.base_codes.proofs.TypeLaws.{result_boolean, result_kept}
use Rattle.base_codes.proofs.operation.result_type.Goals as goal

comparisons : Successive comparing 20 6
unfolding all one_of
comparisons = successive comparing 20 6 refl

pub returns-in-20 : goal.returns-in-20
returns-in-20 c = result_boolean _ _ (comparisons.inside _ c.in-20.if-op-lt20-own.false c.in-20.if-op-lt26-own.true)

pub returns-in_default : goal.returns-in_default
returns-in_default c = result_kept _ _ (comparisons.below _ c.in_default.if-op-lt20-own.true)

pub returns-in_default-2 : goal.returns-in_default-2
returns-in_default-2 c = result_kept _ _ (comparisons.above _ c.in_default.if-op-lt26-own.false (search rules))
