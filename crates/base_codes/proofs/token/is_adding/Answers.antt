-- `base_codes::token::is_adding` meets its contract: the two kinds are successive, computed. Assumes nothing.
use mathlib.Core.Path.{refl}
use native.Mathlib.Omega.{arith}
use borrow.Author.Rules.{rules}
use Rattle.base_codes.specs.Token.{one_of, adding}
use Rattle.base_codes.proofs.Finite.{all}
use Rattle.base_codes.proofs.TokenLaws.{Successive, successive}
use Rattle.base_codes.proofs.token.is_adding.Goals as goal

kinds : Successive adding 11 2
unfolding all one_of
kinds = successive adding 11 2 refl

pub returns-in-11 : goal.returns-in-11
returns-in-11 c = kinds.inside c.args.kind (omega arith) (omega arith)

pub returns-in_default : goal.returns-in_default
returns-in_default c = kinds.below c.args.kind (omega arith)

pub returns-in_default-2 : goal.returns-in_default-2
returns-in_default-2 c = kinds.above c.args.kind (omega arith) (search rules)
