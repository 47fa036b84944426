-- `base_codes::token::is_multiplying` meets its contract: the four kinds are successive, computed. Assumes nothing.
use mathlib.Core.Path.{refl}
use native.Mathlib.Omega.{arith}
use borrow.Author.Rules.{rules}
use Rattle.base_codes.specs.Token.{one_of, multiplying}
use Rattle.base_codes.proofs.Finite.{all}
use Rattle.base_codes.proofs.TokenLaws.{Successive, successive}
use Rattle.base_codes.proofs.token.is_multiplying.Goals as goal

kinds : Successive multiplying 44 4
unfolding all one_of
kinds = successive multiplying 44 4 refl

pub returns-in-44 : goal.returns-in-44
returns-in-44 c = kinds.inside c.args.kind (omega arith) (omega arith)

pub returns-in_default : goal.returns-in_default
returns-in_default c = kinds.below c.args.kind (omega arith)

pub returns-in_default-2 : goal.returns-in_default-2
returns-in_default-2 c = kinds.above c.args.kind (omega arith) (search rules)
