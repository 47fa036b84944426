-- `base_codes::types::is_type_byte` meets its contract: the type bytes are a stretch, computed. Assumes nothing.
use mathlib.Core.Path.{refl}
use native.Mathlib.Omega.{arith}
use borrow.Author.Rules.{rules}
use Rattle.base_codes.specs.Types.{is_type_byte}
use Rattle.base_codes.proofs.Finite.{all, fails, holds}
use Rattle.base_codes.proofs.types.is_type_byte.Goals as goal

pub returns-in-0 : goal.returns-in-0
unfolding all is_type_byte
returns-in-0 c = holds is_type_byte 2 0 refl c.args.byte (omega arith) c.in-0.is

pub returns-in_default : goal.returns-in_default
unfolding all is_type_byte
returns-in_default c = fails is_type_byte 254 2 refl c.args.byte (omega arith) (search rules)
