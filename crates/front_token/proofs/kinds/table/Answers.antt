-- `front_token::kinds::table` meets its contract: the test of the entries is computed once, over all 256. Assumes nothing.
use mathlib.Core.Path.{refl}
use Rattle.spec_language.specs.Bytes.{bytes, between, elem, fixed, bytes_of, byte_kind}
use Rattle.front_token.proofs.Entries.{every}
use Rattle.front_token.proofs.ByteKinds.{right, kinds_tested}
use Rattle.front_token.proofs.kinds.table.Goals as goal

pub returns : goal.returns
unfolding every right byte_kind between elem fixed bytes_of bytes
returns c = kinds_tested _ refl refl
