-- `base_codes::types::declared` meets its contract: the type bytes, and no other number. Assumes nothing.
use mathlib.Core.Path.{sym, ap}
use Prim.Native.Nat.{ℕ}
use borrow.Author.Tests.{ne_eqb}
use Rattle.base_codes.specs.Types.{tag_or, declared_type}
use Rattle.base_codes.proofs.types.declared.Goals as goal

pub returns-in-0 : goal.returns-in-0
returns-in-0 c = ap (λ (k : ℕ). tag_or (declared_type k)) (sym c.in-0.is)

pub returns-in-1 : goal.returns-in-1
returns-in-1 c = ap (λ (k : ℕ). tag_or (declared_type k)) (sym c.in-1.is)

pub returns-in_default : goal.returns-in_default
returns-in_default c =
    rw (ne_eqb c.args.number 0 c.in_default.in_default-own.rest.0.1, ne_eqb c.args.number 1 c.in_default.in_default-own.rest.1)
