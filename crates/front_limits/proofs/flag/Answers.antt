-- `front_limits::flag` meets its contract: its cases are those of `flag_of`. Assumes nothing.
use mathlib.Core.Path.{◌≡◌, refl, ◌∙◌}
use mathlib.Core.Bool.{Bool, true, false}
use native.Mathlib.Omega.{arith}
use mir.Val.{bool_byte}
use borrow.Author.Tests.{ne_eqb}
use Rattle.spec_grammar.specs.Reader.{choose}
use Rattle.front_limits.specs.Flags.{flag_of}
use Rattle.front_limits.proofs.flag.Goals as goal

byte_is : (b : Bool) → bool_byte b ≡ choose b 1 0
byte_is true = refl
byte_is false = refl

pub returns-in-1 : goal.returns-in-1
unfolding flag_of
returns-in-1 c = rw c.in-1.is (c.from.ensures ∙ byte_is _)

pub returns-in-2 : goal.returns-in-2
unfolding flag_of
returns-in-2 c = rw (c.in-2.is, ← c.from-in-2.ensures, ← c.from-in-2-2.ensures) c.number_flag.ensures

pub returns-in_default : goal.returns-in_default
unfolding flag_of
returns-in_default c = rw (ne_eqb c.args.kind 1 (λ e. omega arith), ne_eqb c.args.kind 2 (λ e. omega arith))
