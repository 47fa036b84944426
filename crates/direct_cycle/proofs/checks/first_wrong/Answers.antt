-- `direct_cycle::checks::first_wrong` meets its contract: the values from an index on answer what the row answers; the measure is the values left. Assumes
-- nothing.
use Rattle.std.specs.Prelude.{true, false}
use Rattle.std.specs.Prelude.{◌≡◌}
use Prim.Native.Nat.{ℕ}
use mathlib.Core.Path.{refl, sym, ap, ◌∙◌}
use mathlib.Core.Option.{Option}
use native.Mathlib.Omega.{arith}
use borrow.Author.Rules.{rules}
use lib.ListN.{get_or}
use lib.IntN.{pos}
use mir.Syntax.{w32}
use mir.Val.{SFits}
use mir.Facts.{to_z-of_z}
use Rattle.direct_cycle.specs.Checks.{check_of}
use Rattle.direct_cycle.proofs.CheckLaws.{wrong_again, wrong_here, wrong_end}
use Rattle.direct_cycle.proofs.checks.first_wrong.Goals as goal

pub loop-k-init : goal.loop-k-init
loop-k-init c = refl

pub bounds-types-k : goal.bounds-types-k
bounds-types-k c = let h = c.loop-k-test.true in let e = c.requires in omega arith

pub loop-k-preserved : goal.loop-k-preserved
loop-k-preserved c =
    let t : c.in_type.result ≡ true = search rules in
    let h : SFits w32 (get_or c.args.inputs.now c.loop-k.k
    (pos 0)) = search rules in
    wrong_again c.args.types.now
    c.args.inputs.now c.loop-k.k
    c.loop-k-test.true c.requires
    (sym (rw (to_z-of_z h) at c.in_type.ensures) ∙ t) ∙ c.loop-k.invariant

pub returns-then-not-in_type : goal.returns-then-not-in_type
returns-then-not-in_type c =
    let t : c.in_type.result ≡ false = search rules in
    let h : SFits w32 (get_or c.args.inputs.now c.loop-k.k
    (pos 0)) = search rules in
    ap (λ (x : Option ℕ). check_of x) (wrong_here c.args.types.now
    c.args.inputs.now c.loop-k.k
    c.loop-k-test.true c.requires
    (sym (rw (to_z-of_z h) at c.in_type.ensures) ∙ t) ∙ c.loop-k.invariant)

pub returns : goal.returns
returns c =
    ap (λ (x : Option ℕ). check_of x)
    (wrong_end c.args.types.now c.args.inputs.now c.loop-k.k c.loop-k-test.false
    c.requires ∙ c.loop-k.invariant)
