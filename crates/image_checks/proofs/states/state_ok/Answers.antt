-- `image_checks::states::state_ok` meets its contract: place, outputs and variables in turn, each by its bytes. Assumes nothing.
use mathlib.Core.Path.{◌≡◌, ◌∙◌}
use mathlib.Core.Bool.{◌&&◌}
use native.Mathlib.Omega.{arith}
use borrow.Author.Rules.{rules}
use lib.ListN.{length, get_or}
use Rattle.std.proofs.lemmas.Grind.{common_steps}
use Rattle.image_checks.specs.Places.{outputs_at, variables_at, slots_at, place_at}
use Rattle.image_checks.proofs.Judged.{state_judged}
use Rattle.image_checks.proofs.states.state_ok.Goals as goal

pub returns-then-slots_ok : goal.returns-then-slots_ok
returns-then-slots_ok c =
    let a = c.args in
    -- a state record has 16 and 32 slots
    let o : length a.s.outputs ≡ 16 = search rules in
    let v : length a.s.variables ≡ 32 = search rules in
    let g = a.signature.now in
    let q : c.slots_ok-then-slots_ok.result
    ≡ (place_at a.lines.now a.s.place && (slots_at g (outputs_at g) (get_or g 1 0) a.s.outputs && slots_at g (variables_at g) (get_or g 2 0) a.s.variables)) =
    grind (arith, common_steps) in
    λ t code e. q ∙ state_judged g a.lines.now a.s o v t code e

pub returns-else-slots_ok : goal.returns-else-slots_ok
returns-else-slots_ok c =
    let a = c.args in
    -- a state record has 16 and 32 slots
    let o : length a.s.outputs ≡ 16 = search rules in
    let v : length a.s.variables ≡ 32 = search rules in
    let g = a.signature.now in
    let q : c.if-place_ok.value
    ≡ (place_at a.lines.now a.s.place && (slots_at g (outputs_at g) (get_or g 1 0) a.s.outputs && slots_at g (variables_at g) (get_or g 2 0) a.s.variables)) =
    grind (arith, common_steps) in
    λ t code e. q ∙ state_judged g a.lines.now a.s o v t code e
