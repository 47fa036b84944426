-- `image_checks::lines::first_line` meets its contract: the follower of a line stands at its byte 6. Assumes nothing.
use mathlib.Core.Path.{◌∙◌}
use borrow.Author.Rules.{rules}
use Rattle.image_checks.proofs.Fields.{from_beginning, from_wait}
use Rattle.image_checks.proofs.lines.first_line.Goals as goal

pub returns-then-place-eq-BEGINNING : goal.returns-then-place-eq-BEGINNING
returns-then-place-eq-BEGINNING c =
    let a = c.args in record { value = (λ t s code e h. from_beginning s a.lines.now code t e a.place c.if-place-eq-BEGINNING.true); upper_bound = search rules }

pub returns : goal.returns
returns c =
    let a = c.args in record { value = (λ t s code e h. (rw c.from.ensures at c.word2.ensures.value) ∙ from_wait s a.lines.now code t e a.place c.if-place-eq-BEGINNING.false h); upper_bound = search rules }
