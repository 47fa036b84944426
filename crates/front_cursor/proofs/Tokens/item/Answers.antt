-- `front_cursor::Tokens::item` meets its contract: what has refused stays as it is, and each other return is an arm of `item_at`. Assumes nothing.
use mathlib.Core.Path.{refl, ◌∙◌, ap}
use borrow.Author.Tests.{eq-eqb, ne_eqb}
use Rattle.std.proofs.lemmas.Result.{err_from_is_err_and}
use Rattle.front_layout.specs.Tokens.{flag_in}
use Rattle.front_cursor.specs.Reading.{Read, here, unread, item_at}
use Rattle.front_cursor.proofs.Arms.{item_stays, item_long, item_full, item_taken}
use Rattle.front_cursor.proofs.Steps.{unread_ends}
use Rattle.front_cursor.proofs.Tokens.item.Goals as goal
use Rattle.front_cursor.proofs.Tokens.item.Goals.{then-self-at-eq1-via-then-self-at-eq1, then-self-at-eq1-via-else-self-at-eq1+then-q-ge-ITEMS}

pub returns-in_err-q : goal.returns-in_err-q
returns-in_err-q g c =
    let p = err_from_is_err_and c.from_residual.result c.from_residual.ensures.1 in
    rw (p.1, p.2)
    (item_stays (unread _) _ (unread_ends _)
    ∙ ap (λ (r : Read). item_at (flag_in c.args.self.long.now r.at) r) c.in_err-q.ensures)

pub returns-then-self-at-eq1 : goal.returns-then-self-at-eq1
returns-then-self-at-eq1 g c =
    elim c.then-self-at-eq1.branch [
      | then-self-at-eq1-via-then-self-at-eq1 w ↦ item_long (here c.in_ok-q.q) _ refl (eq-eqb _ _ w.if-self-at-eq1.true)
      | then-self-at-eq1-via-else-self-at-eq1+then-q-ge-ITEMS w ↦ item_full (here c.in_ok-q.q) _ refl (ne_eqb _ _ w.if-self-at-eq1.false) w.if-q-ge-ITEMS.true
    ]
    ∙ ap (λ (r : Read). item_at (flag_in c.args.self.long.now r.at) r) c.in_ok-q.ensures

pub returns : goal.returns
returns g c =
    item_taken (here c.in_ok-q.q) _ refl (ne_eqb _ _ c.if-self-at-eq1.false) c.if-q-ge-ITEMS.false
    ∙ ap (λ (r : Read). item_at (flag_in c.args.self.long.now r.at) r) c.in_ok-q.ensures
