-- `front_cursor::Tokens::expect` meets its contract: what has refused stays as it is, and each other return is an arm of `expect_at`. Assumes nothing.
use mathlib.Core.Path.{refl, sym, ◌∙◌, ap}
use borrow.Author.Tests.{eq-eqb, ne_eqb}
use Rattle.std.proofs.lemmas.Result.{err_from_is_err_and}
use Rattle.front_cursor.specs.Reading.{Read, here, expect_one}
use Rattle.front_cursor.proofs.Arms.{expect_writtenot, expect_long, expect_taken}
use Rattle.front_cursor.proofs.Steps.{expect_ended}
use Rattle.front_cursor.proofs.Tokens.expect.Goals as goal

pub returns-in_err-q : goal.returns-in_err-q
returns-in_err-q g c =
    let s = c.args.self in
    let p = err_from_is_err_and c.from_residual.result c.from_residual.ensures.1 in
    rw (p.1, p.2)
    (expect_ended s.kinds.now s.long.now s.count c.args.kind _
    ∙ ap (λ (r : Read). expect_one s.kinds.now s.long.now s.count c.args.kind r) c.in_err-q.ensures)

pub returns-then-kind_at-kind : goal.returns-then-kind_at-kind
returns-then-kind_at-kind g c =
    let s = c.args.self in
    expect_writtenot (here c.in_ok-q.q) _ _ refl
    (ne_eqb _ _ (λ e. c.if-kind_at-kind.true (c.kind_at.ensures ∙ e)))
    ∙ ap (λ (r : Read). expect_one s.kinds.now s.long.now s.count c.args.kind r) c.in_ok-q.ensures

pub returns-then-self-at-eq1 : goal.returns-then-self-at-eq1
returns-then-self-at-eq1 g c =
    let s = c.args.self in
    expect_long (here c.in_ok-q.q) _ _ refl
    (eq-eqb _ _ (sym c.kind_at.ensures ∙ c.if-kind_at-kind.false)) (eq-eqb _ _ c.if-self-at-eq1.true)
    ∙ ap (λ (r : Read). expect_one s.kinds.now s.long.now s.count c.args.kind r) c.in_ok-q.ensures

pub returns : goal.returns
returns g c =
    let s = c.args.self in
    expect_taken (here c.in_ok-q.q) _ _ refl
    (eq-eqb _ _ (sym c.kind_at.ensures ∙ c.if-kind_at-kind.false)) (ne_eqb _ _ c.if-self-at-eq1.false)
    ∙ ap (λ (r : Read). expect_one s.kinds.now s.long.now s.count c.args.kind r) c.in_ok-q.ensures
