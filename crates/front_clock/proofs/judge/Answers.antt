-- `front_clock::judge` meets its contract: the tests are those of `lowest_in`, and the lowest place by position is exact. Assumes nothing.
use mathlib.Core.Path.{sym, ◌∙◌, ap}
use Rattle.std.specs.Prelude.{Some}
use Prim.Native.Nat.{ℕ}
use Rattle.front_offences.specs.Lowest.{lower}
use Rattle.spec_language.specs.Clock.{clock}
use Rattle.front_offences.proofs.Judged.{judged}
use Rattle.front_clock.proofs.Steps.{lowest_none, lowest_reads, lowest_first}
use Rattle.front_clock.proofs.Exact.{exact}
use Rattle.front_clock.proofs.judge.Goals as goal

pub returns-then-w-tree : goal.returns-then-w-tree
returns-then-w-tree c =
    let t = c.args.tree.now in
    judged clock (exact _ _ _ _ _ _ _)
    (lowest_none t.rows.now t.shape.statements t.codes.now t.indices.now t.shape.items t.starts.now t.owners.now t.shape.tokens
    t.decls.now t.shape.names _ c.first_wait-w.ensures c.if-w-tree.true)

pub returns-then-is_clock : goal.returns-then-is_clock
returns-then-is_clock c =
    let t = c.args.tree.now in
    judged clock (exact _ _ _ _ _ _ _)
    (lowest_reads t.rows.now t.shape.statements t.codes.now t.indices.now t.shape.items t.starts.now t.owners.now t.shape.tokens
    t.decls.now t.shape.names _ c.first_wait-w.ensures c.if-w-tree.false _ _ c.owner-o.ensures c.strays-stray.ensures _ _
    (sym c.if-is_clock.true ∙ c.is_clock.ensures) c.reads-read.ensures c.lower.ensures)

pub returns : goal.returns
returns c =
    let t = c.args.tree.now in
    judged clock (exact _ _ _ _ _ _ _)
    (lowest_first t.rows.now t.shape.statements t.codes.now t.indices.now t.shape.items t.starts.now t.owners.now t.shape.tokens
    t.decls.now t.shape.names _ c.first_wait-w.ensures c.if-w-tree.false _ _ c.owner-o.ensures c.strays-stray.ensures _ _
    (sym c.if-is_clock.false ∙ c.is_clock.ensures) c.place.ensures
    (c.lower-2.ensures ∙ ap (λ (x : ℕ). lower (Some x) c.strays-stray.result) c.from.ensures))
