-- `front_declarations::tail` meets its contract: a type word, then an initial value. Assumes nothing.
use mathlib.Core.Path.{◌≡◌, sym, ◌∙◌, ap}
use Prim.Native.Nat.{ℕ}
use Rattle.std.proofs.lemmas.Result.{err_from_is_err_and}
use Rattle.front_layout.specs.Tokens.{kind_in}
use Rattle.front_cursor.specs.Reading.{here, unread, expect_one}
use Rattle.front_declarations.specs.Headers.{type_kind, tail_at}
use Rattle.front_cursor.proofs.Steps.{one_asks}
use Rattle.front_declarations.proofs.Values.{type_pos, init_ended}
use Rattle.front_declarations.proofs.tail.Goals as goal

pub returns-in_err-a : goal.returns-in_err-a
unfolding tail_at
returns-in_err-a c =
    let p = err_from_is_err_and c.from_residual.result c.from_residual.ensures.1 in
    let s = c.args in
    let z : unread c.in_err-a.field-0.0 ≡ expect_one s.text.kinds.now s.text.long.now s.text.count (type_kind (kind_in s.text.kinds.now s.text.count s.q.at)) (here s.q) =
    c.in_err-a.ensures ∙ ap (λ (k : ℕ). expect_one s.text.kinds.now s.text.long.now s.text.count k (here s.q)) (c.type_kind-kind.ensures ∙ ap type_kind c.kind_at.ensures) in
    rw (p.1, p.2, sym z)
    (init_ended c.args.text.kinds.now c.args.text.long.now c.args.text.count _)

pub init-requires : goal.init-requires
init-requires c =
    let s = c.args in
    one_asks s.text.kinds.now s.text.long.now c.type_kind-kind.result (rw c.type_kind-kind.ensures (type_pos c.kind_at.result))
    c.requires c.in_ok-a.ensures

pub returns : goal.returns
unfolding tail_at
returns c =
    let s = c.args in
    let z : here c.in_ok-a.a ≡ expect_one s.text.kinds.now s.text.long.now s.text.count (type_kind (kind_in s.text.kinds.now s.text.count s.q.at)) (here s.q) =
    c.in_ok-a.ensures ∙ ap (λ (k : ℕ). expect_one s.text.kinds.now s.text.long.now s.text.count k (here s.q)) (c.type_kind-kind.ensures ∙ ap type_kind c.kind_at.ensures) in
    c.init.ensures ∙ rw (sym z)
