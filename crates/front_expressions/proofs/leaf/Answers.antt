-- `front_expressions::leaf` meets its contract: the token is an item, and written, or it is refused. Assumes nothing.
use mathlib.Core.Path.{◌≡◌, refl, sym, subst}
use mathlib.Core.Bool.{true}
use Prim.Native.Nat.{ℕ}
use native.Mathlib.Omega.{arith}
use lib.Dec.{lit<}
use Rattle.base_codes.specs.Token.{one_of, operands}
use Rattle.base_codes.proofs.TokenLaws.{some_kind}
use Rattle.front_layout.specs.Tokens.{kind_in, flag_in}
use Rattle.std.proofs.lemmas.Result.{err_from_is_err_and}
use Rattle.front_cursor.specs.Reading.{here}
use Rattle.front_cursor.proofs.Steps.{kind_inside}
use Rattle.front_expressions.proofs.Items.{put_ends}
use Rattle.front_expressions.proofs.Behind.{operand_asks, put_room}
use Rattle.front_expressions.proofs.Primaries.{stay_moves, primary_leaf}
use Rattle.front_expressions.proofs.leaf.Goals as goal

pub item-requires : goal.item-requires
item-requires c =
    let s = c.args in
    let i = kind_inside s.text.kinds.now s.text.count s.q.at (kind_in s.text.kinds.now s.text.count s.q.at) refl
    (some_kind operands (lit< tt, (lit< tt, (lit< tt, (lit< tt, tt)))) _ c.requires.1) in
    omega arith

pub returns-in_err-a : goal.returns-in_err-a
returns-in_err-a c parens low =
    let k = c.kind_at-kind in
    let p = err_from_is_err_and c.from_residual.result c.from_residual.ensures.1 in
    rw (p.1, p.2)
    (primary_leaf c.requires.0 low refl
    k.result (subst (λ (j : ℕ). one_of j operands ≡ true) (sym k.ensures) c.requires.1)
    (sym k.ensures) _ _ c.in_err-a.ensures (put_ends _ _))

pub put-requires : goal.put-requires
put-requires c =
    let s = c.args in
    let p = c.requires in
    let a = here c.in_ok-a.a in
    let i = kind_inside s.text.kinds.now s.text.count s.q.at (kind_in s.text.kinds.now s.text.count s.q.at) refl
    (some_kind operands (lit< tt, (lit< tt, (lit< tt, (lit< tt, tt)))) _ p.1) in (
      put_room s.text.count (here s.q) a a a (flag_in s.text.long.now s.q.at) p.0 i c.in_ok-a.ensures
          (stay_moves s.text.count a (operand_asks s.text.count (here s.q) a a a (flag_in s.text.long.now s.q.at) p.0 i c.in_ok-a.ensures)) refl,
      omega arith,
    )

pub returns : goal.returns
returns c parens low =
    let k = c.kind_at-kind in
    primary_leaf c.requires.0 low refl
    k.result (subst (λ (j : ℕ). one_of j operands ≡ true) (sym k.ensures) c.requires.1)
    (sym k.ensures) _ _ c.in_ok-a.ensures (rw c.leaf_code.ensures at c.put.ensures)
