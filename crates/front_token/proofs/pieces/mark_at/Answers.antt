-- `front_token::pieces::mark_at` meets its contract. Assumes nothing.
use mathlib.Core.Path.{sym, ◌∙◌, ap}
use mathlib.Core.List.{List}
use Prim.Native.Nat.{ℕ}
use lib.Seq.{drop-cons}
use Rattle.spec_language.specs.Bytes.{fixed}
use Rattle.spec_language.specs.Lexer.{fixed_start}
use Rattle.front_token.specs.Pieces.{placed}
use Rattle.front_token.proofs.ByteKinds.{flag}
use Rattle.front_token.proofs.PieceLaws.{mark_comment, mark_fixed}
use Rattle.front_token.proofs.pieces.mark_at.Goals as goal

pub returns-then-opens_comment : goal.returns-then-opens_comment
returns-then-opens_comment c =
    mark_comment _ c.args.at _ _
    (flag c.opens_comment.ensures c.if-opens_comment.true) c.comment_end.ensures

pub returns-else-opens_comment : goal.returns-else-opens_comment
returns-else-opens_comment c =
    c.fixed_at.ensures
    ∙ (ap (λ (l : List ℕ). placed (fixed_start fixed l) c.args.at)
    (drop-cons c.args.text.now c.args.at 0
    c.requires)
    ∙ sym (mark_fixed c.args.text.now c.args.at _
    (flag c.opens_comment.ensures c.if-opens_comment.false)))
