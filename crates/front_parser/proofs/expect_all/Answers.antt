-- `front_parser::expect_all` meets its contract: what is still to be taken from where the loop stands is what is to be taken from the beginning. Assumes
-- nothing.
use mathlib.Core.Path.{sym, ◌∙◌, ap}
use native.Mathlib.Omega.{arith}
use Prim.Native.Nat.{◌+◌}
use lib.ListN.{drop, get_or}
use Rattle.std.proofs.lemmas.Result.{err_from_is_err_and}
use Rattle.front_cursor.specs.Reading.{Read, here}
use Rattle.front_cursor.proofs.Steps.{one_asks}
use Rattle.front_parser.specs.Runs.{expect_all}
use Rattle.front_parser.proofs.RunLaws.{all_ended, next_taken, next_positive, none_taken}
use Rattle.front_parser.proofs.expect_all.Goals as goal

pub returns-in_err-a : goal.returns-in_err-a
returns-in_err-a c =
    let s = c.args in
    let i = c.loop-word.word-index in
    let e = c.in_err-a.field-0.0 in
    let p = err_from_is_err_and c.from_residual.result c.from_residual.ensures.1 in
    rw (p.1, p.2)
    (all_ended s.text.kinds.now s.text.long.now s.text.count (drop (i + 1) s.words.now) e
    ∙ (ap (λ (q : Read). expect_all s.text.kinds.now s.text.long.now s.text.count (drop (i + 1) s.words.now) q) c.in_err-a.ensures
    ∙ sym (c.loop-word.invariant.0 ∙ next_taken s.text.kinds.now s.text.long.now s.text.count s.words.now i (here c.loop-word.a) (omega arith))))

pub loop-word-preserved : goal.loop-word-preserved
loop-word-preserved c =
    let s = c.args in
    let i = c.loop-word.word-index in
    let h = next_positive s.words.now i (omega arith) c.loop-word.invariant.1 in (
      c.loop-word.invariant.0 ∙ (next_taken s.text.kinds.now s.text.long.now s.text.count s.words.now i (here c.loop-word.a) (omega arith)
          ∙ ap (λ (q : Read). expect_all s.text.kinds.now s.text.long.now s.text.count (drop (i + 1) s.words.now) q) (sym c.in_ok-a.ensures)),
      h.1,
      one_asks s.text.kinds.now s.text.long.now (get_or s.words.now i 0) h.0 c.loop-word.invariant.2 c.in_ok-a.ensures,
    )

pub returns : goal.returns
returns c =
    let s = c.args in
    sym (c.loop-word.invariant.0 ∙ none_taken s.text.kinds.now s.text.long.now s.text.count s.words.now c.loop-word.word-index (here c.loop-word.a) (omega arith))
