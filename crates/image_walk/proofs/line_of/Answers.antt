-- `image_walk::line_of` meets its contract: the whole line, nothing of it, or what the section has of it. Assumes nothing.
use Prim.Native.Nat.{◌+◌, ◌*◌, ◌-◌, ◌≤◌}
use native.Mathlib.Omega.{arith}
use mathlib.Core.Path.{◌≡◌, refl, sym, ap, ◌∙◌}
use mathlib.Core.List.{List}
use lib.ListN.{length, take, drop, length-drop, drop_of_length-le}
use lib.Seq.{take_all}
use borrow.Author.Rules.{rules}
use Rattle.image_walk.proofs.line_of.Goals as goal

pub returns-then-end-lines : goal.returns-then-end-lines
returns-then-end-lines c = let n = c.args.x * 12 in let z : n + 12 - n ≡ 12 = omega arith in rw z refl

pub returns-then-lines-at : goal.returns-then-lines-at
returns-then-lines-at c =
    let h : length c.args.lines.now ≤ c.args.x * 12 = search rules in
    sym (ap (λ (s : List _). take 12 s) (drop_of_length-le c.args.lines.now h))

pub returns : goal.returns
returns c =
    let l = c.args.lines.now in
    let n = c.args.x * 12 in
    let e = length-drop n l in
    let h = c.if-end-lines.false in
    take_all (length l - n) (drop n l) (omega arith) ∙ sym (take_all 12 (drop n l) (omega arith))
