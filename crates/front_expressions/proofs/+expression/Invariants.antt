use Prim.Native.Nat.{◌+◌, ◌*◌, ◌-◌}
use Rattle.front_cursor.specs.Reading.{here}
use Rattle.front_layout.specs.Items.{arrays}
use Rattle.front_expressions.specs.Readers.{sum, product as product_tail, TurnOver}
use Rattle.front_expressions.proofs.Sums.{Chained}
use Rattle.front_expressions.proofs.+expression.Given as goal

abbrev pub decreases-chain : goal.decreases-chain
decreases-chain l = 10 * (l.text.count - l.q.at) + 9

abbrev pub decreases-factor : goal.decreases-factor
decreases-factor l = 10 * (l.text.count - l.q.at) + 2

abbrev pub decreases-joined : goal.decreases-joined
decreases-joined l = 10 * (l.text.count - l.q.at) + 8

abbrev pub decreases-multiplied : goal.decreases-multiplied
decreases-multiplied l = 10 * (l.text.count - l.q.at) + 3

abbrev pub decreases-parenthesised : goal.decreases-parenthesised
decreases-parenthesised l = 10 * (l.text.count - l.q.at) + 0

abbrev pub decreases-primary : goal.decreases-primary
decreases-primary l = 10 * (l.text.count - l.q.at) + 1

abbrev pub decreases-product : goal.decreases-product
decreases-product l = 10 * (l.text.count - l.q.at) + 4

abbrev pub decreases-relation : goal.decreases-relation
decreases-relation l = 10 * (l.text.count - l.q.at) + 7

abbrev pub decreases-signed : goal.decreases-signed
decreases-signed l = 10 * (l.text.count - l.q.at) + 5

abbrev pub decreases-simple : goal.decreases-simple
decreases-simple l = 10 * (l.text.count - l.q.at) + 6

abbrev pub decreases-term : goal.decreases-term
decreases-term l = 10 * (l.text.count - l.q.at) + 5

abbrev pub invariant-chain-loop-text : goal.invariant-chain-loop-text
invariant-chain-loop-text l = Chained l.kind l.text.kinds.now l.text.long.now l.text.count (here l.initial.a) l.parens (arrays l.initial.codes l.initial.tokens) (here l.a) (arrays l.codes l.tokens)

abbrev pub decreases-chain-loop-text : goal.decreases-chain-loop-text
decreases-chain-loop-text l = (l.text.count - l.a.at)

abbrev pub invariant-product-loop-text : goal.invariant-product-loop-text
invariant-product-loop-text l = TurnOver product_tail l.text.kinds.now l.text.long.now l.text.count (here l.initial.a) l.parens (arrays l.initial.codes l.initial.tokens) (here l.a) (arrays l.codes l.tokens)

abbrev pub decreases-product-loop-text : goal.decreases-product-loop-text
decreases-product-loop-text l = (l.text.count - l.a.at)

abbrev pub invariant-simple-loop-text : goal.invariant-simple-loop-text
invariant-simple-loop-text l = TurnOver sum l.text.kinds.now l.text.long.now l.text.count (here l.initial.a) l.parens (arrays l.initial.codes l.initial.tokens) (here l.a) (arrays l.codes l.tokens)

abbrev pub decreases-simple-loop-text : goal.decreases-simple-loop-text
decreases-simple-loop-text l = (l.text.count - l.a.at)
