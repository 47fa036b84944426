-- `front_expressions::expression` meets its contract: what has refused stays as it is, and else the chain's contract is its own. Assumes nothing.
use mathlib.Core.Path.{sym, subst}
use native.Mathlib.Omega.{arith}
use Rattle.std.proofs.lemmas.Result.{err_from_is_err_and}
use Rattle.spec_grammar.specs.Tree.{number}
use Rattle.spec_grammar.specs.Grammar.{expression as expression_part}
use Rattle.front_layout.specs.Tokens.{no_token}
use Rattle.front_layout.specs.Postfix.{postfix}
use Rattle.front_layout.specs.Items.{arrays}
use Rattle.front_cursor.specs.Reading.{Read, unread, as_read, Asks}
use Rattle.front_cursor.proofs.Steps.{unread_ends}
use Rattle.front_expressions.specs.Readers.{ReadsOver}
use Rattle.front_expressions.proofs.Primaries.{reads_stays}
use Rattle.front_expressions.proofs.expression.Goals as goal

pub returns-in_err-q : goal.returns-in_err-q
returns-in_err-q g c =
    let s = c.args in
    let e = c.in_err-q.field-0.0 in
    let b = arrays s.codes.now s.tokens.now in
    let p = err_from_is_err_and c.from_residual.result c.from_residual.ensures.1 in
    let asks = subst (λ (r : Read). Asks s.text.count r) (sym c.in_err-q.ensures) c.requires.1 in
    rw (p.1, p.2)
    (subst (λ (r : Read). ReadsOver expression_part postfix s.text.kinds.now s.text.long.now s.text.count r s.parens b (unread e) b) c.in_err-q.ensures
    (reads_stays expression_part postfix (number no_token) b asks (unread_ends e)))

pub chain-requires : goal.chain-requires
chain-requires g c =
    let few = c.requires.0 in
    (omega arith, subst (λ (r : Read). Asks c.args.text.count r) (sym c.in_ok-q.ensures) c.requires.1)

pub returns : goal.returns
returns g c =
    let s = c.args in
    subst
    (λ (r : Read). ReadsOver expression_part postfix s.text.kinds.now s.text.long.now s.text.count r s.parens (arrays s.codes.now s.tokens.now)
    (as_read c.chain.result) (arrays c.chain.new.codes c.chain.new.tokens))
    c.in_ok-q.ensures c.chain.ensures
