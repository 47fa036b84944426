-- What the stage of types answers, on any arrays and on those of a tree. Assumes nothing.
use Rattle.std.specs.Prelude.{List, Option, ℕ, ◌≤◌}
use Rattle.base_codes.specs.Limit.{ITEMS}
use Rattle.spec_grammar.specs.Token.{Token}
use Rattle.spec_grammar.specs.Tree.{Expr, Text}
use Rattle.spec_grammar.specs.Limits.{Each, item_count, body_exprs}
use Rattle.spec_language.specs.Typing.{types}
use Rattle.front_offences.specs.declared.Shape.{Shape}
use Rattle.front_offences.specs.declared.tree.Tree.{Tree}
use Rattle.front_offences.specs.Judged.{LaidIn, Judged}
use Rattle.front_typing.specs.Positions.{lowest_in}

-- the arrays hold a tree whose expressions keep their limit: "64 literals, names and operators in an expression"
pub record Held (starts : List ℕ) (p : Shape) (codes indices rows decls owners : List ℕ) (t : Text) : Type 0 where
  pub tokens : List Token
  pub kinds : List ℕ
  pub laid : LaidIn tokens t kinds starts p codes indices rows decls owners
  pub limited : Each (λ (e : Expr). item_count e ≤ ITEMS) (body_exprs t.body)

-- the stage's answer: the lowest place by position; and for such a tree the lowest offence of refusal 6
abbrev pub Judges : Tree → Option ℕ → Type 0
Judges tree r = Judged (lowest_in tree.starts.now tree.shape tree.codes.now tree.indices.now tree.rows.now tree.decls.now tree.owners.now)
    (Held tree.starts.now tree.shape tree.codes.now tree.indices.now tree.rows.now tree.decls.now tree.owners.now) types r
