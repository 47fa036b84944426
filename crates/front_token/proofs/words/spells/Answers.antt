-- `front_token::words::spells` meets its contract: as long, and the same byte at every place. Assumes nothing.
use mathlib.Core.Path.{sym, ◌∙◌}
use borrow.Author.Tests.{ne_eqb}
use borrow.Author.Rules.{rules}
use Rattle.front_token.proofs.WordLaws.{spells_by, spells_length}
use Rattle.front_token.proofs.words.spells.Goals as goal

pub returns-then-word-spelling : goal.returns-then-word-spelling
returns-then-word-spelling c = spells_by _ _ _ c.if-word-spelling.true (search rules)

pub returns-else-word-spelling : goal.returns-else-word-spelling
returns-else-word-spelling c = ne_eqb _ _ c.if-word-spelling.false ∙ sym (spells_length _ c.args.word.now c.if-word-spelling.false)
