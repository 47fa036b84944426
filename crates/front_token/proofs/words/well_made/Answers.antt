-- `front_token::words::well_made` meets its contract. The invariant: the rest is well made, after the underscore or not, exactly when the whole is. Assumes
-- nothing.
use mathlib.Core.Path.{sym, ◌∙◌}
use Rattle.front_token.proofs.WordLaws.{made_again, made_stop, made_end}
use Rattle.front_token.proofs.words.well_made.Goals as goal

pub returns-then-underscore : goal.returns-then-underscore
returns-then-underscore c =
    sym (made_stop _ _ _ _ c.loop-b-test.true c.is_underscore-underscore.ensures c.if-after_underscore.true c.if-underscore.true)
    ∙ c.loop-b.invariant

pub loop-b-preserved : goal.loop-b-preserved
loop-b-preserved c =
    made_again _ _ _ _ c.loop-b-test.true c.is_underscore-underscore.ensures c.else-after_underscore.either ∙ c.loop-b.invariant

pub returns : goal.returns
returns c = sym (made_end _ _ _ c.loop-b-test.false) ∙ c.loop-b.invariant
