-- `front_token::words::word_kind` meets its contract: each size asks the reserved words of that size. Assumes nothing.
use mathlib.Core.Path.{refl}
use mathlib.Core.List.{[], ◌∷◌}
use Rattle.spec_language.specs.Bytes.{bytes, elem}
use Rattle.spec_language.specs.Words.{reserved}
use Rattle.spec_language.specs.Lexing.{all}
use Rattle.front_token.specs.Reserved.{of_size}
use Rattle.front_token.proofs.WordLaws.{arms, by_none}
use Rattle.front_token.proofs.words.word_kind.Goals as goal

pub returns-in-5 : goal.returns-in-5
unfolding of_size reserved bytes
returns-in-5 c = search arms

pub returns-in-12 : goal.returns-in-12
unfolding of_size reserved bytes
returns-in-12 c = search arms

pub returns-in_default : goal.returns-in_default
unfolding reserved bytes elem all
returns-in_default c = by_none (2 ∷ 3 ∷ 4 ∷ 5 ∷ 6 ∷ 7 ∷ 8 ∷ 9 ∷ 12 ∷ []) c.args.word.now refl c.in_default.in_default-own.rest
