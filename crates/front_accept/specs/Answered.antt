-- The refusals of a text, by number and place (document 01, "Turned back", 1 to 9). Assumes nothing.
use Rattle.std.specs.Prelude.{List, ℕ, ltb}
use Rattle.base_answers.specs.declared.Refusal.{Refusal}
use Rattle.base_answers.specs.declared.Refusal.TheVariants.{NoSentence, LimitPassed}
use Rattle.spec_grammar.specs.Reader.{choose}
use Rattle.front_cursor.specs.declared.Unread.{Unread}
use Rattle.front_cursor.specs.declared.Unread.TheVariants as U
use Rattle.front_layout.specs.Arrays.{number_in}

-- the place of token i of n, or the text's length
abbrev pub place_in : List ℕ → ℕ → ℕ → ℕ → ℕ
place_in starts n l i = choose (ltb i n) (number_in starts n i) l

-- the refusal of a text that is not read, at its token's place
abbrev pub unread_as : List ℕ → ℕ → ℕ → Unread → Refusal
unread_as starts n l (U.NoSentence i) = NoSentence (place_in starts n l i)
unread_as starts n l (U.LimitPassed i) = LimitPassed (place_in starts n l i)
