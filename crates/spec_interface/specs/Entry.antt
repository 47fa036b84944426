-- What the operations of the crate api_rattle leave and tell beside their answers: the caller's own state record, number and place of an opened image (document 01,
-- "State", "Turned back"). Assumes nothing.
use Rattle.base_answers.specs.declared.State.{State}
use Rattle.base_answers.specs.declared.Sections.{Sections}
use Rattle.base_answers.specs.Answers.{Told, done, refusal}
use Rattle.spec_semantics.specs.Records.{Started, fresh, not_started}
use Rattle.spec_format.specs.Opening.{Opened, opened, not_opened}

-- "Buffers and state are untouched": the record after a fresh state was asked for, s before
abbrev pub state_after : Started → State → State
state_after (fresh x) s = x
state_after (not_started q k) s = s

-- an image that was opened: x, the bounds that are handed out; or number and place
abbrev pub opening_told : Sections → Opened → Told Sections
opening_told x (opened t) = done x
opening_told x (not_opened q k) = refusal q k
