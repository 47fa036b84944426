-- What opening an image answers: where its sections start, or refusal 11, 12 or 13 with its place (document 01, "Turned back"). Assumes nothing.
use Rattle.std.specs.Prelude.{List, ℕ, length}
use Rattle.base_answers.specs.declared.Sections.{Sections}
use Rattle.base_answers.specs.Answers.{Told, done, refusal}
use Rattle.base_codes.specs.Image.{HEADER}
use Rattle.spec_format.specs.Opening.{Opened, opened, not_opened}
use Rattle.image_loader.specs.Sections.{lines_start, code_start}

-- "the first starts at byte 28, no gaps, the last ends the image"
abbrev pub places_of : List ℕ → Sections
places_of b = record { signature = HEADER; lines = lines_start b; code = code_start b; end = length b }

-- what is told of the image b: its sections; or number and place
abbrev pub open_answer : List ℕ → Opened → Told Sections
open_answer b (opened t) = done (places_of b)
open_answer b (not_opened number place) = refusal number place
