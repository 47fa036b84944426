-- What opening an image finds: its refusal, or the bounds of its three sections (document 01, "Image, form 1"). Assumes nothing.
use Rattle.std.specs.Prelude.{List, ℕ, Result, Ok, Err}
use Rattle.base_answers.specs.declared.Refusal.{Refusal}
use Rattle.base_answers.specs.declared.Sections.{Sections}
use Rattle.base_answers.specs.Answers.{Told}
use Rattle.spec_format.specs.Opening.{open_of}
use Rattle.image_loader.specs.Open.{places_of}
use Rattle.spec_interface.specs.Entry.{opening_told}

-- the bytes b opened as an image: where its sections start, and where the last ends; or the number and the place of 11, 12 or 13
abbrev pub opening_of : List ℕ → Told Sections
opening_of b = opening_told (places_of b) (open_of b)

-- the bounds of three empty sections
abbrev pub no_sections : Sections
no_sections = record { signature = 0; lines = 0; code = 0; end = 0 }

-- the bounds that are lent between; of a refused image three empty sections
abbrev pub bounds_in : Result Sections Refusal → Sections
bounds_in (Ok at) = at
bounds_in (Err r) = no_sections
