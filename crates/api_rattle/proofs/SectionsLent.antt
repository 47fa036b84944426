-- Opening an image finds the bounds of its sections, so that what the accessors lend are the sections of its table. Assumes nothing.
use Prim.Native.Nat.{ℕ}
use mathlib.Core.Path.{◌≡◌, sym, ap, subst, ◌∙◌}
use mathlib.Core.Bool.{true}
use mathlib.Core.List.{List}
use Rattle.std.specs.Prelude.{Result, Ok, Err}
use Rattle.base_answers.specs.declared.Refusal.{Refusal}
use Rattle.base_answers.specs.declared.Sections.{Sections}
use Rattle.base_answers.specs.Answers.{told, done}
use Rattle.base_answers.proofs.Told.{done_refused}
use Rattle.spec_semantics.proofs.Basic.{some_injective}
use Rattle.spec_format.specs.Words.{Bytes}
use Rattle.spec_format.specs.Image.{Table, sections_for}
use Rattle.spec_format.specs.Opening.{opened, sections_of, open_of}
use Rattle.spec_format.proofs.Opens.{table_sections, opens_exactly}
use Rattle.spec_interface.specs.Lending.{bounds_of}
use Rattle.spec_interface.specs.Entry.{opening_told}
use Rattle.spec_interface.specs.Told.{SectionsLent}
use Rattle.spec_interface.proofs.SectionsLent as L
use Rattle.image_loader.specs.Sections.{is_some, parts}
use Rattle.image_loader.specs.Open.{places_of}
use Rattle.image_loader.proofs.OpenLaws.{lengths, opened_sections}
use Rattle.api_rattle.specs.Lending.{opening_of, bounds_in}

module _ (b : List ℕ) (t : Table) (h : Bytes b) (e : open_of b ≡ opened t) where
  there : is_some (sections_of b) ≡ true
  there = ap is_some (opened_sections b t e)

  -- the parts of the image are the sections of the table
  parts_are : parts b ≡ sections_for t
  parts_are =
      let k = (opens_exactly b t h).0 e in
      some_injective (parts b) (sections_for t) (sym (opened_sections b t e) ∙ (ap sections_of k.0 ∙ table_sections t k.1))

  -- the places that are found are where they start and end
  places_are : places_of b ≡ bounds_of (parts b)
  places_are = let z = lengths b there in rw (z.signature, z.lines, z.code, z.all)

  bounds_found_lem : (r : Result Sections Refusal) → told r ≡ opening_of b → bounds_in r ≡ bounds_of (sections_for t)
  bounds_found_lem (Ok at) f =
      let k : done at ≡ done (places_of b) = f ∙ ap (opening_told (places_of b)) e in
      let z : at ≡ places_of b = cc in
      z ∙ (places_are ∙ ap bounds_of parts_are)
  bounds_found_lem (Err x) f = done_refused (sym (f ∙ ap (opening_told (places_of b)) e))

  pub sections_lent : (r : Result Sections Refusal) → told r ≡ opening_of b → SectionsLent b t (bounds_in r)
  sections_lent r f = subst (SectionsLent b t) (sym (bounds_found_lem r f)) (L.sections_lent b h t e)
