-- What a cycle rests on, of an image that opens: its sections are those of its table, byte for byte, since only the encoding of a good table opens.
-- Assumes nothing.
use Prim.Native.Nat.{ℕ, suc, ◌*◌, ◌<◌}
use native.Mathlib.Omega.{arith}
use mathlib.Core.Path.{◌≡◌, refl, sym, ap, subst, ◌∙◌}
use mathlib.Core.Option.{some}
use mathlib.Core.List.{List, [], ◌∷◌}
use lib.ListN.{length, get_or}
use Rattle.spec_format.specs.Words.{Bytes}
use Rattle.spec_format.specs.Image.{Table, raws_bytes, raws_of, code_of_lines, Sections, sections_for, encode_table}
use Rattle.spec_format.specs.Good.{GoodTable}
use Rattle.spec_format.specs.Opening.{raws, sections_of, opened, open_of}
use Rattle.spec_format.proofs.Lines.{raws_read, raws_bytes_length, raws_length, raws_narrow}
use Rattle.spec_format.proofs.Sections.{form1_length, whole_lines_lem, form1_read}
use Rattle.spec_format.proofs.Opens.{opens_exactly}
use Rattle.image_walk.specs.Held.{Held}
use Rattle.image_checks.specs.Places.{Opens}
use Rattle.image_checks.proofs.Opened.{image_opens}
use Rattle.image_cycle.specs.Ran.{Checked}
use Rattle.image_loader.specs.Sections.{parts}
use Rattle.image_loader.proofs.OpenLaws.{opened_sections}

-- elements that are bytes
pub all_bytes : (b : List ℕ) → ((k : ℕ) → get_or b k 0 < 256) → Bytes b
unfolding Bytes
all_bytes [] h = tt
all_bytes (k ∷ b) h = (h 0, all_bytes b (λ j. h (suc j)))

same_sections : {x y : Sections} → some x ≡ some y → x ≡ y
same_sections e = cc

module _ (t : Table) (g : GoodTable t) where
  abbrev fields : List ℕ
  fields = raws_bytes (raws_of 0 t.lines t.reaches)

  fields_long : length fields ≡ 12 * length t.lines
  fields_long =
      raws_bytes_length (raws_of 0 t.lines t.reaches)
      ∙ ap (λ k. 12 * k) (raws_length t.signature (length t.lines) t.reaches 0 t.lines t.reaches g.lines)

  -- the sections of its image
  encoded_sections : sections_of (encode_table t) ≡ some (sections_for t)
  unfolding encode_table sections_for
  encoded_sections = form1_read (sections_for t) (whole_lines_lem fields (length t.lines) fields_long g.some_line g.few_lines) g.bytes

  code_small : length (code_of_lines t.lines) < 65536
  unfolding encode_table sections_for
  code_small = omega (arith, form1_length (sections_for t), g.bytes)

  -- the fields of its lines
  fields_read : raws (length t.lines) fields ≡ raws_of 0 t.lines t.reaches
  fields_read =
      let n = length t.lines in
      let ws = raws_of 0 t.lines t.reaches in
      ap (λ k. raws k (raws_bytes ws)) (sym (raws_length t.signature n t.reaches 0 t.lines t.reaches g.lines))
      ∙ raws_read ws (raws_narrow t.signature n t.reaches 0 t.lines t.reaches g.lines g.few_lines (omega (arith, code_small)))

module _ (b : List ℕ) (t : Table) (bytes : Bytes b) (e : open_of b ≡ opened t) where
  pub good : GoodTable t
  good = ((opens_exactly b t bytes).0 e).1

  parts_encoded : parts b ≡ sections_for t
  parts_encoded =
      same_sections (sym (opened_sections b t e) ∙ ap sections_of ((opens_exactly b t bytes).0 e).0 ∙ encoded_sections t good)

  parts_open : Opens (parts b).signature (parts b).lines (parts b).code t
  parts_open =
      let x = image_opens b t e in
      let q : x.0 ≡ parts b = same_sections (sym x.1 ∙ opened_sections b t e) in
      subst (λ (y : Sections). Opens y.signature y.lines y.code t) q x.2

  held_sections : (x : Sections) → x ≡ sections_for t → Held x.lines x.code t
  unfolding sections_for
  held_sections x q =
      subst (λ (y : Sections). Held y.lines y.code t) (sym q) (record { fields = fields_read t good; code = refl; good = good })

  -- The parts of an image that opens are the sections of its table.
  pub opened_checked : Checked (parts b).signature (parts b).lines (parts b).code t
  opened_checked = record { opens = parts_open; held = held_sections (parts b) parts_encoded }
