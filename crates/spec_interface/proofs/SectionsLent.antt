-- The three sections of an image stand in it one behind the other, from byte 28 to its end, and are lent by their bounds. Assumes nothing.
use mathlib.Core.Path.{◌≡◌, refl, sym, ◌∙◌, subst}
use mathlib.Core.List.{List, [], ◌∷◌, ◌++◌}
use Prim.Native.Nat.{ℕ, ◌+◌}
use native.Mathlib.Omega.{arith}
use lib.ListN.{length}
use Rattle.spec_format.specs.Words.{Bytes, bytes2}
use Rattle.spec_format.specs.Image.{Table, pairs, joined, image, Sections, form1, sections_for, encode_table}
use Rattle.spec_format.specs.Opening.{opened, open_of}
use Rattle.spec_format.proofs.Sections.{pairs_length}
use Rattle.spec_format.proofs.Opens.{opens_exactly}
use Rattle.spec_interface.specs.Lending.{StandsAt, LentAs, bounds_of}
use Rattle.spec_interface.specs.Told.{SectionsLent}
use Rattle.spec_interface.proofs.Lending.{stands_lent, next_stands}

-- what stands in the bytes is lent by its bounds
lent_as : (b l : List ℕ) (p : ℕ) (u : List ℕ) → b ≡ l → StandsAt l p u → LentAs b p (p + length u) u
lent_as b l p u e h s r f g = stands_lent s r p u (subst (λ (x : List ℕ). StandsAt x p u) (sym (f ∙ e)) h) g

module _ (x : Sections) where
  -- the 28 bytes before the sections
  header : List ℕ
  header = bytes2 1 ++ (bytes2 3 ++ pairs 28 (x.signature ∷ x.lines ∷ x.code ∷ []))

  signature_stands : StandsAt (form1 x) 28 x.signature
  unfolding header form1 image joined
  signature_stands =
      let n = pairs_length 28 (x.signature ∷ x.lines ∷ x.code ∷ []) in
      record { before = header; behind = x.lines ++ (x.code ++ []); is = refl; place = omega arith }

  -- no gaps
  lines_stand : StandsAt (form1 x) (28 + length x.signature) x.lines
  unfolding signature_stands
  lines_stand = next_stands (form1 x) 28 x.signature x.lines (x.code ++ []) signature_stands refl

  code_stands : StandsAt (form1 x) (28 + length x.signature + length x.lines) x.code
  unfolding lines_stand next_stands
  code_stands = next_stands (form1 x) (28 + length x.signature) x.lines x.code [] lines_stand refl

-- an image that opens is that of its table's sections
pub sections_lent : (b : List ℕ) → Bytes b → (t : Table) → open_of b ≡ opened t → SectionsLent b t (bounds_of (sections_for t))
unfolding encode_table
sections_lent b h t e =
    let x = sections_for t in
    let is : b ≡ form1 x = ((opens_exactly b t h).0 e).0 in
    record {
      signature = lent_as b (form1 x) _ x.signature is (signature_stands x);
      lines = lent_as b (form1 x) _ x.lines is (lines_stand x);
      code = lent_as b (form1 x) _ x.code is (code_stands x);
    }
