-- The fresh state by the signature section of an opened image is format's fresh state of the image. Assumes nothing.
use Prim.Native.Nat.{ℕ, ◌-◌}
use mathlib.Core.Path.{◌≡◌, sym, ap, ◌∙◌}
use mathlib.Core.Option.{some}
use mathlib.Core.List.{List, []}
use lib.ListN.{take, drop}
use Rattle.std.specs.Prelude.{Err, Ok}
use Rattle.base_answers.specs.declared.State.{State}
use Rattle.base_answers.specs.declared.Refusal.{Refusal}
use Rattle.base_answers.specs.declared.Sections.{Sections}
use Rattle.base_answers.specs.Answers.{told, done, refused_by, number_of, place_of}
use Rattle.spec_format.specs.Words.{Bytes}
use Rattle.spec_format.specs.Signature.{signature_of}
use Rattle.spec_format.specs.Image.{Table}
use Rattle.spec_format.specs.Opening.{opened, not_opened, open_of}
use Rattle.spec_format.specs.State.{fresh_table, fresh_from, fresh_of}
use Rattle.spec_semantics.specs.Records.{state_for}
use Rattle.spec_semantics.specs.Advances.{start_of, fresh_answer}
use Rattle.image_loader.specs.Open.{open_answer}
use Rattle.image_loader.proofs.OpenLaws.{image_refused}
use Rattle.image_checks.proofs.Opened.{opens_signature}
use Rattle.image_runtime.proofs.Whole.{table, opens, parts_checked}

module _ (b : List ℕ) (x : Sections) (e : done x ≡ open_answer b (open_of b)) where
  started : fresh_of b ≡ fresh_from (opened (table b x e))
  unfolding fresh_of
  started = ap fresh_from (opens b x e)

  pub fresh_answer_lem : told (Ok tt) ≡ fresh_answer (fresh_of b)
  fresh_answer_lem = sym (ap fresh_answer started)

  pub fresh_state : Bytes b → (s : State)
      → ((t : Table) → signature_of (take (x.lines - x.signature) (drop x.signature b)) ≡ some t.signature → s ≡ fresh_table t) → s ≡ start_of (fresh_of b)
  fresh_state bytes s h = h (table b x e) (opens_signature _ _ _ (table b x e) (parts_checked b x e bytes).opens) ∙ sym (ap start_of started)

-- an image that is refused
pub fresh_refused : (b : List ℕ) (r : Refusal) → refused_by r ≡ open_answer b (open_of b) → (s : State)
    → s ≡ state_for 512 (record { outputs = []; variables = [] })
    → (told (Err r) ≡ fresh_answer (fresh_of b)) × (s ≡ start_of (fresh_of b))
unfolding fresh_of
fresh_refused b r e s f =
    let z : fresh_of b ≡ fresh_from (not_opened (number_of r) (place_of r)) = ap fresh_from (image_refused b r e) in
    (sym (ap fresh_answer z), f ∙ sym (ap start_of z))
