-- Refusal 14, without a method: which calls meet it, and at which place. Assumes nothing.
use Rattle.std.specs.Prelude.{◌≡◌, false, ◌⊎◌, List, ℕ, ◌<◌, length, ℤ}
use Rattle.std.proofs.Math.Option.{some}
use Rattle.spec_design.specs.Types.{Ty, in_type}
use Rattle.spec_design.specs.Expression.{nth}
use Rattle.spec_design.specs.Process.{Process, source_types}
use Rattle.spec_semantics.specs.Rows.{Call}

-- input and output row are as long as their counts
unfoldable pub Fitting : Process → Call → Type 0
Fitting p c = (length c.inputs ≡ length p.inputs) × (c.room ≡ length p.outputs)

-- the value with the index x is not of its type
unfoldable pub Wrong : List Ty → List ℤ → ℕ → Type 0
Wrong ts l x = (t : Ty) × (z : ℤ) × (nth ts x ≡ some t) × (nth l x ≡ some z) × (in_type t z ≡ false)

-- "input or output row not as long as its count; else input value", at "0; its index", the lowest place
unfoldable pub Meets14 : Process → Call → ℕ → Type 0
Meets14 p c x =
    ((Fitting p c → ⊥) × (x ≡ 0))
    ⊎ (Fitting p c × Wrong (source_types p.inputs) c.inputs x × ((y : ℕ) → y < x → Wrong (source_types p.inputs) c.inputs y → ⊥))
