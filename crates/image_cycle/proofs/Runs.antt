-- The lines that the code follows are those of the table, for as many lines as the first line's reach and one more, over the signature's type bytes.
-- Assumes nothing.
use Prim.Native.Nat.{ℕ, suc, ◌+◌, ◌*◌, ◌-◌, ◌<◌}
use native.Mathlib.Omega.{arith}
use mathlib.Core.Path.{◌≡◌, refl, sym, ap, ◌∙◌}
use mathlib.Core.Logic.{◌⊎◌, inl, inr}
use mathlib.Core.Bool.{true}
use mathlib.Core.List.{List, [], ◌++◌}
use lib.ListN.{length, take, drop}
use lib.Seq.{take_at}
use lib.IntN.{ℤ}
use Rattle.spec_format.specs.Words.{word2_at}
use Rattle.spec_format.specs.Signature.{Signature, types, type_bytes}
use Rattle.spec_format.specs.Lines.{line, reach}
use Rattle.spec_semantics.specs.Equations.{Memory}
use Rattle.spec_semantics.specs.Values.{Values}
use Rattle.spec_format.specs.Walk.{from, table_cycle}
use Rattle.spec_format.specs.Image.{Table, RawLine}
use Rattle.spec_format.specs.State.{place_allowed}
use Rattle.spec_semantics.specs.Records.{pad}
use Rattle.spec_format.proofs.Lines.{raw_place}
use Rattle.spec_simulation.specs.Walked.{WaitAt}
use Rattle.spec_simulation.proofs.Walked.{from_inside}
use Rattle.spec_simulation.proofs.States.{place_exactly, types_length}
use Rattle.spec_simulation.proofs.Tables.{good_ranked}
use Rattle.spec_simulation.specs.Outcome.{Typed}
use Rattle.image_evaluator.proofs.Evaluation.{types_of_bytes}
use Rattle.image_walk.proofs.Walks.{Shows, follow_walk}
use Rattle.image_checks.proofs.Positions.{type_bytes_length}
use Rattle.image_walk.specs.Fields.{reach_at}
use Rattle.image_walk.specs.Follow.{Went, follow_at}
use Rattle.image_walk.proofs.Fields.{begins, line_fields}
use Rattle.image_cycle.specs.Ran.{Checked, ran_for}

-- the first n bytes of a part
pub part_first : (s : List ℕ) (n : ℕ) → take (n - 0) (drop 0 s) ≡ take n s
part_first s n = let z : n - 0 ≡ n = omega arith in rw z refl

types_first : (σ : Signature) (k kinds : List ℕ) (n : ℕ)
    → (n ≡ length σ.variables) × (k ≡ type_bytes (types σ.variables) ++ drop (length σ.variables) kinds) → take n k ≡ type_bytes (types σ.variables)
types_first σ k kinds n e =
    rw e.1 (take_at (type_bytes (types σ.variables)) (drop (length σ.variables) kinds) n
    (type_bytes_length (types σ.variables) ∙ types_length σ.variables ∙ sym e.0))

-- the type bytes and the limit as they are read
pub line_read : (σ : Signature) (l c : List ℕ) (i o v : List ℤ) (x limit n : ℕ) (is k kinds vs : List ℕ) (w : Went)
    → limit ≡ suc (reach_at l x) → is ≡ type_bytes σ.inputs
    → (n ≡ length σ.variables) × (k ≡ type_bytes (types σ.variables) ++ drop (length σ.variables) kinds)
    → vs ≡ take n k → w ≡ follow_at l c is vs i limit x 0 o v
    → w ≡ follow_at l c (type_bytes σ.inputs) (type_bytes (types σ.variables)) i (suc (reach_at l x)) x 0 o v
line_read σ l c i o v x limit n is k kinds vs w a b d e f = rw (a, b, e ∙ types_first σ k kinds n d) at f

module _ (s l c : List ℕ) (t : Table) (h : Checked s l c t) (p : ℕ) (ok : place_allowed t.lines p ≡ true) (i : List ℤ) where
  pub from_line : from t.lines p < length t.lines
  from_line = from_inside t.lines t.reaches (good_ranked t h.held.good) i h.held.good.some_line p (inside ((place_exactly t.lines p).0 ok))
    where
      inside : (p ≡ 512) ⊎ WaitAt t.lines p → (p ≡ 512) ⊎ (p < length t.lines)
      inside (inl e) = inl e
      inside (inr w) = inr w.inside

  -- the stored reach is the table's
  reach_read : word2_at l (from t.lines p * 12 + 10) ≡ reach t.reaches (from t.lines p)
  reach_read =
      let r = (good_ranked t h.held.good).long in
      ap (λ (w : RawLine). w.reach) (line_fields l c t h.held r (from t.lines p) from_line)
      ∙ (raw_place (begins l c t h.held r (from t.lines p) from_line) (line t.lines (from t.lines p)) (reach t.reaches (from t.lines p))).2

  -- from the line of a place on
  pub place_read : (x : ℕ) (o v : List ℤ) (w : Went) → x ≡ from t.lines p
      → w ≡ follow_at l c (type_bytes t.signature.inputs) (type_bytes (types t.signature.variables)) i (suc (reach_at l x)) x 0 o v
      → w ≡ ran_for t l c p i o v
  unfolding ran_for
  place_read x o v w e f = rw (e, reach_read) at f

  -- What the code leaves is the table's cycle: the wait reached, the length of the way, outputs and variables with 0 behind them; or an operator's number
  -- and its line.
  pub cycle_ran : Values t.signature.inputs i → (m : Memory) → Typed t.signature m
      → Shows (table_cycle t.lines t.reaches p i (record { way = []; memory = m })) (ran_for t l c p i (pad 16 m.outputs) (pad 32 m.variables))
  unfolding ran_for table_cycle
  cycle_ran hi m w =
      follow_walk l c (type_bytes t.signature.inputs) (type_bytes (types t.signature.variables)) t h.held
      (types_of_bytes t.signature.inputs) (types_of_bytes (types t.signature.variables)) i hi
      (suc (reach t.reaches (from t.lines p))) (from t.lines p) (record { way = []; memory = m }) from_line w
