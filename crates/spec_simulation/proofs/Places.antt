-- Every place and every count that a call on an image answers is small: a line is one of at most 512, and so is every line of a way, none twice; an input row
-- has at most 16 values. So 32 bits hold the three numbers of an answer. Assumes nothing.
use mathlib.Core.Path.{◌≡◌, refl, sym, ◌∙◌, ap}
use mathlib.Core.Logic.{⊎_elim}
use mathlib.Core.List.{List}
use Prim.Native.Nat.{ℕ, zero, suc, ◌≤◌, ◌/◌}
use native.Mathlib.Omega.{arith}
use lib.ListN.{length, drop}
use lib.IntN.{ℤ}
use Rattle.std.specs.Prelude.{Result}
use Rattle.base_answers.specs.declared.Counts.{Counts}
use Rattle.base_answers.specs.declared.Refusal as declared
use Rattle.base_answers.specs.declared.State.{State}
use Rattle.base_answers.specs.Answers.{cycle_told}
use Rattle.base_answers.specs.Numbers.{Narrow, numbers_of, answer_numbers}
use Rattle.base_answers.proofs.Narrow.{narrowed, refused_narrow, done_narrow}
use Rattle.spec_semantics.specs.InputRow.{Wrong}
use Rattle.spec_semantics.specs.Calls.{Answer, performed, not_performed, Called}
use Rattle.spec_semantics.specs.Advances.{cycle_answer}
use Rattle.spec_format.specs.Words.{Bytes}
use Rattle.spec_format.specs.Signature.{Signature, GoodSignature}
use Rattle.spec_format.specs.Image.{Table}
use Rattle.spec_format.specs.Good.{GoodTable}
use Rattle.spec_format.specs.Opening.{raws, Opened, opened, not_opened, open_of}
use Rattle.spec_format.specs.Refusals.{Refusal, sections_refused, signature_refused, line_refused, bad_line, not_filled}
use Rattle.spec_format.specs.Refusals as F
use Rattle.spec_format.specs.Cycle.{row_of, unless_closed, cycle_of}
use Rattle.spec_format.proofs.Opens.{whole_lines_back, opens_exactly}
use Rattle.spec_format.proofs.Refusals.{refused_exactly}
use Rattle.spec_simulation.specs.Outcome.{Meets14, Outcome, row_refused, state_refused, operator_refused, performs}
use Rattle.spec_simulation.proofs.Outcomes.{image_outcome}
use Rattle.spec_semantics.proofs.Typed.{nth_below}

-- 11 TO 13: at most the line count
raws_count : (n : ℕ) (s : List ℕ) → length (raws n s) ≡ n
unfolding raws
raws_count zero s = refl
raws_count (suc n) s = ap suc (raws_count n (drop 12 s))

pub image_place : (image : List ℕ) (q k : ℕ) → Refusal image q k → k ≤ 512
image_place image q k (sections_refused n p x) = omega arith
image_place image q k (signature_refused n p x s y) = omega arith
image_place image q k (line_refused n x s σ g l) = go l
  where
    go : F.Lowest σ x k → k ≤ 512
    go (bad_line h b a) = let w = whole_lines_back x.lines s.lines in let c = raws_count (length x.lines / 12) x.lines in omega arith
    go (not_filled h a b) = let w = whole_lines_back x.lines s.lines in let c = raws_count (length x.lines / 12) x.lines in omega arith

-- 14: an index of the input row, which has at most 16 values
row_place_lem : (σ : Signature) → GoodSignature σ → (i : List ℤ) (n k : ℕ) → Meets14 σ i n k → k ≤ 512
unfolding Meets14 Wrong
row_place_lem σ g i n k m = ⊎_elim (λ h. omega (arith, h.1)) (λ h. omega (arith, g.inputs, nth_below σ.inputs k h.1.0 h.1.2)) m

-- A ROW ON A GOOD TABLE: 14, 15 at 0, 16 or 18 at a line, or a way of lines
module _ (t : Table) (g : GoodTable t) (s : State) (i o : List ℤ) where
  pub outcome_place : (r : Called) → Outcome t s i o r → (q k : ℕ) → r.answer ≡ not_performed q k → k ≤ 512
  outcome_place _ (row_refused x m) q k e = let h = row_place_lem t.signature g.signature i (length o) x m in let z : x ≡ k = cc in omega arith
  outcome_place _ (state_refused m b) q k e = let z : k ≡ 0 = cc in omega arith
  outcome_place _ (operator_refused n x o m b l y) q k e = let z : x ≡ k = cc in omega (arith, g.few_lines)
  outcome_place _ (performs p τ m b y w v n l) q k e = absurd (let z : ◌≡◌ {A = ℕ} 0 1 = cc in omega arith)

  pub outcome_count : (r : Called) → Outcome t s i o r → (way : List ℕ) → r.answer ≡ performed way → length way ≤ 512
  outcome_count _ (row_refused x m) way e = absurd (let z : ◌≡◌ {A = ℕ} 0 1 = cc in omega arith)
  outcome_count _ (state_refused m b) way e = absurd (let z : ◌≡◌ {A = ℕ} 0 1 = cc in omega arith)
  outcome_count _ (operator_refused n x o m b l y) way e = absurd (let z : ◌≡◌ {A = ℕ} 0 1 = cc in omega arith)
  outcome_count _ (performs p τ m b y w v n l) way e = let z : τ.way ≡ way = cc in let x = ap length z in omega (arith, v.few, g.few_lines)

-- IMAGES
module _ (image : List ℕ) (h : Bytes image) where
  pub open_place : (q k : ℕ) → open_of image ≡ not_opened q k → k ≤ 512
  open_place q k e = image_place image q k ((refused_exactly image h q k).0 e)

  module _ (s : State) (i o : List ℤ) where
    -- the answer of a call on an image that is refused
    closed_answer : (n x : ℕ) → open_of image ≡ not_opened n x → (cycle_of image s i o).answer ≡ not_performed n x
    unfolding cycle_of
    closed_answer n x e = ap (λ (z : Opened). (unless_closed z s o (λ t. row_of t s i o)).answer) e

    pub cycle_place : (q k : ℕ) → (cycle_of image s i o).answer ≡ not_performed q k → k ≤ 512
    cycle_place q k e = on (open_of image) refl
      where
        on : (z : Opened) → open_of image ≡ z → k ≤ 512
        on (opened t) f = outcome_place t ((opens_exactly image t h).0 f).1 s i o (cycle_of image s i o) (image_outcome image t h f s i o) q k e
        on (not_opened n x) f =
            let y : not_performed n x ≡ not_performed q k = sym (closed_answer n x f) ∙ e in let z : x ≡ k = cc in let b = open_place n x f in omega arith

    pub cycle_count : (way : List ℕ) → (cycle_of image s i o).answer ≡ performed way → length way ≤ 512
    cycle_count way e = on (open_of image) refl
      where
        on : (z : Opened) → open_of image ≡ z → length way ≤ 512
        on (opened t) f = outcome_count t ((opens_exactly image t h).0 f).1 s i o (cycle_of image s i o) (image_outcome image t h f s i o) way e
        on (not_opened n x) f =
            let y : not_performed n x ≡ performed way = sym (closed_answer n x f) ∙ e in absurd (let z : ◌≡◌ {A = ℕ} 0 1 = cc in omega arith)

    -- 32 bits hold them
    pub cycle_narrow : (x : Result Counts declared.Refusal) → cycle_told x ≡ cycle_answer (cycle_of image s i o).answer → Narrow (answer_numbers (λ n. n.lines) x)
    cycle_narrow x e = narrowed numbers_of (sym e) (on (cycle_of image s i o).answer refl)
      where
        on : (a : Answer) → (cycle_of image s i o).answer ≡ a → Narrow (numbers_of (cycle_answer a))
        on (performed way) f = let b = cycle_count way f in done_narrow (length way) (omega arith)
        on (not_performed q k) f = let b = cycle_place q k f in refused_narrow q k (omega arith)
