-- The whole call: 11 to 13 of an image that is refused, 17 by the widths of the image, or the rows. Assumes nothing.
use mathlib.Core.Path.{◌≡◌, refl, sym, ap, ◌∙◌, subst}
use mathlib.Core.Bool.{Bool, true, false, cond, ◌&&◌}
use mathlib.Core.List.{List}
use Prim.Native.Nat.{ℕ, ◌*◌}
use lib.ListN.{length}
use lib.IntN.{ℤ}
use lib.Dec.{eqb}
use borrow.Author.Tests.{eqb-true}
use Rattle.std.specs.Prelude.{Err, Ok}
use Rattle.base_answers.specs.declared.State.{State}
use Rattle.base_answers.specs.declared.Refusal.{Refusal}
use Rattle.base_answers.specs.declared.Refusal.TheVariants.{BadLengths}
use Rattle.base_answers.specs.declared.Sections.{Sections}
use Rattle.base_answers.specs.Answers.{Told, done, refusal, refused_by}
use Rattle.spec_semantics.proofs.Basic.{and_left, and_right}
use Rattle.spec_semantics.specs.Calls.{Called}
use Rattle.spec_format.specs.Image.{Table}
use Rattle.spec_format.specs.Opening.{Opened, opened, open_of}
use Rattle.spec_format.specs.Cycle.{calls_of}
use Rattle.spec_format.specs.Batch.{calls_in, Batch, due, rows_run_on, laid_out, batch_of}
use Rattle.image_loader.specs.Open.{open_answer}
use Rattle.image_loader.proofs.OpenLaws.{image_refused}
use Rattle.image_runtime.proofs.Whole.{table, opens}
use Rattle.image_batch.specs.declared.Outcome.{Outcome}
use Rattle.image_batch.specs.declared.Widths.{Widths}
use Rattle.image_batch.specs.declared.Progress.{Progress}
use Rattle.image_batch.specs.Batches.{Batches, Due, Runs}

-- a call that is turned back by r
abbrev pub back : State → Refusal → Outcome
back s r = record { performed = false; state = s; answer = Err r }

module _ (b : List ℕ) (s : State) (n : ℕ) (is os : List ℤ) (ns : List ℕ) where
  -- what the call comes to, by what the opened image and the lengths come to
  by_rows : (r : Told (List Called)) → rows_run_on (open_of b) b s n is os ns ≡ r → batch_of b s n is os ns ≡ laid_out r s os ns
  unfolding batch_of
  by_rows r e = ap (λ (x : Told (List Called)). laid_out x s os ns) e

  when_turned_back : (r : Refusal) → rows_run_on (open_of b) b s n is os ns ≡ refused_by r → Batches (batch_of b s n is os ns) (back s r) os ns
  when_turned_back r e =
      subst (λ (c : Batch). Batches c (back s r) os ns) (sym (by_rows (refused_by r) e))
      (record { answer = refl; state = refl; rows = refl; answers = refl; performed = refl })

  -- an image that is refused
  pub closed : (r : Refusal) → refused_by r ≡ open_answer b (open_of b) → Batches (batch_of b s n is os ns) (back s r) os ns
  closed r e = when_turned_back r (ap (λ (o : Opened). rows_run_on o b s n is os ns) (image_refused b r e))

  -- an image that opens, by its widths
  module _ (x : Sections) (e : done x ≡ open_answer b (open_of b)) (w : Widths)
      (widths : (t : Table) → open_of b ≡ opened t → (w.inputs ≡ length t.signature.inputs) × (w.outputs ≡ length t.signature.outputs)) (q : Bool)
      (judged : q ≡ (eqb (length is) (n * w.inputs) && (eqb (length os) (n * w.outputs) && eqb (length ns) (n * 3)))) where
    abbrev called : Told (List Called)
    called = done (calls_of b s (calls_in n w.inputs w.outputs is os))

    -- the test is the definition's
    rows_by : rows_run_on (open_of b) b s n is os ns ≡ cond q called (refusal 17 0)
    unfolding due
    rows_by =
        let t = table b x e in
        let z = widths t (opens b x e) in
        ap (λ (o : Opened). rows_run_on o b s n is os ns) (opens b x e)
        ∙ ap (λ (k : ℕ). cond (eqb (length is) (n * k) && (eqb (length os) (n * length t.signature.outputs) && eqb (length ns) (n * 3)))
        (done (calls_of b s (calls_in n k (length t.signature.outputs) is os))) (refusal 17 0)) (sym z.0)
        ∙ ap (λ (k : ℕ). cond (eqb (length is) (n * w.inputs) && (eqb (length os) (n * k) && eqb (length ns) (n * 3)))
        (done (calls_of b s (calls_in n w.inputs k is os))) (refusal 17 0)) (sym z.1)
        ∙ ap (λ (y : Bool). cond y called (refusal 17 0)) (sym judged)

    -- 17
    pub not_due : q ≡ false → Batches (batch_of b s n is os ns) (back s BadLengths) os ns
    not_due f = when_turned_back BadLengths (rows_by ∙ ap (λ (y : Bool). cond y called (refusal 17 0)) f)

    -- the lengths
    pub lengths : q ≡ true → Due w n is os ns
    lengths f =
        let i = eqb (length is) (n * w.inputs) in
        let o = eqb (length os) (n * w.outputs) in
        let a = eqb (length ns) (n * 3) in
        let z = sym judged ∙ f in
        let y = and_right i (o && a) z in
        record {
          inputs = eqb-true (length is) (n * w.inputs) (and_left i (o && a) z);
          outputs = eqb-true (length os) (n * w.outputs) (and_left o a y);
          answers = eqb-true (length ns) (n * 3) (and_right o a y);
        }

    -- the rows
    pub taken : q ≡ true → (p : Progress) (u : List ℤ) (v : List ℕ) → Runs (calls_of b s (calls_in n w.inputs w.outputs is os)) s p u v
        → Batches (batch_of b s n is os ns) (record { performed = p.performed; state = p.state; answer = Ok tt }) u v
    taken f p u v r =
        subst (λ (c : Batch). Batches c (record { performed = p.performed; state = p.state; answer = Ok tt }) u v)
        (sym (by_rows called (rows_by ∙ ap (λ (y : Bool). cond y called (refusal 17 0)) f)))
        (record { answer = refl; state = r.state; rows = r.rows; answers = r.answers; performed = r.performed })
