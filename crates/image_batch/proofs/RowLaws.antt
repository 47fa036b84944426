-- The rows of a batch in the code: the widths, one row, all rows, the whole call. Assumes nothing.
use mathlib.Core.Path.{◌≡◌, refl, sym, ap, ◌∙◌, subst}
use mathlib.Core.Bool.{false}
use mathlib.Core.Option.{some}
use mathlib.Core.List.{List}
use Prim.Native.Nat.{ℕ, zero, suc, ◌+◌, ◌-◌, ◌*◌, ◌≤◌, ◌<◌}
use native.Mathlib.Nat.{zero-add, add-zero, zero-mul, suc-mul}
use native.Mathlib.Omega.{arith}
use lib.ListN.{length, take, drop, get_or, length-drop}
use lib.Seq.{length-take-le}
use lib.IntN.{ℤ}
use Rattle.base_answers.specs.declared.State.{State}
use Rattle.base_answers.specs.declared.Sections.{Sections}
use Rattle.base_answers.specs.Answers.{done}
use Rattle.spec_format.specs.Words.{Bytes}
use Rattle.spec_format.specs.Signature.{Signature, signature_of}
use Rattle.spec_format.specs.Image.{Table}
use Rattle.spec_format.specs.Opening.{opened, open_of}
use Rattle.spec_format.specs.Cycle.{cycle_of, calls_of}
use Rattle.spec_format.specs.Batch.{calls_in}
use Rattle.spec_format.proofs.Batch.{After, after_none, after_row, after_all}
use Rattle.spec_simulation.proofs.Outcomes.{row_long}
use Rattle.image_loader.specs.Open.{open_answer}
use Rattle.image_checks.proofs.Positions.{signature_placed}
use Rattle.image_checks.proofs.Opened.{opens_signature}
use Rattle.image_runtime.proofs.Whole.{table, opens, parts_checked}
use Rattle.image_batch.specs.declared.Widths.{Widths}
use Rattle.image_batch.specs.declared.Progress.{Progress}
use Rattle.image_batch.specs.Batches.{Parts, call_at, Steps, Due, Runs}

-- the counts of a signature section
pub section_widths : (s : List ℕ) (i o : ℕ) → i ≡ get_or s 0 0 → o ≡ get_or s 1 0 → (σ : Signature) → signature_of s ≡ some σ
    → (i ≡ length σ.inputs) × (o ≡ length σ.outputs)
section_widths s i o e f σ h = let p = signature_placed s σ h in (e ∙ p.inputs_count, f ∙ p.outputs_count)

-- and of the image whose signature section it is
module _ (b : List ℕ) (x : Sections) (e : done x ≡ open_answer b (open_of b)) where
  pub image_widths : Bytes b → (i o : ℕ)
      → ((σ : Signature) → signature_of (take (x.lines - x.signature) (drop x.signature b)) ≡ some σ → (i ≡ length σ.inputs) × (o ≡ length σ.outputs))
      → (t : Table) → open_of b ≡ opened t → (i ≡ length t.signature.inputs) × (o ≡ length t.signature.outputs)
  image_widths bytes i o h t f =
      let z : opened (table b x e) ≡ opened t = sym (opens b x e) ∙ f in
      let y : table b x e ≡ t = cc in
      subst (λ (u : Table). (i ≡ length u.signature.inputs) × (o ≡ length u.signature.outputs)) y
      (h (table b x e).signature (opens_signature _ _ _ (table b x e) (parts_checked b x e bytes).opens))

-- All rows.

-- the invariant of the loop: m rows are to come, and their parts are what is left of inputs, outputs and answers
pub record Rest (b : List ℕ) (w : Widths) (s : State) (n : ℕ) (is os : List ℤ) (ns : List ℕ) (m : ℕ) (p : Progress) (now : List ℤ)
    (nums : List ℕ) : Type 0 where
  pub inputs : p.input + m * w.inputs ≡ length is
  pub outputs : p.output + m * w.outputs ≡ length os
  pub numbers : p.answer + m * 3 ≡ length ns
  pub long : length now ≡ length os
  pub told : length nums ≡ length ns
  pub after : After b s n w.inputs w.outputs is os m p.input p.output p.answer p.performed p.state now nums

-- the part of one row of m is there
room : (m x k l : ℕ) → 0 < m → x + m * k ≡ l → x + k ≤ l
room zero x k l h e = absurd (omega arith)
room (suc m) x k l h e = let z = suc-mul m k in let y : x + (m * k + k) ≡ l = ap (λ (y : ℕ). x + y) (sym z) ∙ e in omega arith

moved : (m x k l : ℕ) → x + suc m * k ≡ l → x + k + m * k ≡ l
moved m x k l e = let z = suc-mul m k in let y : x + (m * k + k) ≡ l = ap (λ (y : ℕ). x + y) (sym z) ∙ e in omega arith

-- a row is as long as its part of k values
row_as_long : (b : List ℕ) → Bytes b → (t : State) (i now : List ℤ) (x k : ℕ) → x + k ≤ length now → length (cycle_of b t i (take k (drop x now))).row ≡ k
row_as_long b bytes t i now x k h =
    row_long b bytes t i (take k (drop x now)) ∙ length-take-le k (drop x now) (let z = length-drop x now in omega arith)

module _ {b : List ℕ} {w : Widths} {s : State} {n : ℕ} {is os : List ℤ} {ns : List ℕ} where
  -- before the first row
  pub rest_first : Due w n is os ns → Rest b w s n is os ns n (record { input = 0; output = 0; answer = 0; performed = false; state = s }) os ns
  rest_first h =
      record {
        inputs = zero-add (n * w.inputs) ∙ sym h.inputs;
        outputs = zero-add (n * w.outputs) ∙ sym h.outputs;
        numbers = zero-add (n * 3) ∙ sym h.answers;
        long = refl;
        told = refl;
        after = after_none b s n w.inputs w.outputs is os ns;
      }

  -- the next row's parts are there
  pub rest_room : {m : ℕ} {p : Progress} {now : List ℤ} {nums : List ℕ} → Rest b w s n is os ns m p now nums → 0 < m → Parts w p is now nums
  rest_room {m} {p} r h =
      record {
        inputs = room m p.input w.inputs (length is) h r.inputs;
        outputs = rw r.long (room m p.output w.outputs (length os) h r.outputs);
        answers = rw r.told (room m p.answer 3 (length ns) h r.numbers);
      }

  -- after a row
  pub rest_again : {k m : ℕ} {p q : Progress} {now u : List ℤ} {nums v : List ℕ} → Rest b w s n is os ns k p now nums → k ≡ suc m → Bytes b
      → Steps (call_at b w p is now) w p q now u nums v
      → length u ≡ length now → length v ≡ length nums → Rest b w s n is os ns m q u v
  rest_again {k} {m} {p} {q} {now} {u} {nums} {v} o h bytes t e f =
      let r : Rest b w s n is os ns (suc m) p now nums = rw h at o in
      let z = rest_room r (omega arith) in
      let a =
      after_row b s n w.inputs w.outputs is os m p.input p.output p.answer p.performed p.state now nums z.outputs z.answers
      (row_as_long b bytes p.state (take w.inputs (drop p.input is)) now p.output w.outputs z.outputs) r.after in
      record {
        inputs = rw t.input (moved m p.input w.inputs (length is) r.inputs);
        outputs = rw t.output (moved m p.output w.outputs (length os) r.outputs);
        numbers = rw t.answer (moved m p.answer 3 (length ns) r.numbers);
        long = e ∙ r.long;
        told = f ∙ r.told;
        after = rw (t.input, t.output, t.answer, t.performed, t.state, t.rows, t.answers) a;
      }

  -- after the last
  pub rest_end : {m : ℕ} {p : Progress} {now : List ℤ} {nums : List ℕ} → Rest b w s n is os ns m p now nums → m ≡ 0
      → Runs (calls_of b s (calls_in n w.inputs w.outputs is os)) s p now nums
  rest_end {m} {p} {now} {nums} q z =
      let r : Rest b w s n is os ns 0 p now nums = rw z at q in
      let x : p.output ≡ length now = sym (add-zero p.output) ∙ ap (λ (k : ℕ). p.output + k) (sym (zero-mul w.outputs)) ∙ r.outputs ∙ sym r.long in
      let y : p.answer ≡ length nums = sym (add-zero p.answer) ∙ r.numbers ∙ sym r.told in
      let a = after_all b s n w.inputs w.outputs is os p.input p.performed p.state now nums (rw (x, y) at r.after) in
      record { performed = a.3; state = a.2; rows = a.0; answers = a.1 }
