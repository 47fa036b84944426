-- What the calls of `fill` put, one behind another, is what is pending: each puts at least one line where something is pending. Assumes nothing.
use mathlib.Core.Path.{◌≡◌, refl, sym, ◌∙◌, ap}
use mathlib.Core.Bool.{Bool, true, false}
use Rattle.std.specs.Prelude.{Option, None, Some}
use mathlib.Core.List.{List, [], ◌∷◌, ◌++◌, append_assoc}
use Prim.Native.Nat.{ℕ, zero, suc, ◌-◌, ◌≤◌, ◌<◌}
use native.Mathlib.Omega.{arith}
use native.Mathlib.Numerals.{add-one}
use lib.Dec.{ltb}
use lib.IntN.{ℤ, pos}
use lib.ListN.{length, replicate, length-append, drop_of_length-le}
use borrow.Author.Tests.{lt-ltb, ltb-true, ltb-false}
use Rattle.base_answers.specs.Answers.{Told, done, refusal}
use Rattle.base_answers.specs.declared.State.{State}
use Rattle.spec_format.specs.Image.{Table}
use Rattle.spec_format.specs.Opening.{Opened, opened, open_of}
use Rattle.spec_format.specs.Cycle.{cycle_of}
use Rattle.spec_semantics.specs.Advances.{cycle_answer}
use Rattle.trace_lines.specs.Rows.{split}
use Rattle.trace_lines.specs.Printing.{performed_line, refused_line}
use Rattle.trace_lines.specs.Trace.{row_values}
use Rattle.trace_lines.specs.Chunks.{line_of, room, row_shown, row_at, goes_on, next_of, has_more, ahead, fill_by, fill_on, fill_of}
use Rattle.trace_lines.specs.Chunks.{shorts, image_lines, pending, unless_none, fills}
use Rattle.trace_lines.specs.declared.Progress.{Progress}
use Rattle.trace_lines.proofs.RowLaws.{rows_step}
use Rattle.trace_lines.proofs.ChunkLaws.{at_end_lem, row_there, goes_facts, next_there}
use Rattle.trace_lines.proofs.FillLaws.{some_room, more_facts, next_behind, fill_more, fill_none}

module _ (b rows : List ℕ) (p : Progress) (h : length rows ≤ 65536) where
  -- at the end nothing is pending
  pub pending_end : length rows ≤ p.at → pending b rows p ≡ []
  unfolding split row_values shorts image_lines
  pending_end k = rw (drop_of_length-le rows k)

  -- before the end there is a row
  row_goes : p.number ≤ p.at → p.at < length rows → goes_on (length rows) p.number p.at ≡ true
  row_goes m k = sym (row_there (length rows) p.number p.at h k) ∙ lt-ltb p.number 65536 (omega arith)

  -- a line, and what is pending behind it
  pub next_pending : p.number ≤ p.at → p.at < length rows → pending b rows p ≡ (next_of b rows p).0 ++ pending b rows (next_of b rows p).1
  unfolding row_values shorts image_lines
  next_pending m k =
      rw (next_there b rows p (row_goes m k), add-one p.number)
      (ap (λ (l : List (List ℕ)). image_lines b p.state p.number (shorts (row_values l))) (rows_step rows p.at k))

-- a line has bytes
performed_some : (n place lines : ℕ) (row : List ℤ) → 1 ≤ length (performed_line n place lines row)
unfolding performed_line
performed_some n place lines row = simp length-append (omega arith)

refused_some : (n q : ℕ) → 1 ≤ length (refused_line n q)
unfolding refused_line
refused_some n q = simp length-append (omega arith)

shown_some : (n : ℕ) (x : Told ℕ) (place : ℕ) (row : List ℤ) → 1 ≤ length (line_of n x place row)
shown_some n (done l) place row = performed_some n place l row
shown_some n (refusal q k) place row = refused_some n q

line_some : (b : List ℕ) (s : State) (n : ℕ) (v : Option (List ℤ)) → 1 ≤ length (row_shown b s n v).0
line_some b s n None = refused_some n 14
line_some b s n (Some v) =
    let c = cycle_of b s v (replicate (room b) (pos 0)) in shown_some n (cycle_answer c.answer) c.state.place c.row

-- what a fill puts, x, from where the trace stands at p: with what is pending behind it that is what was pending before it; the trace only goes forward
pub record Reaches (b rows : List ℕ) (p : Progress) (x : List ℕ × Progress) : Type 0 where
  pub rest : pending b rows p ≡ x.0 ++ pending b rows x.1
  pub number : x.1.number ≤ x.1.at
  pub inside : x.1.at ≤ length rows
  pub forward : p.at ≤ x.1.at

module _ (b rows : List ℕ) (h : length rows ≤ 65536) where
  -- a line, then a fill
  reaches_more : (p : Progress) (x : List ℕ × Progress) → p.number ≤ p.at → p.at < length rows → Reaches b rows (next_of b rows p).1 x
      → Reaches b rows p (ahead (next_of b rows p).0 x)
  reaches_more p x m k r =
      let a = next_behind b rows p (row_goes b rows p h m k) in
      record {
        rest =
            next_pending b rows p h m k
            ∙ (ap (λ (l : List ℕ). (next_of b rows p).0 ++ l) r.rest ∙ sym (append_assoc (next_of b rows p).0 x.0 (pending b rows x.1)));
        number = r.number;
        inside = r.inside;
        forward = omega (arith, r.forward, a.0);
      }

  -- a fill, and what is pending behind it
  pub fill_reaches : (f : ℕ) (p : Progress) (free : ℕ) → p.number ≤ p.at → p.at ≤ length rows → Reaches b rows p (fill_by f b rows p free)
  unfolding fill_by
  fill_reaches zero p free m k = record { rest = refl; number = m; inside = k; forward = omega arith }
  fill_reaches (suc f) p free m k = go (fill_reaches f) (has_more free (length rows) p) refl
    where
      go : ((p : Progress) (free : ℕ) → p.number ≤ p.at → p.at ≤ length rows → Reaches b rows p (fill_by f b rows p free)) → (q : Bool)
          → has_more free (length rows) p ≡ q → Reaches b rows p (fill_by (suc f) b rows p free)
      go r true q =
          let c = more_facts free (length rows) p q in
          let i = goes_facts (length rows) p.number p.at c.1 in
          let a = next_behind b rows p c.1 in
          rw (fill_more f b rows p free q)
          (reaches_more p (fill_by f b rows (next_of b rows p).1 (free - length (next_of b rows p).0)) m i.1
          (r (next_of b rows p).1 (free - length (next_of b rows p).0) (omega (arith, a.0, a.2)) a.1))
      go r false q = rw (fill_none (suc f) b rows p free q) (record { rest = refl; number = m; inside = k; forward = omega arith })

  -- where something is pending and there is room for a line, a fill puts at least one
  pub fill_some : (f : ℕ) (p : Progress) (free : ℕ) → 1 ≤ f → 512 ≤ free → p.number ≤ p.at → p.at < length rows
      → (1 ≤ length (fill_by f b rows p free).0) × (p.at < (fill_by f b rows p free).1.at)
  fill_some zero p free n r m k = absurd (omega arith)
  fill_some (suc f) p free n r m k =
      let g = row_goes b rows p h m k in
      let q : has_more free (length rows) p ≡ true = sym (some_room free (length rows) p r) ∙ g in
      let a = next_behind b rows p g in
      let x = fill_by f b rows (next_of b rows p).1 (free - length (next_of b rows p).0) in
      let y = fill_reaches f (next_of b rows p).1 (free - length (next_of b rows p).0) (omega (arith, a.0, a.2)) a.1 in
      let l : 1 ≤ length (next_of b rows p).0 = rw (next_there b rows p g) (line_some b p.state p.number (row_at rows p.at)) in
      let z = length-append (next_of b rows p).0 x.0 in
      rw (fill_more f b rows p free q) (omega arith, omega (arith, a.0, y.forward))

-- bytes, then the rest
then_rest : (l rest : List ℕ) → 1 ≤ length l → unless_none l rest ≡ l ++ rest
then_rest [] rest h = absurd (omega arith)
then_rest (b ∷ l) rest h = refl

-- a fill on an image that opens
pub fill_is : (b rows : List ℕ) (t : Table) → open_of b ≡ opened t → (p : Progress) (free : ℕ) → fill_of b rows p free ≡ fill_by (length rows) b rows p free
unfolding fill_of
fill_is b rows t e p free = ap (λ (x : Opened). fill_on x b rows p free) e

-- THE THEOREM: on an image that opens, with room for a line in the buffer, calls of `fill` put all that is pending
pub fills_pending : (b rows : List ℕ) (t : Table) (free : ℕ) → open_of b ≡ opened t → length rows ≤ 65536 → 512 ≤ free → (f : ℕ) (p : Progress)
    → p.number ≤ p.at → p.at ≤ length rows → length rows - p.at ≤ f → fills f b rows p free ≡ pending b rows p
unfolding fills
fills_pending b rows t free e h r zero p m k l = sym (pending_end b rows p h (omega arith))
fills_pending b rows t free e h r (suc f) p m k l = go (fills_pending b rows t free e h r f) (ltb p.at (length rows)) refl
  where
    go : ((p : Progress) → p.number ≤ p.at → p.at ≤ length rows → length rows - p.at ≤ f → fills f b rows p free ≡ pending b rows p) → (c : Bool)
        → ltb p.at (length rows) ≡ c → unless_none (fill_of b rows p free).0 (fills f b rows (fill_of b rows p free).1 free) ≡ pending b rows p
    go w true c =
        let i = ltb-true p.at (length rows) c in
        let x = fill_by (length rows) b rows p free in
        let s = fill_some b rows h (length rows) p free (omega arith) r m i in
        let y = fill_reaches b rows h (length rows) p free m k in
        let z = w x.1 y.number y.inside (omega (arith, s.1)) in
        rw (fill_is b rows t e p free) (then_rest x.0 (fills f b rows x.1 free) s.0 ∙ (ap (λ (l : List ℕ). x.0 ++ l) z ∙ sym y.rest))
    go w false c =
        let i = ltb-false p.at (length rows) c in
        let n : has_more free (length rows) p ≡ false = sym (some_room free (length rows) p r) ∙ sym (at_end_lem (length rows) p.number p.at h i) in
        rw (fill_is b rows t e p free, fill_none (length rows) b rows p free n) (sym (pending_end b rows p h i))
