-- A cycle on the sections of an opened image is format's cycle on the image; its count is the length of the way and at most the first line's reach and
-- one more. By cases on the opening, and on what a row can come to. Assumes nothing.
use Prim.Native.Nat.{ℕ, ◌+◌, ◌-◌, ◌≤◌}
use native.Mathlib.Omega.{arith}
use mathlib.Core.Path.{◌≡◌, refl, sym, ap, subst, ◌∙◌}
use mathlib.Core.Bool.{true}
use mathlib.Core.List.{List}
use lib.ListN.{length, take, drop}
use lib.IntN.{ℤ}
use Rattle.std.specs.Prelude.{Err}
use Rattle.base_answers.specs.Answers.{lines_of, cycle_told, done, refused_by, count_of}
use Rattle.base_answers.specs.declared.State.{State}
use Rattle.base_answers.specs.declared.Refusal.{Refusal}
use Rattle.base_answers.specs.declared.Sections.{Sections}
use Rattle.spec_format.specs.Words.{Bytes}
use Rattle.spec_format.specs.Lines.{reach}
use Rattle.spec_format.specs.Walk.{from}
use Rattle.spec_format.specs.Image.{Table}
use Rattle.spec_format.specs.Opening.{sections_of, Opened, opened, not_opened, open_of}
use Rattle.spec_format.specs.Cycle.{row_of, unless_closed, cycle_of}
use Rattle.spec_semantics.specs.Calls.{Answer, performed, not_performed, Called}
use Rattle.spec_simulation.specs.Outcome.{Outcome, row_refused, state_refused, operator_refused, performs}
use Rattle.spec_simulation.proofs.Outcomes.{row_outcome}
use Rattle.image_loader.specs.Sections.{is_some, lines_start, code_start}
use Rattle.image_loader.specs.Open.{open_answer}
use Rattle.image_loader.proofs.OpenLaws.{lengths, signature_part, lines_part, code_part, image_opened, opened_sections, image_refused}
use Rattle.base_answers.specs.declared.Advanced.{Advanced}
use Rattle.image_cycle.specs.Ran.{Checked}
use Rattle.spec_semantics.specs.Advances.{Advances, cycle_answer}
use Rattle.image_runtime.specs.Calls.{way_of, reach_from, first_reach}
use Rattle.image_runtime.proofs.OpenedImage.{good, opened_checked}

-- The sections as parts of the image.

module _ (b : List ℕ) (x : Sections) (e : done x ≡ open_answer b (open_of b)) where
  -- its table
  pub table : Table
  table = (image_opened b x e).0

  pub opens : open_of b ≡ opened table
  unfolding table
  opens = (image_opened b x e).1

  there : is_some (sections_of b) ≡ true
  there = ap is_some (opened_sections b table opens)

  -- where they start and end
  pub record Placed : Type 0 where
    pub signature : x.signature ≡ 28
    pub lines : x.lines ≡ lines_start b
    pub code : x.code ≡ code_start b
    pub end : x.end ≡ length b
    pub first : x.signature ≤ x.lines
    pub second : x.lines ≤ x.code
    pub third : x.code ≤ x.end

  pub placed : Placed
  unfolding table
  placed =
      let q = (image_opened b x e).2 in
      let z = (lengths b there).all in
      let s : x.signature ≡ 28 = ap (λ (y : Sections). y.signature) q in
      let l : x.lines ≡ lines_start b = ap (λ (y : Sections). y.lines) q in
      let c : x.code ≡ code_start b = ap (λ (y : Sections). y.code) q in
      let n : x.end ≡ length b = ap (λ (y : Sections). y.end) q in
      record { signature = s; lines = l; code = c; end = n; first = omega arith; second = omega arith; third = omega arith }

  -- they are those of the table
  pub parts_checked : Bytes b
      → Checked (take (x.lines - x.signature) (drop x.signature b)) (take (x.code - x.lines) (drop x.lines b))
      (take (x.end - x.code) (drop x.code b)) table
  parts_checked bytes = on placed.signature
    where
      on : {n : ℕ} → n ≡ 28
          → Checked (take (x.lines - n) (drop n b)) (take (x.code - x.lines) (drop x.lines b)) (take (x.end - x.code) (drop x.code b)) table
      on q =
          rw q
          (rw (
            signature_part b there x.lines placed.lines,
            lines_part b there x.lines x.code placed.lines placed.code,
            code_part b there x.code x.end placed.code placed.end,
          )
          (opened_checked b table bytes opens))

  -- the cycle on the sections is that on the image
  pub sections_advance : Bytes b → (s : State) (i o : List ℤ) (a : Advanced) (row : List ℤ)
      → ((t : Table)
      → Checked (take (x.lines - x.signature) (drop x.signature b)) (take (x.code - x.lines) (drop x.lines b))
      (take (x.end - x.code) (drop x.code b)) t
      → (cycle_told a.answer ≡ cycle_answer (row_of t s i o).answer) × (a.state ≡ (row_of t s i o).state) × (row ≡ (row_of t s i o).row))
      → Advances (cycle_of b s i o) a row
  unfolding cycle_of
  sections_advance bytes s i o a row h =
      let r = h table (parts_checked bytes) in
      subst (λ (z : Opened). Advances (unless_closed z s o (λ t. row_of t s i o)) a row) (sym opens) (record { answer = r.0; state = r.1; row = r.2 })

-- An image that is refused.

-- a cycle on it: state and row as they came
pub refused_advance : (b : List ℕ) (r : Refusal) → refused_by r ≡ open_answer b (open_of b) → (s : State) (i o : List ℤ) (a : Advanced)
    → a ≡ record { state = s; answer = Err r } → Advances (cycle_of b s i o) a o
unfolding cycle_of
refused_advance b r e s i o a h =
    subst (λ (y : Advanced). Advances (cycle_of b s i o) y o) (sym h)
    (subst (λ (z : Opened). Advances (unless_closed z s o (λ t. row_of t s i o)) (record { state = s; answer = Err r }) o) (sym (image_refused b r e))
    (record { answer = refl; state = refl; row = refl }))

-- The count.

-- it is the length of the way; a refused call performs none
pub count_way : (w : Answer) → count_of (cycle_answer w) ≡ length (way_of w)
count_way (performed way) = refl
count_way (not_performed q k) = refl

-- it is at most the first line's reach and one more
count_bound : (b : List ℕ) → Bytes b → (s : State) (i o : List ℤ) → count_of (cycle_answer (cycle_of b s i o).answer) ≤ first_reach b s.place + 1
unfolding cycle_of first_reach
count_bound b bytes s i o = on (open_of b) refl
  where
    bounded : (t : Table) (c : Called) → Outcome t s i o c → count_of (cycle_answer c.answer) ≤ reach t.reaches (from t.lines s.place) + 1
    bounded t c (row_refused k m) = omega arith
    bounded t c (state_refused m g) = omega arith
    bounded t c (operator_refused number x is m g h q) = omega arith
    bounded t c (performs p τ m g q w y gs lo) = let z = y.short in omega arith

    on : (z : Opened) → open_of b ≡ z → count_of (cycle_answer (unless_closed z s o (λ t. row_of t s i o)).answer) ≤ reach_from z s.place + 1
    on (opened t) f = bounded t (row_of t s i o) (row_outcome t (good b t bytes f) s i o)
    on (not_opened q k) f = omega arith

-- answer, state and row, with what is said of the count
pub whole : (b : List ℕ) → Bytes b → (s : State) (i o : List ℤ) (a : Advanced) (row : List ℤ) → Advances (cycle_of b s i o) a row
    → (cycle_told a.answer ≡ cycle_answer (cycle_of b s i o).answer) × (a.state ≡ (cycle_of b s i o).state) × (row ≡ (cycle_of b s i o).row)
    × (lines_of a.answer ≡ length (way_of (cycle_of b s i o).answer)) × (lines_of a.answer ≤ first_reach b s.place + 1)
whole b bytes s i o a row h =
    (h.answer, h.state, h.row, ap count_of h.answer ∙ count_way (cycle_of b s i o).answer, rw h.answer (count_bound b bytes s i o))
