-- For every state record, reached or not, a cycle on the image of an accepted text is the direct run of the text: both refuse the same records by 15, and
-- one that is not refused is the layout of what the equations keep. Assumes nothing.
use mathlib.Core.Path.{◌≡◌, refl, sym, ◌∙◌, ap, subst}
use mathlib.Core.Bool.{Bool, true, false, cond, ◌&&◌}
use mathlib.Core.Logic.{◌⊎◌, inl, inr, ⊎_elim}
use mathlib.Core.List.{List}
use Prim.Native.Nat.{ℕ, suc, ◌+◌, ◌≤◌, ◌<◌}
use native.Mathlib.Omega.{arith}
use lib.ListN.{length}
use lib.Dec.{ltb}
use borrow.Author.Tests.{ltb-true, lt-ltb}
use Rattle.base_answers.specs.declared.State.{State}
use Rattle.spec_design.specs.Statement.{Stmt, act, wait, if_then, if_else, while, seq, size, has}
use Rattle.spec_design.specs.Process.{Process, WellFormed}
use Rattle.spec_semantics.specs.Rows.{row_refusal, judged}
use Rattle.spec_semantics.proofs.Basic.{false_true, eqb_same, and_left, and_right, or_left, or_right}
use Rattle.spec_semantics.proofs.Results.{has_below}
use Rattle.spec_format.specs.Lines.{Line, line, lines_of}
use Rattle.spec_format.specs.State.{is_wait, place_allowed, state_ok}
use Rattle.spec_format.specs.Cycle.{table_row, row_of}
use Rattle.spec_semantics.specs.Calls.{Called, turned_back, unless14, Call}
use Rattle.spec_format.specs.Encode.{table_of, signature_for}
use Rattle.spec_semantics.specs.Comparison.{fed}
use Rattle.spec_semantics.specs.DirectRow.{fits_text, kept_of, cycled, direct_row}
use Rattle.spec_semantics.proofs.Described.{kept_invariant, kept_laid}
use Rattle.spec_simulation.proofs.Processes.{cells_types, row_refusal_lem}
use Rattle.spec_simulation.proofs.Lines.{Each, lines_of_each, lines_of_length, below_or}
use Rattle.spec_promises.proofs.OneRow.{wait_line, same_cycle}

later : (n p : ℕ) → n ≤ p → (suc n ≤ p) ⊎ (n ≡ p)
later n p l = ⊎_elim (λ v. inl v) (λ v. inr (omega arith)) (below_or n p)

-- a line that is a wait is a wait's number
line_wait : (t : List Line) (s : Stmt) (n f : ℕ) → Each (λ x l. line t x ≡ l) s n f → (p : ℕ) → n ≤ p → p < n + size s → is_wait (line t p) ≡ true
    → has s n p ≡ true
unfolding has Each size
line_wait t (act a) n f h p lo hi e = let q : n ≡ p = omega arith in false_true (sym (ap is_wait (rw q at h)) ∙ e)
line_wait t wait n f h p lo hi e = let q : p ≡ n = omega arith in rw q (eqb_same n)
line_wait t (if_then c a) n f h p lo hi e =
    ⊎_elim (λ q. line_wait t a (suc n) f h.1 p q (omega arith) e) (λ q. false_true (sym (ap is_wait (rw q at h.0)) ∙ e)) (later n p lo)
line_wait t (if_else c a b) n f h p lo hi e =
    ⊎_elim (λ q. ⊎_elim (λ v. or_left (has a (suc n) p) (has b (suc n + size a) p) (line_wait t a (suc n) f h.1 p q v e))
    (λ v. or_right (has a (suc n) p) (has b (suc n + size a) p) (line_wait t b (suc n + size a) f h.2 p v (omega arith) e)) (below_or p (suc n + size a)))
    (λ q. false_true (sym (ap is_wait (rw q at h.0)) ∙ e)) (later n p lo)
line_wait t (while c b) n f h p lo hi e =
    ⊎_elim (λ q. line_wait t b (suc n) n h.1 p q (omega arith) e) (λ q. false_true (sym (ap is_wait (rw q at h.0)) ∙ e)) (later n p lo)
line_wait t (seq a b) n f h p lo hi e =
    ⊎_elim (λ v. or_left (has a n p) (has b (n + size a) p) (line_wait t a n (n + size a) h.0 p lo v e))
    (λ v. or_right (has a n p) (has b (n + size a) p) (line_wait t b (n + size a) f h.1 p v (omega arith) e)) (below_or p (n + size a))

-- both accept the same places
same_bool : (a b : Bool) → (a ≡ true → b ≡ true) → (b ≡ true → a ≡ true) → a ≡ b
same_bool true b f g = sym (f refl)
same_bool false true f g = g refl
same_bool false false f g = refl

same_place : (s : Stmt) (n : ℕ) → (ltb n (length (lines_of s)) && is_wait (line (lines_of s) n)) ≡ has s 0 n
same_place s n = same_bool _ (has s 0 n) there back
  where
    there : (ltb n (length (lines_of s)) && is_wait (line (lines_of s) n)) ≡ true → has s 0 n ≡ true
    there e =
        let l : n < length (lines_of s) = ltb-true n (length (lines_of s)) (and_left (ltb n (length (lines_of s))) (is_wait (line (lines_of s) n)) e) in
        let z = lines_of_length s in
        let u : n < 0 + size s = omega arith in
        let o : 0 ≤ n = omega arith in
        line_wait (lines_of s) s 0 0 (lines_of_each s) n o u (and_right (ltb n (length (lines_of s))) (is_wait (line (lines_of s) n)) e)

    back : has s 0 n ≡ true → (ltb n (length (lines_of s)) && is_wait (line (lines_of s) n)) ≡ true
    back h =
        let z = lines_of_length s in
        let b = has_below s 0 n h in
        let l : n < length (lines_of s) = omega arith in
        rw (lt-ltb n (length (lines_of s)) l, wait_line (lines_of s) s 0 0 (lines_of_each s) n h)

-- 15 is the same
same_15 : (p : Process) (s : State) → state_ok (table_of p) s ≡ fits_text p s
unfolding state_ok fits_text place_allowed table_of signature_for
same_15 p s = rw (same_place p.body s.place, cells_types p.outputs, cells_types p.variables)

-- One call on the table is one call of the direct run, for every state record.
table_direct : (p : Process) → WellFormed p → (s : State) (c : Call) → fits_text p s ≡ true
    → table_row (table_of p) s c.inputs c.outputs ≡ cycled p (kept_of p s) c
unfolding judged
table_direct p w s c f =
    subst (λ (x : State). table_row (table_of p) x c.inputs c.outputs ≡ cycled p (kept_of p s) c) (kept_laid p s f)
    (same_cycle p w (kept_of p s) (kept_invariant p s f) c)

pub row_direct : (p : Process) → WellFormed p → (s : State) (c : Call) → row_of (table_of p) s c.inputs c.outputs ≡ direct_row p s c
unfolding row_of direct_row table_of
row_direct p w s c =
    rw (same_15 p s, row_refusal_lem p w c.inputs (length c.outputs))
    (ap (λ (r : Called). unless14 (row_refusal p (fed c)) s c.outputs r) (go (fits_text p s) (table_direct p w s c)))
  where
    go : (b : Bool) → (b ≡ true → table_row (table_of p) s c.inputs c.outputs ≡ cycled p (kept_of p s) c)
        → cond b (table_row (table_of p) s c.inputs c.outputs) (turned_back 15 0 s c.outputs) ≡ cond b (cycled p (kept_of p s) c)
        (turned_back 15 0 s c.outputs)
    go true h = h refl
    go false h = refl
