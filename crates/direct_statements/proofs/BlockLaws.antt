-- A block goes on: its first statement, then the rest; and what a turn of the loop over a block's statements keeps. Assumes nothing.
use Prim.Native.Nat.{ℕ, ◌+◌, ◌*◌, ◌≤◌, ◌<◌}
use mathlib.Core.Path.{◌≡◌, refl, sym, ap, ◌∙◌}
use mathlib.Core.Option.{Option, none, some}
use mathlib.Core.List.{List, [], ◌∷◌, ◌++◌}
use native.Mathlib.Omega.{arith}
use lib.ListN.{length, get_or, length-append}
use lib.IntN.{ℤ}
use Rattle.spec_design.specs.Statement.{output, variable, null, Stmt, act, wait, if_then, if_else, while, seq, size}
use Rattle.spec_semantics.specs.Equations.{Run, Result, passed, reached, refused, then, start}
use Rattle.base_ir.specs.Entries.{Single, single_act, single_wait, single_if, single_else, single_while, Block, only, and_then}
use Rattle.base_ir.specs.Arrays.{Row}
use Rattle.base_ir.proofs.Held.{at_output, at_variable, at_null, at_wait, at_if, at_while, at_else, at_first, at_rest}
use Rattle.direct_statements.specs.Holding.{Ready, HeldIn, HeldRest, start_rest}
use Rattle.direct_statements.specs.Standing.{run, Stands}
use Rattle.base_codes.specs.declared.fault.Fault.{Fault}
use Rattle.direct_statements.specs.declared.Progress.{Progress}
use Rattle.direct_statements.specs.declared.Progress.TheVariants.{Passed, Reached, Refused}

-- nothing comes after
pub then_none : (R : Result) → then R passed ≡ R
unfolding then
then_none (passed σ) = refl
then_none (reached p σ) = refl
then_none (refused q n) = refl

pub size_some : (s : Stmt) → 1 ≤ size s
unfolding size
size_some (act a) = omega arith
size_some wait = omega arith
size_some (if_then e a) = omega arith
size_some (if_else e a b) = omega arith
size_some (while e b) = omega arith
size_some (seq a b) = let h = size_some a in omega arith

-- one more on the way
pub way_length : (w : List ℕ) (j n : ℕ) → length w ≡ n → length (w ++ (j ∷ [])) ≡ n + 1
way_length w j n e = length-append w (j ∷ []) ∙ (let h = e in omega arith)

module _ (codes : List ℕ) (args : List ℤ) (rows : List ℕ) where
  -- a statement's row says where it ends
  pub row_end : {f : Stmt} (j e : ℕ) → Single f → HeldIn codes args rows f j e → get_or rows (6 * j + 5) 0 ≡ e
  unfolding size
  row_end j e (single_act (output k x)) h = ap (λ (r : Row). r.end) (at_output h.lies).line ∙ (let n = h.end in omega arith)
  row_end j e (single_act (variable k x)) h = ap (λ (r : Row). r.end) (at_variable h.lies).line ∙ (let n = h.end in omega arith)
  row_end j e (single_act null) h = ap (λ (r : Row). r.end) (at_null h.lies).line ∙ (let n = h.end in omega arith)
  row_end j e single_wait h = ap (λ (r : Row). r.end) (at_wait h.lies).line ∙ (let n = h.end in omega arith)
  row_end j e (single_if k) h = ap (λ (r : Row). r.end) (at_if h.lies).0.line ∙ (let n = h.end in omega arith)
  row_end j e (single_else k l) h = ap (λ (r : Row). r.end) (at_else h.lies).0.line ∙ (let n = h.end in omega arith)
  row_end j e (single_while k) h = ap (λ (r : Row). r.end) (at_while h.lies).0.line ∙ (let n = h.end in omega arith)

  -- the first statement of a block, and the rest behind it
  pub record Front (q : Option Stmt) (j next e : ℕ) : Type 0 where
    pub one : Stmt
    pub single : Single one
    pub held : HeldIn codes args rows one j next
    pub rest : Option Stmt
    pub after : HeldRest codes args rows rest next e
    pub same : (i : List ℤ) (σ : Run) → start_rest q j i σ ≡ then (start one j i σ) (λ τ. start_rest rest next i τ)
    pub low : j < next
    pub high : next ≤ e

  pub first_held : {a b : Stmt} (j e : ℕ) → HeldIn codes args rows (seq a b) j e → HeldIn codes args rows a j (j + size a)
  unfolding Ready
  first_held j e h = record { m = h.m; lies = at_first h.lies; ready = h.ready.0; end = refl }

  pub rest_held : {a b : Stmt} (j e : ℕ) → HeldIn codes args rows (seq a b) j e → HeldIn codes args rows b (j + size a) e
  unfolding Ready size
  rest_held j e h = record { m = _; lies = at_rest h.lies; ready = h.ready.1; end = let n = h.end in omega arith }

  front_of : {s : Stmt} (j e : ℕ) → Block s → HeldIn codes args rows s j e → Front (some s) j (get_or rows (6 * j + 5) 0) e
  unfolding then start
  front_of {s} j e (only k) h =
      let n = h.end in
      let z = size_some s in
      rw (row_end j e k h) (record {
        one = s;
        single = k;
        held = h;
        rest = none;
        after = refl;
        same = λ i σ. sym
            (then_none (start s j i σ));
        low = omega arith;
        high = omega arith;
      })
  front_of {s = seq a b} j e (and_then k l) h =
      let n = (rest_held j e h).end in
      let z = size_some a in
      rw (row_end j (j + size a) k (first_held j e h))
      (record {
        one = a;
        single = k;
        held = first_held j e h;
        rest = some b;
        after =
            (rest_held j e h, l);
        same = λ i σ. refl;
        low = omega arith;
        high = omega arith;
      })

  pub front : (q : Option Stmt) (j e : ℕ) → HeldRest codes args rows q j e → j < e → Front q j (get_or rows (6 * j + 5) 0) e
  front none j e h l = absurd (omega arith)
  front (some s) j e h l = front_of j e h.1 h.0

  rest_end : (q : Option Stmt) (j e : ℕ) → HeldRest codes args rows q j e → e ≤ j → (i : List ℤ) (σ : Run) → start_rest q j i σ ≡ passed σ
  rest_end none j e h l i σ = refl
  rest_end (some s) j e h l i σ = absurd (let n = h.0.end in let z = size_some s in omega arith)

  module _ (i : List ℤ) (e : ℕ) (whole : Result) where
    -- at row j with n statements counted, outputs o and variables v: the rest of the block leads where the whole leads
    pub record Going (j n : ℕ) (o v : List ℤ) : Type 0 where
      pub block : Option Stmt
      pub way : List ℕ
      pub held : HeldRest codes args rows block j e
      pub count : length way ≡ n
      pub same : whole ≡ start_rest block j i (run way o v)

    pub going_end : (j n : ℕ) (o v : List ℤ) → Going j n o v → e ≤ j → Stands whole (Passed n) o v
    going_end j n o v g l = record { is = (g.way, (g.count, g.same ∙ rest_end g.block j e g.held l i (run g.way o v))) }

    -- the first statement of the rest, with its answer r
    module _ (j n next : ℕ) (o v o' v' : List ℤ) (r : Progress) where
      abbrev Answered : Type 0
      Answered = (f : Stmt) (w : List ℕ) → Single f → HeldIn codes args rows f j next → length w ≡ n → Stands (start f j i (run w o v)) r o' v'

      pub going_inside : Going j n o v → j < e → next ≡ get_or rows (6 * j + 5) 0 → (j < next) × (next ≤ e)
      going_inside g l q = let p = front g.block j e g.held l in rw q (p.low, p.high)

      pub going_again : (k : ℕ) → Going j n o v → j < e → next ≡ get_or rows (6 * j + 5) 0 → Answered → r ≡ Passed k → Going next k o' v'
      unfolding then
      going_again k g l q f h =
          let p : Front g.block j next e = rw q (front g.block j e g.held l) in
          let s = (rw h at (f p.one g.way p.single p.held g.count)).is in
          record {
            block = p.rest;
            way = s.0;
            held = p.after;
            count = s.1.0;
            same = g.same ∙ (p.same i (run g.way o v) ∙ ap (λ (R : Result). then R (λ τ. start_rest p.rest next i τ)) s.1.1);
          }

      pub going_reached : (x k : ℕ) → Going j n o v → j < e → next ≡ get_or rows (6 * j + 5) 0 → Answered → r ≡ Reached x k → Stands whole (Reached x k) o' v'
      unfolding then
      going_reached x k g l q f h =
          let p : Front g.block j next e = rw q (front g.block j e g.held l) in
          let s = (rw h at (f p.one g.way p.single p.held g.count)).is in
          record {
            is = (
              s.0,
              (
                s.1.0,
                g.same ∙ (p.same i (run g.way o v)
                    ∙ ap (λ (R : Result). then R (λ τ. start_rest p.rest next i τ)) s.1.1),
              ),
            );
          }

      pub going_refused : (m : Fault) (x : ℕ) → Going j n o v → j < e → next ≡ get_or rows (6 * j + 5) 0 → Answered → r ≡ Refused m x → Stands whole (Refused m x) o' v'
      unfolding then
      going_refused m x g l q f h =
          let p : Front g.block j next e = rw q (front g.block j e g.held l) in
          let s = (rw h at (f p.one g.way p.single p.held g.count)).is in
          record { is = g.same ∙ (p.same i (run g.way o v) ∙ ap (λ (R : Result). then R (λ τ. start_rest p.rest next i τ)) s) }

  -- what the loop over the statements of the rows first .. e keeps: o₀ and v₀ are outputs and variables at first
  pub record Keeps (i : List ℤ) (first e count : ℕ) (o₀ v₀ : List ℤ) (j n : ℕ) (o v : List ℤ) : Type 0 where
    pub low : first ≤ j
    pub high : j ≤ e
    pub few : n + first ≤ count + j
    pub going : (q : Option Stmt) (w : List ℕ) → HeldRest codes args rows q first e → length w ≡ count → Going i e (start_rest q first i (run w o₀ v₀)) j n o v
    pub outputs : length o ≡ length o₀
    pub variables : length v ≡ length v₀
