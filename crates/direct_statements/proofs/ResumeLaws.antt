-- A block resumed at a wait: the statement that has the wait, the part of it that has the wait, and what comes after. Assumes nothing.
use Prim.Native.Nat.{ℕ, suc, ◌+◌, ◌*◌, ◌≤◌, ◌<◌}
use mathlib.Core.Path.{◌≡◌, refl, sym, ap, ◌∙◌}
use mathlib.Core.Bool.{Bool, true, false, cond, ◌||◌, ◌&&◌}
use mathlib.Core.Option.{Option, none, some}
use mathlib.Core.List.{List, []}
use native.Mathlib.Numerals.{add-one}
use native.Mathlib.Omega.{arith}
use borrow.Author.Tests.{lt-ltb, ltb-true, ltb-false}
use lib.ListN.{length, get_or}
use lib.IntN.{ℤ}
use lib.Dec.{eqb, ltb, leb}
use Rattle.spec_design.specs.Expression.{Expr}
use Rattle.spec_design.specs.Statement.{Stmt, if_then, if_else, while, seq, size, has}
use Rattle.spec_semantics.specs.Equations.{Run, Result, passed, then, pick, start, resume}
use Rattle.spec_semantics.proofs.Basic.{false_true, or_other}
use Rattle.spec_semantics.proofs.Results.{then_assoc, then_cong, has_below}
use Rattle.base_ir.specs.Operations.{ops}
use Rattle.base_ir.specs.Entries.{entries, entry_ops, Single, single_act, single_wait, single_if, single_else, single_while, Block, only, and_then}
use Rattle.base_ir.specs.Arrays.{Row, At}
use Rattle.base_ir.proofs.Held.{at_wait, at_if, at_while, at_else}
use Rattle.direct_statements.specs.Holding.{Ready, HeldIn, HeldRest, start_rest, Part as PartOf}
use Rattle.direct_statements.specs.Standing.{run, Stands}
use Rattle.direct_statements.specs.Resuming.{Waited, Within, ResumesAt}
use Rattle.direct_statements.specs.Running.{Starts, GoesOn, Resumes}
use Rattle.direct_statements.specs.declared.Inside.{Inside}
use Rattle.direct_statements.specs.declared.Inside.TheVariants.{Nothing, Wait, Part}
use Rattle.base_codes.specs.declared.fault.Fault.{Fault}
use Rattle.direct_statements.specs.declared.Progress.{Progress}
use Rattle.direct_statements.specs.declared.Progress.TheVariants.{Passed, Reached, Refused}
use Rattle.direct_statements.proofs.BlockLaws.{then_none, size_some, row_end, first_held, rest_held}
use Rattle.direct_statements.proofs.StatementLaws.{nested_true, nested_false}

-- a test that would put the wait out of its range is false
pub not_below : (s : Stmt) (n p : ℕ) → p < n → has s n p ≡ false
not_below s n p l = go (has s n p) refl
  where
    go : (b : Bool) → has s n p ≡ b → b ≡ false
    go true e = absurd (let h = has_below s n p e in omega arith)
    go false e = refl

pub not_above : (s : Stmt) (n p : ℕ) → n + size s ≤ p → has s n p ≡ false
not_above s n p l = go (has s n p) refl
  where
    go : (b : Bool) → has s n p ≡ b → b ≡ false
    go true e = absurd (let h = has_below s n p e in omega arith)
    go false e = refl

first_of : (x y : Bool) → y ≡ false → (x || y) ≡ true → x ≡ true
first_of true y e h = refl
first_of false y e h = false_true (sym e ∙ h)

module _ (codes : List ℕ) (args : List ℤ) (rows : List ℕ) where
  -- of a block that is resumed: its first statement, which has the wait, and the rest
  pub record Here (s : Stmt) (j next e p : ℕ) : Type 0 where
    pub one : Stmt
    pub single : Single one
    pub held : HeldIn codes args rows one j next
    pub waits : has one j p ≡ true
    pub rest : Option Stmt
    pub after : HeldRest codes args rows rest next e
    pub resumed : (i : List ℤ) (σ : Run) → resume s j p i σ ≡ then (resume one j p i σ) (λ τ. start_rest rest next i τ)
    pub started : (i : List ℤ) (σ : Run) → start s j i σ ≡ then (start one j i σ) (λ τ. start_rest rest next i τ)
    pub low : j < next
    pub high : next ≤ e

  here : {s : Stmt} (j e p : ℕ) → Block s → HeldIn codes args rows s j e → has s j p ≡ true → p < get_or rows (6 * j + 5) 0
      → Here s j (get_or rows (6 * j + 5) 0) e p
  unfolding start resume has pick
  here {s} j e p (only k) h x l =
      let n = h.end in
      let z = size_some s in
      rw (row_end codes args rows j e k h)
      (record {
        one = s;
        single = k;
        held = h;
        waits = x;
        rest = none;
        after = refl;
        resumed = λ i σ. sym (then_none (resume s j p i σ));
        started = λ i σ. sym (then_none (start s j i σ));
        low = omega arith;
        high = omega arith;
      })
  here {s = seq a b} j e p (and_then k t) h x l =
      let n = (rest_held codes args rows j e h).end in
      let z = size_some a in
      let f = first_held codes args rows j e h in
      let y : p < j + size a = rw (row_end codes args rows j (j + size a) k f) at l in
      let w = first_of (has a j p) (has b (j + size a) p) (not_below b (j + size a) p y) x in
      rw (row_end codes args rows j (j + size a) k f)
      (record {
        one = a;
        single = k;
        held = f;
        waits = w;
        rest = some b;
        after = (rest_held codes args rows j e h, t);
        resumed = λ i σ. rw w;
        started = λ i σ. refl;
        low = omega arith;
        high = omega arith;
      })

  -- THE LOOP THAT FINDS THE STATEMENT
  module _ (s : Stmt) (first e p : ℕ) where
    -- the statements from row j on have the wait
    pub record Later (j : ℕ) : Type 0 where
      pub from_it : Stmt
      pub held : HeldIn codes args rows from_it j e
      pub block : Block from_it
      pub waits : has from_it j p ≡ true
      pub same : (i : List ℤ) (σ : Run) → resume s first p i σ ≡ resume from_it j p i σ

    pub later_first : HeldIn codes args rows s first e → Block s → has s first p ≡ true → Later first
    later_first h b x = record { from_it = s; held = h; block = b; waits = x; same = λ i σ. refl }

    pub later_found : (j next : ℕ) → Later j → next ≡ get_or rows (6 * j + 5) 0 → p < next → PartOf codes args rows s first e p j
    later_found j next l q h = record { from_it = l.from_it; held = l.held; block = l.block; waits = l.waits; inside = rw (sym q) h; same = l.same }

    -- the wait is not in the first statement
    beyond : {t : Stmt} (j : ℕ) → Block t → HeldIn codes args rows t j e → has t j p ≡ true → ((i : List ℤ) (σ : Run) → resume s first p i σ ≡ resume t j p i σ)
        → get_or rows (6 * j + 5) 0 ≤ p → (j < get_or rows (6 * j + 5) 0) × Later (get_or rows (6 * j + 5) 0)
    unfolding resume has pick
    beyond {t} j (only k) h x same l = absurd (let n = row_end codes args rows j e k h in let m = h.end in let y = has_below t j p x in omega arith)
    beyond {t = seq a b} j (and_then k u) h x same l =
        let f = first_held codes args rows j e h in
        let z = size_some a in
        let y : j + size a ≤ p = rw (row_end codes args rows j (j + size a) k f) at l in
        let w = not_above a j p y in
        rw (row_end codes args rows j (j + size a) k f) (
          omega arith,
          record {
            from_it = b;
            held = rest_held codes args rows j e h;
            block = u;
            waits = or_other (has a j p) (has b (j + size a) p) w x;
            same = λ i σ. same i σ ∙ rw w;
          },
        )

    pub later_again : (j next : ℕ) → Later j → next ≡ get_or rows (6 * j + 5) 0 → next ≤ p → (j < next) × Later next
    later_again j next l q h = rw q (beyond j l.block l.held l.waits l.same (rw (sym q) h))

    pub later_inside : (j : ℕ) → Later j → j < e
    later_inside j l = let n = l.held.end in let z = size_some l.from_it in omega arith

  -- THE STATEMENT THAT HAS THE WAIT
  module _ (s : Stmt) (first e p at : ℕ) (part : PartOf codes args rows s first e p at) where
    found : Here part.from_it at (get_or rows (6 * at + 5) 0) e p
    found = here at e p part.block part.held part.waits part.inside

    pub part_rows : (at < get_or rows (6 * at + 5) 0) × (get_or rows (6 * at + 5) 0 ≤ e)
    part_rows = (found.low, found.high)

    waited : {f : Stmt} (next : ℕ) (i : List ℤ) → Single f → HeldIn codes args rows f at next → get_or rows (6 * at) 0 ≡ 0 → (σ : Run)
        → resume f at p i σ ≡ passed σ
    unfolding resume
    waited next i (single_act a) h k σ = refl
    waited next i single_wait h k σ = refl
    waited next i (single_if b) h k σ = absurd (let n = ap (λ (r : Row). r.kind) (at_if h.lies).0.line in omega arith)
    waited next i (single_else b c) h k σ = absurd (let n = ap (λ (r : Row). r.kind) (at_else h.lies).0.line in omega arith)
    waited next i (single_while b) h k σ = absurd (let n = ap (λ (r : Row). r.kind) (at_while h.lies).0.line in omega arith)

    pub part_waited : (next : ℕ) → next ≡ get_or rows (6 * at + 5) 0 → get_or rows (6 * at) 0 ≡ 0 → Waited codes args rows s first e p next
    unfolding then
    part_waited next n k =
        let g : Here part.from_it at next e p = rw n found in
        record {
          rest = g.rest;
          after = g.after;
          same = λ i σ. part.same i σ ∙ (g.resumed i σ
              ∙ ap (λ (R : Result). then R (λ τ. start_rest g.rest next i τ)) (waited next i g.single g.held k σ));
        }

    -- the part of the statement that has the wait, in the rows a .. b inside at .. next, and what comes after it, from row x on
    pub record Deeper (next a b x : ℕ) : Type 0 where
      pub low : at < a
      pub mid : a ≤ b
      pub high : b ≤ next
      pub within : Within codes args rows s first e p a b x

    abbrev picked : ℕ → ℕ → ℕ → ℕ
    picked other x y = cond (ltb p other) x y

    module _ (next other : ℕ) (rest : Option Stmt) (after : HeldRest codes args rows rest next e) where
      -- the whole is the statement f resumed, then the rest
      abbrev Whole : Stmt → Type 0
      Whole f = (i : List ℤ) (σ : Run) → resume s first p i σ ≡ then (resume f at p i σ) (λ τ. start_rest rest next i τ)

      -- a part of f that has the wait, behind which f is passed
      passing : (f b : Stmt) (a c m : ℕ) → Whole f → At codes args rows b a m → Ready b → Block b → has b a p ≡ true → c ≡ a + size b → at < a → c ≤ next
          → ((i : List ℤ) (σ : Run) → resume f at p i σ ≡ resume b a p i σ) → Deeper next a c next
      passing f b a c m w l s k x n h g q =
          record {
            low = h;
            mid = omega arith;
            high = g;
            within = record {
              block = b;
              held = record { m = m; lies = l; ready = s; end = n };
              is_block = k;
              waits = x;
              rest = rest;
              after = after;
              same = λ i σ. w i σ ∙ ap (λ (R : Result). then R (λ τ. start_rest rest next i τ)) (q i σ);
            };
          }

      if_within : (c : Expr) (a : Stmt) → Whole (if_then c a) → HeldIn codes args rows (if_then c a) at next → Block a → has (if_then c a) at p ≡ true
          → get_or rows (6 * at + 4) 0 ≡ other → Deeper next (picked other (at + 1) other) (picked other other next) next
      unfolding has size Ready resume
      if_within c a w h k x o =
          let q = at_if h.lies in
          let n = h.end in
          let y : other ≡ at + 1 + size a = sym o ∙ ap (λ (r : Row). r.other) q.0.line in
          let b = has_below a (suc at) p x in
          rw (lt-ltb p other (omega arith))
          (passing (if_then c a) a (at + 1) other _ w q.1 h.ready.1 k (rw add-one x) y (omega arith) (omega arith) (λ i σ. rw add-one))

      else_within : (c : Expr) (a b : Stmt) → Whole (if_else c a b) → HeldIn codes args rows (if_else c a b) at next → Block a → Block b
          → has (if_else c a b) at p ≡ true
          → get_or rows (6 * at + 4) 0 ≡ other → (t : Bool) → ltb p other ≡ t → Deeper next (cond t (at + 1) other) (cond t other next) next
      unfolding has size Ready resume pick
      else_within c a b w h k l x o true u =
          let q = at_else h.lies in
          let n = h.end in
          let y : other ≡ at + 1 + size a = sym o ∙ ap (λ (r : Row). r.other) q.0.line in
          let g = ltb-true p other u in
          let f = first_of (has a (suc at) p) (has b (suc at + size a) p) (not_below b (suc at + size a) p (omega arith)) x in
          passing (if_else c a b) a (at + 1) other _ w q.1.0 h.ready.1.0 k (rw add-one f) y (omega arith) (omega arith) (λ i σ. rw (f, add-one))
      else_within c a b w h k l x o false u =
          let q = at_else h.lies in
          let n = h.end in
          let y : other ≡ at + 1 + size a = sym o ∙ ap (λ (r : Row). r.other) q.0.line in
          let g = ltb-false p other u in
          let z : suc at + size a ≡ other = omega arith in
          let f = not_above a (suc at) p (omega arith) in
          let d = or_other (has a (suc at) p) (has b (suc at + size a) p) f x in
          passing (if_else c a b) b other next (h.m + length (ops c) + length (entry_ops (entries a))) w (rw y q.1.1) h.ready.1.1 l (rw z at d)
          (omega arith) (omega arith) (omega arith) (λ i σ. rw (f, z))

      -- "Resumed, it resumes its body. Whenever its body is passed, it tests again.": what comes after is the while itself, with all behind it
      while_within : (c : Expr) (b t : Stmt) → Whole (while c b) → HeldIn codes args rows (while c b) at next → Block b → has (while c b) at p ≡ true
          → get_or rows (6 * at + 4) 0 ≡ other → HeldIn codes args rows t at e → Block t
          → ((i : List ℤ) (σ : Run) → start t at i σ ≡ then (start (while c b) at i σ) (λ τ. start_rest rest next i τ))
          → Deeper next (picked other (at + 1) other) (picked other other next) at
      unfolding has size Ready resume
      while_within c b t w h k x o ht kt st =
          let q = at_while h.lies in
          let n = h.end in
          let y : other ≡ at + 1 + size b = sym o ∙ ap (λ (r : Row). r.other) q.0.line in
          let g = has_below b (suc at) p x in
          rw (lt-ltb p other (omega arith))
          (record {
            low = omega arith;
            mid = omega arith;
            high = omega arith;
            within = record {
              block = b;
              held = record { m = _; lies = q.1; ready = h.ready.1; end = y };
              is_block = k;
              waits = rw add-one x;
              rest = some t;
              after = (ht, kt);
              same = λ i σ. w i σ ∙ (then_assoc (resume b (suc at) p i σ) (λ τ. start (while c b) at i τ) (λ τ. start_rest rest next i τ)
                  ∙ then_cong (resume b (suc at) p i σ) (resume b (at + 1) p i σ) (λ τ. then (start (while c b) at i τ) (λ ρ. start_rest rest next i ρ))
                  (λ τ. start t at i τ)
                  (rw add-one) (λ τ. sym (st i τ)));
            };
          })

      -- every statement that has a wait and is none
      single_within : {f : Stmt} (t : Stmt) → Single f → Whole f → HeldIn codes args rows f at next → has f at p ≡ true → (get_or rows (6 * at) 0 ≡ 0 → ⊥)
          → get_or rows (6 * at + 4) 0 ≡ other → HeldIn codes args rows t at e → Block t
          → ((i : List ℤ) (σ : Run) → start t at i σ ≡ then (start f at i σ) (λ τ. start_rest rest next i τ))
          → Deeper next (picked other (at + 1) other) (picked other other next) (cond (eqb (get_or rows (6 * at) 0) 5) at next)
      unfolding has
      single_within t (single_act a) w h x z o ht kt st = false_true x
      single_within t single_wait w h x z o ht kt st = absurd (z (ap (λ (r : Row). r.kind) (at_wait h.lies).line))
      single_within {f = if_then c a} t (single_if k) w h x z o ht kt st =
          let n : get_or rows (6 * at) 0 ≡ 3 = ap (λ (r : Row). r.kind) (at_if h.lies).0.line in
          rw n (if_within c a w h k x o)
      single_within {f = if_else c a b} t (single_else k l) w h x z o ht kt st =
          let n : get_or rows (6 * at) 0 ≡ 3 = ap (λ (r : Row). r.kind) (at_else h.lies).0.line in
          rw n (else_within c a b w h k l x o (ltb p other) refl)
      single_within {f = while c b} t (single_while k) w h x z o ht kt st =
          let n : get_or rows (6 * at) 0 ≡ 5 = ap (λ (r : Row). r.kind) (at_while h.lies).0.line in
          rw n (while_within c b t w h k x o ht kt st)

    pub part_within : {next kind other a b x : ℕ} → next ≡ get_or rows (6 * at + 5) 0 → kind ≡ get_or rows (6 * at) 0 → (kind ≡ 0 → ⊥)
        → other ≡ get_or rows (6 * at + 4) 0
        → a ≡ picked other (at + 1) other → b ≡ picked other other next → x ≡ cond (eqb kind 5) at next → Deeper next a b x
    part_within {next} {kind} {other} n k z o u v y =
        let g : Here part.from_it at next e p = rw n found in
        rw (u, v, y, k)
        (single_within next other g.rest g.after part.from_it g.single (λ i σ. part.same i σ ∙ g.resumed i σ) g.held g.waits
        (λ q. z (k ∙ q)) (sym o)
        part.held part.block (λ i σ. g.started i σ))

    pub within_nested : {next a b x : ℕ} (y : Bool) → Deeper next a b x → y ≡ (ltb at a && (leb a b && leb b next)) → y ≡ false → ⊥
    within_nested {next} {a} {b} y W e h = nested_false y at a b next e h W.low W.mid W.high

-- where a resumed statement goes on
again_range : (kind at next x : ℕ) → x ≡ cond (eqb kind 5) at next → at < next → (at ≤ x) × (x ≤ next)
again_range kind at next x e l = rw e (go (eqb kind 5))
  where
    go : (t : Bool) → (at ≤ cond t at next) × (cond t at next ≤ next)
    go true = (omega arith, omega arith)
    go false = (omega arith, omega arith)

-- a part and what comes after it lie in the rows first .. e
pub part_inside : (first at a b next e kind x : ℕ) (r : Bool) → first ≤ at → at < next → next ≤ e → e ≤ 512 → r ≡ (ltb at a && (leb a b && leb b next))
    → r ≡ true → x ≡ cond (eqb kind 5) at next
    → (first < a) × (a ≤ b) × (b ≤ e) × (first ≤ x) × (x ≤ e) × (e ≤ 512)
part_inside first at a b next e kind x r h k l m n y z =
    let f = nested_true r at a b next n y in
    let g = again_range kind at next x z k in
    (omega arith, omega arith, omega arith, omega arith, omega arith, m)

-- A block resumed, by where its wait is found.
module _ (codes : List ℕ) (args : List ℤ) (rows : List ℕ) (first e p : ℕ) (i o v : List ℤ) (f : Inside) (at : ResumesAt rows first e p f) where
  pub nowhere : (r : Progress) → f ≡ Nothing → Resumes codes args rows first e p i o v r o v
  nowhere r z s h b x = absurd (rw z at (at codes args s h b x))

  pub waited_stands : (x : ℕ) (r : Progress) (o' v' : List ℤ) → f ≡ Wait x → Starts codes args rows x e 0 i o v r o' v'
      → Resumes codes args rows first e p i o v r o' v'
  waited_stands x r o' v' z g s h b w =
      let W : Waited codes args rows s first e p x = rw z at (at codes args s h b w) in
      rw (W.same i (run [] o v)) (g W.rest [] W.after refl)

  pub within_stands : (a b x : ℕ) (r : Progress) (o' v' : List ℤ) (r' : Progress) (o'' v'' : List ℤ) → f ≡ Part a b x
      → Resumes codes args rows a b p i o v r o' v'
      → GoesOn codes args rows x e i o' v' r r' o'' v'' → Resumes codes args rows first e p i o v r' o'' v''
  within_stands a b x r o' v' r' o'' v'' z d g s h k w =
      let W : Within codes args rows s first e p a b x = rw z at (at codes args s h k w) in
      rw (W.same i (run [] o v)) (g (resume W.block a p i (run [] o v)) W.rest (d W.block W.held W.is_block W.waits) W.after)

-- WHAT THE ANSWERS STAND FOR
module _ (codes : List ℕ) (args : List ℤ) (rows : List ℕ) (i : List ℤ) (from e : ℕ) (R : Result) (q : Option Stmt) (r : Progress) (o v : List ℤ) where
  abbrev Next : Result
  Next = then R (λ τ. start_rest q from i τ)

  pub on_passed : (n : ℕ) (r' : Progress) (o' v' : List ℤ) → Stands R r o v → r ≡ Passed n → HeldRest codes args rows q from e
      → ((q : Option Stmt) (w : List ℕ) → HeldRest codes args rows q from e → length w ≡ n → Stands (start_rest q from i (run w o v)) r' o' v')
      → Stands Next r' o' v'
  unfolding then
  on_passed n r' o' v' s h k f = let t = (rw h at s).is in rw t.1.1 (f q t.0 k t.1.0)

  pub on_reached : (p n : ℕ) → Stands R r o v → r ≡ Reached p n → Stands Next (Reached p n) o v
  unfolding then
  on_reached p n s h = let t = (rw h at s).is in rw t.1.1 (record { is = (t.0, (t.1.0, refl)) })

  pub on_refused : (m : Fault) (x : ℕ) → Stands R r o v → r ≡ Refused m x → Stands Next (Refused m x) o v
  unfolding then
  on_refused m x s h = let t = (rw h at s).is in rw t (record { is = refl })
