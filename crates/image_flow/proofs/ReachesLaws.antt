-- Sweeps over the lines come to the reaches of the design: after k sweeps every reach below k is right. Assumes nothing.
use Prim.Native.Nat.{ℕ, zero, suc, ◌+◌, ◌-◌, ◌*◌, ◌≤◌, ◌<◌, max}
use native.Mathlib.Omega.{arith}
use mathlib.Core.Path.{◌≡◌, refl, sym, ap, ◌∙◌}
use mathlib.Core.Bool.{Bool, true, false, not, ◌||◌}
use mathlib.Core.Logic.{⊎_elim}
use mathlib.Core.List.{List, map}
use lib.ListN.{length, get_or, set, length-map, length-set, get_or-map}
use lib.Seq.{sets, length-sets, get_or-set_same, get_or-set_other, set-get_or, ext_get_or}
use lib.Dec.{eqb}
use lib.IntN.{ℤ}
use borrow.Author.Tests.{lt-ltb, eqb-true}
use Rattle.spec_design.specs.Statement.{output, variable, null, Stmt, act, wait, if_then, if_else, while, seq, size}
use Rattle.spec_format.specs.Lines.{Line, waits, acts, branches, lines_of, line, next, reach, reach_of, reaches_of}
use Rattle.spec_simulation.specs.Ranked.{Ranked}
use Rattle.spec_simulation.proofs.Lines.{Each, lines_of_length, lines_of_line, below_or}
use Rattle.spec_simulation.proofs.Ranked.{Known, known_zero, known_reach_of}
use Rattle.spec_simulation.proofs.Reaches.{lines_of_ranked}
use Rattle.spec_simulation.proofs.Below.{reaches_of_below}
use Rattle.base_ir.specs.Arrays.{Row, At}
use Rattle.base_ir.proofs.Held.{at_first, at_rest, at_output, at_variable, at_null, at_wait, at_if, at_while, at_else}
use Rattle.image_flow.specs.declared.followers.Links.{Links}
use Rattle.image_flow.specs.Followers.{other_of, stored}
use Rattle.image_flow.specs.Reaches.{up_one, is_branch, reach_by, reach_at, sweep, sweeps, Reached, Swept}
use Rattle.image_flow.proofs.Sets.{get_d_sets_behind, get_d_sets_in}

-- the kind of a line's statement
abbrev KindOf : ℕ → Line → Type 0
KindOf k (waits f) = k ≡ 0
KindOf k (acts a f) = (eqb k 0 ≡ false) × (is_branch k ≡ false)
KindOf k (branches e f g) = (eqb k 0 ≡ false) × (is_branch k ≡ true)

plain_kind : {k i : ℕ} → k ≡ i → eqb i 0 ≡ false → is_branch i ≡ false → (eqb k 0 ≡ false) × (is_branch k ≡ false)
plain_kind e a b = rw e (a, b)

branch_kind : {k i : ℕ} → k ≡ i → eqb i 0 ≡ false → is_branch i ≡ true → (eqb k 0 ≡ false) × (is_branch k ≡ true)
branch_kind e a b = rw e (a, b)

each_kind : (codes : List ℕ) (args : List ℤ) (rows : List ℕ) (s : Stmt) (j m f : ℕ) → At codes args rows s j m
    → Each (λ y l. KindOf (get_or rows (6 * y) 0) l) s j f
unfolding Each
each_kind codes args rows (act (output k e)) j m f h = plain_kind (ap (λ (r : Row). r.kind) (at_output h).line) refl refl
each_kind codes args rows (act (variable k e)) j m f h = plain_kind (ap (λ (r : Row). r.kind) (at_variable h).line) refl refl
each_kind codes args rows (act null) j m f h = plain_kind (ap (λ (r : Row). r.kind) (at_null h).line) refl refl
each_kind codes args rows wait j m f h = ap (λ (r : Row). r.kind) (at_wait h).line
each_kind codes args rows (if_then e a) j m f h =
    let w = at_if h in
    let z : j + 1 ≡ suc j = omega arith in
    (branch_kind (ap (λ (r : Row). r.kind) w.0.line) refl refl, each_kind codes args rows a (suc j) _ f (rw z at w.1))
each_kind codes args rows (if_else e a b) j m f h =
    let w = at_else h in
    let z : j + 1 ≡ suc j = omega arith in (
      branch_kind (ap (λ (r : Row). r.kind) w.0.line) refl refl,
      each_kind codes args rows a (suc j) _ f (rw z at w.1.0),
      each_kind codes args rows b
          (suc j + size a) _ f (rw z at w.1.1),
    )
each_kind codes args rows (while e a) j m f h =
    let w = at_while h in
    let z : j + 1 ≡ suc j = omega arith in
    (branch_kind (ap (λ (r : Row). r.kind) w.0.line) refl refl, each_kind codes args rows a (suc j) _ j (rw z at w.1))
each_kind codes args rows (seq a b) j m f h =
    (each_kind codes args rows a j m (j + size a) (at_first h), each_kind codes args rows b (j + size a) _ f (at_rest h))

-- the equation's right side from the arrays, where it is small enough
up_is : (v w : ℕ) → suc v ≡ w → w ≤ 65535 → up_one v ≡ w
up_is v w e h = rw (lt-ltb v 65535 (omega arith)) (let z : v + 1 ≡ suc v = omega arith in z ∙ e)

by_line : (k f g : ℕ) (l : Line) (r : List ℕ) (w : ℕ) → KindOf k l → f ≡ next l → g ≡ other_of l → reach_of r l ≡ w → w ≤ 65535
    → reach_by k (get_or r f 0) (get_or r g 0) ≡ w
unfolding reach_by
by_line k f g (waits f') r w h p q e b = rw h e
by_line k f g (acts a f') r w h p q e b = rw (h.0, h.1, p) (up_is (get_or r f' 0) w e b)
by_line k f g (branches c f' g') r w h p q e b = rw (h.0, h.1, p, q) (up_is (max (get_or r f' 0) (get_or r g' 0)) w e b)

-- what the links of a body show of a line
pub link_next_is : (t : List Line) (x : Links) (j : ℕ) → j < length t → length t ≤ length x.next → get_or (stored 0 t x).next j 0 ≡ next (line t j)
link_next_is t x j h b =
    let z : 0 + j ≡ j = omega arith in
    let m = length-map t next in
    ap (λ (i : ℕ). get_or (stored 0 t x).next i 0) (sym z) ∙ get_d_sets_in x.next 0 (map next t) j 0 (omega arith) (omega arith)
    ∙ get_or-map next t j (waits 0)

pub link_other_is : (t : List Line) (x : Links) (j : ℕ) → j < length t → length t ≤ length x.other → get_or (stored 0 t x).other j 0 ≡ other_of (line t j)
link_other_is t x j h b =
    let z : 0 + j ≡ j = omega arith in
    let m = length-map t other_of in
    ap (λ (i : ℕ). get_or (stored 0 t x).other i 0) (sym z) ∙ get_d_sets_in x.other 0 (map other_of t) j 0 (omega arith) (omega arith)
    ∙ get_or-map other_of t j (waits 0)

-- SWEEPS

sweep_length : (rows : List ℕ) (x : Links) (n : ℕ) (r : List ℕ) → length (sweep rows x n r) ≡ length r
unfolding sweep
sweep_length rows x zero r = refl
sweep_length rows x (suc j) r = sweep_length rows x j (set r j (reach_at rows x j r)) ∙ length-set r j (reach_at rows x j r)

sweep_behind : (rows : List ℕ) (x : Links) (n : ℕ) (r : List ℕ) (y : ℕ) → n ≤ y → get_or (sweep rows x n r) y 0 ≡ get_or r y 0
unfolding sweep
sweep_behind rows x zero r y h = refl
sweep_behind rows x (suc j) r y h =
    sweep_behind rows x j (set r j (reach_at rows x j r)) y (omega arith) ∙ get_or-set_other r j y (reach_at rows x j r) 0 (λ e. omega arith)

sweeps_length : (rows : List ℕ) (x : Links) (n k : ℕ) (r : List ℕ) → length (sweeps rows x n k r) ≡ length r
unfolding sweeps
sweeps_length rows x n zero r = refl
sweeps_length rows x n (suc k) r = sweeps_length rows x n k (sweep rows x n r) ∙ sweep_length rows x n r

sweeps_behind : (rows : List ℕ) (x : Links) (n k : ℕ) (r : List ℕ) (y : ℕ) → n ≤ y → get_or (sweeps rows x n k r) y 0 ≡ get_or r y 0
unfolding sweeps
sweeps_behind rows x n zero r y h = refl
sweeps_behind rows x n (suc k) r y h = sweeps_behind rows x n k (sweep rows x n r) y h ∙ sweep_behind rows x n r y h

-- what a sweep does not change, no more sweeps change
sweeps_still : (rows : List ℕ) (x : Links) (n k : ℕ) (r : List ℕ) → sweep rows x n r ≡ r → sweeps rows x n k r ≡ r
unfolding sweeps
sweeps_still rows x n zero r e = refl
sweeps_still rows x n (suc k) r e = ap (λ (q : List ℕ). sweeps rows x n k q) e ∙ sweeps_still rows x n k r e

module _ (rows : List ℕ) (x : Links) (t : List Line) (r : List ℕ) (w : Ranked t r) (small : (j : ℕ) → j < length t → reach r j ≤ 65535)
    (made : (j : ℕ) → j < length t → (q : List ℕ) (v : ℕ) → reach_of q (line t j) ≡ v → v ≤ 65535 → reach_at rows x j q ≡ v) where
  -- reaches below k are right, and from the line i on also k itself
  record Part (k i : ℕ) (q : List ℕ) : Type 0 where
    pub low : Known t r q k
    pub here : (y : ℕ) → i ≤ y → y < length t → reach r y ≤ k → reach q y ≡ reach r y
    pub room : length t ≤ length q

  elsewhere : (j y v : ℕ) (q : List ℕ) → ((y ≡ j → ⊥) → get_or q y 0 ≡ get_or r y 0) → (y ≡ j → get_or (set q j v) y 0 ≡ get_or r y 0)
      → get_or (set q j v) y 0 ≡ get_or r y 0
  elsewhere j y v q f g =
      ⊎_elim (λ (lt : y < j). get_or-set_other q j y v 0 (λ e. omega arith) ∙ f (λ e. omega arith))
      (λ (le : j ≤ y). ⊎_elim (λ (lt : j < y). get_or-set_other q j y v 0 (λ e. omega arith) ∙ f (λ e. omega arith)) (λ (ge : y ≤ j). g (omega arith))
      (below_or j y))
      (below_or y j)

  later : (j y : ℕ) → j ≤ y → (y ≡ j → ⊥) → suc j ≤ y
  later j y a n = ⊎_elim (λ (lt : j < y). lt) (λ (ge : y ≤ j). absurd (n (omega arith))) (below_or j y)

  moved : (j y v : ℕ) (q : List ℕ) (k : ℕ) → (reach r j ≤ k → get_or (set q j v) j 0 ≡ reach r j) → reach r y ≤ k → y ≡ j → get_or (set q j v) y 0 ≡ get_or r y 0
  moved j y v q k f le e = rw e (f (rw e at le))

  part_step : (k j : ℕ) (q : List ℕ) → j < length t → Part k (suc j) q → Part k j (set q j (reach_at rows x j q))
  unfolding Known
  part_step k j q h p =
      let v = reach_at rows x j q in
      let b = p.room in
      let n = length-set q j v in
      let right : reach r j ≤ k → get_or (set q j v) j 0 ≡ reach r j =
      λ le. get_or-set_same q j v 0 (omega arith) ∙ made j h q (reach r j) (known_reach_of t r q k w p.low j h le) (small j h) in
      record {
        low = λ y l le. elsewhere j y v q (λ u. p.low y l le) (moved j y v q k right (omega arith));
        here = λ y a l le. elsewhere j y v q (λ u. p.here y (later j y a u) l le) (moved j y v q k right le);
        room = omega arith;
      }

  part_sweep : (k j : ℕ) (q : List ℕ) → j ≤ length t → Part k j q → Part k 0 (sweep rows x j q)
  unfolding sweep
  part_sweep k zero q h p = p
  part_sweep k (suc j) q h p = part_sweep k j (set q j (reach_at rows x j q)) (omega arith) (part_step k j q (omega arith) p)

  -- one sweep makes one reach more right
  sweep_known : (k : ℕ) (q : List ℕ) → length t ≤ length q → Known t r q k → Known t r (sweep rows x (length t) q) (suc k)
  unfolding Known
  sweep_known k q b h =
      let p = part_sweep k (length t) q (omega arith) (record { low = h; here = λ y a l le. absurd (omega arith); room = b }) in
      λ y l le. p.here y (omega arith) l (omega arith)

  sweeps_known : (m k : ℕ) (q : List ℕ) → length t ≤ length q → Known t r q k → Known t r (sweeps rows x (length t) m q) (k + m)
  unfolding sweeps
  sweeps_known zero k q b h = let z : k + 0 ≡ k = omega arith in rw z h
  sweeps_known (suc m) k q b h =
      let z : k + suc m ≡ suc k + m = omega arith in
      let n = sweep_length rows x (length t) q in
      rw z (sweeps_known m (suc k) (sweep rows x (length t) q) (omega arith) (sweep_known k q b h))

  -- as many sweeps as lines, where every reach is below that number
  sweeps_all : (q : List ℕ) → length t ≤ length q → ((y : ℕ) → y < length t → reach r y < length t) → sweeps rows x (length t) (length t) q ≡ sets q 0 r
  unfolding Known
  sweeps_all q b low =
      let n = sweeps_length rows x (length t) (length t) q in
      let n' = length-sets q 0 r in
      let known = sweeps_known (length t) 0 q b (known_zero t r q) in
      let z : 0 + length t ≡ length t = omega arith in
      let long = w.long in
      ext_get_or 0 (sweeps rows x (length t) (length t) q) (sets q 0 r) (n ∙ sym n')
      (λ y l. ⊎_elim (λ (lt : y < length t). known y lt (rw z (low y lt)) ∙ inside y (omega arith) (omega arith))
      (λ (ge : length t ≤ y). sweeps_behind rows x (length t) (length t) q y ge ∙ sym (get_d_sets_behind q 0 r y 0 (omega arith))) (below_or y (length t)))
    where
      inside : (y : ℕ) → y < length r → length r ≤ length q → get_or r y 0 ≡ get_or (sets q 0 r) y 0
      inside y l h = let z : 0 + y ≡ y = omega arith in sym (get_d_sets_in q 0 r y 0 l (omega arith)) ∙ ap (λ (i : ℕ). get_or (sets q 0 r) i 0) z

-- A body: as many sweeps as statements store its reaches.
sweeps_whole : (rows : List ℕ) (n : ℕ) (x : Links) (q : List ℕ) → n ≤ 512 → Reached rows n x q (sweeps rows x n n q)
sweeps_whole rows n x q few codes args s x₀ a e c g p p' d b =
    let k = lines_of_length s in
    let m : length (lines_of s) ≡ n = k ∙ e in
    let w = lines_of_ranked s c g in
    let low : (y : ℕ) → y < length (lines_of s) → reach (reaches_of s) y < length (lines_of s) = λ y l. rw k (reaches_of_below s c g y (rw k at l)) in
    let kinds = lines_of_line (λ y l. KindOf (get_or rows (6 * y) 0) l) s (each_kind codes args rows s 0 0 0 a) in
    let all = sweeps_all rows x (lines_of s) (reaches_of s) w (λ j l. let h = low j l in omega arith)
    (λ j l r v h i. by_line (get_or rows (6 * j) 0) (get_or x.next j 0) (get_or x.other j 0) (line (lines_of s) j) r v (kinds j (rw k at l))
    (rw d (link_next_is (lines_of s) x₀ j l (omega arith))) (rw d (link_other_is (lines_of s) x₀ j l (omega arith))) h i)
    q (omega arith) low in
    rw m at all

-- what is left of a sweep, and whether it has changed a reach so far
pub record Sweeping (rows : List ℕ) (x : Links) (n j : ℕ) (before now : List ℕ) (changed : Bool) : Type 0 where
  pub rest : sweep rows x j now ≡ sweep rows x n before
  pub same : changed ≡ false → now ≡ before

no_change : (a : Bool) (b : Bool) → (a || not b) ≡ false → (a ≡ false) × (b ≡ true)
no_change true true e = (e, refl)
no_change true false e = (e, sym e)
no_change false true e = (refl, refl)
no_change false false e = (refl, sym e)

-- one reach on
pub sweeping_next : (rows : List ℕ) (x : Links) (n j : ℕ) (before now : List ℕ) (changed : Bool) (v : ℕ) → 0 < j → Sweeping rows x n j before now changed
    → v ≡ reach_at rows x (j - 1) now → Sweeping rows x n (j - 1) before (set now (j - 1) v) (changed || not (eqb (get_or now (j - 1) 0) v))
unfolding sweep
sweeping_next rows x n zero before now changed v h s e = absurd (omega arith)
sweeping_next rows x n (suc j) before now changed v h s e =
    let z : suc j - 1 ≡ j = omega arith in
    let e' : v ≡ reach_at rows x j now = rw z at e in
    rw z (record {
      rest = ap (λ (w : ℕ). sweep rows x j (set now j w)) e' ∙ s.rest;
      same = λ d. let p = no_change changed (eqb (get_or now j 0) v) d in
          ap (λ (w : ℕ). set now j w) (sym (eqb-true (get_or now j 0) v p.1)) ∙ set-get_or now j 0 ∙ s.same p.0;
    })

-- the sweep at its end
pub sweeping_end : (rows : List ℕ) (x : Links) (n j : ℕ) (before now : List ℕ) (changed : Bool) → j ≤ 0 → Sweeping rows x n j before now changed
    → Swept rows x n before now changed
unfolding sweep
sweeping_end rows x n zero before now changed h s = record { are = s.rest; still = s.same }
sweeping_end rows x n (suc j) before now changed h s = absurd (omega arith)

-- one sweep on
pub sweeps_next : (rows : List ℕ) (x : Links) (n k : ℕ) (r : List ℕ) → k < n → sweeps rows x n (n - (k + 1)) (sweep rows x n r) ≡ sweeps rows x n (n - k) r
unfolding sweeps
sweeps_next rows x n k r h = let z : n - k ≡ suc (n - (k + 1)) = omega arith in rw z

-- the sweeps at their end: none is left, or one changed nothing
pub sweeps_end : (rows : List ℕ) (x : Links) (n k : ℕ) (r q : List ℕ) → n ≤ 512 → n ≤ k → sweeps rows x n (n - k) r ≡ sweeps rows x n n q → Reached rows n x q r
unfolding sweeps
sweeps_end rows x n k r q few h e =
    let z : n - k ≡ 0 = omega arith in
    λ codes args s x₀ a g c l p p' d b. (rw z at e) ∙ sweeps_whole rows n x q few codes args s x₀ a g c l p p' d b

pub sweeps_cut : (rows : List ℕ) (x : Links) (n k : ℕ) (r r' q : List ℕ) → n ≤ 512 → r' ≡ sweep rows x n r → r' ≡ r → sweeps rows x n k r ≡ sweeps rows x n n q
    → Reached rows n x q r'
sweeps_cut rows x n k r r' q few i same e =
    λ codes args s x₀ a g c l p p' d b. same ∙ sym (sweeps_still rows x n k r (sym i ∙ same)) ∙ e ∙ sweeps_whole rows n x q few codes args s x₀ a g c l p p' d b
