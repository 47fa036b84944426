-- The pass over the statements stores the followers of the design's lines: by induction on blocks. Assumes nothing.
use Prim.Native.Nat.{ℕ, zero, suc, ◌+◌, ◌≤◌, ◌<◌}
use native.Mathlib.Omega.{arith}
use mathlib.Core.Path.{◌≡◌, refl, sym, ap, ◌∙◌}
use mathlib.Core.Bool.{false}
use mathlib.Core.List.{List, ◌∷◌, ◌++◌, map}
use lib.ListN.{length, get_or, set, length-map, length-set}
use lib.Seq.{sets, length-sets, get_or-set_same, get_or-set_other}
use lib.Dec.{eqb}
use Rattle.std.proofs.lemmas.List.{map-append}
use lib.IntN.{ℤ}
use borrow.Author.Tests.{eq-eqb, ne_eqb}
use Rattle.spec_design.specs.Expression.{Expr}
use Rattle.spec_design.specs.Statement.{Act, output, variable, null, Stmt, act, wait, if_then, if_else, while, seq, size}
use Rattle.spec_semantics.proofs.Results.{size_pos}
use Rattle.spec_format.specs.Lines.{Line, branches, lines, lines_of, next}
use Rattle.spec_simulation.proofs.Lines.{lines_length_lem}
use Rattle.base_ir.specs.Operations.{Op, ops}
use Rattle.base_ir.specs.Entries.{Single, single_act, single_wait, single_if, single_else, single_while, Block, only, and_then}
use Rattle.base_ir.specs.Arrays.{Row, row_in, At}
use Rattle.base_ir.proofs.Held.{Own, at_first, at_rest, at_output, at_variable, at_null, at_wait, at_if, at_while, at_else}
use Rattle.image_flow.specs.declared.followers.Links.{Links}
use Rattle.image_flow.specs.Followers.{links, link, follower_of, rested, branched, opened, step_at, followed, other_of, stored}
use Rattle.image_flow.specs.Followers.{Followed}
use Rattle.image_flow.proofs.Sets.{get_d_sets_behind, sets_set_first, sets_rest, sets_inside, sets_two}

-- What one statement's row makes of the arrays.

module _ (r : Row) (j f : ℕ) (x : Links) where
  opened_plain : (k : ℕ) → r.kind ≡ k → eqb k 3 ≡ false → eqb k 5 ≡ false → opened r j f x ≡ link x j f 0
  unfolding opened
  opened_plain k e a b = rw (e, a, b)

  opened_then : r.kind ≡ 3 → r.other ≡ r.end → opened r j f x ≡ branched j r.end f f x
  unfolding opened
  opened_then e g = rw (e, eq-eqb r.other r.end g)

  opened_else : r.kind ≡ 3 → (r.other ≡ r.end → ⊥) → opened r j f x ≡ link (branched j r.other f r.other x) r.other r.end f
  unfolding opened
  opened_else e g = rw (e, ne_eqb r.other r.end g)

  opened_while : r.kind ≡ 5 → opened r j f x ≡ branched j r.end j f x
  unfolding opened
  opened_while e = rw e

module _ (r : Row) (j : ℕ) (x : Links) where
  -- the last statement of its block
  step_last : r.end ≡ get_or x.next j 0 → opened r j (follower_of r j x) (rested r j x) ≡ opened r j (get_or x.other j 0) x
  unfolding rested
  step_last e = rw (eq-eqb r.end (get_or x.next j 0) e)

  -- another
  step_inner : (r.end ≡ get_or x.next j 0 → ⊥)
      → opened r j (follower_of r j x) (rested r j x) ≡ opened r j r.end (link x r.end (get_or x.next j 0) (get_or x.other j 0))
  unfolding rested
  step_inner e = rw (ne_eqb r.end (get_or x.next j 0) e)

-- statements one after the other
followed_add : (rows : List ℕ) (j a b : ℕ) (x : Links) → followed rows j (a + b) x ≡ followed rows (j + a) b (followed rows j a x)
unfolding followed
followed_add rows j zero b x = let z : 0 + b ≡ b = omega arith in let y : j + 0 ≡ j = omega arith in rw (z, y)
followed_add rows j (suc a) b x =
    let z : suc a + b ≡ suc (a + b) = omega arith in
    let y : j + suc a ≡ j + 1 + a = omega arith in
    rw (z, y) (followed_add rows (j + 1) a b (step_at rows j x))

links_equal : {a b c d : List ℕ} → a ≡ b → c ≡ d → links a c ≡ links b d
links_equal e g = cc

next_length : (s : Stmt) (n f : ℕ) → length (map next (lines s n f)) ≡ size s
next_length s n f = length-map (lines s n f) next ∙ lines_length_lem s n f

other_length : (s : Stmt) (n f : ℕ) → length (map other_of (lines s n f)) ≡ size s
other_length s n f = length-map (lines s n f) other_of ∙ lines_length_lem s n f

-- how many statements are inside one
inside : Stmt → ℕ
inside (act a) = 0
inside wait = 0
inside (if_then e a) = size a
inside (if_else e a b) = size a + size b
inside (while e b) = size b
inside (seq a b) = 0

size_inside : {s : Stmt} → Single s → size s ≡ suc (inside s)
unfolding size inside
size_inside (single_act a) = refl
size_inside single_wait = refl
size_inside (single_if b) = refl
size_inside (single_else b c) = refl
size_inside (single_while b) = refl

-- the followers of parts, stored, are those of the whole
module _ (j f : ℕ) (x : Links) where
  stored_block : (e : Expr) (a : Stmt) (k l g w : ℕ)
      → stored (j + 1) (lines a (j + 1) g) (branched j k w l x) ≡ stored j (branches e (j + 1) l ∷ lines a (j + 1) g) x
  stored_block e a k l g w =
      let p = size_pos a in
      let n = next_length a (j + 1) g in
      let o = other_length a (j + 1) g in
      links_equal (sets_inside x.next j k (j + 1) (map next (lines a (j + 1) g)) (omega arith))
      (sets_inside x.other j w l (map other_of (lines a (j + 1) g)) (omega arith))

  stored_two : (e : Expr) (a b : Stmt) (o k : ℕ) → o ≡ j + 1 + size a
      → stored o (lines b o f) (stored (j + 1) (lines a (j + 1) f) (link (branched j o f o x) o k f))
      ≡ stored j (branches e (j + 1) o ∷ (lines a (j + 1) f ++ lines b o f)) x
  stored_two e a b o k h =
      let p = size_pos a in
      let q = size_pos b in
      let n = next_length a (j + 1) f in
      let m = other_length a (j + 1) f in
      let n' = next_length b o f in
      let m' = other_length b o f in
      links_equal
      (sets_two x.next j o o k (j + 1) (map next (lines a (j + 1) f)) (map next (lines b o f)) (omega arith) (omega arith) (omega arith)
      ∙ ap (λ (l : List ℕ). sets x.next j ((j + 1) ∷ l)) (sym (map-append next (lines a (j + 1) f) (lines b o f))))
      (sets_two x.other j o f f o (map other_of (lines a (j + 1) f)) (map other_of (lines b o f)) (omega arith) (omega arith) (omega arith)
      ∙ ap (λ (l : List ℕ). sets x.other j (o ∷ l)) (sym (map-append other_of (lines a (j + 1) f) (lines b o f))))

  stored_seq : (a b : Stmt) (o k w : ℕ) → o ≡ j + size a
      → stored o (lines b o f) (stored j (lines a j o) (link x o k w)) ≡ stored j (lines a j o ++ lines b o f) x
  stored_seq a b o k w h =
      let q = size_pos b in
      let n = next_length a j o in
      let m = other_length a j o in
      let n' = next_length b o f in
      let m' = other_length b o f in
      links_equal
      (sets_rest x.next j o k (map next (lines a j o)) (map next (lines b o f)) (omega arith) (omega arith)
      ∙ ap (λ (l : List ℕ). sets x.next j l) (sym (map-append next (lines a j o) (lines b o f))))
      (sets_rest x.other j o w (map other_of (lines a j o)) (map other_of (lines b o f)) (omega arith) (omega arith)
      ∙ ap (λ (l : List ℕ). sets x.other j l) (sym (map-append other_of (lines a j o) (lines b o f))))

-- the arrays are long enough
pub record Room (x : Links) (n : ℕ) : Type 0 where
  pub nexts : n ≤ length x.next
  pub others : n ≤ length x.other

room_link : {x : Links} {n : ℕ} (j a b : ℕ) → Room x n → Room (link x j a b) n
room_link {x} {n} j a b h =
    let p = length-set x.next j a in
    let q = length-set x.other j b in
    let u = h.nexts in
    let v = h.others in
    record { nexts = omega arith; others = omega arith }

room_stored : {x : Links} {n : ℕ} (j : ℕ) (ls : List Line) → Room x n → Room (stored j ls x) n
room_stored {x} {n} j ls h =
    let p = length-sets x.next j (map next ls) in
    let q = length-sets x.other j (map other_of ls) in
    let u = h.nexts in
    let v = h.others in
    record { nexts = omega arith; others = omega arith }

-- what was announced of the statement o stands there still
link_next : (x : Links) (o k w : ℕ) → o < length x.next → get_or (link x o k w).next o 0 ≡ k
link_next x o k w h = get_or-set_same x.next o k 0 h

link_other : (x : Links) (o k w : ℕ) → o < length x.other → get_or (link x o k w).other o 0 ≡ w
link_other x o k w h = get_or-set_same x.other o w 0 h

module _ (codes : List ℕ) (args : List ℤ) (rows : List ℕ) where
  -- a statement that j follows in its block: its own row, then what is inside
  pub OpenLaw : Stmt → Type 0
  OpenLaw s =
      (j m f : ℕ) (x : Links) → At codes args rows s j m → Room x (j + size s)
      → followed rows (j + 1) (inside s) (opened (row_in rows j) j f x) ≡ stored j (lines s j f) x

  -- a block that was announced
  pub BlockLaw : Stmt → Type 0
  BlockLaw s =
      (j m f : ℕ) (x : Links) → At codes args rows s j m → Room x (j + size s) → get_or x.next j 0 ≡ j + size s → get_or x.other j 0 ≡ f
      → followed rows j (size s) x ≡ stored j (lines s j f) x

  plain_law : {k t : ℕ} {own : List Op} {j m : ℕ} (f : ℕ) (x : Links) → Own codes args rows k t own j m 0 0 → eqb k 3 ≡ false → eqb k 5 ≡ false
      → opened (row_in rows j) j f x ≡ link x j f 0
  plain_law {k} {t} {own} {j} {m} f x o a b = opened_plain (row_in rows j) j f x k (ap (λ (r : Row). r.kind) o.line) a b

  act_law : (a : Act) → OpenLaw (act a)
  unfolding OpenLaw inside followed lines
  act_law (output k e) j m f x h r = plain_law f x (at_output h) refl refl
  act_law (variable k e) j m f x h r = plain_law f x (at_variable h) refl refl
  act_law null j m f x h r = plain_law f x (at_null h) refl refl

  wait_law : OpenLaw wait
  unfolding OpenLaw inside followed lines
  wait_law j m f x h r = plain_law f x (at_wait h) refl refl

  -- the block of a branch
  branch_law : (e : Expr) (a : Stmt) → BlockLaw a → (j f g : ℕ) {m t : ℕ} (x : Links) → At codes args rows a (j + 1) m → Room x (j + suc (size a))
      → t ≡ j + 1 + size a
      → followed rows (j + 1) (size a) (branched j t g f x) ≡ stored j (branches e (suc j) f ∷ lines a (suc j) g) x
  unfolding BlockLaw
  branch_law e a ih j f g {m} x h room o =
      let p = size_pos a in
      let z : j + 1 ≡ suc j = omega arith in
      let t = j + 1 + size a in
      let u : Room x t = record { nexts = (let q = room.nexts in omega arith); others = (let q = room.others in omega arith) } in
      let y = branched j t g f x in
      let n : get_or y.next (j + 1) 0 ≡ t = get_or-set_other (set x.next (j + 1) t) j (j + 1) (j + 1) 0 (λ q. omega arith)
      ∙ get_or-set_same x.next (j + 1) t 0 (let q = u.nexts in omega arith) in
      let n' : get_or y.other (j + 1) 0 ≡ g = get_or-set_other (set x.other (j + 1) g) j (j + 1) f 0 (λ q. omega arith)
      ∙ get_or-set_same x.other (j + 1) g 0 (let q = u.others in omega arith) in
      ap (λ (k : ℕ). followed rows (j + 1) (size a) (branched j k g f x)) o
      ∙ ih (j + 1) m g y h (room_link j (j + 1) f (room_link (j + 1) t g u)) n n'
      ∙ stored_block j f x e a t f g g ∙ ap (λ (k : ℕ). stored j (branches e k f ∷ lines a k g) x) z

  then_law : (e : Expr) (a : Stmt) → BlockLaw a → OpenLaw (if_then e a)
  unfolding OpenLaw inside lines size
  then_law e a ih j m f x h r =
      let w = at_if h in
      let o = w.0.line in
      ap (λ (q : Links). followed rows (j + 1) (size a) q)
      (opened_then (row_in rows j) j f x (ap (λ (q : Row). q.kind) o) (ap (λ (q : Row). q.other) o ∙ sym (ap (λ (q : Row). q.end) o)))
      ∙ branch_law e a ih j f f x w.1 r (ap (λ (q : Row). q.end) o)

  while_law : (e : Expr) (a : Stmt) → BlockLaw a → OpenLaw (while e a)
  unfolding OpenLaw inside lines size
  while_law e a ih j m f x h r =
      let w = at_while h in
      let o = w.0.line in
      ap (λ (q : Links). followed rows (j + 1) (size a) q) (opened_while (row_in rows j) j f x (ap (λ (q : Row). q.kind) o))
      ∙ branch_law e a ih j f j x w.1 r (ap (λ (q : Row). q.end) o)

  else_law : (e : Expr) (a b : Stmt) → BlockLaw a → BlockLaw b → OpenLaw (if_else e a b)
  unfolding OpenLaw BlockLaw inside lines size
  else_law e a b ih ih' j m f x h r =
      let w = at_else h in
      let o = w.0.line in
      let p = size_pos a in
      let p' = size_pos b in
      let z : j + 1 ≡ suc j = omega arith in
      let k = j + 1 + size a in
      let t = j + 1 + (size a + size b) in
      let t' : k + size b ≡ t = omega arith in
      let u : Room x t = record { nexts = (let q = r.nexts in omega arith); others = (let q = r.others in omega arith) } in
      let y = link (branched j k f k x) k t f in
      let v : Room y t = room_link k t f (room_link j (j + 1) k (room_link (j + 1) k f u)) in
      let v₁ : Room y k = record { nexts = (let q = v.nexts in omega arith); others = (let q = v.others in omega arith) } in
      let n : get_or y.next (j + 1) 0 ≡ k = get_or-set_other (set (set x.next (j + 1) k) j (j + 1)) k (j + 1) t 0 (λ q. omega arith)
      ∙ get_or-set_other (set x.next (j + 1) k) j (j + 1) (j + 1) 0 (λ q. omega arith)
      ∙ get_or-set_same x.next (j + 1) k 0 (let q = u.nexts in omega arith) in
      let n' : get_or y.other (j + 1) 0 ≡ f = get_or-set_other (set (set x.other (j + 1) f) j k) k (j + 1) f 0 (λ q. omega arith)
      ∙ get_or-set_other (set x.other (j + 1) f) j (j + 1) k 0 (λ q. omega arith) ∙ get_or-set_same x.other (j + 1) f 0 (let q = u.others in omega arith) in
      let g : opened (row_in rows j) j f x ≡ y = opened_else (row_in rows j) j f x (ap (λ (q : Row). q.kind) o)
      (λ q. let q' : k ≡ t = sym (ap (λ (q : Row). q.other) o) ∙ (q ∙ ap (λ (q : Row). q.end) o) in omega arith)
      ∙ ap2 (ap (λ (q : Row). q.other) o) (ap (λ (q : Row). q.end) o) in
      let y' = stored (j + 1) (lines a (j + 1) f) y in
      let l = next_length a (j + 1) f in
      let l' = other_length a (j + 1) f in
      let d : get_or y'.next k 0 ≡ k + size b = get_d_sets_behind y.next (j + 1) (map next (lines a (j + 1) f)) k 0 (omega arith)
      ∙ link_next (branched j k f k x) k t f (let q = v.nexts in let s = length-set (branched j k f k x).next k t in omega arith) ∙ sym t' in
      let d' : get_or y'.other k 0 ≡ f = get_d_sets_behind y.other (j + 1) (map other_of (lines a (j + 1) f)) k 0 (omega arith)
      ∙ link_other (branched j k f k x) k t f (let q = v.others in let s = length-set (branched j k f k x).other k f in omega arith) in
      ap (λ (q : Links). followed rows (j + 1) (size a + size b) q) g ∙ followed_add rows (j + 1) (size a) (size b) y
      ∙ ap (λ (q : Links). followed rows k (size b) q) (ih (j + 1) (m + length (ops e)) f y w.1.0 v₁ n n')
      ∙ ih' k _ f y' w.1.1 (rw t' (room_stored (j + 1) (lines a (j + 1) f) v)) d d'
      ∙ stored_two j f x e a b k t refl ∙ ap (λ (i : ℕ). stored j (branches e i (i + size a) ∷ (lines a i f ++ lines b (i + size a) f)) x) z
    where
      ap2 : {k k' t t' : ℕ} → k ≡ k' → t ≡ t' → link (branched j k f k x) k t f ≡ link (branched j k' f k' x) k' t' f
      ap2 q q' = cc

  -- the one after its last statement
  row_end : {s : Stmt} → Single s → (j m : ℕ) → At codes args rows s j m → (row_in rows j).end ≡ j + size s
  unfolding size
  row_end (single_act (output k e)) j m h = ap (λ (q : Row). q.end) (at_output h).line ∙ omega arith
  row_end (single_act (variable k e)) j m h = ap (λ (q : Row). q.end) (at_variable h).line ∙ omega arith
  row_end (single_act null) j m h = ap (λ (q : Row). q.end) (at_null h).line ∙ omega arith
  row_end single_wait j m h = ap (λ (q : Row). q.end) (at_wait h).line ∙ omega arith
  row_end (single_if b) j m h = ap (λ (q : Row). q.end) (at_if h).0.line ∙ omega arith
  row_end (single_else b c) j m h = ap (λ (q : Row). q.end) (at_else h).0.line ∙ omega arith
  row_end (single_while b) j m h = ap (λ (q : Row). q.end) (at_while h).0.line ∙ omega arith

  stepped_last : (j c f : ℕ) (x : Links) → (row_in rows j).end ≡ get_or x.next j 0 → get_or x.other j 0 ≡ f
      → followed rows j (suc c) x ≡ followed rows (j + 1) c (opened (row_in rows j) j f x)
  unfolding followed step_at
  stepped_last j c f x e g =
      ap (λ (q : Links). followed rows (j + 1) c q) (step_last (row_in rows j) j x e ∙ ap (λ (k : ℕ). opened (row_in rows j) j k x) g)

  stepped_inner : (j c o k f : ℕ) (x : Links) → (row_in rows j).end ≡ o → get_or x.next j 0 ≡ k → get_or x.other j 0 ≡ f → (o ≡ k → ⊥)
      → followed rows j (suc c) x ≡ followed rows (j + 1) c (opened (row_in rows j) j o (link x o k f))
  unfolding followed step_at
  stepped_inner j c o k f x e g d n =
      ap (λ (q : Links). followed rows (j + 1) c q) (step_inner (row_in rows j) j x (λ q. n (sym e ∙ (q ∙ g))) ∙ same e g d)
    where
      same : {o o' k k' f f' : ℕ} → o ≡ o' → k ≡ k' → f ≡ f' → opened (row_in rows j) j o (link x o k f) ≡ opened (row_in rows j) j o' (link x o' k' f')
      same p q r = rw (p, q, r)

  -- the last statement of a block
  only_law : {s : Stmt} → Single s → OpenLaw s → BlockLaw s
  unfolding OpenLaw BlockLaw
  only_law {s} h law j m f x a r n o =
      ap (λ (k : ℕ). followed rows j k x) (size_inside h) ∙ stepped_last j (inside s) f x (row_end h j m a ∙ sym n) o ∙ law j m f x a r

  -- a statement and the rest of its block
  rest_law : {s : Stmt} (b : Stmt) → Single s → OpenLaw s → BlockLaw b → BlockLaw (seq s b)
  unfolding OpenLaw BlockLaw lines size
  rest_law {s} b h law ih j m f x a r n o =
      let p = size_pos s in
      let p' = size_pos b in
      let k = j + size s in
      let t = j + (size s + size b) in
      let t' : k + size b ≡ t = omega arith in
      let y = link x k t f in
      let v : Room y t = room_link k t f r in
      let v₁ : Room y k = record { nexts = (let q = v.nexts in omega arith); others = (let q = v.others in omega arith) } in
      let first : followed rows j (size s) x ≡ stored j (lines s j k) y =
      ap (λ (k : ℕ). followed rows j k x) (size_inside h) ∙ stepped_inner j (inside s) k t f x (row_end h j m (at_first a)) n o (λ q. omega arith)
      ∙ law j m k y (at_first a) v₁ in
      let y' = stored j (lines s j k) y in
      let l = next_length s j k in
      let l' = other_length s j k in
      let d : get_or y'.next k 0 ≡ k + size b = get_d_sets_behind y.next j (map next (lines s j k)) k 0 (omega arith)
      ∙ get_or-set_same x.next k t 0 (let q = r.nexts in omega arith) ∙ sym t' in
      let d' : get_or y'.other k 0 ≡ f = get_d_sets_behind y.other j (map other_of (lines s j k)) k 0 (omega arith)
      ∙ get_or-set_same x.other k f 0 (let q = r.others in omega arith) in
      followed_add rows j (size s) (size b) x ∙ ap (λ (q : Links). followed rows k (size b) q) first
      ∙ ih k _ f y' (at_rest a) (rw t' (room_stored j (lines s j k) v)) d d' ∙ stored_seq j f x s b k t f refl

  mutual
    single_law : {s : Stmt} → Single s → OpenLaw s
    single_law (single_act a) = act_law a
    single_law single_wait = wait_law
    single_law (single_if b) = then_law _ _ (block_law b)
    single_law (single_else b c) = else_law _ _ _ (block_law b) (block_law c)
    single_law (single_while b) = while_law _ _ (block_law b)

    block_law : {s : Stmt} → Block s → BlockLaw s
    block_law (only h) = only_law h (single_law h)
    block_law (and_then h b) = rest_law _ h (single_law h) (block_law b)

  -- A whole body: the pass stores next and other of its lines.
  pub followed_whole : {s : Stmt} → Block s → At codes args rows s 0 0 → (x : Links) → Room x (size s)
      → followed rows 0 (size s) (link x 0 (size s) 0) ≡ stored 0 (lines_of s) x
  unfolding BlockLaw lines_of
  followed_whole {s} b a x r =
      let p = size_pos s in
      let z : 0 + size s ≡ size s = omega arith in
      block_law b 0 0 0 (link x 0 (size s) 0) a (rw z (room_link 0 (size s) 0 r)) (link_next x 0 (size s) 0 (let q = r.nexts in omega arith) ∙ sym z)
      (link_other x 0 (size s) 0 (let q = r.others in omega arith))
      ∙ links_equal (sets_set_first x.next 0 (size s) (map next (lines s 0 0)) (let q = next_length s 0 0 in omega arith))
      (sets_set_first x.other 0 0 (map other_of (lines s 0 0)) (let q = other_length s 0 0 in omega arith))

-- the pass, one statement on
pub followed_next : (rows : List ℕ) (j : ℕ) (x : Links) → followed rows 0 (j + 1) x ≡ step_at rows j (followed rows 0 j x)
unfolding followed
followed_next rows j x = let z : 0 + j ≡ j = omega arith in followed_add rows 0 j 1 x ∙ ap (λ (k : ℕ). step_at rows k (followed rows 0 j x)) z

-- the whole pass
pub followed_done : (rows : List ℕ) (n : ℕ) (x : Links) {y z : Links} → y ≡ link x 0 n 0 → z ≡ followed rows 0 n y → Followed rows n x z
followed_done rows n x g i codes args s b a e p q =
    let r : Room x (size s) = record { nexts = omega arith; others = omega arith } in
    i ∙ ap (λ (w : Links). followed rows 0 n w) g ∙ ap (λ (k : ℕ). followed rows 0 k (link x 0 k 0)) (sym e) ∙ followed_whole codes args rows b a x r
