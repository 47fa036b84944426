-- The lines of a body by their numbers: each statement has its line at its own number. By induction on the statement, whose lines are a part of
-- the list. Assumes nothing.
use Prim.Native.Nat.{ℕ, suc, ◌+◌, ◌≤◌, ◌<◌}
use native.Mathlib.Omega.{arith}
use native.Mathlib.Numerals.{add-one}
use native.Mathlib.Nat.{add-zero}
use native.Mathlib.Decide.{dec_lt}
use mathlib.Core.Path.{◌≡◌, refl, sym, ap, ◌∙◌}
use mathlib.Core.Logic.{◌⊎◌, inl, inr, ⊎_elim}
use mathlib.Core.List.{List, [], ◌∷◌, ◌++◌, append_assoc, append-nil}
use lib.ListN.{get_or, length, drop, length-append}
use lib.Seq.{get_or-drop, drop-drop, drop-append_seam}
use Rattle.spec_design.specs.Statement.{Stmt, act, wait, if_then, if_else, while, seq, size}
use Rattle.spec_format.specs.Lines.{Line, waits, acts, branches, lines, lines_of, line}

-- Parts of a list.

-- the list p stands at the place n of t
unfoldable pub Segment : {X : Type 0} → List X → ℕ → List X → Type 0
Segment {X} t n p = (q : List X) × (drop n t ≡ p ++ q)

module _ {X : Type 0} where
  pub segment_whole : (t : List X) → Segment t 0 t
  unfolding Segment
  segment_whole t = ([], sym (append-nil t))

  pub segment_head : (t : List X) (n : ℕ) (x d : X) (p : List X) → Segment t n (x ∷ p) → get_or t n d ≡ x
  unfolding Segment
  segment_head t n x d p h = ap (λ m. get_or t m d) (sym (add-zero n)) ∙ sym (get_or-drop n t 0 d) ∙ ap (λ l. get_or l 0 d) h.1

  pub segment_tail : (t : List X) (n : ℕ) (x : X) (p : List X) → Segment t n (x ∷ p) → Segment t (suc n) p
  unfolding Segment
  segment_tail t n x p h = (h.0, ap (λ m. drop m t) (sym (add-one n)) ∙ sym (drop-drop 1 n t) ∙ ap (drop 1) h.1)

  pub segment_left : (t : List X) (n : ℕ) (p q : List X) → Segment t n (p ++ q) → Segment t n p
  unfolding Segment
  segment_left t n p q h = (q ++ h.0, h.1 ∙ append_assoc p q h.0)

  pub segment_right : (t : List X) (n m : ℕ) (p q : List X) → length p ≡ m → Segment t n (p ++ q) → Segment t (n + m) q
  unfolding Segment
  segment_right t n m p q e h = (
    h.0,
    sym (drop-drop m n t) ∙ ap (drop m) (h.1 ∙ append_assoc p q h.0) ∙ ap (λ k. drop k (p ++ (q ++ h.0))) (sym e)
        ∙ drop-append_seam p (q ++ h.0),
  )

-- Every line of a statement.

-- P holds of each line of s with its number, where n is the first number and the line f follows s
unfoldable pub Each : (ℕ → Line → Type 0) → Stmt → ℕ → ℕ → Type 0
Each P (act a) n f = P n (acts a f)
Each P wait n f = P n (waits f)
Each P (if_then e a) n f = P n (branches e (suc n) f) × Each P a (suc n) f
Each P (if_else e a b) n f = P n (branches e (suc n) (suc n + size a)) × Each P a (suc n) f × Each P b (suc n + size a) f
Each P (while e b) n f = P n (branches e (suc n) f) × Each P b (suc n) n
Each P (seq a b) n f = Each P a n (n + size a) × Each P b (n + size a) f

pub each_both : {P Q R : ℕ → Line → Type 0} → ((x : ℕ) (l : Line) → P x l → Q x l → R x l) → (s : Stmt) (n f : ℕ)
    → Each P s n f → Each Q s n f → Each R s n f
unfolding Each
each_both k (act a) n f p q = k _ _ p q
each_both k wait n f p q = k _ _ p q
each_both k (if_then e a) n f p q = (k _ _ p.0 q.0, each_both k a (suc n) f p.1 q.1)
each_both k (if_else e a b) n f p q =
    (k _ _ p.0 q.0, each_both k a (suc n) f p.1 q.1, each_both k b (suc n + size a) f p.2 q.2)
each_both k (while e b) n f p q = (k _ _ p.0 q.0, each_both k b (suc n) n p.1 q.1)
each_both k (seq a b) n f p q = (each_both k a n (n + size a) p.0 q.0, each_both k b (n + size a) f p.1 q.1)

pub below_or : (x y : ℕ) → (x < y) ⊎ (y ≤ x)
below_or x y = go (dec_lt x y)
  where
    go : Dec (x < y) → (x < y) ⊎ (y ≤ x)
    go (yes h) = inl h
    go (no h) = inr (omega arith)

first_or : (n x : ℕ) → n ≤ x → (n ≡ x) ⊎ (n < x)
first_or n x h = ⊎_elim (λ v. inr v) (λ v. inl (omega arith)) (below_or n x)

-- every number of s has a line, of which P holds
pub each_line : (P : ℕ → Line → Type 0) (s : Stmt) (n f : ℕ) → Each P s n f → (x : ℕ) → n ≤ x → x < n + size s → (l : Line) × P x l
unfolding Each size
each_line P (act a) n f h x lo hi = let e : n ≡ x = omega arith in (_, rw e at h)
each_line P wait n f h x lo hi = let e : n ≡ x = omega arith in (_, rw e at h)
each_line P (if_then e a) n f h x lo hi = ⊎_elim (λ q. (_, rw q at h.0)) (λ q. each_line P a (suc n) f h.1 x q (omega arith)) (first_or n x lo)
each_line P (if_else e a b) n f h x lo hi =
    ⊎_elim (λ q. (_, rw q at h.0))
    (λ q. ⊎_elim (λ v. each_line P a (suc n) f h.1 x q v) (λ v. each_line P b (suc n + size a) f h.2 x v (omega arith)) (below_or x (suc n + size a)))
    (first_or n x lo)
each_line P (while e b) n f h x lo hi = ⊎_elim (λ q. (_, rw q at h.0)) (λ q. each_line P b (suc n) n h.1 x q (omega arith)) (first_or n x lo)
each_line P (seq a b) n f h x lo hi =
    ⊎_elim (λ v. each_line P a n (n + size a) h.0 x lo v) (λ v. each_line P b (n + size a) f h.1 x v (omega arith)) (below_or x (n + size a))

-- The lines of a statement, and of a body.

pub lines_length_lem : (s : Stmt) (n f : ℕ) → length (lines s n f) ≡ size s
unfolding lines size
lines_length_lem (act a) n f = refl
lines_length_lem wait n f = refl
lines_length_lem (if_then e a) n f = ap suc (lines_length_lem a (suc n) f)
lines_length_lem (if_else e a b) n f = ap suc (simp (length-append, lines_length_lem a (suc n) f, lines_length_lem b (suc n + size a) f))
lines_length_lem (while e b) n f = ap suc (lines_length_lem b (suc n) _)
lines_length_lem (seq a b) n f = simp (length-append, lines_length_lem a n (n + size a), lines_length_lem b (n + size a) f)

lines_at : (t : List Line) (s : Stmt) (n f : ℕ) → Segment t n (lines s n f) → Each (λ x l. line t x ≡ l) s n f
unfolding lines Each
lines_at t (act a) n f h = segment_head t n _ _ _ h
lines_at t wait n f h = segment_head t n _ _ _ h
lines_at t (if_then e a) n f h = (segment_head t n _ _ _ h, lines_at t a (suc n) f (segment_tail t n _ _ h))
lines_at t (if_else e a b) n f h = (
  segment_head t n _ _ _ h,
  lines_at t a (suc n) f (segment_left t (suc n) _ _ (segment_tail t n _ _ h)),
  lines_at t b (suc n + size a) f (segment_right t (suc n) (size a) (lines a (suc n) f) _ (lines_length_lem a (suc n) f) (segment_tail t n _ _ h)),
)
lines_at t (while e b) n f h = (segment_head t n _ _ _ h, lines_at t b (suc n) n (segment_tail t n _ _ h))
lines_at t (seq a b) n f h = (
  lines_at t a n (n + size a) (segment_left t n _ _ h),
  lines_at t b (n + size a) f (segment_right t n (size a) (lines a n (n + size a)) _ (lines_length_lem a n (n + size a)) h),
)

-- "One .. line per statement"
pub lines_of_length : (s : Stmt) → length (lines_of s) ≡ size s
unfolding lines_of
lines_of_length s = lines_length_lem s 0 0

-- ".. in text order, from 0": the line of a statement stands at the statement's number
pub lines_of_each : (s : Stmt) → Each (λ x l. line (lines_of s) x ≡ l) s 0 0
unfolding lines_of
lines_of_each s = lines_at (lines s 0 0) s 0 0 (segment_whole _)

-- what holds of each line of a body holds of the line with the number x
pub lines_of_line : (P : ℕ → Line → Type 0) (s : Stmt) → Each P s 0 0 → (x : ℕ) → x < size s → P x (line (lines_of s) x)
lines_of_line P s h x lt =
    let p = each_line (λ y l. (line (lines_of s) y ≡ l) × P y l) s 0 0
    (each_both {R = λ y l. (line (lines_of s) y ≡ l) × P y l} (λ y l p q. (p, q)) s 0 0 (lines_of_each s) h) x (omega arith) (omega arith) in
    rw p.1.0 p.1.1
