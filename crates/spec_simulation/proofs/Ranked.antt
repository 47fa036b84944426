-- The equation for reaches has one solution: two solutions agree on all lines that reach less far than k, by induction on k. Assumes nothing.
use Prim.Native.Nat.{ℕ, zero, suc, ◌≤◌, ◌<◌}
use native.Mathlib.Omega.{arith}
use mathlib.Core.Path.{◌≡◌, refl, sym, ap, ◌∙◌}
use mathlib.Core.Logic.{⊎_elim}
use mathlib.Core.List.{List}
use lib.ListN.{length, get_or-eq_default}
use Rattle.spec_format.specs.Lines.{Line, waits, acts, branches, line, reach, reach_of}
use Rattle.spec_simulation.specs.Ranked.{Followers, Ranked}
use Rattle.spec_simulation.proofs.Lines.{below_or}

-- the followers of a line that is no wait reach less far
abbrev pub Falls : List ℕ → ℕ → Line → Type 0
Falls r x (waits f) = Unit {0}
Falls r x (acts a f) = reach r f < reach r x
Falls r x (branches e f g) = (reach r f < reach r x) × (reach r g < reach r x)

pub falls : (r : List ℕ) (x : ℕ) (l : Line) → reach r x ≡ reach_of r l → Falls r x l
falls r x (waits f) e = tt
falls r x (acts a f) e = omega arith
falls r x (branches c f g) e = omega arith

-- The equation holds past the last line too: there `line` is a wait and `reach` is 0.
pub ranked_equation : (t : List Line) (r : List ℕ) → Ranked t r → (x : ℕ) → reach r x ≡ reach_of r (line t x)
ranked_equation t r h x = ⊎_elim (h.reaches x) past (below_or x (length t))
  where
    past : length t ≤ x → reach r x ≡ reach_of r (line t x)
    past le = get_or-eq_default r 0 (rw h.long le) ∙ ap (reach_of r) (sym (get_or-eq_default t (waits 0) le))

-- q has the reaches r of all lines that reach less far than k
unfoldable pub Known : List Line → List ℕ → List ℕ → ℕ → Type 0
Known t r q k = (x : ℕ) → x < length t → reach r x < k → reach q x ≡ reach r x

pub known_zero : (t : List Line) (r q : List ℕ) → Known t r q 0
unfolding Known
known_zero t r q x lt le = absurd (omega arith)

reach_of_known : (t : List Line) (r q : List ℕ) (k : ℕ) → Known t r q k → (l : Line) → Followers (length t) l → reach_of r l ≤ k → reach_of q l ≡ reach_of r l
unfolding Known
reach_of_known t r q k h (waits f) c le = refl
reach_of_known t r q k h (acts a f) c le = ap suc (h f c (omega arith))
reach_of_known t r q k h (branches e f g) c le = rw (h f c.0 (omega arith), h g c.1 (omega arith))

-- from the followers' reaches a line that reaches no farther than k gets its own
pub known_reach_of : (t : List Line) (r q : List ℕ) (k : ℕ) → Ranked t r → Known t r q k → (x : ℕ) → x < length t → reach r x ≤ k
    → reach_of q (line t x) ≡ reach r x
known_reach_of t r q k w h x lt le = reach_of_known t r q k h (line t x) (w.followers x lt) (rw (w.reaches x lt) at le) ∙ sym (w.reaches x lt)

-- Whatever satisfies the equation at every line has the reaches r at every line.
pub ranked_once : (t : List Line) (r q : List ℕ) → Ranked t r → ((x : ℕ) → x < length t → reach q x ≡ reach_of q (line t x))
    → (x : ℕ) → x < length t → reach q x ≡ reach r x
unfolding Known
ranked_once t r q w e x lt = go (suc (reach r x)) x lt (omega arith)
  where
    go : (k : ℕ) → Known t r q k
    go zero = known_zero t r q
    go (suc k) = λ y l le. e y l ∙ known_reach_of t r q k w (go k) y l (omega arith)
