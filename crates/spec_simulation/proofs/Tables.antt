-- A good table is ranked, and a walk over its lines keeps values of their types: line by line, then by induction on the count of lines.
-- Assumes nothing.
use Prim.Native.Nat.{ℕ, zero, suc, ◌<◌}
use native.Mathlib.Omega.{arith}
use mathlib.Core.Path.{◌≡◌, refl, ap}
use mathlib.Core.Bool.{true}
use mathlib.Core.List.{List, [], ◌∷◌}
use lib.ListN.{length, get_or}
use lib.IntN.{ℤ}
use lib.Dec.{ltb, eqb}
use borrow.Author.Tests.{ltb-true}
use Rattle.spec_semantics.specs.Equations.{Memory, Run, Result, passed, reached, refused, log}
use Rattle.spec_semantics.specs.Values.{Values}
use Rattle.spec_semantics.proofs.Basic.{eqb-true, and_left, and_right}
use Rattle.spec_semantics.proofs.WellTyped.{perform_typed}
use Rattle.spec_format.specs.Lines.{Line, waits, acts, branches, line, reach, reach_of}
use Rattle.spec_format.specs.Walk.{walk}
use Rattle.spec_format.specs.Signature.{Signature}
use Rattle.spec_format.specs.Image.{Table}
use Rattle.spec_format.specs.Good.{fits_line, within, good_line, GoodLines, GoodTable}
use Rattle.spec_simulation.specs.Ranked.{Followers, Ranked}
use Rattle.spec_simulation.proofs.Steps.{Next, next_inside, step_holds}
use Rattle.spec_simulation.specs.Outcome.{Typed}

-- Good lines, one by one.

lines_good : (σ : Signature) (n : ℕ) (rs : List ℕ) (ls : List Line) (qs : List ℕ) → GoodLines σ n rs ls qs
    → (x : ℕ) → x < length ls → good_line σ n rs (get_or qs x 0) (get_or ls x (waits 0)) ≡ true
unfolding GoodLines
lines_good σ n rs [] [] g x b = absurd (omega arith)
lines_good σ n rs [] (q ∷ qs) g x b = absurd g
lines_good σ n rs (l ∷ ls) [] g x b = absurd g
lines_good σ n rs (l ∷ ls) (q ∷ qs) g zero b = g.0
lines_good σ n rs (l ∷ ls) (q ∷ qs) g (suc x) b = lines_good σ n rs ls qs g.2 x (omega arith)

lines_long : (σ : Signature) (n : ℕ) (rs : List ℕ) (ls : List Line) (qs : List ℕ) → GoodLines σ n rs ls qs → length qs ≡ length ls
unfolding GoodLines
lines_long σ n rs [] [] g = refl
lines_long σ n rs [] (q ∷ qs) g = absurd g
lines_long σ n rs (l ∷ ls) [] g = absurd g
lines_long σ n rs (l ∷ ls) (q ∷ qs) g = ap suc (lines_long σ n rs ls qs g.2)

within_followers : (n : ℕ) (l : Line) → within n l ≡ true → Followers n l
within_followers n (waits f) h = ltb-true f n h
within_followers n (acts a f) h = ltb-true f n h
within_followers n (branches e f g) h = (ltb-true f n (and_left (ltb f n) _ h), ltb-true g n (and_right (ltb f n) _ h))

-- what a good line is
good_parts : (σ : Signature) (n : ℕ) (rs : List ℕ) (q : ℕ) (l : Line) → good_line σ n rs q l ≡ true
    → Followers n l × (q ≡ reach_of rs l) × (fits_line σ l ≡ true)
unfolding good_line
good_parts σ n rs q l h =
    let r = and_right (within n l) _ h in
    (within_followers n l (and_left (within n l) _ h), eqb-true q (reach_of rs l) (and_left (eqb q (reach_of rs l)) _ r), and_right (eqb q (reach_of rs l)) _ r)

module _ (t : Table) (g : GoodTable t) where
  pub line_good : (x : ℕ) → x < length t.lines
      → Followers (length t.lines) (line t.lines x) × (reach t.reaches x ≡ reach_of t.reaches (line t.lines x))
      × (fits_line t.signature (line t.lines x) ≡ true)
  line_good x b =
      good_parts t.signature (length t.lines) t.reaches (reach t.reaches x) (line t.lines x)
      (lines_good t.signature (length t.lines) t.reaches t.lines t.reaches g.lines x b)

  -- The lines and reaches of a good table satisfy document 01's equation for reaches, and every follower is a line.
  pub good_ranked : Ranked t.lines t.reaches
  good_ranked =
      record {
        long = lines_long t.signature (length t.lines) t.reaches t.lines t.reaches g.lines;
        followers = λ x b. (line_good x b).0;
        reaches = λ x b. (line_good x b).1;
      }

-- Types.

module _ (σ : Signature) (i : List ℤ) (hi : Values σ.inputs i) where
  next_typed : (l : Line) → fits_line σ l ≡ true → (m m' : Memory) (z : ℕ) → Next l i m m' z → Typed σ m → Typed σ m'
  next_typed (waits f) h m m' z n w = absurd n
  next_typed (acts a f) h m m' z n w = perform_typed _ _ _ i hi a h m m' w n.0
  next_typed (branches e f g) h m m' z n w = rw n.0 at w

-- the memory of a walk that ends at a wait
abbrev pub TypedResult : Signature → Result → Type 0
TypedResult σ (passed τ) = Unit {0}
TypedResult σ (reached p τ) = Typed σ τ.memory
TypedResult σ (refused q x) = Unit {0}

module _ (t : Table) (g : GoodTable t) (i : List ℤ) (hi : Values t.signature.inputs i) where
  -- A walk over a good table's lines keeps outputs and variables in their types.
  pub walk_typed : (k x : ℕ) (σ : Run) → x < length t.lines → Typed t.signature σ.memory → TypedResult t.signature (walk t.lines i k x σ)
  unfolding walk log
  walk_typed zero x σ b w = tt
  walk_typed (suc k) x σ b w =
      let l = line_good t g x b in
      step_holds (TypedResult t.signature) (line t.lines x) x i σ _ (λ f e. w) (λ q o. tt)
      (λ z m n. walk_typed k z _ (next_inside (length t.lines) (line t.lines x) l.0 i _ m z n)
      (next_typed t.signature i hi (line t.lines x) l.2 _ m z n w))
