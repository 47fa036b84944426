-- Every reach is below the number of lines: from a line that reaches as far as k, lines that reach k, k - 1 down to 0 can be followed; they are
-- distinct. Assumes nothing.
use Prim.Native.Nat.{ℕ, zero, suc, ◌≤◌, ◌<◌}
use native.Mathlib.Omega.{arith}
use mathlib.Core.Path.{◌≡◌, refl, sym, ap, ◌∙◌}
use mathlib.Core.Logic.{⊎_elim}
use mathlib.Core.List.Memᴰ
use mathlib.Core.List.{List, [], ◌∷◌, Memᴰ}
use lib.ListN.{length}
use Rattle.spec_design.specs.Statement.{Stmt, size, C, class_of, LoopsC}
use Rattle.spec_format.specs.Lines.{Line, waits, acts, branches, lines_of, line, reach, reach_of, reaches_of}
use Rattle.spec_semantics.specs.Way.{Distinct}
use Rattle.spec_simulation.specs.Ranked.{Followers, Ranked}
use Rattle.spec_semantics.proofs.Distinct.{distinct_length}
use Rattle.spec_simulation.proofs.Lines.{below_or, lines_of_length}
use Rattle.spec_simulation.proofs.Reaches.{lines_of_ranked}

-- suc k distinct lines among n, none of which reaches farther than k
record Chain (r : List ℕ) (n k : ℕ) : Type 0 where
  list : List ℕ
  long : length list ≡ suc k
  distinct : Distinct list
  inside : (y : ℕ) → Memᴰ y list → (y < n) × (reach r y ≤ k)

chain_cons : (r : List ℕ) (n k x : ℕ) → reach r x ≡ suc k → x < n → Chain r n k → Chain r n (suc k)
chain_cons r n k x e h c =
    record {
      list = x ∷ c.list;
      long = ap suc c.long;
      distinct = unfold Distinct in (λ m. let q = c.inside x m in omega arith, c.distinct);
      inside = λ y m. ⊎_elim (λ q. rw q (omega arith)) (λ m'. let q = c.inside y m' in omega arith) (Memᴰ.cases_cons m);
    }

chain_next : (r : List ℕ) (n k x : ℕ) (l : Line) → reach_of r l ≡ suc k → Followers n l → reach r x ≡ suc k → x < n
    → ((y : ℕ) → reach r y ≡ k → y < n → Chain r n k) → Chain r n (suc k)
chain_next r n k x (waits f) e c h lt ih = absurd (omega arith)
chain_next r n k x (acts a f) e c h lt ih = chain_cons r n k x h lt (ih f (omega arith) c)
chain_next r n k x (branches q f g) e c h lt ih =
    chain_cons r n k x h lt
    (⊎_elim (λ v. ih g (omega arith) c.1) (λ v. ih f (omega arith) c.0) (below_or (reach r f) (reach r g)))

module _ (t : List Line) (r : List ℕ) (ranked : Ranked t r) where
  chain : (k x : ℕ) → reach r x ≡ k → x < length t → Chain r (length t) k
  chain zero x e h =
      record {
        list = x ∷ [];
        long = refl;
        distinct = unfold Distinct in (Memᴰ.not-nil, tt);
        inside = λ y m. ⊎_elim (λ q. rw q (omega arith)) (λ m'. absurd (Memᴰ.not-nil m')) (Memᴰ.cases_cons m);
      }
  chain (suc k) x e h =
      chain_next r (length t) k x (line t x) (sym (ranked.reaches x h) ∙ e) (ranked.followers x h) e h (λ y q lt. chain k y q lt)

  -- Every reach is below the number of lines.
  pub reach_below : (x : ℕ) → x < length t → reach r x < length t
  reach_below x h =
      let c = chain (reach r x) x refl h in
      let q = distinct_length (length t) c.list c.distinct (λ y m. (c.inside y m).0) in
      omega (arith, c.long)

-- So of a body, whose lines are as many as its statements.
pub reaches_of_below : (s : Stmt) → class_of s ≡ C → LoopsC s → (x : ℕ) → x < size s → reach (reaches_of s) x < size s
reaches_of_below s c g = rw lines_of_length at (reach_below (lines_of s) (reaches_of s) (lines_of_ranked s c g))
