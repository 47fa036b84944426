-- The tests of the code are those of the definitions by position. Assumes nothing.
use mathlib.Core.Path.{◌≡◌, refl, sym, ◌∙◌, ap}
use mathlib.Core.Bool.{true, false}
use mathlib.Core.List.{List}
use Prim.Native.Nat.{ℕ, ◌≤◌, ◌<◌}
use borrow.Author.Tests.{lt-ltb, le-ltb}
use lib.Dec.{ltb}
use Rattle.std.specs.Prelude.{Option, None, Some}
use Rattle.front_offences.specs.Lowest.{lower}
use Rattle.front_layout.specs.Arrays.{number_in}
use Rattle.front_offences.proofs.Tokens.{picked, passed}
use Rattle.front_clock.specs.Positions.{wait_in, owner_in, is_clock_in, strays_in, reads_in, lowest_over}

-- the clock's number
module _ (rows : List ℕ) (s : ℕ) (owners : List ℕ) (n w : ℕ) (e : w ≡ wait_in rows s) where
  pub owner_there : (r : ℕ) → w < n → r ≡ number_in owners n w → r ≡ owner_in rows s owners n
  owner_there r h f = let z : wait_in rows s < n = rw e at h in picked _ _ _ r (lt-ltb (wait_in rows s) n z) (f ∙ ap (number_in owners n) e)

  pub owner_none : n ≤ w → 65 ≡ owner_in rows s owners n
  owner_none h = let z : n ≤ wait_in rows s = rw e at h in passed _ _ _ _ (le-ltb (wait_in rows s) n z) refl

-- the whole stage
module _ (rows : List ℕ) (s : ℕ) (codes indices : List ℕ) (k : ℕ) (places owners : List ℕ) (n : ℕ) (decls : List ℕ) (d w : ℕ) (e : w ≡ wait_in rows s) where
  pub lowest_none : n ≤ w → None ≡ lowest_over places n codes indices k rows s decls d owners
  unfolding lowest_over
  lowest_none h = let z : n ≤ wait_in rows s = rw e at h in passed _ _ _ _ (le-ltb (wait_in rows s) n z) refl

  module _ (h : w < n) (o : ℕ) (strays : Option ℕ) (f : o ≡ number_in owners n w) (g : strays ≡ strays_in rows s places owners n o) where
    there : ltb (wait_in rows s) n ≡ true
    there = let z : wait_in rows s < n = rw e at h in lt-ltb (wait_in rows s) n z

    own : o ≡ number_in owners n (wait_in rows s)
    own = f ∙ ap (number_in owners n) e

    all : strays ≡ strays_in rows s places owners n (number_in owners n (wait_in rows s))
    all = g ∙ ap (strays_in rows s places owners n) own

    pub lowest_reads : (reads r : Option ℕ) → true ≡ is_clock_in decls d o → reads ≡ reads_in codes indices k places owners n o → r ≡ lower strays reads
        → r ≡ lowest_over places n codes indices k rows s decls d owners
    unfolding lowest_over
    lowest_reads reads r c i j = picked _ _ _ r there
        (picked _ _ _ r (sym (c ∙ ap (is_clock_in decls d) own))
        (j ∙ (ap (λ (x : Option ℕ). lower x reads) all ∙ ap (lower _) (i ∙ ap (reads_in codes indices k places owners n) own))))

    pub lowest_first : (p : ℕ) (r : Option ℕ) → false ≡ is_clock_in decls d o → p ≡ number_in places n w → r ≡ lower (Some p) strays
        → r ≡ lowest_over places n codes indices k rows s decls d owners
    unfolding lowest_over
    lowest_first p r c i j =
        let q : Some p ≡ Some (number_in places n (wait_in rows s)) = ap Some (i ∙ ap (number_in places n) e) in
        picked _ _ _ r there (passed _ _ _ r (sym (c ∙ ap (is_clock_in decls d) own)) (j ∙ (ap (λ (x : Option ℕ). lower x strays) q ∙ ap (lower _) all)))
