-- The loop that looks for the first wait: the rest from here has it where the whole has it. Assumes nothing.
use mathlib.Core.Path.{◌≡◌, sym, ◌∙◌, ap}
use mathlib.Core.List.{List}
use Prim.Native.Nat.{ℕ, zero, suc, ◌+◌, ◌*◌, ◌-◌, ◌≤◌, ◌<◌}
use native.Mathlib.Omega.{arith}
use borrow.Author.Tests.{eq-eqb, ne_eqb}
use lib.Dec.{eqb}
use lib.ListN.{get_or}
use Rattle.spec_grammar.specs.Reader.{choose}
use Rattle.front_clock.specs.Positions.{wait_from}

pub record Waiting (rows : List ℕ) (n j : ℕ) : Type 0 where
  pub inside : j ≤ n
  pub rest : wait_from rows j (n - j) ≡ wait_from rows 0 n

wait_step : (rows : List ℕ) (j c : ℕ) → 0 < c → wait_from rows j c
    ≡ choose (eqb (get_or rows (6 * j) 0) 0) (get_or rows (6 * j + 1) 0) (wait_from rows (j + 1) (c - 1))
unfolding wait_from
wait_step rows j zero h = omega arith
wait_step rows j (suc c) h = let e : suc c - 1 ≡ c = omega arith in rw e

pub waiting_first : (rows : List ℕ) (n : ℕ) → Waiting rows n 0
waiting_first rows n = record { inside = omega arith; rest = ap (wait_from rows 0) (omega arith) }

pub waiting_found : (rows : List ℕ) (n j : ℕ) → j < n → get_or rows (6 * j) 0 ≡ 0 → Waiting rows n j → get_or rows (6 * j + 1) 0 ≡ wait_from rows 0 n
waiting_found rows n j h e w =
    let s = wait_step rows j (n - j) (omega arith) in
    let z : wait_from rows j (n - j) ≡ get_or rows (6 * j + 1) 0 = s ∙ rw (eq-eqb (get_or rows (6 * j) 0) 0 e) in
    sym z ∙ w.rest

pub waiting_again : (rows : List ℕ) (n j : ℕ) → j < n → (get_or rows (6 * j) 0 ≡ 0 → ⊥) → Waiting rows n j → Waiting rows n (j + 1)
waiting_again rows n j h e w =
    let s = wait_step rows j (n - j) (omega arith) in
    let m : n - j - 1 ≡ n - (j + 1) = omega arith in
    let z : wait_from rows j (n - j) ≡ wait_from rows (j + 1) (n - j - 1) = s ∙ rw (ne_eqb (get_or rows (6 * j) 0) 0 e) in
    record { inside = omega arith; rest = ap (wait_from rows (j + 1)) (sym m) ∙ (sym z ∙ w.rest) }

pub waiting_stop : (rows : List ℕ) (n j : ℕ) → n ≤ j → Waiting rows n j → 16384 ≡ wait_from rows 0 n
unfolding wait_from
waiting_stop rows n j h w = let m : 0 ≡ n - j = omega arith in ap (wait_from rows j) m ∙ w.rest
