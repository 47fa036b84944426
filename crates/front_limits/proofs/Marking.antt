-- The loop that writes the flags: what is still to be written, from here on, makes the array that the whole loop makes. Assumes nothing.
use mathlib.Core.Path.{◌≡◌}
use mathlib.Core.List.{List}
use Prim.Native.Nat.{ℕ, suc, ◌+◌, ◌-◌, ◌≤◌, ◌<◌, min}
use native.Mathlib.Omega.{arith}
use native.Mathlib.Numerals.{add-one}
use lib.ListN.{set}
use lib.Seq.{sets}
use Rattle.front_limits.specs.Flags.{flag_at, flags_from, marked}

module _ (text kinds starts sizes long₀ : List ℕ) (n : ℕ) where
  -- before token i, of end tokens
  pub record Marks (end : ℕ) (long : List ℕ) (i : ℕ) : Type 0 where
    pub count : end ≡ min n 16384
    pub within : i ≤ end
    pub rest : sets long i (flags_from text kinds starts sizes i (end - i)) ≡ marked text kinds starts sizes n long₀

  pub mark_first : (end : ℕ) → end ≡ min n 16384 → Marks end long₀ 0
  unfolding marked
  mark_first end e = record { count = e; within = omega arith; rest = let z : end - 0 ≡ min n 16384 = omega arith in rw z }

  pub mark_again : {end i f : ℕ} {long : List ℕ} → Marks end long i → i < end → f ≡ flag_at text kinds starts sizes i → Marks end (set long i f) (i + 1)
  unfolding flags_from
  mark_again {end} {i} {f} {long} m h e =
      let z : end - i ≡ suc (end - (i + 1)) = omega arith in
      let w = m.within in
      record { count = m.count; within = omega arith; rest = rw (e, add-one i) (rw (z, add-one i) at m.rest) }

  pub mark_end : {end i : ℕ} {long : List ℕ} → Marks end long i → end ≤ i → long ≡ marked text kinds starts sizes n long₀
  unfolding flags_from
  mark_end {end} {i} {long} m h = let z : end - i ≡ 0 = omega arith in rw z at m.rest
