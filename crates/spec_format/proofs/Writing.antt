-- What is written into a buffer, by cases on whether it fits. Assumes nothing.
use mathlib.Core.Path.{◌≡◌, refl, sym}
use mathlib.Core.Bool.{Bool, true, false, cond}
use mathlib.Core.List.{List, ◌++◌}
use Prim.Native.Nat.{ℕ, ◌≤◌, ◌<◌}
use lib.ListN.{length, take, drop}
use lib.Seq.{take_at}
use lib.Dec.{leb}
use borrow.Author.Tests.{leb-true, leb-false, le-leb, lt-leb}
use Rattle.base_answers.specs.Answers.{done}
use Rattle.base_answers.proofs.Told.{done_refused}
use Rattle.spec_format.specs.Writing.{Writing, not_written, written_into}

module _ (i b : List ℕ) where
  -- the bytes, and behind them what stood there
  abbrev pub whole : Writing
  whole = record { answer = done (length i); buffer = i ++ drop (length i) b }

  pub fits_written : length i ≤ length b → written_into i b ≡ whole
  unfolding written_into
  fits_written h = rw (le-leb (length i) (length b) h)

  pub short_written : length b < length i → written_into i b ≡ not_written 10 (length i) b
  unfolding written_into
  short_written h = rw (lt-leb (length i) (length b) h)

  pub written_cases : (P : Writing → Type 0) → (length i ≤ length b → P whole) → (length b < length i → P (not_written 10 (length i) b)) → P (written_into i b)
  unfolding written_into
  written_cases P f g = go (leb (length i) (length b)) refl
    where
      go : (q : Bool) → leb (length i) (length b) ≡ q → P (cond q whole (not_written 10 (length i) b))
      go true e = f (leb-true (length i) (length b) e)
      go false e = g (leb-false (length i) (length b) e)

  -- of a writer that answers n bytes: these are the bytes, at the buffer's start
  pub wrote_into : (n : ℕ) → (written_into i b).answer ≡ done n → (length i ≡ n) × (take n (written_into i b).buffer ≡ i)
  wrote_into n =
      written_cases (λ (w : Writing). w.answer ≡ done n → (length i ≡ n) × (take n w.buffer ≡ i))
      (λ h e. let m : length i ≡ n = cc in (m, take_at i (drop (length i) b) n m)) (λ h e. done_refused (sym e))
