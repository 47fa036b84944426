-- The longest run from a place: what one byte more or less says of its end. Assumes nothing.
use mathlib.Core.Path.{◌≡◌, refl, sym, ◌∙◌}
use mathlib.Core.Bool.{Bool, true, false}
use mathlib.Core.List.{List, [], ◌∷◌}
use Prim.Native.Nat.{ℕ, suc, ◌+◌, ◌≤◌, ◌<◌, max}
use native.Mathlib.Omega.{arith}
use native.Mathlib.Numerals.{add-one}
use native.Mathlib.Decide.{dec_le}
use lib.ListN.{length, get_or, drop, drop_of_length-le, length-drop}
use lib.Seq.{drop-cons}
use Rattle.spec_language.specs.Lexer.{run}
use Rattle.front_token.specs.Places.{end_of_run}

run_pass_cons : (p : ℕ → Bool) (b : ℕ) (l : List ℕ) → p b ≡ true → length (run p (b ∷ l)) ≡ suc (length (run p l))
unfolding run
run_pass_cons p b l e = rw e

run_stop_cons : (p : ℕ → Bool) (b : ℕ) (l : List ℕ) → p b ≡ false → length (run p (b ∷ l)) ≡ 0
unfolding run
run_stop_cons p b l e = rw e

run_nil : (p : ℕ → Bool) → length (run p []) ≡ 0
unfolding run
run_nil p = refl

run_short : (p : ℕ → Bool) (l : List ℕ) → length (run p l) ≤ length l
unfolding run
run_short p [] = omega arith
run_short p (b ∷ l) = go (p b) (run_short p l)
  where
    go : (q : Bool) → length (run p l) ≤ length l → length (mathlib.Core.Bool.cond q (b ∷ run p l) []) ≤ suc (length l)
    go true h = omega arith
    go false h = omega arith

module _ (p : ℕ → Bool) (text : List ℕ) (i : ℕ) where
  pub run_pass : i < length text → p (get_or text i 0) ≡ true → end_of_run p text (i + 1) ≡ end_of_run p text i
  run_pass h e =
      let z = run_pass_cons p (get_or text i 0) (drop (suc i) text) e in
      rw (drop-cons text i 0 h, add-one i) (omega arith)

  pub run_stop : i < length text → p (get_or text i 0) ≡ false → end_of_run p text i ≡ i
  run_stop h e = let z = run_stop_cons p (get_or text i 0) (drop (suc i) text) e in rw (drop-cons text i 0 h) (omega arith)

  pub run_end : length text ≤ i → end_of_run p text i ≡ i
  run_end h = let z = run_nil p in rw (drop_of_length-le text h) (omega arith)

  pub run_within : i ≤ length text → end_of_run p text i ≤ length text
  run_within h = let z = run_short p (drop i text) in let l = length-drop i text in omega arith

-- past the last byte, or past the text from the start
pub run_over : (p : ℕ → Bool) (text : List ℕ) (at i : ℕ) → length text ≤ i → (at ≤ length text → i ≤ length text)
    → end_of_run p text i ≡ end_of_run p text at → max at (length text) ≡ end_of_run p text at
run_over p text at i h b e = go (dec_le at (length text))
  where
    go : Dec (at ≤ length text) → max at (length text) ≡ end_of_run p text at
    go (yes l) = let k = b l in let n : max at (length text) ≡ i = omega arith in n ∙ (sym (run_end p text i h) ∙ e)
    go (no n) = let m : max at (length text) ≡ at = omega arith in m ∙ sym (run_end p text at (omega arith))
