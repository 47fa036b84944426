-- Many rows in one call (document 02, slip 1), on tally's image and on that of a text with four inputs and two outputs, by computation. Assumes nothing.
use mathlib.Core.Path.{◌≡◌, refl}
use mathlib.Core.List.{List, [], ◌∷◌, ◌++◌}
use Prim.Native.Nat.{ℕ}
use lib.ListN.{replicate, take}
use lib.IntN.{ℤ, pos, negsuc}
use Rattle.base_answers.specs.Answers.{Told, done, refusal}
use Rattle.base_answers.specs.declared.State.{State}
use Rattle.spec_language.proofs.Examples.{stmts}
use Rattle.spec_format.specs.Batch.{Batch, batch_of, batch_answer}
use Rattle.spec_format.specs.Batch as B
use Rattle.spec_interface.specs.CInterface.{batch_in_c}
use Rattle.spec_interface.specs.CInterface as C
use Rattle.spec_examples.proofs.Images.{opened, state_at, tally_image}
use Rattle.spec_examples.proofs.Nine.{image_of}

-- what a call leaves: its own answer, the state, the output rows and the three numbers of each row
abbrev leaves : Batch → Told (Unit {0}) × State × List ℤ × List ℕ
leaves b = (batch_answer b.answer, b.state, b.rows, b.answers)

-- opens all that a call of many rows computes by
unfoldable batch_computed : List ℕ → State → ℕ → List ℤ → List ℤ → List ℕ → Batch
unfolding opened B.calls_in B.rows_left B.answers_left B.state_left B.due B.batch_of C.slots_left image_of
batch_computed b s n is os ns = batch_of b s n is os ns

abbrev first : State
first = state_at 512 (pos 0) (pos 0)

-- P1's six rows in one call: the fifth is refused by 16 at line 1, keeps its part of the outputs, and the sixth goes on from the state before it
pub six : leaves (batch_of tally_image first 6 (pos 7 ∷ pos 7 ∷ pos 1 ∷ negsuc 4 ∷ negsuc 2147483647 ∷ pos 20 ∷ []) (replicate 6 (pos 99)) (replicate 18 77))
    ≡ (
      done tt,
      state_at 2 (pos 14) (pos 15),
      pos 0 ∷ pos 0 ∷ pos 14 ∷ pos 14 ∷ pos 99 ∷ pos 14 ∷ [],
      0 ∷ 0 ∷ 3 ∷ 0 ∷ 0 ∷ 3 ∷ 0 ∷ 0 ∷ 4 ∷ 0 ∷ 0 ∷ 3 ∷ 16 ∷ 1 ∷ 0 ∷ 0 ∷ 0 ∷ 3 ∷ [],
    )
unfolding batch_computed
six = refl

-- 17: "an input, output or answer length that is not the count's due, place 0 .. writing nothing". Count 2 with one input value, one output, five numbers,
-- and with one of each too many
abbrev away : ℕ → ℕ → List ℤ → List ℕ → Told (Unit {0}) × State × List ℤ × List ℕ
away q k os ns = (refusal q k, first, os, ns)

pub not_due : leaves (batch_of tally_image first 2 (pos 7 ∷ []) (replicate 2 (pos 99)) (replicate 6 77))
    ∷ leaves (batch_of tally_image first 2 (pos 7 ∷ pos 7 ∷ []) (replicate 1 (pos 99)) (replicate 6 77))
    ∷ leaves (batch_of tally_image first 2 (pos 7 ∷ pos 7 ∷ []) (replicate 2 (pos 99)) (replicate 5 77))
    ∷ leaves (batch_of tally_image first 1 (pos 7 ∷ pos 7 ∷ []) (replicate 2 (pos 99)) (replicate 6 77))
    ∷ []
    ≡ away 17 0 (replicate 2 (pos 99)) (replicate 6 77)
    ∷ away 17 0 (replicate 1 (pos 99)) (replicate 6 77)
    ∷ away 17 0 (replicate 2 (pos 99)) (replicate 5 77)
    ∷ away 17 0 (replicate 2 (pos 99)) (replicate 6 77)
    ∷ []
unfolding batch_computed
not_due = refl

-- a count of 0 is due nothing, and changes nothing
pub nothing : leaves (batch_of tally_image first 0 [] [] []) ≡ (done tt, first, [], [])
unfolding batch_computed
nothing = refl

-- "after 13": an image that is short of a byte is 11, whatever the lengths are, and also for a count of 0
pub closed : leaves (batch_of (take 133 tally_image) first 0 [] [] []) ∷ leaves (batch_of (take 133 tally_image) first 2 (pos 7 ∷ []) [] []) ∷ []
    ≡ away 11 0 [] [] ∷ away 11 0 [] [] ∷ []
unfolding batch_computed
closed = refl

-- "before 14": a value outside its type is 17 where a length is not due
pub before_14 : leaves (batch_of tally_image first 1 (pos 2147483648 ∷ []) (replicate 1 (pos 99)) (replicate 2 77)) ≡ away 17 0 (replicate 1 (pos 99))
    (replicate 2 77)
unfolding batch_computed
before_14 = refl

-- 15 is judged for every row, after 14: a state at line 1, which is no wait. Nothing moves
pub bad_state : leaves (batch_of tally_image (state_at 1 (pos 0) (pos 0)) 2 (pos 1 ∷ pos 2147483648 ∷ []) (replicate 2 (pos 99)) (replicate 6 77))
    ≡ (done tt, state_at 1 (pos 0) (pos 0), pos 99 ∷ pos 99 ∷ [], 15 ∷ 0 ∷ 0 ∷ 14 ∷ 0 ∷ 0 ∷ [])
unfolding batch_computed
bad_state = refl

-- four inputs and two outputs: each row has its own four and its own two. The second row's b is no std_logic value: 14 at its index in its own row
abbrev wide : List ℕ
wide = image_of (stmts "s := s + d; o <= s; q <= a;")

abbrev wide_state : ℕ → ℤ → ℤ → ℤ → State
wide_state p o q s = record { place = p; outputs = o ∷ q ∷ replicate 14 (pos 0); variables = s ∷ pos 0 ∷ pos 1 ∷ replicate 29 (pos 0) }

pub own_parts : leaves
    (batch_of wide (wide_state 512 (pos 0) (pos 0) (pos 0)) 3
    (pos 1 ∷ pos 0 ∷ pos 0 ∷ pos 5 ∷ pos 1 ∷ pos 2 ∷ pos 0 ∷ pos 6 ∷ pos 0 ∷ pos 1 ∷ pos 1 ∷ pos 7 ∷ [])
    (pos 90 ∷ pos 91 ∷ pos 92 ∷ pos 93 ∷ pos 94 ∷ pos 95 ∷ []) (replicate 9 77))
    ≡ (done tt, wide_state 3 (pos 12) (pos 0) (pos 12), pos 5 ∷ pos 1 ∷ pos 92 ∷ pos 93 ∷ pos 12 ∷ pos 0 ∷ [], 0 ∷ 0 ∷ 4 ∷ 14 ∷ 1 ∷ 0 ∷ 0 ∷ 0 ∷ 4 ∷ [])
unfolding batch_computed
own_parts = refl

-- lengths that are due with inputs and outputs exchanged
pub exchanged : leaves (batch_of wide (wide_state 512 (pos 0) (pos 0) (pos 0)) 1 (replicate 2 (pos 0)) (replicate 4 (pos 9)) (replicate 3 7))
    ≡ (refusal 17 0, wide_state 512 (pos 0) (pos 0) (pos 0), replicate 4 (pos 9), replicate 3 7)
unfolding batch_computed
exchanged = refl

-- in C: where every row is refused, the 49 numbers are as they came, also a place that no state record holds; a row that is performed stores them
abbrev slots : ℤ → List ℤ
slots p = p ∷ replicate 48 (pos 0)

pub refused_in_c : batch_in_c tally_image (slots (pos 70000)) 2 (pos 1 ∷ pos 2147483648 ∷ []) (replicate 2 (pos 99)) (replicate 6 77)
    ≡ record { answer = 0 ∷ 0 ∷ 0 ∷ []; slots = slots (pos 70000); rows = replicate 2 (pos 99); answers = 15 ∷ 0 ∷ 0 ∷ 14 ∷ 0 ∷ 0 ∷ [] }
unfolding batch_computed
refused_in_c = refl

pub performed_in_c : batch_in_c tally_image (slots (pos 512)) 2 (pos 7 ∷ negsuc 2147483648 ∷ []) (replicate 2 (pos 99)) (replicate 6 77)
    ≡ record {
      answer = 0 ∷ 0 ∷ 0 ∷ [];
      slots = pos 2 ∷ replicate 16
          (pos 0) ++ (pos 7 ∷ replicate 31 (pos 0));
      rows = pos 0 ∷ pos 99 ∷ [];
      answers = 0 ∷ 0 ∷ 3 ∷ 14 ∷ 0 ∷ 0 ∷ [];
    }
unfolding batch_computed
performed_in_c = refl

pub away_in_c : batch_in_c tally_image (slots (pos 70000)) 2 (pos 7 ∷ []) (replicate 2 (pos 99)) (replicate 6 77)
    ≡ record { answer = 17 ∷ 0 ∷ 0 ∷ []; slots = slots (pos 70000); rows = replicate 2 (pos 99); answers = replicate 6 77 }
unfolding batch_computed
away_in_c = refl
