-- The rows of a batch, run one after another in a loop: at every turn, what is written so far, and behind it what the rest from here leaves, is what all rows
-- leave. Assumes nothing.
use mathlib.Core.Path.{◌≡◌, refl, sym, ◌∙◌, ap}
use mathlib.Core.Bool.{Bool, true, false, ◌||◌}
use mathlib.Core.List.{List, ◌++◌, append_assoc, append-nil}
use Prim.Native.Nat.{ℕ, suc, ◌≤◌, ◌+◌}
use native.Mathlib.Omega.{arith}
use lib.ListN.{length, take, drop, length-append}
use lib.Seq.{take-length, length-take-le, drop-drop, take_at, drop_at}
use lib.IntN.{ℤ}
use borrow.Rule.Slice.PartMut.{put_mid}
use Rattle.base_answers.specs.declared.State.{State}
use Rattle.base_answers.specs.Answers.{Told, done, refusal, is_done}
use Rattle.base_answers.specs.Numbers.{numbers_of}
use Rattle.spec_semantics.specs.Calls.{Called}
use Rattle.spec_semantics.specs.Advances.{cycle_answer}
use Rattle.spec_format.specs.Cycle.{cycle_of, calls_of}
use Rattle.spec_format.specs.Batch.{calls_in, rows_left, answers_left, state_left, one_performed}

-- a part put back stands between what was before it and what comes after it
module _ {X : Type 0} (a k : ℕ) (xs ys : List X) (h : a + k ≤ length xs) (l : length ys ≡ k) where
  seam : length (take a xs ++ ys) ≡ a + k
  seam = let u : a ≤ length xs = omega arith in let z = length-take-le a xs u in length-append (take a xs) ys ∙ rw (z, l) refl

  apart : put_mid a k xs ys ≡ (take a xs ++ ys) ++ drop k (drop a xs)
  apart = sym (append_assoc (take a xs) ys (drop k (drop a xs)))

  put_before : take (a + k) (put_mid a k xs ys) ≡ take a xs ++ ys
  put_before = ap (take (a + k)) apart ∙ take_at (take a xs ++ ys) (drop k (drop a xs)) (a + k) seam

  put_after : drop (a + k) (put_mid a k xs ys) ≡ drop (a + k) xs
  put_after = ap (drop (a + k)) apart ∙ (drop_at (take a xs ++ ys) (drop k (drop a xs)) (a + k) seam ∙ drop-drop k a xs)

-- an answer has three numbers
pub three : (a : Told ℕ) → length (numbers_of a) ≡ 3
three (done n) = refl
three (refusal q k) = refl

or_assoc : (a b c : Bool) → ((a || b) || c) ≡ (a || (b || c))
or_assoc true b c = refl
or_assoc false b c = refl

module _ (b : List ℕ) (s : State) (n i o : ℕ) (is os : List ℤ) where
  -- what the m rows to come leave, from the state t, with inputs from r on and outputs from p on
  abbrev pub rest_of : ℕ → ℕ → ℕ → State → List ℤ → List Called
  rest_of m r p t now = calls_of b t (calls_in m i o (drop r is) (drop p now))

  -- what all rows leave
  abbrev pub all_of : List Called
  all_of = calls_of b s (calls_in n i o is os)

  -- m rows are to come, the next with the inputs from r on, the outputs from p on and the answers from w on; f: a row was performed
  pub record After (m r p w : ℕ) (f : Bool) (t : State) (now : List ℤ) (nums : List ℕ) : Type 0 where
    pub rows : take p now ++ rows_left (rest_of m r p t now) ≡ rows_left all_of
    pub answers : take w nums ++ answers_left (rest_of m r p t now) ≡ answers_left all_of
    pub state : state_left t (rest_of m r p t now) ≡ state_left s all_of
    pub performed : (f || one_performed (rest_of m r p t now)) ≡ one_performed all_of

  -- before the first row
  pub after_none : (ns : List ℕ) → After n 0 0 0 false s os ns
  after_none ns = record { rows = refl; answers = refl; state = refl; performed = refl }

  module _ (m r p w : ℕ) (f : Bool) (t : State) (now : List ℤ) (nums : List ℕ) (room : p + o ≤ length now) (room3 : w + 3 ≤ length nums) where
    -- the row that is next
    abbrev pub next : Called
    next = cycle_of b t (take i (drop r is)) (take o (drop p now))

    abbrev pub numbers : List ℕ
    numbers = numbers_of (cycle_answer next.answer)

    -- after it
    pub after_row : length next.row ≡ o → After (suc m) r p w f t now nums
        → After m (r + i) (p + o) (w + 3) (f || is_done (cycle_answer next.answer)) next.state (put_mid p o now next.row) (put_mid w 3 nums numbers)
    unfolding calls_in calls_of rows_left answers_left state_left one_performed
    after_row l a =
        let x = sym (drop-drop i r is) in
        let y = put_after p o now next.row room l ∙ sym (drop-drop o p now) in
        record {
          rows = rw (x, y, put_before p o now next.row room l) (append_assoc (take p now) next.row _ ∙ a.rows);
          answers = rw (x, y, put_before w 3 nums numbers room3 (three (cycle_answer next.answer))) (append_assoc (take w nums) numbers _ ∙ a.answers);
          state = rw (x, y) a.state;
          performed = rw (x, y) (or_assoc f (is_done (cycle_answer next.answer)) _ ∙ a.performed);
        }

  or_false : (f : Bool) → f ≡ (f || false)
  or_false true = refl
  or_false false = refl

  -- after the last
  pub after_all : (r : ℕ) (f : Bool) (t : State) (now : List ℤ) (nums : List ℕ) → After 0 r (length now) (length nums) f t now nums
      → (now ≡ rows_left all_of) × (nums ≡ answers_left all_of) × (t ≡ state_left s all_of) × (f ≡ one_performed all_of)
  unfolding calls_in calls_of rows_left answers_left state_left one_performed
  after_all r f t now nums a =
      (sym (append-nil _ ∙ take-length now) ∙ a.rows, sym (append-nil _ ∙ take-length nums) ∙ a.answers, a.state, or_false f ∙ a.performed)
