-- Document 01's number, place and values for each case of an answer: what every contract says of an answer, it says through these. Assumes nothing.
use Rattle.std.specs.Prelude.{Bool, true, false, cond, ℕ, eqb, Result, Ok, Err}
use Rattle.base_codes.specs.Refusal as F
use Rattle.base_answers.specs.declared.Refusal.{Refusal}
use Rattle.base_answers.specs.declared.Refusal.TheVariants.{TextTooLong, NoToken, NoSentence, LimitPassed, WrongName, WrongType, NoValue, WrongClock, WrongClass, BufferTooShort, BadSections, BadSignature, BadLine, BadRow, BadState, OutOfRange, BadLengths, ZeroDivisor}
use Rattle.base_answers.specs.declared.Counts.{Counts}

-- the column "No" of the table
abbrev pub number_of : Refusal → ℕ
number_of TextTooLong = 1
number_of (NoToken p) = 2
number_of (NoSentence p) = 3
number_of (LimitPassed p) = 4
number_of (WrongName p) = 5
number_of (WrongType p) = 6
number_of (NoValue p) = 7
number_of (WrongClock p) = 8
number_of (WrongClass p) = 9
number_of (BufferTooShort p) = 10
number_of BadSections = 11
number_of BadSignature = 12
number_of (BadLine p) = 13
number_of (BadRow p) = 14
number_of BadState = 15
number_of (OutOfRange p) = 16
number_of BadLengths = 17
number_of (ZeroDivisor p) = 18

-- the column "Place"
abbrev pub place_of : Refusal → ℕ
place_of TextTooLong = 0
place_of (NoToken p) = p
place_of (NoSentence p) = p
place_of (LimitPassed p) = p
place_of (WrongName p) = p
place_of (WrongType p) = p
place_of (NoValue p) = p
place_of (WrongClock p) = p
place_of (WrongClass p) = p
place_of (BufferTooShort p) = p
place_of BadSections = 0
place_of BadSignature = 0
place_of (BadLine p) = p
place_of (BadRow p) = p
place_of BadState = 0
place_of (OutOfRange p) = p
place_of BadLengths = 0
place_of (ZeroDivisor p) = p

-- the row of an operator refused on a line: 18 or 16, the two numbers an operator is refused by (`operator_told`)
abbrev pub operator_refusal : (number line : ℕ) → Refusal
operator_refusal number line = cond (eqb number F.ZERO_DIVISOR) (ZeroDivisor line) (OutOfRange line)

-- an answer in document 01's terms: done, with what is counted or lent; or turned back, by the number and the place of a row of the table
pub data Told (A : Type 0) : Type 0 where
  done : A → Told A
  refusal : (number place : ℕ) → Told A

-- whether it is done
abbrev pub is_done : {A : Type 0} → Told A → Bool
is_done (done x) = true
is_done (refusal number place) = false

-- what is counted; of a refused call, nothing
abbrev pub count_of : Told ℕ → ℕ
count_of (done n) = n
count_of (refusal number place) = 0

-- a refused call, by the columns "No" and "Place"
abbrev pub refused_by : {A : Type 0} → Refusal → Told A
refused_by r = refusal (number_of r) (place_of r)

-- the answer of a call: of a compile the number of image bytes written, of an image opened its sections; a fresh state asked for, and many rows in one call, are done
-- or turned back as a whole
abbrev pub told : {A : Type 0} → Result A Refusal → Told A
told (Ok x) = done x
told (Err r) = refused_by r

-- where something of what is done is counted
abbrev pub counted : {A : Type 0} → (A → ℕ) → Told A → Told ℕ
counted f (done x) = done (f x)
counted f (refusal q k) = refusal q k

-- a cycle: "the number of lines performed, the wait it ends on included"
abbrev pub cycle_told : Result Counts Refusal → Told ℕ
cycle_told c = counted (λ n. n.lines) (told c)

-- how many lines a cycle performed: "A refused cycle answers 0 lines."
abbrev pub lines_of : Result Counts Refusal → ℕ
lines_of c = count_of (cycle_told c)
