-- The numbers that a text is refused by. Assumes nothing.
use Prim.Native.Nat.{ℕ, ◌≤◌}
use mathlib.Core.List.{List}
use native.Mathlib.Omega.{arith}
use Rattle.spec_grammar.specs.Tree.{Text}
use Rattle.spec_language.specs.Names.{names}
use Rattle.spec_language.specs.Typing.{types}
use Rattle.spec_language.specs.Values.{values}
use Rattle.spec_language.specs.Clock.{clock}
use Rattle.spec_language.specs.Classes.{loops}
use Rattle.spec_language.specs.Rules.{table}
use Rattle.spec_language.specs.Validity.{First, here, there, Refuses, too_long, token_missing, no_sentence, past_limit, offends, OfText, to_9}
use Rattle.spec_language.proofs.Offences.{in_by}

-- the numbers of the stages
first_number : (t : Text) (n p : ℕ) → First t n p table → (5 ≤ n) × (n ≤ 9)
unfolding table
first_number t n p (here l) = let e = (in_by 5 names t _ l.one).0 in (omega arith, omega arith)
first_number t n p (there f (here l)) = let e = (in_by 6 types t _ l.one).0 in (omega arith, omega arith)
first_number t n p (there f (there g (here l))) = let e = (in_by 7 values t _ l.one).0 in (omega arith, omega arith)
first_number t n p (there f (there g (there i (here l)))) = let e = (in_by 8 clock t _ l.one).0 in (omega arith, omega arith)
first_number t n p (there f (there g (there i (there j (here l))))) = let e = (in_by 9 loops t _ l.one).0 in (omega arith, omega arith)
first_number t n p (there f (there g (there i (there j (there k m))))) = elim m [ ]

-- no stage has number 2
pub first_not_2 : {A : Type 0} (t : Text) (p : ℕ) → First t 2 p table → A
first_not_2 t p f = let z = (first_number t 2 p f).0 in absurd (omega arith)

-- the rows for texts
pub refuses_of_text : (b : List ℕ) (n p : ℕ) → Refuses b n p → OfText n
refuses_of_text b n p (too_long h) = to_9 (omega arith) (omega arith)
refuses_of_text b n p (token_missing h s) = to_9 (omega arith) (omega arith)
refuses_of_text b n p (no_sentence ts h l e) = to_9 (omega arith) (omega arith)
refuses_of_text b n p (past_limit ts h l e) = to_9 (omega arith) (omega arith)
refuses_of_text b n p (offends {t = t} h f) = let z = first_number t n p f in let a = z.0 in to_9 (omega arith) z.1

-- no row has number 0
pub of_text_above_0 : {q : ℕ} → OfText q → 1 ≤ q
of_text_above_0 (to_9 a b) = a
