-- Worked examples as whole texts: the form of an example, one test that the checker computes, and the theorem that the test gives.
-- A refused text is written with a caret ^ before the refusal's place; the caret is no part of the text. Assumes nothing.
use mathlib.Core.Path.{◌≡◌, refl, sym}
use mathlib.Core.Bool.{Bool, true, false, cond, ◌&&◌}
use mathlib.Core.List.{List, [], ◌∷◌, ◌++◌}
use Prim.Native.Nat.{ℕ, zero, suc}
use Prim.Native.String.{String}
use lib.Dec.{T, eqb}
use Rattle.spec_grammar.specs.Limits.{Each}
use Rattle.spec_design.specs.Process.{Process}
use Rattle.spec_language.specs.Bytes.{bytes}
use Rattle.spec_language.specs.Lexing.{equal}
use Rattle.spec_language.specs.Lexer.{token_at}
use Rattle.spec_language.specs.Verdict.{Verdict, accepted, refused, verdict, is_accepted}
use Rattle.spec_language.proofs.Facts.{and_true_both, eqb_eq, T_is, clash}
use Rattle.spec_language.proofs.Lexing.{equal_is}
use Rattle.spec_language.proofs.Computing.{computed}

-- a text that is accepted; a text, with its caret, that is refused by this number, and the token that is handed out
pub data Example : Type 0 where
  accepts : List ℕ → Example
  refuses : ℕ → List ℕ → List ℕ → Example

-- the text without its caret, byte 94
unfoldable pub plain : List ℕ → List ℕ
plain [] = []
plain (b ∷ l) = let r = b ∷ plain l in cond (eqb b 94) l r

-- the place of the caret
unfoldable pub place : List ℕ → ℕ
place [] = zero
place (b ∷ l) = let r = suc (place l) in cond (eqb b 94) zero r

-- what an example says
abbrev pub Holds : Example → Type 0
Holds (accepts t) = (d : Process) × (verdict t ≡ accepted d)
Holds (refuses n m w) = (verdict (plain m) ≡ refused n (place m)) × (token_at (plain m) (place m) ≡ w)

unfoldable pub is_refused : ℕ → ℕ → Verdict → Bool
is_refused n p (accepted d) = false
is_refused n p (refused k q) = eqb k n && eqb q p

unfoldable pub test : Example → Bool
test (accepts t) = is_accepted (verdict t)
test (refuses n m w) = is_refused n (place m) (verdict (plain m)) && equal (token_at (plain m) (place m)) w

unfoldable pub every : List Example → Bool
every [] = true
every (x ∷ l) = test x && every l

accepted_is : (v : Verdict) → is_accepted v ≡ true → (d : Process) × (v ≡ accepted d)
accepted_is (accepted d) e = (d, refl)
accepted_is (refused k q) e = clash (sym e)

refused_is : (n p : ℕ) (v : Verdict) → is_refused n p v ≡ true → v ≡ refused n p
unfolding is_refused
refused_is n p (accepted d) e = clash (sym e)
refused_is n p (refused k q) e = let s = and_true_both (eqb k n) (eqb q p) e in rw (eqb_eq k n s.0, eqb_eq q p s.1)

holds : (x : Example) → test x ≡ true → Holds x
unfolding test
holds (accepts t) e = accepted_is (verdict t) e
holds (refuses n m w) e =
    let s = and_true_both (is_refused n (place m) (verdict (plain m))) (equal (token_at (plain m) (place m)) w) e in
    (refused_is n (place m) (verdict (plain m)) s.0, equal_is (token_at (plain m) (place m)) w s.1)

-- every example of a table whose test is true holds
all_hold : (l : List Example) → T (every l) → Each Holds l
unfolding every
all_hold [] t = tt
all_hold (x ∷ l) t = let s = and_true_both (test x) (every l) (T_is (test x && every l) t) in (holds x s.0, all_hold l (as_T (every l) s.1))
  where
    as_T : (b : Bool) → b ≡ true → T b
    as_T true e = tt
    as_T false e = clash (sym e)

-- The test of a table, with all that it computes by opened: a table says `unfolding passes`, and its test is `tt`.
unfoldable pub passes : List Example → Bool
unfolding computed test plain place is_refused every equal
passes l = every l

pub all_pass : (l : List Example) → T (passes l) → Each Holds l
unfolding passes
all_pass l t = all_hold l t

-- Texts are put together from their parts; each part may have the caret.

-- ports, variables, the word process, statements
abbrev pub whole : String → String → String → List ℕ → List ℕ
whole ports vars word body =
    bytes "entity e is port ( " ++ (bytes ports ++ (bytes "); end e; architecture t of e is begin " ++ (bytes word ++ (bytes " " ++ (bytes vars ++
    (bytes " begin " ++ (body ++ bytes "end process; end t;")))))))

abbrev pub std_ports : String
std_ports = "clk, a, b, c : in std_logic; d : in integer; o : out integer := 0; q : out std_logic := '0'"

abbrev pub std_vars : String
std_vars = "variable s, u : integer := 0; variable f : std_logic := '1';"

-- the standard declarations around a whole body, and around statements before a wait
abbrev pub body : String → List ℕ
body s = whole std_ports std_vars "process" (bytes s)

abbrev pub stmts : String → List ℕ
stmts s = whole std_ports std_vars "process" (bytes s ++ bytes " wait until clk = '1';")

-- other ports, other variables, before a wait
abbrev pub ports : String → List ℕ
ports p = whole p "" "process" (bytes "wait until clk = '1';")

abbrev pub vars : String → List ℕ
vars v = whole std_ports v "process" (bytes "wait until clk = '1';")

abbrev pub refused_at_lem : ℕ → List ℕ → String → Example
refused_at_lem n m w = refuses n m (bytes w)
