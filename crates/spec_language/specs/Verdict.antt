-- The verdict on a text, computed: the stages in the table's order. Not to be believed: proofs/Judged.antt shows that it is what Validity.antt says.
-- Assumes nothing.
use Rattle.std.specs.Prelude.{Bool, true, false, cond, List, [], ◌∷◌, ℕ, leb, ltb, length}
use Rattle.std.proofs.Math.Option.{Option, none, some}
use Rattle.spec_grammar.specs.Token.{Token}
use Rattle.spec_grammar.specs.Tree.{Text}
use Rattle.spec_grammar.specs.Acceptance as A
use Rattle.spec_grammar.specs.Reader.{answer}
use Rattle.spec_design.specs.Process.{Process}
use Rattle.spec_language.specs.Lexer.{Lexed, tokens, malformed, lex}
use Rattle.spec_language.specs.Rules.{Offence, Stage, table}
use Rattle.spec_language.specs.Elaboration.{elaborate}
use Rattle.spec_language.specs.Validity.{place_of}

-- accepted, with the process that the text means; or refused, with the number and the place
pub data Verdict : Type 0 where
  accepted : Process → Verdict
  refused : ℕ → ℕ → Verdict

-- a verdict by its cases: what comes of an accepted text's process, and of a refusal's number and place. All that is defined by a verdict goes through this
abbrev pub on_accepted {ℓ} : {A : Type ℓ} → (Process → A) → (ℕ → ℕ → A) → Verdict → A
on_accepted f g (accepted p) = f p
on_accepted f g (refused n k) = g n k

-- "the lowest place first within a stage"; of two at one place the lower number, as "3 first at one token"
unfoldable pub earlier : Offence → Offence → Offence
earlier a b = cond (ltb b.place a.place) b (cond (ltb a.place b.place) a (cond (ltb b.number a.number) b a))

-- the same of all that follow, and of a stage's offences
unfoldable pub earliest : Offence → List Offence → Offence
earliest a [] = a
earliest a (b ∷ l) = earliest (earlier a b) l

unfoldable pub lowest_offence : List Offence → Option Offence
lowest_offence [] = none
lowest_offence (a ∷ l) = some (earliest a l)

-- a stage's lowest offence refuses; without one the verdict is that of the stages behind it
unfoldable pub judged : Option Offence → Verdict → Verdict
judged none v = v
judged (some o) v = refused o.number o.place

-- the stages one after the other
unfoldable pub ruled : List Stage → Text → Verdict
ruled [] t = accepted (elaborate t)
ruled (r ∷ rs) t = let v = ruled rs t in judged (lowest_offence (r t)) v

unfoldable pub parsed : ℕ → List Token → A.Answer → Verdict
parsed n ts (A.accepted t) = ruled table t
parsed n ts (A.no_sentence k) = refused 3 (place_of n ts k)
parsed n ts (A.past_limit k) = refused 4 (place_of n ts k)

unfoldable pub lexed : ℕ → Lexed → Verdict
lexed n (tokens ts) = parsed n ts (answer ts)
lexed n (malformed p) = refused 2 p

unfoldable pub verdict : List ℕ → Verdict
verdict b = let v = lexed (length b) (lex b) in cond (leb (length b) 16384) v (refused 1 0)

-- whether a text is accepted
abbrev pub is_accepted : Verdict → Bool
is_accepted v = on_accepted (λ p. true) (λ n k. false) v
