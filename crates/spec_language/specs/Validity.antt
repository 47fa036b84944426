-- Which texts are accepted, with which process, and which are refused, by which number of 1 to 9 and at which place: document 01's rows, in terms of
-- Lexing, derivations, limits, offences and Elaborates. Nothing here goes by a way of reading. Assumes nothing.
use Rattle.std.specs.Prelude.{◌≡◌, List, [], ◌∷◌, ℕ, zero, suc, ◌≤◌, ◌<◌, length}
use Rattle.spec_grammar.specs.Token.{Token}
use Rattle.spec_grammar.specs.Tree.{Text}
use Rattle.spec_grammar.specs.Grammar.{text, Mark}
use Rattle.spec_grammar.specs.Derivation.{Reads}
use Rattle.spec_grammar.specs.Acceptance as A
use Rattle.spec_grammar.specs.Acceptance.{Exactly}
use Rattle.spec_grammar.specs.Limits.{WithinLimits}
use Rattle.spec_design.specs.Process.{Process}
use Rattle.spec_language.specs.Lexing.{Lexes, Stops}
use Rattle.spec_language.specs.Rules.{Offence, Stage, table}
use Rattle.spec_language.specs.Elaboration.{Elaborates}

-- x is one of the list
pub data In {A : Type 0} (x : A) : List A → Type 0 where
  here : {l : List A} → In x (x ∷ l)
  there : {y : A} {l : List A} → In x l → In x (y ∷ l)

-- a comes no later than b: it has the lower place, or at one place the number that is not above, as "3 first at one token"
abbrev pub NoLater : Offence → Offence → Type 0
NoLater a b = (a.place ≤ b.place) × (b.place ≡ a.place → a.number ≤ b.number)

-- "the lowest place first within a stage"
pub record Lowest (l : List Offence) (a : Offence) : Type 0 where
  pub one : In a l
  pub least : (b : Offence) → In b l → NoLater a b

-- no stage of the list is offended
abbrev pub Free : List Stage → Text → Type 0
Free [] t = Unit {0}
Free (r ∷ rs) t = (r t ≡ []) × Free rs t

-- "Stages in table order": the lowest offence of the first stage that is offended has the number n, and stands at p
pub data First (t : Text) (n p : ℕ) : List Stage → Type 0 where
  here : {r : Stage} {rs : List Stage} → Lowest (r t) (record { number = n; place = p }) → First t n p (r ∷ rs)
  there : {r : Stage} {rs : List Stage} → r t ≡ [] → First t n p rs → First t n p (r ∷ rs)

-- "Places in 1 to 9 are byte offsets": that of token k, or the text's length n where there is no such token
unfoldable pub place_of : ℕ → List Token → ℕ → ℕ
place_of n [] k = n
place_of n (x ∷ ts) zero = x.place
place_of n (x ∷ ts) (suc k) = place_of n ts k

-- "At most 16,384 bytes"; tokens; a sentence of the grammar with the tree t, within the limits
pub record Parses (b : List ℕ) (t : Text) : Type 0 where
  pub short : length b ≤ 16384
  pub tokens : List Token
  pub lexes : Lexes 0 b tokens
  pub marks : List Mark
  pub reads : Reads text tokens marks t
  pub limits : WithinLimits t

-- "A text is accepted exactly when" it parses and breaks no rule; it then means d
pub record Valid (b : List ℕ) (d : Process) : Type 0 where
  pub tree : Text
  pub parses : Parses b tree
  pub free : Free table tree
  pub means : Elaborates tree d

-- the rows 1 to 9 of the table of refusals
pub data Refuses (b : List ℕ) : ℕ → ℕ → Type 0 where
  too_long : 16384 < length b → Refuses b 1 0
  token_missing : {p : ℕ} → length b ≤ 16384 → Stops 0 b p → Refuses b 2 p
  no_sentence : {k : ℕ} (ts : List Token) → length b ≤ 16384 → Lexes 0 b ts → Exactly ts (A.no_sentence k) → Refuses b 3 (place_of (length b) ts k)
  past_limit : {k : ℕ} (ts : List Token) → length b ≤ 16384 → Lexes 0 b ts → Exactly ts (A.past_limit k) → Refuses b 4 (place_of (length b) ts k)
  offends : {n p : ℕ} {t : Text} → Parses b t → First t n p table → Refuses b n p

-- the numbers of the rows for texts, by which `Refuses` holds
pub data OfText (q : ℕ) : Type 0 where
  to_9 : 1 ≤ q → q ≤ 9 → OfText q
