-- What is read of a text's tokens: the tree that the arrays hold where it offends no rule, or the refusal. Assumes nothing.
use Rattle.std.specs.Prelude.{◌≡◌, List, [], Result, Ok, Err, ℕ, ◌*◌, length, ℤ}
use Rattle.base_codes.specs.Limit.{TEXT, STATEMENTS}
use Rattle.base_codes.specs.Statement.{ROW}
use Rattle.base_answers.specs.declared.Refusal.{Refusal}
use Rattle.base_answers.specs.Answers.{number_of, place_of}
use Rattle.spec_grammar.specs.Token.{Token}
use Rattle.spec_grammar.specs.Tree.{Text}
use Rattle.spec_grammar.specs.Limits.{WithinLimits}
use Rattle.spec_grammar.specs.Reader.{answer}
use Rattle.spec_design.specs.Process.{WellFormed}
use Rattle.spec_language.specs.Names.{names}
use Rattle.spec_language.specs.Clock.{clock}
use Rattle.spec_language.specs.Elaboration.{elaborate}
use Rattle.spec_language.specs.Verdict.{Verdict, accepted, refused, parsed}
use Rattle.front_layout.specs.Tokens as C
use Rattle.front_layout.specs.Arrays.{TokensIn}
use Rattle.front_limits.specs.Flags.{marked}
use Rattle.front_limits.specs.Words.{WordsIn}
use Rattle.front_offences.specs.declared.Shape.{Shape}
use Rattle.front_offences.specs.Judged.{LaidIn}
use Rattle.front_elaborator.specs.Positions.{value_at, Resolves}
use Rattle.front_accept.specs.declared.reading.Reading.{Reading}

-- the arrays hold the tokens ts of the text, and their flags
pub record Lexes (text : List ℕ) (ts : List Token) (kinds starts sizes : List ℕ) (n : ℕ) (flags : List ℕ) : Type 0 where
  pub tokens : TokensIn ts kinds starts n
  pub words : WordsIn text ts sizes n
  pub flagged : C.Holds ts kinds flags n

-- they hold the tree t of these tokens, with its names resolved, and it offends no rule
pub record Holds (text : List ℕ) (ts : List Token) (kinds starts sizes codes indices rows decls owners : List ℕ) (p : Shape) (t : Text) : Type 0 where
  pub laid : LaidIn ts t kinds starts p codes indices rows decls owners
  pub words : WordsIn text ts sizes p.tokens
  pub limits : WithinLimits t
  pub named : names t ≡ []
  pub clocked : clock t ≡ []
  pub formed : WellFormed (elaborate t)
  pub room : length codes ≡ TEXT
  pub lines_room : length rows ≡ ROW * STATEMENTS

-- the same, with the values of its items (args, from args₀)
pub record HoldsValues (text : List ℕ) (ts : List Token) (kinds starts sizes codes rows decls owners : List ℕ) (args₀ args : List ℤ) (p : Shape) (t : Text)
    : Type 0 where
  pub indices : List ℕ
  pub tree : Holds text ts kinds starts sizes codes indices rows decls owners p t
  pub values : Resolves (value_at text starts sizes kinds owners) codes indices p.items args₀ args

-- what a judgement says of a verdict, where Held is what the arrays hold of a tree: they hold the tree of the accepted process; or its number and place
abbrev pub judgement_of : (Shape → Text → Type 0) → Verdict → Result Shape Refusal → Type 0
judgement_of Held v (Ok p) = (t : Text) × (v ≡ accepted (elaborate t)) × Held p t
judgement_of Held v (Err x) = v ≡ refused (number_of x) (place_of x)

pub record JudgedAs (Held : Shape → Text → Type 0) (v : Verdict) (j : Result Shape Refusal) : Type 0 where
  pub is : judgement_of Held v j

-- for the tokens that the arrays hold, where those that are lent have their sizes: the judgement is the verdict's
pub record Judges (text kinds starts sizes : List ℕ) (n : ℕ) (flags owners codes₀ codes indices₀ indices rows₀ rows : List ℕ) (r : Reading) : Type 0 where
  pub judged : length flags ≡ TEXT → length codes₀ ≡ TEXT → length indices₀ ≡ TEXT → length rows₀ ≡ ROW * STATEMENTS → (ts : List Token)
      → Lexes text ts kinds starts sizes n flags
      → JudgedAs (Holds text ts kinds starts sizes codes indices rows r.decls owners) (parsed (length text) ts (answer ts)) r.judgement

-- the same with the values of items, where the flags are those of the limits
pub record Reads (text kinds starts sizes : List ℕ) (n : ℕ) (owners₀ owners codes₀ codes : List ℕ) (args₀ args : List ℤ) (rows₀ rows : List ℕ) (r : Reading)
    : Type 0 where
  pub judged : length owners₀ ≡ TEXT → length codes₀ ≡ TEXT → length rows₀ ≡ ROW * STATEMENTS → (ts : List Token)
      → Lexes text ts kinds starts sizes n (marked text kinds starts sizes n owners₀)
      → JudgedAs (HoldsValues text ts kinds starts sizes codes rows r.decls owners args₀ args) (parsed (length text) ts (answer ts)) r.judgement
