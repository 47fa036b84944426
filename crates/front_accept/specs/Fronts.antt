-- What the front end answers for a verdict, and what the arrays of a parsed text hold. Assumes nothing.
use Rattle.std.specs.Prelude.{◌≡◌, List, Result, Ok, Err, IfOk, IsErr, ℕ, ◌*◌, length, replicate, ℤ}
use Rattle.base_codes.specs.Limit.{TEXT, STATEMENTS}
use Rattle.base_codes.specs.Statement.{ROW}
use Rattle.base_answers.specs.declared.Refusal.{Refusal}
use Rattle.spec_grammar.specs.Token.{Token}
use Rattle.spec_grammar.specs.Tree.{Text}
use Rattle.spec_grammar.specs.Limits.{WithinLimits}
use Rattle.spec_grammar.specs.Reader.{answer}
use Rattle.spec_language.specs.Verdict.{Verdict, on_accepted, parsed, verdict}
use Rattle.spec_language.proofs.Modes.{Moded}
use Rattle.front_parser.specs.declared.Parsed.{Parsed}
use Rattle.front_limits.specs.Flags.{marked}
use Rattle.front_limits.specs.Words.{WordsIn}
use Rattle.front_scope.specs.Judges.{HeadsIn}
use Rattle.base_ir.specs.declared.Declared.{Declared}
use Rattle.base_answers.specs.Answers.{Told, done, refusal, refused_by}
use Rattle.front_accept.specs.Stages.{shape_of}
use Rattle.front_accept.specs.Designs.{Sized, Border}
use Rattle.front_accept.specs.Readings.{Lexes}
use Rattle.front_layout.specs.Tokens.{token_at}
use Rattle.front_layout.specs.Entries.{body_entries, entry_items}
use Rattle.front_layout.specs.Arrays.{TokensIn, ItemsIn, RowsIn}
use Rattle.front_layout.specs.Headings.{headings, DeclsIn}
use Rattle.front_offences.specs.Kinded.{Kinded}

-- the arrays hold the tokens ts of the text and all parts of the tree t, which is within the limits
pub record TreeIn (text : List ℕ) (ts : List Token) (t : Text) (kinds starts sizes : List ℕ) (n : ℕ) (p : Parsed)
    (codes indices rows decls : List ℕ) : Type 0 where
  pub tokens : TokensIn ts kinds starts n
  pub words : WordsIn text ts sizes n
  pub items : ItemsIn ts (entry_items (body_entries t.body)) codes indices p.items
  pub lines : RowsIn ts (body_entries t.body) rows p.statements
  pub names : DeclsIn ts (headings t) decls p.names
  pub heads : HeadsIn ts t (shape_of n p)
  pub process : token_at ts p.process ≡ t.process
  pub kinded : Kinded t
  pub moded : Moded t
  pub limits : WithinLimits t
  pub room : length codes ≡ TEXT
  pub lines_room : length rows ≡ ROW * STATEMENTS

-- what the front end tells, and what is told of a verdict: number and place of a refusal
abbrev pub front_told : Result Declared Refusal → Told (Unit {0})
front_told (Ok d) = done tt
front_told (Err r) = refused_by r

abbrev pub front_answer : Verdict → Told (Unit {0})
front_answer v = on_accepted (λ p. done tt) refusal v

-- the arrays that are lent
pub record DesignArrays : Type 0 where
  pub ops : List ℕ
  pub args : List ℤ
  pub lines : List ℕ

abbrev pub design_arrays : List ℕ → List ℤ → List ℕ → DesignArrays
design_arrays ops args lines = record { ops = ops; args = args; lines = lines }

-- what is handed out of a text: an accepted one's process; of a refused one nothing, and what is left in the arrays has no meaning
abbrev pub LeftAs : Verdict → List ℕ → Result Declared Refusal → DesignArrays → Type 0
LeftAs v text r b = on_accepted (λ p. IfOk r (λ d. Border text p d b.ops b.args b.lines)) (λ n k. IsErr r) v

-- the front end's answer and what it hands out
abbrev pub FrontAs : Verdict → List ℕ → Result Declared Refusal → DesignArrays → Type 0
FrontAs v text r b = (front_told r ≡ front_answer v) × LeftAs v text r b

-- the front end on a text, where the arrays a that are lent have their sizes; b is what is left in them
abbrev pub TextFront : List ℕ → Result Declared Refusal → DesignArrays → DesignArrays → Type 0
TextFront text r a b = Sized a.ops a.args a.lines → FrontAs (verdict text) text r b

-- the same on its tokens, which the arrays hold
abbrev pub TokensFront : List ℕ → List ℕ → List ℕ → List ℕ → ℕ → Result Declared Refusal → DesignArrays → DesignArrays → Type 0
TokensFront text kinds starts sizes n r a b =
    Sized a.ops a.args a.lines → (ts : List Token) → Lexes text ts kinds starts sizes n (marked text kinds starts sizes n (replicate TEXT 0))
    → FrontAs (parsed (length text) ts (answer ts)) text r b
