-- Refusals 5 to 9 of a text whose arrays hold a tree: as the rules say one after the other. Assumes nothing.
use Rattle.std.specs.Prelude.{◌≡◌, List, [], ◌∷◌, Result, ℕ}
use Rattle.spec_grammar.specs.Token.{Token}
use Rattle.spec_grammar.specs.Tree.{Text}
use Rattle.spec_grammar.specs.Limits.{WithinLimits}
use Rattle.spec_language.specs.Rules.{Stage, by}
use Rattle.spec_language.specs.Names.{names}
use Rattle.spec_language.specs.Typing.{types}
use Rattle.spec_language.specs.Values.{values}
use Rattle.spec_language.specs.Clock.{clock}
use Rattle.spec_language.specs.Classes.{loops}
use Rattle.spec_language.specs.Verdict.{Verdict, on_accepted, ruled}
use Rattle.front_layout.specs.Tokens.{token_at}
use Rattle.front_parser.specs.declared.Parsed.{Parsed}
use Rattle.front_offences.specs.declared.Shape.{Shape}
use Rattle.front_offences.specs.Judged.{LaidIn}
use Rattle.front_scope.specs.Judges as N
use Rattle.base_answers.specs.declared.Refusal.{Refusal}
use Rattle.base_answers.specs.Answers.{Told, done, refusal, told}

-- the shape of a text of n tokens
abbrev pub shape_of : ℕ → Parsed → Shape
shape_of n p =
    record {
      tokens = n;
      statements = p.statements;
      items = p.items;
      names = p.names;
      entity = p.entity;
      entity_end = p.entity_end;
      arch = p.arch;
      arch_of = p.arch_of;
      process = p.process;
      arch_end = p.arch_end;
    }

-- what the rules leave of a verdict
abbrev pub ruled_as : Verdict → Told (Unit {0})
ruled_as v = on_accepted (λ p. done tt) refusal v

-- for every tree that the arrays hold, the answer is that of the stages rs
pub record Ruled (rs : List Stage) (Held : Text → Type 0) (r : Result (Unit {0}) Refusal) : Type 0 where
  pub is : (t : Text) → Held t → told r ≡ ruled_as (ruled rs t)

-- "Stages in table order": the stages from 9, 8, 7 and 6 on
abbrev pub from9 : List Stage
from9 = by 9 loops ∷ []

abbrev pub from8 : List Stage
from8 = by 8 clock ∷ from9

abbrev pub from7 : List Stage
from7 = by 7 values ∷ from8

abbrev pub from6 : List Stage
from6 = by 6 types ∷ from7

-- the arrays hold a tree as it was read, with the bytes of its names
pub record Read (text starts sizes : List ℕ) (p : Shape) (codes indices rows decls owners : List ℕ) (t : Text) : Type 0 where
  pub held : N.Held text starts sizes p codes indices rows decls owners t
  pub process : token_at held.tokens p.process ≡ t.process
  pub within : WithinLimits t

-- the arrays hold such a tree, and no name of it is wrong
pub record Named (starts : List ℕ) (p : Shape) (codes indices rows decls owners : List ℕ) (t : Text) : Type 0 where
  pub tokens : List Token
  pub kinds : List ℕ
  pub laid : LaidIn tokens t kinds starts p codes indices rows decls owners
  pub process : token_at tokens p.process ≡ t.process
  pub within : WithinLimits t
  pub named : names t ≡ []
