-- What the readers of the three parts of a text answer and write, against the grammar's reader: whatever comes after the part, it goes on where they left off. Assumes nothing.
use Rattle.std.specs.Prelude.{◌≡◌, Bool, false, List, [], ◌∷◌, ◌++◌, ℕ, ◌+◌, ◌≤◌}
use Rattle.spec_grammar.specs.Token.{Token}
use Rattle.base_codes.specs.Token.{NAME, LP, RP, SEMI, ENTITY, IS, PORT, END, ARCHITECTURE, OF, BEGIN, PROCESS}
use Rattle.spec_grammar.specs.Tree.{Group, Body}
use Rattle.spec_grammar.specs.Grammar.{NonTerminal, ports, vars, body, Says, Sym, nt, tok, Fun}
use Rattle.spec_grammar.proofs.Steps.{Ok}
use Rattle.front_layout.specs.Tokens.{Holds}
use Rattle.front_cursor.specs.Reading.{from}
use Rattle.front_declarations.specs.Headers.{HeaderRead, heading_of, from_header, AsksHeader}
use Rattle.front_layout.specs.Headings.{groups_names, WroteNames}
use Rattle.front_declarations.specs.Rows.{declared_by}
use Rattle.front_layout.specs.Entries.{body_entries}
use Rattle.front_layout.specs.Rows.{Output, WroteLines}
use Rattle.front_statements.specs.Listings.{from_listing}
use Rattle.front_parser.specs.Units.{EntityPart, ArchitecturePart, ProcessPart}
use Rattle.front_parser.specs.Runs.{start, heading_at, toks, feed}

-- "entity E is port (", ") ; end E ;"
abbrev pub entity_kinds : List ℕ
entity_kinds = ENTITY ∷ NAME ∷ IS ∷ PORT ∷ LP ∷ []

abbrev pub entity_end_kinds : List ℕ
entity_end_kinds = RP ∷ SEMI ∷ END ∷ NAME ∷ SEMI ∷ []

-- "architecture A of E is begin process"
abbrev pub architecture_kinds : List ℕ
architecture_kinds = ARCHITECTURE ∷ NAME ∷ OF ∷ NAME ∷ IS ∷ BEGIN ∷ PROCESS ∷ []

-- "end process ; end A ;"
abbrev pub end_kinds : List ℕ
end_kinds = END ∷ PROCESS ∷ SEMI ∷ END ∷ NAME ∷ SEMI ∷ []

-- from the beginning to r the entity was read: its ports, whose rows are written, and the index of the token behind them
pub record EntityRead (ts : List Token) (r : EntityPart) (before after : List ℕ) : Type 0 where
  pub groups : List Group
  pub at : ℕ
  pub named : r.header.cursor.fault ≡ 0 → (r.name ≡ 1) × (r.end ≡ at + 3)
  pub goes : (S : NonTerminal) (γ : List Sym) (κ : Fun (toks entity_kinds ++ (nt ports ∷ (toks entity_end_kinds ++ γ))) (Says S))
      → Ok (nt ports ∷ (toks entity_end_kinds ++ γ))
      → from ts S 0 1 (heading_of false (heading_at start)) start 0 (toks entity_kinds ++ (nt ports ∷ (toks entity_end_kinds ++ γ))) κ
      ≡ from_header ts S false r.header γ (feed ts at S γ entity_end_kinds (feed ts 0 S (nt ports ∷ (toks entity_end_kinds ++ γ)) entity_kinds κ groups))
  pub wrote : r.header.cursor.fault ≡ 0 → WroteNames ts 0 (declared_by r.header) before after (groups_names groups)

-- the same over the arrays, and where it ends; no item is written
pub record EntityOver (kinds long : List ℕ) (n : ℕ) (before : List ℕ) (r : EntityPart) (after : List ℕ) : Type 0 where
  pub asks : AsksHeader n r.header
  pub none : r.header.cursor.written ≡ 0
  pub reads : (ts : List Token) → Holds ts kinds long n → EntityRead ts r before after

-- from p to r the architecture was read up to its second `begin`: its variables, whose rows are written
pub record ArchitectureRead (ts : List Token) (p : HeaderRead) (r : ArchitecturePart) (before after : List ℕ) : Type 0 where
  pub flag : Bool
  pub groups : List Group
  pub begin : Token
  pub goes : (S : NonTerminal) (γ : List Sym) (κ : Fun (toks architecture_kinds ++ (nt vars ∷ tok BEGIN ∷ γ)) (Says S)) → Ok (nt vars ∷ tok BEGIN ∷ γ)
      → from_header ts S false p (toks architecture_kinds ++ (nt vars ∷ tok BEGIN ∷ γ)) κ ≡ from_header ts S flag r.header γ
      (feed ts p.cursor.at S (nt vars ∷ tok BEGIN ∷ γ) architecture_kinds κ groups begin)
  pub wrote : r.header.cursor.fault ≡ 0 → WroteNames ts (declared_by p) (declared_by r.header) before after (groups_names groups)

-- the same over the arrays, and where it ends; no item is written
pub record ArchitectureOver (kinds long : List ℕ) (n : ℕ) (p : HeaderRead) (before : List ℕ) (r : ArchitecturePart) (after : List ℕ) : Type 0 where
  pub asks : AsksHeader n r.header
  pub none : r.header.cursor.fault ≡ 0 → r.header.cursor.written ≡ p.cursor.written
  pub began : r.header.cursor.fault ≡ 0 → p.cursor.fault ≡ 0
  pub named : r.header.cursor.fault ≡ 0 → (r.name ≡ p.cursor.at + 1) × (r.of ≡ p.cursor.at + 3) × (r.process ≡ p.cursor.at + 6)
  pub reads : (ts : List Token) → Holds ts kinds long n → ArchitectureRead ts p r before after

-- from p to r the statements were read, which are written, and what ends the text; at is the index of the token behind them
pub record ProcessRead (ts : List Token) (p : HeaderRead) (r : ProcessPart) (before after : Output) : Type 0 where
  pub value : Body
  pub at : ℕ
  pub named : r.listing.cursor.fault ≡ 0 → r.end ≡ at + 4
  pub goes : (flag : Bool) (S : NonTerminal) (γ : List Sym) (κ : Fun (nt body ∷ (toks end_kinds ++ γ)) (Says S)) → Ok (nt body ∷ (toks end_kinds ++ γ))
      → from_header ts S flag p (nt body ∷ (toks end_kinds ++ γ)) κ ≡ from_listing ts S 1 (heading_of flag p) r.listing γ (feed ts at S γ end_kinds (κ value))
  pub wrote : r.listing.cursor.fault ≡ 0 → WroteLines ts 0 0 r.listing.cursor.written r.listing.statements before after (body_entries value)

-- the same over the arrays, and where it ends
pub record ProcessOver (kinds long : List ℕ) (n : ℕ) (p : HeaderRead) (before : Output) (r : ProcessPart) (after : Output) : Type 0 where
  pub inside : r.listing.cursor.at ≤ n
  pub room : r.listing.cursor.written ≤ n
  pub few : r.listing.statements ≤ 512
  pub began : r.listing.cursor.fault ≡ 0 → p.cursor.fault ≡ 0
  pub reads : (ts : List Token) → Holds ts kinds long n → ProcessRead ts p r before after
