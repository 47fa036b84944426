-- Where a reader of statements stands: a cursor, and how many statements were read. Assumes nothing.
use Rattle.std.specs.Prelude.{◌≡◌, Bool, true, ◌||◌, List, ℕ, ◌+◌, ◌≤◌, ◌<◌, eqb, leb, ltb, Result, Ok, Err}
use Rattle.base_codes.specs.Statement as S
use Rattle.spec_grammar.specs.Token.{Token}
use Rattle.base_codes.specs.Token.{NAME, BECOMES, LE, NULL, WAIT, IF, WHILE}
use Rattle.spec_grammar.specs.Grammar.{NonTerminal, Says, Sym, Fun}
use Rattle.spec_grammar.specs.Meter.{InHeading}
use Rattle.spec_grammar.specs.Reader.{choose, Outcome}
use Rattle.front_cursor.specs.declared.Unread.{Unread}
use Rattle.front_cursor.specs.Reading.{Read, here, unread, from, refuse}
use Rattle.front_statements.specs.declared.Listing.{Listing}
use Rattle.front_statements.specs.declared.Head.{Head}

-- where a reader of statements stands or has refused, and the statements so far
pub record ListingRead : Type 0 where
  pub cursor : Read
  pub statements : ℕ

abbrev pub listing : Read → ℕ → ListingRead
listing q s = record { cursor = q; statements = s }

-- a reader of statements goes on
abbrev pub listing_here : Listing → ListingRead
listing_here p = listing (here p.cursor) p.statements

-- what a reader of statements answers that began behind s statements: where it has refused, their number is s
abbrev pub as_listing : ℕ → Result Listing Unread → ListingRead
as_listing s (Ok r) = listing_here r
as_listing s (Err e) = listing (unread e) s

-- what a reader of statements is called with: where it has refused, no statement is counted
abbrev pub listing_read : Result Listing Unread → ListingRead
listing_read (Ok p) = listing_here p
listing_read (Err e) = listing (unread e) 0

-- what a reader of statements answers that was called at p, which may have refused: where the answer is a refusal, the number of statements is that of p
abbrev pub listing_after : ListingRead → Result Listing Unread → ListingRead
listing_after p (Ok r) = listing_here r
listing_after p (Err e) = listing (unread e) p.statements

-- the head of a nested statement as it was read or refused
pub record HeadRead : Type 0 where
  pub listing : ListingRead
  pub to : ℕ

-- what the reader of a head answers that began behind s statements
abbrev pub as_head : ℕ → Result Head Unread → HeadRead
as_head s (Ok r) = record { listing = listing_here r.listing; to = r.to }
as_head s (Err e) = record { listing = listing (unread e) s; to = 0 }

-- what comes of the text where the reader of statements stands at p, in a list of statements at this depth
abbrev pub from_listing : (ts : List Token) (S : NonTerminal) (depth : ℕ) (h : InHeading) (p : ListingRead) (γ : List Sym) → Fun γ (Says S) → Outcome (Says S)
from_listing ts S depth h p γ κ = from ts S p.statements depth h p.cursor 0 γ κ

-- refused by number k, at the token where it stands
abbrev pub refuse_listing : ℕ → ListingRead → ListingRead
refuse_listing k p = listing (refuse k p.cursor) p.statements

-- one token on, and one statement more; items is what the count of items is then
abbrev pub begun : ℕ → ListingRead → ListingRead
begun items p = listing (record { fault = p.cursor.fault; at = p.cursor.at + 1; items = items; written = p.cursor.written }) (p.statements + 1)

-- the first token of a statement is taken: "512 statements, statement depth 16"; b says that it passes a limit wherever it stands
unfoldable pub begin_at : Bool → ℕ → ℕ → ListingRead → ListingRead
begin_at b depth items p = choose (eqb p.cursor.fault 0)
    (choose b (refuse_listing 4 p) (choose (leb 512 p.statements) (refuse_listing 4 p) (choose (ltb 16 depth) (refuse_listing 4 p) (begun items p)))) p

-- one token on, where an expression begins
abbrev pub renew : Read → Read
renew q = record { fault = q.fault; at = q.at + 1; items = 0; written = q.written }

-- <= or :=
abbrev pub is_assigning : ℕ → Bool
is_assigning k = choose (eqb k LE) true (eqb k BECOMES)

-- the row's kind of an assignment
abbrev pub row_kind : ℕ → ℕ
row_kind k = choose (eqb k LE) S.OUTPUT S.VARIABLE

-- <= or := is taken, behind which an expression begins
unfoldable pub fresh_at : Bool → Read → Read
fresh_at has q = choose (eqb q.fault 0) (choose has (renew q) (refuse 3 q)) q

-- the counts of the heading are within the limits
pub record FineHeading (h : InHeading) : Type 0 where
  pub inputs : h.inputs ≤ 17
  pub outputs : h.outputs ≤ 16
  pub vars : h.vars ≤ 32

-- what a reader of statements asks of where it stands
pub record AsksListing (n : ℕ) (p : ListingRead) : Type 0 where
  pub short : n ≤ 16384
  pub inside : p.cursor.at ≤ n
  pub room : p.cursor.written ≤ p.cursor.at
  pub few : p.cursor.items ≤ 64
  pub statements : p.statements ≤ 512

-- how it moves
pub record MovesListing (n : ℕ) (p r : ListingRead) : Type 0 where
  pub on : p.cursor.at ≤ r.cursor.at
  pub inside : r.cursor.at ≤ n
  pub room : r.cursor.written + p.cursor.at ≤ p.cursor.written + r.cursor.at
  pub few : r.cursor.items ≤ 64
  pub more : p.statements ≤ r.statements
  pub statements : r.statements ≤ 512
  pub began : r.cursor.fault ≡ 0 → p.cursor.fault ≡ 0

-- a statement begins with a name, null, wait, if or while
abbrev pub is_start : ℕ → Bool
is_start k = eqb k NAME || (eqb k NULL || (eqb k WAIT || (eqb k IF || eqb k WHILE)))

-- the numbers of a statement's row fit
pub record Small (index from to other end : ℕ) : Type 0 where
  pub index_fits : index < 65536
  pub from_fits : from < 65536
  pub to_fits : to < 65536
  pub other_fits : other < 65536
  pub end_fits : end < 65536
