-- The three parts of a text as they were read or refused. Assumes nothing.
use Rattle.std.specs.Prelude.{ℕ, Result, Ok, Err}
use Rattle.front_cursor.specs.declared.Unread.{Unread}
use Rattle.front_cursor.specs.Reading.{unread}
use Rattle.front_declarations.specs.Headers.{HeaderRead, header_here, header_at}
use Rattle.front_statements.specs.Listings.{ListingRead, listing, listing_here}
use Rattle.front_parser.specs.declared.EntityUnit.{EntityUnit}
use Rattle.front_parser.specs.declared.ArchitectureUnit.{ArchitectureUnit}
use Rattle.front_parser.specs.declared.ProcessUnit.{ProcessUnit}
use Rattle.front_parser.specs.Runs.{start, heading_at}

-- the entity: where the reader stands or has refused, and the indices of its name and of the name behind its `end`
pub record EntityPart : Type 0 where
  pub header : HeaderRead
  pub name : ℕ
  pub end : ℕ

-- the architecture up to its statements
pub record ArchitecturePart : Type 0 where
  pub header : HeaderRead
  pub name : ℕ
  pub of : ℕ
  pub process : ℕ

-- the statements and the end of the text
pub record ProcessPart : Type 0 where
  pub listing : ListingRead
  pub end : ℕ

-- the parts that were read
abbrev pub entity_here : EntityUnit → EntityPart
entity_here r = record { header = header_here r.header; name = r.name; end = r.end }

abbrev pub architecture_here : ArchitectureUnit → ArchitecturePart
architecture_here r = record { header = header_here r.header; name = r.name; of = r.of; process = r.process }

abbrev pub process_here : ProcessUnit → ProcessPart
process_here r = record { listing = listing_here r.listing; end = r.end }

-- what their readers answer; of a part that was refused no index is known
abbrev pub as_entity : Result EntityUnit Unread → EntityPart
as_entity (Ok r) = entity_here r
as_entity (Err e) = record { header = header_at (unread e) (heading_at start); name = 0; end = 0 }

abbrev pub as_architecture : Result ArchitectureUnit Unread → ArchitecturePart
as_architecture (Ok r) = architecture_here r
as_architecture (Err e) = record { header = header_at (unread e) (heading_at start); name = 0; of = 0; process = 0 }

abbrev pub as_process : Result ProcessUnit Unread → ProcessPart
as_process (Ok r) = process_here r
as_process (Err e) = record { listing = listing (unread e) 0; end = 0 }
