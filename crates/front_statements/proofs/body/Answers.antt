-- `front_statements::body` meets its contract: what has refused stays as it is, and else the contract of `statement_list` is its own. Assumes nothing.
use mathlib.Core.Path.{◌≡◌, refl, sym, subst}
use native.Mathlib.Omega.{arith}
use Rattle.std.specs.Prelude.{Result, Ok, Err}
use Rattle.std.proofs.lemmas.Result.{err_from_is_err_and}
use Rattle.spec_grammar.specs.Grammar.{body as body_part}
use Rattle.front_layout.specs.Items.{arrays}
use Rattle.front_layout.specs.Entries.{body_entries}
use Rattle.front_layout.specs.Rows.{output}
use Rattle.front_cursor.specs.declared.Unread.{Unread}
use Rattle.front_cursor.proofs.Steps.{unread_ends}
use Rattle.front_statements.specs.declared.Listing.{Listing}
use Rattle.front_statements.specs.Listings.{ListingRead, listing_here, as_listing, listing_after, AsksListing}
use Rattle.front_statements.specs.Readers.{ReadsLinesOver}
use Rattle.front_statements.proofs.Bodies.{body_ended}
use Rattle.front_statements.proofs.body.Goals as goal

-- called where a reader goes on, it answers what it does from there
after_listing : (p : Listing) (r : Result Listing Unread) → as_listing p.statements r ≡ listing_after (listing_here p) r
after_listing p (Ok r) = refl
after_listing p (Err e) = refl

pub returns-in_err-p : goal.returns-in_err-p
returns-in_err-p g c =
    let s = c.args in
    let e = c.in_err-p.field-0.0 in
    let b = output (arrays s.codes.now s.tokens.now) s.rows.now in
    let p = err_from_is_err_and c.from_residual.result c.from_residual.ensures.1 in
    let asks = subst (λ (h : ListingRead). AsksListing s.text.count h) (sym c.in_err-p.ensures) c.requires.1 in
    rw (p.1, p.2)
    (subst (λ (h : ListingRead). ReadsLinesOver body_part body_entries s.text.kinds.now s.text.long.now s.text.count h s.depth b (listing_after h (Err e)) b)
    c.in_err-p.ensures (body_ended b asks (unread_ends e)))

pub statement_list-requires : goal.statement_list-requires
statement_list-requires g c =
    let shallow = c.requires.0 in
    (omega arith, subst (λ (h : ListingRead). AsksListing c.args.text.count h) (sym c.in_ok-p.ensures) c.requires.1)

pub returns : goal.returns
returns g c =
    let s = c.args in
    let p = c.in_ok-p.p in
    let r = c.statement_list.result in
    let b = output (arrays s.codes.now s.tokens.now) s.rows.now in
    let d = output (arrays c.statement_list.new.codes c.statement_list.new.tokens) c.statement_list.new.rows in
    subst (λ (h : ListingRead). ReadsLinesOver body_part body_entries s.text.kinds.now s.text.long.now s.text.count h s.depth b (listing_after h r) d)
    c.in_ok-p.ensures
    (subst (λ (x : ListingRead). ReadsLinesOver body_part body_entries s.text.kinds.now s.text.long.now s.text.count (listing_here p) s.depth b x d)
    (after_listing p r) c.statement_list.ensures)
