-- `front_statements::fresh` meets its contract: each return is an arm of `fresh_at`. Assumes nothing.
use mathlib.Core.Logic.{inl, inr}
use borrow.Author.Tests.{ne_eqb}
use Rattle.front_statements.specs.Listings.{fresh_at}
use Rattle.front_statements.proofs.fresh.Goals as goal

pub returns-in-16 : goal.returns-in-16
unfolding fresh_at
returns-in-16 c = elim c.in-16.is [ inl e ↦ rw e | inr e ↦ rw e ]

pub returns-in_default : goal.returns-in_default
unfolding fresh_at
returns-in_default c =
    rw (
      ne_eqb c.args.kind 16 (λ z. c.in_default.in_default-own.rest.1 (inr z)),
      ne_eqb c.args.kind 10 (λ z. c.in_default.in_default-own.rest.1 (inl z)),
    )
