-- So many bytes from a place on, as code takes them: bounds past the end lend an empty part, and those of a token lend the token. Assumes nothing.
use mathlib.Core.Path.{◌≡◌, ◌∙◌, subst}
use mathlib.Core.Bool.{false}
use mathlib.Core.List.{List}
use Prim.Native.Nat.{ℕ, ◌+◌, ◌-◌, ◌≤◌, ◌<◌}
use native.Mathlib.Omega.{arith}
use lib.ListN.{length}
use borrow.Author.Tests.{le-leb, lt-leb}
use denote.Ref.{Bor}
use Rattle.spec_language.specs.Lexer.{token_at}
use Rattle.spec_interface.specs.Lending.{within, Lends}
use Rattle.spec_promises.proofs.Handed.{token_between}

-- bounds that do not lie in the bytes lend out an empty part
pub lent_empty : (s : Bor (List ℕ)) (a e : ℕ) (r : Bor (List ℕ)) → Lends s 1 0 r → within s.now a e ≡ false → Lends s a e r
lent_empty s a e r h q = record { bytes = rw q h.bytes; block = h.block; place = rw q h.place }

-- they end behind the last byte
pub past_start : (l : List ℕ) (a n : ℕ) → length l < a → within l a (a + n) ≡ false
past_start l a n h = rw (le-leb a (a + n) (omega arith), lt-leb (a + n) (length l) (omega arith))

pub past_end : (l : List ℕ) (a n : ℕ) → a ≤ length l → length l - a < n → within l a (a + n) ≡ false
past_end l a n k h = rw (le-leb a (a + n) (omega arith), lt-leb (a + n) (length l) (omega arith))

-- so many bytes from the place on, as the token has, are the token
pub token_lent : (s : Bor (List ℕ)) (p n : ℕ) (r : Bor (List ℕ)) → n ≡ length (token_at s.now p) → Lends s p (p + n) r
    → (r.now ≡ token_at s.now p) × Lends s p (p + length (token_at s.now p)) r
token_lent s p n r e h =
    let g : Lends s p (p + length (token_at s.now p)) r = subst (λ (m : ℕ). Lends s p (p + m) r) e h in
    (g.bytes ∙ token_between s.now p, g)
