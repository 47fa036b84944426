-- Laws of the opened image and of parts of its bytes. Assumes nothing.
use Prim.Native.Nat.{ℕ, ◌+◌, ◌-◌, ◌≤◌, ◌<◌}
use mathlib.Core.Path.{◌≡◌, sym, ap, ◌∙◌}
use mathlib.Core.Bool.{true, false, cond}
use mathlib.Core.List.{List, []}
use lib.ListN.{length, take, drop}
use borrow.Author.Tests.{le-leb, lt-leb}
use denote.Ref.{Bor}
use Rattle.std.specs.Prelude.{refl}
use Rattle.spec_format.specs.Opening.{Opened, opened, not_opened}
use Rattle.image_loader.specs.Open.{places_of, open_answer}
use Rattle.spec_interface.specs.Entry.{opening_told}
use Rattle.spec_interface.specs.Lending.{within, Lends}

-- what the opener answers is what is told of opening
pub found : (b : List ℕ) (o : Opened) → open_answer b o ≡ opening_told (places_of b) o
found b (opened t) = refl
found b (not_opened q k) = refl

-- bounds that lie in the bytes, and bounds that do not
pub lent : (s r : Bor (List ℕ)) (a e : ℕ) → a ≤ e → e ≤ length s.now → r.now ≡ take (e - a) (drop a s.now) → r.ref_ptr.0 ≡ s.ref_ptr.0
    → r.ref_ptr.1 ≡ s.ref_ptr.1 + a
    → Lends s a e r
lent s r a e h j f g i =
    let w : within s.now a e ≡ true = rw (le-leb a e h, le-leb e (length s.now) j) in
    record { bytes = f ∙ sym (ap (λ t. cond t (take (e - a) (drop a s.now)) []) w); block = g; place = i ∙ sym (ap (λ t. s.ref_ptr.1 + cond t a 0) w) }

pub not_lent : (s r : Bor (List ℕ)) (a e : ℕ) → within s.now a e ≡ false → r.now ≡ [] → r.ref_ptr.0 ≡ s.ref_ptr.0 → r.ref_ptr.1 ≡ s.ref_ptr.1 + 0 → Lends s a e r
not_lent s r a e w f g i =
    record { bytes = f ∙ sym (ap (λ t. cond t (take (e - a) (drop a s.now)) []) w); block = g; place = i ∙ sym (ap (λ t. s.ref_ptr.1 + cond t a 0) w) }

pub crossed : (l : List ℕ) (a e : ℕ) → e < a → within l a e ≡ false
crossed l a e h = rw (lt-leb a e h)

pub beyond : (l : List ℕ) (a e : ℕ) → a ≤ e → length l < e → within l a e ≡ false
beyond l a e h j = rw (le-leb a e h, lt-leb e (length l) j)
