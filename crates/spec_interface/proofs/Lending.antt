-- Laws of parts that are lent out: what stands in the bytes lies between its bounds, and is lent by them. Assumes nothing.
use mathlib.Core.Path.{◌≡◌, refl, sym, ◌∙◌, ap, subst}
use mathlib.Core.Bool.{Bool, true, false, cond}
use mathlib.Core.List.{List, [], ◌++◌, append_assoc}
use Prim.Native.Nat.{ℕ, ◌+◌, ◌-◌, ◌≤◌}
use native.Mathlib.Omega.{arith}
use lib.ListN.{length, take, drop, length-append, take-append-drop}
use lib.Seq.{take_at, drop_at, length-take-le}
use borrow.Author.Tests.{le-leb}
use denote.Ref.{Bor}
use Rattle.spec_interface.specs.Lending.{within, bytes_between, Lends, StandsAt, PartAt}

-- bounds of what stands in the bytes lie in them
stands_within : (l : List ℕ) (p : ℕ) (u : List ℕ) → StandsAt l p u → within l p (p + length u) ≡ true
stands_within l p u s =
    let h = s.place in
    let a = ap length s.is ∙ length-append s.before (u ++ s.behind) in
    let b = length-append u s.behind in
    rw (le-leb p (p + length u) (omega arith), le-leb (p + length u) (length l) (omega arith))

-- .. and between them are its bytes
pub stands_between : (l : List ℕ) (p : ℕ) (u : List ℕ) → StandsAt l p u → bytes_between l p (p + length u) ≡ u
stands_between l p u s =
    let z : p + length u - p ≡ length u = omega arith in
    rw (stands_within l p u s, z)
    (ap (λ (l : List ℕ). take (length u) (drop p l)) s.is
    ∙ (ap (take (length u)) (drop_at s.before (u ++ s.behind) p s.place) ∙ take_at u s.behind (length u) refl))

-- what is lent between them is that part
pub stands_lent : (s r : Bor (List ℕ)) (p : ℕ) (u : List ℕ) → StandsAt s.now p u → Lends s p (p + length u) r → (r.now ≡ u) × PartAt s p r
stands_lent s r p u h g =
    let e : r.now ≡ u = g.bytes ∙ stands_between s.now p u h in (
      e,
      record {
        block = g.block;
        offset = g.place ∙ ap (λ (b : Bool). s.ref_ptr.1 + cond b p 0) (stands_within s.now p u h);
        stands = subst (StandsAt s.now p) (sym e) h;
      },
    )

-- what stands next behind it
unfoldable pub next_stands : (l : List ℕ) (p : ℕ) (u v w : List ℕ) (s : StandsAt l p u) → s.behind ≡ v ++ w → StandsAt l (p + length u) v
next_stands l p u v w s e =
    let h = s.place in
    let n = length-append s.before u in
    record {
      before = s.before ++ u;
      behind = w;
      is = s.is ∙ (ap (λ (k : List ℕ). s.before ++ (u ++ k)) e ∙ sym (append_assoc s.before u (v ++ w)));
      place = omega arith;
    }

-- an empty part stands anywhere in the text, and nothing is between its bounds wherever they are
pub empty_stands : (l : List ℕ) (p : ℕ) → p ≤ length l → StandsAt l p []
empty_stands l p h = record { before = take p l; behind = drop p l; is = sym (take-append-drop p l); place = length-take-le p l h }

pub empty_between : (l : List ℕ) (p : ℕ) → bytes_between l p (p + length {A = ℕ} []) ≡ []
empty_between l p = go (within l p (p + 0))
  where
    go : (b : Bool) → cond b (take (p + 0 - p) (drop p l)) [] ≡ []
    go true = ap (λ (n : ℕ). take n (drop p l)) (let z : p + 0 - p ≡ 0 = omega arith in z)
    go false = refl
