-- Bytes put behind others: one, several after each other, and the invariant of a loop that puts them. Assumes nothing.
use mathlib.Core.Path.{◌≡◌, refl, sym, ◌∙◌, ap, subst}
use mathlib.Core.List.{List, [], ◌∷◌, ◌++◌, append_assoc, append-nil}
use Prim.Native.Nat.{ℕ, suc, ◌+◌, ◌-◌, ◌≤◌, ◌<◌, min}
use native.Mathlib.Omega.{arith}
use lib.ListN.{length, set, replicate, length-append}
use lib.Seq.{set_at}
use Rattle.spec_language.specs.Bytes.{bytes}
use Rattle.base_ir.specs.declared.Names.{Names}
use Rattle.trace_header.specs.Lines.{padded, Shows, Puts}
use Rattle.trace_header.specs.Positions.{label_at, labels_from, header_at}

-- an array of zeros holds no bytes
pub shows_none : Shows (replicate 560 0) 0 []
unfolding padded
shows_none = record { is = λ h. (refl, refl) }

-- a byte is stored behind the others
pub put_one : {out : List ℕ} {n : ℕ} (b : ℕ) → n < 560 → Puts out n (b ∷ []) (set out n b) (n + 1)
unfolding padded
put_one {out} {n} b g = record {
  is = λ l s. record {
    is = λ h.
        let a : length l + 1 ≤ 560 = (let e = length-append l (b ∷ []) in omega arith) in
        let e = s.is (omega arith) in
        let z : 560 - length l ≡ suc (560 - (length l + 1)) = omega arith in
        let q : length (l ++ (b ∷ [])) ≡ length l + 1 = length-append l (b ∷ []) in
        let o : out ≡ l ++ (0 ∷ replicate (560 - (length l + 1)) 0) = e.0 ∙ ap (λ (k : ℕ). l ++ replicate k 0) z in (
          ap (λ (x : List ℕ). set x n b) o ∙ (set_at l 0 (replicate (560 - (length l + 1)) 0) b n (sym e.1)
              ∙ (sym (append_assoc l (b ∷ []) (replicate (560 - (length l + 1)) 0)) ∙ ap (λ (k : ℕ). (l ++ (b ∷ [])) ++ replicate (560 - k) 0) (sym q))),
          (let y = e.1 in omega arith),
        );
  };
}

pub puts_none : {a : List ℕ} {n : ℕ} → Puts a n [] a n
puts_none = record { is = λ l s. rw (append-nil l) s }

-- one part after the other
pub puts_then : {a b c p q : List ℕ} {n m k : ℕ} → Puts a n p b m → Puts b m q c k → Puts a n (p ++ q) c k
puts_then {p = p} {q} x y = record { is = λ l s. rw (sym (append_assoc l p q)) (y.is (l ++ p) (x.is l s)) }

-- the invariant of a loop: what is still to be put makes the whole
pub record Goes (a : List ℕ) (n : ℕ) (whole : List ℕ) (b : List ℕ) (m : ℕ) (rest : List ℕ) : Type 0 where
  pub on : (c : List ℕ) (k : ℕ) → Puts b m rest c k → Puts a n whole c k

pub goes_first : {a whole : List ℕ} {n : ℕ} → Goes a n whole a n whole
goes_first = record { on = λ c k h. h }

pub goes_on : {a whole b c part rest : List ℕ} {n m k : ℕ} → Goes a n whole b m (part ++ rest) → Puts b m part c k → Goes a n whole c k rest
goes_on g p = record { on = λ c k h. g.on c k (puts_then p h) }

pub goes_end : {a whole b : List ℕ} {n m : ℕ} → Goes a n whole b m [] → Puts a n whole b m
goes_end {b = b} {m = m} g = g.on b m puts_none

-- the labels of declared names, one after the other
pub record Lists (f : ℕ → List ℕ) (a : List ℕ) (n last : ℕ) (end : ℕ) (b : List ℕ) (m k : ℕ) : Type 0 where
  pub within : k ≤ end
  pub goes : Goes a n (labels_from f 0 last) b m (labels_from f k (end - k))

module _ (f : ℕ → List ℕ) (last : ℕ) where
  pub list_again : {a b c : List ℕ} {n end m k r : ℕ} → Lists f a n last end b m k → k < end → Puts b m (f k) c r → Lists f a n last end c r (k + 1)
  unfolding labels_from
  list_again {a} {b} {c} {n} {end} {m} {k} {r} g h p =
      let z : end - k ≡ suc (end - (k + 1)) = omega arith in
      record { within = omega arith; goes = goes_on (rw z at g.goes) p }

  pub list_end : {a b : List ℕ} {n end m k : ℕ} → Lists f a n last end b m k → end ≤ k → Puts a n (labels_from f 0 last) b m
  unfolding labels_from
  list_end {a} {b} {n} {end} {m} {k} g h = let z : end - k ≡ 0 = omega arith in goes_end (rw z at g.goes)

-- the three parts of a header
pub line_shows : (text : List ℕ) (d : Names) {v a b c : List ℕ} {x y r : ℕ} → v ≡ bytes "cycle wait lines" → Puts (replicate 560 0) 0 v a x
    → Puts a x (labels_from (label_at text d.starts d.sizes) 0 (min d.count 32)) b y → Puts b y (10 ∷ []) c r → Shows c r (header_at text d)
unfolding header_at
line_shows text d {v} {a} {b} {c} {x} {y} {r} e p q s =
    let h : Puts (replicate 560 0) 0 (bytes "cycle wait lines") a x = subst (λ (l : List ℕ). Puts (replicate 560 0) 0 l a x) e p in
    (puts_then h (puts_then q s)).is [] shows_none
