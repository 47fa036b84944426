-- The lowest offence of a stage, and the offences of a stage with one row. Assumes nothing.
use mathlib.Core.Path.{◌≡◌, refl, sym, ◌∙◌, ap, subst}
use mathlib.Core.Bool.{Bool, true, false, cond}
use mathlib.Core.Option.{Option, none, some}
use mathlib.Core.List.{List, [], ◌∷◌, map}
use Prim.Native.Nat.{ℕ, min}
use native.Mathlib.Omega.{arith}
use lib.Dec.{ltb}
use borrow.Author.Tests.{ltb-true, ltb-false}
use Rattle.spec_grammar.specs.Tree.{Text}
use Rattle.spec_language.specs.Lists.{least, lowest}
use Rattle.spec_language.specs.Rules.{Offence, by}
use Rattle.spec_language.specs.Validity.{In, NoLater, Lowest}
use Rattle.spec_language.specs.Validity as Q
use Rattle.spec_language.specs.Verdict.{earlier, earliest, lowest_offence}
use Rattle.spec_language.proofs.Facts.{no_some}

no_later_too : (a b c : Offence) → NoLater a b → NoLater b c → NoLater a c
no_later_too a b c h k =
    let x = h.0 in
    let y = k.0 in (
      omega arith,
      λ e. let u = h.1 (omega arith) in let v = k.1 (omega arith) in omega arith,
    )

abbrev at : ℕ → ℕ → Offence
at k p = record { number = k; place = p }

same_at : (k p l q : ℕ) → k ≡ l → p ≡ q → at k p ≡ at l q
same_at k p l q e f = rw (e, f)

same_offence : (a b : Offence) → a.number ≡ b.number → a.place ≡ b.place → a ≡ b
same_offence a b e f = same_at a.number a.place b.number b.place e f

-- of two offences
module _ (a b : Offence) where
  earlier_low : NoLater (earlier a b) a × NoLater (earlier a b) b
  unfolding earlier
  earlier_low = at (ltb b.place a.place) refl (ltb a.place b.place) refl (ltb b.number a.number) refl
    where
      at : (x : Bool) → ltb b.place a.place ≡ x → (y : Bool) → ltb a.place b.place ≡ y → (z : Bool) → ltb b.number a.number ≡ z
          → NoLater (cond x b (cond y a (cond z b a))) a × NoLater (cond x b (cond y a (cond z b a))) b
      at true e y f z g = let h = ltb-true b.place a.place e in ((omega arith, λ q. omega arith), (omega arith, λ q. omega arith))
      at false e true f z g = let h = ltb-true a.place b.place f in ((omega arith, λ q. omega arith), (omega arith, λ q. omega arith))
      at false e false f true g =
          let h = ltb-false b.place a.place e in
          let k = ltb-false a.place b.place f in
          let l = ltb-true b.number a.number g in
          ((omega arith, λ q. omega arith), (omega arith, λ q. omega arith))
      at false e false f false g =
          let h = ltb-false b.place a.place e in
          let k = ltb-false a.place b.place f in
          let l = ltb-false b.number a.number g in
          ((omega arith, λ q. omega arith), (omega arith, λ q. omega arith))

  earlier_in : {l : List Offence} → In (earlier a b) (a ∷ b ∷ l)
  unfolding earlier
  earlier_in {l} = at (ltb b.place a.place) (ltb a.place b.place) (ltb b.number a.number)
    where
      at : (x y z : Bool) → In (cond x b (cond y a (cond z b a))) (a ∷ b ∷ l)
      at true y z = Q.In.there Q.In.here
      at false true z = Q.In.here
      at false false true = Q.In.there Q.In.here
      at false false false = Q.In.here

-- of all
earliest_low : (a : Offence) (l : List Offence) → NoLater (earliest a l) a × ((b : Offence) → In b l → NoLater (earliest a l) b)
unfolding earliest
earliest_low a [] = ((omega arith, λ e. omega arith), λ b i. elim i [ ])
earliest_low a (x ∷ l) =
    let h = earliest_low (earlier a x) l in
    let k = earlier_low a x in
    (no_later_too (earliest (earlier a x) l) (earlier a x) a h.0 k.0, λ b i. go b i h.0 h.1 k.1)
  where
    go : (b : Offence) → In b (x ∷ l) → NoLater (earliest (earlier a x) l) (earlier a x) → ((b : Offence) → In b l → NoLater (earliest (earlier a x) l) b)
        → NoLater (earlier a x) x
        → NoLater (earliest (earlier a x) l) b
    go b Q.In.here u v w = no_later_too (earliest (earlier a x) l) (earlier a x) b u w
    go b (Q.In.there i) u v w = v b i

earliest_in : (a : Offence) (l : List Offence) → In (earliest a l) (a ∷ l)
unfolding earliest
earliest_in a [] = Q.In.here
earliest_in a (x ∷ l) = go (earliest_in (earlier a x) l)
  where
    go : {o : Offence} → In o (earlier a x ∷ l) → In o (a ∷ (x ∷ l))
    go Q.In.here = earlier_in a x
    go (Q.In.there i) = Q.In.there (Q.In.there i)

pub lowest_is : (l : List Offence) (a : Offence) → lowest_offence l ≡ some a → Lowest l a
unfolding lowest_offence
lowest_is [] a e = no_some e
lowest_is (x ∷ l) a e =
    let z : earliest x l ≡ a = cc in
    let h = earliest_low x l in
    subst (Lowest (x ∷ l)) z (record { one = earliest_in x l; least = λ b i. go b i h.0 h.1 })
  where
    go : (b : Offence) → In b (x ∷ l) → NoLater (earliest x l) x → ((b : Offence) → In b l → NoLater (earliest x l) b) → NoLater (earliest x l) b
    go b Q.In.here u v = u
    go b (Q.In.there i) u v = v b i

pub lowest_none : (l : List Offence) → lowest_offence l ≡ none → l ≡ []
unfolding lowest_offence
lowest_none [] e = refl
lowest_none (x ∷ l) e = no_some (sym e)

pub is_lowest : (l : List Offence) (a : Offence) → Lowest l a → lowest_offence l ≡ some a
is_lowest l a h = go (lowest_offence l) refl
  where
    nothing_in : {A : Type 0} → In a [] → A
    nothing_in i = elim i [ ]

    one : (b : Offence) → NoLater a b → NoLater b a → b ≡ a
    one b u v =
        let x = u.0 in
        let y = v.0 in
        let m = u.1 (omega arith) in
        let n = v.1 (omega arith) in
        same_offence b a (omega arith) (omega arith)

    go : (o : Option Offence) → lowest_offence l ≡ o → o ≡ some a
    go none e = nothing_in (subst (In a) (lowest_none l e) h.one)
    go (some b) e = let k = lowest_is l b e in ap some (one b (h.least b k.one) (k.least a h.one))

-- A STAGE WITH ONE ROW
earlier_same : (k p q : ℕ) → earlier (at k p) (at k q) ≡ at k (min p q)
unfolding earlier
earlier_same k p q = go (ltb q p) refl (ltb p q) refl (ltb k k)
  where
    go : (x : Bool) → ltb q p ≡ x → (y : Bool) → ltb p q ≡ y → (z : Bool) → cond x (at k q) (cond y (at k p) (cond z (at k q) (at k p))) ≡ at k (min p q)
    go true e y f z = let h = ltb-true q p e in let m : q ≡ min p q = omega arith in ap (at k) m
    go false e true f z = let h = ltb-true p q f in let m : p ≡ min p q = omega arith in ap (at k) m
    go false e false f true = let h = ltb-false q p e in let g = ltb-false p q f in let m : q ≡ min p q = omega arith in ap (at k) m
    go false e false f false = let h = ltb-false q p e in let g = ltb-false p q f in let m : p ≡ min p q = omega arith in ap (at k) m

earliest_same : (k p : ℕ) (ps : List ℕ) → earliest (at k p) (map (at k) ps) ≡ at k (least p ps)
unfolding earliest least
earliest_same k p [] = refl
earliest_same k p (q ∷ ps) = ap (λ (o : Offence). earliest o (map (at k) ps)) (earlier_same k p q) ∙ earliest_same k (min p q) ps

-- the lowest of its offences stands at the lowest of its places
pub by_some : (k : ℕ) (places : Text → List ℕ) (t : Text) (p : ℕ) → lowest (places t) ≡ some p → lowest_offence (by k places t) ≡ some (at k p)
unfolding by lowest lowest_offence
by_some k places t p e = go (places t) e
  where
    go : (ps : List ℕ) → lowest ps ≡ some p → lowest_offence (map (at k) ps) ≡ some (at k p)
    go [] e = no_some e
    go (q ∷ ps) e = let z : least q ps ≡ p = cc in ap some (earliest_same k q ps ∙ ap (at k) z)

pub by_nil : (k : ℕ) (places : Text → List ℕ) (t : Text) → by k places t ≡ [] → places t ≡ []
unfolding by
by_nil k places t e = go (places t) e
  where
    go : (ps : List ℕ) → map (at k) ps ≡ [] → ps ≡ []
    go [] e = refl
    go (q ∷ ps) e = absurd (let z : ◌≡◌ {A = ℕ} 0 1 = cc in omega arith)

pub by_none : (k : ℕ) (places : Text → List ℕ) (t : Text) → places t ≡ [] → by k places t ≡ []
unfolding by
by_none k places t e = ap (map (at k)) e

-- each of its offences has its number, and stands at one of its places
pub in_by : (k : ℕ) (places : Text → List ℕ) (t : Text) (o : Offence) → In o (by k places t) → (o.number ≡ k) × In o.place (places t)
unfolding by
in_by k places t o i = go o (places t) i
  where
    go : (o : Offence) (ps : List ℕ) → In o (map (at k) ps) → (o.number ≡ k) × In o.place ps
    go o [] i = elim i [ ]
    go o (q ∷ ps) Q.In.here = (refl, Q.In.here)
    go o (q ∷ ps) (Q.In.there i) = let r = go o ps i in (r.0, Q.In.there r.1)
