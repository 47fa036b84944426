-- Number and place tell a refusal: a row of the table at a place that it can have is one refusal, and nothing else is any. Assumes nothing.
use mathlib.Core.Path.{◌≡◌, refl, sym, subst, ◌∙◌}
use mathlib.Core.Logic.{◌↔◌, ◌⊎◌, inl, inr}
use mathlib.Core.Option.{Option, none, some}
use mathlib.Core.List.{List, [], ◌∷◌}
use Prim.Native.Nat.{ℕ, zero, suc, ◌+◌}
use native.Mathlib.Omega.{arith}
use Rattle.base_answers.specs.declared.Refusal.{Refusal}
use Rattle.base_answers.specs.declared.Refusal.TheVariants.{TextTooLong, NoToken, NoSentence, LimitPassed, WrongName, WrongType, NoValue, WrongClock}
use Rattle.base_answers.specs.declared.Refusal.TheVariants.{WrongClass, BufferTooShort, BadSections, BadSignature, BadLine, BadRow, BadState, OutOfRange}
use Rattle.base_answers.specs.declared.Refusal.TheVariants.{BadLengths, ZeroDivisor}
use Rattle.base_answers.specs.Answers.{number_of, place_of, operator_refusal, Told, refusal, refused_by}

-- a row of the table: the refusal at a place, or none where the row has not that place
abbrev Row : Type 0
Row = ℕ → Option Refusal

-- a row whose place is 0
abbrev at_0 : Refusal → Row
at_0 r zero = some r
at_0 r (suc p) = none

-- a row with any place
abbrev at : (ℕ → Refusal) → Row
at c p = some (c p)

-- the table, from number 1 on
abbrev table : List Row
table =
    at_0 TextTooLong ∷ at NoToken ∷ at NoSentence ∷ at LimitPassed ∷ at WrongName ∷ at WrongType ∷ at NoValue ∷ at WrongClock ∷ at WrongClass
    ∷ at BufferTooShort ∷ at_0 BadSections ∷ at_0 BadSignature ∷ at BadLine ∷ at BadRow ∷ at_0 BadState ∷ at OutOfRange ∷ at_0 BadLengths
    ∷ at ZeroDivisor ∷ []

-- the refusal at a place in the row with that index
row_at : List Row → ℕ → ℕ → Option Refusal
row_at [] n p = none
row_at (f ∷ fs) zero p = f p
row_at (f ∷ fs) (suc n) p = row_at fs n p

-- the refusal with that number at that place, if the table has one
pub refusal_for : ℕ → ℕ → Option Refusal
refusal_for zero p = none
refusal_for (suc n) p = row_at table n p

-- number and place of a refusal
abbrev Tells : ℕ → ℕ → Refusal → Type 0
Tells n p r = (number_of r ≡ n) × (place_of r ≡ p)

-- every refusal of a row has this number and its place
abbrev RowTells : ℕ → Row → Type 0
RowTells n f = (p : ℕ) (r : Refusal) → f p ≡ some r → Tells n p r

some_is : (x r : Refusal) (n p : ℕ) → Tells n p x → some x ≡ some r → Tells n p r
some_is x r n p h e = let z : x ≡ r = cc in subst (Tells n p) z h

none_is : {A : Type 0} (r : Refusal) → none ≡ some r → A
none_is r e = absurd (let z : ◌≡◌ {A = ℕ} 0 1 = cc in omega arith)

fixed : (x : Refusal) (n : ℕ) → Tells n 0 x → RowTells n (at_0 x)
fixed x n h zero r e = some_is x r n 0 h e
fixed x n h (suc p) r e = none_is r e

placed : (c : ℕ → Refusal) (n : ℕ) → ((p : ℕ) → Tells n p (c p)) → RowTells n (at c)
placed c n h p r e = some_is (c p) r n p (h p) e

-- the same of rows numbered from n on
abbrev AllTell : ℕ → List Row → Type 0
AllTell n [] = Unit {0}
AllTell n (f ∷ fs) = RowTells n f × AllTell (suc n) fs

table_tells : AllTell 1 table
table_tells = (
  fixed TextTooLong 1 (refl, refl),
  (
    placed NoToken 2 (λ p. (refl, refl)),
    (
      placed NoSentence 3 (λ p. (refl, refl)),
      (
        placed LimitPassed 4 (λ p. (refl, refl)),
        (
          placed WrongName 5 (λ p. (refl, refl)),
          (
            placed WrongType 6 (λ p. (refl, refl)),
            (
              placed NoValue 7 (λ p. (refl, refl)),
              (
                placed WrongClock 8 (λ p. (refl, refl)),
                (
                  placed WrongClass 9 (λ p. (refl, refl)),
                  (
                    placed BufferTooShort 10 (λ p. (refl, refl)),
                    (
                      fixed BadSections 11 (refl, refl),
                      (
                        fixed BadSignature 12 (refl, refl),
                        (
                          placed BadLine 13 (λ p. (refl, refl)),
                          (
                            placed BadRow 14 (λ p. (refl, refl)),
                            (
                              fixed BadState 15 (refl, refl),
                              (
                                placed OutOfRange 16 (λ p. (refl, refl)),
                                (fixed BadLengths 17 (refl, refl), (placed ZeroDivisor 18 (λ p. (refl, refl)), tt)),
                              ),
                            ),
                          ),
                        ),
                      ),
                    ),
                  ),
                ),
              ),
            ),
          ),
        ),
      ),
    ),
  ),
)

row_tells : (m : ℕ) (fs : List Row) → AllTell m fs → (n p : ℕ) (r : Refusal) → row_at fs n p ≡ some r → Tells (n + m) p r
unfolding row_at
row_tells m [] h n p r e = none_is r e
row_tells m (f ∷ fs) h zero p r e = let t = h.0 p r e in (t.0 ∙ omega arith, t.1)
row_tells m (f ∷ fs) h (suc n) p r e = let t = row_tells (suc m) fs h.1 n p r e in (t.0 ∙ omega arith, t.1)

for_tells : (q k : ℕ) (r : Refusal) → refusal_for q k ≡ some r → Tells q k r
unfolding refusal_for
for_tells zero k r e = none_is r e
for_tells (suc n) k r e = let t = row_tells 1 table table_tells n k r e in (t.0 ∙ omega arith, t.1)

-- every refusal is the one for its number and place
tells_for : (r : Refusal) → refusal_for (number_of r) (place_of r) ≡ some r
unfolding refusal_for row_at
tells_for TextTooLong = refl
tells_for (NoToken p) = refl
tells_for (NoSentence p) = refl
tells_for (LimitPassed p) = refl
tells_for (WrongName p) = refl
tells_for (WrongType p) = refl
tells_for (NoValue p) = refl
tells_for (WrongClock p) = refl
tells_for (WrongClass p) = refl
tells_for (BufferTooShort p) = refl
tells_for BadSections = refl
tells_for BadSignature = refl
tells_for (BadLine p) = refl
tells_for (BadRow p) = refl
tells_for BadState = refl
tells_for (OutOfRange p) = refl
tells_for BadLengths = refl
tells_for (ZeroDivisor p) = refl

-- THE LAW: the refusal for a number and a place has this number and this place, and is the only one
pub told_exactly : (q k : ℕ) (r : Refusal) → (refusal_for q k ≡ some r) ↔ ((number_of r ≡ q) × (place_of r ≡ k))
told_exactly q k r = (for_tells q k r, λ h. rw (← h.0, ← h.1) (tells_for r))

-- two refusals of one number and place are the same: an answer told by number and place is told in full
pub one_refusal : (r s : Refusal) → number_of r ≡ number_of s → place_of r ≡ place_of s → r ≡ s
one_refusal r s e f = let z : some r ≡ some s = sym ((told_exactly _ _ r).1 (e, f)) ∙ tells_for s in let y : r ≡ s = cc in y

-- a refusal told by one operation is told alike by another
pub told_again : {A B : Type 0} (r : Refusal) (q k : ℕ) → ◌≡◌ {A = Told A} (refused_by r) (refusal q k) → ◌≡◌ {A = Told B} (refused_by r) (refusal q k)
told_again r q k e = let y : number_of r ≡ q = cc in let z : place_of r ≡ k = cc in rw (y, z)

-- an operator's number is told as itself, at its line
pub operator_told : {A : Type 0} (q n : ℕ) → (q ≡ 16) ⊎ (q ≡ 18) → ◌≡◌ {A = Told A} (refused_by (operator_refusal q n)) (refusal q n)
operator_told q n (inl e) = rw e refl
operator_told q n (inr e) = rw e refl
