-- A loop that keeps the lowest so far: its invariant, and a list whose elements stand at successive positions. Assumes nothing.
use mathlib.Core.Path.{◌≡◌, refl, sym, ◌∙◌, ap}
use mathlib.Core.List.{List, [], ◌∷◌, map}
use Prim.Native.Nat.{ℕ, zero, suc, ◌+◌, ◌-◌, ◌≤◌, ◌<◌}
use native.Mathlib.Omega.{arith}
use Rattle.std.specs.Prelude.{Option, None}
use Rattle.spec_grammar.specs.Limits.{Each}
use Rattle.spec_language.specs.Lists.{each, lowest}
use Rattle.front_offences.specs.Lowest.{lowest_of, lower, option_of, lowest_from}
use Rattle.front_offences.proofs.Lowest.{lower_none, lower_assoc, lowest_append}

-- before position j the lowest is low
pub record Running (f : ℕ → Option ℕ) (n j : ℕ) (low : Option ℕ) : Type 0 where
  pub inside : j ≤ n
  pub rest : lower low (lowest_from f j (n - j)) ≡ lowest_from f 0 n

lowest_step : (f : ℕ → Option ℕ) (j c : ℕ) → 0 < c → lowest_from f j c ≡ lower (f j) (lowest_from f (j + 1) (c - 1))
unfolding lowest_from
lowest_step f j zero h = absurd (omega arith)
lowest_step f j (suc c) h = let e : suc c - 1 ≡ c = omega arith in rw e

pub running_first : (f : ℕ → Option ℕ) (n : ℕ) → Running f n 0 None
unfolding lower
running_first f n = record { inside = omega arith; rest = ap (lowest_from f 0) (omega arith) }

pub running_again : (f : ℕ → Option ℕ) (n j : ℕ) (low x r : Option ℕ) → j < n → x ≡ f j → r ≡ lower low x → Running f n j low → Running f n (j + 1) r
running_again f n j low x r h p q k =
    let e : n - j - 1 ≡ n - (j + 1) = omega arith in
    record {
      inside = omega arith;
      rest = ap (λ (z : Option ℕ). lower z (lowest_from f (j + 1) (n - (j + 1)))) (q ∙ ap (lower low) p)
          ∙ (lower_assoc low (f j) (lowest_from f (j + 1) (n - (j + 1)))
          ∙ (ap (λ (z : ℕ). lower low (lower (f j) (lowest_from f (j + 1) z))) (sym e)
          ∙ (ap (lower low) (sym (lowest_step f j (n - j) (omega arith))) ∙ k.rest)));
    }

pub running_stop : (f : ℕ → Option ℕ) (n j : ℕ) (low : Option ℕ) → n ≤ j → Running f n j low → low ≡ lowest_from f 0 n
unfolding lowest_from
running_stop f n j low h k =
    let e : n - j ≡ 0 = omega arith in
    let z : lower low (lowest_from f j 0) ≡ lowest_from f 0 n = ap (λ (c : ℕ). lower low (lowest_from f j c)) (sym e) ∙ k.rest in
    sym (lower_none low) ∙ z

-- the list of what stands at j and after it, c positions
unfoldable pub list_from : {A : Type 0} → (ℕ → A) → ℕ → ℕ → List A
list_from at j zero = []
list_from at j (suc c) = at j ∷ list_from at (j + 1) c

-- the lowest over positions is the lowest of the offences of a list
pub list_lowest : {A : Type 0} (at : ℕ → A) (g : A → List ℕ) (P : A → Type 0) (f : ℕ → Option ℕ) → ((j : ℕ) → P (at j) → f j ≡ lowest_of (g (at j)))
    → (j c : ℕ) → Each P (list_from at j c) → lowest_from f j c ≡ lowest_of (each g (list_from at j c))
unfolding lowest_from list_from each option_of lowest
list_lowest at g P f h j zero p = refl
list_lowest at g P f h j (suc c) p =
    ap (λ (z : Option ℕ). lower z (lowest_from f (j + 1) c)) (h j p.0)
    ∙ (ap (lower (lowest_of (g (at j)))) (list_lowest at g P f h (j + 1) c p.1)
    ∙ sym (lowest_append (g (at j)) (each g (list_from at (j + 1) c))))

pub each_same : {A : Type 0} (f g : A → List ℕ) → ((a : A) → f a ≡ g a) → (l : List A) → each f l ≡ each g l
unfolding each
each_same f g h [] = refl
each_same f g h (a ∷ l) = rw (h a, each_same f g h l)

pub each_map : {A B : Type 0} (f : A → B) (g : B → List ℕ) (l : List A) → each g (map f l) ≡ each (λ (a : A). g (f a)) l
unfolding each
each_map f g [] = refl
each_map f g (a ∷ l) = rw (each_map f g l)

pub all_map : {A B : Type 0} (f : A → B) (P : B → Type 0) (l : List A) → Each (λ (a : A). P (f a)) l → Each P (map f l)
all_map f P [] p = tt
all_map f P (a ∷ l) p = (p.0, all_map f P l p.1)

pub all_imply : {A : Type 0} (P Q : A → Type 0) → ((a : A) → P a → Q a) → (l : List A) → Each P l → Each Q l
all_imply P Q h [] p = tt
all_imply P Q h (a ∷ l) p = (h a p.0, all_imply P Q h l p.1)
