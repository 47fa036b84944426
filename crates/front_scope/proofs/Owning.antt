-- The loops that resolve names: the rest from here answers what the whole answers. Assumes nothing.
use mathlib.Core.Path.{◌≡◌, refl, sym, ◌∙◌, ap}
use mathlib.Core.Bool.{Bool, true, false}
use mathlib.Core.List.{List}
use Prim.Native.Nat.{ℕ, zero, suc, ◌+◌, ◌*◌, ◌-◌, ◌≤◌, ◌<◌}
use native.Mathlib.Omega.{arith}
use lib.ListN.{get_or}
use Rattle.spec_grammar.specs.Reader.{choose}
use Rattle.front_offences.proofs.Tokens.{picked, passed}
use Rattle.front_scope.specs.Positions.{same_in, owner_from, filled, fill_from}

module _ (text starts sizes : List ℕ) (n : ℕ) (decls : List ℕ) (i : ℕ) where
  -- no declared name before number j is the name
  pub record Owning (end j : ℕ) : Type 0 where
    pub inside : j ≤ end
    pub rest : owner_from text starts sizes n decls i j (end - j) ≡ owner_from text starts sizes n decls i 0 end

  owner_step : (j c : ℕ) → 0 < c → owner_from text starts sizes n decls i j c
      ≡ choose (same_in text starts sizes n (get_or decls (6 * j) 0) i) j (owner_from text starts sizes n decls i (j + 1) (c - 1))
  unfolding owner_from
  owner_step j zero h = omega arith
  owner_step j (suc c) h = let e : suc c - 1 ≡ c = omega arith in rw e

  pub owning_first : (end : ℕ) → Owning end 0
  owning_first end = record { inside = omega arith; rest = ap (owner_from text starts sizes n decls i 0) (omega arith) }

  module _ (end j name : ℕ) (same : Bool) (h : j < end) (e : name ≡ get_or decls (6 * j) 0) (f : same ≡ same_in text starts sizes n name i)
      (w : Owning end j) where
    test : same ≡ same_in text starts sizes n (get_or decls (6 * j) 0) i
    test = f ∙ ap (λ (x : ℕ). same_in text starts sizes n x i) e

    pub owning_found : same ≡ true → j ≡ owner_from text starts sizes n decls i 0 end
    owning_found q = picked (same_in text starts sizes n (get_or decls (6 * j) 0) i) j _ j (sym test ∙ q) refl
        ∙ (sym (owner_step j (end - j) (omega arith)) ∙ w.rest)

    pub owning_again : same ≡ false → Owning end (j + 1)
    owning_again q =
        let m : end - (j + 1) ≡ end - j - 1 = omega arith in
        record {
          inside = omega arith;
          rest = ap (owner_from text starts sizes n decls i (j + 1)) m
              ∙ (passed (same_in text starts sizes n (get_or decls (6 * j) 0) i) j (owner_from text starts sizes n decls i (j + 1) (end - j - 1)) _
              (sym test ∙ q) refl
              ∙ (sym (owner_step j (end - j) (omega arith)) ∙ w.rest));
        }

  pub owning_stop : (end j : ℕ) → end ≤ j → Owning end j → end ≡ owner_from text starts sizes n decls i 0 end
  unfolding owner_from
  owning_stop end j h w =
      let m : 0 ≡ end - j = omega arith in
      let z : end ≡ j = let q = w.inside in omega arith in
      z ∙ (ap (owner_from text starts sizes n decls i j) m ∙ w.rest)

module _ (f : ℕ → ℕ) (kinds before : List ℕ) where
  -- the tokens before index i have been seen
  pub record Filling (end i : ℕ) (owners : List ℕ) : Type 0 where
    pub inside : i ≤ end
    pub rest : fill_from f kinds i (end - i) owners ≡ fill_from f kinds 0 end before

  fill_step : (i c : ℕ) (owners : List ℕ) → 0 < c → fill_from f kinds i c owners ≡ fill_from f kinds (i + 1) (c - 1) (filled f kinds i owners)
  unfolding fill_from
  fill_step i zero owners h = absurd (omega arith)
  fill_step i (suc c) owners h = let e : suc c - 1 ≡ c = omega arith in rw e

  pub filling_first : (end : ℕ) → Filling end 0 before
  filling_first end = record { inside = omega arith; rest = ap (λ (c : ℕ). fill_from f kinds 0 c before) (omega arith) }

  pub filling_again : (end i : ℕ) (owners after : List ℕ) → i < end → after ≡ filled f kinds i owners → Filling end i owners → Filling end (i + 1) after
  filling_again end i owners after h e w =
      let m : end - (i + 1) ≡ end - i - 1 = omega arith in
      record {
        inside = omega arith;
        rest = ap (fill_from f kinds (i + 1) (end - (i + 1))) e
            ∙ (ap (λ (c : ℕ). fill_from f kinds (i + 1) c (filled f kinds i owners)) m ∙ (sym (fill_step i (end - i) owners (omega arith)) ∙ w.rest));
      }

  pub filling_stop : (end i : ℕ) (owners : List ℕ) → end ≤ i → Filling end i owners → owners ≡ fill_from f kinds 0 end before
  unfolding fill_from
  filling_stop end i owners h w = let m : 0 ≡ end - i = omega arith in ap (λ (c : ℕ). fill_from f kinds i c owners) m ∙ w.rest
