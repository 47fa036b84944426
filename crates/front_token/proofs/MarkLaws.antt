-- The fixed tokens by their length: the first of the table that a text begins with is the longest, so three bytes, then two, then one, are compared.
-- Assumes nothing.
use mathlib.Core.Path.{◌≡◌, refl, sym, ◌∙◌, ap}
use mathlib.Core.Bool.{Bool, true, false, ◌&&◌}
use Rattle.std.specs.Prelude.{Option, None, Some}
use mathlib.Core.List.{List, [], ◌∷◌, ◌++◌}
use Prim.Native.Nat.{ℕ, suc, ◌+◌, ◌<◌}
use native.Mathlib.Omega.{arith}
use lib.Dec.{eqb}
use lib.ListN.{length, get_or, take, drop}
use lib.Seq.{drop-cons, get_or-drop}
use borrow.Author.Tests.{eqb-true}
use Rattle.spec_language.specs.Bytes.{bytes, Fixed, fixed}
use Rattle.spec_language.specs.Lexing.{equal}
use Rattle.spec_language.specs.Lexer.{begins, Start, fixed_start}
use Rattle.spec_language.proofs.Facts.{and_true_both}
use Rattle.front_token.specs.declared.pieces.Piece.{Piece}
use Rattle.front_token.specs.declared.pieces.Piece.TheVariants.{Token, Nothing}
use Rattle.front_token.specs.Fixed.{fixed_kind, of_length}
use Rattle.front_token.specs.Pieces.{placed}
use Rattle.front_token.proofs.WordLaws.{begins_take}

-- a token of the kind up to e; where there is no kind, something else
abbrev pub token_or : Option ℕ → ℕ → Piece → Piece
token_or None e p = p
token_or (Some k) e p = Token k e

-- each is n bytes long
grouped : ℕ → List Fixed → Bool
grouped n [] = true
grouped n (f ∷ fs) = eqb (length f.bytes) n && grouped n fs

-- those of n bytes that stand first in a table, in one step
group : (n : ℕ) (fs gs : List Fixed) (t : List ℕ) (at : ℕ) → grouped n fs ≡ true
    → placed (fixed_start (fs ++ gs) t) at ≡ token_or (fixed_kind fs (take n t)) (at + n) (placed (fixed_start gs t) at)
unfolding grouped fixed_start fixed_kind
group n [] gs t at g = refl
group n (f ∷ fs) gs t at g =
    let u = and_true_both (eqb (length f.bytes) n) (grouped n fs) g in
    let z = eqb-true (length f.bytes) n u.0 in
    go z (equal f.bytes (take n t)) refl (begins_take f.bytes t ∙ ap (λ (m : ℕ). equal f.bytes (take m t)) z) (group n fs gs t at u.1)
  where
    go : length f.bytes ≡ n → (q : Bool) → equal f.bytes (take n t) ≡ q → begins f.bytes t ≡ equal f.bytes (take n t)
        → placed (fixed_start (fs ++ gs) t) at ≡ token_or (fixed_kind fs (take n t)) (at + n) (placed (fixed_start gs t) at)
        → placed (fixed_start (f ∷ (fs ++ gs)) t) at ≡ token_or (fixed_kind (f ∷ fs) (take n t)) (at + n) (placed (fixed_start gs t) at)
    go z true e b h = rw (b, e, z)
    go z false e b h = rw (b, e) h

-- the table is its tokens of three bytes, of two, and of one
fixed_by_length : fixed ≡ of_length 3 fixed ++ (of_length 2 fixed ++ (of_length 1 fixed ++ []))
unfolding fixed of_length bytes
fixed_by_length = refl

grouped_fixed : (grouped 3 (of_length 3 fixed) ≡ true) × (grouped 2 (of_length 2 fixed) ≡ true) × (grouped 1 (of_length 1 fixed) ≡ true)
unfolding fixed of_length bytes grouped
grouped_fixed = (refl, refl, refl)

-- the longest first
longest_first : (t : List ℕ) (at : ℕ) → placed (fixed_start fixed t) at
    ≡ token_or (fixed_kind (of_length 3 fixed) (take 3 t)) (at + 3)
    (token_or (fixed_kind (of_length 2 fixed) (take 2 t)) (at + 2) (token_or (fixed_kind (of_length 1 fixed) (take 1 t)) (at + 1) Nothing))
unfolding fixed_start
longest_first t at =
    ap (λ (fs : List Fixed). placed (fixed_start fs t) at) fixed_by_length
    ∙ (group 3 (of_length 3 fixed) (of_length 2 fixed ++ (of_length 1 fixed ++ [])) t at grouped_fixed.0
    ∙ ap (token_or (fixed_kind (of_length 3 fixed) (take 3 t)) (at + 3))
    (group 2 (of_length 2 fixed) (of_length 1 fixed ++ []) t at grouped_fixed.1
    ∙ ap (token_or (fixed_kind (of_length 2 fixed) (take 2 t)) (at + 2)) (group 1 (of_length 1 fixed) [] t at grouped_fixed.2)))

-- bytes past the end may be read as 0, since no fixed token has a 0
padded : (b : ℕ) (l : List ℕ) → fixed_start fixed (b ∷ l) ≡ fixed_start fixed (b ∷ get_or l 0 0 ∷ get_or l 1 0 ∷ [])
unfolding fixed_start fixed begins bytes
padded b [] = refl
padded b (c ∷ []) = refl
padded b (c ∷ d ∷ l) = refl

module _ (text : List ℕ) (at : ℕ) (h : at < length text) where
  at_three : fixed_start fixed (drop at text) ≡ fixed_start fixed (get_or text at 0 ∷ get_or text (at + 1) 0 ∷ get_or text (at + 2) 0 ∷ [])
  at_three =
      ap (fixed_start fixed) (drop-cons text at 0 h)
      ∙ (padded (get_or text at 0) (drop (suc at) text)
      ∙ rw (get_or-drop (suc at) text 0 0, get_or-drop (suc at) text 1 0)
      (ap (λ (z : ℕ). fixed_start fixed (get_or text at 0 ∷ get_or text z 0 ∷ get_or text (suc at + 1) 0 ∷ [])) (omega arith)
      ∙ ap (λ (z : ℕ). fixed_start fixed (get_or text at 0 ∷ get_or text (at + 1) 0 ∷ get_or text z 0 ∷ [])) (omega arith)))

module _ (text : List ℕ) (at c d : ℕ) (h : at < length text) (ec : c ≡ get_or text (at + 1) 0) (ed : d ≡ get_or text (at + 2) 0) where
  fixed_here : placed (fixed_start fixed (drop at text)) at
      ≡ token_or (fixed_kind (of_length 3 fixed) (get_or text at 0 ∷ c ∷ d ∷ [])) (at + 3)
      (token_or (fixed_kind (of_length 2 fixed) (get_or text at 0 ∷ c ∷ [])) (at + 2)
      (token_or (fixed_kind (of_length 1 fixed) (get_or text at 0 ∷ [])) (at + 1) Nothing))
  fixed_here = ap (λ (s : Start). placed s at) (at_three text at h) ∙ rw (← ec, ← ed) (longest_first (get_or text at 0 ∷ c ∷ d ∷ []) at)

  pub fixed_three : (k : ℕ) → Some k ≡ fixed_kind (of_length 3 fixed) (get_or text at 0 ∷ c ∷ d ∷ []) → Token k (at + 3) ≡ placed (fixed_start fixed (drop at text)) at
  fixed_three k e = sym (fixed_here ∙ rw (← e))

  module _ (none3 : None ≡ fixed_kind (of_length 3 fixed) (get_or text at 0 ∷ c ∷ d ∷ [])) where
    pub fixed_two : (k : ℕ) → Some k ≡ fixed_kind (of_length 2 fixed) (get_or text at 0 ∷ c ∷ []) → Token k (at + 2) ≡ placed (fixed_start fixed (drop at text)) at
    fixed_two k e = sym (fixed_here ∙ rw (← none3, ← e))

    module _ (none2 : None ≡ fixed_kind (of_length 2 fixed) (get_or text at 0 ∷ c ∷ [])) where
      pub fixed_one : (k : ℕ) → Some k ≡ fixed_kind (of_length 1 fixed) (get_or text at 0 ∷ []) → Token k (at + 1) ≡ placed (fixed_start fixed (drop at text)) at
      fixed_one k e = sym (fixed_here ∙ rw (← none3, ← none2, ← e))

      pub fixed_none : None ≡ fixed_kind (of_length 1 fixed) (get_or text at 0 ∷ []) → Nothing ≡ placed (fixed_start fixed (drop at text)) at
      fixed_none e = sym (fixed_here ∙ rw (← none3, ← none2, ← e))
