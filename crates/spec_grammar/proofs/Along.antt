-- What holds of the counts after every token of a list, in terms of a machine (Walk.antt) that keeps of them what matters:
-- it holds exactly where the machine ends well. By induction over the tokens. Assumes nothing.
use mathlib.Core.Path.{◌≡◌, refl, sym, ◌∙◌, subst, ap}
use mathlib.Core.Bool.{Bool, true, false, cond}
use mathlib.Core.Logic.{◌↔◌}
use mathlib.Core.List.{List, [], ◌∷◌}
use Prim.Native.Nat.{ℕ, zero, suc, ◌<◌, suc-le-suc}
use native.Mathlib.Omega.{arith}
use native.Mathlib.Nat.{le_of_suc-le-suc, not-suc-le-zero}
use lib.Dec.{eqb}
use lib.ListN.{length, take}
use Rattle.spec_grammar.specs.Token.{Token}
use Rattle.base_codes.specs.Token.{NAME, NUMBER}
use Rattle.spec_grammar.specs.Grammar.{text, Mark}
use Rattle.spec_grammar.specs.Tree.{Text}
use Rattle.spec_grammar.specs.Meter.{Meter, zeroes, tick, gauge}
use Rattle.spec_grammar.specs.Derivation.{Reads}
use Rattle.spec_grammar.proofs.Marks.{mark_length}
use Rattle.spec_grammar.proofs.Walk.{Machine, step, steps, on_text, text_walked}

-- P holds of the counts after each of the tokens ts, whose marks es begins with
abbrev pub Along : (Meter → Type 0) → Meter → List Token → List Mark → Type 0
Along P c ts es = (j : ℕ) → j < length ts → P (gauge c (take (suc j) ts) es)

-- One token: a machine in a state s that fits the counts c goes on to one, s', that fits the counts after it; and ends well exactly if P holds of them.
pub record Follows {C : Type 0} (Fits : Meter → C → Type 0) (P : Meter → Type 0) (Well : C → Type 0) (s s' : C) (c' : Meter) : Type 0 where
  pub fits : Fits c' s'
  pub ends : Well s' → Well s × P c'
  pub goes_on : Well s → P c' → Well s'

-- So at every token, where go is the machine's step.
abbrev pub FollowsAll : {C : Type 0} → (Mark → Token → C → C) → (Meter → C → Type 0) → (Meter → Type 0) → (C → Type 0) → Type 0
FollowsAll {C} go Fits P Well = (c : Meter) (s : C) → Fits c s → (m : Mark) (x : Token) → Follows Fits P Well s (go m x s) (tick c m x)

-- A machine's step at a token.
abbrev pub step_of : {C : Type 0} → Machine C → Mark → Token → C → C
step_of μ m x s = step μ m x.kind x s

module _ {C : Type 0} (μ : Machine C) (Fits : Meter → C → Type 0) (P : Meter → Type 0) (Well : C → Type 0) (follows : FollowsAll (step_of μ) Fits P Well) where
  well_before : (ts : List Token) (es : List Mark) (c : Meter) (s : C) → Fits c s → Well (steps μ s ts es) → Well s
  unfolding steps
  well_before [] es c s f w = w
  well_before (x ∷ ts) [] c s f w = w
  well_before (x ∷ ts) (e ∷ es) c s f w =
      let g : Follows Fits P Well s (step_of μ e x s) (tick c e x) = follows c s f e x in
      (g.ends (well_before ts es (tick c e x) (step_of μ e x s) g.fits w)).0

  ends_well : (ts : List Token) (es : List Mark) (c : Meter) (s : C) → length es ≡ length ts → Fits c s → Well s → Along P c ts es → Well (steps μ s ts es)
  unfolding steps gauge
  ends_well [] es c s l f w a = w
  ends_well (x ∷ ts) [] c s l f w a = w
  ends_well (x ∷ ts) (e ∷ es) c s l f w a =
      let g : Follows Fits P Well s (step_of μ e x s) (tick c e x) = follows c s f e x in
      ends_well ts es (tick c e x) (step_of μ e x s) (omega arith) g.fits (g.goes_on w (a zero (omega arith))) (λ j h. a (suc j) (suc-le-suc h))

  ended_well : (ts : List Token) (es : List Mark) (c : Meter) (s : C) → length es ≡ length ts → Fits c s → Well (steps μ s ts es) → Along P c ts es
  unfolding steps gauge
  ended_well [] es c s l f w j h = absurd (not-suc-le-zero h)
  ended_well (x ∷ ts) [] c s l f w j h = absurd (omega arith)
  ended_well (x ∷ ts) (e ∷ es) c s l f w zero h =
      let g : Follows Fits P Well s (step_of μ e x s) (tick c e x) = follows c s f e x in
      (g.ends (well_before ts es (tick c e x) (step_of μ e x s) g.fits w)).1
  ended_well (x ∷ ts) (e ∷ es) c s l f w (suc j) h =
      ended_well ts es (tick c e x) (step_of μ e x s) (omega arith) (follows c s f e x).fits w j (le_of_suc-le-suc h)

  -- P holds all along exactly where the machine ends well.
  along : (ts : List Token) (es : List Mark) (c : Meter) (s : C) → length es ≡ length ts → Fits c s → Well s → Along P c ts es ↔ Well (steps μ s ts es)
  along ts es c s l f w = (ends_well ts es c s l f w, ended_well ts es c s l f)

  -- The same of a text, where the machine walks its tree.
  pub text_along : (ts : List Token) (es : List Mark) (t : Text) → Reads text ts es t → (s : C) → Fits zeroes s → Well s
      → Along P zeroes ts es ↔ Well (on_text μ t s)
  text_along ts es t r s f w =
      let l : length es ≡ length ts = ap length (sym r.marked) ∙ (mark_length r.tree ∙ ap length r.spanned) in
      rw (← text_walked μ ts es t r s) (along ts es zeroes s l f w)

-- A machine that goes by the marks alone.
abbrev pub by_marks : {C : Type 0} → (Mark → C → C) → Machine C
by_marks act = record { other = act; named = λ m x c. act m c; numbered = λ m x c. act m c }

any_kind : {C : Type 0} (a b : Bool) (c : C) → cond a c (cond b c c) ≡ c
any_kind true b c = refl
any_kind false true c = refl
any_kind false false c = refl

pub follows_marks : {C : Type 0} (act : Mark → C → C) (Fits : Meter → C → Type 0) (P : Meter → Type 0) (Well : C → Type 0)
    → FollowsAll (λ m x s. act m s) Fits P Well → FollowsAll (step_of (by_marks act)) Fits P Well
follows_marks act Fits P Well h c s f m x =
    subst (λ (t : _). Follows Fits P Well s t (tick c m x)) (sym (any_kind (eqb x.kind NAME) (eqb x.kind NUMBER) (act m s))) (h c s f m x)
