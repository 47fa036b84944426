-- The stages one after the other, each with one row: the first that is offended refuses, and where it is not the others decide. Assumes nothing.
use mathlib.Core.Path.{◌≡◌, sym, ◌∙◌, ap}
use mathlib.Core.List.{List, [], ◌∷◌}
use Prim.Native.Nat.{ℕ}
use Rattle.std.specs.Prelude.{Option, None, Some}
use mathlib.Core.Option as M
use Rattle.spec_grammar.specs.Tree.{Text}
use Rattle.spec_language.specs.Rules as Rules
use Rattle.spec_language.specs.Rules.{Stage, by}
use Rattle.spec_language.specs.Verdict.{refused, lowest_offence, judged, ruled}
use Rattle.spec_language.proofs.Offences.{by_some, by_none}
use Rattle.front_offences.specs.Lowest.{lowest_of}
use Rattle.front_offences.proofs.Lowers.{lowest_nothing, lowest_place}

module _ (k : ℕ) (places : Text → List ℕ) (rs : List Stage) (t : Text) {x : Option ℕ} (f : x ≡ lowest_of (places t)) where
  -- an offence decides
  pub offended : (p : ℕ) → x ≡ Some p → ruled (by k places ∷ rs) t ≡ refused k p
  unfolding ruled judged
  offended p n = ap (λ (o : M.Option Rules.Offence). judged o (ruled rs t)) (by_some k places t p (lowest_place (places t) p (sym f ∙ n)))

  -- without one there is none, ..
  pub kept_none : x ≡ None → places t ≡ []
  kept_none n = lowest_nothing (places t) (sym f ∙ n)

  -- .. and the next stage is asked
  pub kept : x ≡ None → ruled (by k places ∷ rs) t ≡ ruled rs t
  unfolding ruled judged lowest_offence
  kept n = ap (λ (l : List Rules.Offence). judged (lowest_offence l) (ruled rs t)) (by_none k places t (kept_none n))
