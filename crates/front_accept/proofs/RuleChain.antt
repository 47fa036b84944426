-- The rules in table order, each asked where those before it are kept: one law for every link. Assumes nothing.
use mathlib.Core.Path.{◌≡◌, refl, sym, ◌∙◌, ap}
use mathlib.Core.List.{List, [], ◌∷◌}
use Prim.Native.Nat.{ℕ}
use Rattle.spec_grammar.specs.Tree.{Text}
use Rattle.spec_language.specs.Rules.{Stage, by, table}
use Rattle.spec_language.specs.Names.{names}
use Rattle.spec_language.specs.Verdict.{ruled}
use Rattle.base_answers.specs.declared.Refusal.{Refusal}
use Rattle.base_answers.specs.Answers.{refusal, told}
use Rattle.std.specs.Prelude.{Option, None, Some, Result, Ok, Err}
use Rattle.front_offences.specs.Judged.{Judged}
use Rattle.front_accept.specs.Stages.{ruled_as, Ruled, from6}
use Rattle.front_accept.proofs.Ruled.{offended, kept, kept_none}

-- a stage that answers x, where what is known of a tree is what the stage asks
module _ (k : ℕ) (offences : Text → List ℕ) (rs : List Stage) {low : Option ℕ} {Asked Known : Text → Type 0} {x : Option ℕ} (j : Judged low Asked offences x)
    (asks : (t : Text) → Known t → Asked t) where
  -- an offence decides
  pub refuses : {p : ℕ} {r : Refusal} → x ≡ Some p → told {A = Unit {0}} (Err r) ≡ refusal k p → Ruled (by k offences ∷ rs) Known (Err r)
  refuses {p} n e = record { is = λ t h. e ∙ sym (ap ruled_as (offended k offences rs t (j.lowest t (asks t h)) p n)) }

  -- without one the stages behind it do, which may ask that there is none
  pub passes : {Next : Text → Type 0} {r : Result (Unit {0}) Refusal} → x ≡ None → ((t : Text) → Known t → offences t ≡ [] → Next t) → Ruled rs Next r
      → Ruled (by k offences ∷ rs) Known r
  passes n next q = record {
    is = λ t h. let f = j.lowest t (asks t h) in q.is t (next t h (kept_none k offences rs t f n)) ∙ sym (ap ruled_as (kept k offences rs t f n));
  }

-- behind the last stage no rule is offended
pub none_left : Ruled [] (λ t. Unit {0}) (Ok tt)
unfolding ruled
none_left = record { is = λ t h. refl }

-- all stages
pub all_rules : {Known : Text → Type 0} {r : Result (Unit {0}) Refusal} → Ruled (by 5 names ∷ from6) Known r → Ruled table Known r
unfolding table
all_rules q = q
