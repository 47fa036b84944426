-- `front_accept::rules::judge` meets its contract: each rule is asked where those before it are kept. Assumes nothing.
use mathlib.Core.Path.{◌≡◌, refl}
use mathlib.Core.List.{List, []}
use Prim.Native.Nat.{ℕ}
use Rattle.std.specs.Prelude.{Option, None, Result}
use Rattle.base_answers.specs.declared.Refusal.{Refusal}
use Rattle.spec_language.specs.Rules.{table}
use Rattle.spec_language.specs.Names.{names}
use Rattle.spec_language.specs.Typing.{types}
use Rattle.spec_language.specs.Values.{values}
use Rattle.spec_language.specs.Clock.{clock}
use Rattle.spec_language.specs.Classes.{loops}
use Rattle.front_offences.specs.declared.Shape.{Shape}
use Rattle.front_offences.specs.Judged.{Judged}
use Rattle.front_scope.specs.Judges as N
use Rattle.front_typing.specs.Judges as T
use Rattle.front_values.specs.Judges as W
use Rattle.front_clock.specs.Judges as K
use Rattle.front_accept.specs.Stages.{Ruled, Read, Named, from6, from7, from8, from9}
use Rattle.front_accept.proofs.RuleChain.{refuses, passes, none_left, all_rules}
use Rattle.front_accept.proofs.StageFacts.{named, of_types, of_values, of_clock, of_classes}
use Rattle.front_accept.proofs.rules.judge.Goals as goal

-- where a rule is kept, those behind it decide
module _ {starts codes indices rows decls owners : List ℕ} {p : Shape} {low x : Option ℕ} {r : Result (Unit {0}) Refusal} where
  behind5 : {text sizes : List ℕ} → Judged low (N.Held text starts sizes p codes indices rows decls owners) names x → x ≡ None
      → Ruled from6 (Named starts p codes indices rows decls owners) r → Ruled table (Read text starts sizes p codes indices rows decls owners) r
  behind5 j e q = all_rules (passes 5 names from6 j (λ t h. h.held) e (λ t h n. named t h n) q)

  behind6 : Judged low (T.Held starts p codes indices rows decls owners) types x → x ≡ None
      → Ruled from7 (Named starts p codes indices rows decls owners) r → Ruled from6 (Named starts p codes indices rows decls owners) r
  behind6 j e q = passes 6 types from7 j of_types e (λ t h n. h) q

  behind7 : Judged low (W.Held starts p decls) values x → x ≡ None
      → Ruled from8 (Named starts p codes indices rows decls owners) r → Ruled from7 (Named starts p codes indices rows decls owners) r
  behind7 j e q = passes 7 values from8 j of_values e (λ t h n. h) q

  behind8 : Judged low (K.Held starts p codes indices rows decls owners) clock x → x ≡ None
      → Ruled from9 (Named starts p codes indices rows decls owners) r → Ruled from8 (Named starts p codes indices rows decls owners) r
  behind8 j e q = passes 8 clock from9 j of_clock e (λ t h n. h) q

pub returns-in-Some : goal.returns-in-Some
returns-in-Some c = all_rules (refuses 5 names from6 c.judge.ensures (λ t h. h.held) c.in-Some.is refl)

pub returns-in-Some-judge : goal.returns-in-Some-judge
returns-in-Some-judge c = behind5 c.judge.ensures c.in_default.is (refuses 6 types from7 c.judge-2.ensures of_types c.in-Some-judge.is refl)

pub returns-in-Some-judge-2 : goal.returns-in-Some-judge-2
returns-in-Some-judge-2 c =
    behind5 c.judge.ensures c.in_default.is (behind6 c.judge-2.ensures c.in_default-judge.is
    (refuses 7 values from8 c.judge-3.ensures of_values c.in-Some-judge-2.is refl))

pub returns-in-Some-judge-3 : goal.returns-in-Some-judge-3
returns-in-Some-judge-3 c =
    behind5 c.judge.ensures c.in_default.is (behind6 c.judge-2.ensures c.in_default-judge.is (behind7 c.judge-3.ensures c.in_default-judge-2.is
    (refuses 8 clock from9 c.judge-4.ensures of_clock c.in-Some-judge-3.is refl)))

pub returns-in-Some-judge-4 : goal.returns-in-Some-judge-4
returns-in-Some-judge-4 c =
    behind5 c.judge.ensures c.in_default.is (behind6 c.judge-2.ensures c.in_default-judge.is (behind7 c.judge-3.ensures c.in_default-judge-2.is
    (behind8 c.judge-4.ensures c.in_default-judge-3.is (refuses 9 loops [] c.judge-5.ensures of_classes c.in-Some-judge-4.is refl))))

pub returns : goal.returns
returns c =
    behind5 c.judge.ensures c.in_default.is (behind6 c.judge-2.ensures c.in_default-judge.is (behind7 c.judge-3.ensures c.in_default-judge-2.is
    (behind8 c.judge-4.ensures c.in_default-judge-3.is (passes 9 loops [] c.judge-5.ensures of_classes c.in_default-judge-4.is (λ t h n. tt) none_left))))
