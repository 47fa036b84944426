-- The direct run: a cycle from the text, without an image, on any state record (document 01, "The product", "Turned back"). Assumes nothing.
use Rattle.std.specs.Prelude.{List, [], ◌∷◌, ℕ}
use Rattle.base_answers.specs.declared.State.{State}
use Rattle.spec_language.specs.Verdict.{Verdict, on_accepted, verdict}
use Rattle.spec_semantics.specs.Rows.{kept_at_first}
use Rattle.spec_semantics.specs.Records.{Started, fresh, not_started}
use Rattle.spec_semantics.specs.Calls.{Called, turned_back, Call}
use Rattle.spec_semantics.specs.Comparison.{laid}
use Rattle.spec_semantics.specs.DirectRow.{direct_row}

-- the verdict's refusal, or the row on the process that the text means
abbrev pub unless_refused : Verdict → State → Call → Called
unless_refused v s c = on_accepted (λ p. direct_row p s c) (λ n k. turned_back n k s c.outputs) v

-- one call on a text: 1 to 9, then the row
unfoldable pub direct_of : List ℕ → State → Call → Called
direct_of text s c = unless_refused (verdict text) s c

-- the fresh state of a text: the beginning and the initial values
abbrev pub fresh_text : Verdict → Started
fresh_text v = on_accepted (λ p. fresh (laid (kept_at_first p))) not_started v

unfoldable pub direct_fresh : List ℕ → Started
direct_fresh text = fresh_text (verdict text)

-- all calls on a text, one after another, the first from the state s
unfoldable pub direct_calls : List ℕ → State → List Call → List Called
direct_calls text s [] = []
direct_calls text s (c ∷ cs) = let r = direct_of text s c in r ∷ direct_calls text r.state cs
