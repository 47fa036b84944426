-- A compile: the image of an accepted text in a lent buffer, or a refusal (document 01, "Turned back", 1 to 10). Assumes nothing.
use Rattle.std.specs.Prelude.{List, ℕ}
use Rattle.base_answers.specs.Answers.{Told, done, refusal}
use Rattle.spec_language.specs.Verdict.{Verdict, on_accepted, verdict}
use Rattle.spec_format.specs.Writing.{Writing, not_written, written_into}
use Rattle.spec_format.specs.Encode.{encode}

-- what a compile answers: the number of image bytes written; ..
abbrev pub written : ℕ → Told ℕ
written bytes = done bytes

-- .. or a refusal's number and place
abbrev pub not_compiled : ℕ → ℕ → Told ℕ
not_compiled number place = refusal number place

-- the image of the process that the text means, or the verdict's refusal
abbrev pub on_verdict : Verdict → List ℕ → Writing
on_verdict v b = on_accepted (λ p. written_into (encode p) b) (λ n k. not_written n k b) v

-- the verdict's refusals 1 to 9, then 10
unfoldable pub compile_of : List ℕ → List ℕ → Writing
compile_of text b = on_verdict (verdict text) b
