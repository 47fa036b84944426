-- What a writer answers, and what it leaves in the buffer that is lent to it (document 01, "Turned back", 10). Assumes nothing.
use Rattle.std.specs.Prelude.{cond, List, ◌++◌, ℕ, length, drop, leb}
use Rattle.base_answers.specs.Answers.{Told, done, refusal}

-- the number of bytes written, or a refusal's number and place; and the buffer as it is left
pub record Writing : Type 0 where
  pub answer : Told ℕ
  pub buffer : List ℕ

-- "Buffers and state are untouched" by a call that is turned back
abbrev pub not_written : ℕ → ℕ → List ℕ → Writing
not_written q k b = record { answer = refusal q k; buffer = b }

-- 10, "image buffer too short", at "bytes needed"; "an accepted compile writes only the image's own bytes"
unfoldable pub written_into : List ℕ → List ℕ → Writing
written_into i b = cond (leb (length i) (length b)) (record { answer = done (length i); buffer = i ++ drop (length i) b }) (not_written 10 (length i) b)
