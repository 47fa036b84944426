-- A line of bytes in an array of 560, and what a function adds to it. A header has at most 545 bytes: 16, then a space and at most 32 bytes for each of
-- 16 outputs, then LF. Assumes nothing.
use Rattle.std.specs.Prelude.{◌≡◌, List, ◌++◌, ℕ, ◌-◌, ◌≤◌, length, take, replicate}
use Rattle.spec_language.specs.Verdict.{verdict}
use Rattle.trace_header.specs.declared.Line.{Line}
use Rattle.trace_header.specs.Header.{header_for}

-- the array of a line: the bytes that the trace program "prints" first, then 0
unfoldable pub padded : List ℕ → List ℕ
padded l = l ++ replicate (560 - length l) 0

-- a line: the array, and how many bytes of it the trace program "prints"
unfoldable pub line_of : List ℕ → Line
line_of l = record { bytes = padded l; size = length l }

-- "prints a header": the line is that of the text's header, with at most 545 bytes, which stand first in the array
pub record Headed (text : List ℕ) (r : Line) : Type 0 where
  pub line : r ≡ line_of (header_for (verdict text))
  pub short : r.size ≤ 545
  pub shown : take r.size r.bytes ≡ header_for (verdict text)

-- the array and the count hold the bytes l, if these fit
pub record Shows (out : List ℕ) (n : ℕ) (l : List ℕ) : Type 0 where
  pub is : length l ≤ 560 → (out ≡ padded l) × (n ≡ length l)

-- whatever bytes are held before (₀), these are behind them after (₁)
pub record Puts (out₀ : List ℕ) (n₀ : ℕ) (part : List ℕ) (out₁ : List ℕ) (n₁ : ℕ) : Type 0 where
  pub is : (l : List ℕ) → Shows out₀ n₀ l → Shows out₁ n₁ (l ++ part)
