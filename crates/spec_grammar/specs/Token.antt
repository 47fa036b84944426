-- Tokens, as the grammar sees them; their kinds are numbers of the crate base_codes. Assumes nothing.
use Rattle.std.specs.Prelude.{ℕ}

-- A token's kind; its value (a name: its folded bytes as one number, base 256; a number: its value, cut at 2147483648; '0' and '1': 0 and 1);
-- how many bytes it has; and its place, the byte offset where it starts.
pub record Token : Type 0 where
  pub kind : ℕ
  pub value : ℕ
  pub size : ℕ
  pub place : ℕ
