-- The table of the kinds of bytes. Assumes nothing.
use Rattle.std.specs.Prelude.{◌≡◌, List, ℕ, ◌<◌, get_or}
use Rattle.spec_language.specs.Bytes as B
use Rattle.spec_language.specs.Bytes.{byte_kind}
use Rattle.front_token.specs.declared.kinds.ByteKind.{ByteKind}
use Rattle.front_token.specs.declared.kinds.ByteKind.TheVariants.{Letter, Digit, Underscore, Blank, Quote, Mark, Other}

-- the kind of byte as the table has it
abbrev pub named : B.ByteKind → ByteKind
named B.letter = Letter
named B.digit = Digit
named B.underscore = Underscore
named B.blank = Blank
named B.quote = Quote
named B.mark = Mark
named B.none = Other

-- "a constant table of 256 entries .. shown in one go to give every byte its kind"
pub record Kinds (table : List ByteKind) : Type 0 where
  pub each : (b : ℕ) → b < 256 → get_or table b Other ≡ named (byte_kind b)
