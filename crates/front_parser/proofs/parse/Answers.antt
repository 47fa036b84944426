-- `front_parser::parse` meets its contract: no text has more tokens than a text has bytes, and what else there is to say the reader of the parts says. Assumes nothing.
use mathlib.Core.Path.{refl}
use native.Mathlib.Omega.{arith}
use Rattle.front_parser.proofs.parse.Goals as goal

pub returns-then-n-gt-TEXT : goal.returns-then-n-gt-TEXT
returns-then-n-gt-TEXT c =
    let g = c.if-n-gt-TEXT.true in record { reads = λ ts l holds. absurd (omega arith); too_many = λ w. refl; untouched = λ w. refl }
