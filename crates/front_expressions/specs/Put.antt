-- An item is written behind the others. Assumes nothing.
use Rattle.std.specs.Prelude.{◌≡◌, ℕ, ◌+◌, set, eqb}
use Rattle.spec_grammar.specs.Reader.{choose}
use Rattle.front_cursor.specs.Reading.{Read}
use Rattle.front_layout.specs.Items.{Arrays, arrays}

-- one item more is written, unless the cursor has refused
unfoldable pub put_at : Read → Read
put_at q = choose (eqb q.fault 0) (record { fault = q.fault; at = q.at; items = q.items; written = q.written + 1 }) q

-- the cursor and the arrays after an item with a code and a token's index was put behind the others
pub record Put (q : Read) (code at : ℕ) (before : Arrays) (r : Read) (after : Arrays) : Type 0 where
  pub answer : r ≡ put_at q
  pub stored : q.fault ≡ 0 → after ≡ arrays (set before.codes q.written code) (set before.tokens q.written at)
