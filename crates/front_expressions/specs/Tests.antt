-- The tests on kinds by which the readers of expressions choose. Assumes nothing.
use Rattle.std.specs.Prelude.{ℕ, eqb}
use Rattle.base_codes.specs.Item as I
use Rattle.base_codes.specs.Token.{NAME, NUMBER}
use Rattle.spec_grammar.specs.Reader.{choose}

-- the code of a leaf's item, by the kind of its token: '0' and '1' have one
abbrev pub leaf_code : ℕ → ℕ
leaf_code k = choose (eqb k NAME) I.NAME (choose (eqb k NUMBER) I.NUMBER I.BIT)
