-- The rows of a group's names: what the readers of the heading make of the kinds of its tokens. Assumes nothing.
use Rattle.std.specs.Prelude.{List, [], ◌∷◌, ℕ, zero, suc, ◌+◌, ◌-◌, eqb}
use Rattle.spec_design.specs.Types.{std_logic, integer, type_byte}
use Rattle.base_codes.specs.Token.{NOWHERE, ZERO, ONE, BECOMES, MINUS, IN, INTEGER}
use Rattle.base_codes.specs.Declaration as D
use Rattle.spec_grammar.specs.Reader.{choose}
use Rattle.front_layout.specs.Tokens.{kind_in}
use Rattle.front_layout.specs.Headings.{DeclRow, store_decls}
use Rattle.front_declarations.specs.declared.Shape.{Shape}
use Rattle.front_declarations.specs.Headers.{HeaderRead}

-- the row of the name at an index, in a group of this shape
abbrev pub row_of : Shape → ℕ → DeclRow
row_of g at = record { name = at; mode = g.mode; type = g.kind; init = g.init; value = g.value; first = g.first }

-- "names with commas": the rows of c names from an index on, every second token
unfoldable pub rows_of : Shape → ℕ → ℕ → List DeclRow
rows_of g at zero = []
rows_of g at (suc c) = row_of g at ∷ rows_of g (at + 2) c

-- how many names are declared
abbrev pub declared_by : HeaderRead → ℕ
declared_by p = p.inputs + p.outputs + p.vars

-- the mode of a group by the kind of its mode word
abbrev pub mode_of : ℕ → ℕ
mode_of k = choose (eqb k IN) D.IN D.OUT

-- the type by the kind of the type word
abbrev pub type_of : ℕ → ℕ
type_of k = choose (eqb k INTEGER) (type_byte integer) (type_byte std_logic)

-- the kind of initial value, where a token of kind j stands behind the type word, and one of kind k behind that
abbrev pub init_of : ℕ → ℕ → ℕ
init_of j k = choose (eqb j BECOMES) (choose (eqb k MINUS) D.NEGATIVE (choose (eqb k ZERO) D.BIT (choose (eqb k ONE) D.BIT D.NUMBER))) D.NONE

-- the index of its first token, where a token of kind j stands at an index
abbrev pub value_from : ℕ → ℕ → ℕ
value_from j at = choose (eqb j BECOMES) (at + 1) NOWHERE

-- the shape of a group with this first name and mode, whose type word stands at an index
abbrev pub shape_at : List ℕ → ℕ → ℕ → ℕ → ℕ → Shape
shape_at kinds n first mode at = record {
  mode = mode;
  kind = type_of (kind_in kinds n at);
  init = init_of (kind_in kinds n (at + 1)) (kind_in kinds n (at + 1 + 1));
  value = value_from (kind_in kinds n (at + 1)) (at + 1);
  first = first;
}

-- the rows of such a group are stored: the names that are declared at e and not yet at p
abbrev pub store_group : List ℕ → ℕ → HeaderRead → HeaderRead → ℕ → ℕ → ℕ → List ℕ → List ℕ
store_group kinds n p e first mode at l = store_decls (declared_by p) (rows_of (shape_at kinds n first mode at) first (declared_by e - declared_by p)) l
