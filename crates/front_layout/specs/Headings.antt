-- Declared names as a list in text order, and the array of them: six numbers for each. Assumes nothing.
use Rattle.std.specs.Prelude.{◌≡◌, List, [], ◌∷◌, ◌++◌, map, ℕ, zero, suc, ◌+◌, ◌*◌, ◌≤◌, length, get_or, set}
use Rattle.base_codes.specs.Declaration as D
use Rattle.base_codes.specs.Limit as L
use Rattle.spec_grammar.specs.Token.{Token}
use Rattle.spec_grammar.specs.Tree.{Init, without, integer_literal, logic_literal, minus, Mode, input, output_port, variable_mode, Group, Text}
use Rattle.spec_design.specs.Types.{type_byte}
use Rattle.spec_language.specs.Declarations.{type_named, groups}
use Rattle.front_layout.specs.Tokens.{no_token, token_at}

-- the mode as a number: 0 in, 1 out, 2 variable
unfoldable pub mode_code : Mode → ℕ
mode_code input = D.IN
mode_code output_port = D.OUT
mode_code variable_mode = D.VARIABLE

-- the initial value's kind: 0 none, 1 a number, 2 '0' or '1', 3 a number after -
unfoldable pub init_code : Init → ℕ
init_code without = D.NONE
init_code (integer_literal x) = D.NUMBER
init_code (logic_literal x) = D.BIT
init_code (minus s x) = D.NEGATIVE

-- "value's first token"
unfoldable pub init_token : Init → Token
init_token without = no_token
init_token (integer_literal x) = x
init_token (logic_literal x) = x
init_token (minus s x) = s

-- the number or literal itself
unfoldable pub value_token : Init → Token
value_token without = no_token
value_token (integer_literal x) = x
value_token (logic_literal x) = x
value_token (minus s x) = x

-- a declared name: its token, its mode, type and kind of initial value as numbers, the value's first token, the value's own token, its group's first name
pub record Heading : Type 0 where
  pub name : Token
  pub mode : ℕ
  pub type : ℕ
  pub init : ℕ
  pub sign : Token
  pub value : Token
  pub first : Token

-- the names of a group whose first name is f
unfoldable pub names_of : Group → Token → List Token → List Heading
names_of g f [] = []
names_of g f (x ∷ xs) =
    record {
      name = x;
      mode = mode_code g.mode;
      type = type_byte (type_named g.type);
      init = init_code g.init;
      sign = init_token
          g.init;
      value = value_token g.init;
      first = f;
    } ∷ names_of g f xs

unfoldable pub group_names : Group → List Token → List Heading
group_names g [] = []
group_names g (x ∷ xs) = names_of g x (x ∷ xs)

unfoldable pub groups_names : List Group → List Heading
groups_names [] = []
groups_names (g ∷ gs) = group_names g g.names ++ groups_names gs

-- the names of one group
abbrev pub group_headings : Group → List Heading
group_headings g = group_names g g.names

-- all declared names, ports first, in text order
unfoldable pub headings : Text → List Heading
headings t = groups_names (groups t)

-- a declared name as the array has it: the index of its token, mode, type, kind of initial value, index of the value's first token (16384 for none), index of its group's first name
pub record DeclRow : Type 0 where
  pub name : ℕ
  pub mode : ℕ
  pub type : ℕ
  pub init : ℕ
  pub value : ℕ
  pub first : ℕ

-- row j of six numbers, and those from row j on, c of them
abbrev pub decl_in : List ℕ → ℕ → DeclRow
decl_in l j =
    record {
      name = get_or l (D.ROW * j) 0;
      mode = get_or l (D.ROW * j + D.MODE) 0;
      type = get_or l (D.ROW * j + D.TYPE) 0;
      init = get_or l (D.ROW * j + D.INIT) 0;
      value = get_or l (D.ROW * j + D.VALUE) 0;
      first = get_or l (D.ROW * j + D.FIRST) 0;
    }

unfoldable pub decls_from : List ℕ → ℕ → ℕ → List DeclRow
decls_from l j zero = []
decls_from l j (suc c) = decl_in l j ∷ decls_from l (j + 1) c

-- the number of an initial value after - is the token behind the sign
unfoldable pub value_index : ℕ → ℕ → ℕ
value_index zero v = v
value_index (suc zero) v = v
value_index (suc (suc zero)) v = v
value_index (suc (suc (suc k))) v = v + 1

-- the same with the tokens themselves
abbrev pub heading_seen : List Token → DeclRow → Heading
heading_seen ts r = record {
  name = token_at ts r.name;
  mode = r.mode;
  type = r.type;
  init = r.init;
  sign = token_at ts r.value;
  value = token_at ts
      (value_index r.init r.value);
  first = token_at ts r.first;
}

-- the array holds d declared names, which are these; "17 in ports, 16 out, 32 variables" make at most 65
pub record DeclsIn (ts : List Token) (hs : List Heading) (decls : List ℕ) (d : ℕ) : Type 0 where
  pub count : length hs ≡ d
  pub short : d ≤ L.NAMES
  pub are : map (heading_seen ts) (decls_from decls 0 d) ≡ hs

-- row j is stored
unfoldable pub set_decl : ℕ → DeclRow → List ℕ → List ℕ
set_decl j r l =
    set (set (set (set (set (set l (D.ROW * j) r.name) (D.ROW * j + D.MODE) r.mode) (D.ROW * j + D.TYPE) r.type) (D.ROW * j + D.INIT) r.init)
    (D.ROW * j + D.VALUE) r.value) (D.ROW * j + D.FIRST) r.first

-- the rows stand in the array from row j on, all else is as it was
unfoldable pub store_decls : ℕ → List DeclRow → List ℕ → List ℕ
store_decls j [] l = l
store_decls j (r ∷ rs) l = store_decls (j + 1) rs (set_decl j r l)

-- between i and j declared names these are written, and nothing else
pub record WroteNames (ts : List Token) (i j : ℕ) (before after : List ℕ) (hs : List Heading) : Type 0 where
  pub rows : List DeclRow
  pub count : j ≡ i + length hs
  pub are : map (heading_seen ts) rows ≡ hs
  pub stored : after ≡ store_decls i rows before
