-- What an item becomes, read off the arrays by position. Assumes nothing.
use Rattle.std.specs.Prelude.{◌≡◌, List, [], ◌∷◌, map, ℕ, zero, suc, ◌+◌, ◌*◌, min, eqb, leb, ltb, get_or, ℤ, pos}
use Rattle.std.proofs.lemmas.List.Edits.{sets}
use Rattle.base_codes.specs.Limit as L
use Rattle.base_codes.specs.Limit.{TEXT, NAMES}
use Rattle.base_codes.specs.Item.{NAME, NUMBER, BIT}
use Rattle.base_codes.specs.Operation.{STD_LOGIC, INPUT, VARIABLE}
use Rattle.base_codes.specs.Declaration as D
use Rattle.base_codes.specs.Statement as K
use Rattle.base_codes.specs.Token.{ONE}
use Rattle.spec_grammar.specs.Reader.{choose}
use Rattle.spec_semantics.specs.Twos.{unsigned32}
use Rattle.spec_language.specs.Words.{value}
use Rattle.front_token.specs.Places.{part}
use Rattle.front_offences.specs.Positions.{mode_in}
use Rattle.front_layout.specs.Rows.{Row, row}
use Rattle.base_ir.specs.Operations.{Op, op}

-- the number at an index of an array of tokens, 0 past its end
abbrev pub number_at : List ℕ → ℕ → ℕ
number_at l i = choose (ltb i TEXT) (get_or l i 0) 0

-- field c of declaration q, and its index among the names of its kind; 0 where there is no such declaration
abbrev pub field_at : List ℕ → ℕ → ℕ → ℕ
field_at decls q c = choose (ltb q NAMES) (choose (ltb c D.ROW) (get_or decls (D.ROW * q + c) 0) 0) 0

abbrev pub slot_at : List ℕ → ℕ → ℕ
slot_at slots q = choose (ltb q NAMES) (get_or slots q 0) 0

-- a literal's value, 0 where it passes the limit
abbrev pub within : ℕ → ℕ
within v = choose (leb v L.INTEGER) v 0

-- the value of the number that token i is
abbrev pub literal_at : List ℕ → List ℕ → List ℕ → ℕ → ℕ
literal_at text starts sizes i = within (value 0 (part text (number_at starts i) (number_at sizes i)))

-- a name's code by its declaration's mode; an output is never read, '0' stands in its place
abbrev pub name_code : ℕ → ℕ
name_code m = choose (eqb m D.IN) INPUT (choose (eqb m D.VARIABLE) VARIABLE STD_LOGIC)

abbrev pub name_arg : ℕ → ℕ → ℕ
name_arg m s = choose (eqb (name_code m) STD_LOGIC) 0 s

-- '0' or '1', by its token's kind
abbrev pub bit_at : List ℕ → ℕ → ℕ
bit_at kinds i = choose (eqb (number_at kinds i) ONE) 1 0

-- an item's value, for its code c and its token's index i: the number of the declaration that a name stands for, a literal's value; 0 for an operator
unfoldable pub value_at : List ℕ → List ℕ → List ℕ → List ℕ → List ℕ → ℕ → ℕ → ℕ
value_at text starts sizes kinds owners c i =
    choose (eqb c NAME) (number_at owners i) (choose (eqb c NUMBER) (literal_at text starts sizes i) (choose (eqb c BIT) (bit_at kinds i) 0))

-- the values from item m on, n of them
unfoldable pub values_at : (ℕ → ℕ → ℕ) → List ℕ → List ℕ → ℕ → ℕ → List ℤ
values_at v codes indices m zero = []
values_at v codes indices m (suc n) = pos (within (v (get_or codes m 0) (get_or indices m 0))) ∷ values_at v codes indices (m + 1) n

-- the array of arguments after the first pass (₁) from that before it (₀): the values of k items, as many as there is room for, all else as it was
abbrev pub Resolves : (ℕ → ℕ → ℕ) → List ℕ → List ℕ → ℕ → List ℤ → List ℤ → Type 0
Resolves v codes indices k args₀ args₁ = args₁ ≡ sets args₀ 0 (values_at v codes indices 0 (min k TEXT))

-- the code of an item's operation, where a name stands for declaration q; a literal and an operator have it already
unfoldable pub code_of : List ℕ → ℕ → ℕ → ℕ → ℕ
code_of decls d c q = choose (eqb c NAME) (name_code (mode_in decls d q)) c

-- its argument, from its value; an operator's operands' type is not told yet
unfoldable pub arg_of : List ℕ → ℕ → List ℕ → ℕ → ℤ → ℤ
arg_of decls d slots c z = choose (eqb c NAME) (pos (within (name_arg (mode_in decls d (unsigned32 z)) (slot_at slots (unsigned32 z))))) z

-- what F says of the codes and the values from item m on, n of them
unfoldable pub placed_at : {A : Type 0} → (ℕ → ℤ → A) → List ℕ → List ℤ → ℕ → ℕ → List A
placed_at F codes args m zero = []
placed_at F codes args m (suc n) = F (get_or codes m 0) (get_or args m (pos 0)) ∷ placed_at F codes args (m + 1) n

-- the arrays after the second pass (₁) from those before it (₀), in place
pub record Places (F : ℕ → ℤ → ℕ) (G : ℕ → ℤ → ℤ) (k : ℕ) (ops₀ ops₁ : List ℕ) (args₀ args₁ : List ℤ) : Type 0 where
  pub ops : ops₁ ≡ sets ops₀ 0 (placed_at F ops₀ args₀ 0 (min k TEXT))
  pub args : args₁ ≡ sets args₀ 0 (placed_at G ops₀ args₀ 0 (min k TEXT))

-- both passes: the code of an item's operation, for the item's code c and its token's index i; ..
unfoldable pub code_at : List ℕ → List ℕ → ℕ → ℕ → ℕ → ℕ
code_at owners decls d c i = code_of decls d c (within (number_at owners i))

-- .. and its argument
unfoldable pub arg_at : List ℕ → List ℕ → List ℕ → List ℕ → List ℕ → List ℕ → ℕ → List ℕ → ℕ → ℕ → ℕ
arg_at text starts sizes kinds owners decls d slots c i =
    choose (eqb c NAME) (name_arg (mode_in decls d (within (number_at owners i))) (slot_at slots (within (number_at owners i))))
    (choose (eqb c NUMBER) (literal_at text starts sizes i)
    (choose (eqb c BIT) (bit_at kinds i) 0))

-- the operations from item m on, n of them
unfoldable pub ops_at : (ℕ → ℕ → ℕ) → (ℕ → ℕ → ℕ) → List ℕ → List ℕ → ℕ → ℕ → List Op
ops_at f g codes indices m zero = []
ops_at f g codes indices m (suc n) = op (f (get_or codes m 0) (get_or indices m 0)) (pos (within (g (get_or codes m 0) (get_or indices m 0)))) ∷ ops_at f g codes indices
    (m + 1) n

-- the arrays of operations after both passes (₁) from those before them (₀): the operations of k items, as many as there is room for, stand in them from the first place on, all else is as it was
pub record Elaborates (f g : ℕ → ℕ → ℕ) (codes indices : List ℕ) (k : ℕ) (ops₀ ops₁ : List ℕ) (args₀ args₁ : List ℤ) : Type 0 where
  pub ops : ops₁ ≡ sets ops₀ 0 (map (λ (o : Op). o.code) (ops_at f g codes indices 0 (min k TEXT)))
  pub args : args₁ ≡ sets args₀ 0 (map (λ (o : Op). o.arg) (ops_at f g codes indices 0 (min k TEXT)))

-- a target's index, for the row's kind k and its token's index i; what has no target has 0
abbrev pub target_at : List ℕ → List ℕ → ℕ → ℕ → ℕ
target_at owners slots k i = choose (eqb k K.OUTPUT) (slot_at slots (number_at owners i)) (choose (eqb k K.VARIABLE) (slot_at slots (number_at owners i)) 0)

-- row j with its target in place of its token, and those from row j on, c of them
abbrev pub row_at : List ℕ → List ℕ → List ℕ → ℕ → Row
row_at owners slots rows j =
    row (get_or rows (K.ROW * j) 0) (target_at owners slots (get_or rows (K.ROW * j) 0) (get_or rows (K.ROW * j + K.TOKEN) 0)) (get_or rows (K.ROW * j + K.FROM) 0)
    (get_or rows (K.ROW * j + K.TO) 0) (get_or rows (K.ROW * j + K.OTHER) 0) (get_or rows (K.ROW * j + K.END) 0)

unfoldable pub rows_at : List ℕ → List ℕ → List ℕ → ℕ → ℕ → List Row
rows_at owners slots rows j zero = []
rows_at owners slots rows j (suc c) = row_at owners slots rows j ∷ rows_at owners slots rows (j + 1) c
