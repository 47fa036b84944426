-- The types of an expression by position: its items one after the other, with a stack of types and the lowest offence so far. Assumes nothing.
use Rattle.std.specs.Prelude.{◌≡◌, List, [], ◌∷◌, Option, None, ℕ, zero, suc, ◌+◌, ◌*◌, ◌-◌, ◌≤◌, eqb, ltb, length, get_or}
use Rattle.base_codes.specs.Stack.{stack_of}
use Rattle.spec_design.specs.Types.{std_logic, integer, plain}
use Rattle.base_codes.specs.Item.{NAME, NUMBER}
use Rattle.base_codes.specs.Operation.{operands_of}
use Rattle.base_codes.specs.Declaration.{ROW, TYPE}
use Rattle.base_codes.specs.Types.{NONE, tag_of, tag_or, declared_type, unary_type_for}
use Rattle.base_codes.specs.Limit.{TEXT, ITEMS, NAMES}
use Rattle.spec_grammar.specs.Reader.{choose}
use Rattle.spec_language.specs.Lists.{unless}
use Rattle.front_offences.specs.declared.tree.Tree.{Tree}
use Rattle.front_offences.specs.Lowest.{lowest_of, lower}
use Rattle.front_layout.specs.Arrays.{number_in}
use Rattle.front_typing.specs.Operators.{binary_code, right_one, right_two}
use Rattle.front_typing.specs.declared.Progress.{Progress}
use Rattle.front_typing.specs.declared.Judged.{Judged}

-- what is read: items, places of n tokens, owners of names, d declared names
pub record Sources : Type 0 where
  pub codes : List ℕ
  pub indices : List ℕ
  pub places : List ℕ
  pub owners : List ℕ
  pub decls : List ℕ
  pub n : ℕ
  pub d : ℕ

abbrev pub sources : List ℕ → List ℕ → List ℕ → List ℕ → List ℕ → ℕ → ℕ → Sources
sources cs is ps os ds n d = record { codes = cs; indices = is; places = ps; owners = os; decls = ds; n = n; d = d }

-- those of a text
abbrev pub sources_of : Tree → Sources
sources_of tree = sources tree.codes.now tree.indices.now tree.starts.now tree.owners.now tree.decls.now tree.shape.tokens tree.shape.names

-- the type of declared name j; untyped where there is none
abbrev pub declared_code : List ℕ → ℕ → ℕ → ℕ
declared_code decls d j = choose (ltb j d) (choose (ltb j NAMES) (tag_or (declared_type (get_or decls (ROW * j + TYPE) 0))) NONE) NONE

-- the type of the name at a token's index
unfoldable pub name_code : List ℕ → List ℕ → ℕ → ℕ → ℕ
name_code owners decls d i = choose (ltb i TEXT) (declared_code decls d (get_or owners i 0)) NONE

-- the type and the place that are read at a token's index
abbrev pub name_at : Sources → ℕ → ℕ
name_at A i = name_code A.owners A.decls A.d i

abbrev pub place_at : Sources → ℕ → ℕ
place_at A i = number_in A.places A.n i

-- the stack of types, the last one first, and the lowest offence
pub record Work : Type 0 where
  pub stack : List ℕ
  pub lowest : Option ℕ

abbrev pub work : List ℕ → Option ℕ → Work
work s b = record { stack = s; lowest = b }

-- an operand, by its item code: a name, whose type is t; a number; '0' or '1'
abbrev pub operand_code : ℕ → ℕ → ℕ
operand_code c t = choose (eqb c NAME) t (choose (eqb c NUMBER) (tag_of (plain integer)) (tag_of (plain std_logic)))

-- one type more, where there is room
unfoldable pub pushed : ℕ → List ℕ → Option ℕ → Work
pushed t s b = choose (ltb (length s) ITEMS) (work (t ∷ s) b) (work s b)

-- an operator at the place p, on one operand and on two
unfoldable pub unary_on : ℕ → ℕ → List ℕ → Option ℕ → Work
unary_on c p [] b = work [] b
unary_on c p (t ∷ s) b = work (tag_or (unary_type_for c t) ∷ s) (lower b (lowest_of (unless (right_one t (tag_or (unary_type_for c t))) p)))

unfoldable pub binary_on : ℕ → ℕ → List ℕ → Option ℕ → Work
binary_on c p [] b = work [] b
binary_on c p (u ∷ []) b = work (u ∷ []) b
binary_on c p (u ∷ (t ∷ s)) b = work (binary_code c t u ∷ s) (lower b (lowest_of (unless (right_two t u (binary_code c t u)) p)))

-- an item of code c, with the place p, whose type is t if it is a name
unfoldable pub step_work : ℕ → ℕ → ℕ → Work → Work
step_work c t p w =
    choose (eqb (operands_of c) 0) (pushed (operand_code c t) w.stack w.lowest)
    (choose (eqb (operands_of c) 1) (unary_on c p w.stack w.lowest) (binary_on c p w.stack w.lowest))

-- item m
abbrev pub item_work : Sources → ℕ → Work → Work
item_work A m w = step_work (get_or A.codes m 0) (name_at A (get_or A.indices m 0)) (place_at A (get_or A.indices m 0)) w

-- the items from m on, c of them
unfoldable pub items_work : Sources → ℕ → ℕ → Work → Work
items_work A m zero w = w
items_work A m (suc c) w = items_work A (m + 1) c (item_work A m w)

-- the items of an expression
abbrev pub expr_work : Sources → ℕ → ℕ → Work
expr_work A from to = items_work A from (to - from) (work [] None)

-- the type of the whole; untyped where there is none
unfoldable pub top_of : List ℕ → ℕ
top_of [] = NONE
top_of (t ∷ s) = t

-- an array with room for the items of an expression, of which n elements are in use
pub record Room (a : List ℕ) (n : ℕ) : Type 0 where
  pub size : length a ≡ ITEMS
  pub depth : n ≤ ITEMS

-- the array a and the answer r say w
pub record Says (a : List ℕ) (r : Progress) (w : Work) : Type 0 where
  pub room : Room a r.depth
  pub says : work (stack_of 0 a r.depth) r.lowest ≡ w

-- the type and the lowest offence of an expression are those of w
pub record JudgedBy (r : Judged) (w : Work) : Type 0 where
  pub code : r.code ≡ top_of w.stack
  pub lowest : r.lowest ≡ w.lowest
