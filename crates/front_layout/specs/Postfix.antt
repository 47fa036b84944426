-- Expressions as lists of items, each behind its operands, and the same fold on the tree and on the items. Assumes nothing.
use Rattle.std.specs.Prelude.{List, [], ◌∷◌, ◌++◌, ℕ, eqb}
use Rattle.base_codes.specs.Item as I
use Rattle.base_codes.specs.Operation.{SIGN, NOT, operation_of}
use Rattle.spec_grammar.specs.Token.{Token}
use Rattle.spec_grammar.specs.Tree.{Expr, number, bit, name, sign, negate, binary, parens}
use Rattle.spec_grammar.specs.Reader.{choose}

-- an item: a code for what it is, and its token
pub record Item : Type 0 where
  pub code : ℕ
  pub token : Token

abbrev pub item_of : ℕ → Token → Item
item_of c x = record { code = c; token = x }

-- an operator with two operands has the code of its operation, by its token's kind
abbrev pub binary_item : Token → Item
binary_item x = item_of (operation_of x.kind) x

-- "Code is postfix, left operand first": parentheses are dropped
unfoldable pub postfix : Expr → List Item
postfix (number x) = item_of I.NUMBER x ∷ []
postfix (bit x) = item_of I.BIT x ∷ []
postfix (name x) = item_of I.NAME x ∷ []
postfix (sign x a) = postfix a ++ (item_of SIGN x ∷ [])
postfix (negate x a) = postfix a ++ (item_of NOT x ∷ [])
postfix (binary x a b) = postfix a ++ (postfix b ++ (binary_item x ∷ []))
postfix (parens a) = postfix a

-- what is made of an expression, bottom up
pub record Algebra (A : Type 0) : Type 0 where
  pub on_number : Token → A
  pub on_bit : Token → A
  pub on_name : Token → A
  pub on_sign : Token → A → A
  pub on_not : Token → A → A
  pub on_binary : Token → A → A → A

-- of the tree
unfoldable pub fold : {A : Type 0} → Algebra A → Expr → A
fold g (number x) = g.on_number x
fold g (bit x) = g.on_bit x
fold g (name x) = g.on_name x
fold g (sign x a) = g.on_sign x (fold g a)
fold g (negate x a) = g.on_not x (fold g a)
fold g (binary x a b) = g.on_binary x (fold g a) (fold g b)
fold g (parens a) = fold g a

-- with a stack: on its top value, or on the two on top, the upper one being the right operand
unfoldable pub one : {A : Type 0} → (A → A) → List A → List A
one f [] = []
one f (a ∷ s) = f a ∷ s

unfoldable pub two : {A : Type 0} → (A → A → A) → List A → List A
two f [] = []
two f (b ∷ []) = []
two f (b ∷ (a ∷ s)) = f a b ∷ s

-- one item, by its code
unfoldable pub step_item : {A : Type 0} → Algebra A → ℕ → Token → List A → List A
step_item g c x s =
    choose (eqb c I.NAME) (g.on_name x ∷ s) (choose (eqb c I.NUMBER) (g.on_number x ∷ s) (choose (eqb c I.BIT) (g.on_bit x ∷ s)
    (choose (eqb c SIGN) (one (g.on_sign x) s) (choose (eqb c NOT) (one (g.on_not x) s) (two (g.on_binary x) s)))))

-- all items, from the first on
unfoldable pub exec : {A : Type 0} → Algebra A → List Item → List A → List A
exec g [] s = s
exec g (i ∷ is) s = exec g is (step_item g i.code i.token s)
