-- The items of an expression, one after the other, leave its type and its lowest offence: by the law of postfix items. Assumes nothing.
use mathlib.Core.Path.{◌≡◌, refl, sym, ap, ◌∙◌}
use mathlib.Core.Option.{Option}
use mathlib.Core.List.{List, ◌∷◌, [], ◌++◌}
use Prim.Native.Nat.{ℕ, ◌+◌, ◌≤◌, ◌<◌}
use native.Mathlib.Omega.{arith}
use Rattle.std.specs.Prelude as P
use borrow.Author.Tests.{lt-ltb}
use lib.ListN.{length}
use Rattle.spec_grammar.specs.Token.{Token}
use Rattle.spec_grammar.specs.Tree.{Expr, sign, negate, binary}
use Rattle.spec_grammar.specs.Limits.{item_count}
use Rattle.spec_design.specs.Types.{ExprTy, std_logic, integer, plain}
use Rattle.spec_design.specs.Expression as O
use Rattle.spec_design.specs.Expression.{sum_type, logical_type, type_of_unary}
use Rattle.spec_language.specs.Lists.{unless, lowest}
use Rattle.spec_language.specs.Declarations.{Decl, find, type_in}
use Rattle.spec_language.specs.Typing.{result_of, on_one, on_two, type_of, types_in, wrong1, wrong2}
use Rattle.base_codes.specs.Item as I
use Rattle.base_codes.specs.Operation.{SIGN, NOT, operator_of, count_or, operands_of}
use Rattle.base_codes.specs.Types.{tag_of, tag_or}
use Rattle.base_codes.specs.Limit.{ITEMS}
use Rattle.front_layout.specs.Postfix.{Item, item_of, binary_item, postfix}
use Rattle.front_layout.proofs.Folds.{Steps, postfix_law}
use Rattle.front_offences.specs.Lowest.{option_of, lowest_of, lower}
use Rattle.front_offences.specs.Kinded.{OperatorKind, KindedExpr}
use Rattle.front_offences.proofs.Lowest.{lower_none, lower_assoc, lowest_append}
use Rattle.front_typing.specs.Operators.{right_one, right_two}
use Rattle.front_typing.specs.Expressions.{Work, work, pushed, unary_on, binary_on, step_work}
use Rattle.front_typing.proofs.OperatorLaws.{unary_law, two_operands, binary_law, wrong1_law, wrong2_law}

module _ (Δ : List Decl) where
  -- one item with its token, and all of them
  unfoldable pub item_step : Item → Work → Work
  item_step i w = step_work i.code (tag_or (type_in (find Δ i.token.value))) i.token.place w

  unfoldable pub list_work : List Item → Work → Work
  list_work [] w = w
  list_work (i ∷ is) w = list_work is (item_step i w)

  number_step : (x : Token) (s : List ℕ) (b : P.Option ℕ) → length s < ITEMS → item_step (item_of I.NUMBER x) (work s b) ≡ work (tag_of (plain integer) ∷ s) b
  unfolding item_step step_work pushed operands_of count_or
  number_step x s b h = rw (lt-ltb (length s) ITEMS h)

  bit_step : (x : Token) (s : List ℕ) (b : P.Option ℕ) → length s < ITEMS → item_step (item_of I.BIT x) (work s b) ≡ work (tag_of (plain std_logic) ∷ s) b
  unfolding item_step step_work pushed operands_of count_or
  bit_step x s b h = rw (lt-ltb (length s) ITEMS h)

  name_step : (x : Token) (s : List ℕ) (b : P.Option ℕ) → length s < ITEMS → item_step (item_of I.NAME x) (work s b) ≡ work (tag_or (type_in (find Δ x.value)) ∷ s) b
  unfolding item_step step_work pushed operands_of count_or
  name_step x s b h = rw (lt-ltb (length s) ITEMS h)

  -- a leaf has no offence
  none_found : (s : List ℕ) (b : P.Option ℕ) (k : List Item) (r : Work) → list_work k (work s (lower b P.None)) ≡ r → list_work k (work s b) ≡ r
  none_found s b k r c = ap (λ (z : P.Option ℕ). list_work k (work s z)) (sym (lower_none b)) ∙ c

  -- an operator's place joins what was found before it
  join1 : (b : P.Option ℕ) (l : List ℕ) (a r : Option ExprTy) (p : ℕ)
      → lower (lower b (lowest_of l)) (lowest_of (unless (right_one (tag_or a) (tag_or r)) p)) ≡ lower b (lowest_of (l ++ wrong1 a r p))
  join1 b l a r p = rw (wrong1_law a r p, lowest_append l (wrong1 a r p)) (lower_assoc b (lowest_of l) (lowest_of (wrong1 a r p)))

  join2 : (b : P.Option ℕ) (l m : List ℕ) (a c r : Option ExprTy) (p : ℕ)
      → lower (lower (lower b (lowest_of l)) (lowest_of m)) (lowest_of (unless (right_two (tag_or a) (tag_or c) (tag_or r)) p))
      ≡ lower b (lowest_of (l ++ (m ++ wrong2 a c r p)))
  join2 b l m a c r p =
      rw (wrong2_law a c r p, lowest_append l (m ++ wrong2 a c r p), lowest_append m (wrong2 a c r p))
      (lower_assoc (lower b (lowest_of l)) (lowest_of m) (lowest_of (wrong2 a c r p))
      ∙ lower_assoc b (lowest_of l) (lower (lowest_of m) (lowest_of (wrong2 a c r p))))

  sign_step : (x : Token) (a : Option ExprTy) (l : List ℕ) (s : List ℕ) (b : P.Option ℕ)
      → item_step (item_of SIGN x) (work (tag_or a ∷ s) (lower b (lowest_of l)))
      ≡ work (tag_or (on_one sum_type a) ∷ s) (lower b (lowest_of (l ++ wrong1 a (on_one sum_type a) x.place)))
  unfolding item_step step_work unary_on operands_of count_or type_of_unary
  sign_step x a l s b = rw (unary_law SIGN O.sign refl a, join1 b l a (on_one sum_type a) x.place)

  not_step : (x : Token) (a : Option ExprTy) (l : List ℕ) (s : List ℕ) (b : P.Option ℕ)
      → item_step (item_of NOT x) (work (tag_or a ∷ s) (lower b (lowest_of l)))
      ≡ work (tag_or (on_one logical_type a) ∷ s) (lower b (lowest_of (l ++ wrong1 a (on_one logical_type a) x.place)))
  unfolding item_step step_work unary_on operands_of count_or type_of_unary
  not_step x a l s b = rw (unary_law NOT O.invert refl a, join1 b l a (on_one logical_type a) x.place)

  binary_step_lem : (x : Token) (a c : Option ExprTy) (l m : List ℕ) (s : List ℕ) (b : P.Option ℕ) → OperatorKind x.kind
      → item_step (binary_item x) (work (tag_or c ∷ (tag_or a ∷ s)) (lower (lower b (lowest_of l)) (lowest_of m)))
      ≡ work (tag_or (on_two (result_of (operator_of x.kind)) a c) ∷ s)
      (lower b (lowest_of (l ++ (m ++ wrong2 a c (on_two (result_of (operator_of x.kind)) a c) x.place))))
  unfolding item_step step_work binary_on
  binary_step_lem x a c l m s b h =
      rw (two_operands x.kind h, binary_law x.kind a c, join2 b l m a c (on_two (result_of (operator_of x.kind)) a c) x.place)

  -- what an expression needs: tokens of the right kinds, and room on the stack
  abbrev Fits : Expr → Work → Type 0
  Fits e w = KindedExpr e × (length w.stack + item_count e ≤ ITEMS)

  -- its type on the stack, its lowest offence joined to what was found before it
  abbrev judged : Expr → Work → Work
  judged e w = work (tag_or (type_of Δ e) ∷ w.stack) (lower w.lowest (lowest_of (types_in Δ e)))

  -- an item that comes to v, and the items behind it
  before : (i : Item) (k : List Item) (w v r : Work) → item_step i w ≡ v → list_work k v ≡ r → list_work (i ∷ k) w ≡ r
  unfolding list_work
  before i k w v r e c = ap (list_work k) e ∙ c

  steps : (r : Work) → Steps Fits judged (λ (k : List Item) (w : Work). list_work k w ≡ r)
  unfolding type_of types_in item_count option_of lowest
  steps r =
      record {
        number = λ x w k f c. before (item_of I.NUMBER x) k w (work (tag_of (plain integer) ∷ w.stack) w.lowest) r
            (number_step x w.stack w.lowest (omega arith)) (none_found (tag_of (plain integer) ∷ w.stack) w.lowest k r c);
        bit = λ x w k f c. before (item_of I.BIT x) k w (work (tag_of (plain std_logic) ∷ w.stack) w.lowest) r
            (bit_step x w.stack w.lowest (omega arith)) (none_found (tag_of (plain std_logic) ∷ w.stack) w.lowest k r c);
        name = λ x w k f c. before (item_of I.NAME x) k w (work (tag_or (type_in (find Δ x.value)) ∷ w.stack) w.lowest) r
            (name_step x w.stack w.lowest (omega arith)) (none_found (tag_or (type_in (find Δ x.value)) ∷ w.stack) w.lowest k r c);
        sign = λ x a w k f. (
          (f.0.1, omega arith),
          λ c. before (item_of SIGN x) k (judged a w) (judged (sign x a) w) r
              (sign_step x (type_of Δ a) (types_in Δ a) w.stack w.lowest) c,
        );
        negate = λ x a w k f. (
          (f.0.1, omega arith),
          λ c. before (item_of NOT x) k (judged a w) (judged (negate x a) w) r
              (not_step x (type_of Δ a) (types_in Δ a) w.stack w.lowest) c,
        );
        binary = λ x a b w k f. (
          (f.0.1, omega arith),
          (f.0.2, omega arith),
          λ c. before (binary_item x) k (judged b (judged a w)) (judged (binary x a b) w) r
              (binary_step_lem x (type_of Δ a) (type_of Δ b) (types_in Δ a) (types_in Δ b) w.stack w.lowest f.0.0) c,
        );
        parens = λ a w k f. (f, λ c. c);
      }

  -- the items of an expression, whatever comes after them
  pub expr_law : (e : Expr) (k : List Item) (s : List ℕ) (b : P.Option ℕ) → KindedExpr e → length s + item_count e ≤ ITEMS
      → list_work (postfix e ++ k) (work s b) ≡ list_work k (work (tag_or (type_of Δ e) ∷ s) (lower b (lowest_of (types_in Δ e))))
  expr_law e k s b w h = postfix_law (steps (list_work k (judged e (work s b)))) e (work s b) k (w, h) refl
