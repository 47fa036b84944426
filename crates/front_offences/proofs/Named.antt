-- The items of a tree whose tokens have their kinds: an item that is a name has a name for its token. Assumes nothing.
use mathlib.Core.Path.{◌≡◌}
use mathlib.Core.List.{List}
use Prim.Native.Nat.{ℕ}
use native.Mathlib.Omega.{arith}
use Rattle.spec_grammar.specs.Token.{Token}
use Rattle.base_codes.specs.Token.{NAME}
use Rattle.base_codes.specs.Item as I
use Rattle.spec_grammar.specs.Tree.{Expr}
use Rattle.spec_grammar.specs.Limits.{Each}
use Rattle.front_layout.specs.Postfix.{Item, postfix}
use Rattle.base_codes.proofs.OperationLaws.{operation_none}
use Rattle.front_layout.proofs.Folds.{Steps, postfix_whole}
use Rattle.front_offences.specs.Kinded.{KindedExpr}

-- an item by its code and token, and by itself
abbrev pub NamedItem : ℕ → Token → Type 0
NamedItem c x = c ≡ I.NAME → x.kind ≡ NAME

abbrev pub IsNamed : Item → Type 0
IsNamed i = NamedItem i.code i.token

named_steps : Steps (λ (e : Expr) (w : Unit {0}). KindedExpr e) (λ (e : Expr) (w : Unit {0}). w) (λ (k : List Item) (w : Unit {0}). Each IsNamed k)
named_steps =
    record {
      number = λ x w k f c. ((λ z. absurd (omega arith)), c);
      bit = λ x w k f c. ((λ z. absurd (omega arith)), c);
      name = λ x w k f c. ((λ z. f), c);
      sign = λ x a w k f. (f.1, λ c. ((λ z. absurd (omega arith)), c));
      negate = λ x a w k f. (f.1, λ c. ((λ z. absurd (omega arith)), c));
      binary = λ x a b w k f. (f.1, f.2, λ c. ((λ z. absurd (operation_none x.kind _ (omega arith) (omega arith) z)), c));
      parens = λ a w k f. (f, λ c. c);
    }

pub postfix_named : (e : Expr) → KindedExpr e → Each IsNamed (postfix e)
postfix_named e h = postfix_whole named_steps e tt h tt
