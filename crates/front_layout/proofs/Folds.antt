-- The one law of postfix items: what they do to a state, whatever comes after them, is told by recursion over the tree. Folding them with a stack is an
-- instance; later stages cite the law for their own states and claims, and have no induction over `postfix`. Assumes nothing.
use mathlib.Core.Path.{◌≡◌, refl, subst, sym}
use mathlib.Core.List.{List, [], ◌∷◌, ◌++◌, append_assoc, append-nil}
use mathlib.Core.Bool.{false}
use Prim.Native.Nat.{ℕ, ◌<◌}
use native.Mathlib.Omega.{arith}
use lib.Dec.{eqb}
use Rattle.base_codes.specs.Item as I
use Rattle.base_codes.specs.Operation.{SIGN, NOT, PLUS, operation_of}
use Rattle.base_codes.proofs.OperationLaws.{operation_apart}
use Rattle.spec_grammar.specs.Token.{Token}
use Rattle.spec_grammar.specs.Tree as T
use Rattle.spec_grammar.specs.Tree.{Expr}
use Rattle.front_layout.specs.Postfix.{Item, item_of, binary_item, postfix, Algebra, fold, one, two, step_item, exec}

-- For each construct: an item before k, in the state that its operands leave, claims what k claims in the state that the whole leaves. `Fits e w` is what an
-- expression needs of the state it is met in, `effect e w` the state it leaves, `Claim k w` any claim about the items k, met in w.
pub record Steps {W : Type 0} (Fits : Expr → W → Type 0) (effect : Expr → W → W) (Claim : List Item → W → Type 0) : Type 0 where
  pub number : (x : Token) (w : W) (k : List Item) → Fits (T.number x) w → Claim k (effect (T.number x) w) → Claim (item_of I.NUMBER x ∷ k) w
  pub bit : (x : Token) (w : W) (k : List Item) → Fits (T.bit x) w → Claim k (effect (T.bit x) w) → Claim (item_of I.BIT x ∷ k) w
  pub name : (x : Token) (w : W) (k : List Item) → Fits (T.name x) w → Claim k (effect (T.name x) w) → Claim (item_of I.NAME x ∷ k) w
  pub sign : (x : Token) (a : Expr) (w : W) (k : List Item) → Fits (T.sign x a) w
      → Fits a w × (Claim k (effect (T.sign x a) w) → Claim (item_of SIGN x ∷ k) (effect a w))
  pub negate : (x : Token) (a : Expr) (w : W) (k : List Item) → Fits (T.negate x a) w
      → Fits a w × (Claim k (effect (T.negate x a) w) → Claim (item_of NOT x ∷ k) (effect a w))
  pub binary : (x : Token) (a b : Expr) (w : W) (k : List Item) → Fits (T.binary x a b) w
      → Fits a w × Fits b (effect a w) × (Claim k (effect (T.binary x a b) w) → Claim (binary_item x ∷ k) (effect b (effect a w)))
  pub parens : (a : Expr) (w : W) (k : List Item) → Fits (T.parens a) w → Fits a w × (Claim k (effect (T.parens a) w) → Claim k (effect a w))

-- THE LAW: what k claims in the state that an expression leaves, the expression's items before k claim in the state it is met in
module _ {W : Type 0} {Fits : Expr → W → Type 0} {effect : Expr → W → W} {Claim : List Item → W → Type 0} (S : Steps Fits effect Claim) where
  pub postfix_law : (e : Expr) (w : W) (k : List Item) → Fits e w → Claim k (effect e w) → Claim (postfix e ++ k) w
  unfolding postfix
  postfix_law (T.number x) w k f c = S.number x w k f c
  postfix_law (T.bit x) w k f c = S.bit x w k f c
  postfix_law (T.name x) w k f c = S.name x w k f c
  postfix_law (T.sign x a) w k f c =
      let p = S.sign x a w k f in
      subst (λ (l : List Item). Claim l w) (sym (append_assoc (postfix a) (item_of SIGN x ∷ []) k)) (postfix_law a w (item_of SIGN x ∷ k) p.0 (p.1 c))
  postfix_law (T.negate x a) w k f c =
      let p = S.negate x a w k f in
      subst (λ (l : List Item). Claim l w) (sym (append_assoc (postfix a) (item_of NOT x ∷ []) k)) (postfix_law a w (item_of NOT x ∷ k) p.0 (p.1 c))
  postfix_law (T.binary x a b) w k f c =
      let p = S.binary x a b w k f in
      subst (λ (l : List Item). Claim l w) (sym (append_assoc (postfix a) (postfix b ++ (binary_item x ∷ [])) k))
      (postfix_law a w ((postfix b ++ (binary_item x ∷ [])) ++ k) p.0
      (subst (λ (l : List Item). Claim l (effect a w)) (sym (append_assoc (postfix b) (binary_item x ∷ []) k))
      (postfix_law b (effect a w) (binary_item x ∷ k) p.1 (p.2 c))))
  postfix_law (T.parens a) w k f c = let p = S.parens a w k f in postfix_law a w k p.0 (p.1 c)

  -- nothing comes after the expression
  pub postfix_whole : (e : Expr) (w : W) → Fits e w → Claim [] (effect e w) → Claim (postfix e) w
  postfix_whole e w f c = subst (λ (l : List Item). Claim l w) (append-nil (postfix e)) (postfix_law e w [] f c)

-- WITH A STACK

step_binary : {A : Type 0} (g : Algebra A) (x : Token) (a b : A) (s : List A) → step_item g (operation_of x.kind) x (b ∷ (a ∷ s)) ≡ g.on_binary x a b ∷ s
unfolding step_item two
step_binary g x a b s =
    rw (
      apart I.NAME (omega arith) (omega arith),
      apart I.NUMBER (omega arith) (omega arith),
      apart I.BIT (omega arith) (omega arith),
      apart SIGN (omega arith)
          (omega arith),
      apart NOT (omega arith) (omega arith),
    )
  where
    apart : (c : ℕ) → 0 < c → c < PLUS → eqb (operation_of x.kind) c ≡ false
    apart c l h = operation_apart x.kind c l h

stack_steps : {A : Type 0} (g : Algebra A) (r : List A)
    → Steps (λ (e : Expr) (s : List A). Unit {0}) (λ (e : Expr) (s : List A). fold g e ∷ s) (λ (k : List Item) (s : List A). exec g k s ≡ r)
unfolding exec step_item one fold
stack_steps g r =
    record {
      number = λ x s k f c. c;
      bit = λ x s k f c. c;
      name = λ x s k f c. c;
      sign = λ x a s k f. (tt, λ c. c);
      negate = λ x a s k f. (tt, λ c. c);
      binary = λ x a b s k f. (tt, tt, λ c. rw (step_binary g x (fold g a) (fold g b) s) c);
      parens = λ a s k f. (tt, λ c. c);
    }

-- folding the postfix of an expression with a stack is folding its tree, over any algebra and whatever comes after
pub exec_fold : {A : Type 0} (g : Algebra A) (e : Expr) (k : List Item) (s : List A) → exec g (postfix e ++ k) s ≡ exec g k (fold g e ∷ s)
exec_fold g e k s = postfix_law (stack_steps g (exec g k (fold g e ∷ s))) e s k tt refl
