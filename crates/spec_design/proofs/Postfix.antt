-- The law of postfix items for expressions of a design, whatever the items are: what they do to a state, whatever comes after them, is told by recursion over
-- the expression. Operations of arrays and of images cite it and have no induction of their own. Assumes nothing.
use mathlib.Core.Path.{◌≡◌, refl, subst, sym, ◌∙◌, ap}
use mathlib.Core.List.{List, [], ◌∷◌, ◌++◌, append_assoc, append-nil}
use Prim.Native.Nat.{ℕ, ◌+◌, ◌≤◌, ◌<◌}
use native.Mathlib.Omega.{arith}
use lib.ListN.{length}
use Rattle.spec_design.specs.Types.{ExprTy}
use Rattle.spec_design.specs.Expression as E
use Rattle.spec_design.specs.Expression.{Leaf, Unary, Binary, Expr, items, Out, fine, fault, bind, Algebra, fold}

-- "postfix, left operand first": `lay` puts an item for each leaf, and for each operator behind its operands
pub record Lays {I : Type 0} (of_leaf : Leaf → I) (of_unary : Unary → ExprTy → I) (of_binary : Binary → ExprTy → I) (lay : Expr → List I) : Type 0 where
  pub leaf : (l : Leaf) → lay (E.leaf l) ≡ of_leaf l ∷ []
  pub unary : (o : Unary) (t : ExprTy) (a : Expr) → lay (E.unary o t a) ≡ lay a ++ (of_unary o t ∷ [])
  pub binary : (o : Binary) (t : ExprTy) (a b : Expr) → lay (E.binary o t a b) ≡ lay a ++ (lay b ++ (of_binary o t ∷ []))

-- For each construct: an item before k, in the state that its operands leave, claims what k claims in the state that the whole leaves. `Fits e w` is what an
-- expression needs of the state it is met in, `effect e w` the state it leaves, `Claim k w` any claim about the items k, met in w.
pub record Steps {I W : Type 0} (of_leaf : Leaf → I) (of_unary : Unary → ExprTy → I) (of_binary : Binary → ExprTy → I)
    (Fits : Expr → W → Type 0) (effect : Expr → W → W) (Claim : List I → W → Type 0) : Type 0 where
  pub leaf : (l : Leaf) (w : W) (k : List I) → Fits (E.leaf l) w → Claim k (effect (E.leaf l) w) → Claim (of_leaf l ∷ k) w
  pub unary : (o : Unary) (t : ExprTy) (a : Expr) (w : W) (k : List I) → Fits (E.unary o t a) w
      → Fits a w × (Claim k (effect (E.unary o t a) w) → Claim (of_unary o t ∷ k) (effect a w))
  pub binary : (o : Binary) (t : ExprTy) (a b : Expr) (w : W) (k : List I) → Fits (E.binary o t a b) w
      → Fits a w × Fits b (effect a w) × (Claim k (effect (E.binary o t a b) w) → Claim (of_binary o t ∷ k) (effect b (effect a w)))

-- THE LAW: what k claims in the state that an expression leaves, the expression's items before k claim in the state it is met in
module _ {I W : Type 0} {of_leaf : Leaf → I} {of_unary : Unary → ExprTy → I} {of_binary : Binary → ExprTy → I} {lay : Expr → List I}
    (L : Lays of_leaf of_unary of_binary lay)
    {Fits : Expr → W → Type 0} {effect : Expr → W → W} {Claim : List I → W → Type 0} (S : Steps of_leaf of_unary of_binary Fits effect Claim) where
  pub lay_law : (e : Expr) (w : W) (k : List I) → Fits e w → Claim k (effect e w) → Claim (lay e ++ k) w
  lay_law (E.leaf l) w k f c = subst (λ (z : List I). Claim (z ++ k) w) (sym (L.leaf l)) (S.leaf l w k f c)
  lay_law (E.unary o t a) w k f c =
      let p = S.unary o t a w k f in
      subst (λ (z : List I). Claim z w) (sym (ap (λ (z : List I). z ++ k) (L.unary o t a) ∙ append_assoc (lay a) (of_unary o t ∷ []) k))
      (lay_law a w (of_unary o t ∷ k) p.0 (p.1 c))
  lay_law (E.binary o t a b) w k f c =
      let p = S.binary o t a b w k f in
      subst (λ (z : List I). Claim z w) (sym (ap (λ (z : List I). z ++ k) (L.binary o t a b) ∙ append_assoc (lay a) (lay b ++ (of_binary o t ∷ [])) k))
      (lay_law a w ((lay b ++ (of_binary o t ∷ [])) ++ k) p.0
      (subst (λ (z : List I). Claim z (effect a w)) (sym (append_assoc (lay b) (of_binary o t ∷ []) k))
      (lay_law b (effect a w) (of_binary o t ∷ k) p.1 (p.2 c))))

  -- nothing comes after the expression
  pub lay_whole : (e : Expr) (w : W) → Fits e w → Claim [] (effect e w) → Claim (lay e) w
  lay_whole e w f c = subst (λ (l : List I). Claim l w) (append-nil (lay e)) (lay_law e w [] f c)

-- as many items as the expression has
count_steps : {I : Type 0} (of_leaf : Leaf → I) (of_unary : Unary → ExprTy → I) (of_binary : Binary → ExprTy → I) (r : ℕ)
    → Steps of_leaf of_unary of_binary (λ (e : Expr) (n : ℕ). Unit {0}) (λ (e : Expr) (n : ℕ). n + items e) (λ (k : List I) (n : ℕ). n + length k ≡ r)
unfolding items
count_steps of_leaf of_unary of_binary r =
    record { leaf = λ l n k f c. omega arith; unary = λ o t a n k f. (tt, λ c. omega arith); binary = λ o t a b n k f. (tt, tt, λ c. omega arith) }

pub lay_items : {I : Type 0} (of_leaf : Leaf → I) (of_unary : Unary → ExprTy → I) (of_binary : Binary → ExprTy → I) (lay : Expr → List I)
    → Lays of_leaf of_unary of_binary lay → (e : Expr) → length (lay e) ≡ items e
lay_items of_leaf of_unary of_binary lay L e = let h = lay_whole L (count_steps of_leaf of_unary of_binary (items e + 0)) e 0 tt (omega arith) in omega arith

-- WITH A STACK: items that push what an algebra makes of leaves and apply its operators, on a stack with room for them, come to the expression's fold
module _ {I X Y : Type 0} (A : Algebra X) (of_leaf : Leaf → I) (of_unary : Unary → ExprTy → I) (of_binary : Binary → ExprTy → I) (lay : Expr → List I)
    (L : Lays of_leaf of_unary of_binary lay)
    (room : ℕ) (run : List I → List X → Out Y)
    (on-leaf : (l : Leaf) (k : List I) (st : List X) → length st < room → run (of_leaf l ∷ k) st ≡ bind (A.of_leaf l) (λ x. run k (x ∷ st)))
    (on-unary : (o : Unary) (t : ExprTy) (k : List I) (x : X) (st : List X) → run (of_unary o t ∷ k) (x ∷ st) ≡ bind (A.of_unary o t x) (λ z. run k (z ∷ st)))
    (on-binary : (o : Binary) (t : ExprTy) (k : List I) (x y : X) (st : List X)
    → run (of_binary o t ∷ k) (y ∷ x ∷ st) ≡ bind (A.of_binary o t x y) (λ z. run k (z ∷ st))) where
  -- a stack, or the fault that ended the run
  abbrev Fits : Expr → Out (List X) → Type 0
  Fits e (fine st) = length st + items e ≤ room
  Fits e (fault q) = Unit {0}

  -- with one outcome more
  abbrev after : Out X → Out (List X) → Out (List X)
  after o (fine st) = bind o (λ z. fine (z ∷ st))
  after o (fault q) = fault q

  -- what is left to run comes to r
  abbrev Claim : Out Y → List I → Out (List X) → Type 0
  Claim r k w = bind w (run k) ≡ r

  pushed : (o : Out X) (k : List I) (st : List X) → bind (bind o (λ z. fine (z ∷ st))) (run k) ≡ bind o (λ z. run k (z ∷ st))
  unfolding bind
  pushed (fine x) k st = refl
  pushed (fault q) k st = refl

  leaf_claim : (r : Out Y) (l : Leaf) (w : Out (List X)) (k : List I) → Fits (E.leaf l) w → Claim r k (after (A.of_leaf l) w) → Claim r (of_leaf l ∷ k) w
  unfolding bind items
  leaf_claim r l (fine st) k f c = on-leaf l k st (omega arith) ∙ (sym (pushed (A.of_leaf l) k st) ∙ c)
  leaf_claim r l (fault q) k f c = c

  unary_fits : (o : Unary) (t : ExprTy) (a : Expr) (w : Out (List X)) → Fits (E.unary o t a) w → Fits a w
  unfolding items
  unary_fits o t a (fine st) f = omega arith
  unary_fits o t a (fault q) f = tt

  unary_claim : (r : Out Y) (o : Unary) (t : ExprTy) (v : Out X) (w : Out (List X)) (k : List I)
      → Claim r k (after (bind v (λ x. A.of_unary o t x)) w) → Claim r (of_unary o t ∷ k) (after v w)
  unfolding bind
  unary_claim r o t (fine x) (fine st) k c = on-unary o t k x st ∙ (sym (pushed (A.of_unary o t x) k st) ∙ c)
  unary_claim r o t (fault q) (fine st) k c = c
  unary_claim r o t (fine x) (fault p) k c = c
  unary_claim r o t (fault q) (fault p) k c = c

  binary_fits : (o : Binary) (t : ExprTy) (a b : Expr) (v : Out X) (w : Out (List X)) → Fits (E.binary o t a b) w → Fits a w × Fits b (after v w)
  unfolding bind items
  binary_fits o t a b (fine x) (fine st) f = (omega arith, omega arith)
  binary_fits o t a b (fault q) (fine st) f = (omega arith, tt)
  binary_fits o t a b (fine x) (fault p) f = (tt, tt)
  binary_fits o t a b (fault q) (fault p) f = (tt, tt)

  binary_claim : (r : Out Y) (o : Binary) (t : ExprTy) (v u : Out X) (w : Out (List X)) (k : List I)
      → Claim r k (after (bind v (λ x. bind u (λ y. A.of_binary o t x y))) w) → Claim r (of_binary o t ∷ k) (after u (after v w))
  unfolding bind
  binary_claim r o t (fine x) (fine y) (fine st) k c = on-binary o t k x y st ∙ (sym (pushed (A.of_binary o t x y) k st) ∙ c)
  binary_claim r o t (fine x) (fault q) (fine st) k c = c
  binary_claim r o t (fault q) u (fine st) k c = c
  binary_claim r o t v u (fault p) k c = c

  stack_steps : (r : Out Y) → Steps of_leaf of_unary of_binary Fits (λ (e : Expr) (w : Out (List X)). after (fold A e) w) (Claim r)
  unfolding fold
  stack_steps r =
      record {
        leaf = leaf_claim r;
        unary = λ o t a w k f. (unary_fits o t a w f, unary_claim r o t (fold A a) w k);
        binary = λ o t a b w k f. let p = binary_fits o t a b (fold A a) w f in (p.0, p.1, binary_claim r o t (fold A a) (fold A b) w k);
      }

  pub stack_law : (e : Expr) (k : List I) (st : List X) → length st + items e ≤ room → run (lay e ++ k) st ≡ bind (fold A e) (λ z. run k (z ∷ st))
  unfolding bind
  stack_law e k st h = lay_law L (stack_steps (bind (bind (fold A e) (λ z. fine (z ∷ st))) (run k))) e (fine st) k h refl ∙ pushed (fold A e) k st
