-- Which production of a statement the reader takes at a token, by the grammar's tables. Assumes nothing.
use mathlib.Core.Path.{◌≡◌, refl, ap}
use mathlib.Core.Bool.{Bool, true, false, ◌||◌}
use mathlib.Core.List.{[], ◌∷◌}
use Prim.Native.Nat.{ℕ}
use native.Mathlib.Omega.{arith}
use borrow.Author.Tests.{ne_eqb, eqb-true}
use lib.Dec.{eqb}
use Rattle.base_codes.specs.Token.{NAME, ONE, SEMI, BECOMES, EQ, LE, END, NULL, WAIT, UNTIL, IF, THEN, ELSE, WHILE, LOOP}
use Rattle.spec_grammar.specs.Tree.{null, wait, if_else, while, output, assign, and_then}
use Rattle.spec_grammar.specs.Grammar.{statement, target, expression, body, more, else_part, tk, nt, tok, stmt, stmt_fresh, fresh, deeper, shallower}
use Rattle.spec_grammar.specs.Grammar.{Production, productions, ◌↠◌}
use Rattle.front_cursor.proofs.Steps.{Into}
use Rattle.front_expressions.proofs.Picks.{tests, or_left, or_right}
use Rattle.front_statements.specs.Listings.{is_start}
use Rattle.spec_grammar.specs.Reader.{elem, first, firsts, follow, nullable, nullables, chosen, take, no_rule, pick}

abbrev pub assignment_rule : Production statement
assignment_rule = tk stmt NAME ∷ nt target ∷ [] ↠ λ n f. f n

abbrev pub null_rule : Production statement
null_rule = tk stmt NULL ∷ tok SEMI ∷ [] ↠ λ _ _. null

abbrev pub wait_rule : Production statement
wait_rule = tk stmt WAIT ∷ tok UNTIL ∷ tok NAME ∷ tok EQ ∷ tok ONE ∷ tok SEMI ∷ [] ↠ λ _ _ n _ _ _. wait n

abbrev pub if_rule : Production statement
if_rule = tk stmt_fresh IF ∷ nt expression ∷ tk deeper THEN ∷ nt body ∷ nt else_part ∷ tk shallower END ∷ tok IF ∷ tok SEMI ∷ [] ↠ λ i e _ a f _ _ _. f i e a

abbrev pub while_rule : Production statement
while_rule = tk stmt_fresh WHILE ∷ nt expression ∷ tk deeper LOOP ∷ nt body ∷ tk shallower END ∷ tok LOOP ∷ tok SEMI ∷ [] ↠ λ w e _ a _ _ _. while w e a

abbrev pub output_rule : Production target
output_rule = tk fresh LE ∷ nt expression ∷ tok SEMI ∷ [] ↠ λ _ e _ o. output o e

abbrev pub variable_rule : Production target
variable_rule = tk fresh BECOMES ∷ nt expression ∷ tok SEMI ∷ [] ↠ λ _ e _ v. assign v e

abbrev pub else_rule : Production else_part
else_rule = tok ELSE ∷ nt body ∷ [] ↠ λ _ b i e a. if_else i e a b

abbrev pub more_rule : Production more
more_rule = nt statement ∷ nt more ∷ [] ↠ λ t f s. and_then s (f t)

pub pick_assignment : pick (productions statement) NAME ≡ take assignment_rule
unfolding pick productions chosen firsts nullables first nullable follow elem
pick_assignment = refl

pub pick_null : pick (productions statement) NULL ≡ take null_rule
unfolding pick productions chosen firsts nullables first nullable follow elem
pick_null = refl

pub pick_wait : pick (productions statement) WAIT ≡ take wait_rule
unfolding pick productions chosen firsts nullables first nullable follow elem
pick_wait = refl

pub pick_if : pick (productions statement) IF ≡ take if_rule
unfolding pick productions chosen firsts nullables first nullable follow elem
pick_if = refl

pub pick_while : pick (productions statement) WHILE ≡ take while_rule
unfolding pick productions chosen firsts nullables first nullable follow elem
pick_while = refl

pub pick_output : pick (productions target) LE ≡ take output_rule
unfolding pick productions chosen firsts nullables first nullable follow elem
pick_output = refl

pub pick_variable : pick (productions target) BECOMES ≡ take variable_rule
unfolding pick productions chosen firsts nullables first nullable follow elem
pick_variable = refl

pub pick_else : pick (productions else_part) ELSE ≡ take else_rule
unfolding pick productions chosen firsts nullables first nullable follow elem
pick_else = refl

-- neither <= nor :=
pub no_target : (k : ℕ) → (k ≡ LE → ⊥) → (k ≡ BECOMES → ⊥) → pick (productions target) k ≡ no_rule
unfolding pick productions chosen firsts nullables first nullable follow elem
no_target k f g = rw (ne_eqb k LE f, ne_eqb k BECOMES g)

-- no statement
pub no_statement : (k : ℕ) → (k ≡ NAME → ⊥) → (k ≡ NULL → ⊥) → (k ≡ WAIT → ⊥) → (k ≡ IF → ⊥) → (k ≡ WHILE → ⊥) → pick (productions statement) k ≡ no_rule
unfolding pick productions chosen firsts nullables first nullable follow elem
no_statement k a b c d e = rw (ne_eqb k NAME a, ne_eqb k NULL b, ne_eqb k WAIT c, ne_eqb k IF d, ne_eqb k WHILE e)

-- A list of statements begins with a statement, and goes on where one can begin.
pub into_statement : (k : ℕ) → Into body statement (nt more ∷ []) (λ s f. f s) k
unfolding pick productions chosen firsts nullables first nullable follow elem
into_statement k =
    tests (nt statement ∷ nt more ∷ [] ↠ λ s f. f s) (pick (productions statement) k) (elem k (first statement))
    (λ e. let a = or_right (eqb k NAME) (elem k (NULL ∷ WAIT ∷ IF ∷ WHILE ∷ [])) e in
    let b = or_right (eqb k NULL) (elem k (WAIT ∷ IF ∷ WHILE ∷ [])) a in
    let c = or_right (eqb k WAIT) (elem k (IF ∷ WHILE ∷ [])) b in
    let d = or_right (eqb k IF) (elem k (WHILE ∷ [])) c in
    rw (
      or_left (eqb k NAME) (elem k (NULL ∷ WAIT ∷ IF ∷ WHILE ∷ [])) e,
      or_left (eqb k NULL) (elem k (WAIT ∷ IF ∷ WHILE ∷ [])) a,
      or_left (eqb k WAIT) (elem k (IF ∷ WHILE ∷ [])) b,
      or_left (eqb k IF) (elem k (WHILE ∷ [])) c,
      or_left (eqb k WHILE) false d,
    ))

or_false : (a : Bool) → a || false ≡ a
or_false true = refl
or_false false = refl

pub starts_elem : (k : ℕ) → elem k (first more) ≡ is_start k
unfolding first elem
starts_elem k = ap (λ (b : Bool). eqb k 1 || (eqb k 34 || (eqb k 35 || (eqb k 37 || b)))) (or_false (eqb k 40))

pub pick_more : (k : ℕ) → is_start k ≡ true → pick (productions more) k ≡ take more_rule
unfolding pick productions chosen firsts nullables first nullable follow elem
pick_more k h = go (eqb k 1) refl (eqb k 34) refl (eqb k 35) refl (eqb k 37) refl (eqb k 40) refl h
  where
    go : (a : Bool) → eqb k 1 ≡ a → (b : Bool) → eqb k 34 ≡ b → (c : Bool) → eqb k 35 ≡ c → (d : Bool) → eqb k 37 ≡ d → (e : Bool) → eqb k 40 ≡ e
        → a || (b || (c || (d || e))) ≡ true → pick (productions more) k ≡ take more_rule
    go true a b b' c c' d d' e e' z = rw (eqb-true k 1 a)
    go false a true b' c c' d d' e e' z = rw (eqb-true k 34 b')
    go false a false b' true c' d d' e e' z = rw (eqb-true k 35 c')
    go false a false b' false c' true d' e e' z = rw (eqb-true k 37 d')
    go false a false b' false c' false d' true e' z = rw (eqb-true k 40 e')
    go false a false b' false c' false d' false e' z = absurd (let y : ◌≡◌ {A = ℕ} 0 1 = cc in omega arith)
