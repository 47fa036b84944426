-- Names and numbers of a text: after every token its length or value keeps its limit exactly where each name and number of the tree does. A machine adds up
-- what the names
-- and numbers so far have over their limits; by induction over the tree this is the sum over those of the tree, which is 0 exactly if none is over. Assumes
-- nothing.
use mathlib.Core.Path.{◌≡◌, refl}
use mathlib.Core.Bool.{Bool, true, false, cond}
use mathlib.Core.Logic.{◌↔◌}
use mathlib.Core.List.{List, [], ◌∷◌, ◌++◌}
use Prim.Native.Nat.{ℕ, ◌+◌, ◌-◌, ◌≤◌}
use native.Mathlib.Omega.{arith}
use lib.Dec.{eqb, eqb→eq}
use Rattle.spec_grammar.specs.Token.{Token}
use Rattle.base_codes.specs.Token.{NAME, NUMBER}
use Rattle.spec_grammar.specs.Tree.{Expr, number, bit, name, sign, negate, binary, parens, Stmt, output, assign, null, wait, if_then, if_else, while}
use Rattle.spec_grammar.specs.Tree.{Body, only, and_then, Init, without, integer_literal, logic_literal, minus, Mode, input, output_port, variable_mode}
use Rattle.spec_grammar.specs.Tree.{Group, Text}
use Rattle.spec_grammar.specs.Grammar.{text, Mark}
use Rattle.spec_grammar.specs.Meter.{Meter, zeroes, tick}
use Rattle.spec_grammar.specs.Limits.{Each, expr_names, expr_numbers, stmt_names, body_names, stmt_exprs, body_exprs, init_numbers, group_names, group_numbers}
use Rattle.spec_grammar.specs.Limits.{exprs_numbers, text_names, text_numbers}
use Rattle.spec_grammar.specs.Derivation.{Reads}
use Rattle.spec_grammar.proofs.Walk.{Machine, on_expr, on_stmt, on_body, on_more_names, on_names, on_mode, on_init, on_port, on_more_ports, on_ports, on_vars, on_text}
use Rattle.spec_grammar.proofs.Along.{Along, Follows, text_along}

-- the sum of what f says of the tokens of a list
total : (Token → ℕ) → List Token → ℕ
total f [] = 0
total f (x ∷ l) = f x + total f l

total_append : (f : Token → ℕ) (a b : List Token) → total f (a ++ b) ≡ total f a + total f b
unfolding total
total_append f [] b = omega arith
total_append f (x ∷ a) b = let h = total_append f a b in omega arith

exprs_append : (f : Token → ℕ) (a b : List Expr) → total f (exprs_numbers (a ++ b)) ≡ total f (exprs_numbers a) + total f (exprs_numbers b)
unfolding exprs_numbers total
exprs_append f [] b = omega arith
exprs_append f (e ∷ a) b =
    let h = exprs_append f a b in
    let k = total_append f (expr_numbers e) (exprs_numbers (a ++ b)) in
    let j = total_append f (expr_numbers e) (exprs_numbers a) in
    omega arith

-- A machine that adds what f says of each name, and g of each number.
module _ (f g : Token → ℕ) where
  abbrev adds : Machine ℕ
  adds = record { other = λ m n. n; named = λ m x n. n + f x; numbered = λ m x n. n + g x }

  expr_adds : (e : Expr) (n : ℕ) → on_expr adds e n ≡ n + (total f (expr_names e) + total g (expr_numbers e))
  unfolding on_expr expr_names expr_numbers total
  expr_adds (number x) n = omega arith
  expr_adds (bit x) n = omega arith
  expr_adds (name x) n = omega arith
  expr_adds (sign x a) n = expr_adds a n
  expr_adds (negate x a) n = expr_adds a n
  expr_adds (binary x a b) n =
      let h = expr_adds a n in
      let k = expr_adds b (on_expr adds a n) in
      simp (total_append) (omega arith)
  expr_adds (parens a) n = expr_adds a n

  mutual
    unfolding on_stmt stmt_names stmt_exprs exprs_numbers total

    stmt_adds : (s : Stmt) (n : ℕ) → on_stmt adds s n ≡ n + (total f (stmt_names s) + total g (exprs_numbers (stmt_exprs s)))
    stmt_adds (output x e) n = let h = expr_adds e (n + f x) in simp (total_append) (omega arith)
    stmt_adds (assign x e) n = let h = expr_adds e (n + f x) in simp (total_append) (omega arith)
    stmt_adds null n = omega arith
    stmt_adds (wait x) n = omega arith
    stmt_adds (if_then i e a) n =
        let h = expr_adds e n in
        let k = body_adds a (on_expr adds e n) in
        simp (total_append) (omega arith)
    stmt_adds (if_else i e a b) n =
        let h = expr_adds e n in
        let k = body_adds a (on_expr adds e n) in
        let j = body_adds b (on_body adds a (on_expr adds e n)) in
        simp (total_append, exprs_append) (omega arith)
    stmt_adds (while w e a) n =
        let h = expr_adds e n in
        let k = body_adds a (on_expr adds e n) in
        simp (total_append) (omega arith)

    body_adds : (b : Body) (n : ℕ) → on_body adds b n ≡ n + (total f (body_names b) + total g (exprs_numbers (body_exprs b)))
    body_adds (only s) n = stmt_adds s n
    body_adds (and_then s b) n =
        let h = stmt_adds s n in
        let k = body_adds b (on_stmt adds s n) in
        simp (total_append, exprs_append) (omega arith)

  more_add : (m : Mark) (l : List Token) (n : ℕ) → on_more_names adds m l n ≡ n + total f l
  unfolding on_more_names total
  more_add m [] n = omega arith
  more_add m (x ∷ l) n = let h = more_add m l (n + f x) in omega arith

  names_add : (m : Mark) (l : List Token) (n : ℕ) → on_names adds m l n ≡ n + total f l
  unfolding on_names total
  names_add m [] n = omega arith
  names_add m (x ∷ l) n = let h = more_add m l (n + f x) in omega arith

  mode_adds : (m : Mode) (n : ℕ) → on_mode adds m n ≡ n
  unfolding on_mode
  mode_adds input n = refl
  mode_adds output_port n = refl
  mode_adds variable_mode n = refl

  init_adds : (i : Init) (n : ℕ) → on_init adds i n ≡ n + total g (init_numbers i)
  unfolding on_init init_numbers total
  init_adds without n = omega arith
  init_adds (integer_literal x) n = omega arith
  init_adds (logic_literal x) n = omega arith
  init_adds (minus s x) n = omega arith

  port_adds : (p : Group) (n : ℕ) → on_port adds p n ≡ n + (total f p.names + total g (init_numbers p.init))
  unfolding on_port
  port_adds p n = simp (init_adds, mode_adds, names_add) (omega arith)

  more_ports_add : (gs : List Group) (n : ℕ) → on_more_ports adds gs n ≡ n + (total f (group_names gs) + total g (group_numbers gs))
  unfolding on_more_ports group_names group_numbers total
  more_ports_add [] n = omega arith
  more_ports_add (p ∷ gs) n =
      let h = port_adds p n in
      let k = more_ports_add gs (on_port adds p n) in
      simp (total_append) (omega arith)

  ports_add : (gs : List Group) (n : ℕ) → on_ports adds gs n ≡ n + (total f (group_names gs) + total g (group_numbers gs))
  unfolding on_ports group_names group_numbers total
  ports_add [] n = omega arith
  ports_add (p ∷ gs) n =
      let h = port_adds p n in
      let k = more_ports_add gs (on_port adds p n) in
      simp (total_append) (omega arith)

  vars_add : (gs : List Group) (n : ℕ) → on_vars adds gs n ≡ n + (total f (group_names gs) + total g (group_numbers gs))
  unfolding on_vars group_names group_numbers total
  vars_add [] n = omega arith
  vars_add (p ∷ gs) n = simp (vars_add gs, init_adds, names_add, total_append) (omega arith)

  text_adds : (t : Text) → on_text adds t 0 ≡ total f (text_names t) + total g (text_numbers t)
  unfolding on_text text_names text_numbers total
  text_adds t = simp (body_adds, vars_add, ports_add, total_append) (omega arith)

-- what a name, and a number, has over its limit
longer : Token → ℕ
longer x = x.size - 32

greater : Token → ℕ
greater x = x.value - 2147483647

-- the token keeps its limit; so did all so far; so does the tree
abbrev pub Kept : Meter → Type 0
Kept c = (c.bytes ≤ 32) × (c.literal ≤ 2147483647)

abbrev Well : ℕ → Type 0
Well n = n ≡ 0

abbrev pub Keeps : Text → Type 0
Keeps t = Each (λ (x : Token). x.size ≤ 32) (text_names t) × Each (λ (x : Token). x.value ≤ 2147483647) (text_numbers t)

abbrev Fits : Meter → ℕ → Type 0
Fits c n = Unit {0}

bytes_are : (c : Meter) (m : Mark) (x : Token) (a : Bool) → eqb x.kind NAME ≡ a → (tick c m x).bytes ≡ cond a x.size 0
unfolding tick
bytes_are c m x true e = rw e
bytes_are c m x false e = rw e

literal_is : (c : Meter) (m : Mark) (x : Token) (b : Bool) → eqb x.kind NUMBER ≡ b → (tick c m x).literal ≡ cond b x.value 0
unfolding tick
literal_is c m x true e = rw e
literal_is c m x false e = rw e

not_both : (k : ℕ) → eqb k NAME ≡ true → eqb k NUMBER ≡ true → ⊥
not_both k e f = omega (arith, eqb→eq k NAME (rw e tt), eqb→eq k NUMBER (rw f tt))

follows_as : (c : Meter) (n : ℕ) (m : Mark) (x : Token) (a b : Bool) → eqb x.kind NAME ≡ a → eqb x.kind NUMBER ≡ b
    → Follows Fits Kept Well n (cond a (n + longer x) (cond b (n + greater x) n)) (tick c m x)
unfolding longer greater
follows_as c n m x true true e f = absurd (not_both x.kind e f)
follows_as c n m x true false e f =
    let h : (tick c m x).bytes ≡ x.size = bytes_are c m x true e in
    let k : (tick c m x).literal ≡ 0 = literal_is c m x false f in
    record { fits = tt; ends = omega arith; goes_on = omega arith }
follows_as c n m x false true e f =
    let h : (tick c m x).bytes ≡ 0 = bytes_are c m x false e in
    let k : (tick c m x).literal ≡ x.value = literal_is c m x true f in
    record { fits = tt; ends = omega arith; goes_on = omega arith }
follows_as c n m x false false e f =
    let h : (tick c m x).bytes ≡ 0 = bytes_are c m x false e in
    let k : (tick c m x).literal ≡ 0 = literal_is c m x false f in
    record { fits = tt; ends = omega arith; goes_on = omega arith }

each_total : (f v : Token → ℕ) (n : ℕ) → ((x : Token) → f x ≡ 0 ↔ v x ≤ n) → (l : List Token) → total f l ≡ 0 ↔ Each (λ (x : Token). v x ≤ n) l
unfolding total
each_total f v n h [] = ((λ e. tt), λ e. refl)
each_total f v n h (x ∷ l) =
    let k = each_total f v n h l in
    ((λ e. ((h x).0 (omega arith), k.0 (omega arith))), λ e. let a = (h x).1 e.0 in let b = k.1 e.1 in omega arith)

longer_is : (x : Token) → longer x ≡ 0 ↔ x.size ≤ 32
unfolding longer
longer_is x = ((λ h. omega arith), λ h. omega arith)

greater_is : (x : Token) → greater x ≡ 0 ↔ x.value ≤ 2147483647
unfolding greater
greater_is x = ((λ h. omega arith), λ h. omega arith)

-- After every token of a text its length or value keeps its limit exactly where those of the tree do.
pub tokens_kept : (ts : List Token) (es : List Mark) (t : Text) → Reads text ts es t → Along Kept zeroes ts es ↔ Keeps t
tokens_kept ts es t r =
    let k : Along Kept zeroes ts es ↔ Well (on_text (adds longer greater) t 0) =
    text_along (adds longer greater) Fits Kept Well
    (λ c n f m x. follows_as c n m x (eqb x.kind NAME) (eqb x.kind NUMBER) refl refl) ts es t r 0 tt refl in
    let e : on_text (adds longer greater) t 0 ≡ total longer (text_names t) + total greater (text_numbers t) = text_adds longer greater t in
    let i = each_total longer (λ (x : Token). x.size) 32 longer_is (text_names t) in
    let j = each_total greater (λ (x : Token). x.value) 2147483647 greater_is (text_numbers t) in (
      (λ a. let w : Well (on_text (adds longer greater) t 0) = k.0 a in (i.0 (omega arith), j.0 (omega arith))),
      λ w. let a = i.1 w.0 in let b = j.1 w.1 in k.1 (omega arith),
    )
