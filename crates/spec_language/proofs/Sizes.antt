-- How many inputs, outputs, variables and statements the process of a text has: the counts on the tree. The clock is one of the inputs, as a body of
-- class C has a wait, so the data inputs are fewer than the inputs. Assumes nothing.
use mathlib.Core.Path.{◌≡◌, refl, sym, ◌∙◌, ap}
use mathlib.Core.Bool.{Bool, true, false, cond, not, ◌&&◌}
use mathlib.Core.Logic.{◌⊎◌, inl, inr}
use mathlib.Core.Option.{Option, none, some}
use mathlib.Core.List.{List, [], ◌∷◌, ◌++◌}
use Prim.Native.Nat.{ℕ, suc, ◌+◌, ◌≤◌, ◌<◌}
use native.Mathlib.Omega.{arith}
use lib.Dec.{eqb}
use lib.ListN.{length, length-append}
use Rattle.spec_grammar.specs.Token.{Token}
use Rattle.spec_grammar.specs.Tree as T
use Rattle.spec_grammar.specs.Tree.{Body, Mode, Group, Text}
use Rattle.spec_grammar.specs.Limits.{Each, if_input, if_output, input_count, output_count, name_count, stmt_count, body_count}
use Rattle.spec_design.specs.Statement.{Class, A, B, C, seq_class, if_class, size}
use Rattle.spec_language.specs.Lists.{unless, each, filter}
use Rattle.spec_language.specs.Declarations.{Decl, Scope, declare, spread, groups, declared, is_input, is_output, is_variable, find, is_a, within, statements}
use Rattle.spec_language.specs.Declarations.{or_else, wait_name, first_wait, clock_of, is_clock, is_data, clock_like}
use Rattle.spec_language.specs.Clock.{clock, clock_for, reads_of, strays}
use Rattle.spec_language.specs.Classes.{class, classes}
use Rattle.spec_language.specs.Elaboration.{stmt, stmts}
use Rattle.spec_language.proofs.Facts.{clash, no_some, both_nil, unless_nil, and_true_both}
use Rattle.spec_language.proofs.Statements.{pair_some, looped_some, is_a_some}
use Rattle.spec_language.proofs.Modes.{Moded}

-- DECLARED NAMES

-- how many names the groups declare whose mode passes the test
count_of : (Mode → Bool) → List Group → ℕ
count_of p [] = 0
count_of p (g ∷ gs) = cond (p g.mode) (length g.names) 0 + count_of p gs

count_of_append : (p : Mode → Bool) (a b : List Group) → count_of p (a ++ b) ≡ count_of p a + count_of p b
unfolding count_of
count_of_append p [] b = omega arith
count_of_append p (g ∷ a) b = let h = count_of_append p a b in omega arith

-- a declaration whose mode passes the test
abbrev by : (Mode → Bool) → Decl → Bool
by p d = p d.mode

filter_append : (p : Decl → Bool) (a b : List Decl) → filter p (a ++ b) ≡ filter p a ++ filter p b
unfolding filter
filter_append p [] b = refl
filter_append p (d ∷ a) b = rw (filter_append p a b) (go (p d))
  where
    go : (q : Bool) → cond q (d ∷ (filter p a ++ filter p b)) (filter p a ++ filter p b) ≡ cond q (d ∷ filter p a) (filter p a) ++ filter p b
    go true = refl
    go false = refl

-- the filtered declarations are as many as the names of the groups of that mode
count_declare : (p : Mode → Bool) (g : Group) (xs : List Token) → length (filter (by p) (declare g xs)) ≡ cond (p g.mode) (length xs) 0
unfolding filter declare
count_declare p g [] = go (p g.mode) 0
  where
    go : (q : Bool) (n : ℕ) → n ≡ cond q n n
    go true n = refl
    go false n = refl
count_declare p g (x ∷ xs) = go (p g.mode) (filter (by p) (declare g xs)) (count_declare p g xs) _
  where
    go : (q : Bool) (l : List Decl) → length l ≡ cond q (length xs) 0 → (d : Decl) → length (cond q (d ∷ l) l) ≡ cond q (suc (length xs)) 0
    go true l h d = ap suc h
    go false l h d = h

count_spread : (p : Mode → Bool) (gs : List Group) → length (filter (by p) (spread gs)) ≡ count_of p gs
unfolding filter spread count_of
count_spread p [] = refl
count_spread p (g ∷ gs) =
    rw (filter_append (by p) (declare g g.names) (spread gs), length-append (filter (by p) (declare g g.names)) (filter (by p) (spread gs)))
    (rw (count_declare p g g.names, count_spread p gs))

count_declared : (p : Mode → Bool) (t : Text) → length (filter (by p) (declared t)) ≡ count_of p t.ports + count_of p t.vars
unfolding declared groups
count_declared p t = count_spread p (t.ports ++ t.vars) ∙ count_of_append p t.ports t.vars

-- the counts of the limits are such counts
inputs_counted : (gs : List Group) → count_of is_input gs ≡ input_count gs
unfolding count_of input_count if_input is_input
inputs_counted [] = refl
inputs_counted (g ∷ gs) = rw (inputs_counted gs, go g.mode)
  where
    go : (m : Mode) → cond (is_input m) (length g.names) 0 ≡ if_input m (length g.names)
    go T.input = refl
    go T.output_port = refl
    go T.variable_mode = refl

outputs_counted : (gs : List Group) → count_of is_output gs ≡ output_count gs
unfolding count_of output_count if_output is_output
outputs_counted [] = refl
outputs_counted (g ∷ gs) = rw (outputs_counted gs, go g.mode)
  where
    go : (m : Mode) → cond (is_output m) (length g.names) 0 ≡ if_output m (length g.names)
    go T.input = refl
    go T.output_port = refl
    go T.variable_mode = refl

variables_counted : (gs : List Group) → Each (λ (g : Group). is_variable g.mode ≡ true) gs → count_of is_variable gs ≡ name_count gs
unfolding count_of name_count
variables_counted [] h = refl
variables_counted (g ∷ gs) h = rw (h.0, variables_counted gs h.1)

-- groups of other modes count nothing
ports_no_variables : (gs : List Group) → Each (λ (g : Group). is_variable g.mode ≡ false) gs → count_of is_variable gs ≡ 0
unfolding count_of
ports_no_variables [] h = refl
ports_no_variables (g ∷ gs) h = rw (h.0, ports_no_variables gs h.1)

is_variable_lem : (m : Mode) → is_variable m ≡ true → m ≡ T.variable_mode
unfolding is_variable
is_variable_lem T.input e = clash (sym e)
is_variable_lem T.output_port e = clash (sym e)
is_variable_lem T.variable_mode e = refl

variables_no_other : (p : Mode → Bool) → p T.variable_mode ≡ false → (gs : List Group) → Each (λ (g : Group). is_variable g.mode ≡ true) gs → count_of p gs ≡ 0
unfolding count_of
variables_no_other p q [] h = refl
variables_no_other p q (g ∷ gs) h = rw (is_variable_lem g.mode h.0, q, variables_no_other p q gs h.1)

-- what is declared, by its mode
pub input_count_lem : (t : Text) → Moded t → length (filter (by is_input) (declared t)) ≡ input_count t.ports
unfolding is_input
input_count_lem t m =
    let c = count_declared is_input t in
    let p = inputs_counted t.ports in
    let v = variables_no_other is_input refl t.vars m.vars in
    omega arith

pub output_count_lem : (t : Text) → Moded t → length (filter (by is_output) (declared t)) ≡ output_count t.ports
unfolding is_output
output_count_lem t m =
    let c = count_declared is_output t in
    let p = outputs_counted t.ports in
    let v = variables_no_other is_output refl t.vars m.vars in
    omega arith

pub variable_count : (t : Text) → Moded t → length (filter (by is_variable) (declared t)) ≡ name_count t.vars
variable_count t m =
    let c = count_declared is_variable t in
    let p = ports_no_variables t.ports m.ports in
    let v = variables_counted t.vars m.vars in
    omega arith

-- THE CLOCK

-- the list has a wait
record HasWait (l : List T.Stmt) : Type 0 where
  name : Token
  first : first_wait l ≡ some name

-- and so has a longer one
wait_left : (a b : List T.Stmt) → HasWait a → HasWait (a ++ b)
unfolding first_wait or_else
wait_left [] b w = no_some w.first
wait_left (s ∷ a) b w = go (wait_name s) refl (λ e. wait_left a b (record { name = w.name; first = e }))
  where
    go : (o : Option Token) → wait_name s ≡ o → (first_wait a ≡ some w.name → HasWait (a ++ b)) → HasWait (s ∷ (a ++ b))
    go none e ih = let r = ih (let f = w.first in rw e at f) in record { name = r.name; first = rw e r.first }
    go (some x) e ih = record { name = x; first = rw e }

wait_right : (a b : List T.Stmt) → HasWait b → HasWait (a ++ b)
unfolding first_wait or_else
wait_right [] b w = w
wait_right (s ∷ a) b w = go (wait_name s) refl (wait_right a b w)
  where
    go : (o : Option Token) → wait_name s ≡ o → HasWait (a ++ b) → HasWait (s ∷ (a ++ b))
    go none e r = record { name = r.name; first = rw e r.first }
    go (some x) e r = record { name = x; first = rw e }

-- a sequence or an if of class C has a part of class C
seq_C : (x y : Class) → seq_class x y ≡ C → (x ≡ C) ⊎ (y ≡ C)
unfolding seq_class
seq_C A A e = inl e
seq_C A B e = inr e
seq_C A C e = inr refl
seq_C B A e = inl e
seq_C B B e = inl e
seq_C B C e = inr refl
seq_C C A e = inl refl
seq_C C B e = inl refl
seq_C C C e = inl refl

if_C : (x y : Class) → if_class x y ≡ C → y ≡ C
unfolding if_class
if_C A A e = e
if_C A B e = e
if_C A C e = refl
if_C B A e = cc
if_C B B e = e
if_C B C e = refl
if_C C A e = cc
if_C C B e = e
if_C C C e = refl

-- A is not C
none_C : {X : Type 0} {k : Class} → k ≡ A → k ≡ C → X
none_C e f = absurd (let z : ◌≡◌ {A = ℕ} 0 1 = cc in omega arith)

-- a body of class C has a wait
mutual
  unfolding class classes within statements first_wait or_else wait_name

  waits : (s : T.Stmt) → class s ≡ some C → HasWait (within s)
  waits (T.output x e) h = none_C refl (cc)
  waits (T.assign x e) h = none_C refl (cc)
  waits T.null h = none_C refl (cc)
  waits (T.wait x) h = record { name = x; first = refl }
  waits (T.if_then i e a) h =
      let p = pair_some if_class (classes a) (some A) C h in
      let q = p.3 in
      none_C {k = p.1} (cc) (if_C p.0 p.1 p.4)
  waits (T.if_else i e a b) h =
      let p = pair_some if_class (classes a) (classes b) C h in
      wait_right (T.if_else i e a b ∷ statements a) (statements b) (waits_all b (p.3 ∙ ap some (if_C p.0 p.1 p.4)))
  waits (T.while w e a) h = let p = (looped_some (classes a) C h).1 in none_C {k = A} refl (cc)

  waits_all : (b : Body) → classes b ≡ some C → HasWait (statements b)
  waits_all (T.only s) h = waits s h
  waits_all (T.and_then s b) h =
      let p = pair_some seq_class (class s) (classes b) C h in
      go p.0 p.1 p.2 p.3 (seq_C p.0 p.1 p.4) (λ k. waits s k) (λ k. waits_all b k)
    where
      go : (x y : Class) → class s ≡ some x → classes b ≡ some y → (x ≡ C) ⊎ (y ≡ C) → (class s ≡ some C → HasWait (within s))
          → (classes b ≡ some C → HasWait (statements b)) → HasWait (within s ++ statements b)
      go x y k l (inl e) f g = wait_left (within s) (statements b) (f (k ∙ ap some e))
      go x y k l (inr e) f g = wait_right (within s) (statements b) (g (l ∙ ap some e))

-- the clock is a std_logic input
clock_found : (Δ : List Decl) (l : List T.Stmt) (w : Token) → clock_for Δ l (some w) ≡ [] → is_a clock_like (find Δ w.value) ≡ true
unfolding clock_for
clock_found Δ l w e =
    unless_nil (is_a clock_like (find Δ w.value)) w.place
    (both_nil (unless (is_a clock_like (find Δ w.value)) w.place)
    (each (strays w.value) l ++ cond (is_a clock_like (find Δ w.value)) (each (reads_of w.value) l) []) e).0

-- data inputs are inputs
data_inputs : (c : Option Token) (Δ : List Decl) → length (filter (is_data c) Δ) ≤ length (filter (by is_input) Δ)
unfolding filter is_data
data_inputs c [] = omega arith
data_inputs c (d ∷ Δ) = go (is_input d.mode) (is_clock c d.name.value) (filter (is_data c) Δ) (filter (by is_input) Δ) (data_inputs c Δ)
  where
    go : (p q : Bool) (k l : List Decl) → length k ≤ length l → length (cond (p && not q) (d ∷ k) k) ≤ length (cond p (d ∷ l) l)
    go true true k l h = omega arith
    go true false k l h = omega arith
    go false q k l h = h

-- and the clock is an input that is none of them
data_inputs_fewer : (x : Token) (Δ : List Decl) (c : Decl) → find Δ x.value ≡ some c → is_input c.mode ≡ true
    → length (filter (is_data (some x)) Δ) < length (filter (by is_input) Δ)
unfolding filter is_data find is_clock
data_inputs_fewer x [] c e h = no_some e
data_inputs_fewer x (d ∷ Δ) c e h =
    go (eqb d.name.value x.value) refl (is_input d.mode) refl
    (filter (is_data (some x)) Δ) (filter (by is_input) Δ) (data_inputs (some x) Δ) (λ f. data_inputs_fewer x Δ c f h)
  where
    go : (q : Bool) → eqb d.name.value x.value ≡ q → (p : Bool) → is_input d.mode ≡ p → (k l : List Decl) → length k ≤ length l
        → (find Δ x.value ≡ some c → length k < length l)
        → length (cond (p && not q) (d ∷ k) k) < length (cond p (d ∷ l) l)
    go true f true g k l a b = omega arith
    go true f false g k l a b = let z : some d ≡ some c = rw f at e in let y : d ≡ c = cc in clash (sym h ∙ (ap (λ (u : Decl). is_input u.mode) (sym y) ∙ g))
    go false f true g k l a b = let r = b (rw f at e) in omega arith
    go false f false g k l a b = b (rw f at e)

-- a text without offences of 8 whose body is of class C has fewer data inputs than inputs
pub data_count : (t : Text) → clock t ≡ [] → classes t.body ≡ some C
    → length (filter (is_data (clock_of t)) (declared t)) < length (filter (by is_input) (declared t))
unfolding clock clock_of clock_like
data_count t k h =
    let w = waits_all t.body h in
    let f = w.first in
    let found = is_a_some clock_like (find (declared t) w.name.value) (clock_found (declared t) (statements t.body) w.name (rw f at k)) in
    rw f (data_inputs_fewer w.name (declared t) found.0 found.1 (and_true_both _ _ found.2).0)

-- STATEMENTS

-- how many numbers the computed statement takes
mutual
  unfolding size stmt stmts stmt_count body_count

  size_stmt : (Δ : List Decl) (Γ : Scope) (s : T.Stmt) → size (stmt Δ Γ s) ≡ stmt_count s
  size_stmt Δ Γ (T.output x e) = refl
  size_stmt Δ Γ (T.assign x e) = refl
  size_stmt Δ Γ T.null = refl
  size_stmt Δ Γ (T.wait x) = refl
  size_stmt Δ Γ (T.if_then i e a) = ap suc (size_stmts Δ Γ a)
  size_stmt Δ Γ (T.if_else i e a b) = rw (size_stmts Δ Γ a, size_stmts Δ Γ b)
  size_stmt Δ Γ (T.while w e a) = ap suc (size_stmts Δ Γ a)

  pub size_stmts : (Δ : List Decl) (Γ : Scope) (b : Body) → size (stmts Δ Γ b) ≡ body_count b
  size_stmts Δ Γ (T.only s) = size_stmt Δ Γ s
  size_stmts Δ Γ (T.and_then s b) = rw (size_stmt Δ Γ s, size_stmts Δ Γ b)

-- how many statements the list of all has
mutual
  unfolding within statements stmt_count body_count

  length_within : (s : T.Stmt) → length (within s) ≡ stmt_count s
  length_within (T.output x e) = refl
  length_within (T.assign x e) = refl
  length_within T.null = refl
  length_within (T.wait x) = refl
  length_within (T.if_then i e a) = ap suc (length_statements a)
  length_within (T.if_else i e a b) = rw (length-append (statements a) (statements b), length_statements a, length_statements b)
  length_within (T.while w e a) = ap suc (length_statements a)

  pub length_statements : (b : Body) → length (statements b) ≡ body_count b
  length_statements (T.only s) = length_within s
  length_statements (T.and_then s b) = rw (length-append (within s) (statements b), length_within s, length_statements b)

-- the numbers of the statements of a process are the places in the list of all statements of its text
pub size_statements : (Δ : List Decl) (Γ : Scope) (b : Body) → size (stmts Δ Γ b) ≡ length (statements b)
size_statements Δ Γ b = size_stmts Δ Γ b ∙ sym (length_statements b)
