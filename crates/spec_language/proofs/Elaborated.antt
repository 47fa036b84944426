-- A tree without offences elaborates to one process, the computed one, whose body is well classed. Assumes nothing.
use mathlib.Core.Path.{◌≡◌, refl, sym, subst}
use mathlib.Core.Bool.{Bool, true, false, cond}
use mathlib.Core.Logic.{◌↔◌}
use mathlib.Core.Option.{Option, none, some}
use mathlib.Core.List.{List, [], ◌∷◌, ◌++◌, map}
use Prim.Native.Nat.{ℕ}
use lib.IntN.{ℤ}
use Rattle.spec_grammar.specs.Token.{Token}
use Rattle.spec_grammar.specs.Tree as T
use Rattle.spec_grammar.specs.Tree.{Init, Group, Text, Mode}
use Rattle.spec_language.specs.Lists.{unless, each, filter}
use Rattle.spec_design.specs.Statement.{Class, A, B, C, class_of, LoopsC}
use Rattle.spec_design.specs.Process.{Slot, Process}
use Rattle.spec_language.specs.Declarations.{Decl, scope_for, scope_of, clock_of, declare, spread, groups, declared, find, is_a, is_input, is_output}
use Rattle.spec_language.specs.Declarations.{is_variable, clock_like, statements}
use Rattle.spec_language.specs.Names.{names, differs, doubled, names_of}
use Rattle.spec_language.specs.Typing.{types, types_of, initials_of}
use Rattle.spec_language.specs.Values.{values, first_at, missing, values_of}
use Rattle.spec_language.specs.Clock.{clock, reads_of, strays, clock_for}
use Rattle.spec_language.specs.Classes.{loops, loops_of, or_whole, is_c, classes}
use Rattle.spec_language.specs.Elaboration.{Elaborates, Slots, nil, cons, Holds, Begins, negative, initial, slot, process_for, elaborate}
use Rattle.spec_language.proofs.Facts.{clash, no_cons, both_nil, unless_nil}
use Rattle.spec_language.proofs.Statements.{Unreads, Fair, does_all, all_only, classed_all}

-- no offence of 5 to 9
pub record Clean (t : Text) : Type 0 where
  pub names : names t ≡ []
  pub types : types t ≡ []
  pub values : values t ≡ []
  pub clock : clock t ≡ []
  pub loops : loops t ≡ []

-- the body's statements have no offence
unreads_clock : (Δ : List Decl) (l : List T.Stmt) (c : Option Token) → clock_for Δ l c ≡ [] → Unreads c l
unfolding clock_for
unreads_clock Δ l none e = tt
unreads_clock Δ l (some w) e =
    let s = both_nil (unless (is_a clock_like (find Δ w.value)) w.place)
    (each (strays w.value) l ++ cond (is_a clock_like (find Δ w.value)) (each (reads_of w.value) l) []) e in
    let s' = both_nil (each (strays w.value) l) (cond (is_a clock_like (find Δ w.value)) (each (reads_of w.value) l) []) s.1 in
    rw (unless_nil (is_a clock_like (find Δ w.value)) w.place s.0) at s'.1

pub not_doubled : (t : Text) → names t ≡ [] → doubled (declared t) ≡ []
unfolding names
not_doubled t e =
    let a = both_nil (differs t.end_of_entity t.entity)
    (differs t.of_arch t.entity ++ (differs t.end_of_arch t.arch ++ (doubled (declared t) ++ each (names_of (declared t)) (statements t.body)))) e in
    let b = both_nil (differs t.of_arch t.entity)
    (differs t.end_of_arch t.arch ++ (doubled (declared t) ++ each (names_of (declared t)) (statements t.body))) a.1 in
    let c = both_nil (differs t.end_of_arch t.arch) (doubled (declared t) ++ each (names_of (declared t)) (statements t.body)) b.1 in
    (both_nil (doubled (declared t)) (each (names_of (declared t)) (statements t.body)) c.1).0

known_names : (t : Text) → names t ≡ [] → each (names_of (declared t)) (statements t.body) ≡ []
unfolding names
known_names t e =
    let a = both_nil (differs t.end_of_entity t.entity)
    (differs t.of_arch t.entity ++ (differs t.end_of_arch t.arch ++ (doubled (declared t) ++ each (names_of (declared t)) (statements t.body)))) e in
    let b = both_nil (differs t.of_arch t.entity)
    (differs t.end_of_arch t.arch ++ (doubled (declared t) ++ each (names_of (declared t)) (statements t.body))) a.1 in
    let c = both_nil (differs t.end_of_arch t.arch) (doubled (declared t) ++ each (names_of (declared t)) (statements t.body)) b.1 in
    (both_nil (doubled (declared t)) (each (names_of (declared t)) (statements t.body)) c.1).1

pub fair : (t : Text) → Clean t → Fair (declared t) (clock_of t) (statements t.body)
unfolding types clock
fair t q = record {
  names = known_names t q.names;
  types = (both_nil (each initials_of (groups t)) (each (types_of (declared t)) (statements t.body)) q.types).1;
  reads = unreads_clock (declared t) (statements t.body) (clock_of t) q.clock;
}

-- every output and variable has its value
valued : Decl → List ℕ
valued d = cond (is_input d.mode) [] (missing (d.name ∷ []) d.init)

missing_more : (x : Token) (xs : List Token) (i : Init) (y : Token) → missing (x ∷ xs) i ≡ [] → missing (y ∷ []) i ≡ []
unfolding missing first_at
missing_more x xs T.without y e = no_cons e
missing_more x xs (T.integer_literal z) y e = refl
missing_more x xs (T.logic_literal z) y e = refl
missing_more x xs (T.minus s z) y e = refl

valued_all : (g : Group) (ys : List Token) → ((y : Token) → cond (is_input g.mode) [] (missing (y ∷ []) g.init) ≡ []) → each valued (declare g ys) ≡ []
unfolding each declare valued
valued_all g [] h = refl
valued_all g (y ∷ ys) h = rw (h y) (valued_all g ys h)

valued_group : (g : Group) (xs : List Token) → cond (is_input g.mode) [] (missing xs g.init) ≡ [] → each valued (declare g xs) ≡ []
unfolding each declare valued
valued_group g [] e = refl
valued_group g (x ∷ xs) e = valued_all g (x ∷ xs) (λ y. go (is_input g.mode) e y)
  where
    go : (b : Bool) → cond b [] (missing (x ∷ xs) g.init) ≡ [] → (y : Token) → cond b [] (missing (y ∷ []) g.init) ≡ []
    go true h y = refl
    go false h y = missing_more x xs g.init y h

valued_groups : (gs : List Group) → each values_of gs ≡ [] → each valued (spread gs) ≡ []
unfolding each spread values_of
valued_groups [] e = refl
valued_groups (g ∷ gs) e =
    let s = both_nil (values_of g) (each values_of gs) e in
    let h = valued_group g g.names s.0 in
    let r = valued_groups gs s.1 in
    joined (declare g g.names) (spread gs) h r
  where
    joined : (a b : List Decl) → each valued a ≡ [] → each valued b ≡ [] → each valued (a ++ b) ≡ []
    joined [] b p q = q
    joined (d ∷ a) b p q = let s = both_nil (valued d) (each valued a) p in rw s.0 (joined a b s.1 q)

begins : (i : Init) (x : Token) → missing (x ∷ []) i ≡ [] → Begins i (initial i)
unfolding missing first_at initial
begins T.without x e = no_cons e
begins (T.integer_literal y) x e = Begins.number y
begins (T.logic_literal y) x e = Begins.bit y
begins (T.minus s y) x e = negative s y

slots : (p : Decl → Bool) → ((d : Decl) → p d ≡ true → is_input d.mode ≡ false) → (Δ : List Decl) → each valued Δ ≡ []
    → Slots (filter p Δ) (map slot (filter p Δ))
unfolding each filter slot valued
slots p h [] e = nil
slots p h (d ∷ Δ) e = go (p d) refl (slots p h Δ s.1)
  where
    s : (valued d ≡ []) × (each valued Δ ≡ [])
    s = both_nil (valued d) (each valued Δ) e

    go : (b : Bool) → p d ≡ b → Slots (filter p Δ) (map slot (filter p Δ)) → Slots (filter p (d ∷ Δ)) (map slot (filter p (d ∷ Δ)))
    go true q r = rw q (cons (record { name = refl; type = refl; initial = begins d.init d.name (rw (h d q) at s.0) }) r)
    go false q r = rw q r

pub output_no_input : (d : Decl) → is_output d.mode ≡ true → is_input d.mode ≡ false
unfolding is_input is_output
output_no_input d e = go d.mode e
  where
    go : (m : Mode) → is_output m ≡ true → is_input m ≡ false
    go T.input h = clash (sym h)
    go T.output_port h = refl
    go T.variable_mode h = refl

pub variable_no_input : (d : Decl) → is_variable d.mode ≡ true → is_input d.mode ≡ false
unfolding is_input is_variable
variable_no_input d e = go d.mode e
  where
    go : (m : Mode) → is_variable m ≡ true → is_input m ≡ false
    go T.input h = clash (sym h)
    go T.output_port h = refl
    go T.variable_mode h = refl

-- it elaborates to the computed process
pub elaborated : (t : Text) → Clean t → Elaborates t (elaborate t)
unfolding elaborate process_for scope_of scope_for values declared
elaborated t q =
    let v = valued_groups (groups t) q.values in
    record {
      inputs = refl;
      outputs = slots (λ (d : Decl). is_output d.mode) output_no_input (declared t) v;
      variables = slots (λ (d : Decl). is_variable d.mode) variable_no_input (declared t) v;
      body = does_all (declared t) (clock_of t) t.body (fair t q);
    }

-- and to no other
begins_only : {i : Init} {z : ℤ} → Begins i z → initial i ≡ z
unfolding initial
begins_only (Begins.number x) = refl
begins_only (Begins.bit x) = refl
begins_only (negative s x) = refl

slot_only : (d : Decl) (s : Slot) → Holds d s → slot d ≡ s
unfolding slot
slot_only d s h = same_slot (slot d) s (sym h.name) (sym h.type) (begins_only h.initial)
  where
    same_slot : (a b : Slot) → a.name ≡ b.name → a.type ≡ b.type → a.initial ≡ b.initial → a ≡ b
    same_slot a b p q r = λ i. record { name = p i; type = q i; initial = r i }

slots_only : {ds : List Decl} {ss : List Slot} → Slots ds ss → map slot ds ≡ ss
slots_only nil = refl
slots_only (cons {d} {s} h r) = rw (slot_only d s h, slots_only r)

pub elaborated_only : (t : Text) (p : Process) → Clean t → Elaborates t p → elaborate t ≡ p
unfolding elaborate process_for scope_of
elaborated_only t p q e = same_process (elaborate t) p (sym e.inputs) (slots_only e.outputs) (slots_only e.variables)
    (all_only (declared t) (clock_of t) (not_doubled t q.names) e.body)
  where
    same_process : (a b : Process) → a.inputs ≡ b.inputs → a.outputs ≡ b.outputs → a.variables ≡ b.variables → a.body ≡ b.body → a ≡ b
    same_process a b p q r s = λ i. record { inputs = p i; outputs = q i; variables = r i; body = s i }

-- on trees without offences, elaborate gives p exactly when the tree elaborates to p
pub elaborates : (t : Text) (p : Process) → Clean t → (elaborate t ≡ p) ↔ Elaborates t p
elaborates t p q = (λ e. subst (Elaborates t) e (elaborated t q), elaborated_only t p q)

-- the body's class is C, and every while in it has a body of class C
pub whole_C : (t : Text) → loops t ≡ [] → classes t.body ≡ some C
unfolding loops is_c or_whole
whole_C t e = go (each loops_of (statements t.body)) (classes t.body) e
  where
    is_C : (o : Option Class) → is_c o ≡ true → o ≡ some C
    is_C none h = clash (sym h)
    is_C (some A) h = clash (sym h)
    is_C (some B) h = clash (sym h)
    is_C (some C) h = refl

    go : (l : List ℕ) (o : Option Class) → or_whole l (is_c o) t.process.place ≡ [] → o ≡ some C
    go [] o h = is_C o (unless_nil (is_c o) t.process.place h)
    go (x ∷ l) o h = no_cons h

pub well_classed : (t : Text) → Clean t → (class_of (elaborate t).body ≡ C) × LoopsC (elaborate t).body
unfolding elaborate process_for
well_classed t q = let k = classed_all (declared t) (scope_of t) t.body C (whole_C t q.loops) in (k.is, k.good)
