-- Every offence of a tree (refusals 5 to 9) stands at a token of the tree, so where all tokens start by n, all offences are at most n. Assumes nothing.
use mathlib.Core.Bool.{Bool, true, false, cond, not}
use mathlib.Core.Option.{Option, none, some}
use mathlib.Core.List.{List, [], ◌∷◌, ◌++◌}
use Prim.Native.Nat.{ℕ, ◌≤◌}
use lib.Dec.{eqb}
use Rattle.spec_grammar.specs.Token.{Token}
use Rattle.spec_grammar.specs.Tree as T
use Rattle.spec_grammar.specs.Tree.{Expr, number, bit, name, sign, negate, binary, parens, Stmt, output, assign, null, wait, if_then, if_else, while, Body}
use Rattle.spec_grammar.specs.Tree.{only, and_then, Init, without, integer_literal, logic_literal, Group, Text}
use Rattle.spec_grammar.specs.Limits.{Each}
use Rattle.spec_grammar.proofs.Each.{each_join}
use Rattle.spec_design.specs.Types.{Ty, ExprTy, std_logic, integer, boolean, same_ty, same_type}
use Rattle.spec_language.specs.Lists.{unless, each}
use Rattle.spec_language.specs.Declarations.{Decl, type_named, declare, spread, groups, declared, is_input, is_output, is_variable, find, is_a, type_in, within}
use Rattle.spec_language.specs.Declarations.{statements, or_else, wait_name, first_wait, clock_of, clock_like}
use Rattle.spec_language.specs.Names.{again, doubled, readable, names_in, names_of, differs, names}
use Rattle.spec_language.specs.Typing.{type_of, wrong1, wrong2, types_in, wants, types_of, initial_of, initials_of, types}
use Rattle.spec_language.specs.Values.{first_at, missing, values_of, values}
use Rattle.spec_language.specs.Clock.{reads_in, reads_of, strays, clock_for, clock}
use Rattle.spec_language.specs.Classes.{classes, is_c, not_classed_wrong, loops_of, or_whole, loops}
use Rattle.spec_language.specs.Rules.{Offence, Stage, by, table}
use Rattle.spec_language.specs.Validity.{In, First}
use Rattle.spec_language.specs.Validity as Q
use Rattle.spec_language.proofs.Offences.{in_by}
use Rattle.spec_promises.proofs.LexedPlaces.{By}
use Rattle.spec_grammar.proofs.TokensOf.{InExpr, InStmt, InBody, InInit, InGroup, InText}

module _ (n : ℕ) where
  -- all places are at most n
  abbrev Inside : List ℕ → Type 0
  Inside l = Each (λ (p : ℕ). p ≤ n) l

  -- LISTS OF PLACES
  join : (a b : List ℕ) → Inside a → Inside b → Inside (a ++ b)
  join a b h k = each_join (λ (p : ℕ). p ≤ n) a b h k

  unless_inside : (q : Bool) (p : ℕ) → p ≤ n → Inside (unless q p)
  unfolding unless
  unless_inside true p h = tt
  unless_inside false p h = (h, tt)

  each_inside : {A : Type 0} (Q : A → Type 0) (f : A → List ℕ) → ((a : A) → Q a → Inside (f a)) → (l : List A) → Each Q l → Inside (each f l)
  unfolding each
  each_inside Q f h [] k = tt
  each_inside Q f h (a ∷ l) k = join (f a) (each f l) (h a k.0) (each_inside Q f h l k.1)

  cond_inside : (q : Bool) (a b : List ℕ) → Inside a → Inside b → Inside (cond q a b)
  cond_inside true a b h k = h
  cond_inside false a b h k = k

  in_inside : (p : ℕ) (l : List ℕ) → In p l → Inside l → p ≤ n
  in_inside p l Q.In.here h = h.0
  in_inside p l (Q.In.there {l = k} i) h = in_inside p k i h.1

  -- WHAT A TREE HOLDS
  abbrev Named : Decl → Type 0
  Named d = By n d.name

  declare_named : (g : Group) (xs : List Token) → Each (By n) xs → Each Named (declare g xs)
  unfolding declare
  declare_named g [] h = tt
  declare_named g (x ∷ xs) h = (h.0, declare_named g xs h.1)

  spread_named : (gs : List Group) → Each (InGroup (By n)) gs → Each Named (spread gs)
  unfolding spread
  spread_named [] h = tt
  spread_named (g ∷ gs) h = each_join Named (declare g g.names) (spread gs) (declare_named g g.names h.0.names) (spread_named gs h.1)

  groups_in : (t : Text) → InText (By n) t → Each (InGroup (By n)) (groups t)
  unfolding groups
  groups_in t h = each_join (InGroup (By n)) t.ports t.vars h.ports h.vars

  declared_named : (t : Text) → InText (By n) t → Each Named (declared t)
  unfolding declared
  declared_named t h = spread_named (groups t) (groups_in t h)

  -- the statements at every depth
  mutual
    unfolding within

    within_in : (s : Stmt) → InStmt (By n) s → Each (InStmt (By n)) (within s)
    within_in (output x e) h = (h, tt)
    within_in (assign x e) h = (h, tt)
    within_in null h = (h, tt)
    within_in (wait x) h = (h, tt)
    within_in (if_then i e a) h = (h, statements_in_lem a h.2)
    within_in (if_else i e a b) h = (h, each_join (InStmt (By n)) (statements a) (statements b) (statements_in_lem a h.2) (statements_in_lem b h.3))
    within_in (while w e a) h = (h, statements_in_lem a h.2)

    statements_in_lem : (b : Body) → InBody (By n) b → Each (InStmt (By n)) (statements b)
    statements_in_lem (only s) h = within_in s h
    statements_in_lem (and_then s b) h = each_join (InStmt (By n)) (within s) (statements b) (within_in s h.0) (statements_in_lem b h.1)

  -- the clock's name
  abbrev Maybe : Option Token → Type 0
  Maybe none = Unit {0}
  Maybe (some x) = By n x

  or_else_in : (x y : Option Token) → Maybe x → Maybe y → Maybe (or_else x y)
  unfolding or_else
  or_else_in none y h k = k
  or_else_in (some x) y h k = h

  wait_name_in : (s : Stmt) → InStmt (By n) s → Maybe (wait_name s)
  unfolding wait_name
  wait_name_in (output x e) h = tt
  wait_name_in (assign x e) h = tt
  wait_name_in null h = tt
  wait_name_in (wait x) h = h
  wait_name_in (if_then i e a) h = tt
  wait_name_in (if_else i e a b) h = tt
  wait_name_in (while w e a) h = tt

  first_wait_in : (l : List Stmt) → Each (InStmt (By n)) l → Maybe (first_wait l)
  unfolding first_wait
  first_wait_in [] h = tt
  first_wait_in (s ∷ l) h = or_else_in (wait_name s) (first_wait l) (wait_name_in s h.0) (first_wait_in l h.1)

  -- REFUSAL 5
  again_inside : (v : ℕ) (ds : List Decl) → Each Named ds → Inside (again v ds)
  unfolding again
  again_inside v ds h =
      each_inside Named (λ d. unless (not (eqb d.name.value v)) d.name.place)
      (λ d k. unless_inside (not (eqb d.name.value v)) d.name.place k) ds h

  doubled_inside : (ds : List Decl) → Each Named ds → Inside (doubled ds)
  unfolding doubled
  doubled_inside [] h = tt
  doubled_inside (d ∷ ds) h = join (again d.name.value ds) (doubled ds) (again_inside d.name.value ds h.1) (doubled_inside ds h.1)

  names_in_inside : (Δ : List Decl) (e : Expr) → InExpr (By n) e → Inside (names_in Δ e)
  unfolding names_in
  names_in_inside Δ (number x) h = tt
  names_in_inside Δ (bit x) h = tt
  names_in_inside Δ (name x) h = unless_inside (is_a readable (find Δ x.value)) x.place h
  names_in_inside Δ (sign x a) h = names_in_inside Δ a h.1
  names_in_inside Δ (negate x a) h = names_in_inside Δ a h.1
  names_in_inside Δ (binary x a b) h = join (names_in Δ a) (names_in Δ b) (names_in_inside Δ a h.1) (names_in_inside Δ b h.2)
  names_in_inside Δ (parens a) h = names_in_inside Δ a h

  names_of_inside : (Δ : List Decl) (s : Stmt) → InStmt (By n) s → Inside (names_of Δ s)
  unfolding names_of
  names_of_inside Δ (output x e) h =
      let q = is_a (λ d. is_output d.mode) (find Δ x.value) in
      join (unless q x.place) (names_in Δ e) (unless_inside q x.place h.0) (names_in_inside Δ e h.1)
  names_of_inside Δ (assign x e) h =
      let q = is_a (λ d. is_variable d.mode) (find Δ x.value) in
      join (unless q x.place) (names_in Δ e) (unless_inside q x.place h.0) (names_in_inside Δ e h.1)
  names_of_inside Δ null h = tt
  names_of_inside Δ (wait x) h = unless_inside (is_a (λ d. true) (find Δ x.value)) x.place h
  names_of_inside Δ (if_then i e a) h = names_in_inside Δ e h.1
  names_of_inside Δ (if_else i e a b) h = names_in_inside Δ e h.1
  names_of_inside Δ (while w e a) h = names_in_inside Δ e h.1

  differs_inside : (x y : Token) → By n x → Inside (differs x y)
  unfolding differs
  differs_inside x y h = unless_inside (eqb x.value y.value) x.place h

  names_inside : (t : Text) → InText (By n) t → Inside (names t)
  unfolding names
  names_inside t h =
      join (differs t.end_of_entity t.entity) _ (differs_inside t.end_of_entity t.entity h.end_of_entity)
      (join (differs t.of_arch t.entity) _ (differs_inside t.of_arch t.entity h.of_arch)
      (join (differs t.end_of_arch t.arch) _ (differs_inside t.end_of_arch t.arch h.end_of_arch)
      (join (doubled (declared t)) (each (names_of (declared t)) (statements t.body)) (doubled_inside (declared t) (declared_named t h))
      (each_inside (InStmt (By n)) (names_of (declared t)) (names_of_inside (declared t)) (statements t.body) (statements_in_lem t.body h.body)))))

  -- REFUSAL 6
  wrong1_inside : (t r : Option ExprTy) (p : ℕ) → p ≤ n → Inside (wrong1 t r p)
  unfolding wrong1
  wrong1_inside none r p h = tt
  wrong1_inside (some t) none p h = (h, tt)
  wrong1_inside (some t) (some r) p h = tt

  wrong2_inside : (t u r : Option ExprTy) (p : ℕ) → p ≤ n → Inside (wrong2 t u r p)
  unfolding wrong2
  wrong2_inside none u r p h = tt
  wrong2_inside (some t) u r p h = wrong1_inside u r p h

  types_in_inside : (Δ : List Decl) (e : Expr) → InExpr (By n) e → Inside (types_in Δ e)
  unfolding types_in
  types_in_inside Δ (number x) h = tt
  types_in_inside Δ (bit x) h = tt
  types_in_inside Δ (name x) h = tt
  types_in_inside Δ (sign x a) h = join (types_in Δ a) _ (types_in_inside Δ a h.1) (wrong1_inside (type_of Δ a) (type_of Δ (sign x a)) x.place h.0)
  types_in_inside Δ (negate x a) h = join (types_in Δ a) _ (types_in_inside Δ a h.1) (wrong1_inside (type_of Δ a) (type_of Δ (negate x a)) x.place h.0)
  types_in_inside Δ (binary x a b) h =
      join (types_in Δ a) _ (types_in_inside Δ a h.1)
      (join (types_in Δ b) _ (types_in_inside Δ b h.2) (wrong2_inside (type_of Δ a) (type_of Δ b) (type_of Δ (binary x a b)) x.place h.0))
  types_in_inside Δ (parens a) h = types_in_inside Δ a h

  wants_inside : (t u : Option ExprTy) (p : ℕ) → p ≤ n → Inside (wants t u p)
  unfolding wants
  wants_inside none u p h = tt
  wants_inside (some t) none p h = tt
  wants_inside (some t) (some u) p h = unless_inside (same_type t u) p h

  -- an expression where a type is wanted, at the token x
  wanted_inside : (Δ : List Decl) (e : Expr) (t : Option ExprTy) (x : Token) → By n x → InExpr (By n) e
      → Inside (types_in Δ e ++ wants t (type_of Δ e) x.place)
  wanted_inside Δ e t x h k = join (types_in Δ e) (wants t (type_of Δ e) x.place) (types_in_inside Δ e k) (wants_inside t (type_of Δ e) x.place h)

  types_of_inside : (Δ : List Decl) (s : Stmt) → InStmt (By n) s → Inside (types_of Δ s)
  unfolding types_of
  types_of_inside Δ (output x e) h = wanted_inside Δ e (type_in (find Δ x.value)) x h.0 h.1
  types_of_inside Δ (assign x e) h = wanted_inside Δ e (type_in (find Δ x.value)) x h.0 h.1
  types_of_inside Δ null h = tt
  types_of_inside Δ (wait x) h = tt
  types_of_inside Δ (if_then i e a) h = wanted_inside Δ e (some boolean) i h.0 h.1
  types_of_inside Δ (if_else i e a b) h = wanted_inside Δ e (some boolean) i h.0 h.1
  types_of_inside Δ (while w e a) h = wanted_inside Δ e (some boolean) w h.0 h.1

  initial_inside : (t : Ty) (i : Init) → InInit (By n) i → Inside (initial_of t i)
  unfolding initial_of
  initial_inside t without h = tt
  initial_inside t (integer_literal x) h = unless_inside (same_ty t integer) x.place h
  initial_inside t (logic_literal x) h = unless_inside (same_ty t std_logic) x.place h
  initial_inside t (T.minus s x) h = unless_inside (same_ty t integer) s.place h.0

  initials_inside : (g : Group) → InGroup (By n) g → Inside (initials_of g)
  unfolding initials_of
  initials_inside g h =
      cond_inside (is_input g.mode) [] (initial_of (type_named g.type) g.init) tt
      (initial_inside (type_named g.type) g.init h.init)

  types_inside : (t : Text) → InText (By n) t → Inside (types t)
  unfolding types
  types_inside t h =
      join (each initials_of (groups t)) (each (types_of (declared t)) (statements t.body))
      (each_inside (InGroup (By n)) initials_of initials_inside (groups t) (groups_in t h))
      (each_inside (InStmt (By n)) (types_of (declared t)) (types_of_inside (declared t)) (statements t.body) (statements_in_lem t.body h.body))

  -- REFUSAL 7
  missing_inside : (xs : List Token) (i : Init) → Each (By n) xs → Inside (missing xs i)
  unfolding missing first_at
  missing_inside [] without h = tt
  missing_inside (x ∷ xs) without h = (h.0, tt)
  missing_inside xs (integer_literal x) h = tt
  missing_inside xs (logic_literal x) h = tt
  missing_inside xs (T.minus s x) h = tt

  values_of_inside : (g : Group) → InGroup (By n) g → Inside (values_of g)
  unfolding values_of
  values_of_inside g h = cond_inside (is_input g.mode) [] (missing g.names g.init) tt (missing_inside g.names g.init h.names)

  values_inside : (t : Text) → InText (By n) t → Inside (values t)
  unfolding values
  values_inside t h = each_inside (InGroup (By n)) values_of values_of_inside (groups t) (groups_in t h)

  -- REFUSAL 8
  reads_in_inside : (c : ℕ) (e : Expr) → InExpr (By n) e → Inside (reads_in c e)
  unfolding reads_in
  reads_in_inside c (number x) h = tt
  reads_in_inside c (bit x) h = tt
  reads_in_inside c (name x) h = unless_inside (not (eqb x.value c)) x.place h
  reads_in_inside c (sign x a) h = reads_in_inside c a h.1
  reads_in_inside c (negate x a) h = reads_in_inside c a h.1
  reads_in_inside c (binary x a b) h = join (reads_in c a) (reads_in c b) (reads_in_inside c a h.1) (reads_in_inside c b h.2)
  reads_in_inside c (parens a) h = reads_in_inside c a h

  reads_of_inside : (c : ℕ) (s : Stmt) → InStmt (By n) s → Inside (reads_of c s)
  unfolding reads_of
  reads_of_inside c (output x e) h = reads_in_inside c e h.1
  reads_of_inside c (assign x e) h = reads_in_inside c e h.1
  reads_of_inside c null h = tt
  reads_of_inside c (wait x) h = tt
  reads_of_inside c (if_then i e a) h = reads_in_inside c e h.1
  reads_of_inside c (if_else i e a b) h = reads_in_inside c e h.1
  reads_of_inside c (while w e a) h = reads_in_inside c e h.1

  strays_inside : (c : ℕ) (s : Stmt) → InStmt (By n) s → Inside (strays c s)
  unfolding strays
  strays_inside c (output x e) h = tt
  strays_inside c (assign x e) h = tt
  strays_inside c null h = tt
  strays_inside c (wait x) h = unless_inside (eqb x.value c) x.place h
  strays_inside c (if_then i e a) h = tt
  strays_inside c (if_else i e a b) h = tt
  strays_inside c (while w e a) h = tt

  clock_for_inside : (Δ : List Decl) (l : List Stmt) (o : Option Token) → Each (InStmt (By n)) l → Maybe o → Inside (clock_for Δ l o)
  unfolding clock_for
  clock_for_inside Δ l none h k = tt
  clock_for_inside Δ l (some w) h k =
      let ok = is_a clock_like (find Δ w.value) in
      join (unless ok w.place) _ (unless_inside ok w.place k)
      (join (each (strays w.value) l) _ (each_inside (InStmt (By n)) (strays w.value) (strays_inside w.value) l h)
      (cond_inside ok (each (reads_of w.value) l) [] (each_inside (InStmt (By n)) (reads_of w.value) (reads_of_inside w.value) l h) tt))

  clock_inside : (t : Text) → InText (By n) t → Inside (clock t)
  unfolding clock clock_of
  clock_inside t h =
      let l = statements_in_lem t.body h.body in
      clock_for_inside (declared t) (statements t.body) (first_wait (statements t.body)) l (first_wait_in (statements t.body) l)

  -- REFUSAL 9
  loops_of_inside : (s : Stmt) → InStmt (By n) s → Inside (loops_of s)
  unfolding loops_of
  loops_of_inside (output x e) h = tt
  loops_of_inside (assign x e) h = tt
  loops_of_inside null h = tt
  loops_of_inside (wait x) h = tt
  loops_of_inside (if_then i e a) h = tt
  loops_of_inside (if_else i e a b) h = tt
  loops_of_inside (while w e a) h = unless_inside (not_classed_wrong (classes a)) w.place h.0

  or_whole_inside : (l : List ℕ) (ok : Bool) (p : ℕ) → Inside l → p ≤ n → Inside (or_whole l ok p)
  unfolding or_whole
  or_whole_inside [] ok p h k = unless_inside ok p k
  or_whole_inside (q ∷ l) ok p h k = h

  loops_inside : (t : Text) → InText (By n) t → Inside (loops t)
  unfolding loops
  loops_inside t h =
      or_whole_inside (each loops_of (statements t.body)) (is_c (classes t.body)) t.process.place
      (each_inside (InStmt (By n)) loops_of loops_of_inside (statements t.body) (statements_in_lem t.body h.body)) h.process

  -- ALL STAGES
  abbrev AllBy : List Offence → Type 0
  AllBy l = (o : Offence) → In o l → o.place ≤ n

  -- a stage with one row
  by_inside : (k : ℕ) (places : Text → List ℕ) (t : Text) → Inside (places t) → AllBy (by k places t)
  by_inside k places t h o i = in_inside o.place (places t) (in_by k places t o i).1 h

  abbrev Kept : List Stage → Text → Type 0
  Kept rs t = Each (λ (r : Stage). AllBy (r t)) rs

  table_inside : (t : Text) → InText (By n) t → Kept table t
  unfolding table
  table_inside t h = (
    by_inside 5 names t (names_inside t h),
    (
      by_inside 6 types t (types_inside t h),
      (by_inside 7 values t (values_inside t h), (by_inside 8 clock t (clock_inside t h), (by_inside 9 loops t (loops_inside t h), tt))),
    ),
  )

  first_inside : (t : Text) (q p : ℕ) (rs : List Stage) → First t q p rs → Kept rs t → p ≤ n
  first_inside t q p rs (Q.First.here h) k = k.0 _ h.one
  first_inside t q p rs (Q.First.there {rs = qs} e f) k = first_inside t q p qs f k.1

  -- the place of the first offence of a tree
  pub offence_place : (t : Text) (q p : ℕ) → InText (By n) t → First t q p table → p ≤ n
  offence_place t q p h f = first_inside t q p table f (table_inside t h)
