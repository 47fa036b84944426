-- The process of a text depends on its reading alone. From a reading a bare tree is made, whose tokens have no size and no place; elaborating the bare
-- tree of a text's reading gives the process of the text, as elaboration looks at nothing that the reading leaves out. Assumes nothing.
use mathlib.Core.Path.{◌≡◌, refl, sym, ◌∙◌, ap}
use mathlib.Core.Bool.{Bool, true, false, cond, not, ◌&&◌}
use mathlib.Core.Option
use mathlib.Core.Option.{Option, none, some}
use mathlib.Core.List.{List, [], ◌∷◌, ◌++◌, map, map-append, append_assoc}
use Prim.Native.Nat.{ℕ, suc}
use lib.Dec.{eqb}
use lib.IntN.{ℤ, pos, negsuc}
use Rattle.spec_grammar.specs.Token.{Token}
use Rattle.base_codes.specs.Token.{INTEGER, STD_LOGIC}
use Rattle.spec_grammar.specs.Tree as T
use Rattle.spec_grammar.specs.Tree.{Body, Init, Mode, Group, Text}
use Rattle.spec_design.specs.Types.{Ty, std_logic, integer}
use Rattle.spec_design.specs.Expression.{sum_type, logical_type}
use Rattle.spec_design.specs.Process.{Source, Process}
use Rattle.spec_language.specs.Lists.{filter}
use Rattle.spec_language.specs.Declarations.{Decl, type_named, declare, spread, groups, declared, is_input, is_output, is_variable, find, type_in, within}
use Rattle.spec_language.specs.Declarations.{statements, or_else, wait_name, first_wait, clock_of, is_clock, is_data, scope_for, scope_of}
use Rattle.spec_language.specs.Typing.{on_one, type_of}
use Rattle.spec_language.specs.Elaboration.{position, name_code, named, code, stmt, stmts, minus, initial, source, slot, process_for, elaborate}
use Rattle.spec_language.specs.Reading.{ExprReading, StmtReading, BodyReading, DeclReading, Reading, read_expr, read_stmt, read_body, given, unless_input}
use Rattle.spec_language.specs.Reading.{read_decl, reading}
use Rattle.spec_language.specs.Reading as R
use Rattle.spec_language.specs.Validity.{Valid}
use Rattle.spec_language.proofs.Facts.{clash}
use Rattle.spec_language.proofs.Elaborated.{output_no_input, variable_no_input, elaborated_only}
use Rattle.spec_language.proofs.Judged.{clean}

-- THE BARE TREE OF A READING

-- a token of which only the value counts; of which only the kind counts
abbrev valued : ℕ → Token
valued v = record { kind = 0; value = v; size = 0; place = 0 }

abbrev of_kind : ℕ → Token
of_kind k = record { kind = k; value = 0; size = 0; place = 0 }

bare_expr : ExprReading → T.Expr
bare_expr (R.number v) = T.number (valued v)
bare_expr (R.bit v) = T.bit (valued v)
bare_expr (R.name v) = T.name (valued v)
bare_expr (R.sign a) = T.sign (of_kind 0) (bare_expr a)
bare_expr (R.negate a) = T.negate (of_kind 0) (bare_expr a)
bare_expr (R.binary k a b) = T.binary (of_kind k) (bare_expr a) (bare_expr b)

mutual
  unfolding bare_expr

  bare_stmt : StmtReading → T.Stmt
  bare_stmt (R.output v e) = T.output (valued v) (bare_expr e)
  bare_stmt (R.assign v e) = T.assign (valued v) (bare_expr e)
  bare_stmt R.null = T.null
  bare_stmt (R.wait v) = T.wait (valued v)
  bare_stmt (R.if_then e a) = T.if_then (of_kind 0) (bare_expr e) (bare_body a)
  bare_stmt (R.if_else e a b) = T.if_else (of_kind 0) (bare_expr e) (bare_body a) (bare_body b)
  bare_stmt (R.while e a) = T.while (of_kind 0) (bare_expr e) (bare_body a)

  bare_body : BodyReading → Body
  bare_body (R.only s) = T.only (bare_stmt s)
  bare_body (R.and_then s b) = T.and_then (bare_stmt s) (bare_body b)

bare_type : Ty → Token
bare_type std_logic = of_kind STD_LOGIC
bare_type integer = of_kind INTEGER

bare_init : Option ℤ → Init
bare_init none = T.without
bare_init (some (pos n)) = T.integer_literal (valued n)
bare_init (some (negsuc n)) = T.minus (of_kind 0) (valued (suc n))

-- each declared name is a group of its own
bare_group : DeclReading → Group
bare_group d = record { names = valued d.name ∷ []; mode = d.mode; type = bare_type d.type; init = bare_init d.initial }

bare_text : Reading → Text
bare_text r = record {
  entity = valued r.entity;
  ports = map bare_group r.ports;
  end_of_entity = valued r.entity;
  arch = valued r.architecture;
  of_arch = valued r.entity;
  process = of_kind 0;
  vars = map bare_group r.variables;
  body = bare_body r.body;
  end_of_arch = valued r.architecture;
}

-- the process that a reading means
pub process_of : Reading → Process
process_of r = elaborate (bare_text r)

-- DECLARATIONS

-- what a bare group declares
abbrev bare_decl : DeclReading → Decl
bare_decl d = record { name = valued d.name; mode = d.mode; type = d.type; init = bare_init d.initial }

-- a declaration with nothing left of it but what its reading has
same : Decl → Decl
unfolding read_decl bare_init
same d = bare_decl (read_decl d)

type_same : (t : Ty) → type_named (bare_type t) ≡ t
unfolding type_named bare_type
type_same std_logic = refl
type_same integer = refl

-- the declarations of the bare tree
spread_bare : (l : List DeclReading) → spread (map bare_group l) ≡ map bare_decl l
unfolding spread declare bare_group
spread_bare [] = refl
spread_bare (d ∷ l) = rw (type_same d.type, spread_bare l)

spread_append : (a b : List Group) → spread (a ++ b) ≡ spread a ++ spread b
unfolding spread
spread_append [] b = refl
spread_append (g ∷ a) b = rw (spread_append a b) (sym (append_assoc (declare g g.names) (spread a) (spread b)))

map_same : (l : List Decl) → map bare_decl (map read_decl l) ≡ map same l
unfolding same
map_same [] = refl
map_same (d ∷ l) = ap (λ (r : List Decl). same d ∷ r) (map_same l)

declared_bare : (t : Text) → declared (bare_text (reading t)) ≡ map same (declared t)
unfolding declared groups bare_text reading
declared_bare t = rw (
  spread_append (map bare_group (map read_decl (spread t.ports))) (map bare_group (map read_decl (spread t.vars))),
  spread_bare (map read_decl (spread t.ports)),
  spread_bare (map read_decl (spread t.vars)),
  map_same (spread t.ports),
  map_same (spread t.vars),
  spread_append t.ports t.vars,
) (sym (map-append same (spread t.ports) (spread t.vars)))

-- initial values, but for those of inputs
initial_some : (z : ℤ) → initial (bare_init (some z)) ≡ z
unfolding initial bare_init minus
initial_some (pos n) = refl
initial_some (negsuc n) = refl

initial_same : (i : Init) → initial (bare_init (given i)) ≡ initial i
unfolding given bare_init initial
initial_same T.without = refl
initial_same (T.integer_literal x) = refl
initial_same (T.logic_literal x) = initial_some (initial (T.logic_literal x))
initial_same (T.minus s x) = initial_some (initial (T.minus s x))

slot_same : (d : Decl) → is_input d.mode ≡ false → slot (same d) ≡ slot d
unfolding slot same read_decl is_input unless_input
slot_same d h = ap (λ (z : ℤ). record { name = d.name.value; type = d.type; initial = z }) (go d.mode h)
  where
    go : (m : Mode) → is_input m ≡ false → initial (bare_init (unless_input m (given d.init))) ≡ initial d.init
    go T.input q = clash q
    go T.output_port q = initial_same d.init
    go T.variable_mode q = initial_same d.init

-- lists of declarations, what is found in them, and positions
filter_same : (p q : Decl → Bool) → ((d : Decl) → q (same d) ≡ p d) → (Δ : List Decl) → filter q (map same Δ) ≡ map same (filter p Δ)
unfolding filter
filter_same p q h [] = refl
filter_same p q h (d ∷ Δ) = rw (h d, filter_same p q h Δ) (go (p d))
  where
    go : (b : Bool) → cond b (same d ∷ map same (filter p Δ)) (map same (filter p Δ)) ≡ map same (cond b (d ∷ filter p Δ) (filter p Δ))
    go true = refl
    go false = refl

find_same : (Δ : List Decl) (v : ℕ) → find (map same Δ) v ≡ Option.map same (find Δ v)
unfolding find same read_decl
find_same [] v = refl
find_same (d ∷ Δ) v = rw (find_same Δ v) (go (eqb d.name.value v))
  where
    go : (b : Bool) → cond b (some (same d)) (Option.map same (find Δ v)) ≡ Option.map same (cond b (some d) (find Δ v))
    go true = refl
    go false = refl

position_same : (l : List Decl) (v : ℕ) → position (map same l) v ≡ position l v
unfolding position same read_decl
position_same [] v = refl
position_same (d ∷ l) v = rw (position_same l v)

sources_same : (l : List Decl) → map source (map same l) ≡ map source l
unfolding source same read_decl
sources_same [] = refl
sources_same (d ∷ l) = ap (λ (r : List Source). source d ∷ r) (sources_same l)

slots_same : (p : Decl → Bool) → ((d : Decl) → p d ≡ true → is_input d.mode ≡ false) → (Δ : List Decl)
    → map slot (map same (filter p Δ)) ≡ map slot (filter p Δ)
unfolding filter
slots_same p h [] = refl
slots_same p h (d ∷ Δ) = go (p d) refl (slots_same p h Δ)
  where
    go : (b : Bool) → p d ≡ b → map slot (map same (filter p Δ)) ≡ map slot (filter p Δ)
        → map slot (map same (cond b (d ∷ filter p Δ) (filter p Δ))) ≡ map slot (cond b (d ∷ filter p Δ) (filter p Δ))
    go true q r = rw (slot_same d (h d q), r)
    go false q r = r

-- TYPES AND EXPRESSIONS

type_in_same : (o : Option Decl) → type_in (Option.map same o) ≡ type_in o
unfolding type_in same read_decl
type_in_same none = refl
type_in_same (some d) = refl

-- the type of an expression depends on its reading and on those of the declarations
type_of_same : (Δ : List Decl) (e : T.Expr) → type_of (map same Δ) (bare_expr (read_expr e)) ≡ type_of Δ e
unfolding type_of read_expr bare_expr
type_of_same Δ (T.number x) = refl
type_of_same Δ (T.bit x) = refl
type_of_same Δ (T.name x) = rw (find_same Δ x.value) (type_in_same (find Δ x.value))
type_of_same Δ (T.sign x a) = ap (on_one sum_type) (type_of_same Δ a)
type_of_same Δ (T.negate x a) = ap (on_one logical_type) (type_of_same Δ a)
type_of_same Δ (T.binary x a b) = rw (type_of_same Δ a, type_of_same Δ b)
type_of_same Δ (T.parens a) = type_of_same Δ a

-- the codes of expressions and statements, over declarations Δ with a clock c and the bare ones with a clock of the same name
module _ (Δ : List Decl) (c c' : Option Token) (h : (v : ℕ) → is_clock c' v ≡ is_clock c v) where
  inputs_same : filter (is_data c') (map same Δ) ≡ map same (filter (is_data c) Δ)
  unfolding is_data same read_decl
  inputs_same = filter_same (is_data c) (is_data c') (λ d. ap (λ (b : Bool). is_input d.mode && not b) (h d.name.value)) Δ

  outputs_same : filter (λ (d : Decl). is_output d.mode) (map same Δ) ≡ map same (filter (λ (d : Decl). is_output d.mode) Δ)
  unfolding same read_decl
  outputs_same = filter_same (λ (d : Decl). is_output d.mode) (λ (d : Decl). is_output d.mode) (λ d. refl) Δ

  variables_same : filter (λ (d : Decl). is_variable d.mode) (map same Δ) ≡ map same (filter (λ (d : Decl). is_variable d.mode) Δ)
  unfolding same read_decl
  variables_same = filter_same (λ (d : Decl). is_variable d.mode) (λ (d : Decl). is_variable d.mode) (λ d. refl) Δ

  input_same : (v : ℕ) → position (scope_for (map same Δ) c').inputs v ≡ position (scope_for Δ c).inputs v
  unfolding scope_for
  input_same v = rw inputs_same (position_same (filter (is_data c) Δ) v)

  output_same : (v : ℕ) → position (scope_for (map same Δ) c').outputs v ≡ position (scope_for Δ c).outputs v
  unfolding scope_for
  output_same v = rw outputs_same (position_same (filter (λ (d : Decl). is_output d.mode) Δ) v)

  variable_same : (v : ℕ) → position (scope_for (map same Δ) c').variables v ≡ position (scope_for Δ c).variables v
  unfolding scope_for
  variable_same v = rw variables_same (position_same (filter (λ (d : Decl). is_variable d.mode) Δ) v)

  name_code_same : (v : ℕ) (m : Mode) → name_code (scope_for (map same Δ) c') v m ≡ name_code (scope_for Δ c) v m
  unfolding name_code
  name_code_same v T.input = rw (input_same v)
  name_code_same v T.output_port = refl
  name_code_same v T.variable_mode = rw (variable_same v)

  named_same : (v : ℕ) (o : Option Decl) → named (scope_for (map same Δ) c') v (Option.map same o) ≡ named (scope_for Δ c) v o
  unfolding named same read_decl
  named_same v none = refl
  named_same v (some d) = name_code_same v d.mode

  code_same : (e : T.Expr) → code (map same Δ) (scope_for (map same Δ) c') (bare_expr (read_expr e)) ≡ code Δ (scope_for Δ c) e
  unfolding code read_expr bare_expr
  code_same (T.number x) = refl
  code_same (T.bit x) = refl
  code_same (T.name x) = rw (find_same Δ x.value) (named_same x.value (find Δ x.value))
  code_same (T.sign x a) = rw (type_of_same Δ a, code_same a)
  code_same (T.negate x a) = rw (type_of_same Δ a, code_same a)
  code_same (T.binary x a b) = rw (type_of_same Δ a, code_same a, code_same b)
  code_same (T.parens a) = code_same a

  mutual
    unfolding stmt stmts read_stmt read_body bare_stmt bare_body

    stmt_same : (s : T.Stmt) → stmt (map same Δ) (scope_for (map same Δ) c') (bare_stmt (read_stmt s)) ≡ stmt Δ (scope_for Δ c) s
    stmt_same (T.output x e) = rw (output_same x.value, code_same e)
    stmt_same (T.assign x e) = rw (variable_same x.value, code_same e)
    stmt_same T.null = refl
    stmt_same (T.wait x) = refl
    stmt_same (T.if_then i e a) = rw (code_same e, stmts_same a)
    stmt_same (T.if_else i e a b) = rw (code_same e, stmts_same a, stmts_same b)
    stmt_same (T.while w e a) = rw (code_same e, stmts_same a)

    stmts_same : (b : Body) → stmts (map same Δ) (scope_for (map same Δ) c') (bare_body (read_body b)) ≡ stmts Δ (scope_for Δ c) b
    stmts_same (T.only s) = stmt_same s
    stmts_same (T.and_then s b) = rw (stmt_same s, stmts_same b)

  process_same : (b : Body) → process_for (map same Δ) (scope_for (map same Δ) c') (bare_body (read_body b)) ≡ process_for Δ (scope_for Δ c) b
  unfolding process_for scope_for
  process_same b = rw (
    stmts_same b,
    inputs_same,
    outputs_same,
    variables_same,
    sources_same (filter (is_data c) Δ),
    slots_same (λ (d : Decl). is_output d.mode) output_no_input Δ,
    slots_same (λ (d : Decl). is_variable d.mode) variable_no_input Δ,
  )

-- THE CLOCK

-- a statement, and a wait's name, with nothing left of it but what its reading has
abbrev bare : T.Stmt → T.Stmt
bare s = bare_stmt (read_stmt s)

abbrev bare_name : Token → Token
bare_name x = valued x.value

-- the statements of the bare tree, its first wait and its clock
mutual
  unfolding within statements read_stmt read_body bare_stmt bare_body

  within_bare : (s : T.Stmt) → within (bare_stmt (read_stmt s)) ≡ map bare (within s)
  within_bare (T.output x e) = refl
  within_bare (T.assign x e) = refl
  within_bare T.null = refl
  within_bare (T.wait x) = refl
  within_bare (T.if_then i e a) = rw (statements_bare a)
  within_bare (T.if_else i e a b) = rw (statements_bare a, statements_bare b, map-append bare (statements a) (statements b))
  within_bare (T.while w e a) = rw (statements_bare a)

  statements_bare : (b : Body) → statements (bare_body (read_body b)) ≡ map bare (statements b)
  statements_bare (T.only s) = within_bare s
  statements_bare (T.and_then s b) = rw (within_bare s, statements_bare b, map-append bare (within s) (statements b))

wait_name_bare : (s : T.Stmt) → wait_name (bare s) ≡ Option.map bare_name (wait_name s)
unfolding wait_name read_stmt bare_stmt
wait_name_bare (T.output x e) = refl
wait_name_bare (T.assign x e) = refl
wait_name_bare T.null = refl
wait_name_bare (T.wait x) = refl
wait_name_bare (T.if_then i e a) = refl
wait_name_bare (T.if_else i e a b) = refl
wait_name_bare (T.while w e a) = refl

first_wait_bare : (l : List T.Stmt) → first_wait (map bare l) ≡ Option.map bare_name (first_wait l)
unfolding first_wait or_else
first_wait_bare [] = refl
first_wait_bare (s ∷ l) = rw (wait_name_bare s, first_wait_bare l) (go (wait_name s))
  where
    go : (o : Option Token) → or_else (Option.map bare_name o) (Option.map bare_name (first_wait l)) ≡ Option.map bare_name (or_else o (first_wait l))
    go none = refl
    go (some x) = refl

clock_bare : (t : Text) (v : ℕ) → is_clock (clock_of (bare_text (reading t))) v ≡ is_clock (clock_of t) v
unfolding clock_of bare_text reading is_clock
clock_bare t v = rw (statements_bare t.body, first_wait_bare (statements t.body)) (go (first_wait (statements t.body)))
  where
    go : (o : Option Token) → is_clock (Option.map bare_name o) v ≡ is_clock o v
    go none = refl
    go (some w) = refl

-- THE THEOREMS

-- the process of a text is the process of its reading
pub elaborate_reading : (t : Text) → elaborate t ≡ process_of (reading t)
unfolding process_of elaborate scope_of bare_text reading
elaborate_reading t = sym (rw (declared_bare t) (process_same (declared t) (clock_of t) (clock_of (bare_text (reading t))) (clock_bare t) t.body))

-- trees with one reading have one process
pub same_design : (t u : Text) → reading t ≡ reading u → elaborate t ≡ elaborate u
same_design t u e = elaborate_reading t ∙ (ap process_of e ∙ sym (elaborate_reading u))

-- and valid texts with one reading mean one process
pub valid_same : {b c : List ℕ} {d e : Process} (v : Valid b d) (w : Valid c e) → reading v.tree ≡ reading w.tree → d ≡ e
valid_same {b} {c} {d} {e} v w r =
    sym (elaborated_only v.tree d (clean v.tree v.free) v.means)
    ∙ (same_design v.tree w.tree r ∙ elaborated_only w.tree e (clean w.tree w.free) w.means)
