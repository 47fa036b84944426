-- The arrays of types and initial values are those of the text's design. Assumes nothing.
use mathlib.Core.Path.{◌≡◌, refl, sym, ◌∙◌, ap, subst}
use mathlib.Core.Bool.{Bool, true, false}
use mathlib.Core.Logic.{◌⊎◌, inl, inr}
use mathlib.Core.List.{List, [], ◌∷◌, ◌++◌, map, append_assoc}
use Prim.Native.Nat.{ℕ, suc, ◌+◌, ◌≤◌, ◌<◌, min}
use native.Mathlib.Omega.{arith}
use lib.Dec.{eqb, ltb}
use lib.ListN.{length, get_or, take, drop, replicate, length-map, length-replicate, get_or-eq_default}
use lib.Seq.{sets, sets-eq, take_all, take_at}
use lib.IntN.{ℤ, pos}
use borrow.Author.Tests.{ltb-true, ltb-false, lt-ltb, le-leb}
use Rattle.spec_grammar.specs.Token.{Token}
use Rattle.base_codes.specs.Token.{one_of, NAME, NUMBER, ZERO, ONE}
use Rattle.spec_grammar.specs.Tree as T
use Rattle.spec_grammar.specs.Tree.{Mode, input, output_port, variable_mode, Init, without, integer_literal, logic_literal, Group, Text}
use Rattle.spec_grammar.specs.Limits.{Each, init_numbers, group_numbers, body_exprs, exprs_numbers, text_numbers, WithinLimits}
use Rattle.spec_grammar.specs.Reader.{choose}
use Rattle.spec_grammar.proofs.Each.{each_at, each_join, each_split}
use Rattle.spec_design.specs.Types.{Ty, std_logic, integer, type_byte}
use Rattle.spec_design.specs.Process.{source_types, slot_types, initials, WellFormed}
use Rattle.spec_language.specs.Bytes.{fixed}
use Rattle.spec_language.specs.Words.{value}
use Rattle.spec_language.specs.Lists.{filter}
use Rattle.spec_language.specs.Declarations.{Decl, declare, spread, groups, declared, clock_of, scope_for, scope_of}
use Rattle.spec_language.specs.Elaboration.{minus, bit_value, source, initial, slot, process_for, elaborate}
use Rattle.front_token.specs.Places.{part}
use Rattle.front_lexer.specs.TokenValues.{token_value, Valued}
use Rattle.front_lexer.proofs.TokenValues.{number_token}
use Rattle.base_ir.specs.declared.Names.{Names}
use Rattle.base_ir.specs.declared.Declared.{Declared}
use Rattle.base_ir.specs.Arrays.{NamesIn}
use Rattle.front_limits.specs.Words.{WordsIn}
use Rattle.front_elaborator.specs.Positions.{number_at, field_at, literal_at, bit_at}
use Rattle.front_elaborator.specs.Names.{of_mode, picked, type_at, types_of, initial_at, values_of, place_at, places_of, filled_with, Heads, Gathers, in_mode}
use Rattle.front_elaborator.specs.Names.{Along, ClockIs}
use Rattle.front_elaborator.proofs.NameLawsLaid.{RowOf, declared_count, laid, picked_is, along_both, along_one}
use Rattle.front_elaborator.proofs.NameLawsHeld.{tests_along}
use Rattle.front_layout.specs.Tokens.{no_token, token_at}
use Rattle.front_layout.specs.Arrays.{TokensIn}
use Rattle.front_offences.specs.Kinded.{IsBit, KindedInit, KindedGroup, Kinded}
use Rattle.front_layout.specs.Headings.{mode_code, init_code, init_token, value_token, headings, value_index, DeclsIn}

-- TOKENS

module _ (text : List ℕ) (ts : List Token) (kinds starts sizes : List ℕ) (n : ℕ) (h : TokensIn ts kinds starts n) (s : WordsIn text ts sizes n) where
  -- past the last token there is no kind
  inside : (i : ℕ) → ((token_at ts i).kind ≡ 0 → ⊥) → i < n
  inside i g = go (ltb i n) refl
    where
      go : (b : Bool) → ltb i n ≡ b → i < n
      go true e = ltb-true i n e
      go false e = let c = h.count in let k = ltb-false i n e in let l : length ts ≤ i = omega arith in
          absurd (g (ap (λ (x : Token). x.kind) (get_or-eq_default ts no_token l)))

  -- the array element that stands at a token's index
  number_is : (a : List ℕ) (i x : ℕ) → i < n → get_or a i 0 ≡ x → number_at a i ≡ x
  number_is a i x l e = let k = h.short in rw (lt-ltb i 16384 (omega arith)) e

  -- the start and the size of a token that has a kind
  start_is : (i : ℕ) (x : Token) → token_at ts i ≡ x → x.kind ≡ NAME → number_at starts i ≡ x.place
  start_is i x e k =
      let kind : (token_at ts i).kind ≡ NAME = ap (λ (y : Token). y.kind) e ∙ k in
      let l = inside i (λ q. omega arith) in
      number_is starts i x.place l (h.place i l ∙ ap (λ (y : Token). y.place) e)

  size_is : (i : ℕ) (x : Token) → token_at ts i ≡ x → x.kind ≡ NAME → number_at sizes i ≡ x.size
  size_is i x e k =
      let kind : (token_at ts i).kind ≡ NAME = ap (λ (y : Token). y.kind) e ∙ k in
      let l = inside i (λ q. omega arith) in
      number_is sizes i x.size l (s.size i l ∙ ap (λ (y : Token). y.size) e)

  valued_at : (i : ℕ) → i < n → Valued text (token_at ts i)
  valued_at i l = let c = h.count in each_at (Valued text) ts no_token s.valued i (omega arith)

  name_valued : (i : ℕ) (x : Token) → token_at ts i ≡ x → x.kind ≡ NAME → Valued text x
  name_valued i x e k =
      let kind : (token_at ts i).kind ≡ NAME = ap (λ (y : Token). y.kind) e ∙ k in
      subst (Valued text) e (valued_at i (inside i (λ q. omega arith)))

  -- a number's value by its digits, "literal 2147483647" not being passed
  literal_is : (i : ℕ) (x : Token) → token_at ts i ≡ x → x.kind ≡ NUMBER → x.value ≤ 2147483647 → literal_at text starts sizes i ≡ x.value
  literal_is i x e k m =
      let kind : (token_at ts i).kind ≡ NUMBER = ap (λ (y : Token). y.kind) e ∙ k in
      let l = inside i (λ q. omega arith) in
      let a : number_at starts i ≡ (token_at ts i).place = number_is starts i (token_at ts i).place l (h.place i l) in
      let b : number_at sizes i ≡ (token_at ts i).size = number_is sizes i (token_at ts i).size l (s.size i l) in
      let v : value 0 (part text (token_at ts i).place (token_at ts i).size) ≡ x.value = sym (number_token text (token_at ts i) (valued_at i l) kind)
      ∙ ap (λ (y : Token). y.value) e in
      rw (a, b, v, le-leb x.value 2147483647 m)

  bit_value_lem : (k : ℕ) (w : List ℕ) → (k ≡ ZERO) ⊎ (k ≡ ONE) → pos (choose (eqb k 4) 1 0) ≡ bit_value (eqb (token_value k w) 1)
  unfolding token_value one_of fixed bit_value
  bit_value_lem k w (inl e) = rw e
  bit_value_lem k w (inr e) = rw e

  bit_is : (i : ℕ) (x : Token) → token_at ts i ≡ x → IsBit x → pos (bit_at kinds i) ≡ bit_value (eqb x.value 1)
  bit_is i x e k =
      let l = inside i (some_kind k (ap (λ (y : Token). y.kind) e)) in
      let a : number_at kinds i ≡ (token_at ts i).kind = number_is kinds i (token_at ts i).kind l (h.kind i l) in
      let v = valued_at i l in
      let u : x.value ≡ token_value x.kind (part text (token_at ts i).place (token_at ts i).size) =
      sym (ap (λ (y : Token). y.value) e) ∙ (v.value ∙ ap (λ (y : Token). token_value y.kind (part text (token_at ts i).place (token_at ts i).size)) e) in
      rw (a, ap (λ (y : Token). y.kind) e, u) (bit_value_lem x.kind (part text (token_at ts i).place (token_at ts i).size) k)
    where
      some_kind : {j m : ℕ} → (j ≡ ZERO) ⊎ (j ≡ ONE) → m ≡ j → m ≡ 0 → ⊥
      some_kind (inl p) q r = omega arith
      some_kind (inr p) q r = omega arith

  -- an initial value as the array has it
  initial_is : (decls : List ℕ) (k : ℕ) (d : Decl) → RowOf ts decls k d → KindedInit d.init
      → Each (λ (x : Token). x.value ≤ 2147483647) (init_numbers d.init)
      → initial_at text starts sizes kinds decls k ≡ initial d.init
  unfolding initial_at initial init_code init_token value_token value_index init_numbers
  initial_is decls k d r a b = go d.init r.init r.first r.value a b
    where
      go : (j : Init) → field_at decls k 3 ≡ init_code j → token_at ts (field_at decls k 4) ≡ init_token j
          → token_at ts (value_index (field_at decls k 3) (field_at decls k 4)) ≡ value_token j → KindedInit j
          → Each (λ (x : Token). x.value ≤ 2147483647) (init_numbers j)
          → initial_at text starts sizes kinds decls k ≡ initial j
      go without e f g p q = rw e
      go (integer_literal x) e f g p q = rw e (ap pos (literal_is (field_at decls k 4) x f p q.0))
      go (logic_literal x) e f g p q = rw e (bit_is (field_at decls k 4) x f p)
      go (T.minus y x) e f g p q = rw e (ap minus (literal_is (field_at decls k 4 + 1) x (rw e at g) p.1 q.0))

-- INITIAL VALUES OF A TREE

-- the kinds and the range of an initial value
abbrev FineInit : Init → Type 0
FineInit j = KindedInit j × Each (λ (x : Token). x.value ≤ 2147483647) (init_numbers j)

declare_fine : (g : Group) (xs : List Token) → FineInit g.init → Each (λ (d : Decl). FineInit d.init) (declare g xs)
unfolding declare
declare_fine g [] f = tt
declare_fine g (x ∷ xs) f = (f, declare_fine g xs f)

spread_fine : (gs : List Group) → Each KindedGroup gs → Each (λ (x : Token). x.value ≤ 2147483647) (group_numbers gs)
    → Each (λ (d : Decl). FineInit d.init) (spread gs)
unfolding spread group_numbers
spread_fine [] k l = tt
spread_fine (g ∷ gs) k l =
    let p = each_split (λ (x : Token). x.value ≤ 2147483647) (init_numbers g.init) (group_numbers gs) l in
    each_join (λ (d : Decl). FineInit d.init) (declare g g.names) (spread gs) (declare_fine g g.names (k.0.init, p.0))
    (spread_fine gs k.1 p.1)

spread_append : (a b : List Group) → spread (a ++ b) ≡ spread a ++ spread b
unfolding spread
spread_append [] b = refl
spread_append (g ∷ a) b = ap (λ (l : List Decl). declare g g.names ++ l) (spread_append a b)
    ∙ sym (append_assoc (declare g g.names) (spread a) (spread b))

declared_fine : (t : Text) → Kinded t → WithinLimits t → Each (λ (d : Decl). FineInit d.init) (declared t)
unfolding declared groups text_numbers
declared_fine t k w =
    let p = each_split (λ (x : Token). x.value ≤ 2147483647) (group_numbers t.ports) (group_numbers t.vars ++ exprs_numbers (body_exprs t.body))
    w.literals in
    let q = each_split (λ (x : Token). x.value ≤ 2147483647) (group_numbers t.vars) (exprs_numbers (body_exprs t.body)) p.1 in
    rw (spread_append t.ports t.vars)
    (each_join (λ (d : Decl). FineInit d.init) (spread t.ports) (spread t.vars) (spread_fine t.ports k.ports p.0)
    (spread_fine t.vars k.vars q.0))

each_along : (P : Decl → Type 0) (Δ : List Decl) (k : ℕ) → Each P Δ → Along (λ (i : ℕ) (d : Decl). P d) k Δ
each_along P [] k e = tt
each_along P (d ∷ Δ) k e = (e.0, each_along P Δ (k + 1) e.1)

along_each : (P : Decl → Type 0) (Δ : List Decl) (k : ℕ) → Along (λ (i : ℕ) (d : Decl). P d) k Δ → Each P Δ
along_each P [] k e = tt
along_each P (d ∷ Δ) k e = (e.0, along_each P Δ (k + 1) e.1)

-- ARRAYS

type_is : (decls : List ℕ) (k : ℕ) (d : Decl) → field_at decls k 2 ≡ type_byte d.type → type_at decls k ≡ type_byte d.type
type_is decls k d e = rw e (go d.type)
  where
    go : (y : Ty) → choose (eqb (type_byte y) 1) 1 0 ≡ type_byte y
    go std_logic = refl
    go integer = refl

-- an array that was filled begins with what g says of the declarations F
filled_takes : {A : Type 0} (z : A) (g : Decl → A) (F : List Decl) (items after : List A) → after ≡ filled_with z items → items ≡ map g F → length F ≤ 32
    → take (length F) after ≡ map g F
filled_takes z g F items after f e h =
    let m : length items ≡ length F = ap length e ∙ length-map F g in
    let l : length (replicate 32 z) ≡ 32 = length-replicate 32 z in
    let a : take 32 items ≡ items = take_all 32 items (omega arith) in
    let b : sets (replicate 32 z) 0 items ≡ items ++ drop (0 + length items) (replicate 32 z) = sets-eq items (replicate 32 z) 0 (omega arith) in
    ap (take (length F)) (f ∙ (ap (sets (replicate 32 z) 0) a ∙ b)) ∙ (take_at items (drop (0 + length items) (replicate 32 z)) (length F) m ∙ e)

-- the types and initial values of the sources and slots that declarations become
source_types_lem : (F : List Decl) → (length (source_types (map source F)) ≡ length F)
    × (map type_byte (source_types (map source F)) ≡ map (λ (d : Decl). type_byte d.type) F)
unfolding source
source_types_lem [] = (refl, refl)
source_types_lem (d ∷ F) = let r = source_types_lem F in (ap suc r.0, ap (λ (l : List ℕ). type_byte d.type ∷ l) r.1)

slot_types_lem : (F : List Decl) → (length (slot_types (map slot F)) ≡ length F) × (map type_byte (slot_types (map slot F)) ≡ map (λ (d : Decl). type_byte d.type) F)
unfolding slot
slot_types_lem [] = (refl, refl)
slot_types_lem (d ∷ F) = let r = slot_types_lem F in (ap suc r.0, ap (λ (l : List ℕ). type_byte d.type ∷ l) r.1)

slot_initials_lem : (F : List Decl) → initials (map slot F) ≡ map (λ (d : Decl). initial d.init) F
unfolding slot
slot_initials_lem [] = refl
slot_initials_lem (d ∷ F) = ap (λ (l : List ℤ). initial d.init ∷ l) (slot_initials_lem F)

-- what is gathered of the declarations F: how many they are, and of each its type, start and size; and its initial value
pub record Kept (F : List Decl) (r : Names) : Type 0 where
  pub count : length F ≡ r.count
  pub types : take r.count r.types ≡ map (λ (e : Decl). type_byte e.type) F
  pub starts : take r.count r.starts ≡ map (λ (e : Decl). e.name.place) F
  pub sizes : take r.count r.sizes ≡ map (λ (e : Decl). e.name.size) F

abbrev pub Begun : List Decl → Names → Type 0
Begun F r = take r.count r.values ≡ map (λ (e : Decl). initial e.init) F

-- the declarations of a mode
abbrev pub of_text : Text → Mode → List Decl
of_text t m = filter (in_mode (clock_of t) m) (declared t)

-- each mode has few enough
pub few : (t : Text) (m : Mode) → WellFormed (elaborate t) → length (of_text t m) ≤ 32
unfolding elaborate process_for scope_of scope_for
few t input w = let a = w.inputs in let b = length-map (of_text t input) source in omega arith
few t output_port w = let a = w.outputs in let b = length-map (of_text t output_port) slot in omega arith
few t variable_mode w = let a = w.variables in let b = length-map (of_text t variable_mode) slot in omega arith

module _ (text : List ℕ) (ts : List Token) (kinds starts sizes : List ℕ) (n : ℕ) (tokens : TokensIn ts kinds starts n) (spelled : WordsIn text ts sizes n)
    (t : Text) (decls : List ℕ) (d clock : ℕ) (rows : DeclsIn ts (headings t) decls d) (clocked : ClockIs (clock_of t) clock (declared t))
    (kinded : Kinded t) (limits : WithinLimits t) (named : Each (λ (e : Decl). e.name.kind ≡ NAME) (declared t)) where
  along : Along (RowOf ts decls) 0 (declared t)
  along = laid ts t decls d rows

  count : min d 65 ≡ length (declared t)
  count = let n = declared_count ts t decls d rows in let s = rows.short in omega arith

  -- what is picked of the declarations of a mode
  of_mode_lem : {A : Type 0} (f : ℕ → A) (g : Decl → A) (m : Mode) → Along (λ (k : ℕ) (e : Decl). f k ≡ g e) 0 (declared t)
      → picked (of_mode decls clock (mode_code m)) f 0 (min d 65) ≡ map g (of_text t m)
  of_mode_lem f g m a =
      rw count (picked_is (of_mode decls clock (mode_code m)) f (in_mode (clock_of t) m) g (declared t) 0
      (along_both (λ (k : ℕ) (e : Decl). of_mode decls clock (mode_code m) k ≡ in_mode (clock_of t) m e) (λ (k : ℕ) (e : Decl). f k ≡ g e) _ (declared t) 0
      (λ k e p q. (p, q))
      (tests_along (clock_of t) ts decls clock m (declared t) along clocked) a))

  types_along : Along (λ (k : ℕ) (e : Decl). type_at decls k ≡ type_byte e.type) 0 (declared t)
  types_along = along_one (RowOf ts decls) _ (declared t) 0 (λ k e r. type_is decls k e r.type) along

  fine : Along (λ (k : ℕ) (e : Decl). FineInit e.init) 0 (declared t)
  fine = each_along (λ (e : Decl). FineInit e.init) (declared t) 0 (declared_fine t kinded limits)

  values_along : Along (λ (k : ℕ) (e : Decl). initial_at text starts sizes kinds decls k ≡ initial e.init) 0 (declared t)
  values_along =
      along_both (RowOf ts decls) (λ (k : ℕ) (e : Decl). FineInit e.init) _ (declared t) 0
      (λ k e r f. initial_is text ts kinds starts sizes n tokens spelled decls k e r f.0 f.1) along fine

  names_along : Along (λ (k : ℕ) (e : Decl). e.name.kind ≡ NAME) 0 (declared t)
  names_along = each_along (λ (e : Decl). e.name.kind ≡ NAME) (declared t) 0 named

  starts_along : Along (λ (k : ℕ) (e : Decl). place_at starts decls k ≡ e.name.place) 0 (declared t)
  starts_along =
      along_both (RowOf ts decls) (λ (k : ℕ) (e : Decl). e.name.kind ≡ NAME) _ (declared t) 0
      (λ k e r f. start_is text ts kinds starts sizes n tokens spelled (field_at decls k 0) e.name r.name f) along names_along

  sizes_along : Along (λ (k : ℕ) (e : Decl). place_at sizes decls k ≡ e.name.size) 0 (declared t)
  sizes_along =
      along_both (RowOf ts decls) (λ (k : ℕ) (e : Decl). e.name.kind ≡ NAME) _ (declared t) 0
      (λ k e r f. size_is text ts kinds starts sizes n tokens spelled (field_at decls k 0) e.name r.name f) along names_along

  -- the bytes of each name are a word of the text
  valued_along : Along (λ (k : ℕ) (e : Decl). Valued text e.name) 0 (declared t)
  valued_along =
      along_both (RowOf ts decls) (λ (k : ℕ) (e : Decl). e.name.kind ≡ NAME) _ (declared t) 0
      (λ k e r f. name_valued text ts kinds starts sizes n tokens spelled (field_at decls k 0) e.name r.name f) along names_along

  pub valued_names : Each (λ (e : Decl). Valued text e.name) (declared t)
  valued_names = along_each (λ (e : Decl). Valued text e.name) (declared t) 0 valued_along

  -- THE LAW OF DECLARED NAMES: what is gathered of a mode is kept of its declarations
  pub kept : (m : Mode) {r : Names} → length (of_text t m) ≤ 32 → Heads starts sizes decls d clock (mode_code m) r → Kept (of_text t m) r
  unfolding types_of places_of
  kept m {r} h g =
      let F : List Decl = of_text t m in
      let a = of_mode_lem (type_at decls) (λ (e : Decl). type_byte e.type) m types_along in
      let c : length F ≡ r.count = (let x = g.count in let y = ap length a in let z = length-map (of_text t m) (λ (e : Decl). type_byte e.type) in
      omega arith) in
      record {
        count = c;
        types = rw (sym c) (filled_takes 0 (λ (e : Decl). type_byte e.type) F _ r.types g.type a h);
        starts = rw (sym c) (filled_takes 0 (λ (e : Decl). e.name.place) F _ r.starts g.start
            (of_mode_lem (place_at starts decls) (λ (e : Decl). e.name.place) m starts_along) h);
        sizes = rw (sym c) (filled_takes 0 (λ (e : Decl). e.name.size) F _ r.sizes g.size
            (of_mode_lem (place_at sizes decls) (λ (e : Decl). e.name.size) m sizes_along) h);
      }

  pub begun : (m : Mode) {r : Names} → length (of_text t m) ≤ 32 → Gathers text starts sizes kinds decls d clock (mode_code m) r → Begun (of_text t m) r
  unfolding values_of
  begun m {r} h g =
      let c = (kept m h g.heads).count in
      rw (sym c) (filled_takes (pos 0) (λ (e : Decl). initial e.init) (of_text t m) _ r.values g.value
      (of_mode_lem (initial_at text starts sizes kinds decls) (λ (e : Decl). initial e.init) m values_along) h)

-- what is kept of the three modes is what the text's design declares
pub names_held : (t : Text) (d : Declared) → Kept (of_text t input) d.inputs → Kept (of_text t output_port) d.outputs
    → Kept (of_text t variable_mode) d.variables
    → Begun (of_text t output_port) d.outputs → Begun (of_text t variable_mode) d.variables → NamesIn (elaborate t) d
unfolding elaborate process_for scope_of scope_for
names_held t d i o v p q =
    let inputs : List Decl = of_text t input in
    let outputs : List Decl = of_text t output_port in
    let variables : List Decl = of_text t variable_mode in
    record {
      inputs = ((source_types_lem inputs).0 ∙ i.count, i.types ∙ sym (source_types_lem inputs).1);
      outputs = ((slot_types_lem outputs).0 ∙ o.count, o.types ∙ sym (slot_types_lem outputs).1);
      variables = ((slot_types_lem variables).0 ∙ v.count, v.types ∙ sym (slot_types_lem variables).1);
      first_outputs = (ap length (slot_initials_lem outputs) ∙ (length-map outputs (λ (e : Decl). initial e.init) ∙ o.count), p ∙ sym (slot_initials_lem outputs));
      first_variables = (
        ap length (slot_initials_lem variables) ∙ (length-map variables (λ (e : Decl). initial e.init) ∙ v.count),
        q
            ∙ sym (slot_initials_lem variables),
      );
    }
