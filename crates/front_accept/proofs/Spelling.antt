-- The places of declared names that the front end hands out have the names of the text's design: the bytes there, folded to lower case, are those of a name's
-- number. Assumes nothing.
use mathlib.Core.Path.{◌≡◌, refl, sym, ◌∙◌, ap}
use mathlib.Core.Bool.{Bool, true, false, cond}
use mathlib.Core.List.{List, [], ◌∷◌, ◌++◌, map}
use Prim.Native.Nat.{ℕ, suc, ◌+◌, ◌≤◌}
use native.Mathlib.Omega.{arith}
use native.Mathlib.Numerals.{add-one}
use lib.ListN.{length, get_or, take, drop, length-map, length-take}
use lib.Seq.{drop-cons}
use Rattle.spec_grammar.specs.Token.{Token}
use Rattle.spec_grammar.specs.Tree.{Mode, input, output_port, variable_mode, Group, Text}
use Rattle.spec_grammar.specs.Limits.{Each, group_names, body_names, text_names, WithinLimits}
use Rattle.spec_grammar.proofs.Each.{each_join, each_split}
use Rattle.base_codes.specs.Token.{one_of, NAME}
use Rattle.spec_design.specs.Spelling.{name_bytes}
use Rattle.spec_design.specs.Process.{Source, Slot}
use Rattle.spec_language.specs.Bytes.{lower, fixed}
use Rattle.spec_language.specs.Words.{folded}
use Rattle.spec_language.specs.Lists.{filter}
use Rattle.spec_language.specs.Declarations.{Decl, declare, spread, groups, declared, clock_of, scope_for, scope_of}
use Rattle.spec_language.specs.Elaboration.{source, slot, process_for, elaborate}
use Rattle.spec_language.proofs.NameBytes.{word_bytes}
use Rattle.front_token.specs.Places.{part}
use Rattle.front_lexer.specs.TokenValues.{token_value, Valued}
use Rattle.base_ir.specs.declared.Names.{Names}
use Rattle.base_ir.specs.declared.Declared.{Declared}
use Rattle.front_elaborator.specs.Names.{in_mode, Along}
use Rattle.front_elaborator.proofs.NameLawsDesign.{Kept, of_text}
use Rattle.front_accept.specs.Designs.{spellings, Spelled}

name_value : (w : List ℕ) (k : ℕ) → k ≡ NAME → token_value k w ≡ folded 0 w
unfolding token_value one_of fixed
name_value w k e = rw e

-- the bytes of a name token's number are its bytes in the text, folded to lower case
name_bytes_lem : (text : List ℕ) (x : Token) → Valued text x → x.kind ≡ NAME → x.size ≤ 32 → name_bytes x.value ≡ map lower (part text x.place x.size)
name_bytes_lem text x a k s =
    let w = part text x.place x.size in
    let v : x.value ≡ folded 0 (part text x.place x.size) = a.value ∙ name_value (part text x.place x.size) x.kind k in
    let l = length-take x.size (drop x.place text) in
    ap name_bytes v ∙ word_bytes (part text x.place x.size) (a.word k) (omega arith)

-- SIZES OF NAMES

-- "name 32 bytes"
abbrev Short : Token → Type 0
Short x = x.size ≤ 32

short_declare : (g : Group) (xs : List Token) → Each Short xs → Each (λ (d : Decl). Short d.name) (declare g xs)
unfolding declare
short_declare g [] p = tt
short_declare g (x ∷ xs) p = (p.0, short_declare g xs p.1)

short_spread : (gs : List Group) → Each Short (group_names gs) → Each (λ (d : Decl). Short d.name) (spread gs)
unfolding spread group_names
short_spread [] p = tt
short_spread (g ∷ gs) p =
    let r = each_split Short g.names (group_names gs) p in
    each_join (λ (d : Decl). Short d.name) (declare g g.names) (spread gs) (short_declare g g.names r.0) (short_spread gs r.1)

names_join : (a b : List Group) → Each Short (group_names a) → Each Short (group_names b) → Each Short (group_names (a ++ b))
unfolding group_names
names_join [] b p q = q
names_join (g ∷ a) b p q =
    let r = each_split Short g.names (group_names a) p in
    each_join Short g.names (group_names (a ++ b)) r.0 (names_join a b r.1 q)

short_declared : (t : Text) → WithinLimits t → Each (λ (d : Decl). Short d.name) (declared t)
unfolding declared groups text_names
short_declared t w =
    let r = each_split Short (group_names t.ports) (group_names t.vars ++ body_names t.body) w.names.1.1.1.1.1 in
    let s = each_split Short (group_names t.vars) (body_names t.body) r.1 in
    short_spread (t.ports ++ t.vars) (names_join t.ports t.vars r.0 s.0)

-- the bytes of a declared name
abbrev Read : List ℕ → Decl → Type 0
Read text d = map lower (part text d.name.place d.name.size) ≡ name_bytes d.name.value

all_read : (text : List ℕ) (Δ : List Decl) → Each (λ (d : Decl). Valued text d.name) Δ → Each (λ (d : Decl). d.name.kind ≡ NAME) Δ
    → Each (λ (d : Decl). Short d.name) Δ → Each (Read text) Δ
all_read text [] v k s = tt
all_read text (d ∷ Δ) v k s = (sym (name_bytes_lem text d.name v.0 k.0 s.0), all_read text Δ v.1 k.1 s.1)

each_filter : (P : Decl → Type 0) (q : Decl → Bool) (Δ : List Decl) → Each P Δ → Each P (filter q Δ)
unfolding filter
each_filter P q [] e = tt
each_filter P q (d ∷ Δ) e = go (q d) (each_filter P q Δ e.1)
  where
    go : (b : Bool) → Each P (filter q Δ) → Each P (cond b (d ∷ filter q Δ) (filter q Δ))
    go true r = (e.0, r)
    go false r = r

-- PLACES

-- the numbers that an array begins with, by index
begins_with : (g : Decl → ℕ) (F : List Decl) (l : List ℕ) (k : ℕ) → k + length F ≤ length l → take (length F) (drop k l) ≡ map g F
    → Along (λ (i : ℕ) (d : Decl). get_or l i 0 ≡ g d) k F
begins_with g [] l k h e = tt
begins_with g (d ∷ F) l k h e =
    let z : take (suc (length F)) (get_or l k 0 ∷ drop (suc k) l) ≡ g d ∷ map g F = rw (drop-cons l k 0 (omega arith)) at e in
    let x : get_or l k 0 ≡ g d = cc in
    let y : take (length F) (drop (suc k) l) ≡ map g F = cc in
    (x, begins_with g F l (k + 1) (omega arith) (rw (add-one k) y))

begins : (g : Decl → ℕ) (F : List Decl) (l : List ℕ) (n : ℕ) → length F ≡ n → take n l ≡ map g F → Along (λ (i : ℕ) (d : Decl). get_or l i 0 ≡ g d) 0 F
begins g F l n c e =
    let a : length (take n l) ≡ length F = ap length e ∙ length-map F g in
    let b = length-take n l in
    begins_with g F l 0 (omega arith) (rw c e)

spelled_from : (text starts sizes : List ℕ) (F : List Decl) (k : ℕ) → Each (Read text) F → Along (λ (i : ℕ) (d : Decl). get_or starts i 0 ≡ d.name.place) k F
    → Along (λ (i : ℕ) (d : Decl). get_or sizes i 0 ≡ d.name.size) k F
    → spellings text starts sizes k (length F) ≡ map (λ (d : Decl). name_bytes d.name.value) F
unfolding spellings
spelled_from text starts sizes [] k r a b = refl
spelled_from text starts sizes (d ∷ F) k r a b = rw (a.0, b.0, r.0, spelled_from text starts sizes F (k + 1) r.1 a.1 b.1)

spelled_list : (text : List ℕ) (F : List Decl) (r : Names) → Each (Read text) F → Kept F r
    → spellings text r.starts r.sizes 0 r.count ≡ map (λ (d : Decl). name_bytes d.name.value) F
spelled_list text F r e k =
    rw (sym k.count) (spelled_from text r.starts r.sizes F 0 e (begins (λ (d : Decl). d.name.place) F r.starts r.count k.count k.starts)
    (begins (λ (d : Decl). d.name.size) F r.sizes r.count k.count k.sizes))

-- the names of the sources and slots that declarations become
source_names : (F : List Decl) → map name_bytes (map (λ (s : Source). s.name) (map source F)) ≡ map (λ (d : Decl). name_bytes d.name.value) F
unfolding source
source_names [] = refl
source_names (d ∷ F) = ap (λ (l : List (List ℕ)). name_bytes d.name.value ∷ l) (source_names F)

slot_names : (F : List Decl) → map name_bytes (map (λ (s : Slot). s.name) (map slot F)) ≡ map (λ (d : Decl). name_bytes d.name.value) F
unfolding slot
slot_names [] = refl
slot_names (d ∷ F) = ap (λ (l : List (List ℕ)). name_bytes d.name.value ∷ l) (slot_names F)

-- THE LAW OF NAMES: what is kept of the three modes has the names of the text's design
pub names_spelled : (text : List ℕ) (t : Text) (d : Declared) → WithinLimits t → Each (λ (e : Decl). Valued text e.name) (declared t)
    → Each (λ (e : Decl). e.name.kind ≡ NAME) (declared t)
    → Kept (of_text t input) d.inputs → Kept (of_text t output_port) d.outputs → Kept (of_text t variable_mode) d.variables → Spelled text (elaborate t) d
unfolding elaborate process_for scope_of scope_for
names_spelled text t d w v n i o u =
    let r : Each (Read text) (declared t) = all_read text (declared t) v n (short_declared t w) in
    let f : (m : Mode) → Each (Read text) (of_text t m) = λ m. each_filter (Read text) (in_mode (clock_of t) m) (declared t) r in
    record {
      inputs = spelled_list text (of_text t input) d.inputs (f input) i ∙ sym (source_names (of_text t input));
      outputs = spelled_list text (of_text t output_port) d.outputs (f output_port) o ∙ sym (slot_names (of_text t output_port));
      variables = spelled_list text (of_text t variable_mode) d.variables (f variable_mode) u ∙ sym (slot_names (of_text t variable_mode));
    }
