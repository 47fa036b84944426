-- What the passes of the elaborator leave holds the design of every tree without offences. Assumes nothing.
use mathlib.Core.Path.{◌≡◌, refl, sym, ◌∙◌, ap, subst}
use mathlib.Core.Bool.{true}
use mathlib.Core.Option.{Option, none, some}
use mathlib.Core.List.{List, [], ◌++◌}
use Prim.Native.Nat.{ℕ, ◌≤◌}
use native.Mathlib.Omega.{arith}
use lib.ListN.{length, replicate}
use lib.Seq.{length-sets}
use lib.IntN.{ℤ}
use Rattle.spec_grammar.specs.Token.{Token}
use Rattle.spec_grammar.specs.Tree.{Mode, input, output_port, variable_mode, Text}
use Rattle.spec_grammar.specs.Limits.{group_numbers, exprs_numbers, body_exprs, text_numbers, WithinLimits}
use Rattle.spec_grammar.proofs.Each.{each_split}
use Rattle.spec_language.specs.Lists.{filter}
use Rattle.spec_language.specs.Declarations.{Decl, declared, find, is_input, is_output, is_variable, is_data, clock_of, scope_for, scope_of}
use Rattle.spec_language.specs.Names.{names}
use Rattle.spec_language.specs.Elaboration.{position, elaborate}
use Rattle.spec_language.proofs.Facts.{and_true_both}
use Rattle.spec_language.proofs.Elaborated.{not_doubled}
use Rattle.front_offences.specs.declared.Shape.{Shape}
use Rattle.front_scope.proofs.Resolved.{named_declared}
use Rattle.base_ir.specs.declared.Declared.{Declared}
use Rattle.front_clock.specs.Judges.{owner_of, Owns}
use Rattle.base_codes.specs.Limit.{TEXT}
use Rattle.front_elaborator.specs.Positions.{slot_at}
use Rattle.front_elaborator.specs.Names.{slots_after, in_mode, ClockIs}
use Rattle.front_elaborator.specs.Sources.{SlotsIn}
use Rattle.front_elaborator.proofs.NameLawsLaid.{declared_count}
use Rattle.front_elaborator.proofs.NameLawsHeld.{clock_found, clock_none, slots_held}
use Rattle.front_elaborator.proofs.NameLawsDesign.{few, kept, begun, valued_names, names_held}
use Rattle.front_elaborator.proofs.TreeFine.{Small}
use Rattle.front_elaborator.proofs.Whole.{body_laid}
use Rattle.base_ir.specs.Arrays.{BodyIn}
use Rattle.front_elaborator.proofs.ItemLoop.{elaborated}
use Rattle.front_accept.specs.Designs.{Declares, Lays, Border}
use Rattle.front_accept.specs.Readings.{HoldsValues}
use Rattle.front_accept.proofs.Spelling.{names_spelled}
use Rattle.front_layout.specs.Headings.{mode_code, headings, DeclsIn}

-- the numbers of the statements are within the limit
small : (t : Text) → WithinLimits t → Small (exprs_numbers (body_exprs t.body))
unfolding text_numbers
small t w =
    let a = each_split (λ (x : Token). x.value ≤ 2147483647) (group_numbers t.ports) (group_numbers t.vars ++ exprs_numbers (body_exprs t.body))
    w.literals in
    (each_split (λ (x : Token). x.value ≤ 2147483647) (group_numbers t.vars) (exprs_numbers (body_exprs t.body)) a.1).1

input_mode : (m : Mode) → is_input m ≡ true → m ≡ input
unfolding is_input
input_mode input e = refl
input_mode output_port e = absurd (let z : ◌≡◌ {A = ℕ} 0 1 = cc in omega arith)
input_mode variable_mode e = absurd (let z : ◌≡◌ {A = ℕ} 0 1 = cc in omega arith)

output_mode : (m : Mode) → is_output m ≡ true → m ≡ output_port
unfolding is_output
output_mode input e = absurd (let z : ◌≡◌ {A = ℕ} 0 1 = cc in omega arith)
output_mode output_port e = refl
output_mode variable_mode e = absurd (let z : ◌≡◌ {A = ℕ} 0 1 = cc in omega arith)

variable_mode_of : (m : Mode) → is_variable m ≡ true → m ≡ variable_mode
unfolding is_variable
variable_mode_of input e = absurd (let z : ◌≡◌ {A = ℕ} 0 1 = cc in omega arith)
variable_mode_of output_port e = absurd (let z : ◌≡◌ {A = ℕ} 0 1 = cc in omega arith)
variable_mode_of variable_mode e = refl

-- the clock's declaration has the number that was found
clock_is : (ts : List Token) (t : Text) (decls : List ℕ) (d c : ℕ) → DeclsIn ts (headings t) decls d → names t ≡ [] → c ≡ owner_of (declared t) (clock_of t)
    → ClockIs (clock_of t) c (declared t)
unfolding owner_of
clock_is ts t decls d c h five e = go (clock_of t) e
  where
    go : (o : Option Token) → c ≡ owner_of (declared t) o → ClockIs o c (declared t)
    go none f = rw f (clock_none 65 (declared t) (let a = declared_count ts t decls d h in let b = h.short in omega arith))
    go (some w) f = rw f (clock_found w (declared t) (not_doubled t five))

module _ (ts : List Token) (t : Text) (decls slots₀ : List ℕ) (d c : ℕ) (D : DeclsIn ts (headings t) decls d) (C : ClockIs (clock_of t) c (declared t))
    (n : length slots₀ ≡ 65) where
  by_mode : (v : ℕ) (e : Decl) (m : Mode) → find (declared t) v ≡ some e → e.mode ≡ m → in_mode (clock_of t) m e ≡ true
      → slot_at (slots_after decls d c slots₀) (position (declared t) v) ≡ position (filter (in_mode (clock_of t) m) (declared t)) v
  by_mode v e m f q h =
      subst (λ (x : Mode). slot_at (slots_after decls d c slots₀) (position (declared t) v) ≡ position (filter (in_mode (clock_of t) x) (declared t)) v) q
      (slots_held ts t decls d c slots₀ D C n v e f (subst (λ (x : Mode). in_mode (clock_of t) x e ≡ true) (sym q) h))

  slots_in_lem : SlotsIn (declared t) (scope_of t) (clock_of t) (slots_after decls d c slots₀)
  unfolding scope_of scope_for is_data
  slots_in_lem = record {
    input = λ v e f h. by_mode v e input f (input_mode e.mode (and_true_both (is_input e.mode) _ h).0) h;
    output = λ v e f h. by_mode v e output_port f (output_mode e.mode h) h;
    variable = λ v e f h. by_mode v e variable_mode f (variable_mode_of e.mode h) h;
  }

-- THE LAW
pub laid_out : {text kinds starts sizes decls owners : List ℕ} {p : Shape} {args₀ : List ℤ} {c : ℕ} {codes ops lines₀ lines : List ℕ}
    {args₁ args₂ : List ℤ} {d : Declared} {ts : List Token} {t : Text} → Owns lines₀ p.statements owners p.tokens c
    → Declares text kinds starts sizes p decls c d → Lays p.names c decls owners d codes ops args₁ args₂ lines₀ lines
    → length args₀ ≡ TEXT → HoldsValues text ts kinds starts sizes codes lines₀ decls owners args₀ args₁ p t
    → Border text (elaborate t) d ops args₂ lines
unfolding mode_code
laid_out {text} {kinds} {starts} {sizes} {decls} {owners} {p} {args₀} {c} {codes} {ops} {lines₀} {lines} {args₁} {args₂} {d} {ts} {t} ow de la lr hv =
    let n = p.tokens in
    let indices = hv.indices in
    let L = hv.tree.laid in
    let W = hv.tree.words in
    let lim = hv.tree.limits in
    let five = hv.tree.named in
    let eight = hv.tree.clocked in
    let wf = hv.tree.formed in
    let lc = hv.tree.room in
    let ll = hv.tree.lines_room in
    let re = hv.values in
    let C = clock_is ts t decls p.names c L.of_decls five (ow.clocks ts t kinds starts codes indices p.items decls p.names L) in
    let S : SlotsIn (declared t) (scope_of t) (clock_of t) la.slots =
    rw la.indexed (slots_in_lem ts t decls (replicate 65 0) p.names c L.of_decls C refl) in
    let el = elaborated text starts sizes kinds owners decls p.names la.slots lr re (rw de.operations at la.placed) in
    let b = body_laid text ts t kinds starts sizes owners decls la.slots codes indices lines₀ n p.names p.items p.statements L.of_tokens W
    L.of_owners L.of_decls S L.of_items L.of_rows L.kinded.body
    (small t lim) five eight codes ops lines₀ lines args₀ la.bare lc lr ll el (rw de.statements at la.lines) in
    let N = named_declared t L.kinded in
    let ki = kept text ts kinds starts sizes n L.of_tokens W t decls p.names c L.of_decls C L.kinded lim N input (few t input wf) de.inputs in
    let ko = kept text ts kinds starts sizes n L.of_tokens W t decls p.names c L.of_decls C L.kinded lim N output_port (few t output_port wf)
    de.outputs.heads in
    let kv = kept text ts kinds starts sizes n L.of_tokens W t decls p.names c L.of_decls C L.kinded lim N variable_mode (few t variable_mode wf)
    de.variables.heads in
    let bo = begun text ts kinds starts sizes n L.of_tokens W t decls p.names c L.of_decls C L.kinded lim N output_port (few t output_port wf)
    de.outputs in
    let bv = begun text ts kinds starts sizes n L.of_tokens W t decls p.names c L.of_decls C L.kinded lim N variable_mode (few t variable_mode wf)
    de.variables in
    let x = valued_names text ts kinds starts sizes n L.of_tokens W t decls p.names c L.of_decls C L.kinded lim N in
    let h = names_held t d ki ko kv bo bv in
    let s : length la.bare ≡ TEXT = ap length el.args ∙ simp length-sets lr in
    let te = rw de.operations at la.told in
    let body : BodyIn (elaborate t) ops args₂ lines p.items p.statements =
    record {
      block = b.block;
      code = te.holds (elaborate t) d.inputs.count d.variables.count wf s h.inputs h.variables
          b.code;
      lines = b.lines;
    } in
    record { holds = record { body = rw (de.operations, de.statements) body; declared = h }; spelled = names_spelled text t d lim x N ki ko kv }
