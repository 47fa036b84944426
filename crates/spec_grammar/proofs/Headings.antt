-- The ports and variables of a text: after every token the counts keep their limits exactly where the tree does. The machine is the counts themselves;
-- they only grow, so their end decides, and by induction over the groups they end as the tree has them. Assumes nothing.
use mathlib.Core.Path.{◌≡◌, refl, sym, ◌∙◌, ap, subst}
use mathlib.Core.Bool.{Bool, true, false}
use mathlib.Core.Logic.{◌↔◌}
use mathlib.Core.List.{List, [], ◌∷◌}
use Prim.Native.Nat.{ℕ, suc, ◌+◌, ◌≤◌}
use native.Mathlib.Omega.{arith}
use lib.ListN.{length}
use Rattle.spec_grammar.specs.Token.{Token}
use Rattle.spec_grammar.specs.Tree.{Mode, input, output_port, variable_mode, Group, Text}
use Rattle.spec_grammar.specs.Grammar.{text, Mark, plain, item, opens, closes, fresh, stmt, stmt_fresh, deeper, shallower, declares, ins, outs, variables}
use Rattle.spec_grammar.specs.Meter.{InHeading, Meter, zeroes, tick}
use Rattle.spec_grammar.specs.Limits.{if_input, if_output, input_count, output_count, name_count}
use Rattle.spec_grammar.specs.Derivation.{Reads}
use Rattle.spec_grammar.proofs.Walk.{port_mark, on_more_names, on_names, on_mode, on_port, on_more_ports, on_ports, on_vars, on_text}
use Rattle.spec_grammar.proofs.Along.{Along, Follows, text_along, by_marks, follows_marks}
use Rattle.spec_grammar.proofs.Idle.{body_idle, names_idle, init_idle}

-- the meter's own step
act : Mark → InHeading → InHeading
act m s = (tick (record { expr = zeroes.expr; body = zeroes.body; head = s; bytes = 0; literal = 0 }) m
    (record { kind = 0; value = 0; size = 0; place = 0 })).head

-- the counts keep the limits; so does the tree
abbrev Well : InHeading → Type 0
Well s = (s.inputs ≤ 17) × (s.outputs ≤ 16) × (s.vars ≤ 32)

abbrev pub Kept : Meter → Type 0
Kept c = (c.head.inputs ≤ 17) × (c.head.outputs ≤ 16) × (c.head.vars ≤ 32)

abbrev pub Keeps : Text → Type 0
Keeps t = (input_count t.ports ≤ 17) × (output_count t.ports ≤ 16) × (name_count t.vars ≤ 32)

abbrev Fits : Meter → InHeading → Type 0
Fits c s = c.head ≡ s

-- the counts only grow
declares_grows : (w i o v : ℕ) (b : Bool) → let s : InHeading = record { waiting = w; inputs = i; outputs = o; vars = v; are_vars = b } in
    Well (act declares s) → Well s
unfolding act tick
declares_grows w i o v true h = omega arith
declares_grows w i o v false h = omega arith

grows : (m : Mark) (s : InHeading) → Well (act m s) → Well s
unfolding act tick
grows plain s h = h
grows item s h = h
grows opens s h = h
grows closes s h = h
grows fresh s h = h
grows stmt s h = h
grows stmt_fresh s h = h
grows deeper s h = h
grows shallower s h = h
grows declares s h = declares_grows s.waiting s.inputs s.outputs s.vars s.are_vars h
grows ins s h = omega arith
grows outs s h = omega arith
grows variables s h = h

follows : (c : Meter) (s : InHeading) → Fits c s → (m : Mark) (x : Token) → Follows Fits Kept Well s (act m s) (tick c m x)
unfolding act tick
follows c s f m x =
    let e : (tick c m x).head ≡ act m s = ap (act m) f in
    record { fits = e; ends = λ w. (grows m s w, subst Well (sym e) w); goes_on = λ w k. subst Well e k }

-- among the ports, with w names that wait for their mode; among the variables
abbrev of_ports : ℕ → ℕ → ℕ → ℕ → InHeading
of_ports w i o v = record { waiting = w; inputs = i; outputs = o; vars = v; are_vars = false }

abbrev of_vars : ℕ → ℕ → ℕ → InHeading
of_vars i o v = record { waiting = 0; inputs = i; outputs = o; vars = v; are_vars = true }

same_ports : (w v : ℕ) {i j o p : ℕ} → i ≡ j → o ≡ p → of_ports w i o v ≡ of_ports w j p v
same_ports w v e f = cc

-- Names.
more_vars : (i o v : ℕ) (l : List Token) → on_more_names (by_marks act) declares l (of_vars i o v) ≡ of_vars i o (v + length l)
unfolding on_more_names act tick
more_vars i o v [] = ap (of_vars i o) (omega arith)
more_vars i o v (x ∷ l) = more_vars i o (suc v) l ∙ ap (of_vars i o) (omega arith)

names_vars : (i o v : ℕ) (l : List Token) → on_names (by_marks act) declares l (of_vars i o v) ≡ of_vars i o (v + length l)
unfolding on_names act tick
names_vars i o v [] = ap (of_vars i o) (omega arith)
names_vars i o v (x ∷ l) = more_vars i o (suc v) l ∙ ap (of_vars i o) (omega arith)

more_ports_lem : (w i o v : ℕ) (l : List Token) → on_more_names (by_marks act) declares l (of_ports w i o v) ≡ of_ports (w + length l) i o v
unfolding on_more_names act tick
more_ports_lem w i o v [] = ap (λ (n : ℕ). of_ports n i o v) (omega arith)
more_ports_lem w i o v (x ∷ l) = more_ports_lem (suc w) i o v l ∙ ap (λ (n : ℕ). of_ports n i o v) (omega arith)

names_ports : (i o v : ℕ) (l : List Token) → on_names (by_marks act) declares l (of_ports 0 i o v) ≡ of_ports (length l) i o v
unfolding on_names act tick
names_ports i o v [] = refl
names_ports i o v (x ∷ l) = more_ports_lem 1 i o v l ∙ ap (λ (n : ℕ). of_ports n i o v) (omega arith)

-- Groups.
mode_ends : (i o v : ℕ) (m : Mode) (l : List Token)
    → on_mode (by_marks act) m (on_names (by_marks act) (port_mark m) l (of_ports 0 i o v)) ≡ of_ports 0 (i + if_input m (length l)) (o + if_output m (length l)) v
unfolding on_mode act tick if_input if_output
mode_ends i o v input l = ap (act ins) (names_ports i o v l) ∙ same_ports 0 v refl (omega arith)
mode_ends i o v output_port l = ap (act outs) (names_ports i o v l) ∙ same_ports 0 v (omega arith) refl
mode_ends i o v variable_mode l =
    names_idle act (λ c. refl) plain (λ c. refl) l (of_ports 0 i o v) ∙ same_ports 0 v (omega arith) (omega arith)

port_ends : (i o v : ℕ) (g : Group) → on_port (by_marks act) g (of_ports 0 i o v) ≡ of_ports 0 (i + if_input g.mode (length g.names))
    (o + if_output g.mode (length g.names)) v
unfolding on_port act tick
port_ends i o v g = init_idle act (λ c. refl) g.init _ ∙ mode_ends i o v g.mode g.names

more_ports_end : (i o v : ℕ) (gs : List Group) → on_more_ports (by_marks act) gs (of_ports 0 i o v) ≡ of_ports 0 (i + input_count gs) (o + output_count gs) v
unfolding on_more_ports act tick input_count output_count
more_ports_end i o v [] = same_ports 0 v (omega arith) (omega arith)
more_ports_end i o v (g ∷ gs) = rw (port_ends i o v g) (more_ports_end (i + if_input g.mode (length g.names)) (o + if_output g.mode (length g.names)) v gs ∙ same_ports 0 v (omega arith) (omega arith))

ports_end : (gs : List Group) → on_ports (by_marks act) gs (of_ports 0 0 0 0) ≡ of_ports 0 (input_count gs) (output_count gs) 0
unfolding on_ports input_count output_count
ports_end [] = refl
ports_end (g ∷ gs) = rw (port_ends 0 0 0 g) (more_ports_end _ _ 0 gs ∙ same_ports 0 0 (omega arith) (omega arith))

-- Variables.
record Declares (k : ℕ) (s s' : InHeading) : Type 0 where
  inputs : s'.inputs ≡ s.inputs
  outputs : s'.outputs ≡ s.outputs
  vars : s'.vars ≡ s.vars + k

vars_end : (gs : List Group) (s : InHeading) → Declares (name_count gs) s (on_vars (by_marks act) gs s)
unfolding on_vars act tick name_count
vars_end [] s = omega arith
vars_end (g ∷ gs) s =
    let h : Declares (name_count gs) (of_vars s.inputs s.outputs (s.vars + length g.names))
    (on_vars (by_marks act) gs (of_vars s.inputs s.outputs (s.vars + length g.names))) =
    vars_end gs (of_vars s.inputs s.outputs (s.vars + length g.names)) in
    rw (init_idle act (λ c. refl) g.init, names_vars s.inputs s.outputs s.vars g.names) (omega arith)

text_is : (t : Text) → on_text (by_marks act) t (of_ports 0 0 0 0) ≡ on_vars (by_marks act) t.vars (of_ports 0 (input_count t.ports) (output_count t.ports) 0)
unfolding on_text act tick
text_is t =
    body_idle act (λ c. refl) (λ c. refl) (λ c. refl) (λ c. refl) (λ c. refl) (λ c. refl) (λ c. refl) (λ c. refl) (λ c. refl) t.body _
    ∙ ap (on_vars (by_marks act) t.vars) (ports_end t.ports)

-- After every token of a text the counts of ports and variables keep their limits exactly where its tree does.
pub headings_kept : (ts : List Token) (es : List Mark) (t : Text) → Reads text ts es t → Along Kept zeroes ts es ↔ Keeps t
headings_kept ts es t r =
    let s : InHeading = of_ports 0 (input_count t.ports) (output_count t.ports) 0 in
    let g : Declares (name_count t.vars) s (on_vars (by_marks act) t.vars s) = vars_end t.vars s in
    let k : Along Kept zeroes ts es ↔ Well (on_vars (by_marks act) t.vars s) =
    rw (text_is t) at (text_along (by_marks act) Fits Kept Well (follows_marks act Fits Kept Well follows) ts es t r (of_ports 0 0 0 0) refl (omega arith)) in
    ((λ a. let w : Well (on_vars (by_marks act) t.vars s) = k.0 a in omega arith), λ w. k.1 (omega arith))
