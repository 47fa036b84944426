-- What the functions over declared names leave is what the text's design has: the index of each name among those of its mode, and the arrays of types and
-- initial values. Assumes nothing.
use mathlib.Core.Path.{◌≡◌, refl, sym, ◌∙◌, ap}
use mathlib.Core.Bool.{Bool, true, false, not}
use mathlib.Core.Option.{Option, none, some}
use mathlib.Core.List.{List, [], ◌∷◌}
use Prim.Native.Nat.{ℕ, zero, suc, ◌+◌, ◌≤◌, ◌<◌, min}
use native.Mathlib.Omega.{arith}
use lib.Dec.{eqb}
use lib.ListN.{length, get_or, drop, get_or-append}
use lib.Seq.{sets-eq}
use borrow.Author.Tests.{lt-ltb, eq-eqb, ne_eqb}
use Rattle.spec_grammar.specs.Token.{Token}
use Rattle.spec_grammar.specs.Tree.{Mode, input, output_port, variable_mode, Text}
use Rattle.spec_language.specs.Lists.{each, filter}
use Rattle.spec_language.specs.Declarations.{Decl, declared, find, is_clock, clock_of}
use Rattle.spec_language.specs.Names.{again, doubled}
use Rattle.spec_language.specs.Elaboration.{position}
use Rattle.spec_language.proofs.Facts.{both_nil, unless_nil, not-true, eqb_eq}
use Rattle.front_layout.specs.Headings.{mode_code, headings, DeclsIn}
use Rattle.front_elaborator.specs.Positions.{slot_at}
use Rattle.front_elaborator.specs.Names.{of_mode, count_from, slot_of, each_from, slots_after, in_mode, Along, ClockIs}
use Rattle.front_elaborator.proofs.NameLawsLaid.{RowOf, declared_count, laid, of_input, of_output, of_variable, count_is, found_at, position_inside}
use Rattle.front_elaborator.proofs.NameLawsLaid.{along_both, along_one}

-- THE CLOCK

-- a name that does not come again is no later declaration's
later : (w : Token) (clock : ℕ) (Δ : List Decl) (k : ℕ) → clock < k → again w.value Δ ≡ []
    → Along (λ (i : ℕ) (d : Decl). eqb i clock ≡ is_clock (some w) d.name.value) k Δ
unfolding again each is_clock
later w clock [] k h a = tt
later w clock (d ∷ Δ) k h a =
    let s = both_nil _ _ a in
    let n = not-true (eqb d.name.value w.value) (unless_nil (not (eqb d.name.value w.value)) d.name.place s.0) in
    (ne_eqb k clock (λ q. omega arith) ∙ sym n, later w clock Δ (k + 1) (omega arith) s.1)

clock_from : (w : Token) (clock : ℕ) (Δ : List Decl) (k : ℕ) → clock ≡ k + position Δ w.value → doubled Δ ≡ []
    → Along (λ (i : ℕ) (d : Decl). eqb i clock ≡ is_clock (some w) d.name.value) k Δ
unfolding position doubled is_clock
clock_from w clock [] k e a = tt
clock_from w clock (d ∷ Δ) k e a = let s = both_nil (again d.name.value Δ) (doubled Δ) a in
    go (eqb d.name.value w.value) refl s.0 s.1 (clock_from w clock Δ (k + 1))
  where
    go : (b : Bool) → eqb d.name.value w.value ≡ b → again d.name.value Δ ≡ [] → doubled Δ ≡ []
        → (clock ≡ k + 1 + position Δ w.value → doubled Δ ≡ [] → Along (λ (i : ℕ) (c : Decl). eqb i clock ≡ eqb c.name.value w.value) (k + 1) Δ)
        → (eqb k clock ≡ eqb d.name.value w.value) × Along (λ (i : ℕ) (c : Decl). eqb i clock ≡ eqb c.name.value w.value) (k + 1) Δ
    go true b x y ih =
        let f : clock ≡ k + 0 = rw b at e in
        let v = eqb_eq d.name.value w.value b in
        (eq-eqb k clock (omega arith) ∙ sym b, later w clock Δ (k + 1) (omega arith) (rw v at x))
    go false b x y ih = let f : clock ≡ k + suc (position Δ w.value) = rw b at e in (ne_eqb k clock (λ q. omega arith) ∙ sym b, ih (omega arith) y)

-- where no name is declared twice, the number of the first declaration of the clock's name is the clock's
pub clock_found : (w : Token) (Δ : List Decl) → doubled Δ ≡ [] → ClockIs (some w) (position Δ w.value) Δ
clock_found w Δ a = clock_from w (position Δ w.value) Δ 0 (omega arith) a

-- without a clock any number past the declarations will do
clock_past : (clock : ℕ) (Δ : List Decl) (k : ℕ) → k + length Δ ≤ clock → Along (λ (i : ℕ) (d : Decl). eqb i clock ≡ is_clock none d.name.value) k Δ
unfolding is_clock
clock_past clock [] k h = tt
clock_past clock (d ∷ Δ) k h = (ne_eqb k clock (λ q. omega arith), clock_past clock Δ (k + 1) (omega arith))

pub clock_none : (clock : ℕ) (Δ : List Decl) → length Δ ≤ clock → ClockIs none clock Δ
clock_none clock Δ h = clock_past clock Δ 0 (omega arith)

-- INDICES

each_length : {A : Type 0} (f : ℕ → A) (k c : ℕ) → length (each_from f k c) ≡ c
unfolding each_from
each_length f k zero = refl
each_length f k (suc c) = ap suc (each_length f (k + 1) c)

each_at : (f : ℕ → ℕ) (k c i : ℕ) → i < c → get_or (each_from f k c) i 0 ≡ f (k + i)
unfolding each_from
each_at f k zero i h = absurd (omega arith)
each_at f k (suc c) zero h = ap f (omega arith)
each_at f k (suc c) (suc i) h = each_at f (k + 1) c i (omega arith) ∙ ap f (omega arith)

-- the array of indices, read back
pub slots_at : (decls : List ℕ) (d clock : ℕ) (before : List ℕ) (j : ℕ) → length before ≡ 65 → d ≤ 65 → j < d
    → slot_at (slots_after decls d clock before) j ≡ slot_of decls clock j
unfolding slots_after
slots_at decls d clock before j h s l =
    let m : min d 65 ≡ d = omega arith in
    let g : length (each_from (slot_of decls clock) 0 d) ≡ d = each_length (slot_of decls clock) 0 d in
    let q = lt-ltb j 65 (omega arith) in
    rw (q, m, sets-eq (each_from (slot_of decls clock) 0 d) before 0 (omega arith))
    (get_or-append (each_from (slot_of decls clock) 0 d) (drop (0 + length (each_from (slot_of decls clock) 0 d)) before) 0 j (omega arith)
    ∙ (each_at (slot_of decls clock) 0 d j l ∙ ap (slot_of decls clock) (omega arith)))

-- the tests of a mode along the declarations
pub tests_along : (c : Option Token) (ts : List Token) (decls : List ℕ) (clock : ℕ) (m : Mode) (Δ : List Decl) → Along (RowOf ts decls) 0 Δ → ClockIs c clock Δ
    → Along (λ (k : ℕ) (d : Decl). of_mode decls clock (mode_code m) k ≡ in_mode c m d) 0 Δ
unfolding mode_code
tests_along c ts decls clock input Δ a b = along_both (RowOf ts decls) _ _ Δ 0 (λ k d r e. of_input c decls clock k d r.mode e) a b
tests_along c ts decls clock output_port Δ a b = along_one (RowOf ts decls) _ Δ 0 (λ k d r. of_output c decls clock k d r.mode) a
tests_along c ts decls clock variable_mode Δ a b = along_one (RowOf ts decls) _ Δ 0 (λ k d r. of_variable c decls clock k d r.mode) a

-- THE LAW OF INDICES: a declared name that is not the clock has its position among the names of its mode
pub slots_held : (ts : List Token) (t : Text) (decls : List ℕ) (d clock : ℕ) (before : List ℕ) → DeclsIn ts (headings t) decls d
    → ClockIs (clock_of t) clock (declared t)
    → length before ≡ 65 → (v : ℕ) (e : Decl) → find (declared t) v ≡ some e → in_mode (clock_of t) e.mode e ≡ true
    → slot_at (slots_after decls d clock before) (position (declared t) v) ≡ position (filter (in_mode (clock_of t) e.mode) (declared t)) v
unfolding slot_of
slots_held ts t decls d clock before h b l v e f p =
    let n = declared_count ts t decls d h in
    let s = h.short in
    let i = position_inside (declared t) v e f in
    let a = laid ts t decls d h in
    let z : 0 + position (declared t) v ≡ position (declared t) v = omega arith in
    let r : RowOf ts decls (position (declared t) v) e = rw z at (found_at (RowOf ts decls) (declared t) 0 v e a f) in
    let m : min (position (declared t) v) 65 ≡ position (declared t) v = omega arith in
    slots_at decls d clock before (position (declared t) v) l s (omega arith)
    ∙ (ap (λ (q : ℕ). count_from (of_mode decls clock q) 0 (min (position (declared t) v) 65)) r.mode
    ∙ (rw m (count_is (of_mode decls clock (mode_code e.mode)) (in_mode (clock_of t) e.mode) (declared t) 0 v e
    (tests_along (clock_of t) ts decls clock e.mode (declared t) a b) f p)))
