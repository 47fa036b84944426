-- What is found of a statement, by its kind: an if, a while, a wait, any other. Assumes nothing.
use mathlib.Core.Path.{◌≡◌, refl, sym, ◌∙◌, ap}
use mathlib.Core.Bool.{Bool}
use mathlib.Core.Option.{Option, some}
use mathlib.Core.List.{List, [], ◌++◌, append-nil}
use Prim.Native.Nat.{ℕ, ◌+◌, min, max}
use native.Mathlib.Omega.{arith}
use Rattle.std.specs.Prelude as P
use Rattle.front_classes.specs.declared.rules.Class as K
use Rattle.front_classes.specs.declared.rules.Class.TheVariants as V
use lib.ListN.{length, length-append}
use Rattle.spec_grammar.specs.Token.{Token}
use Rattle.spec_grammar.specs.Tree.{Stmt, output, assign, null, wait, if_then, if_else, while, Body}
use Rattle.spec_design.specs.Statement.{Class, A, if_class}
use Rattle.spec_language.specs.Lists.{unless, each, lowest}
use Rattle.spec_language.specs.Declarations.{within, statements}
use Rattle.spec_language.specs.Classes.{pair, looped, class, classes, not_classed_wrong, loops_of}
use Rattle.front_layout.specs.Entries.{stmt_entries, body_entries}
use Rattle.front_offences.specs.Lowest.{option_of, lowest_of, lower}
use Rattle.front_layout.specs.Arrays.{TokensIn, number_in}
use Rattle.front_offences.proofs.Lowest.{lowest_append}
use Rattle.front_offences.proofs.Tokens.{place_is}
use Rattle.front_classes.specs.declared.Summary.{Summary}
use Rattle.front_classes.specs.Codes.{class_code, if_code, while_code, body_allowed}
use Rattle.front_classes.specs.Positions.{summary}
use Rattle.front_classes.specs.Lists.{members, list_entries, list_class, list_offences, of_statement}
use Rattle.front_classes.specs.Held.{number_of, RowsAre, RowsHeld, StatementFound, BlockFound}
use Rattle.front_classes.proofs.Codes.{if_is, while_is, allowed_is}
use Rattle.front_classes.proofs.Members.{each_append, members_entries, members_class, members_offences}
use Rattle.front_classes.proofs.Rows.{rows_append}

pub same_summary : {c d : P.Option K.Class} {l m : P.Option ℕ} → c ≡ d → l ≡ m → summary c l ≡ summary d m
same_summary p q = rw (p, q)

-- a body whose rows stand between two numbers
pub body_found : {rows places : List ℕ} {n from to : ℕ} {r : Summary} (ts : List Token) (kinds : List ℕ) (b : Body) → BlockFound rows places n from to r
    → TokensIn ts kinds places n → RowsAre ts rows from (body_entries b) → to ≡ from + length (body_entries b)
    → (r.class ≡ class_code (classes b)) × (r.lowest ≡ lowest_of (each loops_of (statements b)))
body_found {rows} {places} {n} {from} {to} {r} ts kinds b f t a k =
    let e = f.is ts kinds (members b) (record { tokens = t; are = rw (members_entries b) a; count = rw (members_entries b) k }) in (
      ap (λ (s : Summary). s.class) e ∙ ap class_code (members_class b),
      ap (λ (s : Summary). s.lowest) e
          ∙ ap (λ (l : List ℕ). lowest_of l) (members_offences b),
    )

-- no rows: "a missing else counts as null"
empty_found : {rows places : List ℕ} {n from to : ℕ} {r : Summary} (ts : List Token) (kinds : List ℕ) → BlockFound rows places n from to r
    → TokensIn ts kinds places n → to ≡ from → (r.class ≡ class_code (some A)) × (r.lowest ≡ P.None)
unfolding list_entries list_class list_offences lowest option_of
empty_found ts kinds f t k =
    let e = f.is ts kinds [] (record { tokens = t; are = tt; count = omega arith }) in
    (ap (λ (s : Summary). s.class) e, ap (λ (s : Summary). s.lowest) e)

-- the parts of an if, of which the second may be empty
branches : (x y : Option Class) (l m : List ℕ) {a b : Summary} {c : P.Option K.Class} {w : P.Option ℕ} → a.class ≡ class_code x → b.class ≡ class_code y → a.lowest ≡ lowest_of l → b.lowest
    ≡ lowest_of m → c ≡ if_code a.class b.class → w ≡ lower a.lowest b.lowest
    → summary c w ≡ summary (class_code (pair if_class x y)) (lowest_of (l ++ m))
branches x y l m p q r s u v = same_summary (u ∙ rw (p, q) (if_is x y)) (v ∙ rw (r, s) (sym (lowest_append l m)))

if_of : {rows places : List ℕ} {n at end other : ℕ} {a b : Summary} {c : P.Option K.Class} {w : P.Option ℕ} → number_of rows at 0 ≡ 3 → other ≡ max (at + 1) (min (number_of rows at 4) end)
    → BlockFound rows places n (at + 1) other a → BlockFound rows places n other end b
    → c ≡ if_code a.class b.class → w ≡ lower a.lowest b.lowest → (ts : List Token) (kinds : List ℕ) (s : Stmt)
    → RowsHeld ts kinds places n rows at end (stmt_entries s) → summary c w ≡ of_statement s
unfolding stmt_entries within class each loops_of lowest option_of
if_of k o f g u v ts kinds (output x e) h = absurd (let z = h.are.0.kind in omega arith)
if_of k o f g u v ts kinds (assign x e) h = absurd (let z = h.are.0.kind in omega arith)
if_of k o f g u v ts kinds null h = absurd (let z = h.are.0.kind in omega arith)
if_of k o f g u v ts kinds (wait x) h = absurd (let z = h.are.0.kind in omega arith)
if_of k o f g u v ts kinds (if_then i e x) h =
    let z = h.are.0.other in
    let y = h.count in
    let p = body_found ts kinds x f h.tokens h.are.1 (omega arith) in
    let q = empty_found ts kinds g h.tokens (omega arith) in
    branches (classes x) (some A) (each loops_of (statements x)) [] p.0 q.0 p.1 q.1 u v
    ∙ ap (λ (l : List ℕ). summary (class_code (pair if_class (classes x) (some A))) (lowest_of l)) (append-nil (each loops_of (statements x)))
if_of {rows} {at = at} {other = other} k o f g u v ts kinds (if_else i e x x') h =
    let z = h.are.0.other in
    let y = h.count in
    let j = length-append (body_entries x) (body_entries x') in
    let r = rows_append ts rows (at + 1) (body_entries x) (body_entries x') h.are.1 in
    let t : other ≡ at + 1 + length (body_entries x) = omega arith in
    let p = body_found ts kinds x f h.tokens r.0 t in
    let q = body_found ts kinds x' g h.tokens (rw t r.1) (omega arith) in
    branches (classes x) (classes x') (each loops_of (statements x)) (each loops_of (statements x')) p.0 q.0 p.1 q.1 u v
    ∙ ap (λ (l : List ℕ). summary (class_code (pair if_class (classes x) (classes x'))) (lowest_of l)) (sym (each_append loops_of (statements x) (statements x')))
if_of k o f g u v ts kinds (while i e x) h = absurd (let z = h.are.0.kind in omega arith)

pub if_found : {rows places : List ℕ} {n at end other : ℕ} {a b : Summary} {c : P.Option K.Class} {w : P.Option ℕ} → number_of rows at 0 ≡ 3 → other
    ≡ max (at + 1) (min (number_of rows at 4) end) → BlockFound rows places n (at + 1) other a → BlockFound rows places n other end b
    → c ≡ if_code a.class b.class → w ≡ lower a.lowest b.lowest → StatementFound rows places n at end (summary c w)
if_found k o f g u v = record { is = λ ts kinds s h. if_of k o f g u v ts kinds s h }

-- a while: its own offence, then those of its body
loop_of : (x : Option Class) (l : List ℕ) (p : ℕ) {a : Summary} {c : P.Option K.Class} {own w : P.Option ℕ} {i : ℕ} {fine : Bool} → a.class ≡ class_code x → a.lowest ≡ lowest_of l → i ≡ p → fine
    ≡ body_allowed a.class → own ≡ lowest_of (unless fine i) → c ≡ while_code a.class → w ≡ lower own a.lowest
    → summary c w ≡ summary (class_code (looped x)) (lowest_of (unless (not_classed_wrong x) p ++ l))
loop_of x l p q r s f o u v = same_summary (u ∙ rw q (while_is x)) (v ∙ rw (o, f, q, r, s, allowed_is x) (sym (lowest_append (unless (not_classed_wrong x) p) l)))

while_of : {rows places : List ℕ} {n at end : ℕ} {a : Summary} {c : P.Option K.Class} {own w : P.Option ℕ} {i : ℕ} {fine : Bool} → number_of rows at 0 ≡ 5 → BlockFound rows places n (at + 1) end a
    → i ≡ number_in places n (number_of rows at 1)
    → fine ≡ body_allowed a.class → own ≡ lowest_of (unless fine i) → c ≡ while_code a.class → w ≡ lower own a.lowest
    → (ts : List Token) (kinds : List ℕ) (s : Stmt) → RowsHeld ts kinds places n rows at end (stmt_entries s) → summary c w ≡ of_statement s
unfolding stmt_entries within class each loops_of lowest option_of
while_of k g d f o u v ts kinds (output x e) h = absurd (let z = h.are.0.kind in omega arith)
while_of k g d f o u v ts kinds (assign x e) h = absurd (let z = h.are.0.kind in omega arith)
while_of k g d f o u v ts kinds null h = absurd (let z = h.are.0.kind in omega arith)
while_of k g d f o u v ts kinds (wait x) h = absurd (let z = h.are.0.kind in omega arith)
while_of k g d f o u v ts kinds (if_then i e x) h = absurd (let z = h.are.0.kind in omega arith)
while_of k g d f o u v ts kinds (if_else i e x x') h = absurd (let z = h.are.0.kind in omega arith)
while_of {rows} {at = at} k g d f o u v ts kinds (while i e x) h =
    let y = h.count in
    let p = body_found ts kinds x g h.tokens h.are.1 (omega arith) in
    loop_of (classes x) (each loops_of (statements x)) i.place p.0 p.1
    (d ∙ (place_is h.tokens (number_of rows at 1) ∙ ap (λ (t : Token). t.place) h.are.0.token)) f o u v

pub while_found : {rows places : List ℕ} {n at end : ℕ} {a : Summary} {c : P.Option K.Class} {own w : P.Option ℕ} {i : ℕ} {fine : Bool} → number_of rows at 0 ≡ 5
    → BlockFound rows places n (at + 1) end a → i ≡ number_in places n (number_of rows at 1)
    → fine ≡ body_allowed a.class → own ≡ lowest_of (unless fine i) → c ≡ while_code a.class → w ≡ lower own a.lowest
    → StatementFound rows places n at end (summary c w)
while_found k g d f o u v = record { is = λ ts kinds s h. while_of k g d f o u v ts kinds s h }

-- "wait is C"
wait_of : {rows places : List ℕ} {n at end : ℕ} → number_of rows at 0 ≡ 0 → (ts : List Token) (kinds : List ℕ) (s : Stmt)
    → RowsHeld ts kinds places n rows at end (stmt_entries s) → summary (P.Some V.C) P.None ≡ of_statement s
unfolding stmt_entries within class each loops_of lowest option_of class_code
wait_of k ts kinds (output x e) h = absurd (let z = h.are.0.kind in omega arith)
wait_of k ts kinds (assign x e) h = absurd (let z = h.are.0.kind in omega arith)
wait_of k ts kinds null h = absurd (let z = h.are.0.kind in omega arith)
wait_of k ts kinds (wait x) h = refl
wait_of k ts kinds (if_then i e x) h = absurd (let z = h.are.0.kind in omega arith)
wait_of k ts kinds (if_else i e x x') h = absurd (let z = h.are.0.kind in omega arith)
wait_of k ts kinds (while i e x) h = absurd (let z = h.are.0.kind in omega arith)

pub wait_found : {rows places : List ℕ} {n at end : ℕ} → number_of rows at 0 ≡ 0 → StatementFound rows places n at end (summary (P.Some V.C) P.None)
wait_found k = record { is = λ ts kinds s h. wait_of k ts kinds s h }

-- "Assignments and null are A"
plain_of : {rows places : List ℕ} {n at end : ℕ} → (number_of rows at 0 ≡ 3 → ⊥) → (number_of rows at 0 ≡ 5 → ⊥) → (number_of rows at 0 ≡ 0 → ⊥)
    → (ts : List Token) (kinds : List ℕ) (s : Stmt) → RowsHeld ts kinds places n rows at end (stmt_entries s) → summary (P.Some V.A) P.None ≡ of_statement s
unfolding stmt_entries within class each loops_of lowest option_of class_code
plain_of k3 k5 k0 ts kinds (output x e) h = refl
plain_of k3 k5 k0 ts kinds (assign x e) h = refl
plain_of k3 k5 k0 ts kinds null h = refl
plain_of k3 k5 k0 ts kinds (wait x) h = absurd (k0 h.are.0.kind)
plain_of k3 k5 k0 ts kinds (if_then i e x) h = absurd (k3 h.are.0.kind)
plain_of k3 k5 k0 ts kinds (if_else i e x x') h = absurd (k3 h.are.0.kind)
plain_of k3 k5 k0 ts kinds (while i e x) h = absurd (k5 h.are.0.kind)

pub plain_found : {rows places : List ℕ} {n at end : ℕ} → (number_of rows at 0 ≡ 3 → ⊥) → (number_of rows at 0 ≡ 5 → ⊥) → (number_of rows at 0 ≡ 0 → ⊥)
    → StatementFound rows places n at end (summary (P.Some V.A) P.None)
plain_found k3 k5 k0 = record { is = λ ts kinds s h. plain_of k3 k5 k0 ts kinds s h }
