-- The promises, each proved in a few lines from the theorems below. Assumes nothing.
use mathlib.Core.Path.{◌≡◌, refl, sym, ◌∙◌, ap, subst}
use mathlib.Core.Bool.{true}
use mathlib.Core.List.{List, [], ◌∷◌}
use Prim.Native.Nat.{ℕ, ◌≤◌}
use native.Mathlib.Omega.{arith}
use lib.ListN.{length}
use lib.IntN.{ℤ}
use Rattle.base_answers.specs.declared.State.{State}
use Rattle.spec_design.specs.Types.{in_range}
use Rattle.spec_language.specs.Validity.{Valid}
use Rattle.spec_language.proofs.Judged.{accepts}
use Rattle.spec_language.proofs.WellFormed.{valid_well_formed}
use Rattle.spec_semantics.specs.Multiplying.{Multiplying}
use Rattle.spec_semantics.proofs.Multiplying as M
use Rattle.spec_semantics.proofs.Faults.{operator_number}
use Rattle.spec_semantics.specs.Calls.{performed, not_performed, Called, Call}
use Rattle.spec_format.specs.Words.{Bytes}
use Rattle.spec_format.specs.Image.{Table, sections_for}
use Rattle.spec_format.specs.Opening.{Opened, opened, not_opened, open_of}
use Rattle.spec_format.specs.Cycle.{cycle_of, calls_of}
use Rattle.spec_simulation.specs.Outcome.{Outcome, row_refused, state_refused, operator_refused, performs, GoodState}
use Rattle.spec_simulation.proofs.Outcomes.{image_outcome}
use Rattle.spec_simulation.proofs.Processes.{encode_opens}
use Rattle.spec_behaviour.specs.Direct.{direct_of, direct_calls}
use Rattle.spec_interface.specs.Compile.{written, compile_of}
use Rattle.spec_interface.specs.Lending.{bounds_of}
use Rattle.spec_interface.specs.CInterface.{compile_in_c}
use Rattle.spec_interface.proofs.Compile.{wrote}
use Rattle.spec_interface.proofs.SectionsLent as L
use Rattle.spec_interface.proofs.Entry as E
use Rattle.spec_interface.proofs.CInterface as I
use Rattle.spec_promises.specs.Batch.{Batched, BatchTold, BatchOfText, BatchInC, BatchOfTextInC}
use Rattle.spec_promises.specs.Promises.{Demand1, Demand2, Demand3, Handed, SectionsLent, AnswersTold, ToldByEntry, SlotsInC, ToldInC, done_numbers}
use Rattle.spec_promises.specs.Promises.{CallsInC, Compiled, Returned}
use Rattle.spec_promises.proofs.Size.{valid_fits}
use Rattle.spec_promises.proofs.Demand1 as D1
use Rattle.spec_promises.proofs.Demand2 as D2
use Rattle.spec_promises.proofs.Demand3 as D3
use Rattle.spec_promises.proofs.Handed as H
use Rattle.spec_promises.proofs.AnswersTold as A
use Rattle.spec_promises.proofs.CInterface as C
use Rattle.spec_promises.proofs.Batch as B
use Rattle.spec_promises.proofs.BatchInC as BC

-- DEMAND 1, for every text, buffer, image (a list of bytes), state record and call
pub demand1 : (text buffer image : List ℕ) → Bytes image → (s : State) (c : Call) → Demand1 text buffer image s c
demand1 = D1.demand1

-- DEMAND 2, for every text
pub demand2 : (text : List ℕ) → Demand2 text
demand2 = D2.demand2

-- THE MULTIPLYING OPERATORS, for every two integers
pub multiplying : (x y : ℤ) → in_range x ≡ true → in_range y ≡ true → Multiplying x y
multiplying = M.multiplying

-- DEMAND 3, for every text and buffer, where the compile wrote n bytes
pub demand3 : (text buffer : List ℕ) (n : ℕ) → (compile_of text buffer).answer ≡ written n → Demand3 text buffer n
demand3 = D3.demand3

-- THE TOKEN HANDED OUT, for every text and place
pub handed : (text : List ℕ) (place : ℕ) → Handed text place
handed = H.handed

-- THE SECTIONS LENT OUT, for every image (a list of bytes) that opens, between the bounds of its table's sections
pub sections_lent : (image : List ℕ) → Bytes image → (t : Table) → open_of image ≡ opened t → SectionsLent image t (bounds_of (sections_for t))
sections_lent = L.sections_lent

-- ANSWERS THAT ARE ENUMS, and what entry leaves and tells beside them, for every text, image and state record
pub answers_told : AnswersTold
answers_told = A.answers_told

pub told_by_entry : (text image : List ℕ) (s : State) → ToldByEntry text image s
told_by_entry = E.told_by_entry

-- THE C INTERFACE: one call of each function, for every text, buffer, image, 49 numbers and call; every list of calls, where rabtishu_compile told n bytes
pub told_in_c : (text buffer image : List ℕ) → Bytes image → (l : List ℤ) (c : Call) → ToldInC text buffer image l c
told_in_c text buffer image h l c = I.told_in_c text buffer image l c

-- every state record has 16 and 32 slots, by its type
pub slots_in_c : (s : State) → length s.outputs ≡ 16 → length s.variables ≡ 32 → SlotsInC s
slots_in_c = I.slots_in_c

pub calls_in_c_lem : (text buffer : List ℕ) (n : ℕ) → (compile_in_c text buffer).0 ≡ done_numbers n → CallsInC text buffer n
calls_in_c_lem = C.calls_in_c_lem

-- MANY ROWS IN ONE CALL, for every image (a list of bytes), state record, count, inputs, outputs and answers; from the fresh state, where the compile wrote m
-- bytes; the same at the C interface, for every 49 numbers
pub batched : (image : List ℕ) → Bytes image → (s : State) (n : ℕ) (is os : List ℤ) (ns : List ℕ) → Batched image s n is os ns
batched = B.batched

pub batch_told_lem : BatchTold
batch_told_lem = B.batch_told_lem

pub batch_of_text : (text buffer : List ℕ) (m : ℕ) → (compile_of text buffer).answer ≡ written m → BatchOfText text buffer m
batch_of_text = B.batch_of_text

pub batch_in_c_lem : (image : List ℕ) → Bytes image → (l : List ℤ) (n : ℕ) (is os : List ℤ) (ns : List ℕ) → BatchInC image l n is os ns
batch_in_c_lem = BC.batch_in_c_lem

pub batch_of_text_in_c : (text buffer : List ℕ) (m : ℕ) → (compile_in_c text buffer).0 ≡ done_numbers m → BatchOfTextInC text buffer m
batch_of_text_in_c = BC.batch_of_text_in_c

-- calls that agree one by one agree as a list
calls_agree : (image text : List ℕ) → ((s : State) (c : Call) → cycle_of image s c.inputs c.outputs ≡ direct_of text s c)
    → (s : State) (cs : List Call) → calls_of image s cs ≡ direct_calls text s cs
unfolding calls_of direct_calls
calls_agree image text h s [] = refl
calls_agree image text h s (c ∷ cs) = rw (h s c) (ap (λ (l : List Called). direct_of text s c ∷ l) (calls_agree image text h (direct_of text s c).state cs))

-- what a compile wrote
pub compiled : (text buffer : List ℕ) (n : ℕ) → (compile_of text buffer).answer ≡ written n → Compiled text buffer n
compiled text buffer n e =
    let r = wrote text buffer n e in
    let v : Valid text r.process = (accepts text r.process).0 r.verdict in
    let f = valid_fits text r.process v in
    record {
      process = r.process;
      valid = v;
      bytes = r.image;
      size = subst (λ (m : ℕ). m ≤ 65535) r.count f;
      opens = ap open_of r.image ∙ encode_opens r.process (valid_well_formed v) f;
      agree = calls_agree _ text (D3.demand3 text buffer n e).direct;
    }

-- a call on an image that does not open
closed_answer : (image : List ℕ) (s : State) (c : Call) (q x : ℕ) → open_of image ≡ not_opened q x
    → (cycle_of image s c.inputs c.outputs).answer ≡ not_performed q x
unfolding cycle_of
closed_answer image s c q x e = rw e

refused_performs : (q x : ℕ) (way : List ℕ) → not_performed q x ≡ performed way → ⊥
refused_performs q x way e = let z : ◌≡◌ {A = ℕ} 0 1 = cc in omega arith

-- a state that a cycle returned
not_15 : (t : Table) (s : State) (d : Call) (r : Called) (k : ℕ) → GoodState t s → Outcome t s d.inputs d.outputs r → r.answer ≡ not_performed 15 k → ⊥
not_15 t s d r k g (row_refused x m) e = let z : ◌≡◌ {A = ℕ} 14 15 = cc in omega arith
not_15 t s d r k g (state_refused m b) e = b g
not_15 t s d r k g (operator_refused q x o m b l y) e = let z : q ≡ 15 = cc in omega (arith, (operator_number q o).0)
not_15 t s d r k g (performs p τ m b q w y n l) e = let z : ◌≡◌ {A = ℕ} 0 1 = cc in omega arith

returns_good : (t : Table) (s : State) (c : Call) (r : Called) (way : List ℕ) → Outcome t s c.inputs c.outputs r → r.answer ≡ performed way
    → GoodState t r.state
returns_good t s c r way (row_refused x m) e = absurd (let z : ◌≡◌ {A = ℕ} 0 1 = cc in omega arith)
returns_good t s c r way (state_refused m b) e = absurd (let z : ◌≡◌ {A = ℕ} 0 1 = cc in omega arith)
returns_good t s c r way (operator_refused q x o m b l y) e = absurd (let z : ◌≡◌ {A = ℕ} 0 1 = cc in omega arith)
returns_good t s c r way (performs p τ m b q w y n l) e = n

pub returned : (image : List ℕ) → Bytes image → (s : State) (c : Call) → Returned image s c
returned image h s c = record { never_15 = λ way e d k f. on (open_of image) refl way e d k f }
  where
    on : (o : Opened) → open_of image ≡ o → (way : List ℕ) → (cycle_of image s c.inputs c.outputs).answer ≡ performed way
        → (d : Call) (k : ℕ) → (cycle_of image (cycle_of image s c.inputs c.outputs).state d.inputs d.outputs).answer ≡ not_performed 15 k → ⊥
    on (opened t) e way a d k f =
        let g = returns_good t s c _ way (image_outcome image t h e s c.inputs c.outputs) a in
        not_15 t _ d _ k g (image_outcome image t h e _ d.inputs d.outputs) f
    on (not_opened q x) e way a d k f = refused_performs q x way (sym (closed_answer image s c q x e) ∙ a)
