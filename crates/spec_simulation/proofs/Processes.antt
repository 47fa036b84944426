-- The table of a well-formed process is good, so that its image opens to it: line by line, over the reaches of a body. Assumes nothing.
use Prim.Native.Nat.{ℕ, suc, ◌+◌, ◌≤◌, ◌<◌}
use native.Mathlib.Omega.{arith}
use mathlib.Core.Path.{◌≡◌, refl, sym, ap, ◌∙◌}
use mathlib.Core.Bool.{true}
use mathlib.Core.Option.{some}
use mathlib.Core.List.{List, [], ◌∷◌}
use lib.ListN.{length, get_or, length-map}
use lib.IntN.{ℤ}
use lib.Dec.{eqb}
use borrow.Author.Tests.{lt-ltb, eq-eqb}
use Rattle.spec_design.specs.Types.{Ty, boolean}
use Rattle.spec_design.specs.Statement.{Stmt, act, wait, if_then, if_else, while, seq, size}
use Rattle.spec_design.specs.Process.{Source, Slot, Process, slot_types, initials as slot_initials, fits, typed, Initialised as SlotsInitialised, WellFormed}
use Rattle.spec_semantics.specs.Rows.{row_refusal}
use Rattle.spec_semantics.proofs.Basic.{and_left, and_right}
use Rattle.spec_semantics.proofs.Results.{size_pos}
use Rattle.spec_format.specs.Words.{Bytes}
use Rattle.spec_format.specs.Lines.{Line, waits, acts, branches, lines_of, line, reach, reach_of, reaches_of}
use Rattle.spec_format.specs.Signature.{Signature, types, initials, Initialised, GoodSignature}
use Rattle.spec_format.specs.Good.{fits_line, within, good_line, GoodLines, GoodTable}
use Rattle.spec_format.specs.Opening.{opened, open_of}
use Rattle.spec_format.specs.Encode.{cells, signature_for, table_of, encode}
use Rattle.spec_format.specs.State.{fresh_table, fresh_of}
use Rattle.spec_semantics.specs.Records.{state_for, fresh}
use Rattle.spec_format.specs.Cycle.{row_place}
use Rattle.spec_semantics.proofs.Basic.{and_both}
use Rattle.spec_format.proofs.Opens.{table_opens}
use Rattle.spec_format.proofs.Encoded.{table_bytes}
use Rattle.spec_simulation.specs.Ranked.{Followers}
use Rattle.spec_simulation.proofs.Lines.{Each, lines_of_length, lines_of_line}
use Rattle.spec_simulation.proofs.Reaches.{reaches_of_length, lines_of_ranked}
use Rattle.spec_simulation.proofs.Below.{reaches_of_below}

pub cells_types : (l : List Slot) → types (cells l) ≡ slot_types l
cells_types [] = refl
cells_types (s ∷ l) = ap (λ (r : List Ty). s.type ∷ r) (cells_types l)

pub cells_length : (l : List Slot) → length (cells l) ≡ length l
cells_length [] = refl
cells_length (s ∷ l) = ap suc (cells_length l)

pub cells_initials : (l : List Slot) → initials (cells l) ≡ slot_initials l
cells_initials [] = refl
cells_initials (s ∷ l) = ap (λ (r : List ℤ). s.initial ∷ r) (cells_initials l)

cells_initialised : (l : List Slot) → SlotsInitialised l → Initialised (cells l)
unfolding Initialised
cells_initialised [] h = tt
cells_initialised (s ∷ l) h = (h.0, cells_initialised l h.1)

pub signature_good : (p : Process) → WellFormed p → GoodSignature (signature_for p)
unfolding signature_for
signature_good p w =
    record {
      inputs = omega (arith, length-map p.inputs (λ (s : Source). s.type), w.inputs);
      outputs = omega (arith, cells_length p.outputs, w.outputs);
      variables = omega (arith, cells_length p.variables, w.variables);
      initial_outputs = cells_initialised p.outputs w.initial_outputs;
      initial_variables = cells_initialised p.variables w.initial_variables;
    }

-- each line of a typed statement fits
lines_fit : (σ : Signature) (s : Stmt) (n f : ℕ) → typed σ.inputs (types σ.outputs) (types σ.variables) s ≡ true
    → Each (λ x l. fits_line σ l ≡ true) s n f
unfolding typed Each
lines_fit σ (act a) n f h = h
lines_fit σ wait n f h = refl
lines_fit σ (if_then e a) n f h = (and_left (fits _ _ e _) _ h, lines_fit σ a (suc n) f (and_right (fits _ _ e _) _ h))
lines_fit σ (if_else e a b) n f h =
    let q = and_right (fits σ.inputs (types σ.variables) e (some boolean)) _ h in
    let t = typed σ.inputs (types σ.outputs) (types σ.variables) a in
    (and_left (fits _ _ e _) _ h, lines_fit σ a (suc n) f (and_left t _ q), lines_fit σ b (suc n + size a) f (and_right t _ q))
lines_fit σ (while e b) n f h = (and_left (fits _ _ e _) _ h, lines_fit σ b (suc n) n (and_right (fits _ _ e _) _ h))
lines_fit σ (seq a b) n f h =
    let t = typed σ.inputs (types σ.outputs) (types σ.variables) a in
    (lines_fit σ a n (n + size a) (and_left t _ h), lines_fit σ b (n + size a) f (and_right t _ h))

followers_within : (n : ℕ) (l : Line) → Followers n l → within n l ≡ true
followers_within n (waits f) h = lt-ltb f n h
followers_within n (acts a f) h = lt-ltb f n h
followers_within n (branches e f g) h = and_both _ _ (lt-ltb f n h.0) (lt-ltb g n h.1)

good_lines : (σ : Signature) (n : ℕ) (rs : List ℕ) (ls : List Line) (qs : List ℕ) → length qs ≡ length ls
    → ((x : ℕ) → x < length ls → (good_line σ n rs (get_or qs x 0) (get_or ls x (waits 0)) ≡ true) × (get_or qs x 0 < 65536)) → GoodLines σ n rs ls qs
unfolding GoodLines
good_lines σ n rs [] [] e h = tt
good_lines σ n rs [] (q ∷ qs) e h = absurd (omega arith)
good_lines σ n rs (l ∷ ls) [] e h = absurd (omega arith)
good_lines σ n rs (l ∷ ls) (q ∷ qs) e h =
    let p = h 0 (omega arith) in
    (p.0, p.1, good_lines σ n rs ls qs (omega arith) (λ x b. h (suc x) (omega arith)))

module _ (p : Process) (w : WellFormed p) where
  line_fits : (x : ℕ) → x < size p.body → fits_line (signature_for p) (line (lines_of p.body) x) ≡ true
  unfolding signature_for
  line_fits =
      lines_of_line (λ x l. fits_line (signature_for p) l ≡ true) p.body
      (lines_fit (signature_for p) p.body 0 0 (rw (cells_types p.outputs, cells_types p.variables) w.typed))

  line_good : (x : ℕ) → x < length (lines_of p.body)
      → (good_line (signature_for p) (length (lines_of p.body)) (reaches_of p.body) (reach (reaches_of p.body) x) (line (lines_of p.body) x) ≡ true)
      × (reach (reaches_of p.body) x < 65536)
  unfolding good_line
  line_good x b =
      let n = lines_of_length p.body in
      let l = line (lines_of p.body) x in
      let r = lines_of_ranked p.body w.class w.loops in
      let low = reaches_of_below p.body w.class w.loops x (omega arith) in (
        and_both (within (length (lines_of p.body)) l) _ (followers_within _ l (r.followers x b))
            (and_both (eqb (reach (reaches_of p.body) x) (reach_of (reaches_of p.body) l)) (fits_line (signature_for p) l)
            (eq-eqb _ _ (r.reaches x b)) (line_fits x (omega arith))),
        omega (arith, w.statements),
      )

  -- The table of a well-formed process is good where its image has at most 65,535 bytes.
  pub process_good : length (encode p) ≤ 65535 → GoodTable (table_of p)
  unfolding table_of encode
  process_good h =
      let n = lines_of_length p.body in
      record {
        signature = signature_good p w;
        some_line = omega (arith, size_pos p.body);
        few_lines = omega (arith, w.statements);
        lines =
            good_lines (signature_for p) (length (lines_of p.body)) (reaches_of p.body) (lines_of p.body) (reaches_of p.body)
            (reaches_of_length p.body ∙ sym n) line_good;
        bytes = h;
      }

  -- The image of a process opens to its table.
  pub encode_opens : length (encode p) ≤ 65535 → open_of (encode p) ≡ opened (table_of p)
  unfolding encode
  encode_opens h = table_opens (table_of p) (process_good h)

  -- Every number of it is a byte.
  pub encode_bytes : length (encode p) ≤ 65535 → Bytes (encode p)
  unfolding encode
  encode_bytes h = table_bytes (table_of p) (process_good h)

  -- The fresh state of its image: place 512 and the declared initial values.
  pub encode_fresh : length (encode p) ≤ 65535
      → fresh_of (encode p) ≡ fresh (state_for 512 (record { outputs = slot_initials p.outputs; variables = slot_initials p.variables }))
  unfolding fresh_of fresh_table table_of signature_for
  encode_fresh h = rw (encode_opens h, cells_initials p.outputs, cells_initials p.variables)

  -- 14 on the table's side is 14 on the text's side
  pub row_refusal_lem : (i : List ℤ) (n : ℕ) → row_place (signature_for p) i n ≡ row_refusal p (record { inputs = i; room = n })
  unfolding row_place row_refusal signature_for
  row_refusal_lem i n = rw (length-map p.inputs (λ (s : Source). s.type), cells_length p.outputs)
