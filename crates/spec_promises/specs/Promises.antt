-- What the buyer was promised: demands 1, 2 and 3, for every text, buffer, image, state record and list of calls. To be read first. The definitions that are
-- named here (spec_interface/specs/Operations.antt) stand in the `ensures` of the public functions: compile (`compile_of`), open (`open_of`), fresh (`fresh_of`),
-- cycle (`cycle_of`), direct (`direct_of`), direct_fresh (`direct_fresh`). They are functions, so every call ends and a refusal has one place. Assumes nothing.
use Rattle.base_answers.specs.declared.Counts.{Counts}
use Rattle.std.specs.Prelude.{◌≡◌, ◌↔◌, List, [], ◌∷◌, ◌++◌, map, ℕ, suc, ◌+◌, ◌≤◌, ◌<◌, length, take, drop, ℤ, Err, Ok, Result}
use Rattle.std.specs.Borrow.{Bor}
use Rattle.base_answers.specs.Answers.{number_of, place_of, told, cycle_told}
use Rattle.base_answers.specs.declared.State.{State}
use Rattle.base_answers.specs.declared.Refusal as declared
use Rattle.spec_grammar.specs.Tree.{Text}
use Rattle.spec_design.specs.Statement.{size}
use Rattle.spec_design.specs.Process.{Process}
use Rattle.spec_language.specs.Lexing as Lexing
use Rattle.spec_language.specs.Reading.{reading}
use Rattle.spec_language.specs.Validity.{Parses, Valid, Refuses, OfText}
use Rattle.spec_language.specs.Verdict.{accepted, refused, verdict}
use Rattle.spec_semantics.specs.Rows.{Kept, Outcome, rows, kept_at_first}
use Rattle.spec_semantics.specs.Rows as R
use Rattle.spec_semantics.specs.Equations as Equations
use Rattle.spec_semantics.specs.InputRow.{Meets14}
use Rattle.spec_semantics.specs.Refusal.{CycleFaults}
use Rattle.spec_semantics.specs.PublishedRows.{published_rows}
use Rattle.spec_semantics.specs.PrintedRows.{RowsPrinted}
use Rattle.spec_semantics.specs.Answer.{Answers, AllAnswer}
use Rattle.spec_semantics.specs.Way.{Distinct}
use Rattle.spec_semantics.specs.Records.{Started, fresh, not_started}
use Rattle.spec_semantics.specs.Calls.{Answer, performed, not_performed, Called, Call, turned_back}
use Rattle.spec_semantics.specs.Advances.{cycle_answer, fresh_answer}
use Rattle.spec_semantics.specs.Comparison.{fed, laid, seen, equation_calls}
use Rattle.spec_semantics.specs.DirectRow.{Described}
use Rattle.spec_format.specs.Image.{Table, encode_table}
use Rattle.spec_format.specs.Good.{GoodTable}
use Rattle.spec_format.specs.Lines.{lines_of, reaches_of, reach}
use Rattle.spec_format.specs.Walk.{from, table_cycle}
use Rattle.spec_format.specs.Opening.{Opened, opened, not_opened}
use Rattle.spec_format.specs.Refusals.{Refusal}
use Rattle.spec_format.specs.State.{memory_of, fresh_table}
use Rattle.spec_format.specs.Encode.{table_of, encode}
use Rattle.spec_format.specs.Writing.{Writing}
use Rattle.spec_simulation.specs.Outcome as Image
use Rattle.spec_behaviour.specs.Direct.{direct_calls}
use Rattle.spec_behaviour.specs.DirectRun.{DirectRun}
use Rattle.spec_interface.specs.Operations.{compile_of, open_of, fresh_of, cycle_of, calls_of, direct_of, direct_fresh, token_at}
use Rattle.spec_interface.specs.Compile.{written, not_compiled}
use Rattle.spec_interface.specs.CInterface.{c_of_state, compile_in_c, fresh_in_c, cycle_in_c, direct_fresh_in_c, direct_in_c, calls_in_c}
use Rattle.spec_interface.specs.Lending.{Lends, StandsAt, PartAt}
-- PROMISES THAT SPEAK OF THE INTERFACE ALONE stand beside its definitions, in spec_interface/specs/Told.antt; they are these.

-- THE SECTIONS LENT OUT, of an image that opens as the table t, between the bounds o. "The opened image lends out its three sections as parts of the caller's
-- bytes": what is lent are the bytes of signature, lines and code, each where it stands in the image. The bounds that opening finds are such.
pub use Rattle.spec_interface.specs.Told.{SectionsLent}
-- what entry leaves and tells beside its answers: the state record s is the fresh state where there is one and as it came where the call is refused; an opened
-- image tells 0 and 0, or the definition's own number and place
pub use Rattle.spec_interface.specs.Told.{ToldByEntry}
-- THE C INTERFACE, in the same words: what its functions hand out is what the definitions of the operations say, number by number (include/rabtishu.h).
-- a refusal is told as number, place, 0; what is done as 0, 0 and a count
pub use Rattle.spec_interface.specs.Told.{refused_numbers, done_numbers}
-- the 49 numbers of a state record: first the place, then 16 outputs, then 32 variables
pub use Rattle.spec_interface.specs.Told.{SlotsInC}
-- one call of each function, on any bytes, any 49 numbers and any rows: the three numbers are the definition's own number, place and count; a refused call
-- alters neither buffer, nor the 49 numbers, nor the output row
pub use Rattle.spec_interface.specs.Told.{ToldInC}
-- a call of the equations as a C caller sees it
pub use Rattle.spec_interface.specs.Told.{answer_in_c, seen_in_c}

-- DEMAND 1. "Nothing that comes in can upset it: every text, image, state and input row gets a result or a numbered refusal; every call ends; a refusal has
-- its place fixed and alters no byte of image, state or output row." Each operation below comes to one of the cases that are listed, and each case holds
-- the condition that document 01 has for it; behind them, for each operation, that it is refused by q at k exactly when a clause of the table says so.

-- compile: 1 to 9 by the table's rows, 10 where the image does not fit, else the image, "only the image's own bytes"
pub data Compiles (text buffer : List ℕ) : Writing → Type 0 where
  writes : (d : Process) → Valid text d → length (encode d) ≤ length buffer
      → Compiles text buffer (record { answer = written (length (encode d)); buffer = encode d ++ drop (length (encode d)) buffer })
  too_short : (d : Process) → Valid text d → length buffer < length (encode d)
      → Compiles text buffer (record { answer = not_compiled 10 (length (encode d)); buffer = buffer })
  refuses : (q k : ℕ) → OfText q → Refuses text q k → Compiles text buffer (record { answer = not_compiled q k; buffer = buffer })

-- open: the table whose bytes these are, or 11, 12 or 13
pub data Opens (image : List ℕ) : Opened → Type 0 where
  opens : (t : Table) → image ≡ encode_table t → GoodTable t → Opens image (opened t)
  refuses : (q k : ℕ) → 11 ≤ q → q ≤ 13 → Refusal image q k → Opens image (not_opened q k)

-- fresh: "place 512 and the initial values", or 11, 12 or 13
pub data Starts (image : List ℕ) : Started → Type 0 where
  starts : (t : Table) → open_of image ≡ opened t → Starts image (fresh (fresh_table t))
  refuses : (q k : ℕ) → 11 ≤ q → q ≤ 13 → Refusal image q k → Starts image (not_started q k)

-- cycle: 11, 12 or 13 of the image; else 14, 15, 16 or 18 or a cycle performed, as `Outcome` of the crate spec_simulation has it. Refused, state and output row are as they came
pub data Runs (image : List ℕ) (s : State) (c : Call) : Called → Type 0 where
  runs : (t : Table) → open_of image ≡ opened t → (r : Called) → Image.Outcome t s c.inputs c.outputs r → Runs image s c r
  refuses : (q k : ℕ) → 11 ≤ q → q ≤ 13 → Refusal image q k → Runs image s c (turned_back q k s c.outputs)

-- direct: 1 to 9 of the text, 14, 15; else the row as the equations answer it, performed or refused by 16 or 18
pub data RunsText (text : List ℕ) (s : State) (c : Call) : Called → Type 0 where
  refuses : (q k : ℕ) → OfText q → Refuses text q k → RunsText text s c (turned_back q k s c.outputs)
  by_14 : (d : Process) → Valid text d → (k : ℕ) → Meets14 d (fed c) k → RunsText text s c (turned_back 14 k s c.outputs)
  by_15 : (d : Process) → Valid text d → ((k : ℕ) → Meets14 d (fed c) k → ⊥) → (Described d s → ⊥) → RunsText text s c (turned_back 15 0 s c.outputs)
  answers : (d : Process) → Valid text d → ((k : ℕ) → Meets14 d (fed c) k → ⊥) → (g : Described d s) → (r : Outcome × Kept) → Answers d g.kept (fed c) r
      → RunsText text s c (seen r c)

-- direct_fresh: the beginning and the initial values, or 1 to 9
pub data StartsText (text : List ℕ) : Started → Type 0 where
  starts : (d : Process) → Valid text d → StartsText text (fresh (laid (kept_at_first d)))
  refuses : (q k : ℕ) → OfText q → Refuses text q k → StartsText text (not_started q k)

-- the clauses for a refused compile: 1 to 9, and 10, "image buffer too short", at "bytes needed"
pub data CompileRefused (text buffer : List ℕ) (q k : ℕ) : Type 0 where
  by_text : Refuses text q k → CompileRefused text buffer q k
  by_buffer : (d : Process) → Valid text d → length buffer < length (encode d) → q ≡ 10 → k ≡ length (encode d) → CompileRefused text buffer q k

-- the clauses for a refused cycle: 11 to 13 of the image; 14 of the rows; 15 of the state, where the rows are right; 16 or 18 where the state is right too, by the first
-- operator that is refused
pub data CycleRefused (image : List ℕ) (s : State) (c : Call) (q k : ℕ) : Type 0 where
  by_image : Refusal image q k → CycleRefused image s c q k
  by_row : (t : Table) → open_of image ≡ opened t → Image.Meets14 t.signature c.inputs (length c.outputs) k → q ≡ 14 → CycleRefused image s c q k
  by_state : (t : Table) → open_of image ≡ opened t → ((x : ℕ) → Image.Meets14 t.signature c.inputs (length c.outputs) x → ⊥)
      → (Image.GoodState t s → ⊥)
      → q ≡ 15 → k ≡ 0 → CycleRefused image s c q k
  by_operator : (t : Table) → open_of image ≡ opened t → ((x : ℕ) → Image.Meets14 t.signature c.inputs (length c.outputs) x → ⊥) → Image.GoodState t s
      → table_cycle t.lines t.reaches s.place c.inputs (record { way = []; memory = memory_of t.signature s }) ≡ Equations.refused q k
      → CycleRefused image s c q k

-- the clauses for a refused direct run: 1 to 9 of the text; 14, 15, 16 and 18 as before, by the text's declarations, waits and operators
pub data DirectRefused (text : List ℕ) (s : State) (c : Call) (q k : ℕ) : Type 0 where
  by_text : Refuses text q k → DirectRefused text s c q k
  by_row : (d : Process) → Valid text d → Meets14 d (fed c) k → q ≡ 14 → DirectRefused text s c q k
  by_state : (d : Process) → Valid text d → ((x : ℕ) → Meets14 d (fed c) x → ⊥) → (Described d s → ⊥) → q ≡ 15 → k ≡ 0 → DirectRefused text s c q k
  by_operator : (d : Process) → Valid text d → ((x : ℕ) → Meets14 d (fed c) x → ⊥) → (g : Described d s)
      → CycleFaults c.inputs d.body g.kept.place (record { way = []; memory = g.kept.memory }) q k → DirectRefused text s c q k

-- "Given exactly for": every refusal of every operation
pub record Exactly (text buffer image : List ℕ) (s : State) (c : Call) (q k : ℕ) : Type 0 where
  pub compile_refused : ((compile_of text buffer).answer ≡ not_compiled q k) ↔ CompileRefused text buffer q k
  pub image_refused : (open_of image ≡ not_opened q k) ↔ Refusal image q k
  pub fresh_refused : (fresh_of image ≡ not_started q k) ↔ Refusal image q k
  pub cycle_refused : ((cycle_of image s c.inputs c.outputs).answer ≡ not_performed q k) ↔ CycleRefused image s c q k
  pub direct_refused : ((direct_of text s c).answer ≡ not_performed q k) ↔ DirectRefused text s c q k
  pub direct_fresh_refused : (direct_fresh text ≡ not_started q k) ↔ Refuses text q k

pub record Demand1 (text buffer image : List ℕ) (s : State) (c : Call) : Type 0 where
  pub compiled : Compiles text buffer (compile_of text buffer)
  pub opened : Opens image (open_of image)
  pub started : Starts image (fresh_of image)
  pub cycled : Runs image s c (cycle_of image s c.inputs c.outputs)
  pub run : RunsText text s c (direct_of text s c)
  pub run_started : StartsText text (direct_fresh text)
  pub exactly : (q k : ℕ) → Exactly text buffer image s c q k

-- DEMAND 2, for every text b.
pub record Demand2 (b : List ℕ) : Type 0 where
  -- "A text is accepted exactly when the grammar, the limits, the name, value, clock and type rules and the A, B, C classes of document 01 allow it"
  pub accepts : (d : Process) → (verdict b ≡ accepted d) ↔ Valid b d
  -- and it is refused, by this number at this place, exactly when a row of the table says so
  pub refuses : (n p : ℕ) → (verdict b ≡ refused n p) ↔ Refuses b n p
  -- "and it has one reading"
  pub one_reading : (t u : Text) → Parses b t → Parses b u → reading t ≡ reading u
  pub one_meaning : (d e : Process) → Valid b d → Valid b e → d ≡ e
  -- "row by row, what the published ABC-VHDL equations give, within 32-bit integers": the rows of document 01's reading are those of B.3's equations
  pub published : (d : Process) → Valid b d → (cs : List R.Call) → published_rows d cs ≡ rows d cs
  -- and, the refused rows dropped, those of the equations as they are printed, without refusals and over unbounded integers: output row, outputs, variables
  -- and wait after each row that is performed, the printed equations being fed the input rows of just these
  pub printed : (d : Process) → Valid b d → (cs : List R.Call) → RowsPrinted d cs (rows d cs)
  -- each row is performed, refused by 14 or refused by an operator's number, exactly when document 01 says so
  pub answered : (d : Process) → Valid b d → (cs : List R.Call) → AllAnswer d (kept_at_first d) cs (rows d cs)
  -- "The direct run of an accepted text gives, row by row, what the published ABC-VHDL equations give": every list of calls, from the fresh state, beside
  -- the equations with refusals and as they are printed
  pub direct : (d : Process) → Valid b d → DirectRun b d

-- DEMAND 3, for one compile that wrote n bytes.

-- a performed cycle from the place q: "no way has a line twice, so each performed cycle reaches a wait within as many lines as the text has
-- statements"; "bounded by the follower's reach plus one"
abbrev pub Short : Process → ℕ → Answer → Type 0
Short p q (performed way) = Distinct way × (length way ≤ size p.body) × (length way ≤ suc (reach (reaches_of p.body) (from (lines_of p.body) q)))
Short p q (not_performed n k) = Unit {0}

-- all calls, the first from the state s
abbrev pub AllShort : Process → State → List Called → Type 0
AllShort p s [] = Unit {0}
AllShort p s (r ∷ rs) = Short p s.place r.answer × AllShort p r.state rs

-- The image that a compile wrote has a fresh state, and from it every list of calls, refused ones included, leaves after every call what the equations
-- of the text leave: the answer (the way, whose length is the line count; or number and place), the whole state record, the output row. From any other
-- state record, reached or not, a call leaves what the direct run of the text leaves.
pub record Demand3 (text buffer : List ℕ) (n : ℕ) : Type 0 where
  pub process : Process
  pub valid : Valid text process
  pub state : State
  pub starts : fresh_of (take n (compile_of text buffer).buffer) ≡ fresh state
  pub same : (cs : List Call) → calls_of (take n (compile_of text buffer).buffer) state cs ≡ equation_calls process (kept_at_first process) cs
  pub short : (cs : List Call) → AllShort process state (equation_calls process (kept_at_first process) cs)
  pub direct : (s : State) (c : Call) → cycle_of (take n (compile_of text buffer).buffer) s c.inputs c.outputs ≡ direct_of text s c
  pub direct_start : fresh_of (take n (compile_of text buffer).buffer) ≡ direct_fresh text

-- THE TOKEN HANDED OUT, for every text and place. "For 1 to 9, the token that starts at the place is handed out as that part of the text, or an empty part
-- where none starts; a malformed word is no token." Code lends, for any place, what `Lends` says; the place of a refusal by 1 to 9 is at most the text's length
-- (`PlacesFit`).
pub record Handed (text : List ℕ) (place : ℕ) : Type 0 where
  -- the bytes handed out are those of the token that starts there, exactly if one starts; no token is empty
  pub token : (u : List ℕ) → Lexing.Starts 0 text place u ↔ ((token_at text place ≡ u) × (0 < length u))
  -- "or an empty part where none starts"
  pub none : (token_at text place ≡ []) ↔ ((u : List ℕ) → Lexing.Starts 0 text place u → ⊥)
  -- "a malformed word is no token", nor is a byte that begins none: refusal 2 hands out an empty part
  pub malformed : Refuses text 2 place → token_at text place ≡ []
  -- "as that part of the text": these bytes, of which the C interface tells the number, stand in the text at the place, ..
  pub stands : place ≤ length text → StandsAt text place (token_at text place)
  -- .. and what is lent of the caller's text holds them there
  pub part : (s r : Bor (List ℕ)) → s.now ≡ text → Lends s place (place + length (token_at text place)) r
      → (r.now ≡ token_at text place) × (place ≤ length text → PartAt s place r)

-- THE SECTIONS LENT OUT: `SectionsLent`, above.

-- ANSWERS THAT ARE ENUMS. "Where an answer is an enum, the promises use a definition. That definition gives this paper's number and values for each of the
-- enum's cases." An answer of the code that tells what is told of the definition's, as every contract has it, is the count itself, or a refusal with the
-- definition's own number and place.
abbrev pub RefusedAs : {A : Type 0} → Result A declared.Refusal → ℕ → ℕ → Type 0
RefusedAs r q k = (x : declared.Refusal) × (r ≡ Err x) × (number_of x ≡ q) × (place_of x ≡ k)

pub record AnswersTold : Type 0 where
  pub compiled : (r : Result ℕ declared.Refusal) (n : ℕ) → told r ≡ written n → r ≡ Ok n
  pub compile_refused : (r : Result ℕ declared.Refusal) (q k : ℕ) → told r ≡ not_compiled q k → RefusedAs r q k
  pub started : (r : Result (Unit {0}) declared.Refusal) (s : State) → told r ≡ fresh_answer (fresh s) → r ≡ Ok tt
  pub start_refused : (r : Result (Unit {0}) declared.Refusal) (q k : ℕ) → told r ≡ fresh_answer (not_started q k) → RefusedAs r q k
  pub cycled : (r : Result Counts declared.Refusal) (way : List ℕ) → cycle_told r ≡ cycle_answer (performed way) → r ≡ Ok (record { lines = length way })
  pub cycle_refused : (r : Result Counts declared.Refusal) (q k : ℕ) → cycle_told r ≡ cycle_answer (not_performed q k) → RefusedAs r q k

-- WHAT ENTRY LEAVES AND TELLS beside them: `ToldByEntry`, above.

-- THE C INTERFACE, one call of each function: `ToldInC` and `SlotsInC`, above.

-- DEMAND 3 AND THE DIRECT RUN IN C, where rabtishu_compile told n bytes: from the 49 numbers that rabtishu_fresh leaves, every list of calls of
-- rabtishu_cycle on these bytes, refused ones included, leaves after every call the three numbers, the 49 numbers and the output row of the equations; and
-- so does every list of calls of rabtishu_direct on the text
pub record CallsInC (text buffer : List ℕ) (n : ℕ) : Type 0 where
  pub process : Process
  pub valid : Valid text process
  pub starts : (l : List ℤ) → fresh_in_c (take n (compile_in_c text buffer).1) l ≡ (done_numbers 0, c_of_state (laid (kept_at_first process)))
  pub same : (cs : List Call) → calls_in_c (cycle_in_c (take n (compile_in_c text buffer).1)) (c_of_state (laid (kept_at_first process))) cs ≡ map seen_in_c
      (equation_calls process (kept_at_first process) cs)
  pub direct_starts : (l : List ℤ) → direct_fresh_in_c text l ≡ (done_numbers 0, c_of_state (laid (kept_at_first process)))
  pub direct : (cs : List Call) → calls_in_c (direct_in_c text) (c_of_state (laid (kept_at_first process))) cs ≡ map seen_in_c (equation_calls process (kept_at_first process) cs)

-- COROLLARIES that an auditor asks for.

-- of a compile that wrote n bytes
pub record Compiled (text buffer : List ℕ) (n : ℕ) : Type 0 where
  pub process : Process
  pub valid : Valid text process
  -- "what a compile writes" is one byte string for each design
  pub bytes : take n (compile_of text buffer).buffer ≡ encode process
  pub size : n ≤ 65535
  -- what a compile writes, open accepts
  pub opens : open_of (take n (compile_of text buffer).buffer) ≡ opened (table_of process)
  -- direct run and table agree call by call, whatever state record both start from
  pub agree : (s : State) (cs : List Call) → calls_of (take n (compile_of text buffer).buffer) s cs ≡ direct_calls text s cs

-- a state that a cycle returned is never refused by 15, whatever image it was
pub record Returned (image : List ℕ) (s : State) (c : Call) : Type 0 where
  pub never_15 : (way : List ℕ) → (cycle_of image s c.inputs c.outputs).answer ≡ performed way
      → (d : Call) (k : ℕ) → (cycle_of image (cycle_of image s c.inputs c.outputs).state d.inputs d.outputs).answer ≡ not_performed 15 k → ⊥
