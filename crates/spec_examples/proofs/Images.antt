-- Whole texts followed to their images and back: P1 on the table, P2, P3, P7, refusal 10, and damaged images. Each is computed from the text's bytes.
-- Assumes nothing.
use mathlib.Core.Path.{◌≡◌, refl}
use mathlib.Core.Option.{bind as and_then}
use mathlib.Core.List.{List, [], ◌∷◌, ◌++◌}
use Prim.Native.Nat.{ℕ, suc}
use lib.ListN.{length, take, drop, get_or, set, replicate}
use lib.IntN.{ℤ, pos, negsuc}
use Rattle.base_answers.specs.declared.State.{State}
use Rattle.spec_design.specs.Types as Types
use Rattle.spec_design.specs.Expression as Expression
use Rattle.spec_design.specs.Statement as Statement
use Rattle.spec_design.specs.Process as Process
use Rattle.spec_language.specs.Bytes.{bytes}
use Rattle.spec_language.proofs.Computing.{computed}
use Rattle.spec_language.proofs.ExamplesReadings.{tally_text}
use Rattle.spec_semantics.specs.Evaluation as Evaluation
use Rattle.spec_semantics.specs.Division as Division
use Rattle.spec_semantics.specs.Equations as Equations
use Rattle.spec_semantics.specs.Rows as Rows
use Rattle.spec_format.specs.Words.{word2_at, word4_at}
use Rattle.spec_format.specs.Lines as Lines
use Rattle.spec_format.specs.Walk as Walk
use Rattle.spec_format.specs.Code as Code
use Rattle.spec_format.specs.Signature as Signature
use Rattle.spec_format.specs.Image as Image
use Rattle.spec_format.specs.Good as Good
use Rattle.spec_format.specs.Opening as Opening
use Rattle.spec_format.specs.Opening.{open_of, not_opened}
use Rattle.spec_semantics.specs.Records as Records
use Rattle.spec_format.specs.State as S
use Rattle.spec_format.specs.State.{fresh_of}
use Rattle.spec_semantics.specs.Records.{fresh}
use Rattle.spec_format.specs.Cycle as Cycle
use Rattle.spec_format.specs.Cycle.{calls_of, cycle_of}
use Rattle.spec_semantics.specs.Calls.{Call, Called, performed, not_performed}
use Rattle.spec_format.specs.Encode as Encode
use Rattle.spec_format.specs.Writing.{Writing, written_into}
use Rattle.spec_interface.specs.Compile.{written, not_compiled, compile_of}

-- opens all that a compile, an opening and a call compute by
unfoldable pub opened : List ℕ → List ℕ → Writing
unfolding computed compile_of written_into and_then Types.in_range Types.in_type Expression.items Expression.nth Expression.plainly Expression.bind Expression.fold
    Expression.leaf_type Expression.given Expression.given2 Expression.type_of Statement.size Statement.has Process.is_type Process.fits Process.typed_act
    Evaluation.unary_result Evaluation.binary_result Evaluation.as_integer Evaluation.apply_unary Evaluation.apply_binary Evaluation.leaf_value
    Evaluation.evaluate Division.by_nonzero Equations.perform Equations.holds Equations.log Equations.then Equations.acted Equations.tested
    Rows.wrong_value Lines.lines Lines.lines_of Lines.entry Lines.reaches Lines.reaches_of Walk.step Walk.walk Walk.from Walk.table_cycle Code.post
    Code.operation_bytes Code.code Code.operations Code.onto Code.run Code.run_operations Code.run_code Code.with_type Code.value_of Code.decode
    Signature.type_bytes Signature.cell_bytes Signature.signature_bytes Signature.read_types Signature.read_cells Signature.signature_of
    Image.raws_bytes Image.code_of_line Image.code_of_lines Image.raw_of Image.raws_of Image.pairs Image.joined Image.image Image.form1
    Image.sections_for Image.encode_table Good.good_line Opening.read_sections Opening.read_image Opening.whole_lines Opening.sections_of
    Opening.raws Opening.line_of Opening.open_line Opening.open_lines Opening.open_table Opening.open_sections Opening.open_of
    Records.zeros Records.slots_ok S.place_allowed S.state_ok Records.pad Records.state_for S.memory_of S.fresh_table S.fresh_of
    Cycle.row_place Cycle.table_row Cycle.row_of Cycle.cycle_of Cycle.calls_of Encode.signature_for Encode.table_of
    Encode.encode
opened text buffer = compile_of text buffer

-- tally's 134 bytes
abbrev pub tally_image : List ℕ
tally_image =
    -- form 1, three sections: (28, 14), (42, 72), (114, 20)
    1 ∷ 0 ∷ 3 ∷ 0 ∷ 28 ∷ 0 ∷ 0 ∷ 0 ∷ 14 ∷ 0 ∷ 0 ∷ 0 ∷ 42 ∷ 0 ∷ 0 ∷ 0 ∷ 72 ∷ 0 ∷ 0 ∷ 0 ∷ 114 ∷ 0 ∷ 0 ∷ 0 ∷ 20 ∷ 0 ∷ 0 ∷ 0 ∷
    -- signature: one data input, one output, one variable, all integers; initial values 0
    1 ∷ 1 ∷ 1 ∷ 1 ∷ 1 ∷ 0 ∷ 0 ∷ 0 ∷ 0 ∷ 1 ∷ 0 ∷ 0 ∷ 0 ∷ 0 ∷
    -- 0 while s < 10; 1 s := s + d; 2 wait; 3 total <= s; 4 s := 0; 5 wait
    3 ∷ 0 ∷ 0 ∷ 0 ∷ 8 ∷ 0 ∷ 1 ∷ 0 ∷ 3 ∷ 0 ∷ 3 ∷ 0 ∷
    2 ∷ 0 ∷ 8 ∷ 0 ∷ 5 ∷ 0 ∷ 2 ∷ 0 ∷ 0 ∷ 0 ∷ 1 ∷ 0 ∷
    0 ∷ 0 ∷ 13 ∷ 0 ∷ 0 ∷ 0 ∷ 0 ∷ 0 ∷ 0 ∷ 0 ∷ 0 ∷ 0 ∷
    1 ∷ 0 ∷ 13 ∷ 0 ∷ 2 ∷ 0 ∷ 4 ∷ 0 ∷ 0 ∷ 0 ∷ 2 ∷ 0 ∷
    2 ∷ 0 ∷ 15 ∷ 0 ∷ 5 ∷ 0 ∷ 5 ∷ 0 ∷ 0 ∷ 0 ∷ 1 ∷ 0 ∷
    0 ∷ 0 ∷ 20 ∷ 0 ∷ 0 ∷ 0 ∷ 0 ∷ 0 ∷ 0 ∷ 0 ∷ 0 ∷ 0 ∷
    -- s 10 <; s d +; s; 0
    4 ∷ 0 ∷ 1 ∷ 10 ∷ 0 ∷ 0 ∷ 0 ∷ 22 ∷ 4 ∷ 0 ∷ 3 ∷ 0 ∷ 18 ∷ 4 ∷ 0 ∷ 1 ∷ 0 ∷ 0 ∷ 0 ∷ 0 ∷ []

-- P3: a buffer of 200 bytes gets the image and keeps its bytes 134 to 199; one of 133 is refused by 10 at 134 and unchanged; one of 134 is enough
pub p3 : compile_of tally_text (replicate 200 7) ≡ record { answer = written 134; buffer = tally_image ++ replicate 66 7 }
unfolding opened
p3 = refl

pub p3_short : compile_of tally_text (replicate 133 7) ≡ record { answer = not_compiled 10 134; buffer = replicate 133 7 }
unfolding opened
p3_short = refl

pub p3_exact : compile_of tally_text (replicate 134 7) ≡ record { answer = written 134; buffer = tally_image }
unfolding opened
p3_exact = refl

-- P3: the pairs, read from the bytes
pub p3_pairs : word4_at tally_image 4 ∷ word4_at tally_image 8 ∷ word4_at tally_image 12 ∷ word4_at tally_image 16 ∷ word4_at tally_image 20 ∷ word4_at tally_image 24
    ∷ length tally_image ∷ []
    ≡ 28 ∷ 14 ∷ 42 ∷ 72 ∷ 114 ∷ 20 ∷ 134 ∷ []
p3_pairs = refl

-- P2: bytes 10 and 11 of each line
pub p2 : word2_at tally_image 52 ∷ word2_at tally_image 64 ∷ word2_at tally_image 76 ∷ word2_at tally_image 88 ∷ word2_at tally_image 100 ∷ word2_at tally_image 112 ∷ []
    ≡ 3 ∷ 1 ∷ 0 ∷ 2 ∷ 1 ∷ 0 ∷ []
p2 = refl

-- a refused text leaves the buffer as it is
pub refused_text_lem : compile_of (bytes "entity 5") (replicate 10 7) ≡ record { answer = not_compiled 3 7; buffer = replicate 10 7 }
unfolding opened
refused_text_lem = refl

-- the state record: a place, one output, one variable, all other slots 0
abbrev pub state_at : ℕ → ℤ → ℤ → State
state_at p o v = record { place = p; outputs = o ∷ replicate 15 (pos 0); variables = v ∷ replicate 31 (pos 0) }

abbrev pub did : List ℕ → ℕ → ℤ → ℤ → Called
did w p o v = record { answer = performed w; state = state_at p o v; row = o ∷ [] }

-- P1 on the table, every slot: rows 7, 7, 1, -5, -2147483648, 20, each with an output row that holds 99
abbrev pub row_of : ℤ → Call
row_of z = record { inputs = z ∷ []; outputs = pos 99 ∷ [] }

pub p1_fresh : fresh_of tally_image ≡ fresh (state_at 512 (pos 0) (pos 0))
unfolding opened
p1_fresh = refl

pub p1 : calls_of tally_image (state_at 512 (pos 0) (pos 0))
    (row_of (pos 7) ∷ row_of (pos 7) ∷ row_of (pos 1) ∷ row_of (negsuc 4) ∷ row_of (negsuc 2147483647) ∷ row_of (pos 20) ∷ [])
    ≡ did (0 ∷ 1 ∷ 2 ∷ []) 2 (pos 0) (pos 7) ∷ did (0 ∷ 1 ∷ 2 ∷ []) 2 (pos 0) (pos 14) ∷ did (0 ∷ 3 ∷ 4 ∷ 5 ∷ []) 5 (pos 14) (pos 0) ∷
    did (0 ∷ 1 ∷ 2 ∷ []) 2 (pos 14) (negsuc 4) ∷ record { answer = not_performed 16 1; state = state_at 2 (pos 14) (negsuc 4); row = pos 99 ∷ [] } ∷
    did (0 ∷ 1 ∷ 2 ∷ []) 2 (pos 14) (pos 15) ∷ []
unfolding opened
p1 = refl

-- P7: one image; the condition's code is variable 0, not, variable 1, =
abbrev pub two_bits : List ℕ → List ℕ
two_bits s =
    bytes "entity e is port(clk:in std_logic);end e;architecture t of e is begin process variable a,b:std_logic:='0';begin if " ++
    (s ++ bytes " then null;end if;wait until clk='1';end process;end t;")

pub p7 : compile_of (two_bits (bytes "not a = b")) (replicate 100 0) ≡ compile_of (two_bits (bytes "(not a) = b")) (replicate 100 0)
unfolding opened
p7 = refl

pub p7_code : take 6 (drop 77 (compile_of (two_bits (bytes "not a = b")) (replicate 100 0)).buffer) ≡ 4 ∷ 0 ∷ 17 ∷ 4 ∷ 1 ∷ 20 ∷ []
unfolding opened
p7_code = refl

-- Damaged images: 11 for the empty image and for each header field off by one, 12 for a type byte 2, 13 at line 1 for reach 1 on the wait of line 2
abbrev off : ℕ → List ℕ
off k = set tally_image k (suc (get_or tally_image k 0))

pub damaged_empty : open_of [] ≡ not_opened 11 0
unfolding opened
damaged_empty = refl

pub damaged_header : open_of (off 0) ∷ open_of (off 2) ∷ open_of (off 4) ∷ open_of (off 8) ∷ open_of (off 12) ∷ open_of (off 16) ∷ open_of (off 20) ∷ open_of
    (off 24) ∷ []
    ≡ replicate 8 (not_opened 11 0)
unfolding opened
damaged_header = refl

pub damaged_length : open_of (tally_image ++ (0 ∷ [])) ∷ open_of (take 133 tally_image) ∷ open_of (take 27 tally_image) ∷ [] ≡ replicate 3 (not_opened 11 0)
unfolding opened
damaged_length = refl

pub damaged_signature : open_of (off 31) ∷ open_of (off 28) ∷ open_of (off 29) ∷ open_of (off 30) ∷ [] ≡ replicate 4 (not_opened 12 0)
unfolding opened
damaged_signature = refl

-- the first two bytes of the signature alone, the pairs fitting each other and the image: 12
pub short_signature : open_of (take 30 (set (set (set tally_image 8 2) 12 30) 20 102) ++ drop 42 tally_image) ≡ not_opened 12 0
unfolding opened
short_signature = refl

pub damaged_reach : open_of (off 76) ≡ not_opened 13 1
unfolding opened
damaged_reach = refl

-- an unused field of the wait of line 2, its code offset, its next; the code section not filled
pub damaged_lines : open_of (off 67) ∷ open_of (off 68) ∷ open_of (off 74) ∷ open_of (set tally_image 72 6) ∷ [] ≡ replicate 4 (not_opened 13 2)
unfolding opened
damaged_lines = refl
