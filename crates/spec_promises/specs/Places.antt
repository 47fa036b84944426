-- How large the places and counts are that the operations answer, for every text, buffer, image, state record and call: each fits 32 bits, and so may be
-- told at the C interface as it is. Assumes nothing.
use Rattle.std.specs.Prelude.{◌≡◌, List, ℕ, ◌≤◌, length}
use Rattle.base_answers.specs.declared.State.{State}
use Rattle.spec_language.specs.Verdict.{refused, verdict}
use Rattle.spec_semantics.specs.Records.{not_started}
use Rattle.spec_semantics.specs.Calls.{performed, not_performed, Call}
use Rattle.spec_format.specs.Opening.{not_opened, open_of}
use Rattle.spec_format.specs.State.{fresh_of}
use Rattle.spec_format.specs.Cycle.{cycle_of}
use Rattle.spec_behaviour.specs.Direct.{direct_of, direct_fresh}
use Rattle.spec_interface.specs.Compile.{written, not_compiled, compile_of}

pub record PlacesFit (text buffer image : List ℕ) (s : State) (c : Call) : Type 0 where
  -- "Places in 1 to 9 are byte offsets": of the text, or its length
  pub text_offset : (q k : ℕ) → verdict text ≡ refused q k → k ≤ length text
  -- "At most 16,384 bytes"; 1, "text too long", is at 0
  pub text_place : (q k : ℕ) → verdict text ≡ refused q k → k ≤ 16384
  -- compile: 1 to 9, and 10 at "bytes needed"; an image has "at most 65,535 bytes"
  pub compile_place : (q k : ℕ) → (compile_of text buffer).answer ≡ not_compiled q k → k ≤ 65535
  -- compile: "only the image's own bytes", at most 65,535
  pub compile_count : (n : ℕ) → (compile_of text buffer).answer ≡ written n → n ≤ 65535
  -- open: 11 and 12 at 0; 13 at the "lowest bad line; the line count if only the code section is not filled", of "1 to 512 whole lines"
  pub open_place : (q k : ℕ) → open_of image ≡ not_opened q k → k ≤ 512
  -- fresh: the same
  pub fresh_place : (q k : ℕ) → fresh_of image ≡ not_started q k → k ≤ 512
  -- cycle: the same; 14 at "0; its index", 15 at 0, 16 and 18 at their "line"
  pub cycle_place : (q k : ℕ) → (cycle_of image s c.inputs c.outputs).answer ≡ not_performed q k → k ≤ 512
  -- cycle: "the number of lines performed, the wait it ends on included"
  pub cycle_count : (way : List ℕ) → (cycle_of image s c.inputs c.outputs).answer ≡ performed way → length way ≤ 512
  -- direct run: 1 to 9 in the text; 14, 15, 16 and 18 as for a cycle
  pub direct_place : (q k : ℕ) → (direct_of text s c).answer ≡ not_performed q k → k ≤ 16384
  -- direct run: as many statements as the way has, of at most "512 statements"
  pub direct_count : (way : List ℕ) → (direct_of text s c).answer ≡ performed way → length way ≤ 512
  -- direct run, the fresh state: 1 to 9 in the text
  pub direct_fresh_place : (q k : ℕ) → direct_fresh text ≡ not_started q k → k ≤ 16384
