-- Laws of the definitions beside what is promised of them in Told.antt: which bytes a compile writes, that the 49 numbers of a C caller hold a state record
-- without loss, and when a call of many rows writes them. Assumes nothing.
use Rattle.std.specs.Prelude.{◌≡◌, true, false, List, ◌++◌, ℕ, ◌≤◌, ◌<◌, length, take, drop, ℤ}
use Rattle.base_answers.specs.Answers.{refusal}
use Rattle.base_answers.specs.declared.State.{State}
use Rattle.spec_design.specs.Process.{Process}
use Rattle.spec_language.specs.Verdict.{accepted, refused, verdict}
use Rattle.spec_format.specs.Encode.{encode}
use Rattle.spec_format.specs.Batch.{batch_of, is_moved}
use Rattle.spec_interface.specs.Compile.{written, not_compiled, compile_of}
use Rattle.spec_interface.specs.CInterface.{state_of_c, c_of_state, batch_in_c}

-- A COMPILE, by the verdict on the text: "an accepted compile writes only the image's own bytes", those of the process that the text means; 10, "image buffer
-- too short", at "bytes needed"; 1 to 9 as the verdict has them. Refused, the buffer is untouched
pub record CompileWrites (text buffer : List ℕ) : Type 0 where
  pub fits : (d : Process) → verdict text ≡ accepted d → length (encode d) ≤ length buffer
      → compile_of text buffer ≡ record { answer = written (length (encode d)); buffer = encode d ++ drop (length (encode d)) buffer }
  pub too_short : (d : Process) → verdict text ≡ accepted d → length buffer < length (encode d)
      → compile_of text buffer ≡ record { answer = not_compiled 10 (length (encode d)); buffer = buffer }
  pub when_turned_back : (q k : ℕ) → verdict text ≡ refused q k → compile_of text buffer ≡ record { answer = not_compiled q k; buffer = buffer }

-- .. and of a compile that wrote n bytes: the text was accepted, and these are the bytes of its image
pub record Wrote (text buffer : List ℕ) (n : ℕ) : Type 0 where
  pub process : Process
  pub verdict : verdict text ≡ accepted process
  pub count : length (encode process) ≡ n
  pub image : take n (compile_of text buffer).buffer ≡ encode process

-- THE 49 NUMBERS of a state record whose place has 16 bits and which has all its slots are read as this record
pub record Whole (s : State) : Type 0 where
  pub place : s.place < 65536
  pub outputs : length s.outputs ≡ 16
  pub variables : length s.variables ≡ 32

abbrev pub ReadBack : State → Type 0
ReadBack s = Whole s → state_of_c (c_of_state s) ≡ s

-- THE 49 NUMBERS AFTER MANY ROWS IN ONE CALL: those of the state record that the rows left, where a row was performed; else as they came; and as they came
-- after a call that is turned away, "writing nothing"
pub record SlotsAfterRows (image : List ℕ) (l : List ℤ) (n : ℕ) (is os : List ℤ) (ns : List ℕ) : Type 0 where
  pub stored : is_moved (batch_of image (state_of_c l) n is os ns).answer ≡ true
      → (batch_in_c image l n is os ns).slots ≡ c_of_state (batch_of image (state_of_c l) n is os ns).state
  pub kept : is_moved (batch_of image (state_of_c l) n is os ns).answer ≡ false → (batch_in_c image l n is os ns).slots ≡ l
  pub turned_away : (q k : ℕ) → (batch_of image (state_of_c l) n is os ns).answer ≡ refusal q k → (batch_in_c image l n is os ns).slots ≡ l
