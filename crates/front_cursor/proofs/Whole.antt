-- The beginning and the end of a text: where the cursor starts, and what the grammar's answer is where it has come to an end. Assumes nothing.
use mathlib.Core.Path.{◌≡◌, refl, sym, ◌∙◌, ap}
use mathlib.Core.Bool.{false}
use mathlib.Core.List.{List, []}
use Prim.Native.Nat.{ℕ, ◌-◌, ◌≤◌, ◌<◌}
use native.Mathlib.Omega.{arith}
use lib.ListN.{length, drop, length-drop, drop_of_length-le}
use lib.Seq.{drop-cons}
use Rattle.spec_grammar.specs.Token.{Token}
use Rattle.spec_grammar.specs.Tree.{Text}
use Rattle.spec_grammar.specs.Grammar.{text, text_production}
use Rattle.spec_grammar.specs.Meter.{InHeading}
use Rattle.spec_grammar.specs.Acceptance.{accepted, no_sentence, past_limit}
use Rattle.spec_grammar.specs.Reader.{run, at_end, after, advance, read_text, placed, answer}
use Rattle.front_layout.specs.Tokens.{no_token}
use Rattle.front_cursor.specs.Reading.{Read, ending, from}

-- before the first token
abbrev pub start : Read
start = record { fault = 0; at = 0; items = 0; written = 0 }

abbrev pub no_heading : InHeading
no_heading = record { waiting = 0; inputs = 0; outputs = 0; vars = 0; are_vars = false }

-- the grammar's reader begins where the cursor does
pub text_starts : (ts : List Token) → answer ts ≡ placed ts (from ts text 0 1 no_heading start 0 text_production.rhs text_production.says)
unfolding answer read_text from ending
text_starts ts = refl

-- nothing is still to come
module _ (ts : List Token) (v : Text) (s l : ℕ) (h : InHeading) (r : Read) (d : ℕ) (inside : r.at ≤ length ts) where
  back : length ts - length (drop r.at ts) ≡ r.at
  back = let e = length-drop r.at ts in omega arith

  pub text_accepted : r.fault ≡ 0 → r.at ≡ length ts → placed ts (from ts text s l h r d [] v) ≡ accepted v
  unfolding placed from ending run at_end
  text_accepted z e = rw (z, drop_of_length-le ts {i = r.at} (omega arith))

  pub text_goes_on : r.fault ≡ 0 → r.at < length ts → placed ts (from ts text s l h r d [] v) ≡ no_sentence r.at
  unfolding placed from ending run after advance
  text_goes_on z e = rw (z, drop-cons ts r.at no_token e)
      (ap no_sentence (ap (λ (us : List Token). length ts - length us) (sym (drop-cons ts r.at no_token e)) ∙ back))

  pub text_refused : r.fault ≡ 3 → placed ts (from ts text s l h r d [] v) ≡ no_sentence r.at
  unfolding placed from ending
  text_refused z = rw z (ap no_sentence back)

  pub text_limited : r.fault ≡ 4 → placed ts (from ts text s l h r d [] v) ≡ past_limit r.at
  unfolding placed from ending
  text_limited z = rw z (ap past_limit back)
