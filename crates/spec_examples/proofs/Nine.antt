-- Document 01's nine examples, P1 to P9, as one table of claims on whole texts, and the theorem that each holds, by computation. Assumes nothing.
use mathlib.Core.Path.{◌≡◌, refl}
use mathlib.Core.Bool.{true}
use mathlib.Core.List.{List, [], ◌∷◌, map}
use Prim.Native.Nat.{ℕ}
use lib.ListN.{length, replicate, take}
use lib.IntN.{ℤ, pos, negsuc}
use Rattle.spec_grammar.specs.Limits.{Each}
use Rattle.base_answers.specs.Answers.{Told, done, refusal}
use Rattle.base_answers.specs.declared.State.{State}
use Rattle.spec_language.specs.Bytes.{bytes}
use Rattle.spec_language.specs.Lexer.{token_at}
use Rattle.spec_language.specs.Verdict.{Verdict, refused, on_accepted, verdict, is_accepted}
use Rattle.spec_language.proofs.Examples.{plain, place, whole, std_ports, std_vars, stmts, vars, passes}
use Rattle.spec_language.proofs.ExamplesReadings.{tally_text}
use Rattle.spec_semantics.specs.Equations as Equations
use Rattle.spec_semantics.specs.Rows.{kept_at_first}
use Rattle.spec_semantics.specs.Rows as Rows
use Rattle.spec_semantics.specs.Records.{Started, fresh, not_started}
use Rattle.spec_semantics.specs.Calls.{Call, Called, performed, not_performed}
use Rattle.spec_semantics.specs.Comparison.{equation_calls}
use Rattle.spec_semantics.specs.Comparison as Comparison
use Rattle.spec_semantics.specs.DirectRow as DirectRow
use Rattle.spec_behaviour.specs.Direct.{direct_of, direct_fresh, direct_calls}
use Rattle.spec_format.specs.Words.{word2_at, word4_at}
use Rattle.spec_format.specs.State.{fresh_of}
use Rattle.spec_format.specs.Cycle.{calls_of}
use Rattle.spec_interface.specs.Compile.{compile_of}
use Rattle.spec_examples.proofs.Images.{opened, state_at, did, row_of, two_bits}

-- the image that a compile into 200 bytes writes; none where it is refused
abbrev written_in : Told ℕ → List ℕ → List ℕ
written_in (done n) b = take n b
written_in (refusal q k) b = []

unfoldable pub image_of : List ℕ → List ℕ
image_of text = let r = compile_of text (replicate 200 0) in written_in r.answer r.buffer

-- the answers to these calls, from the fresh state: of the image ..
abbrev from_start : Started → (State → List Called) → List Called
from_start (fresh s) f = f s
from_start (not_started n k) f = []

unfoldable pub table_trace : List ℕ → List Call → List Called
table_trace text cs = from_start (fresh_of (image_of text)) (λ s. calls_of (image_of text) s cs)

-- .. of the direct run ..
unfoldable pub direct_trace : List ℕ → List Call → List Called
direct_trace text cs = from_start (direct_fresh text) (λ s. direct_calls text s cs)

-- .. and of the equations
abbrev on_verdict : Verdict → List Call → List Called
on_verdict v cs = on_accepted (λ p. equation_calls p (kept_at_first p) cs) (λ n k. []) v

unfoldable pub equation_trace : List ℕ → List Call → List Called
equation_trace text cs = on_verdict (verdict text) cs

-- opens all that the direct run and the equations compute by, beside what the image and its calls do
unfoldable pub all_computed : List ℕ → List Call → List Called
unfolding opened Equations.pick Equations.start Equations.resume Equations.enter Equations.cycle Rows.kept_at_first Rows.row_refusal Rows.concluded Rows.judged
    Rows.row Comparison.equation_calls DirectRow.fits_text DirectRow.place_for DirectRow.kept_of DirectRow.direct_row direct_of direct_fresh direct_calls equation_trace
all_computed text cs = equation_trace text cs

-- what an example claims
pub data Claim : Type 0 where
  -- calls from the fresh state leave these answers, states and output rows: on the text's image, by the direct run and by the equations
  traces : (text : List ℕ) → List Call → List Called → Claim
  -- the two-byte numbers at these offsets of the text's image
  words2 : (text offsets values : List ℕ) → Claim
  -- the four-byte numbers at these offsets of the text's image, and its length
  words4 : (text offsets values : List ℕ) → (size : ℕ) → Claim
  -- the text, without its caret, is refused by this number at the caret, and this token is handed out; its neighbour is accepted
  refuses : (number : ℕ) → (text token neighbour : List ℕ) → Claim
  -- both texts have one image, and it is not empty
  one_image : (text other : List ℕ) → (size : ℕ) → Claim

abbrev pub Says : Claim → Type 0
Says (traces t cs rs) = (table_trace t cs ≡ rs) × (direct_trace t cs ≡ rs) × (equation_trace t cs ≡ rs)
Says (words2 t os vs) = map (word2_at (image_of t)) os ≡ vs
Says (words4 t os vs n) = (map (word4_at (image_of t)) os ≡ vs) × (length (image_of t) ≡ n)
Says (refuses n t w u) = (verdict (plain t) ≡ refused n (place t)) × (token_at (plain t) (place t) ≡ w) × (is_accepted (verdict (plain u)) ≡ true)
Says (one_image t u n) = (image_of t ≡ image_of u) × (length (image_of t) ≡ n)

abbrev row8 : Call
row8 = record { inputs = pos 0 ∷ pos 1 ∷ pos 0 ∷ pos 5 ∷ []; outputs = pos 99 ∷ pos 99 ∷ [] }

abbrev state8 : ℕ → ℤ → ℤ → State
state8 p s u = record { place = p; outputs = replicate 16 (pos 0); variables = s ∷ u ∷ pos 1 ∷ replicate 29 (pos 0) }

abbrev pub nine : List Claim
nine =
    -- P1
    traces tally_text (row_of (pos 7) ∷ row_of (pos 7) ∷ row_of (pos 1) ∷ row_of (negsuc 4) ∷ row_of (negsuc 2147483647) ∷ row_of (pos 20) ∷ [])
    (did (0 ∷ 1 ∷ 2 ∷ []) 2 (pos 0) (pos 7) ∷ did (0 ∷ 1 ∷ 2 ∷ []) 2 (pos 0) (pos 14) ∷ did (0 ∷ 3 ∷ 4 ∷ 5 ∷ []) 5 (pos 14) (pos 0) ∷
    did (0 ∷ 1 ∷ 2 ∷ []) 2 (pos 14) (negsuc 4) ∷ record { answer = not_performed 16 1; state = state_at 2 (pos 14) (negsuc 4); row = pos 99 ∷ [] } ∷
    did (0 ∷ 1 ∷ 2 ∷ []) 2 (pos 14) (pos 15) ∷ []) ∷
    -- P2
    words2 tally_text (52 ∷ 64 ∷ 76 ∷ 88 ∷ 100 ∷ 112 ∷ []) (3 ∷ 1 ∷ 0 ∷ 2 ∷ 1 ∷ 0 ∷ []) ∷
    -- P3
    words4 tally_text (4 ∷ 8 ∷ 12 ∷ 16 ∷ 20 ∷ 24 ∷ []) (28 ∷ 14 ∷ 42 ∷ 72 ∷ 114 ∷ 20 ∷ []) 134 ∷
    -- P4
    refuses 9 (whole std_ports std_vars "^process" (bytes "if '1' = '1' then wait until clk = '1'; end if;")) (bytes "process")
    (stmts "if '1' = '1' then wait until clk = '1'; else wait until clk = '1'; end if;") ∷
    -- P5
    refuses 3 (stmts "f := a and b ^or c;") (bytes "or") (stmts "f := a and b and c;") ∷
    -- P6
    refuses 3 (stmts "s := s - ^-1;") (bytes "-") (stmts "s := s - 1;") ∷
    -- P7
    one_image (two_bits (bytes "not a = b")) (two_bits (bytes "(not a) = b")) 83 ∷
    -- P8
    traces (stmts "s := -2147483647 - 1;") (row8 ∷ [])
    (record { answer = performed (0 ∷ 1 ∷ []); state = state8 1 (negsuc 2147483647) (pos 0); row = pos 0 ∷ pos 0 ∷ [] } ∷ []) ∷
    traces (stmts "s := 3; u := -(-2147483647 - 1);") (row8 ∷ [])
    (record { answer = not_performed 16 1; state = state8 512 (pos 0) (pos 0); row = pos 99 ∷ pos 99 ∷ [] } ∷ []) ∷
    -- P9
    refuses 4 (vars "variable s : integer := -^2147483648;") (bytes "2147483648") (vars "variable s : integer := -2147483647;") ∷ []

pub nine_hold : Each Says nine
unfolding all_computed passes image_of table_trace direct_trace equation_trace
nine_hold = (
  (refl, refl, refl),
  (
    refl,
    (
      (refl, refl),
      ((refl, refl, refl), ((refl, refl, refl), ((refl, refl, refl), ((refl, refl), ((refl, refl, refl), ((refl, refl, refl), ((refl, refl, refl), tt))))))),
    ),
  ),
)
