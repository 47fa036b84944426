-- A line of the trace has at most 512 bytes, so that the program's buffer holds every line whole. Assumes nothing.
use mathlib.Core.Path.{◌≡◌, refl}
use mathlib.Core.Bool.{Bool, true, false, cond}
use Rattle.std.specs.Prelude.{Option, None, Some}
use mathlib.Core.List.{List, [], ◌∷◌, ◌++◌}
use Prim.Native.Nat.{ℕ, zero, suc, ◌+◌, ◌*◌, ◌/◌, ◌%◌, ◌≤◌}
use native.Mathlib.Omega.{arith}
use lib.ListN.{length, length-append, length-replicate, replicate}
use lib.IntN.{ℤ, pos, negsuc}
use lib.Dec.{ltb}
use Rattle.spec_semantics.specs.Calls.{Answer, performed, not_performed, Called}
use Rattle.spec_semantics.specs.Advances.{cycle_answer}
use Rattle.spec_language.specs.Bytes.{bytes}
use Rattle.spec_format.specs.Words.{Bytes}
use Rattle.spec_format.specs.Cycle.{cycle_of}
use Rattle.spec_simulation.proofs.Outcomes.{row_long}
use Rattle.spec_design.specs.Spelling.{decimal_by, decimal}
use Rattle.trace_lines.specs.Printing.{integer, integers, performed_line, refused_line, refused_text}
use Rattle.trace_lines.specs.Chunks.{line_of, shown, room, row_shown, goes_on, onward, row_at, next_of}
use Rattle.trace_lines.specs.declared.Progress.{Progress}

-- numbers
decimal_short : (f n : ℕ) → length (decimal_by f n) ≤ suc f
unfolding decimal_by
decimal_short zero n = omega arith
decimal_short (suc f) n = go (ltb n 10) (decimal_short f (n / 10))
  where
    go : (b : Bool) → length (decimal_by f (n / 10)) ≤ suc f → length (cond b ((48 + n) ∷ []) (decimal_by f (n / 10) ++ ((48 + n % 10) ∷ []))) ≤ suc (suc f)
    go true h = omega arith
    go false h = let e = length-append (decimal_by f (n / 10)) ((48 + n % 10) ∷ []) in omega arith

integer_short : (z : ℤ) → length (integer z) ≤ 21
integer_short (pos n) = let h = decimal_short 19 n in omega arith
integer_short (negsuc n) = let h = decimal_short 19 (suc n) in omega arith

integers_short : (l : List ℤ) → length (integers l) ≤ 22 * length l
unfolding integers
integers_short [] = omega arith
integers_short (z ∷ l) =
    let h = integers_short l in
    let k = integer_short z in
    let e = length-append (integer z) (integers l) in
    omega arith

-- lines
pub performed_short : (n place lines : ℕ) (row : List ℤ) → length row ≤ 16 → length (performed_line n place lines row) ≤ 512
unfolding performed_line
performed_short n place lines row h =
    let a = decimal_short 19 n in
    let b = decimal_short 19 place in
    let c = decimal_short 19 lines in
    let d = integers_short row in
    let e = length-append (integers row) (10 ∷ []) in
    let f = length-append (decimal lines) (integers row ++ (10 ∷ [])) in
    let g = length-append (decimal place) (32 ∷ (decimal lines ++ (integers row ++ (10 ∷ [])))) in
    let i = length-append (decimal n) (32 ∷ (decimal place ++ (32 ∷ (decimal lines ++ (integers row ++ (10 ∷ [])))))) in
    omega arith

pub refused_short : (n q : ℕ) → length (refused_line n q) ≤ 512
unfolding refused_line bytes
refused_short n q =
    let a = decimal_short 19 n in
    let b = decimal_short 19 q in
    let e = length-append (decimal q) (10 ∷ []) in
    let g = length-append (bytes " refused ") (decimal q ++ (10 ∷ [])) in
    let w : length (bytes " refused ") ≡ 9 = refl in
    let f = length-append (decimal n) (bytes " refused " ++ (decimal q ++ (10 ∷ []))) in
    omega arith

pub text_short : (q k : ℕ) → length (refused_text q k) ≤ 512
unfolding refused_text bytes
text_short q k =
    let a = decimal_short 19 q in
    let b = decimal_short 19 k in
    let e = length-append (decimal k) (10 ∷ []) in
    let f = length-append (decimal q) (32 ∷ (decimal k ++ (10 ∷ []))) in
    let w : length (bytes "refused ") ≡ 8 = refl in
    let g = length-append (bytes "refused ") (decimal q ++ (32 ∷ (decimal k ++ (10 ∷ [])))) in
    omega arith

-- the line of a call
shown_short : (n : ℕ) (c : Called) → ((way : List ℕ) → c.answer ≡ performed way → length c.row ≤ 16) → length (shown n c) ≤ 512
shown_short n c h = go c.answer refl
  where
    go : (a : Answer) → c.answer ≡ a → length (line_of n (cycle_answer a) c.state.place c.row) ≤ 512
    go (performed way) e = performed_short n c.state.place (length way) c.row (h way e)
    go (not_performed q k) e = refused_short n _

-- THE LINE of the next row
pub next_short : (b rows : List ℕ) → Bytes b → (p : Progress) → length (next_of b rows p).0 ≤ 512
unfolding next_of
next_short b rows h p = go (goes_on (length rows) p.number p.at)
  where
    row : (v : Option (List ℤ)) → length (row_shown b p.state p.number v).0 ≤ 512
    row None = refused_short p.number 14
    row (Some v) =
        shown_short p.number (cycle_of b p.state v (replicate (room b) (pos 0))) (λ way e.
        let l = row_long b h p.state v (replicate (room b) (pos 0)) in
        let m = length-replicate (room b) (pos 0) in
        omega arith)

    go : (q : Bool) → length (onward q b rows p).0 ≤ 512
    go true = row (row_at rows p.at)
    go false = omega arith
