-- The fields of a line by position are those of the table's line, and its part of the code section is its code: by induction on the lines.
-- Assumes nothing.
use Prim.Native.Nat.{ℕ, zero, suc, ◌+◌, ◌*◌, ◌≤◌, ◌<◌}
use native.Mathlib.Omega.{arith}
use mathlib.Core.Path.{◌≡◌, refl, sym, ap, ◌∙◌}
use mathlib.Core.List.{List, [], ◌∷◌, ◌++◌}
use lib.ListN.{length, get_or, take, drop, length-append}
use lib.Seq.{get_or-take, get_or-drop, drop-drop, take-append_seam, drop-append_seam}
use Rattle.spec_format.specs.Words.{word2_at}
use Rattle.spec_format.specs.Lines.{Line, line, reach}
use Rattle.spec_format.specs.Image.{Table, RawLine, raw, raw_of, raws_of, code_of_line, code_of_lines}
use Rattle.spec_format.specs.Opening.{raw_line_at, raws}
use Rattle.image_walk.specs.Fields.{kind_at, target_at, offset_at, size_at, next_at, other_at, reach_at}
use Rattle.image_walk.specs.Held.{Held}

-- the fields of the line x, by position
abbrev pub at : List ℕ → ℕ → RawLine
at l x = raw (kind_at l x) (target_at l x) (offset_at l x) (size_at l x) (next_at l x) (other_at l x) (reach_at l x)

none_there : RawLine
none_there = raw 0 0 0 0 0 0 0

-- a line's fields are in its 12 bytes
pub raw_take : (l : List ℕ) → raw_line_at (take 12 l) ≡ raw_line_at l
raw_take l =
    rw (
      get_or-take 12 l 0 0 (omega arith),
      get_or-take 12 l 1 0 (omega arith),
      get_or-take 12 l 2 0 (omega arith),
      get_or-take 12 l 3 0 (omega arith),
      get_or-take 12 l 4 0 (omega arith),
      get_or-take 12 l 5 0 (omega arith),
      get_or-take 12 l 6 0 (omega arith),
      get_or-take 12 l 7 0 (omega arith),
      get_or-take 12 l 8 0 (omega arith),
      get_or-take 12 l 9 0 (omega arith),
      get_or-take 12 l 10 0 (omega arith),
      get_or-take 12 l 11 0 (omega arith),
    ) refl

-- the line that a section begins with, from the line k on, is the line k
pub raw_drop : (l : List ℕ) (k : ℕ) → raw_line_at (drop (k * 12) l) ≡ at l k
raw_drop l k = step (k * 12)
  where
    step : (n : ℕ) → raw_line_at (drop n l) ≡ raw (get_or l n 0) (get_or l (n + 1) 0) (word2_at l (n + 2)) (word2_at l (n + 4)) (word2_at l (n + 6)) (word2_at l (n + 8))
        (word2_at l (n + 10))
    step n =
        let z0 : n + 0 ≡ n = omega arith in
        let z3 : n + 3 ≡ n + 2 + 1 = omega arith in
        let z5 : n + 5 ≡ n + 4 + 1 = omega arith in
        let z7 : n + 7 ≡ n + 6 + 1 = omega arith in
        let z9 : n + 9 ≡ n + 8 + 1 = omega arith in
        let z11 : n + 11 ≡ n + 10 + 1 = omega arith in
        rw (
          get_or-drop n l 0 0,
          get_or-drop n l 1 0,
          get_or-drop n l 2 0,
          get_or-drop n l 3 0,
          get_or-drop n l 4 0,
          get_or-drop n l 5 0,
          get_or-drop n l 6 0,
          get_or-drop n l 7 0,
          get_or-drop n l 8 0,
          get_or-drop n l 9 0,
          get_or-drop n l 10 0,
          get_or-drop n l 11 0,
          z0,
          z3,
          z5,
          z7,
          z9,
          z11,
        ) refl

raws_at : (n : ℕ) (l : List ℕ) (x : ℕ) → x < n → get_or (raws n l) x none_there ≡ raw_line_at (drop (x * 12) l)
unfolding raws
raws_at zero l x h = absurd (omega arith)
raws_at (suc n) l zero h = refl
raws_at (suc n) l (suc x) h =
    let z : suc x * 12 ≡ 12 + x * 12 = omega arith in
    rw z (raws_at n (drop 12 l) x (omega arith) ∙ ap raw_line_at (drop-drop (x * 12) 12 l))

-- the bytes of code before the line x
before : List Line → ℕ → ℕ
before [] x = 0
before (l ∷ ls) zero = 0
before (l ∷ ls) (suc x) = length (code_of_line l) + before ls x

raws_of_at : (p : ℕ) (ls : List Line) (qs : List ℕ) (x : ℕ) → length qs ≡ length ls → x < length ls
    → get_or (raws_of p ls qs) x none_there ≡ raw_of (p + before ls x) (line ls x) (reach qs x)
unfolding raws_of before
raws_of_at p [] qs x e h = absurd (omega arith)
raws_of_at p (l ∷ ls) [] x e h = absurd (omega arith)
raws_of_at p (l ∷ ls) (q ∷ qs) zero e h = let z : p + 0 ≡ p = omega arith in rw z refl
raws_of_at p (l ∷ ls) (q ∷ qs) (suc x) e h =
    let z : p + length (code_of_line l) + before ls x ≡ p + (length (code_of_line l) + before ls x) = omega arith in
    rw (← z) (raws_of_at (p + length (code_of_line l)) ls qs x (omega arith) (omega arith))

code_at : (ls : List Line) (x : ℕ) → x < length ls
    → (take (length (code_of_line (line ls x))) (drop (before ls x) (code_of_lines ls)) ≡ code_of_line (line ls x))
    × (before ls x + length (code_of_line (line ls x)) ≤ length (code_of_lines ls))
unfolding code_of_lines before
code_at [] x h = absurd (omega arith)
code_at (l ∷ ls) zero h = (take-append_seam (code_of_line l) (code_of_lines ls), omega (arith, length-append (code_of_line l) (code_of_lines ls)))
code_at (l ∷ ls) (suc x) h =
    let r = code_at ls x (omega arith) in
    let d : drop (length (code_of_line l) + before ls x) (code_of_line l ++ code_of_lines ls) ≡ drop (before ls x) (code_of_lines ls) =
    sym (drop-drop (before ls x) (length (code_of_line l)) (code_of_line l ++ code_of_lines ls)) ∙ ap (drop (before ls x)) (drop-append_seam (code_of_line l) (code_of_lines ls)) in
    (rw d r.0, omega (arith, length-append (code_of_line l) (code_of_lines ls), r.1))

module _ (l c : List ℕ) (t : Table) (h : Held l c t) (qs : length t.reaches ≡ length t.lines) (x : ℕ) (b : x < length t.lines) where
  -- where the line's code begins
  pub begins : ℕ
  begins = before t.lines x

  pub line_fields : at l x ≡ raw_of begins (line t.lines x) (reach t.reaches x)
  unfolding begins
  line_fields =
      sym (raw_drop l x) ∙ sym (raws_at (length t.lines) l x b) ∙ ap (λ ws. get_or ws x none_there) h.fields
      ∙ raws_of_at 0 t.lines t.reaches x qs b
      ∙ (let z : 0 + before t.lines x ≡ before t.lines x = omega arith in ap (λ p. raw_of p (line t.lines x) (reach t.reaches x)) z)

  pub line_code : (take (length (code_of_line (line t.lines x))) (drop begins c) ≡ code_of_line (line t.lines x))
      × (begins + length (code_of_line (line t.lines x)) ≤ length c)
  unfolding begins
  line_code = rw h.code (code_at t.lines x b)
