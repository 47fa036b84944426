-- The chunks of a trace: where it begins, the line of the next row. Assumes nothing.
use mathlib.Core.Path.{◌≡◌, refl, sym, ◌∙◌, ap, subst}
use mathlib.Core.Bool.{Bool, true, false, ◌&&◌}
use mathlib.Core.List.{List}
use Prim.Native.Nat.{ℕ, ◌+◌, ◌-◌, ◌≤◌, ◌<◌, min}
use native.Mathlib.Omega.{arith}
use lib.Dec.{leb, ltb}
use lib.ListN.{length, drop, length-take, length-drop}
use lib.Seq.{sets}
use borrow.Author.Tests.{le-leb, lt-leb, lt-ltb, le-ltb, leb-true, ltb-true}
use Rattle.base_answers.specs.Answers.{number_of, place_of, Told, done, refused_by, told}
use Rattle.base_answers.specs.declared.State.{State}
use Rattle.base_answers.specs.declared.Refusal.{Refusal}
use Rattle.spec_format.specs.State.{fresh_of}
use Rattle.front_token.specs.Places.{part}
use Rattle.spec_semantics.specs.Advances.{start_of}
use Rattle.trace_lines.specs.Rows.{decimals}
use Rattle.trace_lines.specs.Reading.{part_end, short}
use Rattle.trace_lines.specs.Printing.{refused_text}
use Rattle.trace_lines.specs.Stored.{Puts}
use Rattle.trace_lines.specs.Chunks.{row_shown, Shows, goes_on, first_of, row_at, passed, onward, next_of, begun_of}
use Rattle.trace_lines.specs.declared.Progress.{Progress}
use Rattle.std.specs.Prelude.{Result, Ok, Err}
use Rattle.trace_lines.specs.declared.OnlyLine.{OnlyLine}

-- an only line of so many bytes
abbrev only : ℕ → Result ℕ OnlyLine
only r = Err (record { size = r })

-- whether there is a row
module _ (l n a : ℕ) where
  pub too_long : 65536 < l → false ≡ goes_on l n a
  unfolding goes_on
  too_long h = rw (lt-leb l 65536 h)

  pub at_end_lem : l ≤ 65536 → l ≤ a → false ≡ goes_on l n a
  unfolding goes_on
  at_end_lem h k = rw (le-leb l 65536 h, le-ltb a l k)

  pub row_there : l ≤ 65536 → a < l → ltb n 65536 ≡ goes_on l n a
  unfolding goes_on
  row_there h k = rw (le-leb l 65536 h, lt-ltb a l k)

  pub goes_facts : goes_on l n a ≡ true → (l ≤ 65536) × (a < l) × (n < 65536)
  unfolding goes_on
  goes_facts e = go (leb l 65536) (ltb a l) (ltb n 65536) refl refl refl e
    where
      go : (x y z : Bool) → leb l 65536 ≡ x → ltb a l ≡ y → ltb n 65536 ≡ z → x && (y && z) ≡ true → (l ≤ 65536) × (a < l) × (n < 65536)
      go true true true p q r e = (leb-true l 65536 p, ltb-true a l q, ltb-true n 65536 r)
      go true true false p q r e = absurd (let z : ◌≡◌ {A = ℕ} 0 1 = cc in omega arith)
      go true false z p q r e = absurd (let z : ◌≡◌ {A = ℕ} 0 1 = cc in omega arith)
      go false y z p q r e = absurd (let z : ◌≡◌ {A = ℕ} 0 1 = cc in omega arith)

pub first_is : (b : List ℕ) (s : State) → s ≡ start_of (fresh_of b) → record { state = s; number = 0; at = 0 } ≡ first_of b
first_is b s e = ap (λ (t : State). record { state = t; number = 0; at = 0 }) e

-- a part of the rows is no longer than they are
pub line_fits : (rows w : List ℕ) (n a k : ℕ) → goes_on (length rows) n a ≡ true → w ≡ part rows a k → length w ≤ 65536
line_fits rows w n a k g d =
    let f = goes_facts (length rows) n a g in
    let x : length w ≡ length (part rows a k) = ap length d in
    let y = length-take k (drop a rows) in
    let z = length-drop a rows in
    omega (arith, f.0)

stored : (o l u : List ℕ) (r : ℕ) → Puts o 0 l u r → (r ≡ min (length l) (length o)) × (u ≡ sets o 0 l)
stored o l u r p = let q = p.puts (omega arith) in (omega (arith, q.1), q.0)

-- the next row, where there is one
module _ (b rows : List ℕ) (p : Progress) (g : goes_on (length rows) p.number p.at ≡ true) where
  pub next_there : next_of b rows p ≡ onward true b rows p
  unfolding next_of
  next_there = ap (λ (q : Bool). onward q b rows p) g

  pub next_some : (o : List ℕ) (end : ℕ) (w : List ℕ) (t : State) (u : List ℕ) (r a : ℕ) → end ≡ part_end 10 rows p.at → w ≡ part rows p.at (end - p.at)
      → Shows b p.state p.number (short (decimals w)) o t u r → a ≡ min (end + 1) (length rows)
      → (record { state = t; number = p.number + 1; at = a } ≡ (next_of b rows p).1) × Puts o 0 (next_of b rows p).0 u r
  next_some o end w t u r a d f s k =
      let v : w ≡ part rows p.at (part_end 10 rows p.at - p.at) = f ∙ ap (λ (m : ℕ). part rows p.at (m - p.at)) d in
      let y : Shows b p.state p.number (row_at rows p.at) o t u r =
      subst (λ (l : List ℕ). Shows b p.state p.number (short (decimals l)) o t u r) v s in
      let c : a ≡ min (part_end 10 rows p.at + 1) (length rows) = k ∙ ap (λ (m : ℕ). min (m + 1) (length rows)) d in
      let n : record { state = t; number = p.number + 1; at = a } ≡ passed rows p (row_shown b p.state p.number (row_at rows p.at)).1 =
      ap (λ (m : ℕ). record { state = t; number = p.number + 1; at = m }) c ∙ ap (λ (m : State). passed rows p m) y.state in (
        n ∙ sym (ap (λ (x : List ℕ × Progress). x.1) next_there),
        subst (λ (x : List ℕ × Progress). Puts o 0 x.0 u r) (sym next_there) y.line,
      )

-- the beginning
module _ (n l : ℕ) (o : List ℕ) where
  pub begin_only : (u : List ℕ) (r : ℕ) → 65536 < l → Puts o 0 (refused_text 14 0) u r → (only r ≡ (begun_of (done n) l o).0) × (u ≡ (begun_of (done n) l o).1)
  unfolding begun_of
  begin_only u r h p =
      let q = stored o (refused_text 14 0) u r p in
      let z : leb l 65536 ≡ false = lt-leb l 65536 h in
      rw z (ap only q.0, q.1)

  pub begin_image : l ≤ 65536 → (Ok n ≡ (begun_of (done n) l o).0) × (o ≡ (begun_of (done n) l o).1)
  unfolding begun_of
  begin_image h = let z : leb l 65536 ≡ true = le-leb l 65536 h in rw z (refl, refl)

module _ (x : Result ℕ Refusal) (y : Told ℕ) (l : ℕ) (o i f : List ℕ) (e : told x ≡ y) (d : i ≡ f) where
  pub start_written : (n : ℕ) (r : Result ℕ OnlyLine) (u : List ℕ) → x ≡ Ok n → (r ≡ (begun_of (done n) l o).0) × (u ≡ (begun_of (done n) l o).1)
      → (r ≡ (begun_of y l o).0) × (u ≡ (begun_of y l o).1) × (i ≡ f)
  start_written n r u h p =
      let z : done n ≡ y = sym (ap told h) ∙ e in
      (p.0 ∙ ap (λ (c : Told ℕ). (begun_of c l o).0) z, p.1 ∙ ap (λ (c : Told ℕ). (begun_of c l o).1) z, d)

  pub start_refused : (k : Refusal) (q m : ℕ) (u : List ℕ) (r : ℕ) → x ≡ Err k → q ≡ number_of k → m ≡ place_of k → Puts o 0 (refused_text q m) u r
      → (only r ≡ (begun_of y l o).0) × (u ≡ (begun_of y l o).1) × (i ≡ f)
  unfolding begun_of
  start_refused k q m u r h a b p =
      let z : refused_by k ≡ y = sym (ap told h) ∙ e in
      let w : Puts o 0 (refused_text (number_of k) (place_of k)) u r = rw (a, b) at p in
      let t = stored o (refused_text (number_of k) (place_of k)) u r w in
      (ap only t.0 ∙ ap (λ (c : Told ℕ). (begun_of c l o).0) z, t.1 ∙ ap (λ (c : Told ℕ). (begun_of c l o).1) z, d)
