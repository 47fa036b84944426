-- Lines put one behind another into a buffer while there is room for one more: with every line the rows left get fewer, and a line has at most 512 bytes,
-- so that none is cut off. Assumes nothing.
use mathlib.Core.Path.{◌≡◌, refl, sym, ◌∙◌, ap}
use mathlib.Core.Bool.{Bool, true, false, ◌&&◌}
use mathlib.Core.List.{List, [], ◌++◌, append-nil, append_assoc}
use Prim.Native.Nat.{ℕ, zero, suc, ◌+◌, ◌-◌, ◌≤◌, ◌<◌, min}
use native.Mathlib.Omega.{arith}
use lib.Dec.{leb}
use lib.ListN.{length, take, drop, length-append, length-take, length-drop, drop_of_length-le}
use lib.Seq.{sets, length-sets, take_all}
use borrow.Author.Tests.{le-leb, lt-leb, leb-true}
use Rattle.base_answers.specs.declared.Refusal.{Refusal}
use Rattle.base_answers.specs.declared.Sections.{Sections}
use Rattle.base_answers.specs.Answers.{done, refused_by}
use Rattle.image_loader.specs.Open.{open_answer}
use Rattle.spec_format.specs.Words.{Bytes}
use Rattle.spec_format.specs.Opening.{Opened, opened, not_opened, open_of}
use Rattle.trace_lines.specs.Stored.{Puts}
use Rattle.trace_lines.specs.Chunks.{OpenedAt, goes_on, next_of, has_more, ahead, fill_by, fill_on, fill_of, Fills}
use Rattle.trace_lines.specs.declared.Progress.{Progress}
use Rattle.trace_lines.specs.declared.Filled.{Filled}
use Rattle.trace_lines.proofs.Storing.{sets_part}
use Rattle.trace_lines.proofs.PrintingLaws.{puts_then}
use Rattle.trace_lines.proofs.RowLaws.{row_inside}
use Rattle.trace_lines.proofs.ChunkLaws.{goes_facts, next_there}
use Rattle.trace_lines.proofs.Short.{next_short}

-- whether a line more is put
module _ (free n : ℕ) (p : Progress) where
  pub no_room : free < 512 → false ≡ has_more free n p
  unfolding has_more
  no_room h = rw (lt-leb 512 free h)

  pub some_room : 512 ≤ free → goes_on n p.number p.at ≡ has_more free n p
  unfolding has_more
  some_room h = rw (le-leb 512 free h)

  pub more_facts : has_more free n p ≡ true → (512 ≤ free) × (goes_on n p.number p.at ≡ true)
  unfolding has_more
  more_facts e = go (leb 512 free) refl e
    where
      go : (x : Bool) → leb 512 free ≡ x → x && goes_on n p.number p.at ≡ true → (512 ≤ free) × (goes_on n p.number p.at ≡ true)
      go true q e = (leb-true 512 free q, e)
      go false q e = absurd (let z : ◌≡◌ {A = ℕ} 0 1 = cc in omega arith)

-- the next row stands behind this one
pub next_behind : (b rows : List ℕ) (p : Progress) → goes_on (length rows) p.number p.at ≡ true
    → (p.at < (next_of b rows p).1.at) × ((next_of b rows p).1.at ≤ length rows) × ((next_of b rows p).1.number ≡ p.number + 1)
next_behind b rows p g =
    let f = goes_facts (length rows) p.number p.at g in
    let i = row_inside rows p.at f.1 in
    rw (next_there b rows p g) (omega (arith, f.1, i.0), omega arith, refl)

-- what is put into the part of a buffer behind its first bytes is put into the buffer behind them
pub part_puts : (o : List ℕ) (a : ℕ) (x ys : List ℕ) (r : ℕ) → Puts (take (length o - a) (drop a o)) 0 x ys r
    → Puts o a x (take a o ++ (ys ++ drop (length o - a) (drop a o))) (a + r)
part_puts o a x ys r p = record { puts = λ h. back h }
  where
    back : a ≤ length o → (take a o ++ (ys ++ drop (length o - a) (drop a o)) ≡ sets o a x) × (a + r ≡ min (a + length x) (length o))
    back h =
        let l = length-drop a o in
        let e : take (length o - a) (drop a o) ≡ drop a o = take_all (length o - a) (drop a o) (omega arith) in
        let i : length (drop a o) ≤ length o - a = omega arith in
        let d : drop (length o - a) (drop a o) ≡ [] = drop_of_length-le (drop a o) i in
        let q = p.puts (omega arith) in
        let y : ys ≡ sets (drop a o) 0 x = q.0 ∙ ap (λ (t : List ℕ). sets t 0 x) e in
        let z : length (take (length o - a) (drop a o)) ≡ length o - a = ap length e ∙ l in (
          rw (d, append-nil ys, y) (sym (sets_part o a x)),
          omega (arith, q.1),
        )

-- the place behind what is put into such a part is inside the buffer
pub part_inside : (o : List ℕ) (a : ℕ) (x ys : List ℕ) (r : ℕ) → a ≤ length o → Puts (take (length o - a) (drop a o)) 0 x ys r → a + r ≤ length o
part_inside o a x ys r h p =
    let l = length-drop a o in
    let t = length-take (length o - a) (drop a o) in
    let q = p.puts (omega arith) in
    omega (arith, q.1)

-- a line more, and no line any more
pub fill_more : (f : ℕ) (b rows : List ℕ) (p : Progress) (free : ℕ) → has_more free (length rows) p ≡ true
    → fill_by (suc f) b rows p free ≡ ahead (next_of b rows p).0 (fill_by f b rows (next_of b rows p).1 (free - length (next_of b rows p).0))
unfolding fill_by
fill_more f b rows p free e = rw e

pub fill_none : (f : ℕ) (b rows : List ℕ) (p : Progress) (free : ℕ) → has_more free (length rows) p ≡ false → fill_by f b rows p free ≡ ([], p)
unfolding fill_by
fill_none zero b rows p free e = refl
fill_none (suc f) b rows p free e = rw e

-- behind the bytes and the progress x, which were put where so many bytes were free, there is no more to put
abbrev pub Ended : List ℕ → ℕ → List ℕ × Progress → Type 0
Ended rows free x = has_more (free - length x.0) (length rows) x.1 ≡ false

ended_ahead : (rows l : List ℕ) (free : ℕ) (x : List ℕ × Progress) → Ended rows (free - length l) x → Ended rows free (ahead l x)
ended_ahead rows l free x h =
    let z = length-append l x.0 in
    let e : free - length (l ++ x.0) ≡ free - length l - length x.0 = omega arith in
    rw e h

ended_none : (rows : List ℕ) (p : Progress) (free : ℕ) → has_more free (length rows) p ≡ false → Ended rows free ([], p)
ended_none rows p free h = let e : free - 0 ≡ free = omega arith in rw e h

no_row : (rows : List ℕ) (p : Progress) (free : ℕ) → length rows ≤ p.at → has_more free (length rows) p ≡ false
no_row rows p free l = go (has_more free (length rows) p) refl
  where
    go : (q : Bool) → has_more free (length rows) p ≡ q → q ≡ false
    go true q = absurd (let c = more_facts free (length rows) p q in let i = goes_facts (length rows) p.number p.at c.1 in omega (arith, i.1))
    go false q = refl

-- lines stop only where there is no more to put: as many as the rows left have bytes always suffice
pub fill_ends : (f : ℕ) (b rows : List ℕ) (p : Progress) (free : ℕ) → length rows - p.at ≤ f → Ended rows free (fill_by f b rows p free)
unfolding fill_by
fill_ends zero b rows p free l = ended_none rows p free (no_row rows p free (omega arith))
fill_ends (suc f) b rows p free l =
    go (fill_ends f b rows (next_of b rows p).1 (free - length (next_of b rows p).0)) (has_more free (length rows) p) refl
  where
    go : (length rows - (next_of b rows p).1.at ≤ f
        → Ended rows (free - length (next_of b rows p).0) (fill_by f b rows (next_of b rows p).1 (free - length (next_of b rows p).0))) → (q : Bool)
        → has_more free (length rows) p ≡ q → Ended rows free (fill_by (suc f) b rows p free)
    go r true q =
        let c = more_facts free (length rows) p q in
        let a = next_behind b rows p c.1 in
        rw (fill_more f b rows p free q) (ended_ahead rows (next_of b rows p).0 free _ (r (omega (arith, a.0, a.1))))
    go r false q = rw (fill_none (suc f) b rows p free q) (ended_none rows p free q)

ahead_ahead : (x y : List ℕ) (r : List ℕ × Progress) → ahead x (ahead y r) ≡ ahead (x ++ y) r
ahead_ahead x y r = ap (λ (l : List ℕ). (l, r.1)) (sym (append_assoc x y r.0))

-- what holds whenever the loop stands at q with so many bytes put, the buffer being o before and u now: with what the rest puts they are what the whole puts
pub record Filling (b rows : List ℕ) (p : Progress) (o : List ℕ) (q : Progress) (u : List ℕ) (size : ℕ) : Type 0 where
  pub text : List ℕ
  pub count : size ≡ length text
  pub fits : size ≤ length o
  pub stored : u ≡ sets o 0 text
  pub left : ℕ
  pub enough : length rows - q.at ≤ left
  pub rest : fill_by (length rows) b rows p (length o) ≡ ahead text (fill_by left b rows q (length o - size))

pub filling_first : (b rows : List ℕ) (p : Progress) (o : List ℕ) → Filling b rows p o p o 0
filling_first b rows p o =
    let z : length o - 0 ≡ length o = omega arith in
    record { text = []; count = refl; fits = omega arith; stored = refl; left = length rows; enough = omega arith; rest = rw z refl }

module _ (b rows : List ℕ) (p : Progress) (o : List ℕ) (q : Progress) (u : List ℕ) (size : ℕ) (g : Filling b rows p o q u size) where
  pub filling_kept : length u ≡ length o
  filling_kept = ap length g.stored ∙ length-sets o 0 g.text

  pub filling_again : Bytes b → has_more (length u - size) (length rows) q ≡ true → (t : Progress) (w : List ℕ) (s : ℕ) → t ≡ (next_of b rows q).1
      → Puts u size (next_of b rows q).0 w s → Filling b rows p o t w s
  filling_again h m t w s e d = go g.left g.enough g.rest
    where
      go : (f : ℕ) → length rows - q.at ≤ f → fill_by (length rows) b rows p (length o) ≡ ahead g.text (fill_by f b rows q (length o - size))
          → Filling b rows p o t w s
      go zero n r =
          absurd (let c = more_facts (length u - size) (length rows) q m in let i = goes_facts (length rows) q.number q.at c.1 in omega (arith, i.1))
      go (suc f) n r =
          let k = filling_kept in
          let c = more_facts (length u - size) (length rows) q m in
          let a = next_behind b rows q c.1 in
          let l = next_short b rows h q in
          let v = g.count in
          let x = g.fits in
          let y = puts_then o 0 g.text u size (next_of b rows q).0 w s (record { puts = λ z. (g.stored, omega arith) }) d in
          let z = y.puts (omega arith) in
          let j = length-append g.text (next_of b rows q).0 in
          let put : s ≡ size + length (next_of b rows q).0 = omega (arith, z.1, c.0) in
          let i : length o - size - length (next_of b rows q).0 ≡ length o - s = omega arith in
          let ahead_at : t.at ≡ (next_of b rows q).1.at = ap (λ (z : Progress). z.at) e in
          record {
            text = g.text ++ (next_of b rows q).0;
            count = omega arith;
            fits = omega (arith, c.0);
            stored = z.0;
            left = f;
            enough = omega (arith, a.0);
            rest =
                r
                ∙ (ap (ahead g.text) (fill_more f b rows q (length o - size) (rw k at m))
                ∙ (ahead_ahead g.text (next_of b rows q).0 (fill_by f b rows (next_of b rows q).1 (length o - size - length (next_of b rows q).0))
                ∙ (ap (λ (m : ℕ). ahead (g.text ++ (next_of b rows q).0) (fill_by f b rows (next_of b rows q).1 m)) i
                ∙ ap (λ (z : Progress). ahead (g.text ++ (next_of b rows q).0) (fill_by f b rows z (length o - s))) (sym e))));
          }

  -- the rows left fall
  pub filling_less : has_more (length u - size) (length rows) q ≡ true → (t : Progress) → t ≡ (next_of b rows q).1 → length rows - t.at < length rows - q.at
  filling_less m t e =
      let c = more_facts (length u - size) (length rows) q m in
      let a = next_behind b rows q c.1 in
      let z : t.at ≡ (next_of b rows q).1.at = ap (λ (z : Progress). z.at) e in
      omega (arith, a.0, a.1)

  pub filling_end : has_more (length u - size) (length rows) q ≡ false
      → Fills (fill_by (length rows) b rows p (length o)) o (record { progress = q; size = size }) u
  filling_end m =
      let k = filling_kept in
      let z : fill_by g.left b rows q (length o - size) ≡ ([], q) = fill_none g.left b rows q (length o - size) (rw k at m) in
      let e : fill_by (length rows) b rows p (length o) ≡ (g.text, q) =
      g.rest ∙ (ap (ahead g.text) z ∙ ap (λ (l : List ℕ). (l, q)) (append-nil g.text)) in
      rw e (record { progress = refl; size = g.count; buffer = g.stored })

-- a whole fill: the image opens, or it is refused
module _ (b rows : List ℕ) (p : Progress) (o : List ℕ) where
  pub fill_opened : (at : Sections) (r : Filled) (u : List ℕ) → OpenedAt b at → Fills (fill_by (length rows) b rows p (length o)) o r u
      → Fills (fill_of b rows p (length o)) o r u
  unfolding fill_of
  fill_opened at r u e f = go (open_of b) e
    where
      go : (x : Opened) → done at ≡ open_answer b x → Fills (fill_on x b rows p (length o)) o r u
      go (opened t) e = f
      go (not_opened q k) e = absurd (let z : ◌≡◌ {A = ℕ} 0 1 = cc in omega arith)

  pub fill_refused : (k : Refusal) → refused_by k ≡ open_answer b (open_of b) → Fills (fill_of b rows p (length o)) o (record { progress = p; size = 0 }) o
  unfolding fill_of
  fill_refused k e = go (open_of b) e
    where
      go : (x : Opened) → refused_by k ≡ open_answer b x → Fills (fill_on x b rows p (length o)) o (record { progress = p; size = 0 }) o
      go (opened t) e = absurd (let z : ◌≡◌ {A = ℕ} 0 1 = cc in omega arith)
      go (not_opened q m) e = record { progress = refl; size = refl; buffer = refl }

-- what a fill puts fits into its buffer: the lines of an image of bytes stand there whole
fill_short : (f : ℕ) (b rows : List ℕ) → Bytes b → (p : Progress) (free : ℕ) → length (fill_by f b rows p free).0 ≤ free
unfolding fill_by
fill_short zero b rows h p free = omega arith
fill_short (suc f) b rows h p free =
    go (fill_short f b rows h (next_of b rows p).1 (free - length (next_of b rows p).0)) (has_more free (length rows) p) refl
  where
    go : length (fill_by f b rows (next_of b rows p).1 (free - length (next_of b rows p).0)).0 ≤ free - length (next_of b rows p).0 → (q : Bool)
        → has_more free (length rows) p ≡ q → length (fill_by (suc f) b rows p free).0 ≤ free
    go r true q =
        let c = more_facts free (length rows) p q in
        let s = next_short b rows h p in
        let z = length-append (next_of b rows p).0 (fill_by f b rows (next_of b rows p).1 (free - length (next_of b rows p).0)).0 in
        rw (fill_more f b rows p free q) (omega (arith, c.0))
    go r false q = rw (fill_none (suc f) b rows p free q) (omega arith)

pub fill_fits : (b rows : List ℕ) → Bytes b → (p : Progress) (free : ℕ) → length (fill_of b rows p free).0 ≤ free
unfolding fill_of
fill_fits b rows h p free = go (open_of b)
  where
    go : (x : Opened) → length (fill_on x b rows p free).0 ≤ free
    go (opened t) = fill_short (length rows) b rows h p free
    go (not_opened q k) = omega arith
