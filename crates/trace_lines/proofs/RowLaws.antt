-- The parts of a line and their decimals, one part more. Assumes nothing.
use mathlib.Core.Path.{◌≡◌, refl, sym, ◌∙◌, ap, subst}
use mathlib.Core.Bool.{Bool, true, false}
use Rattle.std.specs.Prelude.{Option, None, Some}
use mathlib.Core.List.{List, [], ◌∷◌, ◌++◌, append_assoc, append-nil}
use Prim.Native.Nat.{ℕ, suc, ◌+◌, ◌-◌, ◌≤◌, ◌<◌, min}
use native.Mathlib.Omega.{arith}
use lib.IntN.{ℤ}
use lib.Dec.{eqb, leb, ltb}
use lib.ListN.{length, set, take, drop, length-drop, length-append}
use lib.Seq.{sets, drop-drop, take-length, take_all, drop-length}
use borrow.Author.Tests.{le-leb, lt-leb, ltb-true, ltb-false}
use Rattle.spec_language.specs.Lexer.{run}
use Rattle.front_token.specs.Places.{part}
use Rattle.trace_lines.proofs.Storing.{sets_one}
use Rattle.trace_lines.specs.Rows.{longer, split, rows_in, parted, decimal_of, before, all, decimals}
use Rattle.trace_lines.specs.Reading.{other, part_end, short, Reads, parts_from, after, joined, Reading}

-- the length of the first part
abbrev pub first : ℕ → List ℕ → ℕ
first c t = length (run (other c) t)

module _ (c b : ℕ) (t : List ℕ) where
  first_stop : eqb b c ≡ true → first c (b ∷ t) ≡ 0
  unfolding run other
  first_stop e = rw e

  first_more : eqb b c ≡ false → first c (b ∷ t) ≡ suc (first c t)
  unfolding run other
  first_more e = rw e

  split_here : (e : List (List ℕ)) → eqb b c ≡ true → split c e (b ∷ t) ≡ [] ∷ split c e t
  unfolding split
  split_here e q = rw q

  split_on : (e : List (List ℕ)) → eqb b c ≡ false → split c e (b ∷ t) ≡ longer b (split c e t)
  unfolding split
  split_on e q = rw q

-- the first part ends at the byte c
pub split_more : (c : ℕ) (e : List (List ℕ)) (t : List ℕ) → first c t < length t → split c e t ≡ take (first c t) t ∷ split c e (drop (suc (first c t)) t)
split_more c e [] h = absurd (omega arith)
split_more c e (b ∷ t) h = go (split_more c e t) (eqb b c) refl
  where
    go : (first c t < length t → split c e t ≡ take (first c t) t ∷ split c e (drop (suc (first c t)) t)) → (q : Bool) → eqb b c ≡ q
        → split c e (b ∷ t) ≡ take (first c (b ∷ t)) (b ∷ t) ∷ split c e (drop (suc (first c (b ∷ t))) (b ∷ t))
    go r true q = rw (first_stop c b t q, split_here c b t e q)
    go r false q =
        let z : first c t < length t = omega (arith, first_more c b t q) in
        rw (first_more c b t q, split_on c b t e q) (ap (longer b) (r z))

split_nil : (c : ℕ) (e : List (List ℕ)) → split c e [] ≡ e
unfolding split
split_nil c e = refl

-- the first part is the last one
pub split_last : (c : ℕ) (t : List ℕ) → first c t ≡ length t → split c ([] ∷ []) t ≡ t ∷ []
split_last c [] h = split_nil c ([] ∷ [])
split_last c (b ∷ t) h = go (split_last c t) (eqb b c) refl
  where
    go : (first c t ≡ length t → split c ([] ∷ []) t ≡ t ∷ []) → (q : Bool) → eqb b c ≡ q → split c ([] ∷ []) (b ∷ t) ≡ (b ∷ t) ∷ []
    go r true q = absurd (let z : 0 ≡ suc (length t) = sym (first_stop c b t q) ∙ h in omega arith)
    go r false q =
        let z : suc (first c t) ≡ suc (length t) = sym (first_more c b t q) ∙ h in
        split_on c b t ([] ∷ []) q ∙ ap (longer b) (r (omega arith))

first_nil : (c : ℕ) → first c [] ≡ 0
unfolding run
first_nil c = refl

pub first_short : (c : ℕ) (t : List ℕ) → first c t ≤ length t
first_short c [] = let z = first_nil c in omega arith
first_short c (b ∷ t) = go (first_short c t) (eqb b c) refl
  where
    go : first c t ≤ length t → (q : Bool) → eqb b c ≡ q → first c (b ∷ t) ≤ suc (length t)
    go y true q = let z = first_stop c b t q in omega arith
    go y false q = let z = first_more c b t q in omega arith

-- the first part is the last one, and has bytes
pub split_end : (c : ℕ) (t : List ℕ) → first c t ≡ length t → 0 < length t → split c [] t ≡ t ∷ []
split_end c [] h k = absurd (omega arith)
split_end c (b ∷ []) h k = go (eqb b c) refl
  where
    go : (q : Bool) → eqb b c ≡ q → split c [] (b ∷ []) ≡ (b ∷ []) ∷ []
    go true q = absurd (let z : 0 ≡ 1 = sym (first_stop c b [] q) ∙ h in omega arith)
    go false q = split_on c b [] [] q ∙ ap (longer b) (split_nil c [])
split_end c (b ∷ d ∷ t) h k = go (split_end c (d ∷ t)) (eqb b c) refl
  where
    go : (first c (d ∷ t) ≡ length (d ∷ t) → 0 < length (d ∷ t) → split c [] (d ∷ t) ≡ (d ∷ t) ∷ []) → (q : Bool) → eqb b c ≡ q
        → split c [] (b ∷ d ∷ t) ≡ (b ∷ d ∷ t) ∷ []
    go r true q = absurd (let z : 0 ≡ suc (suc (length t)) = sym (first_stop c b (d ∷ t) q) ∙ h in omega arith)
    go r false q =
        let z : suc (first c (d ∷ t)) ≡ suc (suc (length t)) = sym (first_more c b (d ∷ t) q) ∙ h in
        split_on c b (d ∷ t) [] q ∙ ap (longer b) (r (omega arith) (omega arith))

module _ (s : List ℕ) (i : ℕ) (h : i < length s) where
  pub row_inside : (i ≤ part_end 10 s i) × (part_end 10 s i ≤ length s)
  row_inside = let z = first_short 10 (drop i s) in let l = length-drop i s in (omega arith, omega arith)

  -- the row at index i, and the rows behind it
  pub rows_step : rows_in (drop i s) ≡ part s i (part_end 10 s i - i) ∷ rows_in (drop (min (part_end 10 s i + 1) (length s)) s)
  rows_step =
      let z : i + first 10 (drop i s) - i ≡ first 10 (drop i s) = omega arith in
      rw z (go (ltb (first 10 (drop i s)) (length (drop i s))) refl)
    where
      go : (q : Bool) → ltb (first 10 (drop i s)) (length (drop i s)) ≡ q
          → rows_in (drop i s) ≡ take (first 10 (drop i s)) (drop i s) ∷ rows_in (drop (min (i + first 10 (drop i s) + 1) (length s)) s)
      go true q =
          let y = ltb-true (first 10 (drop i s)) (length (drop i s)) q in
          let l = length-drop i s in
          let e : i + suc (first 10 (drop i s)) ≡ min (i + first 10 (drop i s) + 1) (length s) = omega arith in
          split_more 10 [] (drop i s) y ∙ rw (drop-drop (suc (first 10 (drop i s))) i s, e)
      go false q =
          let y = ltb-false (first 10 (drop i s)) (length (drop i s)) q in
          let w = first_short 10 (drop i s) in
          let m : first 10 (drop i s) ≡ length (drop i s) = omega arith in
          let l = length-drop i s in
          let e : min (i + first 10 (drop i s) + 1) (length s) ≡ length s = omega arith in
          split_end 10 (drop i s) m (omega arith)
          ∙ rw (e, drop-length s, split_nil 10 []) (ap (λ (k : List ℕ). k ∷ []) (sym (take_all (first 10 (drop i s)) (drop i s) (omega arith))))

module _ (s : List ℕ) (i : ℕ) (h : i ≤ length s) where
  pub part_inside : (i ≤ part_end 32 s i) × (part_end 32 s i ≤ length s)
  part_inside = let z = first_short 32 (drop i s) in let l = length-drop i s in (omega arith, omega arith)

  -- the part at index i, and the parts behind it
  pub parts_step : parts_from s i ≡ part s i (part_end 32 s i - i) ∷ parts_from s (part_end 32 s i + 1)
  parts_step =
      let u = first 32 (drop i s) in
      let l : length (drop i s) ≡ length s - i = length-drop i s in
      let z : i + u - i ≡ u = omega arith in
      rw (le-leb i (length s) h, z) (go (ltb u (length (drop i s))) refl)
    where
      go : (q : Bool) → ltb (first 32 (drop i s)) (length (drop i s)) ≡ q
          → parted (drop i s) ≡ take (first 32 (drop i s)) (drop i s) ∷ parts_from s (i + first 32 (drop i s) + 1)
      go true q =
          let y = ltb-true (first 32 (drop i s)) (length (drop i s)) q in
          let l = length-drop i s in
          let b : leb (i + first 32 (drop i s) + 1) (length s) ≡ true = le-leb (i + first 32 (drop i s) + 1) (length s) (omega arith) in
          let e : i + suc (first 32 (drop i s)) ≡ i + first 32 (drop i s) + 1 = omega arith in
          split_more 32 ([] ∷ []) (drop i s) y ∙ rw (b, drop-drop (suc (first 32 (drop i s))) i s, e)
      go false q =
          let y = ltb-false (first 32 (drop i s)) (length (drop i s)) q in
          let w = first_short 32 (drop i s) in
          let m : first 32 (drop i s) ≡ length (drop i s) = omega arith in
          let l = length-drop i s in
          let b : leb (i + first 32 (drop i s) + 1) (length s) ≡ false = lt-leb (i + first 32 (drop i s) + 1) (length s) (omega arith) in
          split_last 32 (drop i s) m ∙ rw (b, m) (ap (λ (k : List ℕ). k ∷ []) (sym (take-length (drop i s))))

module _ (l : List ℤ) (w : List ℕ) (ws : List (List ℕ)) where
  joined_none : decimal_of w ≡ None → joined l (w ∷ ws) ≡ None
  unfolding all
  joined_none e = rw e

  joined_some : (z : ℤ) → decimal_of w ≡ Some z → joined l (w ∷ ws) ≡ joined (l ++ (z ∷ [])) ws
  unfolding all
  joined_some z e = rw e (go (all ws))
    where
      go : (r : Option (List ℤ)) → short (after l (before (Some z) r)) ≡ short (after (l ++ (z ∷ [])) r)
      go None = refl
      go (Some m) = ap (λ (k : List ℤ). short (Some k)) (sym (append_assoc l (z ∷ []) m))

  joined_long : 16 ≤ length l → joined l (w ∷ ws) ≡ None
  unfolding all
  joined_long h = go (decimal_of w) (all ws)
    where
      go : (x : Option ℤ) (r : Option (List ℤ)) → short (after l (before x r)) ≡ None
      go None r = refl
      go (Some z) None = refl
      go (Some z) (Some m) = let y = length-append l (z ∷ m) in rw (lt-leb (length (l ++ (z ∷ m))) 16 (omega arith))

joined_end : (l : List ℤ) → length l ≤ 16 → joined l [] ≡ Some l
unfolding all
joined_end l h = rw (append-nil l, le-leb (length l) 16 h)

-- what the reading of a row answers
module _ (x : Option (List ℤ)) (v : List ℤ) (r : Option ℕ) (w : List ℤ) where
  pub reads_none : x ≡ None → r ≡ None → Reads x v r w
  reads_none e h = subst (λ (y : Option (List ℤ)). Reads y v r w) (sym e) (record { is = h })

  pub reads_some : (l : List ℤ) → x ≡ Some l → r ≡ Some (length l) → w ≡ sets v 0 l → Reads x v r w
  reads_some l e h k = subst (λ (y : Option (List ℤ)). Reads y v r w) (sym e) (record { is = (h, k) })

nil_decimals : decimals [] ≡ Some []
unfolding decimals
nil_decimals = refl

cons_decimals : (b : ℕ) (s : List ℕ) → decimals (b ∷ s) ≡ all (parted (b ∷ s))
unfolding decimals
cons_decimals b s = refl

nothing_before : (r : Option (List ℤ)) → short r ≡ short (after [] r)
nothing_before None = refl
nothing_before (Some m) = refl

-- the loop over the parts of a line
module _ (line : List ℕ) (v : List ℤ) where
  pub row_empty : length line ≡ 0 → Reads (short (decimals line)) v (Some 0) v
  row_empty h = reads_some (short (decimals line)) v (Some 0) v [] (go line h) refl refl
    where
      go : (s : List ℕ) → length s ≡ 0 → short (decimals s) ≡ Some []
      go [] e = ap short nil_decimals
      go (b ∷ s) e = absurd (omega arith)

  pub row_first : (length line ≡ 0 → ⊥) → Reading line v v 0 0
  row_first h = record { read = []; count = refl; few = omega arith; stored = refl; inside = omega arith; rest = go line h }
    where
      go : (s : List ℕ) → (length s ≡ 0 → ⊥) → short (decimals s) ≡ joined [] (parts_from s 0)
      go [] e = absurd (e refl)
      go (b ∷ s) e =
          let z : leb 0 (suc (length s)) ≡ true = le-leb 0 (suc (length s)) (omega arith) in
          ap short (cons_decimals b s) ∙ (nothing_before (all (parted (b ∷ s))) ∙ rw z)

  module _ (now : List ℤ) (n i : ℕ) (g : Reading line v now n i) where
    pub row_long : i ≤ length line → 16 ≤ n → Reads (short (decimals line)) v None now
    row_long h k =
        let z = g.count in
        reads_none (short (decimals line)) v None now
        (g.rest ∙ ap (joined g.read) (parts_step line i h)
        ∙ joined_long g.read (part line i (part_end 32 line i - i)) (parts_from line (part_end 32 line i + 1)) (omega arith)) refl

    pub row_unreadable : (e : ℕ) (w : List ℕ) (x : Option ℤ) → i ≤ length line → e ≡ part_end 32 line i → w ≡ part line i (e - i) → x ≡ decimal_of w
        → x ≡ None → Reads (short (decimals line)) v None now
    row_unreadable e w x h a b d u =
        let y : w ≡ part line i (part_end 32 line i - i) = b ∙ ap (λ (k : ℕ). part line i (k - i)) a in
        reads_none (short (decimals line)) v None now
        (g.rest ∙ ap (joined g.read) (parts_step line i h)
        ∙ joined_none g.read (part line i (part_end 32 line i - i)) (parts_from line (part_end 32 line i + 1))
        (ap decimal_of (sym y) ∙ (sym d ∙ u))) refl

    pub row_again : (e : ℕ) (w : List ℕ) (x : Option ℤ) (z y : ℤ) (after : List ℤ) → i ≤ length line → n < 16 → e ≡ part_end 32 line i → w ≡ part line i (e - i)
        → x ≡ decimal_of w → x ≡ Some z → after ≡ set now n y → y ≡ z → Reading line v after (n + 1) (e + 1)
    row_again e w x z o after h k a b d u s f =
        let y : w ≡ part line i (part_end 32 line i - i) = b ∙ ap (λ (k : ℕ). part line i (k - i)) a in
        let m = part_inside line i h in
        let p = length-append g.read (z ∷ []) in
        let q = g.count in
        record {
          read = g.read ++ (z ∷ []);
          count = omega arith;
          few = omega arith;
          stored = s ∙ rw (f, g.count, g.stored) (sym (sets_one v g.read z));
          inside = omega arith;
          rest =
              g.rest ∙ ap (joined g.read) (parts_step line i h)
              ∙ joined_some g.read (part line i (part_end 32 line i - i)) (parts_from line (part_end 32 line i + 1)) z
              (ap decimal_of (sym y) ∙ (sym d ∙ u))
              ∙ ap (λ (k : ℕ). joined (g.read ++ (z ∷ [])) (parts_from line (k + 1))) (sym a);
        }

    pub end_inside : (e : ℕ) → i ≤ length line → e ≡ part_end 32 line i → (i ≤ e) × (e ≤ length line)
    end_inside e h a = let m = part_inside line i h in (omega arith, omega arith)

    pub row_end : length line < i → Reads (short (decimals line)) v (Some n) now
    row_end h =
        let q = g.count in
        let b : leb i (length line) ≡ false = lt-leb i (length line) h in
        let e : parts_from line i ≡ [] = rw b in
        reads_some (short (decimals line)) v (Some n) now g.read (g.rest ∙ ap (joined g.read) e ∙ joined_end g.read (omega arith))
        (ap Some g.count) g.stored
