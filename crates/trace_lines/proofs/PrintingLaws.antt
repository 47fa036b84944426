-- Bytes stored one behind another; the digits of numbers. Assumes nothing.
use mathlib.Core.Path.{◌≡◌, refl, sym, ◌∙◌, ap, subst}
use mathlib.Core.Bool.{Bool, true, false}
use mathlib.Core.List.{List, [], ◌∷◌, ◌++◌, append-nil, append_assoc}
use Prim.Native.Nat.{ℕ, zero, suc, ◌+◌, ◌-◌, ◌/◌, ◌%◌, ◌≤◌, ◌<◌, min}
use native.Mathlib.Omega.{arith}
use native.Mathlib.Nat.{div-lt_iff_lt-mul}
use native.Mathlib.Numerals.{add-one}
use lib.IntN.{ℤ, pos, negsuc, nat_abs}
use lib.Signed.{lt_z}
use lib.Dec.{leb}
use lib.ListN.{length, get_or, set, take, drop, drop_of_length-le, length-append}
use lib.Seq.{sets, set_out, length-sets, take-suc, take_all, drop-cons}
use borrow.Author.Tests.{lt-ltb, le-ltb, ltb-true, leb-true, leb-false}
use Rattle.spec_language.specs.Bytes.{bytes}
use Rattle.spec_design.specs.Spelling.{decimal_by, decimal}
use Rattle.trace_lines.specs.Printing.{integer, integers, performed_line, refused_line, refused_text}
use Rattle.trace_lines.specs.Stored.{Puts, tens}
use Rattle.trace_lines.proofs.Storing.{sets_append, sets_out}

-- a byte
pub puts_one : (o : List ℕ) (a b : ℕ) → a < length o → Puts o a (b ∷ []) (set o a b) (a + 1)
puts_one o a b h = record { puts = λ k. (refl, omega arith) }

pub puts_past : (o : List ℕ) (a b : ℕ) → length o ≤ a → Puts o a (b ∷ []) o a
puts_past o a b h = record { puts = λ k. (sym (set_out o a b h), omega arith) }

-- nothing
pub puts_none : (o : List ℕ) (a : ℕ) → Puts o a [] o a
puts_none o a = record { puts = λ k. (refl, omega arith) }

-- one behind another
module _ (o : List ℕ) (a : ℕ) (x : List ℕ) (u : List ℕ) (r : ℕ) (y : List ℕ) (w : List ℕ) (s : ℕ) where
  pub puts_then : Puts o a x u r → Puts u r y w s → Puts o a (x ++ y) w s
  puts_then p q = record { puts = λ h. both h }
    where
      go : (b : Bool) → leb (a + length x) (length o) ≡ b → r ≡ min (a + length x) (length o) → u ≡ sets o a x → length u ≡ length o
          → sets u r y ≡ sets o a (x ++ y)
      go true b d e l =
          let t = leb-true (a + length x) (length o) b in
          let z : r ≡ a + length x = omega arith in
          rw (z, e) (sym (sets_append o a x y))
      go false b d e l =
          let t = leb-false (a + length x) (length o) b in
          let m = length-sets o a x in
          sets_out u r y (omega arith) ∙ (e ∙ (sym (sets_out (sets o a x) (a + length x) y (omega arith)) ∙ sym (sets_append o a x y)))

      both : a ≤ length o → (w ≡ sets o a (x ++ y)) × (s ≡ min (a + length (x ++ y)) (length o))
      both h =
          let m = p.puts h in
          let e : u ≡ sets o a x = m.0 in
          let l : length u ≡ length o = ap length e ∙ length-sets o a x in
          let n = q.puts (omega (arith, m.1)) in
          let k = length-append x y in
          (n.0 ∙ go (leb (a + length x) (length o)) refl m.1 e l, omega (arith, m.1, n.1))

-- one byte of a text more
pub text_again : (o : List ℕ) (a : ℕ) (t : List ℕ) (i : ℕ) (u : List ℕ) (r : ℕ) (w : List ℕ) (s : ℕ) → i < length t → Puts o a (take i t) u r
    → Puts u r (get_or t i 0 ∷ []) w s → Puts o a (take (i + 1) t) w s
text_again o a t i u r w s h p q = rw (add-one i, take-suc t i 0 h) (puts_then o a (take i t) u r (get_or t i 0 ∷ []) w s p q)

-- digits
module _ (o : List ℕ) (a n : ℕ) (b : ℕ) (w : List ℕ) (s : ℕ) where
  pub digits_few : (f : ℕ) → n < 10 → b ≡ 48 + n → Puts o a (b ∷ []) w s → Puts o a (decimal_by f n) w s
  unfolding decimal_by
  digits_few zero h e p = rw e at p
  digits_few (suc f) h e p = rw (lt-ltb n 10 h) (rw e at p)

  pub digits_more : (u : List ℕ) (r : ℕ) (f : ℕ) → 10 ≤ n → n < tens f → ((g : ℕ) → n / 10 < tens g → Puts o a (decimal_by g (n / 10)) u r)
      → b ≡ 48 + n % 10 → Puts u r (b ∷ []) w s → Puts o a (decimal_by f n) w s
  unfolding decimal_by tens
  digits_more u r zero h k p e q = absurd (omega arith)
  digits_more u r (suc f) h k p e q =
      rw (le-ltb n 10 h)
      (puts_then o a (decimal_by f (n / 10)) u r ((48 + n % 10) ∷ []) w s (p f ((div-lt_iff_lt-mul (omega arith)).1 k)) (rw e at q))

-- every number of 64 bits has at most 20 digits
pub digits_enough : (n : ℕ) → n < 18446744073709551616 → n < tens 19
unfolding tens
digits_enough n h = omega arith

-- integers
integer_above : (z : ℤ) → lt_z z (pos 0) ≡ false → integer z ≡ decimal (nat_abs z)
integer_above (pos m) h = refl
integer_above (negsuc m) h = absurd (let y : ◌≡◌ {A = ℕ} 0 1 = cc in omega arith)

integer_below : (z : ℤ) → lt_z z (pos 0) ≡ true → integer z ≡ 45 ∷ decimal (nat_abs z)
integer_below (pos m) h = absurd (let y : m < 0 = ltb-true m 0 h in omega arith)
integer_below (negsuc m) h = refl

-- what holds whenever the loop over values is at index i
pub record Printed (o : List ℕ) (a : ℕ) (values : List ℤ) (u : List ℕ) (r i : ℕ) : Type 0 where
  pub text : List ℕ
  pub puts : Puts o a text u r
  pub rest : text ++ integers (drop i values) ≡ integers values
  pub inside : i ≤ length values
  pub kept : length u ≡ length o

pub printed_first : (o : List ℕ) (a : ℕ) (values : List ℤ) → Printed o a values o a 0
printed_first o a values = record { text = []; puts = puts_none o a; rest = refl; inside = omega arith; kept = refl }

module _ (o : List ℕ) (a : ℕ) (values : List ℤ) (u : List ℕ) (r i : ℕ) (g : Printed o a values u r i) where
  pub printed_again : (z : ℤ) (x : List ℕ) (m : ℕ) (w : List ℕ) (s : ℕ) → i < length values → z ≡ get_or values i (pos 0) → Puts u r (32 ∷ []) x m
      → Puts x m (integer z) w s
      → length w ≡ length u → Printed o a values w s (i + 1)
  unfolding integers
  printed_again z x m w s h e p q k =
      let t = drop-cons values i (pos 0) h in
      record {
        text = g.text ++ (32 ∷ integer z);
        puts = puts_then o a g.text u r (32 ∷ integer z) w s g.puts (puts_then u r (32 ∷ []) x m (integer z) w s p q);
        rest = append_assoc g.text (32 ∷ integer z) (integers (drop (i + 1) values))
            ∙ (rw (add-one i, e) (ap (λ (l : List ℤ). g.text ++ integers l) (sym t)) ∙ g.rest);
        inside = omega arith;
        kept = k ∙ g.kept;
      }

  pub printed_end : length values ≤ i → Puts o a (integers values) u r
  unfolding integers
  printed_end h =
      let e : g.text ≡ integers values = sym (append-nil g.text)
      ∙ (ap (λ (l : List ℤ). g.text ++ integers l) (sym (drop_of_length-le values h)) ∙ g.rest) in
      rw e at g.puts

module _ (o : List ℕ) (a : ℕ) (z : ℤ) (n : ℕ) (e : n ≡ nat_abs z) where
  pub puts_up : (u : List ℕ) (r : ℕ) → lt_z z (pos 0) ≡ false → Puts o a (decimal n) u r → Puts o a (integer z) u r
  puts_up u r h p = rw (integer_above z h, ← e) p

  pub puts_down : (u : List ℕ) (r : ℕ) (w : List ℕ) (s : ℕ) → lt_z z (pos 0) ≡ true → Puts o a (45 ∷ []) u r → Puts u r (decimal n) w s
      → Puts o a (integer z) w s
  puts_down u r w s h p q = rw (integer_below z h, ← e) (puts_then o a (45 ∷ []) u r (decimal n) w s p q)

-- whole lines
pub performed_puts : (o : List ℕ) (n place lines : ℕ) (v : List ℤ) (o1 : List ℕ) (r1 : ℕ) (o2 : List ℕ) (r2 : ℕ) (o3 : List ℕ) (r3 : ℕ) (o4 : List ℕ) (r4 : ℕ)
    → Puts o 0 (decimal n ++ (32 ∷ decimal place)) o1 r1 → Puts o1 r1 (32 ∷ decimal lines) o2 r2 → Puts o2 r2 (integers v) o3 r3 → Puts o3 r3 (10 ∷ []) o4 r4
    → Puts o 0 (performed_line n place lines v) o4 r4
unfolding performed_line
performed_puts o n place lines v o1 r1 o2 r2 o3 r3 o4 r4 a b c d =
    rw (append_assoc (decimal n) (32 ∷ decimal place) ((32 ∷ decimal lines) ++ (integers v ++ (10 ∷ []))))
    at (puts_then _ _ _ _ _ _ _ _ a (puts_then _ _ _ _ _ _ _ _ b (puts_then _ _ _ _ _ _ _ _ c d)))

pub refused_puts : (o : List ℕ) (n number : ℕ) (o1 : List ℕ) (r1 : ℕ) (o2 : List ℕ) (r2 : ℕ) (o3 : List ℕ) (r3 : ℕ) (o4 : List ℕ) (r4 : ℕ)
    → Puts o 0 (decimal n) o1 r1 → Puts o1 r1 (bytes " refused ") o2 r2 → Puts o2 r2 (decimal number) o3 r3 → Puts o3 r3 (10 ∷ []) o4 r4
    → Puts o 0 (refused_line n number) o4 r4
unfolding refused_line
refused_puts o n number o1 r1 o2 r2 o3 r3 o4 r4 a b c d = puts_then _ _ _ _ _ _ _ _ a (puts_then _ _ _ _ _ _ _ _ b (puts_then _ _ _ _ _ _ _ _ c d))

pub text_puts : (o : List ℕ) (number place : ℕ) (o1 : List ℕ) (r1 : ℕ) (o2 : List ℕ) (r2 : ℕ) (o3 : List ℕ) (r3 : ℕ)
    → Puts o 0 (bytes "refused ") o1 r1 → Puts o1 r1 (decimal number ++ (32 ∷ decimal place)) o2 r2 → Puts o2 r2 (10 ∷ []) o3 r3
    → Puts o 0 (refused_text number place) o3 r3
unfolding refused_text
text_puts o number place o1 r1 o2 r2 o3 r3 a b c =
    rw (append_assoc (decimal number) (32 ∷ decimal place) (10 ∷ [])) at (puts_then _ _ _ _ _ _ _ _ a (puts_then _ _ _ _ _ _ _ _ b c))
