-- The loops over declared names, for their functions' proofs. Assumes nothing.
use mathlib.Core.Path.{◌≡◌, refl, sym, ◌∙◌}
use mathlib.Core.Bool.{Bool, true, false}
use mathlib.Core.List.{List}
use Prim.Native.Nat.{ℕ, suc, ◌+◌, ◌-◌, ◌≤◌, ◌<◌, min}
use native.Mathlib.Omega.{arith}
use native.Mathlib.Numerals.{add-one}
use lib.ListN.{length, take, set, replicate}
use lib.Seq.{sets, take-nil}
use Rattle.std.specs.Int.{from_bool}
use Rattle.spec_grammar.specs.Reader.{choose}
use Rattle.front_elaborator.specs.Names.{count_from, each_from, picked, of_mode, type_at, place_at, types_of, places_of, Heads}
use Rattle.base_ir.specs.declared.Names.{Names}

pub bool_most : {r : ℕ} (b : Bool) → r ≡ from_bool b → r ≤ 1
bool_most true e = omega arith
bool_most false e = omega arith

-- counting: what is counted with what is still to be counted is the whole
module _ (p : ℕ → Bool) (end : ℕ) where
  pub record Counts (n k : ℕ) : Type 0 where
    pub few : n ≤ k
    pub rest : n + count_from p k (end - k) ≡ count_from p 0 end

  pub count_first : Counts 0 0
  count_first = let z : end - 0 ≡ end = omega arith in record { few = omega arith; rest = rw z (omega arith) }

  pub count_again : {n k r : ℕ} {b : Bool} → k < end → b ≡ p k → r ≡ from_bool b → Counts n k → Counts (n + r) (k + 1)
  unfolding count_from
  count_again {n} {k} {r} {b} h e g c =
      let z : end - k ≡ suc (end - (k + 1)) = omega arith in
      let f = c.few in
      let t : n + (choose b 1 0 + count_from p (k + 1) (end - (k + 1))) ≡ count_from p 0 end = rw e (rw z at c.rest) in
      let m : r ≡ choose b 1 0 = g ∙ same b in
      let l : choose b 1 0 ≤ 1 = at_most_one b in
      record { few = omega arith; rest = omega arith }
    where
      same : (q : Bool) → from_bool q ≡ choose q 1 0
      same true = refl
      same false = refl

      at_most_one : (q : Bool) → choose q 1 0 ≤ 1
      at_most_one true = omega arith
      at_most_one false = omega arith

  pub count_end : {n k : ℕ} → end ≤ k → Counts n k → n ≡ count_from p 0 end
  unfolding count_from
  count_end {n} {k} h c = let z : end - k ≡ 0 = omega arith in let t : n + 0 ≡ count_from p 0 end = rw z at c.rest in omega arith

-- the indices: what is still to be written, from here on, makes the array that the whole loop makes
module _ (f : ℕ → ℕ) (end : ℕ) (before : List ℕ) where
  abbrev pub Slots : List ℕ → ℕ → Type 0
  Slots out j = sets out j (each_from f j (end - j)) ≡ sets before 0 (each_from f 0 end)

  pub slots_first : Slots before 0
  slots_first = let z : end - 0 ≡ end = omega arith in rw z

  pub slots_again : {j s : ℕ} (out : List ℕ) → j < end → s ≡ f j → Slots out j → Slots (set out j s) (j + 1)
  unfolding each_from
  slots_again {j} {s} out h e m =
      let z : end - j ≡ suc (end - (j + 1)) = omega arith in
      rw (e, add-one j) (rw (z, add-one j) at m)

  pub slots_end : {j : ℕ} (out : List ℕ) → end ≤ j → Slots out j → out ≡ sets before 0 (each_from f 0 end)
  unfolding each_from
  slots_end {j} out h m = let z : end - j ≡ 0 = omega arith in rw z at m

-- an array gets these items first, as many as it has room for, the rest as before; n says how many
pub record Filled {A : Type 0} (items before after : List A) (n : ℕ) : Type 0 where
  pub count : n ≡ min (length items) 32
  pub contents : after ≡ sets before 0 (take 32 items)

-- the items of a mode: what is still to be appended, from here on, makes the array and the count that the whole loop makes
module _ {A : Type 0} (p : ℕ → Bool) (f : ℕ → A) (before : List A) (end : ℕ) where
  pub record Picks (out : List A) (n k : ℕ) : Type 0 where
    pub room : n ≤ 32
    pub contents : sets out n (take (32 - n) (picked p f k (end - k))) ≡ sets before 0 (take 32 (picked p f 0 end))
    pub count : min (n + length (picked p f k (end - k))) 32 ≡ min (length (picked p f 0 end)) 32

  pub pick_first : Picks before 0 0
  pick_first = let z : end - 0 ≡ end = omega arith in record { room = omega arith; contents = rw z; count = rw z (omega arith) }

  -- one more, ..
  pub pick_more : {n k : ℕ} {x : A} {out : List A} → k < end → (n ≡ 32 → ⊥) → true ≡ p k → x ≡ f k → Picks out n k → Picks (set out n x) (n + 1) (k + 1)
  unfolding picked
  pick_more {n} {k} {x} {out} h g i q c =
      let r = c.room in
      let one : end - k ≡ suc (end - (k + 1)) = omega arith in
      let y : 32 - n ≡ suc (32 - (n + 1)) = omega arith in
      let t : min (n + suc (length (picked p f (k + 1) (end - (k + 1))))) 32 ≡ min (length (picked p f 0 end)) 32 = rw (one, ← i) at c.count in
      record { room = omega arith; contents = rw (q, add-one n) (rw (one, ← i, y, add-one n) at c.contents); count = omega arith }

  -- .. or none
  pub pick_none : {n k : ℕ} {out : List A} → k < end → false ≡ p k → Picks out n k → Picks out n (k + 1)
  unfolding picked
  pick_none {n} {k} {out} h i c =
      let one : end - k ≡ suc (end - (k + 1)) = omega arith in
      record { room = c.room; contents = rw (one, ← i) at c.contents; count = rw (one, ← i) at c.count }

  -- no room is left
  pub pick_full : {n k : ℕ} {out : List A} → n ≡ 32 → Picks out n k → Filled (picked p f 0 end) before out n
  pick_full {n} {k} {out} h c = let z : 32 - n ≡ 0 = omega arith in let t = c.count in record { count = omega arith; contents = rw z at c.contents }

  pub pick_end : {n k : ℕ} {out : List A} → end ≤ k → Picks out n k → Filled (picked p f 0 end) before out n
  unfolding picked
  pick_end {n} {k} {out} h c =
      let z : end - k ≡ 0 = omega arith in
      let r = c.room in
      let t : min (n + 0) 32 ≡ min (length (picked p f 0 end)) 32 = rw z at c.count in
      record { count = omega arith; contents = rw (z, take-nil (32 - n)) at c.contents }

-- the declared names of a mode
pub heads_filled : (starts sizes decls : List ℕ) (d clock m : ℕ) (r : Names) {end : ℕ} → end ≡ min d 65
    → Filled (picked (of_mode decls clock m) (type_at decls) 0 end) (replicate 32 0) r.types r.count
    → Filled (picked (of_mode decls clock m) (place_at starts decls) 0 end) (replicate 32 0) r.starts r.count
    → Filled (picked (of_mode decls clock m) (place_at sizes decls) 0 end) (replicate 32 0) r.sizes r.count → Heads starts sizes decls d clock m r
unfolding types_of places_of
heads_filled starts sizes decls d clock m r e t s z =
    record { count = rw (sym e) t.count; type = rw (sym e) t.contents; start = rw (sym e) s.contents; size = rw (sym e) z.contents }
