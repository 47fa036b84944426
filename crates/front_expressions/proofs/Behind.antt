-- An operator, its operand, and the operator written behind it: the steps that `not`, the sign and every operator with two operands share. Assumes nothing.
use mathlib.Core.Path.{◌≡◌, refl, sym, ◌∙◌, ap, subst}
use mathlib.Core.Bool.{Bool, true, false}
use mathlib.Core.List.{List, [], ◌∷◌, ◌++◌}
use Prim.Native.Nat.{ℕ, ◌+◌, ◌≤◌, ◌<◌}
use native.Mathlib.Omega.{arith}
use borrow.Author.Tests.{eqb-true, eqb-false}
use lib.Dec.{eqb, leb}
use Rattle.spec_grammar.specs.Token.{Token}
use Rattle.spec_grammar.specs.Grammar.{NonTerminal, Says, Sym, tk, nt, Fun, item}
use Rattle.spec_grammar.specs.Meter.{InHeading}
use Rattle.spec_grammar.specs.Reader.{choose}
use Rattle.spec_grammar.proofs.Steps.{Ok}
use Rattle.front_layout.specs.Tokens.{token_at, kind_in, flag_in, Holds}
use Rattle.front_cursor.specs.Reading.{Read, from, Fine, Asks, Moves, refuse, step_item, item_at}
use Rattle.front_cursor.proofs.Steps.{kind_is, kind_inside, item_at_lem, item_moves, from_same}
use Rattle.front_layout.specs.Postfix.{Item, item_of}
use Rattle.front_layout.specs.Items.{Arrays, Wrote}
use Rattle.front_expressions.specs.Put.{put_at, Put}
use Rattle.front_expressions.specs.Readers.{Reads, ReadsOver}
use Rattle.front_expressions.proofs.Items.{wrote_put, Counts, put_counts}
use Rattle.front_layout.proofs.ItemLists.{wrote_then}

-- an item that is taken moves the cursor by one token, and writes nothing
pub record Taken (q a : Read) : Type 0 where
  pub same : a.fault ≡ 0 → a.written ≡ q.written
  pub one : a.fault ≡ 0 → a.at ≡ q.at + 1

pub item_taken : (q a : Read) (b : Bool) → a ≡ item_at b q → Taken q a
unfolding item_at
item_taken q a b e = go (eqb q.fault 0) refl b (leb 64 q.items) e
  where
    go : (w : Bool) → eqb q.fault 0 ≡ w → (u v : Bool) → a ≡ choose w (choose u (refuse 4 q) (choose v (refuse 4 q) (step_item q))) q → Taken q a
    go false w u v z = rw z (record { same = λ f. refl; one = λ f. absurd (eqb-false q.fault 0 w f) })
    go true w true v z = rw z (record { same = λ f. absurd (let g : 4 ≡ 0 = f in omega arith); one = λ f. absurd (let g : 4 ≡ 0 = f in omega arith) })
    go true w false true z = rw z (record { same = λ f. absurd (let g : 4 ≡ 0 = f in omega arith); one = λ f. absurd (let g : 4 ≡ 0 = f in omega arith) })
    go true w false false z = rw z (record { same = λ f. refl; one = λ f. refl })

-- The bounds: at the operand, at the store, and over all.
module _ (n : ℕ) (q a b r : Read) (u : Bool) (asks : Asks n q) (inside : q.at < n) (e : a ≡ item_at u q) where
  pub first_moves : Moves n q a
  first_moves = rw e (item_moves n q u asks inside)

  pub operand_asks : Asks n a
  operand_asks = let m = first_moves in record { short = omega arith; inside = omega arith; room = omega arith; few = omega arith }

  pub put_room : Moves n a b → b.fault ≡ 0 → b.written < 16384
  put_room m f = let t = item_taken q a u e in let g = t.one (m.began f) in let w = t.same (m.began f) in omega arith

  pub behind_moves : Moves n a b → r ≡ put_at b → Moves n q r
  behind_moves m z =
      let f = first_moves in
      let c = put_counts b r z in
      let t = item_taken q a u e in
      record {
        on = omega arith;
        inside = omega arith;
        room = go (eqb b.fault 0) refl;
        few = omega arith;
        began = λ k. f.began (m.began (sym c.fault ∙ k));
      }
    where
      go : (v : Bool) → eqb b.fault 0 ≡ v → r.written + q.at ≤ q.written + r.at
      go true w =
          let c = put_counts b r z in
          let t = item_taken q a u e in
          let g = t.one (m.began (eqb-true b.fault 0 w)) in
          let y = t.same (m.began (eqb-true b.fault 0 w)) in omega arith
      go false w = let c = put_counts b r z in let t = item_taken q a u e in let f = first_moves in let g = c.none (eqb-false b.fault 0 w) in omega arith

  pub behind_further : Moves n a b → r ≡ put_at b → r.fault ≡ 0 → q.at < r.at
  behind_further m z f =
      let c = put_counts b r z in
      let t = item_taken q a u e in
      let g = t.one (m.began (sym c.fault ∙ f)) in
      omega arith

-- the operator with kind k, whose token is x, and its operand, an A, are read, and written with the code
pub record Behind (A : NonTerminal) (flat : Says A → List Item) (k : ℕ) (x : Token) (code : ℕ) (ts : List Token) (d : ℕ) (q r : Read)
    (before after : Arrays) : Type 0 where
  pub value : Says A
  pub goes : (S : NonTerminal) (s l : ℕ) (h : InHeading) → Fine s h → (δ : List Sym) (κ : Token → Says A → Fun δ (Says S)) → Ok (nt A ∷ δ)
      → from ts S s l h q d (tk item k ∷ nt A ∷ δ) κ ≡ from ts S s l h r d δ (κ x value)
  pub wrote : r.fault ≡ 0 → Wrote ts q.written r.written before after (flat value ++ (item_of code x ∷ []))

pub behind : (A : NonTerminal) (flat : Says A → List Item) {ts : List Token} {kinds long : List ℕ} {n : ℕ} → Holds ts kinds long n → (d : ℕ) → d ≤ 16
    → (q a b r : Read) → q.at < n → (k : ℕ) → kind_in kinds n q.at ≡ k
    → a ≡ item_at (flag_in long q.at) q → (b.fault ≡ 0 → a.fault ≡ 0) → {before middle after : Arrays} → Reads A flat ts d a b before middle
    → {code : ℕ} → Put b code q.at middle r after
    → Behind A flat k (token_at ts q.at) code ts d q r before after
behind A flat {ts} {kinds} {long} {n} holds d g q a b r inside k e ea began {before} {middle} {after} reads {code} put =
    record { value = reads.value; goes = goes; wrote = wrote }
  where
    c : Counts b r
    c = put_counts b r put.answer

    goes : (S : NonTerminal) (s l : ℕ) (h : InHeading) → Fine s h → (δ : List Sym) (κ : Token → Says A → Fun δ (Says S)) → Ok (nt A ∷ δ)
        → from ts S s l h q d (tk item k ∷ nt A ∷ δ) κ ≡ from ts S s l h r d δ (κ (token_at ts q.at) reads.value)
    goes S s l h f δ κ o =
        item_at_lem ts S s l h q d f g (flag_in long q.at) (sym (holds.flag q.at inside)) k (sym (kind_is holds q.at) ∙ e)
        (let z = holds.count in omega arith) (nt A ∷ δ) κ
        ∙ (ap (λ (p : Read). from ts S s l h p d (nt A ∷ δ) (κ (token_at ts q.at))) (sym ea)
        ∙ (reads.goes S s l h f δ (κ (token_at ts q.at)) o
        ∙ from_same ts S s l h b r d δ (κ (token_at ts q.at) reads.value) (sym c.fault) (sym c.at) (sym c.items)))

    wrote : r.fault ≡ 0 → Wrote ts q.written r.written before after (flat reads.value ++ (item_of code (token_at ts q.at) ∷ []))
    wrote z = wrote_then (subst (λ (m : ℕ). Wrote ts m b.written before middle (flat reads.value)) ((item_taken q a (flag_in long q.at) ea).same (began (sym c.fault ∙ z)))
        (reads.wrote (sym c.fault ∙ z))) (wrote_put put z ts)

-- the same over the arrays
pub record BehindOver (A : NonTerminal) (flat : Says A → List Item) (k code : ℕ) (kinds long : List ℕ) (n : ℕ) (q : Read) (d : ℕ) (before : Arrays)
    (r : Read) (after : Arrays) : Type 0 where
  pub moves : Moves n q r
  pub further : r.fault ≡ 0 → q.at < r.at
  pub inside : q.at < n
  pub reads : (ts : List Token) → Holds ts kinds long n → Behind A flat k (token_at ts q.at) code ts d q r before after

pub behind_over : (A : NonTerminal) (flat : Says A → List Item)
    (k : ℕ) {code : ℕ} {kinds long : List ℕ} {n : ℕ} {q a b r : Read} {d : ℕ} {before middle after : Arrays} → 0 < k → Asks n q → d ≤ 16
    → kind_in kinds n q.at ≡ k
    → a ≡ item_at (flag_in long q.at) q → ReadsOver A flat kinds long n a d before b middle → Put b code q.at middle r after
    → BehindOver A flat k code kinds long n q d before r after
behind_over A flat k {code} {kinds} {long} {n} {q} {a} {b} {r} {d} pos asks low e ea reads put =
    let i = kind_inside kinds n q.at k e pos in
    record {
      moves = behind_moves n q a b r (flag_in long q.at) asks i ea reads.moves put.answer;
      further = behind_further n q a b r (flag_in long q.at) asks i ea reads.moves put.answer;
      inside = i;
      reads = λ ts holds. behind A flat holds d low q a b r i k e ea reads.moves.began (reads.reads ts holds) put;
    }
