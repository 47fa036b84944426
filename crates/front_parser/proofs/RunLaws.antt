-- The laws of a run of tokens: where it ends, and what the grammar's reader makes of it. Assumes nothing.
use mathlib.Core.Path.{◌≡◌, refl, sym, ◌∙◌, ap, subst}
use mathlib.Core.Bool.{Bool, true, false, ◌&&◌}
use mathlib.Core.List.{List, [], ◌∷◌, ◌++◌}
use Prim.Native.Nat.{ℕ, suc, ◌+◌, ◌≤◌, ◌<◌}
use native.Mathlib.Omega.{arith}
use borrow.Author.Tests.{eqb-true, eqb-false, ltb-true}
use lib.Dec.{eqb, ltb}
use native.Mathlib.Numerals.{add-one}
use lib.ListN.{length, drop, get_or, drop_of_length-le}
use lib.Seq.{drop-cons}
use Rattle.spec_grammar.specs.Token.{Token}
use Rattle.spec_grammar.specs.Grammar.{NonTerminal, Says, plain, Sym, tk, Fun}
use Rattle.spec_grammar.specs.Meter.{InHeading, tick}
use Rattle.spec_grammar.specs.Reader.{choose}
use Rattle.front_layout.specs.Tokens.{token_at, kind_in, flag_in, Holds}
use Rattle.front_cursor.specs.declared.Unread.{Unread}
use Rattle.front_cursor.specs.Reading.{Read, unread, from, Fine, Asks, Moves, refuse, step, expect_at, expect_one}
use Rattle.front_cursor.proofs.Steps.{kind_is, from_stays, expect_at_lem, expect_written, expect_less, expect_ended, over_plain, asks_then, moves_then, one_moves}
use Rattle.front_parser.specs.Runs.{expect_all, positive, toks, feed}

-- where a run ends
pub record Ran (n : ℕ) (ks : List ℕ) (q r : Read) : Type 0 where
  pub moves : Moves n q r
  pub end : r.fault ≡ 0 → r.at ≡ q.at + length ks
  pub less : r.written ≤ q.written
  pub wrote : r.fault ≡ 0 → r.written ≡ q.written

one_end : (q : Read) (a b : Bool) → (expect_at a b q).fault ≡ 0 → (expect_at a b q).at ≡ q.at + 1
unfolding expect_at
one_end q a b z = go (eqb q.fault 0) refl a b z
  where
    go : (w : Bool) → eqb q.fault 0 ≡ w → (u v : Bool) → (choose w (choose u (choose v (refuse 4 q) (step q)) (refuse 3 q)) q).fault ≡ 0
        → (choose w (choose u (choose v (refuse 4 q) (step q)) (refuse 3 q)) q).at ≡ q.at + 1
    go false w u v y = absurd (eqb-false q.fault 0 w y)
    go true w false v y = absurd (let x : ◌≡◌ {A = ℕ} 3 0 = y in omega arith)
    go true w true true y = absurd (let x : ◌≡◌ {A = ℕ} 4 0 = y in omega arith)
    go true w true false y = refl

head_positive : (k : ℕ) (b : Bool) → ltb 0 k && b ≡ true → (0 < k) × (b ≡ true)
head_positive k b e = go (ltb 0 k) refl e
  where
    go : (a : Bool) → ltb 0 k ≡ a → a && b ≡ true → (0 < k) × (b ≡ true)
    go true w z = (ltb-true 0 k w, z)
    go false w z = absurd (let y : ◌≡◌ {A = ℕ} 0 1 = cc in omega arith)

pub all_ran : (kinds long : List ℕ) (n : ℕ) (ks : List ℕ) → positive ks ≡ true → (q : Read) → Asks n q → Ran n ks q (expect_all kinds long n ks q)
unfolding expect_all
all_ran kinds long n [] e q a = record {
  moves = record { on = omega arith; inside = omega arith; room = omega arith; few = omega arith; began = λ z. z };
  end = λ z. omega arith;
  less = omega arith;
  wrote = λ z. refl;
}
all_ran kinds long n (k ∷ ks) e q a =
    let h = head_positive k (positive ks) e in
    let m = one_moves kinds long n k q h.0 a in
    let v = all_ran kinds long n ks h.1 (expect_one kinds long n k q) (asks_then a m) in
    record {
      moves = moves_then m v.moves;
      end = λ z. let x = v.end z in let y = one_end q (eqb (kind_in kinds n q.at) k) (flag_in long q.at) (v.moves.began z) in omega arith;
      less = let x = v.less in let y = expect_less q (eqb (kind_in kinds n q.at) k) (flag_in long q.at) in omega arith;
      wrote = λ z. v.wrote z ∙ expect_written q (eqb (kind_in kinds n q.at) k) (flag_in long q.at) (v.moves.began z);
    }

-- what has refused takes none of them
pub all_ended : (kinds long : List ℕ) (n : ℕ) (ks : List ℕ) (e : Unread) → unread e ≡ expect_all kinds long n ks (unread e)
unfolding expect_all
all_ended kinds long n [] e = refl
all_ended kinds long n (k ∷ ks) e =
    all_ended kinds long n ks e ∙ ap (λ (q : Read). expect_all kinds long n ks q) (expect_ended kinds long n k e)

-- the first of the tokens that are left, and those behind it
pub next_taken : (kinds long : List ℕ) (n : ℕ) (ws : List ℕ) (i : ℕ) (q : Read) → i < length ws
    → expect_all kinds long n (drop i ws) q ≡ expect_all kinds long n (drop (i + 1) ws) (expect_one kinds long n (get_or ws i 0) q)
unfolding expect_all
next_taken kinds long n ws i q h = rw (add-one, drop-cons ws i 0)

pub next_positive : (ws : List ℕ) (i : ℕ) → i < length ws → positive (drop i ws) ≡ true → (0 < get_or ws i 0) × (positive (drop (i + 1) ws) ≡ true)
next_positive ws i h = rw (add-one, drop-cons ws i 0) (λ e. head_positive (get_or ws i 0) (positive (drop (suc i) ws)) e)

pub none_taken : (kinds long : List ℕ) (n : ℕ) (ws : List ℕ) (i : ℕ) (q : Read) → length ws ≤ i → expect_all kinds long n (drop i ws) q ≡ q
unfolding expect_all
none_taken kinds long n ws i q h = rw (drop_of_length-le ws {i = i} h)

pub ran_eq : (kinds long : List ℕ) {n : ℕ} {ks : List ℕ} {q r : Read} → r ≡ expect_all kinds long n ks q → positive ks ≡ true → Asks n q → Ran n ks q r
ran_eq kinds long {n} {ks} {q} e p a = subst (λ (v : Read). Ran n ks q v) (sym e) (all_ran kinds long n ks p q a)

pub all_asks : (kinds long : List ℕ) {n : ℕ} (ks : List ℕ) {q r : Read} → r ≡ expect_all kinds long n ks q → positive ks ≡ true → Asks n q → Asks n r
all_asks kinds long ks e p a = asks_then a (ran_eq kinds long {ks = ks} e p a).moves

module _ {ts : List Token} {kinds long : List ℕ} {n : ℕ} (holds : Holds ts kinds long n) (S : NonTerminal) (s l : ℕ) (h : InHeading) (f : Fine s h) where
  -- where the reader has refused, what it would make of a value is the same for every value
  pub same_at : (r : Read) (γ : List Sym) (κ : ℕ → Fun γ (Says S)) (i j : ℕ) → (r.fault ≡ 0 → i ≡ j)
      → from ts S s l h r 0 γ (κ i) ≡ from ts S s l h r 0 γ (κ j)
  same_at r γ κ i j e = go (eqb r.fault 0) refl
    where
      go : (w : Bool) → eqb r.fault 0 ≡ w → from ts S s l h r 0 γ (κ i) ≡ from ts S s l h r 0 γ (κ j)
      go true w = ap (λ (v : ℕ). from ts S s l h r 0 γ (κ v)) (e (eqb-true r.fault 0 w))
      go false w = from_stays ts S s l s l h h r r 0 0 γ γ (κ i) (κ j) (eqb-false r.fault 0 w) refl refl

  pub one_taken : (k : ℕ) → 0 < k → (q : Read) → Asks n q → (γ : List Sym) (κ : Token → Fun γ (Says S))
      → from ts S s l h q 0 (tk plain k ∷ γ) κ ≡ from ts S s l h (expect_one kinds long n k q) 0 γ (κ (token_at ts q.at))
  unfolding tick
  one_taken k pos q a γ κ =
      expect_at_lem ts S s l h q 0 plain 0 l (over_plain s l h f 0 (omega arith) (token_at ts q.at) q.items a.few) refl k pos
      (eqb (kind_in kinds n q.at) k) (flag_in long q.at)
      (ap (λ (j : ℕ). eqb j k) (sym (kind_is holds q.at))) (λ u. sym (holds.flag q.at (let z = holds.count in omega arith))) γ κ

  pub all_taken : (ks : List ℕ) → positive ks ≡ true → (q : Read) → Asks n q → (γ : List Sym) (κ : Fun (toks ks ++ γ) (Says S))
      → from ts S s l h q 0 (toks ks ++ γ) κ ≡ from ts S s l h (expect_all kinds long n ks q) 0 γ (feed ts q.at S γ ks κ)
  unfolding expect_all
  all_taken [] e q a γ κ = refl
  all_taken (k ∷ ks) e q a γ κ =
      let p = head_positive k (positive ks) e in
      let m = one_moves kinds long n k q p.0 a in
      let r = expect_one kinds long n k q in
      one_taken k p.0 q a (toks ks ++ γ) κ
      ∙ (all_taken ks p.1 r (asks_then a m) γ (κ (token_at ts q.at))
      ∙ same_at (expect_all kinds long n ks r) γ (λ (i : ℕ). feed ts i S γ ks (κ (token_at ts q.at))) r.at (q.at + 1)
      (λ z. one_end q (eqb (kind_in kinds n q.at) k) (flag_in long q.at) ((all_ran kinds long n ks p.1 r (asks_then a m)).moves.began z)))
