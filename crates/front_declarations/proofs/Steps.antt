-- The laws of a reader of the heading: a token, a declared name, and names with commas as a loop. Assumes nothing.
use mathlib.Core.Path.{◌≡◌, refl, sym, ◌∙◌, ap, subst}
use mathlib.Core.Bool.{Bool, true, false, ◌||◌}
use mathlib.Core.List.{List, ◌∷◌}
use Prim.Native.Nat.{ℕ, suc, ◌+◌, ◌<◌}
use native.Mathlib.Omega.{arith}
use native.Mathlib.Numerals.{add-one}
use borrow.Author.Tests.{le-ltb, lt-ltb, leb-true, leb-false, eqb-true, eqb-false}
use lib.Dec.{eqb, leb, ltb}
use lib.ListN.{length}
use Rattle.std.specs.Prelude.{Result, Ok, Err}
use Rattle.spec_grammar.specs.Token.{Token}
use Rattle.base_codes.specs.Token.{NAME}
use Rattle.spec_grammar.specs.Grammar.{NonTerminal, Says, plain, declares, Sym, tk, Fun}
use Rattle.spec_grammar.specs.Meter.{tick, over, zeroes}
use Rattle.spec_grammar.specs.Reader.{choose}
use Rattle.front_layout.specs.Tokens.{token_at, alone, kind_in, flag_in, Holds}
use Rattle.front_cursor.specs.declared.Unread.{Unread}
use Rattle.front_cursor.specs.Reading.{Read, unread, meter, Fine, Asks, Moves, refuse, step, expect_at}
use Rattle.front_cursor.proofs.Measures.{three, or_true}
use Rattle.front_cursor.proofs.Steps.{kind_is, kind_inside, from_stays, expect_at_lem, expect_moves, expect_written, expect_less, unread_ends, token_not, token_over, token_taken, over_plain}
use Rattle.front_declarations.specs.declared.Header.{Header}
use Rattle.front_declarations.specs.Headers.{HeaderRead, header_here, heading_of, header_at, as_header, header_after, from_header, refuse_header, declare_at, name_at, take_at, AsksHeader, MovesHeader, Grown}

-- called where a reader goes on, it answers what it does from there
pub after_header : (p : Header) (r : Result Header Unread) → as_header p r ≡ header_after (header_here p) r
after_header p (Ok r) = refl
after_header p (Err e) = refl

pub fine : {n : ℕ} {p : HeaderRead} (b : Bool) → AsksHeader n p → Fine 0 (heading_of b p)
fine b a = record { statements = omega arith; inputs = a.inputs; outputs = a.outputs; vars = a.vars }

pub cursor_asks : {n : ℕ} {p : HeaderRead} → AsksHeader n p → Asks n p.cursor
cursor_asks a = record { short = a.short; inside = a.inside; room = a.room; few = a.few }

-- where the cursor has moved
pub at_by : (p : HeaderRead) {q q' : Read} → q ≡ q' → header_at q p ≡ header_at q' p
at_by p f = ap (λ (q : Read). header_at q p) f

pub moved_by : (p : HeaderRead) {r : HeaderRead} {q q' : Read} → r ≡ header_at q p → q ≡ q' → r ≡ header_at q' p
moved_by p e f = e ∙ at_by p f

pub asks_header : {n : ℕ} {p r : HeaderRead} → AsksHeader n p → MovesHeader n p r → AsksHeader n r
asks_header u v = record {
  short = omega arith;
  inside = omega arith;
  room = omega arith;
  few = omega arith;
  waiting = omega arith;
  inputs = omega arith;
  outputs = omega arith;
  vars = omega arith;
}

pub moves_header : {n : ℕ} {p a r : HeaderRead} → MovesHeader n p a → MovesHeader n a r → MovesHeader n p r
moves_header u v = record {
  on = omega arith;
  inside = omega arith;
  few = omega arith;
  less = omega arith;
  wrote = λ z. v.wrote z ∙ u.wrote (v.began z);
  waiting = omega arith;
  inputs = omega arith;
  outputs = omega arith;
  vars = omega arith;
  began = λ z. u.began (v.began z);
}

pub stay_header : {n : ℕ} {p : HeaderRead} → AsksHeader n p → MovesHeader n p p
stay_header a = record {
  on = omega arith;
  inside = omega arith;
  few = omega arith;
  less = omega arith;
  wrote = λ z. refl;
  waiting = omega arith;
  inputs = omega arith;
  outputs = omega arith;
  vars = omega arith;
  began = λ z. z;
}

-- a token that was taken moves the reader by one
pub took_one : (kinds long : List ℕ) (n k : ℕ) (p r : HeaderRead) → r ≡ take_at kinds long n k p → r.cursor.fault ≡ 0 → r.cursor.at ≡ p.cursor.at + 1
unfolding expect_at
took_one kinds long n k p r e z = go (eqb p.cursor.fault 0) refl (eqb (kind_in kinds n p.cursor.at) k) (flag_in long p.cursor.at) e
  where
    go : (w : Bool) → eqb p.cursor.fault 0 ≡ w → (u v : Bool)
        → r ≡ header_at (choose w (choose u (choose v (refuse 4 p.cursor) (step p.cursor)) (refuse 3 p.cursor)) p.cursor) p
        → r.cursor.at ≡ p.cursor.at + 1
    go false w u v q = absurd (eqb-false p.cursor.fault 0 w (sym (ap (λ (y : HeaderRead). y.cursor.fault) q) ∙ z))
    go true w false v q = absurd (let y : 3 ≡ 0 = sym (ap (λ (y : HeaderRead). y.cursor.fault) q) ∙ z in omega arith)
    go true w true true q = absurd (let y : 4 ≡ 0 = sym (ap (λ (y : HeaderRead). y.cursor.fault) q) ∙ z in omega arith)
    go true w true false q = ap (λ (y : HeaderRead). y.cursor.at) q

pub took_moves : (kinds long : List ℕ) {n : ℕ} (k : ℕ) {p r : HeaderRead} → 0 < k → AsksHeader n p → r ≡ take_at kinds long n k p → MovesHeader n p r
took_moves kinds long {n} k {p} {r} pos a e =
    rw e (let m = go in record {
      on = omega arith;
      inside = omega arith;
      few = omega arith;
      less = expect_less p.cursor (eqb (kind_in kinds n p.cursor.at) k) (flag_in long p.cursor.at);
      wrote = expect_written p.cursor (eqb (kind_in kinds n p.cursor.at) k) (flag_in long p.cursor.at);
      waiting = omega arith;
      inputs = omega arith;
      outputs = omega arith;
      vars =
          omega arith;
      began = m.began;
    })
  where
    go : Moves n p.cursor (expect_at (eqb (kind_in kinds n p.cursor.at) k) (flag_in long p.cursor.at) p.cursor)
    go = expect_moves n p.cursor (eqb (kind_in kinds n p.cursor.at) k) (flag_in long p.cursor.at) (cursor_asks a)
        (λ z. kind_inside kinds n p.cursor.at k (eqb-true (kind_in kinds n p.cursor.at) k z) pos)

pub took_plain : {ts : List Token} {kinds long : List ℕ} {n : ℕ} → Holds ts kinds long n → {p r : HeaderRead} → AsksHeader n p → (k : ℕ) → 0 < k
    → r ≡ take_at kinds long n k p → (S : NonTerminal) (b : Bool) (γ : List Sym) (κ : Token → Fun γ (Says S))
    → from_header ts S b p (tk plain k ∷ γ) κ ≡ from_header ts S b r γ (κ (token_at ts p.cursor.at))
unfolding tick
took_plain {ts} {kinds} {long} {n} holds {p} {r} a k pos e S b γ κ =
    expect_at_lem ts S 0 1 (heading_of b p) p.cursor 0 plain 0 1
    (over_plain 0 1 (heading_of b p) (fine b a) 0 (omega arith) (token_at ts p.cursor.at) p.cursor.items a.few) refl k pos
    (eqb (kind_in kinds n p.cursor.at) k) (flag_in long p.cursor.at) (ap (λ (j : ℕ). eqb j k) (sym (kind_is holds p.cursor.at)))
    (λ u. sym (holds.flag p.cursor.at (let z = holds.count in omega arith))) γ κ
    ∙ ap (λ (v : HeaderRead). from_header ts S b v γ (κ (token_at ts p.cursor.at))) (sym e)

-- A declared name.
over_port : {n : ℕ} {p : HeaderRead} → AsksHeader n p → (x : Token) → over (tick (meter p.cursor.items 0 0 1 (heading_of false p)) declares x) ≡ alone x
unfolding over tick alone
over_port {p = p} a x = rw (
  le-ltb 64 p.cursor.items a.few,
  le-ltb 17 p.inputs a.inputs,
  le-ltb 16 p.outputs a.outputs,
  le-ltb 32 p.vars
      a.vars,
)

over_variable : {n : ℕ} {p : HeaderRead} → AsksHeader n p → (x : Token)
    → over (tick (meter p.cursor.items 0 0 1 (heading_of true p)) declares x) ≡ alone x || ltb 32 (suc p.vars)
unfolding over tick alone
over_variable {p = p} a x =
    rw (le-ltb 64 p.cursor.items a.few, le-ltb 17 p.inputs a.inputs, le-ltb 16 p.outputs a.outputs)
    (three (ltb 32 (tick zeroes plain x).bytes) (ltb 32 (suc p.vars)) (ltb 2147483647 (tick zeroes plain x).literal))

pub named : {ts : List Token} {kinds long : List ℕ} {n : ℕ} → Holds ts kinds long n → {p r : HeaderRead} (b : Bool) → AsksHeader n p
    → r ≡ name_at (eqb (kind_in kinds n p.cursor.at) 1) (flag_in long p.cursor.at) b p → (S : NonTerminal) (γ : List Sym) (κ : Token → Fun γ (Says S))
    → from_header ts S b p (tk declares NAME ∷ γ) κ ≡ from_header ts S b r γ (κ (token_at ts p.cursor.at))
unfolding name_at tick
named {ts} {kinds} {long} {n} holds {p} {r} b a e S γ κ =
    go (eqb p.cursor.fault 0) refl (eqb (kind_in kinds n p.cursor.at) 1) refl (flag_in long p.cursor.at) refl b e
  where
    x : Token
    x = token_at ts p.cursor.at

    To : Bool → HeaderRead → Type 0
    To c v = from_header ts S c p (tk declares NAME ∷ γ) κ ≡ from_header ts S c v γ (κ (token_at ts p.cursor.at))

    kind : eqb (kind_in kinds n p.cursor.at) 1 ≡ true → (token_at ts p.cursor.at).kind ≡ NAME
    kind z = sym (kind_is holds p.cursor.at) ∙ eqb-true (kind_in kinds n p.cursor.at) 1 z

    inside : eqb (kind_in kinds n p.cursor.at) 1 ≡ true → p.cursor.at < n
    inside z = kind_inside kinds n p.cursor.at 1 (eqb-true (kind_in kinds n p.cursor.at) 1 z) (omega arith)

    within : eqb (kind_in kinds n p.cursor.at) 1 ≡ true → p.cursor.at < length ts
    within z = let c = holds.count in let i = inside z in omega arith

    halts : (c : Bool) → p.cursor.fault ≡ 0 → eqb (kind_in kinds n p.cursor.at) 1 ≡ true
        → over (tick (meter p.cursor.items 0 0 1 (heading_of c p)) declares (token_at ts p.cursor.at)) ≡ true → To c (refuse_header 4 p)
    halts c z k t = token_over ts S 0 1 (heading_of c p) p.cursor 0 declares NAME γ γ κ (κ x) 0 1 0 (heading_of c p) (kind k) (within k) z t

    go : (w : Bool) → eqb p.cursor.fault 0 ≡ w → (u : Bool) → eqb (kind_in kinds n p.cursor.at) 1 ≡ u → (v : Bool) → flag_in long p.cursor.at ≡ v
        → (c : Bool)
        → r ≡ choose w (choose u (choose v (refuse_header 4 p) (declare_at c p)) (refuse_header 3 p)) p → To c r
    go false w u eu v ev c z = subst (To c) (sym z)
        (from_stays ts S 0 1 0 1 (heading_of c p) (heading_of c p) p.cursor p.cursor 0 0 (tk declares NAME ∷ γ) γ κ (κ x)
        (eqb-false p.cursor.fault 0 w) refl refl)
    go true w false eu v ev c z = subst (To c) (sym z)
        (token_not ts S 0 1 (heading_of c p) p.cursor 0 declares NAME γ γ κ (κ x) 0 1 0 (heading_of c p)
        (λ y. eqb-false (kind_in kinds n p.cursor.at) 1 eu (kind_is holds p.cursor.at ∙ y)) (eqb-true p.cursor.fault 0 w))
    go true w true eu true ev false z = subst (To false) (sym z)
        (halts false (eqb-true p.cursor.fault 0 w) eu (over_port a x ∙ (sym (holds.flag p.cursor.at (inside eu)) ∙ ev)))
    go true w true eu true ev true z = subst (To true) (sym z)
        (halts true (eqb-true p.cursor.fault 0 w) eu (over_variable a x ∙ rw (sym (holds.flag p.cursor.at (inside eu)) ∙ ev)))
    go true w true eu false ev false z = subst (To false) (sym z)
        (token_taken ts S 0 1 (heading_of false p) p.cursor 0 declares NAME γ κ (step p.cursor) 0 1 0 (heading_of false (declare_at false p)) (kind eu)
        (within eu) (eqb-true p.cursor.fault 0 w)
        (over_port a x ∙ (sym (holds.flag p.cursor.at (inside eu)) ∙ ev)) (rw add-one) (eqb-true p.cursor.fault 0 w) refl)
    go true w true eu false ev true z = last (leb 32 p.vars) refl z
      where
        last : (y : Bool) → leb 32 p.vars ≡ y
            → r ≡ choose y (refuse_header 4 p) (record
            { cursor = step p.cursor; waiting = p.waiting; inputs = p.inputs; outputs = p.outputs; vars = p.vars + 1 }) → To true r
        last true q t = subst (To true) (sym t) (halts true (eqb-true p.cursor.fault 0 w) eu
            (over_variable a x ∙ rw (lt-ltb 32 (suc p.vars) (let g = leb-true 32 p.vars q in omega arith)) (or_true (alone x))))
        last false q t = subst (To true) (sym t)
            (token_taken ts S 0 1 (heading_of true p) p.cursor 0 declares NAME γ κ (step p.cursor) 0 1 0
            (heading_of true (record { cursor = step p.cursor; waiting = p.waiting; inputs = p.inputs; outputs = p.outputs; vars = p.vars + 1 }))
            (kind eu) (within eu) (eqb-true p.cursor.fault 0 w)
            (over_variable a x ∙ rw (
              sym (holds.flag p.cursor.at (inside eu))
                  ∙ ev,
              le-ltb 32 (suc p.vars) (let g = leb-false 32 p.vars q in omega arith),
            )) (rw add-one) (eqb-true p.cursor.fault 0 w) refl)

-- how a declared name moves
pub record Named (n : ℕ) (b : Bool) (p r : HeaderRead) : Type 0 where
  pub moves : MovesHeader n p r
  pub one : r.cursor.fault ≡ 0 → r.cursor.at ≡ p.cursor.at + 1
  pub grown : r.cursor.fault ≡ 0 → Grown b p r 1

pub grown_then : {p a r : HeaderRead} (b : Bool) (c d : ℕ) → Grown b p a c → Grown b a r d → Grown b p r (c + d)
grown_then true c d u v = record { waiting = omega arith; inputs = omega arith; outputs = omega arith; vars = omega arith }
grown_then false c d u v = record { waiting = omega arith; inputs = omega arith; outputs = omega arith; vars = omega arith }

pub grown_none : (b : Bool) (p : HeaderRead) → Grown b p p 0
grown_none true p = record { waiting = omega arith; inputs = refl; outputs = refl; vars = omega arith }
grown_none false p = record { waiting = omega arith; inputs = refl; outputs = refl; vars = omega arith }

pub name_moves : (kinds long : List ℕ) {n : ℕ} {p r : HeaderRead} (b : Bool) → AsksHeader n p
    → r ≡ name_at (eqb (kind_in kinds n p.cursor.at) 1) (flag_in long p.cursor.at) b p → Named n b p r
unfolding name_at
name_moves kinds long {n} {p} {r} b a e = go (eqb p.cursor.fault 0) refl (eqb (kind_in kinds n p.cursor.at) 1) refl (flag_in long p.cursor.at) b e
  where
    Is : Bool → HeaderRead → Type 0
    Is c v = Named n c p v

    halt : (c : Bool) (k : ℕ) → (k ≡ 0 → ⊥) → p.cursor.fault ≡ 0 → Named n c p (refuse_header k p)
    halt c k f z = record {
      moves = record {
        on = omega arith;
        inside = omega arith;
        few = omega arith;
        less = omega arith;
        wrote = λ w. absurd (f w);
        waiting = omega arith;
        inputs = omega arith;
        outputs = omega arith;
        vars = omega arith;
        began = λ w. z;
      };
      one = λ w. absurd (f w);
      grown = λ w. absurd (f w);
    }

    four : ◌≡◌ {A = ℕ} 4 0 → ⊥
    four z = omega arith

    three0 : ◌≡◌ {A = ℕ} 3 0 → ⊥
    three0 z = omega arith

    go : (w : Bool) → eqb p.cursor.fault 0 ≡ w → (u : Bool) → eqb (kind_in kinds n p.cursor.at) 1 ≡ u → (v c : Bool)
        → r ≡ choose w (choose u (choose v (refuse_header 4 p) (declare_at c p)) (refuse_header 3 p)) p → Named n c p r
    go false w u eu v c z = subst (Is c) (sym z)
        (record { moves = stay_header a; one = λ y. absurd (eqb-false p.cursor.fault 0 w y); grown = λ y. absurd (eqb-false p.cursor.fault 0 w y) })
    go true w false eu v c z = subst (Is c) (sym z) (halt c 3 three0 (eqb-true p.cursor.fault 0 w))
    go true w true eu true c z = subst (Is c) (sym z) (halt c 4 four (eqb-true p.cursor.fault 0 w))
    go true w true eu false false z =
        let i = kind_inside kinds n p.cursor.at 1 (eqb-true (kind_in kinds n p.cursor.at) 1 eu) (omega arith) in
        subst (Is false) (sym z) (record {
          moves = record {
            on = omega arith;
            inside = omega arith;
            few = omega arith;
            less = omega arith;
            wrote = λ y. refl;
            waiting = omega arith;
            inputs = omega arith;
            outputs = omega arith;
            vars = omega arith;
            began = λ y. y;
          };
          one = λ y. refl;
          grown = λ y. record { waiting = refl; inputs = refl; outputs = refl; vars = omega arith };
        })
    go true w true eu false true z = last (leb 32 p.vars) refl z
      where
        last : (y : Bool) → leb 32 p.vars ≡ y
            → r ≡ choose y (refuse_header 4 p) (record
            { cursor = step p.cursor; waiting = p.waiting; inputs = p.inputs; outputs = p.outputs; vars = p.vars + 1 }) → Named n true p r
        last true q t = subst (Is true) (sym t) (halt true 4 four (eqb-true p.cursor.fault 0 w))
        last false q t =
            let i = kind_inside kinds n p.cursor.at 1 (eqb-true (kind_in kinds n p.cursor.at) 1 eu) (omega arith) in
            let g = leb-false 32 p.vars q in
            subst (Is true) (sym t) (record {
              moves = record {
                on = omega arith;
                inside = omega arith;
                few = omega arith;
                less = omega arith;
                wrote = λ y. refl;
                waiting = omega arith;
                inputs = omega arith;
                outputs = omega arith;
                vars = omega arith;
                began = λ y. y;
              };
              one = λ y. refl;
              grown = λ y. record { waiting = omega arith; inputs = refl; outputs = refl; vars = refl };
            })

-- A refusal has no counts of its own, so what it says of one reader's counts it says of another's.
pub halted : {n : ℕ} {p : HeaderRead} (a : HeaderRead) (e : Unread) → AsksHeader n p → MovesHeader n p (header_at (unread e) a) → MovesHeader n p (header_at (unread e) p)
halted a e h m = record {
  on = m.on;
  inside = m.inside;
  few = m.few;
  less = m.less;
  wrote = m.wrote;
  waiting = let o = m.on in omega arith;
  inputs = h.inputs;
  outputs = h.outputs;
  vars = h.vars;
  began = m.began;
}

pub from_halted : (ts : List Token) (S : NonTerminal) (b : Bool) (e : Unread) (a p : HeaderRead) (γ : List Sym) (κ : Fun γ (Says S))
    → from_header ts S b (header_at (unread e) a) γ κ ≡ from_header ts S b (header_at (unread e) p) γ κ
from_halted ts S b e a p γ κ =
    from_stays ts S 0 1 0 1 (heading_of b (header_at (unread e) a)) (heading_of b (header_at (unread e) p)) (unread e) (unread e) 0 0 γ γ κ κ
    (unread_ends e) refl refl
