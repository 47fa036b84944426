-- The laws of a reader of statements: tokens, the first token of a statement, and an expression, where the reader stands. Assumes nothing.
use mathlib.Core.Path.{◌≡◌, refl, sym, ◌∙◌, ap, subst}
use mathlib.Core.Bool.{Bool, true, false, ◌||◌}
use mathlib.Core.List.{List, ◌∷◌}
use Prim.Native.Nat.{ℕ, suc, ◌+◌, ◌≤◌, ◌<◌}
use native.Mathlib.Omega.{arith}
use native.Mathlib.Numerals.{add-one}
use borrow.Author.Tests.{le-ltb, lt-ltb, leb-true, leb-false, ltb-false, eqb-true, eqb-false}
use lib.Dec.{eqb, leb, ltb}
use lib.ListN.{length}
use Rattle.spec_grammar.specs.Token.{Token}
use Rattle.spec_grammar.specs.Tree.{Expr}
use Rattle.spec_grammar.specs.Grammar.{NonTerminal, expression, Says, Mark, plain, stmt, stmt_fresh, deeper, shallower, Sym, tk, nt, Fun}
use Rattle.spec_grammar.specs.Meter.{InHeading, tick, over, zeroes}
use Rattle.spec_grammar.specs.Reader.{choose}
use Rattle.spec_grammar.proofs.Steps.{Ok}
use Rattle.front_layout.specs.Tokens.{token_at, alone, kind_in, flag_in, Holds}
use Rattle.front_cursor.specs.declared.Unread.{Unread}
use Rattle.front_cursor.specs.Reading.{Read, unread, meter, from, Fine, Asks, Moves, expect_at, expect_one}
use Rattle.front_cursor.proofs.Measures.{three, or_assoc, or_true}
use Rattle.front_cursor.proofs.Steps.{settle, kind_is, kind_inside, from_stays, expect_at_lem, expect_moves, expect_written, unread_ends, token_over, token_taken, over_plain}
use Rattle.front_layout.specs.Postfix.{postfix}
use Rattle.front_layout.specs.Items.{Arrays}
use Rattle.front_layout.specs.Entries.{Entry}
use Rattle.front_layout.specs.Rows.{Output}
use Rattle.front_expressions.specs.Readers.{ReadsOver}
use Rattle.front_statements.specs.Readers.{StatementOver, ReadsLinesOver, OpeningOver}
use Rattle.front_statements.specs.Listings.{ListingRead, listing, refuse_listing, begun, from_listing, begin_at, FineHeading, AsksListing, MovesListing}

pub fine : {h : InHeading} {s : ℕ} → FineHeading h → s ≤ 512 → Fine s h
fine f z = record { statements = z; inputs = f.inputs; outputs = f.outputs; vars = f.vars }

pub cursor_asks : {n : ℕ} {p : ListingRead} → AsksListing n p → Asks n p.cursor
cursor_asks a = record { short = a.short; inside = a.inside; room = a.room; few = a.few }

-- a step that writes nothing
pub record Stepped (n : ℕ) (p r : ListingRead) : Type 0 where
  pub moves : MovesListing n p r
  pub same : r.cursor.fault ≡ 0 → r.cursor.written ≡ p.cursor.written

pub asks_listing : {n : ℕ} {p r : ListingRead} → AsksListing n p → MovesListing n p r → AsksListing n r
asks_listing u v = record { short = omega arith; inside = omega arith; room = omega arith; few = omega arith; statements = omega arith }

pub moves_listing : {n : ℕ} {p a r : ListingRead} → MovesListing n p a → MovesListing n a r → MovesListing n p r
moves_listing u v = record {
  on = omega arith;
  inside = omega arith;
  room = omega arith;
  few = omega arith;
  more = omega arith;
  statements = omega arith;
  began = λ z. u.began (v.began z);
}

pub stepped_then : {n : ℕ} {p a r : ListingRead} → Stepped n p a → Stepped n a r → Stepped n p r
stepped_then u v = record { moves = moves_listing u.moves v.moves; same = λ z. v.same z ∙ u.same (v.moves.began z) }

pub stepped_asks : {n : ℕ} {p r : ListingRead} → AsksListing n p → Stepped n p r → AsksListing n r
stepped_asks u v = asks_listing u v.moves

-- the same, where the number of statements stays too
pub record Took (n : ℕ) (p r : ListingRead) : Type 0 where
  pub steps : Stepped n p r
  pub statements : r.statements ≡ p.statements

pub took_steps : (kinds long : List ℕ) {n : ℕ} (k : ℕ) {p : ListingRead} {c : Read} → 0 < k → AsksListing n p → c ≡ expect_one kinds long n k p.cursor
    → Took n p (listing c p.statements)
took_steps kinds long {n} k {p} {c} pos a e = rw e (record {
  steps = record {
    moves = let m = go in record {
      on = omega arith;
      inside = omega arith;
      room = omega arith;
      few = omega arith;
      more = omega arith;
      statements = omega arith;
      began = m.began;
    };
    same = expect_written p.cursor (eqb (kind_in kinds n p.cursor.at) k) (flag_in long p.cursor.at);
  };
  statements = refl;
})
  where
    go : Moves n p.cursor (expect_at (eqb (kind_in kinds n p.cursor.at) k) (flag_in long p.cursor.at) p.cursor)
    go = expect_moves n p.cursor (eqb (kind_in kinds n p.cursor.at) k) (flag_in long p.cursor.at) (cursor_asks a)
        (λ z. kind_inside kinds n p.cursor.at k (eqb-true (kind_in kinds n p.cursor.at) k z) pos)

-- the limits at a token that moves the depth
module _ (s l : ℕ) (h : InHeading) (f : Fine s h) (x : Token) (i : ℕ) (few : i ≤ 64) where
  over_deeper : over (tick (meter i 0 s l h) deeper x) ≡ alone x
  unfolding over tick alone
  over_deeper = rw (
    le-ltb 17 h.inputs f.inputs,
    le-ltb 16 h.outputs f.outputs,
    le-ltb 32 h.vars f.vars,
    le-ltb 512 s
        f.statements,
    le-ltb 64 i few,
  )

  over_shallower : over (tick (meter i 0 s l h) shallower x) ≡ alone x
  unfolding over tick alone
  over_shallower = rw (
    le-ltb 17 h.inputs f.inputs,
    le-ltb 16 h.outputs f.outputs,
    le-ltb 32 h.vars f.vars,
    le-ltb 512 s
        f.statements,
    le-ltb 64 i few,
  )

module _ {ts : List Token} {kinds long : List ℕ} {n : ℕ} (holds : Holds ts kinds long n) {p : ListingRead} {c : Read} (a : AsksListing n p) (k : ℕ) (pos : 0 < k)
    (e : c ≡ expect_one kinds long n k p.cursor) (S : NonTerminal) (h : InHeading) (f : FineHeading h) where
  took : (m : Mark) (l l' : ℕ) → over (tick (meter p.cursor.items 0 p.statements l h) m (token_at ts p.cursor.at)) ≡ alone
      (token_at ts p.cursor.at)
      → settle (tick (meter p.cursor.items 0 p.statements l h) m (token_at ts p.cursor.at)) ≡ meter p.cursor.items 0 p.statements l' h
      → (γ : List Sym) (κ : Token → Fun γ (Says S))
      → from_listing ts S l h p (tk m k ∷ γ) κ ≡ from_listing ts S l' h (listing c p.statements) γ (κ (token_at ts p.cursor.at))
  took m l l' o w γ κ =
      expect_at_lem ts S p.statements l h p.cursor 0 m 0 l' o w k pos (eqb (kind_in kinds n p.cursor.at) k) (flag_in long p.cursor.at)
      (ap (λ (j : ℕ). eqb j k) (sym (kind_is holds p.cursor.at)))
      (λ u. sym (holds.flag p.cursor.at (let z = holds.count in omega arith))) γ κ
      ∙ ap (λ (v : Read). from ts S p.statements l' h v 0 γ (κ (token_at ts p.cursor.at))) (sym e)

  pub took_plain : (l : ℕ) (γ : List Sym) (κ : Token → Fun γ (Says S))
      → from_listing ts S l h p (tk plain k ∷ γ) κ ≡ from_listing ts S l h (listing c p.statements) γ (κ (token_at ts p.cursor.at))
  unfolding tick
  took_plain l γ κ = took plain l l (over_plain p.statements l h (fine f a.statements) 0 (omega arith) (token_at ts p.cursor.at) p.cursor.items
      a.few) refl γ κ

  pub took_deeper : (l : ℕ) (γ : List Sym) (κ : Token → Fun γ (Says S))
      → from_listing ts S l h p (tk deeper k ∷ γ) κ ≡ from_listing ts S (l + 1) h (listing c p.statements) γ (κ (token_at ts p.cursor.at))
  unfolding tick
  took_deeper l γ κ = took deeper l (l + 1) (over_deeper p.statements l h (fine f a.statements) (token_at ts p.cursor.at) p.cursor.items a.few)
      (rw add-one) γ κ

  pub took_shallower : (l : ℕ) (γ : List Sym) (κ : Token → Fun γ (Says S))
      → from_listing ts S (l + 1) h p (tk shallower k ∷ γ) κ ≡ from_listing ts S l h (listing c p.statements) γ (κ (token_at ts p.cursor.at))
  unfolding tick
  took_shallower l γ κ = took shallower (l + 1) l
      (over_shallower p.statements (l + 1) h (fine f a.statements) (token_at ts p.cursor.at) p.cursor.items a.few) (rw add-one) γ κ

-- The first token of a statement.
pub record Begun (n : ℕ) (p r : ListingRead) : Type 0 where
  pub steps : Stepped n p r
  pub one : r.cursor.fault ≡ 0 → (r.cursor.at ≡ p.cursor.at + 1) × (r.statements ≡ p.statements + 1)

pub begin_steps : {n : ℕ} {p r : ListingRead} (b : Bool) (depth items : ℕ) → AsksListing n p → p.cursor.at < n → items ≤ 64 → r ≡ begin_at b depth items p
    → Begun n p r
unfolding begin_at
begin_steps {n} {p} {r} b depth items a i few e = go (eqb p.cursor.fault 0) refl b (leb 512 p.statements) refl (ltb 16 depth) e
  where
    Begins : ListingRead → Type 0
    Begins v = Begun n p v

    halt : (k : ℕ) → (k ≡ 0 → ⊥) → p.cursor.fault ≡ 0 → Begun n p (refuse_listing k p)
    halt k f z = record {
      steps = record {
        moves = record
            { on = omega arith; inside = omega arith; room = omega arith; few = omega arith; more = omega arith; statements = omega arith; began = λ w. z };
        same = λ w. absurd (f w);
      };
      one = λ w. absurd (f w);
    }

    four : ◌≡◌ {A = ℕ} 4 0 → ⊥
    four z = omega arith

    go : (w : Bool) → eqb p.cursor.fault 0 ≡ w → (u v : Bool) → leb 512 p.statements ≡ v → (x : Bool)
        → r ≡ choose w (choose u (refuse_listing 4 p) (choose v (refuse_listing 4 p) (choose x (refuse_listing 4 p) (begun items p)))) p → Begun n p r
    go false w u v q x z = subst Begins (sym z)
        (record {
          steps = record {
            moves = record
                { on = omega arith; inside = omega arith; room = omega arith; few = omega arith; more = omega arith; statements = omega arith; began = λ y. y };
            same = λ y. refl;
          };
          one = λ y. absurd (eqb-false p.cursor.fault 0 w y);
        })
    go true w true v q x z = subst Begins (sym z) (halt 4 four (eqb-true p.cursor.fault 0 w))
    go true w false true q x z = subst Begins (sym z) (halt 4 four (eqb-true p.cursor.fault 0 w))
    go true w false false q true z = subst Begins (sym z) (halt 4 four (eqb-true p.cursor.fault 0 w))
    go true w false false q false z =
        let y = leb-false 512 p.statements q in
        subst Begins (sym z) (record {
          steps = record {
            moves = record {
              on = omega arith;
              inside = omega arith;
              room = omega arith;
              few = omega arith;
              more = omega arith;
              statements = omega arith;
              began = λ y. y;
            };
            same = λ y. refl;
          };
          one = λ y. (refl, refl);
        })

-- it was taken at a depth that is allowed
pub begin_depth : (p : ListingRead) {r : ListingRead} (b : Bool) (depth items : ℕ) → r ≡ begin_at b depth items p → r.cursor.fault ≡ 0 → depth ≤ 16
unfolding begin_at
begin_depth p {r} b depth items e z = go (eqb p.cursor.fault 0) refl b (leb 512 p.statements) (ltb 16 depth) refl
    (sym (ap (λ (v : ListingRead). v.cursor.fault) e) ∙ z)
  where
    four : ◌≡◌ {A = ℕ} 4 0 → ⊥
    four y = omega arith

    go : (w : Bool) → eqb p.cursor.fault 0 ≡ w → (u v x : Bool) → ltb 16 depth ≡ x
        → (choose w (choose u (refuse_listing 4 p) (choose v (refuse_listing 4 p) (choose x (refuse_listing 4 p) (begun items p)))) p).cursor.fault ≡ 0
        → depth ≤ 16
    go false w u v x q y = absurd (eqb-false p.cursor.fault 0 w y)
    go true w true v x q y = absurd (four y)
    go true w false true x q y = absurd (four y)
    go true w false false true q y = absurd (four y)
    go true w false false false q y = ltb-false 16 depth q

module _ (s l : ℕ) (h : InHeading) (f : FineHeading h) (x : Token) (i : ℕ) (few : i ≤ 64) where
  over_stmt : over (tick (meter i 0 s l h) stmt x) ≡ alone x || (ltb 512 (suc s) || ltb 16 l)
  unfolding over tick alone
  over_stmt =
      rw (le-ltb 17 h.inputs f.inputs, le-ltb 16 h.outputs f.outputs, le-ltb 32 h.vars f.vars, le-ltb 64 i few)
      (ap (λ (b : Bool). ltb 32 (tick zeroes plain x).bytes || b) (or_assoc (ltb 512 (suc s)) (ltb 16 l) (ltb 2147483647 (tick zeroes plain x).literal))
      ∙ three (ltb 32 (tick zeroes plain x).bytes) (ltb 512 (suc s) || ltb 16 l) (ltb 2147483647 (tick zeroes plain x).literal))

  over_stmt_fresh : over (tick (meter i 0 s l h) stmt_fresh x) ≡ alone x || (ltb 512 (suc s) || ltb 16 l)
  unfolding over tick alone
  over_stmt_fresh =
      rw (le-ltb 17 h.inputs f.inputs, le-ltb 16 h.outputs f.outputs, le-ltb 32 h.vars f.vars)
      (ap (λ (b : Bool). ltb 32 (tick zeroes plain x).bytes || b) (or_assoc (ltb 512 (suc s)) (ltb 16 l) (ltb 2147483647 (tick zeroes plain x).literal))
      ∙ three (ltb 32 (tick zeroes plain x).bytes) (ltb 512 (suc s) || ltb 16 l) (ltb 2147483647 (tick zeroes plain x).literal))

module _ {ts : List Token} {kinds long : List ℕ} {n : ℕ} (holds : Holds ts kinds long n) {p r : ListingRead} (a : AsksListing n p) (k l : ℕ)
    (inside : p.cursor.at < n) (ek : kind_in kinds n p.cursor.at ≡ k) (S : NonTerminal) (h : InHeading) (f : FineHeading h) where
  begins : (m : Mark) (items : ℕ) → r ≡ begin_at (flag_in long p.cursor.at) l items p
      → over (tick (meter p.cursor.items 0 p.statements l h) m (token_at ts p.cursor.at)) ≡ alone (token_at ts p.cursor.at) ||
      (ltb 512 (suc p.statements) || ltb 16 l)
      → settle (tick (meter p.cursor.items 0 p.statements l h) m (token_at ts p.cursor.at)) ≡ meter items 0 (p.statements + 1) l h
      → (γ : List Sym) (κ : Token → Fun γ (Says S))
      → from_listing ts S l h p (tk m k ∷ γ) κ ≡ from_listing ts S l h r γ (κ (token_at ts p.cursor.at))
  unfolding begin_at
  begins m items e o w γ κ = go (eqb p.cursor.fault 0) refl (flag_in long p.cursor.at) refl (leb 512 p.statements) refl (ltb 16 l) refl e
    where
      x : Token
      x = token_at ts p.cursor.at

      To : ListingRead → Type 0
      To v = from_listing ts S l h p (tk m k ∷ γ) κ ≡ from_listing ts S l h v γ (κ (token_at ts p.cursor.at))

      within : p.cursor.at < length ts
      within = let z = holds.count in omega arith

      kind : (token_at ts p.cursor.at).kind ≡ k
      kind = sym (kind_is holds p.cursor.at) ∙ ek

      flag : alone (token_at ts p.cursor.at) ≡ flag_in long p.cursor.at
      flag = sym (holds.flag p.cursor.at inside)

      halts : p.cursor.fault ≡ 0 → over (tick (meter p.cursor.items 0 p.statements l h) m (token_at ts p.cursor.at)) ≡ true → To (refuse_listing 4 p)
      halts z t = token_over ts S p.statements l h p.cursor 0 m k γ γ κ (κ x) p.statements l 0 h kind within z t

      go : (b : Bool) → eqb p.cursor.fault 0 ≡ b → (u : Bool) → flag_in long p.cursor.at ≡ u → (v : Bool) → leb 512 p.statements ≡ v → (y : Bool)
          → ltb 16 l ≡ y
          → r ≡ choose b (choose u (refuse_listing 4 p) (choose v (refuse_listing 4 p) (choose y (refuse_listing 4 p) (begun items p)))) p → To r
      go false b u fu v q y t z = subst To (sym z)
          (from_stays ts S p.statements l p.statements l h h p.cursor p.cursor 0 0 (tk m k ∷ γ) γ κ (κ x)
          (eqb-false p.cursor.fault 0 b) refl refl)
      go true b true fu v q y t z = subst To (sym z) (halts (eqb-true p.cursor.fault 0 b) (o ∙ rw (flag, fu)))
      go true b false fu true q y t z = subst To (sym z)
          (halts (eqb-true p.cursor.fault 0 b)
          (o ∙ rw (lt-ltb 512 (suc p.statements) (let g = leb-true 512 p.statements q in omega arith)) (or_true (alone x))))
      go true b false fu false q true t z = subst To (sym z)
          (halts (eqb-true p.cursor.fault 0 b) (o ∙ rw (t) (ap (λ (c : Bool). alone x || c) (or_true (ltb 512 (suc p.statements))) ∙ or_true (alone x))))
      go true b false fu false q false t z = subst To (sym z)
          (token_taken ts S p.statements l h p.cursor 0 m k γ κ (begun items p).cursor (p.statements + 1) l 0 h kind within
          (eqb-true p.cursor.fault 0 b)
          (o ∙ rw (flag, fu, t, le-ltb 512 (suc p.statements) (let g = leb-false 512 p.statements q in omega arith))) w
          (eqb-true p.cursor.fault 0 b) refl)

  pub begun_stmt : r ≡ begin_at (flag_in long p.cursor.at) l p.cursor.items p → (γ : List Sym) (κ : Token → Fun γ (Says S))
      → from_listing ts S l h p (tk stmt k ∷ γ) κ ≡ from_listing ts S l h r γ (κ (token_at ts p.cursor.at))
  unfolding tick
  begun_stmt e γ κ = begins stmt p.cursor.items e (over_stmt p.statements l h f (token_at ts p.cursor.at) p.cursor.items a.few)
      (rw add-one) γ κ

  pub begun_fresh : r ≡ begin_at (flag_in long p.cursor.at) l 0 p → (γ : List Sym) (κ : Token → Fun γ (Says S))
      → from_listing ts S l h p (tk stmt_fresh k ∷ γ) κ ≡ from_listing ts S l h r γ (κ (token_at ts p.cursor.at))
  unfolding tick
  begun_fresh e γ κ = begins stmt_fresh 0 e (over_stmt_fresh p.statements l h f (token_at ts p.cursor.at) p.cursor.items a.few) (rw add-one) γ κ

-- An expression.
pub expression_at : {ts : List Token} {kinds long : List ℕ} {n : ℕ} (holds : Holds ts kinds long n) {p : ListingRead} {e : Read} {before after : Arrays}
    → AsksListing n p → (reads : ReadsOver expression postfix kinds long n p.cursor 0 before e after)
    → (S : NonTerminal) (l : ℕ) (h : InHeading) → FineHeading h → (γ : List Sym) (κ : Expr → Fun γ (Says S)) → Ok (nt expression ∷ γ)
    → from_listing ts S l h p (nt expression ∷ γ) κ ≡ from_listing ts S l h (listing e p.statements) γ (κ (reads.reads ts holds).value)
expression_at {ts} holds {p} a reads S l h f γ κ o = (reads.reads ts holds).goes S p.statements l h (fine f a.statements) γ κ o

-- A refusal has no statements of its own, so what it says of one reader's number it says of another's.
pub halted : {n : ℕ} {p : ListingRead} (s : ℕ) (e : Unread) → AsksListing n p → MovesListing n p (listing (unread e) s)
    → MovesListing n p (listing (unread e) p.statements)
halted s e h m = record {
  on = m.on;
  inside = m.inside;
  room = m.room;
  few = m.few;
  more = omega arith;
  statements = h.statements;
  began = m.began;
}

pub from_halted : (ts : List Token) (S : NonTerminal) (depth : ℕ) (h : InHeading) (e : Unread) (s t : ℕ) (γ : List Sym) (κ : Fun γ (Says S))
    → from_listing ts S depth h (listing (unread e) s) γ κ ≡ from_listing ts S depth h (listing (unread e) t) γ κ
from_halted ts S depth h e s t γ κ =
    from_stays ts S s depth t depth h h (unread e) (unread e) 0 0 γ γ κ κ (unread_ends e) refl refl

pub statement_halted : {kinds long : List ℕ} {n : ℕ} {p : ListingRead} {depth : ℕ} {before after : Output} (s : ℕ) (e : Unread) → AsksListing n p
    → StatementOver kinds long n p depth before (listing (unread e) s) after
    → StatementOver kinds long n p depth before (listing (unread e) p.statements) after
statement_halted {p = p} {depth} s e a v = record {
  moves = halted s e a v.moves;
  further = λ z. absurd (unread_ends e z);
  reads = λ ts holds.
      let x = v.reads ts holds in
      record {
        value = x.value;
        goes = λ S h fh γ κ o. x.goes S h fh γ κ o ∙ from_halted ts S depth h e s p.statements γ (κ x.value);
        wrote = λ z. absurd (unread_ends e z);
      };
}

pub lines_halted : {M : NonTerminal} {flat : Says M → List Entry} {kinds long : List ℕ} {n : ℕ} {p : ListingRead} {depth : ℕ} {before after : Output}
    (s : ℕ) (e : Unread) → AsksListing n p → ReadsLinesOver M flat kinds long n p depth before (listing (unread e) s) after
    → ReadsLinesOver M flat kinds long n p depth before (listing (unread e) p.statements) after
lines_halted {p = p} {depth} s e a v = record {
  moves = halted s e a v.moves;
  reads = λ ts holds.
      let x = v.reads ts holds in
      record {
        value = x.value;
        goes = λ S h fh γ κ o. x.goes S h fh γ κ o ∙ from_halted ts S depth h e s p.statements γ (κ x.value);
        wrote = λ z. absurd (unread_ends e z);
      };
}

pub opening_halted : {kinds long : List ℕ} {n : ℕ} {p : ListingRead} {depth word : ℕ} {before after : Arrays} (s to : ℕ) (e : Unread)
    → OpeningOver kinds long n p depth word before (record { listing = listing (unread e) s; to = to }) after
    → OpeningOver kinds long n p depth word before (record { listing = listing (unread e) p.statements; to = 0 }) after
opening_halted {p = p} {depth} s to e v = record {
  first = v.first;
  asks = v.asks;
  moves = halted s e v.asks v.moves;
  opened = λ z. absurd (unread_ends e z);
  reads = λ ts holds.
      let x = v.reads ts holds in
      record {
        value = x.value;
        last = x.last;
        goes = λ k ek S h fh γ κ o. x.goes k ek S h fh γ κ o
            ∙ from_halted ts S (depth + 1) h e s p.statements γ (κ (token_at ts p.cursor.at) x.value x.last);
        wrote = λ z. absurd (unread_ends e z);
      };
}
