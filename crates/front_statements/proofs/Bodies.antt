-- The reader of a list of statements: its loop's invariant, and its returns. Assumes nothing.
use mathlib.Core.Path.{◌≡◌, refl, sym, ◌∙◌, ap, subst}
use mathlib.Core.Bool.{Bool, true, false}
use mathlib.Core.List.{List, [], ◌∷◌, ◌++◌, append_assoc, append-nil}
use Prim.Native.Nat.{ℕ, ◌<◌}
use native.Mathlib.Omega.{arith}
use borrow.Author.Tests.{eqb-true, eqb-false}
use lib.Dec.{T, eqb}
use Rattle.spec_grammar.specs.Token.{Token}
use Rattle.spec_grammar.specs.Tree.{Stmt, null, only, and_then}
use Rattle.spec_grammar.specs.Grammar.{NonTerminal, statement, body, more, Says, Sym, nt, Fun, productions, ◌↠◌}
use Rattle.spec_grammar.specs.Meter.{InHeading}
use Rattle.spec_grammar.specs.Derivation.{here}
use Rattle.spec_grammar.specs.Reader.{compose, pick, take}
use Rattle.spec_grammar.proofs.Steps.{Ok}
use Rattle.spec_grammar.proofs.Tables.{pick_rule}
use Rattle.front_layout.specs.Tokens.{token_at, kind_in, Holds}
use Rattle.front_cursor.proofs.Steps.{kind_is, kind_inside, from_stays, rule_at, left_at, into_at, refused_at_lem}
use Rattle.front_expressions.proofs.Primaries.{ok_of}
use Rattle.front_layout.specs.Entries.{Entry, stmt_entries, body_entries}
use Rattle.front_layout.specs.Rows.{Output, WroteLines}
use Rattle.front_statements.specs.Listings.{ListingRead, refuse_listing, from_listing, is_start, FineHeading, AsksListing, MovesListing}
use Rattle.front_statements.specs.Readers.{ReadsLinesOver, StatementOver}
use Rattle.front_layout.proofs.Lines.{lines_none, lines_then}
use Rattle.front_statements.proofs.Steps.{moves_listing}
use Rattle.front_statements.proofs.Picks.{more_rule, no_statement, into_statement, starts_elem, pick_more}

pub stay_listing : (n : ℕ) (p : ListingRead) → AsksListing n p → MovesListing n p p
stay_listing n p a = record {
  on = omega arith;
  inside = omega arith;
  room = omega arith;
  few = omega arith;
  more = omega arith;
  statements = omega arith;
  began = λ z. z;
}

-- what has refused stays so
pub statement_stays : {kinds long : List ℕ} {n : ℕ} {p : ListingRead} {depth : ℕ} (b : Output) → AsksListing n p → (p.cursor.fault ≡ 0 → ⊥)
    → StatementOver kinds long n p depth b p b
statement_stays {n = n} {p} {depth} b a f = record {
  moves = stay_listing n p a;
  further = λ z. absurd (f z);
  reads = λ ts holds. record {
    value = null;
    goes = λ S h fh γ κ o. from_stays ts S p.statements depth p.statements depth h h p.cursor p.cursor 0 0 (nt statement ∷ γ) γ κ
        (κ null) f refl refl;
    wrote = λ z. absurd (f z);
  };
}

-- no statement begins here
pub statement_refused : {kinds long : List ℕ} {n : ℕ} {p : ListingRead} {depth : ℕ} (b : Output) (k : ℕ) → AsksListing n p → p.cursor.fault ≡ 0
    → kind_in kinds n p.cursor.at ≡ k → (k ≡ 1 → ⊥) → (k ≡ 34 → ⊥) → (k ≡ 35 → ⊥) → (k ≡ 37 → ⊥) → (k ≡ 40 → ⊥)
    → StatementOver kinds long n p depth b (refuse_listing 3 p) b
statement_refused {n = n} {p} {depth} b k a z e f1 f2 f3 f4 f5 = record {
  moves = record {
    on = omega arith;
    inside = omega arith;
    room = omega arith;
    few = omega arith;
    more = omega arith;
    statements = omega arith;
    began = λ w. z;
  };
  further = λ w. absurd (three w);
  reads = λ ts holds.
      let q : (token_at ts p.cursor.at).kind ≡ k = sym (kind_is holds p.cursor.at) ∙ e in
      record {
        value = null;
        goes = λ S h fh γ κ o. refused_at_lem ts S p.statements depth h p.cursor 0 statement γ γ κ (κ null) p.statements depth 0 h
            (ap (pick (productions statement)) q ∙ no_statement k f1 f2 f3 f4 f5) z;
        wrote = λ w. absurd (three w);
      };
}
  where
    three : ◌≡◌ {A = ℕ} 3 0 → ⊥
    three w = omega arith

-- The loop: what comes after the first statement has grown by those read.
pub record Further (ts : List Token) (depth : ℕ) (p r : ListingRead) (before after : Output) : Type 0 where
  pub grow : Says more → Says more
  pub extra : List Entry
  pub grows : (f : Says more) (es : List Entry) → ((s : Stmt) → body_entries (f s) ≡ stmt_entries s ++ es) → (s : Stmt)
      → body_entries (grow f s) ≡ stmt_entries s ++ (extra ++ es)
  pub goes : (S : NonTerminal) (h : InHeading) → FineHeading h → (γ : List Sym) (φ : Says more → Fun γ (Says S)) → Ok (nt more ∷ γ)
      → from_listing ts S depth h p (nt more ∷ γ) φ ≡ from_listing ts S depth h r (nt more ∷ γ) (λ f. φ (grow f))
  pub wrote : r.cursor.fault ≡ 0 → WroteLines ts p.cursor.written p.statements r.cursor.written r.statements before after extra

pub record FurtherOver (kinds long : List ℕ) (n : ℕ) (p : ListingRead) (depth : ℕ) (before : Output) (r : ListingRead) (after : Output) : Type 0 where
  pub moves : MovesListing n p r
  pub reads : (ts : List Token) → Holds ts kinds long n → Further ts depth p r before after

pub further_none : {kinds long : List ℕ} {n : ℕ} {p : ListingRead} {depth : ℕ} (b : Output) → AsksListing n p → FurtherOver kinds long n p depth b p b
further_none {n = n} {p} b a = record {
  moves = stay_listing n p a;
  reads = λ ts holds. record {
    grow = λ f. f;
    extra = [];
    grows = λ f es h. h;
    goes = λ S h fh γ φ o. refl;
    wrote = λ z. lines_none ts p.cursor.written
        p.statements b;
  };
}

start_pos : (k : ℕ) → is_start k ≡ true → 0 < k
start_pos k h = go (eqb k 0) refl
  where
    go : (b : Bool) → eqb k 0 ≡ b → 0 < k
    go true e = absurd (let z : is_start 0 ≡ true = subst (λ (j : ℕ). is_start j ≡ true) (eqb-true k 0 e) h in let y : ◌≡◌ {A = ℕ} 0 1 = cc in omega arith)
    go false e = let f = eqb-false k 0 e in omega arith

-- one statement more
pub further_again : {kinds long : List ℕ} {n : ℕ} {p a r : ListingRead} {depth : ℕ} {before middle after : Output}
    → FurtherOver kinds long n p depth before a middle → is_start (kind_in kinds n a.cursor.at) ≡ true
    → StatementOver kinds long n a depth middle r after → FurtherOver kinds long n p depth before r after
unfolding compose body_entries
further_again {kinds} {long} {n} {p} {a} {r} {depth} {before} {middle} {after} u st v = record {
  moves = moves_listing u.moves v.moves;
  reads = λ ts holds.
      let x = u.reads ts holds in
      let y = v.reads ts holds in
      record {
        grow = λ f. x.grow (λ s. and_then s (f y.value));
        extra = x.extra ++ stmt_entries y.value;
        grows = λ f es h s.
            x.grows (λ t. and_then t (f y.value)) (stmt_entries y.value ++ es) (λ t. ap (λ (l : List Entry). stmt_entries t ++ l) (h y.value)) s
            ∙ ap (λ (l : List Entry). stmt_entries s ++ l) (sym (append_assoc x.extra (stmt_entries y.value) es));
        goes = λ S h fh γ φ o.
            let p : pick (productions more) (token_at ts a.cursor.at).kind ≡ take more_rule =
            ap (pick (productions more)) (sym (kind_is holds a.cursor.at)) ∙ pick_more (kind_in kinds n a.cursor.at) st in
            x.goes S h fh γ φ o
            ∙ (rule_at ts S a.statements depth h a.cursor 0 more γ (λ f. φ (x.grow f)) more_rule p
            (let z = holds.count in let w = kind_inside kinds n a.cursor.at (kind_in kinds n a.cursor.at) refl
            (start_pos (kind_in kinds n a.cursor.at) st) in omega arith)
            ∙ y.goes S h fh (nt more ∷ γ) (λ t f. φ (x.grow (λ s. and_then s (f t)))) (ok_of γ (pick_rule more_rule (token_at ts a.cursor.at).kind p) o));
        wrote = λ z. lines_then (x.wrote (v.moves.began z)) (y.wrote z);
      };
}

-- the list ends where no statement begins, or where the reader has refused
more_ends : {ts : List Token} {kinds long : List ℕ} {n : ℕ} (holds : Holds ts kinds long n) (r : ListingRead)
    → (r.cursor.fault ≡ 0 → is_start (kind_in kinds n r.cursor.at) ≡ false)
    → (S : NonTerminal) (l : ℕ) (h : InHeading) (γ : List Sym) (φ : Says more → Fun γ (Says S)) → Ok (nt more ∷ γ)
    → from_listing ts S l h r (nt more ∷ γ) φ ≡ from_listing ts S l h r γ (φ (λ s. only s))
unfolding productions
more_ends {ts} {kinds} {long} {n} holds r e S l h γ φ o = go (eqb r.cursor.fault 0) refl
  where
    go : (b : Bool) → eqb r.cursor.fault 0 ≡ b → from_listing ts S l h r (nt more ∷ γ) φ ≡ from_listing ts S l h r γ (φ (λ s. only s))
    go true z = left_at ts S r.statements l h r.cursor 0 more γ φ o (λ s. only s) here
        (λ t. subst T (starts_elem (token_at ts r.cursor.at).kind
        ∙ (ap is_start (sym (kind_is holds r.cursor.at))
        ∙ e (eqb-true r.cursor.fault 0 z))) t)
    go false z = from_stays ts S r.statements l r.statements l h h r.cursor r.cursor 0 0 (nt more ∷ γ) γ φ (φ (λ s. only s))
        (eqb-false r.cursor.fault 0 z) refl refl

pub body_read : {kinds long : List ℕ} {n : ℕ} {p a r : ListingRead} {depth : ℕ} {before middle after : Output} → StatementOver kinds long n p depth before a middle
    → FurtherOver kinds long n a depth middle r after
    → (r.cursor.fault ≡ 0 → is_start (kind_in kinds n r.cursor.at) ≡ false) → ReadsLinesOver body body_entries kinds long n p depth before r after
unfolding compose productions body_entries
body_read {kinds} {long} {n} {p} {a} {r} {depth} {before} {middle} {after} u v e = record {
  moves = moves_listing u.moves v.moves;
  reads = λ ts holds.
      let x = u.reads ts holds in
      let y = v.reads ts holds in
      let entries : body_entries (y.grow (λ s. only s) x.value) ≡ stmt_entries x.value ++ y.extra =
      y.grows (λ s. only s) [] (λ s. sym (append-nil (stmt_entries s))) x.value
      ∙ ap (λ (l : List Entry). stmt_entries x.value ++ l) (append-nil y.extra) in
      record {
        value = y.grow (λ s. only s) x.value;
        goes = λ S h fh γ κ o.
            let ok : Ok (nt statement ∷ nt more ∷ γ) = ok_of {r = nt statement ∷ nt more ∷ [] ↠ λ s f. f s} γ here o in
            into_at ts S p.statements depth h p.cursor 0 body statement (nt more ∷ []) (λ s f. f s) γ κ
            (into_statement (token_at ts p.cursor.at).kind)
            ∙ (x.goes S h fh (nt more ∷ γ) (λ s f. κ (f s)) ok
            ∙ (y.goes S h fh γ (λ f. κ (f x.value)) ok.2
            ∙ more_ends holds r e S depth h γ (λ f. κ (y.grow f x.value)) ok.2));
        wrote = λ z. subst (λ (l : List Entry). WroteLines ts p.cursor.written p.statements r.cursor.written r.statements before after l)
            (sym entries) (lines_then (x.wrote (v.moves.began z)) (y.wrote z));
      };
}

-- what has refused reads no list
pub body_ended : {kinds long : List ℕ} {n : ℕ} {p : ListingRead} {depth : ℕ} (b : Output) → AsksListing n p → (p.cursor.fault ≡ 0 → ⊥)
    → ReadsLinesOver body body_entries kinds long n p depth b p b
body_ended b a f = body_read (statement_stays b a f) (further_none b a) (λ z. absurd (f z))
