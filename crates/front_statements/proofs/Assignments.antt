-- The return of the reader of assignments: it follows the grammar's reader by its laws. Assumes nothing.
use mathlib.Core.Path.{◌≡◌, refl, sym, ◌∙◌, ap, subst}
use mathlib.Core.Bool.{Bool, true, false}
use mathlib.Core.List.{List, [], ◌∷◌}
use Prim.Native.Nat.{ℕ, ◌+◌, ◌<◌}
use native.Mathlib.Omega.{arith}
use borrow.Author.Tests.{ne_eqb, le-ltb, eqb-true, eqb-false}
use lib.Dec.{eqb}
use lib.ListN.{length}
use Rattle.spec_grammar.specs.Token.{Token}
use Rattle.base_codes.specs.Token.{SEMI, BECOMES, LE}
use Rattle.spec_grammar.specs.Tree.{Expr, Stmt, number, output, assign}
use Rattle.spec_grammar.specs.Grammar.{NonTerminal, statement, target, expression, Says, fresh, Sym, nt, tok, Fun, productions}
use Rattle.spec_grammar.specs.Meter.{InHeading, tick, over}
use Rattle.spec_grammar.specs.Reader.{choose, compose, pick, take}
use Rattle.spec_grammar.proofs.Steps.{Ok}
use Rattle.spec_grammar.proofs.Tables.{pick_rule}
use Rattle.front_layout.specs.Tokens.{token_at, no_token, kind_in, flag_in, Holds}
use Rattle.front_cursor.specs.declared.Unread.{Unread}
use Rattle.front_cursor.specs.Reading.{Read, unread, meter, from, Fine, Moves, refuse, expect_one}
use Rattle.front_cursor.proofs.Steps.{unread_ends, expect_ended, kind_is, kind_inside, from_stays, rule_at, refused_at_lem, token_taken}
use Rattle.front_layout.specs.Postfix.{postfix}
use Rattle.front_layout.specs.Items.{Arrays, Wrote}
use Rattle.front_expressions.specs.Readers.{ReadsOver}
use Rattle.front_expressions.proofs.Primaries.{ok_of, reads_stays}
use Rattle.front_layout.specs.Entries.{entry, stmt_entries}
use Rattle.front_layout.specs.Rows as R
use Rattle.front_layout.specs.Rows.{row, set_row}
use Rattle.front_statements.specs.Listings.{ListingRead, listing, renew, fresh_at, is_assigning, row_kind, from_listing, begin_at, FineHeading, AsksListing}
use Rattle.front_statements.specs.Listings.{MovesListing}
use Rattle.front_statements.specs.Readers.{StatementOver}
use Rattle.front_statements.proofs.Steps.{fine, cursor_asks, statement_halted, Stepped, Took, Begun, asks_listing, moves_listing, stepped_asks, took_steps, took_plain, begin_steps, begun_stmt}
use Rattle.front_statements.proofs.Steps.{expression_at}
use Rattle.front_statements.proofs.Picks.{assignment_rule, output_rule, variable_rule, pick_assignment, pick_output, pick_variable, no_target}
use Rattle.front_statements.proofs.Simple.{wrote_simple}

-- the statement that the operator makes
abbrev pub making : ℕ → Token → Expr → Stmt
making k x e = choose (eqb k 16) (output x e) (assign x e)

making_entries : (k : ℕ) (x : Token) (e : Expr) → stmt_entries (making k x e) ≡ entry (row_kind k) x (postfix e) 0 0 ∷ []
unfolding stmt_entries
making_entries k x e = go (eqb k 16)
  where
    go : (b : Bool) → stmt_entries (choose b (output x e) (assign x e)) ≡ entry (choose b 1 2) x (postfix e) 0 0 ∷ []
    go true = refl
    go false = refl

over_fresh : (i s l : ℕ) (h : InHeading) → Fine s h → (k : ℕ) (x : Token) → x.kind ≡ k → (k ≡ 1 → ⊥) → (k ≡ 2 → ⊥)
    → over (tick (meter i 0 s l h) fresh x) ≡ false
unfolding over tick
over_fresh i s l h f k x e a b =
    rw (
      le-ltb 17 h.inputs f.inputs,
      le-ltb 16 h.outputs f.outputs,
      le-ltb 32 h.vars f.vars,
      le-ltb 512 s
          f.statements,
      e,
      ne_eqb k 1 a,
      ne_eqb k 2 b,
    )

-- <= or :=, or neither
pub target_at : {ts : List Token} {kinds long : List ℕ} {n : ℕ} → Holds ts kinds long n → {a : ListingRead} {b : Read} (k : ℕ) → AsksListing n a
    → kind_in kinds n a.cursor.at ≡ k → b ≡ fresh_at (is_assigning k) a.cursor
    → (S : NonTerminal) (l : ℕ) (h : InHeading) → FineHeading h → (γ : List Sym) (κ : (Token → Stmt) → Fun γ (Says S))
    → from_listing ts S l h a (nt target ∷ γ) κ ≡ from_listing ts S l h (listing b a.statements) (nt expression ∷ tok SEMI ∷ γ) (λ e _. κ (λ o. making k o e))
unfolding compose fresh_at tick
target_at {ts} {kinds} {long} {n} holds {a} {b} k asks e eb S l h f γ κ = go (eqb a.cursor.fault 0) refl (eqb k 16) refl (eqb k 10) refl eb
  where
    δ : List Sym
    δ = nt expression ∷ tok SEMI ∷ γ

    kind : (token_at ts a.cursor.at).kind ≡ k
    kind = sym (kind_is holds a.cursor.at) ∙ e

    inside : 0 < k → a.cursor.at < length ts
    inside pos = let z = holds.count in let w = kind_inside kinds n a.cursor.at k e pos in omega arith

    go : (w : Bool) → eqb a.cursor.fault 0 ≡ w → (u : Bool) → eqb k 16 ≡ u → (v : Bool) → eqb k 10 ≡ v
        → b ≡ choose w (choose (choose u true v) (renew a.cursor) (refuse 3 a.cursor)) a.cursor
        → from_listing ts S l h a (nt target ∷ γ) κ ≡ from_listing ts S l h (listing b a.statements) (nt expression ∷ tok SEMI ∷ γ)
        (λ e _. κ (λ o. choose u (output o e) (assign o e)))
    go false w u x v y z = subst (λ (r : Read). from_listing ts S l h a (nt target ∷ γ) κ ≡ from ts S a.statements l h r 0 δ
        (λ e _. κ (λ o. choose u (output o e) (assign o e)))) (sym z)
        (from_stays ts S a.statements l a.statements l h h a.cursor a.cursor 0 0 (nt target ∷ γ) δ κ
        (λ e _. κ (λ o. choose u (output o e) (assign o e))) (eqb-false a.cursor.fault 0 w) refl refl)
    go true w true x v y z =
        let k16 : k ≡ 16 = eqb-true k 16 x in
        let i : a.cursor.at < length ts = inside (omega arith) in
        subst (λ (r : Read). from_listing ts S l h a (nt target ∷ γ) κ ≡ from ts S a.statements l h r 0 δ (λ e _. κ (λ o. output o e))) (sym z)
        (rule_at ts S a.statements l h a.cursor 0 target γ κ output_rule (ap (pick (productions target)) (kind ∙ k16) ∙ pick_output) i
        ∙ token_taken ts S a.statements l h a.cursor 0 fresh LE δ (λ _ e _. κ (λ o. output o e)) (renew a.cursor) a.statements l 0 h (kind ∙ k16) i
        (eqb-true a.cursor.fault 0 w)
        (over_fresh a.cursor.items a.statements l h (fine f asks.statements) 16 (token_at ts a.cursor.at) (kind ∙ k16) (λ q. omega arith)
        (λ q. omega arith)) refl (eqb-true a.cursor.fault 0 w) refl)
    go true w false x true y z =
        let k10 : k ≡ 10 = eqb-true k 10 y in
        let i : a.cursor.at < length ts = inside (omega arith) in
        subst (λ (r : Read). from_listing ts S l h a (nt target ∷ γ) κ ≡ from ts S a.statements l h r 0 δ (λ e _. κ (λ o. assign o e))) (sym z)
        (rule_at ts S a.statements l h a.cursor 0 target γ κ variable_rule (ap (pick (productions target)) (kind ∙ k10) ∙ pick_variable) i
        ∙ token_taken ts S a.statements l h a.cursor 0 fresh BECOMES δ (λ _ e _. κ (λ o. assign o e)) (renew a.cursor) a.statements l 0 h
        (kind ∙ k10) i (eqb-true a.cursor.fault 0 w)
        (over_fresh a.cursor.items a.statements l h (fine f asks.statements) 10 (token_at ts a.cursor.at) (kind ∙ k10) (λ q. omega arith)
        (λ q. omega arith)) refl (eqb-true a.cursor.fault 0 w) refl)
    go true w false x false y z = subst (λ (r : Read). from_listing ts S l h a (nt target ∷ γ) κ ≡ from ts S a.statements l h r 0 δ
        (λ e _. κ (λ o. assign o e))) (sym z)
        (refused_at_lem ts S a.statements l h a.cursor 0 target γ δ κ (λ e _. κ (λ o. assign o e)) a.statements l 0 h
        (no_target (token_at ts a.cursor.at).kind (λ q. eqb-false k 16 x (sym kind ∙ q)) (λ q. eqb-false k 10 y (sym kind ∙ q)))
        (eqb-true a.cursor.fault 0 w))

pub fresh_steps : {n : ℕ} {a : ListingRead} {b : Read} (t : Bool) → AsksListing n a → (t ≡ true → a.cursor.at < n) → b ≡ fresh_at t a.cursor
    → Took n a (listing b a.statements)
unfolding fresh_at
fresh_steps {n} {a} {b} t asks i e = go (eqb a.cursor.fault 0) refl t refl e
  where
    go : (w : Bool) → eqb a.cursor.fault 0 ≡ w → (u : Bool) → t ≡ u → b ≡ choose w (choose u (renew a.cursor) (refuse 3 a.cursor)) a.cursor
        → Took n a (listing b a.statements)
    go false w u tu z = subst (λ (r : Read). Took n a (listing r a.statements)) (sym z)
        (record {
          steps = record {
            moves = record
                { on = omega arith; inside = omega arith; room = omega arith; few = omega arith; more = omega arith; statements = omega arith; began = λ y. y };
            same = λ y. refl;
          };
          statements = refl;
        })
    go true w true tu z = let g = i tu in subst (λ (r : Read). Took n a (listing r a.statements)) (sym z)
        (record {
          steps = record {
            moves = record
                { on = omega arith; inside = omega arith; room = omega arith; few = omega arith; more = omega arith; statements = omega arith; began = λ y. y };
            same = λ y. refl;
          };
          statements = refl;
        })
    go true w false tu z = subst (λ (r : Read). Took n a (listing r a.statements)) (sym z)
        (record {
          steps = record {
            moves = record {
              on = omega arith;
              inside = omega arith;
              room = omega arith;
              few = omega arith;
              more = omega arith;
              statements = omega arith;
              began = λ y. eqb-true
                  a.cursor.fault 0 w;
            };
            same = λ y. absurd (let g : ◌≡◌ {A = ℕ} 3 0 = y in omega arith);
          };
          statements = refl;
        })

-- what has refused takes no operator
pub fresh_ended : (t : Bool) (e : Unread) → unread e ≡ fresh_at t (unread e)
unfolding fresh_at
fresh_ended t e = rw (ne_eqb (unread e).fault 0 (unread_ends e))

pub assigning_inside : (kinds : List ℕ) (n at k : ℕ) → kind_in kinds n at ≡ k → is_assigning k ≡ true → at < n
assigning_inside kinds n at k e z = go (eqb k 16) refl (eqb k 10) refl z
  where
    go : (u : Bool) → eqb k 16 ≡ u → (v : Bool) → eqb k 10 ≡ v → choose u true v ≡ true → at < n
    go true u v w y = kind_inside kinds n at k e (let g = eqb-true k 16 u in omega arith)
    go false u true w y = kind_inside kinds n at k e (let g = eqb-true k 10 w in omega arith)
    go false u false w y = absurd (let g : ◌≡◌ {A = ℕ} 0 1 = cc in omega arith)

-- an expression at a place
pub expression_moves : {n : ℕ} {b : ListingRead} {e : Read} → AsksListing n b → Moves n b.cursor e → MovesListing n b (listing e b.statements)
expression_moves a m = record { on = m.on; inside = m.inside; room = m.room; few = m.few; more = omega arith; statements = a.statements; began = m.began }

-- o <= e ;   v := e ;
pub assignment_read : {kinds long : List ℕ} {n : ℕ} {p : ListingRead} {depth : ℕ} → AsksListing n p
    → {a : ListingRead} {b d e : Read} {k : ℕ} {l l' : List ℕ} {before after : Arrays} → kind_in kinds n p.cursor.at ≡ 1
    → a ≡ begin_at (flag_in long p.cursor.at) depth p.cursor.items p → k ≡ kind_in kinds n a.cursor.at → b ≡ fresh_at (is_assigning k) a.cursor
    → ReadsOver expression postfix kinds long n b 0 before e after
    → d ≡ expect_one kinds long n 7 e → (d.fault ≡ 0 → l' ≡ set_row p.statements
    (row (row_kind k) p.cursor.at p.cursor.written e.written (p.statements + 1) (p.statements + 1)) l)
    → StatementOver kinds long n p depth (R.output before l) (listing d a.statements) (R.output after l')
unfolding compose
assignment_read {kinds} {long} {n} {p} {depth} asks {a} {b} {d} {e} {k} {l} {l'} {before} {after} kp ea ek eb reads ed el = record {
  moves = moves_listing beg.steps.moves rest;
  further = λ z. let g = beg.one (rest.began z) in let m = rest in omega arith;
  reads = λ ts holds.
      let v : Expr = (reads.reads ts holds).value in
      let x : Token = token_at ts p.cursor.at in
      record {
        value = making k x v;
        goes = λ S h f γ κ o.
            let i : p.cursor.at < length ts = (let z = holds.count in let w = inside in omega arith) in
            let pk : pick (productions statement) (token_at ts p.cursor.at).kind ≡ take assignment_rule =
            ap (pick (productions statement)) (sym (kind_is holds p.cursor.at) ∙ kp) ∙ pick_assignment in
            let ot : Ok (nt target ∷ γ) = ok_of γ (pick_rule assignment_rule (token_at ts p.cursor.at).kind pk) o in
            rule_at ts S p.statements depth h p.cursor 0 statement γ κ assignment_rule pk i
            ∙ (begun_stmt holds asks 1 depth inside kp S h f ea (nt target ∷ γ) (λ t g. κ (g t))
            ∙ (target_at holds k a_asks (sym ek) eb S depth h f γ (λ g. κ (g x))
            ∙ (expression_at holds b_asks reads S depth h f (tok SEMI ∷ γ) (λ u _. κ (making k x u)) (ok_of γ (pick_rule output_rule LE pick_output) ot)
            ∙ took_plain holds c_asks 7 (omega arith) ed S h f depth γ (λ _. κ (making k x v)))));
        wrote = λ z.
            let g = beg.one (rest.began z) in
            let sn : b.written ≡ p.cursor.written = tb.steps.same (mc.began (td.steps.moves.began z)) ∙ beg.steps.same (rest.began z) in
            let dn : d.written ≡ e.written = td.steps.same z in
            let ss : a.statements ≡ p.statements + 1 = g.1 in
            let w : Wrote ts p.cursor.written e.written before after (postfix v) =
            subst (λ (m : ℕ). Wrote ts m e.written before after (postfix v)) sn ((reads.reads ts holds).wrote (td.steps.moves.began z)) in
            rw (dn, ss, making_entries k x v) (wrote_simple (row_kind k) p.cursor.at l l' w (el z));
      };
}
  where
    inside : p.cursor.at < n
    inside = kind_inside kinds n p.cursor.at 1 kp (omega arith)

    beg : Begun n p a
    beg = begin_steps (flag_in long p.cursor.at) depth p.cursor.items asks inside asks.few ea

    a_asks : AsksListing n a
    a_asks = stepped_asks asks beg.steps

    tb : Took n a (listing b a.statements)
    tb = fresh_steps (is_assigning k) a_asks (λ z. assigning_inside kinds n a.cursor.at k (sym ek) z) eb

    b_asks : AsksListing n (listing b a.statements)
    b_asks = stepped_asks a_asks tb.steps

    mc : MovesListing n (listing b a.statements) (listing e a.statements)
    mc = expression_moves b_asks reads.moves

    c_asks : AsksListing n (listing e a.statements)
    c_asks = asks_listing b_asks mc

    td : Took n (listing e a.statements) (listing d a.statements)
    td = took_steps kinds long 7 (omega arith) c_asks ed

    rest : MovesListing n a (listing d a.statements)
    rest = moves_listing tb.steps.moves (moves_listing mc td.steps.moves)

-- an assignment that was refused before its expression
pub assignment_refused : {kinds long : List ℕ} {n : ℕ} {p : ListingRead} {depth : ℕ} → AsksListing n p
    → {a : ListingRead} {k : ℕ} (l : List ℕ) (x : Arrays) (e : Unread) → kind_in kinds n p.cursor.at ≡ 1
    → a ≡ begin_at (flag_in long p.cursor.at) depth p.cursor.items p → k ≡ kind_in kinds n a.cursor.at
    → unread e ≡ fresh_at (is_assigning k) a.cursor
    → StatementOver kinds long n p depth (R.output x l) (listing (unread e) p.statements) (R.output x l)
assignment_refused {kinds} {long} {n} {p} {depth} asks {a} {k} l x e kp ea ek eb =
    statement_halted a.statements e asks (assignment_read asks kp ea ek eb
    (reads_stays expression postfix (number no_token) x (cursor_asks (stepped_asks a_asks steps)) (unread_ends e))
    (expect_ended kinds long n 7 e) (λ z. absurd (unread_ends e z)))
  where
    a_asks : AsksListing n a
    a_asks = stepped_asks asks (begin_steps (flag_in long p.cursor.at) depth p.cursor.items asks
        (kind_inside kinds n p.cursor.at 1 kp (omega arith)) asks.few ea).steps

    steps : Stepped n a (listing (unread e) a.statements)
    steps = (fresh_steps (is_assigning k) a_asks (λ z. assigning_inside kinds n a.cursor.at k (sym ek) z) eb).steps
