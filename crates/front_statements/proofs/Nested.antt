-- The returns of the readers of if and while statements and of an else part: each follows the grammar's reader by its laws. Assumes nothing.
use mathlib.Core.Path.{◌≡◌, refl, sym, ◌∙◌, ap, subst}
use mathlib.Core.List.{List, [], ◌∷◌, ◌++◌, append-nil}
use Prim.Native.Nat.{ℕ, ◌+◌, ◌<◌}
use native.Mathlib.Omega.{arith}
use native.Mathlib.Nat.{add-zero}
use borrow.Author.Tests.{ne_eqb}
use lib.ListN.{length}
use Rattle.spec_grammar.specs.Token.{Token}
use Rattle.base_codes.specs.Token.{SEMI, END, IF, THEN, LOOP}
use Rattle.spec_grammar.specs.Tree.{Expr, number, Body, null, if_then, if_else, while}
use Rattle.spec_grammar.specs.Grammar.{statement, expression, body, else_part, deeper, shallower, tk, nt, tok, productions}
use Rattle.spec_grammar.specs.Derivation.{here}
use Rattle.spec_grammar.specs.Reader.{compose, elem, first, pick, take}
use Rattle.spec_grammar.proofs.Steps.{Ok}
use Rattle.spec_grammar.proofs.Tables.{pick_rule}
use Rattle.front_layout.specs.Tokens.{token_at, kind_in, flag_in}
use Rattle.front_cursor.specs.Reading.{Read, expect_one}
use Rattle.front_cursor.proofs.Steps.{kind_is, kind_inside, from_stays, rule_at, left_at}
use Rattle.front_layout.specs.Postfix.{postfix}
use Rattle.front_layout.specs.Items.{Arrays, Wrote}
use Rattle.front_expressions.specs.Readers.{ReadsOver}
use Rattle.front_expressions.proofs.Primaries.{ok_of}
use Rattle.front_layout.specs.Entries.{entry, stmt_entries, body_entries}
use Rattle.front_layout.specs.Rows as R
use Rattle.front_layout.specs.Rows.{row, set_row, Output, WroteLines}
use Rattle.front_statements.specs.Listings.{ListingRead, HeadRead, listing, begin_at, AsksListing, MovesListing}
use Rattle.front_statements.specs.Readers.{first_of, ReadsLinesOver, StatementOver, ElseOver, OpeningOver}
use Rattle.front_layout.proofs.Lines.{lines_none, lines_then, lines_row}
use Rattle.front_statements.proofs.Steps.{Stepped, Took, Begun, asks_listing, moves_listing, stepped_asks, stepped_then, took_steps, took_plain}
use Rattle.front_statements.proofs.Steps.{took_deeper, took_shallower, begin_steps, begin_depth, begun_fresh, expression_at}
use Rattle.front_statements.proofs.Assignments.{expression_moves}
use Rattle.front_statements.proofs.Bodies.{stay_listing}
use Rattle.front_statements.proofs.Picks.{if_rule, while_rule, else_rule, pick_if, pick_while, pick_else}

-- no else part
pub else_none : {kinds long : List ℕ} {n : ℕ} {p : ListingRead} {depth : ℕ} (b : Output) → AsksListing n p → (kind_in kinds n p.cursor.at ≡ 39 → ⊥)
    → ElseOver kinds long n p depth b p b
unfolding productions first elem stmt_entries
else_none {n = n} {p} {depth} b a f = record {
  moves = stay_listing n p a;
  reads = λ ts holds. record {
    value = λ i e s. if_then i e s;
    extra = [];
    shape = λ i e s. rw (add-zero, append-nil);
    goes = λ S h fh γ κ o. left_at ts S p.statements depth h p.cursor 0 else_part γ κ o (λ i e s. if_then i e s) here
        (λ t. rw (ne_eqb (token_at ts p.cursor.at).kind 39 (λ z. f (kind_is holds p.cursor.at ∙ z))) at t);
    wrote = λ z. lines_none ts p.cursor.written p.statements b;
  };
}

-- else S
pub else_read : {kinds long : List ℕ} {n : ℕ} {p r : ListingRead} {a : Read} {depth : ℕ} {before after : Output} → AsksListing n p
    → kind_in kinds n p.cursor.at ≡ 39 → a ≡ expect_one kinds long n 39 p.cursor
    → ReadsLinesOver body body_entries kinds long n (listing a p.statements) depth before r after → ElseOver kinds long n p depth before r after
unfolding compose stmt_entries
else_read {kinds} {long} {n} {p} {r} {a} {depth} {before} {after} asks e ea b =
    let t = took_steps kinds long 39 (omega arith) asks ea in
    record {
      moves = moves_listing t.steps.moves b.moves;
      reads = λ ts holds.
          let x = b.reads ts holds in
          record {
            value = λ i v s. if_else i v s x.value;
            extra = body_entries x.value;
            shape = λ i v s. refl;
            goes = λ S h fh γ κ o.
                let pk : pick (productions else_part) (token_at ts p.cursor.at).kind ≡ take else_rule =
                ap (pick (productions else_part)) (sym (kind_is holds p.cursor.at) ∙ e) ∙ pick_else in
                rule_at ts S p.statements depth h p.cursor 0 else_part γ κ else_rule pk
                (let z = holds.count in let w = kind_inside kinds n p.cursor.at 39 e (omega arith) in omega arith)
                ∙ (took_plain holds asks 39 (omega arith) ea S h fh depth (nt body ∷ γ) (λ _ w. κ (λ i v s. if_else i v s w))
                ∙ x.goes S h fh γ (λ w. κ (λ i v s. if_else i v s w)) (ok_of γ (pick_rule else_rule (token_at ts p.cursor.at).kind pk) o));
            wrote = λ z. subst (λ (m : ℕ). WroteLines ts m p.statements r.cursor.written r.statements before after (body_entries x.value))
                (t.steps.same (b.moves.began z)) (x.wrote z);
          };
    }

-- the first token of a nested statement passes a limit
pub opening_refused : {kinds long : List ℕ} {n : ℕ} {p a : ListingRead} {depth : ℕ} (word to : ℕ) (b : Arrays) → kind_in kinds n p.cursor.at ≡ first_of word
    → AsksListing n p → p.cursor.at < n
    → a ≡ begin_at (flag_in long p.cursor.at) depth 0 p → (a.cursor.fault ≡ 0 → ⊥)
    → OpeningOver kinds long n p depth word b (record { listing = a; to = to }) b
opening_refused {kinds} {long} {n} {p} {a} {depth} word to b first asks inside ea f = record {
  first = first;
  asks = asks;
  moves = (begin_steps (flag_in long p.cursor.at) depth 0 asks inside (omega arith) ea).steps.moves;
  opened = λ z. absurd (f z);
  reads = λ ts holds. record {
    value = number (token_at ts 0);
    last = token_at ts 0;
    goes = λ k e S h fh γ κ o. begun_fresh holds asks k depth inside e S h fh ea (nt expression ∷ tk deeper word ∷ γ) κ
        ∙ from_stays ts S a.statements depth a.statements (depth + 1) h h a.cursor a.cursor 0 0 (nt expression ∷ tk deeper word ∷ γ) γ
        (κ (token_at ts p.cursor.at)) (κ (token_at ts p.cursor.at) (number (token_at ts 0)) (token_at ts 0)) f refl refl;
    wrote = λ z. absurd (f z);
  };
}

-- its opening is read
pub opening_read : {kinds long : List ℕ} {n : ℕ} {p a : ListingRead} {depth word : ℕ} {e t : Read} {m0 m1 : Arrays} → 0 < word
    → kind_in kinds n p.cursor.at ≡ first_of word → AsksListing n p
    → p.cursor.at < n → a ≡ begin_at (flag_in long p.cursor.at) depth 0 p → ReadsOver expression postfix kinds long n a.cursor 0 m0 e m1
    → t ≡ expect_one kinds long n word e
    → OpeningOver kinds long n p depth word m0 (record { listing = listing t a.statements; to = e.written }) m1
opening_read {kinds} {long} {n} {p} {a} {depth} {word} {e} {t} {m0} {m1} pos first asks inside ea reads et = record {
  first = first;
  asks = asks;
  moves = moves_listing beg.steps.moves rest;
  opened = λ z. let st = beg.one (rest.began z) in record {
    further = let m = rest in omega arith;
    one = st.1;
    written = tb.steps.same z;
    shallow = begin_depth p (flag_in long p.cursor.at) depth 0 ea (rest.began z);
  };
  reads = λ ts holds. record {
    value = (reads.reads ts holds).value;
    last = token_at ts e.at;
    goes = λ k ek S h fh γ κ o. begun_fresh holds asks k depth inside ek S h fh ea (nt expression ∷ tk deeper word ∷ γ) κ
        ∙ (expression_at holds a_asks reads S depth h fh (tk deeper word ∷ γ) (κ (token_at ts p.cursor.at)) o
        ∙ took_deeper holds u_asks word pos et S h fh depth γ (κ (token_at ts p.cursor.at) (reads.reads ts holds).value));
    wrote = λ z. subst (λ (m : ℕ). Wrote ts m e.written m0 m1 (postfix (reads.reads ts holds).value)) (beg.steps.same (rest.began z))
        ((reads.reads ts holds).wrote (tb.steps.moves.began z));
  };
}
  where
    beg : Begun n p a
    beg = begin_steps (flag_in long p.cursor.at) depth 0 asks inside (omega arith) ea

    a_asks : AsksListing n a
    a_asks = stepped_asks asks beg.steps

    mu : MovesListing n a (listing e a.statements)
    mu = expression_moves a_asks reads.moves

    u_asks : AsksListing n (listing e a.statements)
    u_asks = asks_listing a_asks mu

    tb : Took n (listing e a.statements) (listing t a.statements)
    tb = took_steps kinds long word pos u_asks et

    rest : MovesListing n a (listing t a.statements)
    rest = moves_listing mu tb.steps.moves

-- the opening of an if statement is refused
pub if_refused : {kinds long : List ℕ} {n : ℕ} {p : ListingRead} {o : HeadRead} {depth : ℕ} {m0 m1 : Arrays} (l : List ℕ)
    → kind_in kinds n p.cursor.at ≡ 37 → OpeningOver kinds long n p depth 38 m0 o m1 → (o.listing.cursor.fault ≡ 0 → ⊥)
    → StatementOver kinds long n p depth (R.output m0 l) o.listing (R.output m1 l)
unfolding compose
if_refused {kinds} {long} {n} {p} {o} {depth} l kp op f = record {
  moves = op.moves;
  further = λ z. absurd (f z);
  reads = λ ts holds.
      let w = op.reads ts holds in
      record {
        value = null;
        goes = λ S h fh γ κ ok.
            let pk : pick (productions statement) (token_at ts p.cursor.at).kind ≡ take if_rule =
            ap (pick (productions statement)) (sym (kind_is holds p.cursor.at) ∙ kp) ∙ pick_if in
            rule_at ts S p.statements depth h p.cursor 0 statement γ κ if_rule pk
            (let z = holds.count in let j = kind_inside kinds n p.cursor.at 37 kp (omega arith) in omega arith)
            ∙ (w.goes 37 kp S h fh (nt body ∷ nt else_part ∷ tk shallower END ∷ tok IF ∷ tok SEMI ∷ γ) (λ i v _ s g _ _ _. κ (g i v s))
            (ok_of γ (pick_rule if_rule (token_at ts p.cursor.at).kind pk) ok)
            ∙ from_stays ts S o.listing.statements (depth + 1) o.listing.statements depth h h o.listing.cursor o.listing.cursor 0 0
            (nt body ∷ nt else_part ∷ tk shallower END ∷ tok IF ∷ tok SEMI ∷ γ) γ (λ s g _ _ _. κ (g (token_at ts p.cursor.at) w.value s))
            (κ null) f refl refl);
        wrote = λ z. absurd (f z);
      };
}

-- the opening of a while statement is refused
pub while_refused : {kinds long : List ℕ} {n : ℕ} {p : ListingRead} {o : HeadRead} {depth : ℕ} {m0 m1 : Arrays} (l : List ℕ)
    → kind_in kinds n p.cursor.at ≡ 40 → OpeningOver kinds long n p depth 41 m0 o m1 → (o.listing.cursor.fault ≡ 0 → ⊥)
    → StatementOver kinds long n p depth (R.output m0 l) o.listing (R.output m1 l)
unfolding compose
while_refused {kinds} {long} {n} {p} {o} {depth} l kp op f = record {
  moves = op.moves;
  further = λ z. absurd (f z);
  reads = λ ts holds.
      let w = op.reads ts holds in
      record {
        value = null;
        goes = λ S h fh γ κ ok.
            let pk : pick (productions statement) (token_at ts p.cursor.at).kind ≡ take while_rule =
            ap (pick (productions statement)) (sym (kind_is holds p.cursor.at) ∙ kp) ∙ pick_while in
            rule_at ts S p.statements depth h p.cursor 0 statement γ κ while_rule pk
            (let z = holds.count in let j = kind_inside kinds n p.cursor.at 40 kp (omega arith) in omega arith)
            ∙ (w.goes 40 kp S h fh (nt body ∷ tk shallower END ∷ tok LOOP ∷ tok SEMI ∷ γ) (λ i v _ s _ _ _. κ (while i v s))
            (ok_of γ (pick_rule while_rule (token_at ts p.cursor.at).kind pk) ok)
            ∙ from_stays ts S o.listing.statements (depth + 1) o.listing.statements depth h h o.listing.cursor o.listing.cursor 0 0
            (nt body ∷ tk shallower END ∷ tok LOOP ∷ tok SEMI ∷ γ) γ (λ s _ _ _. κ (while (token_at ts p.cursor.at) w.value s)) (κ null) f refl refl);
        wrote = λ z. absurd (f z);
      };
}

-- if e then S else S end if ;
pub if_read : {kinds long : List ℕ} {n : ℕ} {p : ListingRead} {depth : ℕ} {o : HeadRead}
    {c d : ListingRead} {f g i : Read} {l l1 l2 l' : List ℕ} {m0 m1 m2 m3 : Arrays} → kind_in kinds n p.cursor.at ≡ 37
    → OpeningOver kinds long n p depth 38 m0 o m1
    → ReadsLinesOver body body_entries kinds long n o.listing (depth + 1) (R.output m1 l) c (R.output m2 l1)
    → ElseOver kinds long n c (depth + 1) (R.output m2 l1) d (R.output m3 l2)
    → f ≡ expect_one kinds long n 26 d.cursor → g ≡ expect_one kinds long n 37 f → i ≡ expect_one kinds long n 7 g
    → (i.fault ≡ 0 → l' ≡ set_row p.statements (row 3 p.cursor.at p.cursor.written o.to c.statements d.statements) l2)
    → StatementOver kinds long n p depth (R.output m0 l) (listing i d.statements) (R.output m3 l')
unfolding compose stmt_entries
if_read {kinds} {long} {n} {p} {depth} {o} {c} {d} {f} {g} {i} {l} {l1} {l2} {l'} {m0} {m1} {m2} {m3} kp op inner other ef eg ei el =
    record {
      moves = moves_listing op.moves rest;
      further = λ z. let y = (op.opened (rest.began z)).further in let m = rest in omega arith;
      reads = λ ts holds.
          let u = op.reads ts holds in
          let v : Expr = u.value in
          let x : Token = token_at ts p.cursor.at in
          let y = inner.reads ts holds in
          let s : Body = y.value in
          let w = other.reads ts holds in
          record {
            value = w.value x v s;
            goes = λ S h fh γ κ o.
                let pk : pick (productions statement) (token_at ts p.cursor.at).kind ≡ take if_rule =
                ap (pick (productions statement)) (sym (kind_is holds p.cursor.at) ∙ kp) ∙ pick_if in
                let ok : Ok (nt expression ∷ tk deeper THEN ∷ nt body ∷ nt else_part ∷ tk shallower END ∷ tok IF ∷ tok SEMI ∷ γ) =
                ok_of γ (pick_rule if_rule (token_at ts p.cursor.at).kind pk) o in
                rule_at ts S p.statements depth h p.cursor 0 statement γ κ if_rule pk (let z = holds.count in let j = inside in omega arith)
                ∙ (u.goes 37 kp S h fh (nt body ∷ nt else_part ∷ tk shallower END ∷ tok IF ∷ tok SEMI ∷ γ) (λ t v' _ s' g' _ _ _. κ (g' t v' s')) ok
                ∙ (y.goes S h fh (nt else_part ∷ tk shallower END ∷ tok IF ∷ tok SEMI ∷ γ) (λ s' g' _ _ _. κ (g' x v s')) ok.2
                ∙ (w.goes S h fh (tk shallower END ∷ tok IF ∷ tok SEMI ∷ γ) (λ g' _ _ _. κ (g' x v s)) ok.2.2
                ∙ (took_shallower holds d_asks 26 (omega arith) ef S h fh depth (tok IF ∷ tok SEMI ∷ γ) (λ _ _ _. κ (w.value x v s))
                ∙ (took_plain holds f_asks 37 (omega arith) eg S h fh depth (tok SEMI ∷ γ) (λ _ _. κ (w.value x v s))
                ∙ took_plain holds g_asks 7 (omega arith) ei S h fh depth γ (λ _. κ (w.value x v s)))))));
            wrote = λ z.
                let zd = end.moves.began z in
                let zc = other.moves.began zd in
                let zb = inner.moves.began zc in
                let st = op.opened zb in
                let bn = st.written in
                let bs = st.one in
                let own = u.wrote zb in
                let ins : WroteLines ts o.listing.cursor.written o.listing.statements d.cursor.written d.statements (R.output m1 l)
                (R.output m3 l2)
                (body_entries s ++ w.extra) = lines_then (y.wrote zc) (w.wrote zd) in
                let cs : c.statements ≡ p.statements + 1 + length (body_entries s) = (y.wrote zc).count ∙ ap (λ (m : ℕ). m + length (body_entries s)) bs in
                let ds : d.statements ≡ p.statements + 1 + (length (body_entries s) + length w.extra) = (let t = (w.wrote zd).count in omega arith) in
                let placed : WroteLines ts o.to (p.statements + 1) d.cursor.written d.statements (R.output m1 l) (R.output m3 l2)
                (body_entries s ++ w.extra) =
                subst (λ (m : ℕ). WroteLines ts o.to m d.cursor.written d.statements (R.output m1 l) (R.output m3 l2) (body_entries s ++ w.extra)) bs
                (subst (λ (m : ℕ). WroteLines ts m o.listing.statements d.cursor.written d.statements (R.output m1 l) (R.output m3 l2)
                (body_entries s ++ w.extra)) bn ins) in
                let sn : i.written ≡ d.cursor.written = end.same z in
                let all : WroteLines ts p.cursor.written p.statements d.cursor.written d.statements (R.output m0 l) (R.output m3 l')
                (entry 3 x (postfix v) (length (body_entries s)) (length (body_entries s) + length w.extra) ∷ (body_entries s ++ w.extra)) =
                lines_row {a = R.output m0 l} {b = R.output m1 l} {c = R.output m3 l2} 3 p.cursor.at (length (body_entries s))
                (length (body_entries s) + length w.extra) l' own refl placed (el z ∙ rw (ds, cs)) in
                rw (sn, w.shape x v s) all;
          };
    }
  where
    inside : p.cursor.at < n
    inside = kind_inside kinds n p.cursor.at 37 kp (omega arith)

    c_asks : AsksListing n c
    c_asks = asks_listing (asks_listing op.asks op.moves) inner.moves

    d_asks : AsksListing n d
    d_asks = asks_listing c_asks other.moves

    tk1 : Took n d (listing f d.statements)
    tk1 = took_steps kinds long 26 (omega arith) d_asks ef

    f_asks : AsksListing n (listing f d.statements)
    f_asks = stepped_asks d_asks tk1.steps

    tk2 : Took n (listing f d.statements) (listing g d.statements)
    tk2 = took_steps kinds long 37 (omega arith) f_asks eg

    g_asks : AsksListing n (listing g d.statements)
    g_asks = stepped_asks f_asks tk2.steps

    tk3 : Took n (listing g d.statements) (listing i d.statements)
    tk3 = took_steps kinds long 7 (omega arith) g_asks ei

    end : Stepped n d (listing i d.statements)
    end = stepped_then tk1.steps (stepped_then tk2.steps tk3.steps)

    rest : MovesListing n o.listing (listing i d.statements)
    rest = moves_listing inner.moves (moves_listing other.moves end.moves)

-- while e loop S end loop ;
pub while_read : {kinds long : List ℕ} {n : ℕ} {p : ListingRead} {depth : ℕ} {o : HeadRead}
    {c : ListingRead} {f g i : Read} {l l1 l' : List ℕ} {m0 m1 m2 : Arrays} → kind_in kinds n p.cursor.at ≡ 40
    → OpeningOver kinds long n p depth 41 m0 o m1
    → ReadsLinesOver body body_entries kinds long n o.listing (depth + 1) (R.output m1 l) c (R.output m2 l1)
    → f ≡ expect_one kinds long n 26 c.cursor → g ≡ expect_one kinds long n 41 f → i ≡ expect_one kinds long n 7 g
    → (i.fault ≡ 0 → l' ≡ set_row p.statements (row 5 p.cursor.at p.cursor.written o.to c.statements c.statements) l1)
    → StatementOver kinds long n p depth (R.output m0 l) (listing i c.statements) (R.output m2 l')
unfolding compose stmt_entries
while_read {kinds} {long} {n} {p} {depth} {o} {c} {f} {g} {i} {l} {l1} {l'} {m0} {m1} {m2} kp op inner ef eg ei el = record {
  moves = moves_listing op.moves rest;
  further = λ z. let y = (op.opened (rest.began z)).further in let m = rest in omega arith;
  reads = λ ts holds.
      let u = op.reads ts holds in
      let v : Expr = u.value in
      let x : Token = token_at ts p.cursor.at in
      let y = inner.reads ts holds in
      let s : Body = y.value in
      record {
        value = while x v s;
        goes = λ S h fh γ κ o.
            let pk : pick (productions statement) (token_at ts p.cursor.at).kind ≡ take while_rule =
            ap (pick (productions statement)) (sym (kind_is holds p.cursor.at) ∙ kp) ∙ pick_while in
            let ok : Ok (nt expression ∷ tk deeper LOOP ∷ nt body ∷ tk shallower END ∷ tok LOOP ∷ tok SEMI ∷ γ) =
            ok_of γ (pick_rule while_rule (token_at ts p.cursor.at).kind pk) o in
            rule_at ts S p.statements depth h p.cursor 0 statement γ κ while_rule pk (let z = holds.count in let j = inside in omega arith)
            ∙ (u.goes 40 kp S h fh (nt body ∷ tk shallower END ∷ tok LOOP ∷ tok SEMI ∷ γ) (λ t v' _ s' _ _ _. κ (while t v' s')) ok
            ∙ (y.goes S h fh (tk shallower END ∷ tok LOOP ∷ tok SEMI ∷ γ) (λ s' _ _ _. κ (while x v s')) ok.2
            ∙ (took_shallower holds c_asks 26 (omega arith) ef S h fh depth (tok LOOP ∷ tok SEMI ∷ γ) (λ _ _ _. κ (while x v s))
            ∙ (took_plain holds f_asks 41 (omega arith) eg S h fh depth (tok SEMI ∷ γ) (λ _ _. κ (while x v s))
            ∙ took_plain holds g_asks 7 (omega arith) ei S h fh depth γ (λ _. κ (while x v s))))));
        wrote = λ z.
            let zd = end.moves.began z in
            let zb = inner.moves.began zd in
            let st = op.opened zb in
            let bn = st.written in
            let bs = st.one in
            let own = u.wrote zb in
            let ins : WroteLines ts o.listing.cursor.written o.listing.statements c.cursor.written c.statements (R.output m1 l)
            (R.output m2 l1) (body_entries s) =
            y.wrote zd in
            let cs : c.statements ≡ p.statements + 1 + length (body_entries s) = (y.wrote zd).count ∙ ap (λ (m : ℕ). m + length (body_entries s)) bs in
            let placed : WroteLines ts o.to (p.statements + 1) c.cursor.written c.statements (R.output m1 l) (R.output m2 l1) (body_entries s) =
            subst (λ (m : ℕ). WroteLines ts o.to m c.cursor.written c.statements (R.output m1 l) (R.output m2 l1) (body_entries s)) bs
            (subst (λ (m : ℕ). WroteLines ts m o.listing.statements c.cursor.written c.statements (R.output m1 l) (R.output m2 l1)
            (body_entries s)) bn ins) in
            let sn : i.written ≡ c.cursor.written = end.same z in
            let all : WroteLines ts p.cursor.written p.statements c.cursor.written c.statements (R.output m0 l) (R.output m2 l')
            (entry 5 x (postfix v) (length (body_entries s)) (length (body_entries s)) ∷ (body_entries s)) =
            lines_row {a = R.output m0 l} {b = R.output m1 l} {c = R.output m2 l1} 5 p.cursor.at (length (body_entries s))
            (length (body_entries s)) l' own refl placed (el z ∙ rw cs) in
            rw sn all;
      };
}
  where
    inside : p.cursor.at < n
    inside = kind_inside kinds n p.cursor.at 40 kp (omega arith)

    c_asks : AsksListing n c
    c_asks = asks_listing (asks_listing op.asks op.moves) inner.moves

    tk1 : Took n c (listing f c.statements)
    tk1 = took_steps kinds long 26 (omega arith) c_asks ef

    f_asks : AsksListing n (listing f c.statements)
    f_asks = stepped_asks c_asks tk1.steps

    tk2 : Took n (listing f c.statements) (listing g c.statements)
    tk2 = took_steps kinds long 41 (omega arith) f_asks eg

    g_asks : AsksListing n (listing g c.statements)
    g_asks = stepped_asks f_asks tk2.steps

    tk3 : Took n (listing g c.statements) (listing i c.statements)
    tk3 = took_steps kinds long 7 (omega arith) g_asks ei

    end : Stepped n c (listing i c.statements)
    end = stepped_then tk1.steps (stepped_then tk2.steps tk3.steps)

    rest : MovesListing n o.listing (listing i c.statements)
    rest = moves_listing inner.moves end.moves

-- what has refused reads no else part
pub else_ended : {kinds long : List ℕ} {n : ℕ} {p : ListingRead} {depth : ℕ} (b : Output) → AsksListing n p → (p.cursor.fault ≡ 0 → ⊥)
    → ElseOver kinds long n p depth b p b
unfolding stmt_entries
else_ended {n = n} {p} {depth} b a f = record {
  moves = stay_listing n p a;
  reads = λ ts holds. record {
    value = λ i e s. if_then i e s;
    extra = [];
    shape = λ i e s. rw (add-zero, append-nil);
    goes = λ S h fh γ κ o. from_stays ts S p.statements depth p.statements depth h h p.cursor p.cursor 0 0 (nt else_part ∷ γ) γ κ
        (κ (λ i e s. if_then i e s)) f refl refl;
    wrote = λ z. absurd (f z);
  };
}
