-- The returns of the readers of the three parts of a text: each follows the grammar's reader by the laws of its pieces. Assumes nothing.
use mathlib.Core.Path.{◌≡◌, refl, sym, ◌∙◌, ap, subst}
use mathlib.Core.Bool.{Bool, true, false}
use mathlib.Core.List.{List, [], ◌∷◌, ◌++◌}
use Prim.Native.Nat.{ℕ, ◌≤◌}
use native.Mathlib.Omega.{arith}
use Rattle.base_codes.specs.Token.{NAME, LP, RP, SEMI, ENTITY, IS, PORT, END, ARCHITECTURE, OF, BEGIN, PROCESS}
use Rattle.spec_grammar.specs.Token.{Token}
use Rattle.spec_grammar.specs.Tree.{null, only}
use Rattle.spec_grammar.specs.Grammar.{NonTerminal, ports, vars, body, Says, Sym, nt, tok, Fun}
use Rattle.front_layout.specs.Tokens.{token_at, Holds}
use Rattle.front_cursor.specs.declared.Unread.{Unread}
use Rattle.front_cursor.specs.Reading.{Read, unread, from, Asks, expect_one}
use Rattle.front_cursor.proofs.Steps.{asks_then, from_stays, unread_ends}
use Rattle.front_declarations.specs.Headers.{HeaderRead, heading_of, header_at, from_header, AsksHeader}
use Rattle.front_layout.specs.Headings.{groups_names}
use Rattle.front_declarations.specs.Readers.{AsksGroup, PortsOver, VariablesOver}
use Rattle.front_declarations.proofs.Steps.{stay_header, from_halted, fine, cursor_asks, asks_header}
use Rattle.front_layout.specs.Entries.{body_entries}
use Rattle.front_layout.specs.Rows.{Output, WroteLines}
use Rattle.front_declarations.proofs.GroupLists.{variables_none, variables_read}
use Rattle.front_statements.specs.Listings.{ListingRead, listing, AsksListing}
use Rattle.front_statements.specs.Readers.{ReadsLinesOver}
use Rattle.front_statements.proofs.Steps as statements
use Rattle.front_parser.specs.Runs.{start, heading_at, expect_all, positive, toks, feed}
use Rattle.front_parser.specs.Parts.{entity_kinds, entity_end_kinds, architecture_kinds, end_kinds, EntityOver, ArchitectureOver, ProcessOver}
use Rattle.front_parser.proofs.RunLaws.{Ran, ran_eq, all_taken}

pub start_asks : {n : ℕ} → n ≤ 16384 → Asks n start
start_asks h = record { short = h; inside = omega arith; room = omega arith; few = omega arith }

-- a run of tokens at a place of the heading
pub run_header : {n : ℕ} {ks : List ℕ} {p : HeaderRead} {q : Read} → AsksHeader n p → Ran n ks p.cursor q → AsksHeader n (header_at q p)
run_header a r = let m = r.moves in
    record {
      short = a.short;
      inside = m.inside;
      room = omega arith;
      few = m.few;
      waiting = omega arith;
      inputs = a.inputs;
      outputs = a.outputs;
      vars = a.vars;
    }

pub run_header_at : {n : ℕ} {ks : List ℕ} {p r : HeaderRead} {q : Read} → AsksHeader n p → Ran n ks p.cursor q → r ≡ header_at q p → AsksHeader n r
run_header_at {n} a r e = subst (λ (v : HeaderRead). AsksHeader n v) (sym e) (run_header a r)

heading_asks : {n : ℕ} {q : Read} → Asks n q → AsksHeader n (heading_at q)
heading_asks a = record {
  short = a.short;
  inside = a.inside;
  room = a.room;
  few = a.few;
  waiting = omega arith;
  inputs = omega arith;
  outputs = omega arith;
  vars = omega arith;
}

pub group_of : {n : ℕ} {q : Read} → Asks n q → AsksGroup n (heading_at q)
group_of a = record { asks = heading_asks a; none = λ z. refl }

pub halted_asks : {n : ℕ} (p : HeaderRead) (e : Unread) → AsksHeader n (header_at (unread e) p) → AsksHeader n (header_at (unread e) (heading_at start))
halted_asks p e a = heading_asks (record { short = a.short; inside = a.inside; room = a.room; few = a.few })

-- the grammar's reader over a run in the heading
run_at : {ts : List Token} {kinds long : List ℕ} {n : ℕ} → Holds ts kinds long n → (ks : List ℕ) → positive ks ≡ true → {p : HeaderRead} {c : Read} (b : Bool)
    → AsksHeader n p → c ≡ expect_all kinds long n ks p.cursor → (S : NonTerminal) (γ : List Sym) (κ : Fun (toks ks ++ γ) (Says S))
    → from_header ts S b p (toks ks ++ γ) κ ≡ from_header ts S b (header_at c p) γ (feed ts p.cursor.at S γ ks κ)
run_at {ts} holds ks pos {p} {c} b a e S γ κ =
    all_taken holds S 0 1 (heading_of b p) (fine b a) ks pos p.cursor (cursor_asks a) γ κ
    ∙ ap (λ (v : Read). from ts S 0 1 (heading_of b p) v 0 γ (feed ts p.cursor.at S γ ks κ)) (sym e)

pub entity_read : {kinds long : List ℕ} {n : ℕ} {a c e f : Read} {d r : HeaderRead} {before after : List ℕ} → n ≤ 16384
    → a ≡ expect_one kinds long n ENTITY start → c ≡ expect_all kinds long n (NAME ∷ IS ∷ PORT ∷ LP ∷ []) a
    → PortsOver ports groups_names kinds long n (heading_at c) before d after → e ≡ expect_all kinds long n (RP ∷ SEMI ∷ END ∷ []) d.cursor
    → f ≡ expect_all kinds long n (NAME ∷ SEMI ∷ []) e → r ≡ header_at f d
    → EntityOver kinds long n before (record { header = r; name = a.at; end = e.at }) after
unfolding expect_all
entity_read {kinds} {long} {n} {a} {c} {e} {f} {d} {r} {before} {after} short ea et v ee ef er = rw er (record {
  asks = run_header d_asks fr;
  none = let x = fr.less in let y = v.moves.less in let w = cr.less in omega arith;
  reads = λ ts holds.
      let x = v.reads ts holds in
      record {
        groups = x.value;
        at = d.cursor.at;
        named = λ w.
            let we = lr.moves.began w in
            let g = ar.end (tr.moves.began (v.moves.began (kr.moves.began we))) in
            (g, kr.end we);
        goes = λ S γ κ o.
            run_at holds entity_kinds refl {p = heading_at start} false (heading_asks z_asks) ec' S (nt ports ∷ (toks entity_end_kinds ++ γ)) κ
            ∙ (x.goes S (toks entity_end_kinds ++ γ) (feed ts 0 S (nt ports ∷ (toks entity_end_kinds ++ γ)) entity_kinds κ) o
            ∙ run_at holds entity_end_kinds refl false d_asks ef' S γ (feed ts 0 S (nt ports ∷ (toks entity_end_kinds ++ γ)) entity_kinds κ x.value));
        wrote = λ w. x.wrote (fr.moves.began w);
      };
})
  where
    z_asks : Asks n start
    z_asks = start_asks short

    ec' : c ≡ expect_all kinds long n entity_kinds start
    ec' = et ∙ ap (expect_all kinds long n (NAME ∷ IS ∷ PORT ∷ LP ∷ [])) ea

    ar : Ran n (ENTITY ∷ []) start a
    ar = ran_eq kinds long ea refl z_asks

    a_asks : Asks n a
    a_asks = asks_then z_asks ar.moves

    tr : Ran n (NAME ∷ IS ∷ PORT ∷ LP ∷ []) a c
    tr = ran_eq kinds long et refl a_asks

    cr : Ran n entity_kinds start c
    cr = ran_eq kinds long ec' refl z_asks

    c_asks : Asks n c
    c_asks = asks_then z_asks cr.moves

    d_asks : AsksHeader n d
    d_asks = asks_header (heading_asks c_asks) v.moves

    kr : Ran n (RP ∷ SEMI ∷ END ∷ []) d.cursor e
    kr = ran_eq kinds long ee refl (cursor_asks d_asks)

    e_asks : Asks n e
    e_asks = cursor_asks (run_header d_asks kr)

    lr : Ran n (NAME ∷ SEMI ∷ []) e f
    lr = ran_eq kinds long ef refl e_asks

    ef' : f ≡ expect_all kinds long n entity_end_kinds d.cursor
    ef' = ef ∙ ap (expect_all kinds long n (NAME ∷ SEMI ∷ [])) ee

    fr : Ran n entity_end_kinds d.cursor f
    fr = ran_eq kinds long ef' refl (cursor_asks d_asks)

-- `architecture A of E is begin process`: where the variables begin
words_all : (kinds long : List ℕ) (n : ℕ) (q : Read) {a b c d : Read} → a ≡ expect_one kinds long n ARCHITECTURE q
    → b ≡ expect_all kinds long n (NAME ∷ OF ∷ []) a → c ≡ expect_all kinds long n (NAME ∷ IS ∷ BEGIN ∷ []) b → d ≡ expect_one kinds long n PROCESS c
    → d ≡ expect_all kinds long n architecture_kinds q
unfolding expect_all
words_all kinds long n q ea eb ec ed = ed
    ∙ ap (expect_one kinds long n PROCESS) (ec ∙ ap (expect_all kinds long n (NAME ∷ IS ∷ BEGIN ∷ [])) (eb ∙ ap (expect_all kinds long n (NAME ∷ OF ∷ [])) ea))

pub words_asks : (kinds long : List ℕ) {n : ℕ} {a b c d : Read} {p h : HeaderRead} → AsksHeader n p → a ≡ expect_one kinds long n ARCHITECTURE p.cursor
    → b ≡ expect_all kinds long n (NAME ∷ OF ∷ []) a → c ≡ expect_all kinds long n (NAME ∷ IS ∷ BEGIN ∷ []) b
    → d ≡ expect_one kinds long n PROCESS c → h ≡ header_at d p → AsksHeader n h
words_asks kinds long {n} {p = p} p-asks ea eb ec ed eh =
    run_header_at p-asks (ran_eq kinds long {ks = architecture_kinds} (words_all kinds long n p.cursor ea eb ec ed) refl (cursor_asks p-asks)) eh

pub architecture_read : {kinds long : List ℕ} {n : ℕ} {a b c d f : Read} {p h e r : HeaderRead} {before after : List ℕ} → AsksHeader n p
    → a ≡ expect_one kinds long n ARCHITECTURE p.cursor → b ≡ expect_all kinds long n (NAME ∷ OF ∷ []) a
    → c ≡ expect_all kinds long n (NAME ∷ IS ∷ BEGIN ∷ []) b → d ≡ expect_one kinds long n PROCESS c → h ≡ header_at d p
    → VariablesOver kinds long n h before e after → f ≡ expect_one kinds long n BEGIN e.cursor → r ≡ header_at f e
    → ArchitectureOver kinds long n p before (record { header = r; name = a.at; of = b.at; process = c.at }) after
unfolding expect_all
architecture_read {kinds} {long} {n} {a} {b} {c} {d} {f} {p} {h} {e} {r} {before} {after} p-asks ea eb ec ed eh v0 ef er = rw er (record {
  asks = run_header e_asks fr;
  none = λ w. fr.wrote w ∙ (v.moves.wrote (fr.moves.began w) ∙ dr.wrote (v.moves.began (fr.moves.began w)));
  began = λ w. dr.moves.began (v.moves.began (fr.moves.began w));
  named = λ w.
      let wc = wr.moves.began (v.moves.began (fr.moves.began w)) in
      let wb = cr.moves.began wc in
      let x = ar.end (br.moves.began wb) in
      let y = br.end wb in
      let z = cr.end wc in
      (x, (omega arith), (omega arith));
  reads = λ ts holds.
      let x = v.reads ts holds in
      let y = x.reads in
      record {
        flag = x.flag;
        groups = y.value;
        begin = token_at ts e.cursor.at;
        goes = λ S γ κ o.
            run_at holds architecture_kinds refl false p-asks ed' S (nt vars ∷ tok 29 ∷ γ) κ
            ∙ (y.goes S (tok 29 ∷ γ) (feed ts p.cursor.at S (nt vars ∷ tok 29 ∷ γ) architecture_kinds κ) o
            ∙ run_at holds (29 ∷ []) refl x.flag e_asks ef S γ (feed ts p.cursor.at S (nt vars ∷ tok 29 ∷ γ) architecture_kinds κ y.value));
        wrote = λ w. y.wrote (fr.moves.began w);
      };
})
  where
    ar : Ran n (ARCHITECTURE ∷ []) p.cursor a
    ar = ran_eq kinds long ea refl (cursor_asks p-asks)

    a_asks : Asks n a
    a_asks = cursor_asks (run_header p-asks ar)

    br : Ran n (NAME ∷ OF ∷ []) a b
    br = ran_eq kinds long eb refl a_asks

    b_asks : Asks n b
    b_asks = asks_then a_asks br.moves

    cr : Ran n (NAME ∷ IS ∷ BEGIN ∷ []) b c
    cr = ran_eq kinds long ec refl b_asks

    c_asks : Asks n c
    c_asks = asks_then b_asks cr.moves

    wr : Ran n (PROCESS ∷ []) c d
    wr = ran_eq kinds long ed refl c_asks

    ed' : d ≡ expect_all kinds long n architecture_kinds p.cursor
    ed' = words_all kinds long n p.cursor ea eb ec ed

    dr : Ran n architecture_kinds p.cursor d
    dr = ran_eq kinds long ed' refl (cursor_asks p-asks)

    v : VariablesOver kinds long n (header_at d p) before e after
    v = subst (λ (x : HeaderRead). VariablesOver kinds long n x before e after) eh v0

    e_asks : AsksHeader n e
    e_asks = asks_header (run_header p-asks dr) v.moves

    fr : Ran n (29 ∷ []) e.cursor f
    fr = ran_eq kinds long ef refl (cursor_asks e_asks)

-- the first statement begins where the heading ends
pub first_asks : {n : ℕ} {p : HeaderRead} → AsksHeader n p → AsksListing n (listing p.cursor 0)
first_asks a = record { short = a.short; inside = a.inside; room = a.room; few = a.few; statements = omega arith }

pub process_read : {kinds long : List ℕ} {n : ℕ} {p : HeaderRead} {a : ListingRead} {c d : Read} {before after : Output} → AsksHeader n p → p.cursor.written ≡ 0
    → ReadsLinesOver body body_entries kinds long n (listing p.cursor 0) 1 before a after
    → c ≡ expect_all kinds long n (END ∷ PROCESS ∷ SEMI ∷ END ∷ []) a.cursor → d ≡ expect_all kinds long n (NAME ∷ SEMI ∷ []) c
    → ProcessOver kinds long n p before (record { listing = listing d a.statements; end = c.at }) after
unfolding expect_all
process_read {kinds} {long} {n} {p} {a} {c} {d} {before} {after} p-asks none v ec ed = record {
  inside = dr.moves.inside;
  room = (let w = dr.less in let g = v.moves.room in let i = v.moves.inside in omega arith);
  few = v.moves.statements;
  began = λ w. v.moves.began (dr.moves.began w);
  reads = λ ts holds.
      let x = v.reads ts holds in
      record {
        value = x.value;
        at = a.cursor.at;
        named = λ w. let wc = lr.moves.began w in let y = cr.end wc in omega arith;
        goes = λ flag S γ κ o.
            x.goes S (heading_of flag p) (record { inputs = p-asks.inputs; outputs = p-asks.outputs; vars = p-asks.vars }) (toks end_kinds ++ γ) κ o
            ∙ (all_taken holds S a.statements 1 (heading_of flag p)
            (record { statements = a_asks.statements; inputs = p-asks.inputs; outputs = p-asks.outputs; vars = p-asks.vars }) end_kinds refl a.cursor
            (statements.cursor_asks a_asks) γ (κ x.value)
            ∙ ap (λ (u : Read). from ts S a.statements 1 (heading_of flag p) u 0 γ (feed ts a.cursor.at S γ end_kinds (κ x.value))) (sym ed'));
        wrote = λ w.
            subst (λ (m : ℕ). WroteLines ts m 0 d.written a.statements before after (body_entries x.value)) none
            (subst (λ (m : ℕ). WroteLines ts p.cursor.written 0 m a.statements before after (body_entries x.value)) (sym (dr.wrote w))
            (x.wrote (dr.moves.began w)));
      };
}
  where
    a_asks : AsksListing n a
    a_asks = statements.asks_listing (first_asks p-asks) v.moves

    cr : Ran n (END ∷ PROCESS ∷ SEMI ∷ END ∷ []) a.cursor c
    cr = ran_eq kinds long ec refl (statements.cursor_asks a_asks)

    c_asks : Asks n c
    c_asks = asks_then (statements.cursor_asks a_asks) cr.moves

    lr : Ran n (NAME ∷ SEMI ∷ []) c d
    lr = ran_eq kinds long ed refl c_asks

    ed' : d ≡ expect_all kinds long n end_kinds a.cursor
    ed' = ed ∙ ap (expect_all kinds long n (NAME ∷ SEMI ∷ [])) ec

    dr : Ran n end_kinds a.cursor d
    dr = ran_eq kinds long ed' refl (statements.cursor_asks a_asks)

-- A part that was refused: of its reader's counts, and of its indices, nothing is known.
pub entity_halted : {n : ℕ} {kinds long before after : List ℕ} (x : HeaderRead) (i j : ℕ) (e : Unread)
    → EntityOver kinds long n before (record { header = header_at (unread e) x; name = i; end = j }) after
    → EntityOver kinds long n before (record { header = header_at (unread e) (heading_at start); name = 0; end = 0 }) after
entity_halted x i j e v = record {
  asks = halted_asks x e v.asks;
  none = v.none;
  reads = λ ts holds.
      let y = v.reads ts holds in
      record {
        groups = y.groups;
        at = y.at;
        named = λ z. absurd (unread_ends e z);
        goes = λ S γ κ o. y.goes S γ κ o
            ∙ from_halted ts S false e x (heading_at start) γ
            (feed ts y.at S γ entity_end_kinds (feed ts 0 S (nt ports ∷ (toks entity_end_kinds ++ γ)) entity_kinds κ y.groups));
        wrote = λ z. absurd (unread_ends e z);
      };
}

pub architecture_halted : {n : ℕ} {kinds long before after : List ℕ} {p : HeaderRead} (x : HeaderRead) (i j k : ℕ) (e : Unread)
    → ArchitectureOver kinds long n p before (record { header = header_at (unread e) x; name = i; of = j; process = k }) after
    → ArchitectureOver kinds long n p before (record { header = header_at (unread e) (heading_at start); name = 0; of = 0; process = 0 }) after
architecture_halted {p = p} x i j k e v = record {
  asks = halted_asks x e v.asks;
  none = v.none;
  began = v.began;
  named = λ z. absurd (unread_ends e z);
  reads = λ ts holds.
      let y = v.reads ts holds in
      record {
        flag = y.flag;
        groups = y.groups;
        begin = y.begin;
        goes = λ S γ κ o. y.goes S γ κ o
            ∙ from_halted ts S y.flag e x (heading_at start) γ (feed ts p.cursor.at S (nt vars ∷ tok BEGIN ∷ γ) architecture_kinds κ y.groups y.begin);
        wrote = λ z. absurd (unread_ends e z);
      };
}

pub process_halted : {n : ℕ} {kinds long : List ℕ} {p : HeaderRead} {before after : Output} (s i : ℕ) (e : Unread)
    → ProcessOver kinds long n p before (record { listing = listing (unread e) s; end = i }) after
    → ProcessOver kinds long n p before (record { listing = listing (unread e) 0; end = 0 }) after
process_halted {p = p} s i e v = record {
  inside = v.inside;
  room = v.room;
  few = omega arith;
  began = v.began;
  reads = λ ts holds.
      let y = v.reads ts holds in
      record {
        value = y.value;
        at = y.at;
        named = λ z. absurd (unread_ends e z);
        goes = λ flag S γ κ o. y.goes flag S γ κ o
            ∙ statements.from_halted ts S 1 (heading_of flag p) e s 0 γ (feed ts y.at S γ end_kinds (κ y.value));
        wrote = λ z. absurd (unread_ends e z);
      };
}

-- what has refused reads no ports, no architecture and no process
pub ports_ended : {kinds long : List ℕ} {n : ℕ} {p : HeaderRead} (l : List ℕ) → AsksGroup n p → (p.cursor.fault ≡ 0 → ⊥)
    → PortsOver ports groups_names kinds long n p l p l
ports_ended {p = p} l a f = record {
  moves = stay_header a.asks;
  further = λ z. absurd (f z);
  none = λ z. absurd (f z);
  reads = λ ts holds. record {
    value = [];
    goes = λ S γ κ o. from_stays ts S 0 1 0 1 (heading_of false p) (heading_of false p) p.cursor p.cursor 0 0 (nt ports ∷ γ) γ κ (κ []) f refl refl;
    wrote = λ z. absurd (f z);
  };
}

pub variables_ended : {kinds long : List ℕ} {n : ℕ} {p : HeaderRead} (l : List ℕ) → AsksHeader n p → (p.cursor.fault ≡ 0 → ⊥)
    → VariablesOver kinds long n p l p l
variables_ended l a f = variables_read (variables_none l a) (λ z. absurd (f z))

pub architecture_ended : {kinds long : List ℕ} {n : ℕ} {p : HeaderRead} (l : List ℕ) → AsksHeader n p → (p.cursor.fault ≡ 0 → ⊥)
    → ArchitectureOver kinds long n p l (record { header = p; name = 0; of = 0; process = 0 }) l
architecture_ended {p = p} l a f = record {
  asks = a;
  none = λ z. refl;
  began = λ z. z;
  named = λ z. absurd (f z);
  reads = λ ts holds. record {
    flag = false;
    groups = [];
    begin = token_at ts 0;
    goes = λ S γ κ o. from_stays ts S 0 1 0 1 (heading_of false p) (heading_of false p) p.cursor p.cursor 0 0
        (toks architecture_kinds ++ (nt vars ∷ tok BEGIN ∷ γ)) γ κ
        (feed ts p.cursor.at S (nt vars ∷ tok BEGIN ∷ γ) architecture_kinds κ [] (token_at ts 0)) f refl refl;
    wrote = λ z. absurd (f z);
  };
}

pub process_ended : {kinds long : List ℕ} {n : ℕ} {p : HeaderRead} (b : Output) → AsksHeader n p → (p.cursor.fault ≡ 0 → ⊥)
    → ProcessOver kinds long n p b (record { listing = listing p.cursor 0; end = 0 }) b
process_ended {p = p} b a f = record {
  inside = a.inside;
  room = let i = a.inside in let r = a.room in omega arith;
  few = omega arith;
  began = λ z. z;
  reads = λ ts holds. record {
    value = only null;
    at = 0;
    named = λ z. absurd (f z);
    goes = λ flag S γ κ o. from_stays ts S 0 1 0 1 (heading_of flag p) (heading_of flag p) p.cursor p.cursor 0 0
        (nt body ∷ (toks end_kinds ++ γ)) γ κ (feed ts 0 S γ end_kinds (κ (only null))) f refl refl;
    wrote = λ z. absurd (f z);
  };
}
