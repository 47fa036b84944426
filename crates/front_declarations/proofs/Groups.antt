-- The returns of the readers of one group: ports or variables, and the rows of their names. Assumes nothing.
use mathlib.Core.Path.{◌≡◌, refl, sym, ◌∙◌, subst}
use mathlib.Core.Bool.{Bool, true, false}
use mathlib.Core.Logic.{inl, inr}
use mathlib.Core.List.{List, [], ◌∷◌}
use Prim.Native.Nat.{ℕ, ◌+◌, ◌<◌}
use native.Mathlib.Omega.{arith}
use borrow.Author.Tests.{eq-eqb, le-ltb}
use lib.Dec.{eqb}
use lib.ListN.{length}
use Rattle.spec_grammar.specs.Token.{Token}
use Rattle.base_codes.specs.Token.{NAME, SEMI, COLON, VARIABLE}
use Rattle.spec_grammar.specs.Tree.{Group, Mode, variable_mode, without}
use Rattle.spec_grammar.specs.Grammar.{NonTerminal, port, names, mode, type, init, vars, Says, variables, Sym, tk, nt, tok, Fun, Production, productions, ◌↠◌}
use Rattle.spec_grammar.specs.Meter.{tick, over}
use Rattle.spec_grammar.specs.Derivation.{here, there}
use Rattle.spec_grammar.specs.Reader.{choose, compose, elem, first, firsts, follow, nullable, nullables, chosen, pick}
use Rattle.spec_grammar.proofs.Steps.{Ok, ok_rule_lem}
use Rattle.spec_grammar.proofs.Tables.{inside_ok}
use Rattle.front_layout.specs.Tokens.{token_at, no_token, alone, kind_in, flag_in, Holds}
use Rattle.front_cursor.specs.declared.Unread.{Unread}
use Rattle.front_cursor.specs.Reading.{Read, unread, meter, refuse, step, expect_at}
use Rattle.front_cursor.proofs.Steps.{unread_ends, from_stays, kind_is, kind_inside, rule_at, into_at, Into, token_over, token_taken}
use Rattle.front_declarations.specs.Headers.{HeaderRead, heading_of, header_at, from_header, take_at, variable_at, mode_at, tail_at, AsksHeader, MovesHeader}
use Rattle.front_layout.specs.Headings.{Heading, mode_code, group_headings}
use Rattle.front_declarations.specs.Rows.{mode_of, declared_by, store_group}
use Rattle.front_declarations.specs.Readers.{NamesOver, AsksGroup, PortsOver, VariableOver}
use Rattle.front_declarations.proofs.Steps.{halted, from_halted, stay_header, asks_header, moves_header, took_one, took_moves, took_plain}
use Rattle.front_declarations.proofs.Picks.{variable_rule, pick_variable}
use Rattle.front_declarations.proofs.Values.{Kept, took_kept, Moded, mode_moves, mode_at_lem, mode_from, tail_moves, tail_at_lem, init_from, inside_token}
use Rattle.front_declarations.proofs.RowLists.{group_wrote}

abbrev port_rule : Production port
port_rule = nt names ∷ tok COLON ∷ nt mode ∷ nt type ∷ nt init ∷ [] ↠ λ ns _ m t i. record { names = ns; mode = m; type = t; init = i }

-- a port group begins with a name, as names do
into_port : (k : ℕ) → Into port names (tok COLON ∷ nt mode ∷ nt type ∷ nt init ∷ []) (λ ns _ m t i. record { names = ns; mode = m; type = t; init = i }) k
unfolding pick productions chosen firsts nullables first nullable follow elem
into_port k = go (eqb k NAME) refl
  where
    go : (u : Bool) → eqb k NAME ≡ u → Into port names (tok COLON ∷ nt mode ∷ nt type ∷ nt init ∷ [])
        (λ ns _ m t i. record { names = ns; mode = m; type = t; init = i }) k
    go true u = inl (rw u)
    go false u = inr (rw u, rw u)

mode_number : {ts : List Token} {kinds long : List ℕ} {n : ℕ} → Holds ts kinds long n → (at : ℕ) → mode_of (kind_in kinds n at) ≡ mode_code (mode_from ts at)
unfolding mode_code
mode_number {ts} holds at = rw (kind_is holds at) (go (eqb (token_at ts at).kind 31))
  where
    go : (u : Bool) → choose u 0 1 ≡ mode_code (choose u Mode.input Mode.output_port)
    go true = refl
    go false = refl

pub port_read : {kinds long : List ℕ} {n : ℕ} {p a b c e : HeaderRead} {before after : List ℕ} → AsksGroup n p → NamesOver kinds long n p false a
    → b ≡ take_at kinds long n 8 a → c ≡ mode_at (kind_in kinds n b.cursor.at) b → e ≡ header_at (tail_at kinds long n c.cursor) c
    → (e.cursor.fault ≡ 0 → after ≡ store_group kinds n p e p.cursor.at (mode_of (kind_in kinds n b.cursor.at)) c.cursor.at before)
    → PortsOver port group_headings kinds long n p before e after
unfolding compose productions
port_read {kinds} {long} {n} {p} {a} {b} {c} {e} {before} {after} asks na eb ec ee stored = record {
  moves = moves_header na.moves (moves_header kb.moves later);
  further = λ z. let g = took_one kinds long n 8 a b eb (later.began z) in let m = na.moves in let l = later in omega arith;
  none = λ z. ke.waiting ∙ mc.none (ke.moves.began z);
  reads = λ ts holds.
      let x = na.reads ts holds in
      record {
        value = record { names = x.value; mode = mode_from ts b.cursor.at; type = token_at ts c.cursor.at; init = init_from ts (c.cursor.at + 1) };
        goes = λ S γ κ o.
            let ok : Ok (nt names ∷ tok COLON ∷ nt mode ∷ nt type ∷ nt init ∷ γ) = ok_rule_lem port port_rule.rhs γ (inside_ok {r = port_rule} here) o in
            into_at ts S 0 1 (heading_of false p) p.cursor 0 port names (tok COLON ∷ nt mode ∷ nt type ∷ nt init ∷ [])
            (λ ns _ m t i. record { names = ns; mode = m; type = t; init = i }) γ κ (into_port (token_at ts p.cursor.at).kind)
            ∙ (x.goes S (tok COLON ∷ nt mode ∷ nt type ∷ nt init ∷ γ) (λ ns _ m t i. κ (record { names = ns; mode = m; type = t; init = i })) ok
            ∙ (took_plain holds a_asks 8 (omega arith) eb S false (nt mode ∷ nt type ∷ nt init ∷ γ)
            (λ _ m t i. κ (record { names = x.value; mode = m; type = t; init = i }))
            ∙ (mode_at_lem holds b_asks ec S false (nt type ∷ nt init ∷ γ) (λ m t i. κ (record { names = x.value; mode = m; type = t; init = i }))
            ∙ tail_at_lem holds c_asks ee S false γ (λ t i. κ (record { names = x.value; mode = mode_from ts b.cursor.at; type = t; init = i }))
            ok.2.2.2)));
        wrote = λ z.
            let zc = ke.moves.began z in
            let zb = mc.moves.began zc in
            let za = kb.moves.began zb in
            let g = x.grown za in
            let w = asks.none (na.moves.began za) in
            let t = mc.total zc in
            group_wrote holds asks.asks.short p.cursor.at c.cursor.at (declared_by p) (declared_by e) x.count
            (mode_of (kind_in kinds n b.cursor.at)) (mode_from ts b.cursor.at) x.value before after (mode_number holds b.cursor.at) (x.are za)
            (let k = ke in let m = kb in omega arith) (stored z);
      };
}
  where
    a_asks : AsksHeader n a
    a_asks = asks_header asks.asks na.moves

    kb : Kept n a b
    kb = took_kept kinds long 8 (omega arith) a_asks eb

    b_asks : AsksHeader n b
    b_asks = asks_header a_asks kb.moves

    mc : Moded n b c
    mc = mode_moves kinds b_asks ec

    c_asks : AsksHeader n c
    c_asks = asks_header b_asks mc.moves

    ke : Kept n c e
    ke = tail_moves kinds long c_asks ee

    later : MovesHeader n b e
    later = moves_header mc.moves ke.moves

-- The word `variable`: from here on names are variables.
over_variables : {n : ℕ} {p : HeaderRead} (b : Bool) → AsksHeader n p → (x : Token)
    → over (tick (meter p.cursor.items 0 0 1 (heading_of b p)) variables x) ≡ alone x
unfolding over tick alone
over_variables {p = p} b a x = rw (
  le-ltb 64 p.cursor.items a.few,
  le-ltb 17 p.inputs a.inputs,
  le-ltb 16 p.outputs a.outputs,
  le-ltb 32
      p.vars a.vars,
)

abbrev pub zeroed : Read → HeaderRead → HeaderRead
zeroed q p = record { cursor = q; waiting = 0; inputs = p.inputs; outputs = p.outputs; vars = p.vars }

variable_word : {ts : List Token} {kinds long : List ℕ} {n : ℕ} → Holds ts kinds long n → {p r : HeaderRead} → AsksHeader n p → p.cursor.fault ≡ 0
    → kind_in kinds n p.cursor.at ≡ 33 → r ≡ variable_at kinds long n p → (b : Bool) (S : NonTerminal) (γ : List Sym) (κ : Token → Fun γ (Says S))
    → from_header ts S b p (tk variables VARIABLE ∷ γ) κ ≡ from_header ts S true r γ (κ (token_at ts p.cursor.at))
unfolding tick expect_at
variable_word {ts} {kinds} {long} {n} holds {p} {r} a z k e b S γ κ =
    go (eqb p.cursor.fault 0) (eq-eqb p.cursor.fault 0 z) (eqb (kind_in kinds n p.cursor.at) 33) (eq-eqb (kind_in kinds n p.cursor.at) 33 k)
    (flag_in long p.cursor.at) refl e
  where
    x : Token
    x = token_at ts p.cursor.at

    q : (token_at ts p.cursor.at).kind ≡ 33
    q = sym (kind_is holds p.cursor.at) ∙ k

    inside : p.cursor.at < length ts
    inside = inside_token ts p.cursor.at 33 (omega arith) q

    flag : alone (token_at ts p.cursor.at) ≡ flag_in long p.cursor.at
    flag = sym (holds.flag p.cursor.at (kind_inside kinds n p.cursor.at 33 k (omega arith)))

    To : HeaderRead → Type 0
    To v = from_header ts S b p (tk variables VARIABLE ∷ γ) κ ≡ from_header ts S true v γ (κ (token_at ts p.cursor.at))

    after : HeaderRead
    after = record { cursor = step p.cursor; waiting = 0; inputs = p.inputs; outputs = p.outputs; vars = p.vars }

    go : (u : Bool) → u ≡ true → (v : Bool) → v ≡ true → (w : Bool) → flag_in long p.cursor.at ≡ w
        → r ≡ zeroed (choose u (choose v (choose w (refuse 4 p.cursor) (step p.cursor)) (refuse 3 p.cursor)) p.cursor) p → To r
    go false u v ev w ew t = absurd (let y : ◌≡◌ {A = ℕ} 0 1 = cc in omega arith)
    go true u false ev w ew t = absurd (let y : ◌≡◌ {A = ℕ} 0 1 = cc in omega arith)
    go true u true ev true ew t = subst To (sym t)
        (token_over ts S 0 1 (heading_of b p) p.cursor 0 variables VARIABLE γ γ κ (κ x) 0 1 0 (heading_of true after) q inside z
        (over_variables b (a) x ∙ (flag ∙ ew)))
    go true u true ev false ew t = subst To (sym t)
        (token_taken ts S 0 1 (heading_of b p) p.cursor 0 variables VARIABLE γ κ (step p.cursor) 0 1 0 (heading_of true after) q inside z
        (over_variables b (a) x ∙ (flag ∙ ew)) refl z refl)

-- how it moves
pub record Started (n : ℕ) (p r : HeaderRead) : Type 0 where
  pub moves : MovesHeader n p r
  pub one : r.cursor.fault ≡ 0 → r.cursor.at ≡ p.cursor.at + 1
  pub total : declared_by r ≡ declared_by p

pub variable_moves : (kinds long : List ℕ) {n : ℕ} {p r : HeaderRead} → AsksHeader n p → r ≡ variable_at kinds long n p → Started n p r
variable_moves kinds long {n} {p} a e =
    rw e (let m = took_moves kinds long 33 (omega arith) a refl in record {
      moves = record {
        on = m.on;
        inside = m.inside;
        few = m.few;
        less = m.less;
        wrote = m.wrote;
        waiting = omega arith;
        inputs = a.inputs;
        outputs = a.outputs;
        vars = a.vars;
        began = m.began;
      };
      one = took_one kinds long n 33 p (take_at kinds long n 33 p) refl;
      total = refl;
    })

pub variable_read : {kinds long : List ℕ} {n : ℕ} {p a b c d e : HeaderRead} {before after : List ℕ} → AsksHeader n p → p.cursor.fault ≡ 0
    → kind_in kinds n p.cursor.at ≡ 33 → a ≡ variable_at kinds long n p → NamesOver kinds long n a true b → c ≡ take_at kinds long n 8 b
    → d ≡ header_at (tail_at kinds long n c.cursor) c
    → e ≡ take_at kinds long n 7 d → (e.cursor.fault ≡ 0 → after ≡ store_group kinds n p e a.cursor.at 2 c.cursor.at before)
    → VariableOver kinds long n p before e after
unfolding compose productions mode_code
variable_read {kinds} {long} {n} {p} {a} {b} {c} {d} {e} {before} {after} asks z33 k33 ea nb ec ed ee stored = record {
  moves = moves_header ka.moves later;
  further = λ z. let g = ka.one (later.began z) in let l = later in omega arith;
  reads = λ ts holds.
      let x = nb.reads ts holds in
      record {
        value = record { names = x.value; mode = variable_mode; type = token_at ts c.cursor.at; init = init_from ts (c.cursor.at + 1) };
        goes = λ v S γ κ o.
            let q : (token_at ts p.cursor.at).kind ≡ 33 = sym (kind_is holds p.cursor.at) ∙ k33 in
            let ok : Ok (nt names ∷ tok COLON ∷ nt type ∷ nt init ∷ tok SEMI ∷ nt vars ∷ γ) =
            ok_rule_lem vars variable_rule.rhs γ (inside_ok {r = variable_rule} (there here)) o in
            rule_at ts S 0 1 (heading_of v p) p.cursor 0 vars γ κ variable_rule (pick_variable (token_at ts p.cursor.at).kind q)
            (inside_token ts p.cursor.at 33 (omega arith) q)
            ∙ (variable_word holds asks z33 k33 ea v S (nt names ∷ tok COLON ∷ nt type ∷ nt init ∷ tok SEMI ∷ nt vars ∷ γ)
            (λ _ ns _ t i _ gs. κ (record { names = ns; mode = variable_mode; type = t; init = i } ∷ gs))
            ∙ (x.goes S (tok COLON ∷ nt type ∷ nt init ∷ tok SEMI ∷ nt vars ∷ γ)
            (λ ns _ t i _ gs. κ (record { names = ns; mode = variable_mode; type = t; init = i } ∷ gs)) ok
            ∙ (took_plain holds b_asks 8 (omega arith) ec S true (nt type ∷ nt init ∷ tok SEMI ∷ nt vars ∷ γ)
            (λ _ t i _ gs. κ (record { names = x.value; mode = variable_mode; type = t; init = i } ∷ gs))
            ∙ (tail_at_lem holds c_asks ed S true (tok SEMI ∷ nt vars ∷ γ)
            (λ t i _ gs. κ (record { names = x.value; mode = variable_mode; type = t; init = i } ∷ gs)) ok.2.2
            ∙ took_plain holds d_asks 7 (omega arith) ee S true (nt vars ∷ γ)
            (λ _ gs. κ (record { names = x.value; mode = variable_mode; type = token_at ts c.cursor.at; init = init_from ts (c.cursor.at + 1) } ∷ gs))))));
        wrote = λ z.
            let zb = rest.began z in
            let g = x.grown zb in
            group_wrote holds asks.short a.cursor.at c.cursor.at (declared_by p) (declared_by e) x.count 2 variable_mode
            x.value before after refl (x.are zb) (let k1 = ka in let k2 = kc in let k3 = kd in let k4 = ke in omega arith) (stored z);
      };
}
  where
    ka : Started n p a
    ka = variable_moves kinds long asks ea

    a_asks : AsksHeader n a
    a_asks = asks_header (asks) ka.moves

    b_asks : AsksHeader n b
    b_asks = asks_header a_asks nb.moves

    kc : Kept n b c
    kc = took_kept kinds long 8 (omega arith) b_asks ec

    c_asks : AsksHeader n c
    c_asks = asks_header b_asks kc.moves

    kd : Kept n c d
    kd = tail_moves kinds long c_asks ed

    d_asks : AsksHeader n d
    d_asks = asks_header c_asks kd.moves

    ke : Kept n d e
    ke = took_kept kinds long 7 (omega arith) d_asks ee

    rest : MovesHeader n b e
    rest = moves_header kc.moves (moves_header kd.moves ke.moves)

    later : MovesHeader n a e
    later = moves_header nb.moves rest

-- groups that were refused, whatever the counts are
pub ports_halted : {M : NonTerminal} {flat : Says M → List Heading} {kinds long : List ℕ} {n : ℕ} {p : HeaderRead} {before after : List ℕ} (a : HeaderRead) (e : Unread)
    → AsksHeader n p → PortsOver M flat kinds long n p before (header_at (unread e) a) after
    → PortsOver M flat kinds long n p before (header_at (unread e) p) after
ports_halted {p = p} a e asks v = record {
  moves = halted a e asks v.moves;
  further = λ z. absurd (unread_ends e z);
  none = λ z. absurd (unread_ends e z);
  reads = λ ts holds.
      let x = v.reads ts holds in
      record {
        value = x.value;
        goes = λ S γ κ o. x.goes S γ κ o ∙ from_halted ts S false e a p γ (κ x.value);
        wrote = λ z. absurd (unread_ends e z);
      };
}

pub variable_halted : {kinds long : List ℕ} {n : ℕ} {p : HeaderRead} {before after : List ℕ} (a : HeaderRead) (e : Unread)
    → AsksHeader n p
    → VariableOver kinds long n p before (header_at (unread e) a) after → VariableOver kinds long n p before (header_at (unread e) p) after
variable_halted {p = p} a e asks v = record {
  moves = halted a e asks v.moves;
  further = λ z. absurd (unread_ends e z);
  reads = λ ts holds.
      let x = v.reads ts holds in
      record {
        value = x.value;
        goes = λ b S γ κ o. x.goes b S γ κ o ∙ from_halted ts S true e a p (nt vars ∷ γ) (λ gs. κ (x.value ∷ gs));
        wrote = λ z. absurd (unread_ends e z);
      };
}

-- A group that was refused.
pub port_refused : {kinds long : List ℕ} {n : ℕ} {p a b c : HeaderRead} {before : List ℕ} (e : Unread) (x : HeaderRead) → AsksGroup n p
    → NamesOver kinds long n p false a → b ≡ take_at kinds long n 8 a → c ≡ mode_at (kind_in kinds n b.cursor.at) b
    → header_at (unread e) x ≡ header_at (tail_at kinds long n c.cursor) c
    → PortsOver port group_headings kinds long n p before (header_at (unread e) p) before
port_refused e x asks na eb ec ee = ports_halted x e asks.asks (port_read asks na eb ec ee (λ z. absurd (unread_ends e z)))

pub port_ended : {kinds long : List ℕ} {n : ℕ} {p : HeaderRead} (l : List ℕ) → AsksGroup n p → (p.cursor.fault ≡ 0 → ⊥)
    → PortsOver port group_headings kinds long n p l p l
port_ended {p = p} l a f = record {
  moves = stay_header a.asks;
  further = λ z. absurd (f z);
  none = λ z. absurd (f z);
  reads = λ ts holds.
      let v : Group = record { names = []; mode = variable_mode; type = no_token; init = without } in
      record {
        value = v;
        goes = λ S γ κ o. from_stays ts S 0 1 0 1 (heading_of false p) (heading_of false p) p.cursor p.cursor 0 0 (nt port ∷ γ) γ κ (κ v) f refl refl;
        wrote = λ z. absurd (f z);
      };
}

pub variable_refused : {kinds long : List ℕ} {n : ℕ} {p a b c d : HeaderRead} {before : List ℕ} (e : Unread) (x : HeaderRead) → AsksHeader n p
    → p.cursor.fault ≡ 0 → kind_in kinds n p.cursor.at ≡ 33 → a ≡ variable_at kinds long n p → NamesOver kinds long n a true b
    → c ≡ take_at kinds long n 8 b → d ≡ header_at (tail_at kinds long n c.cursor) c → header_at (unread e) x ≡ take_at kinds long n 7 d
    → VariableOver kinds long n p before (header_at (unread e) p) before
variable_refused e x asks z k ea nb ec ed ee = variable_halted x e asks (variable_read asks z k ea nb ec ed ee (λ y. absurd (unread_ends e y)))
