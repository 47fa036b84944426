-- Groups of ports and of variables, as loops: their invariants, and their returns. Assumes nothing.
use mathlib.Core.Path.{◌≡◌, refl, sym, ◌∙◌, ap, subst}
use mathlib.Core.Bool.{Bool, true, false}
use mathlib.Core.Logic.{inl, inr}
use mathlib.Core.List.{List, [], ◌∷◌, ◌++◌, append_assoc, append-nil}
use Prim.Native.Nat.{ℕ, ◌<◌}
use native.Mathlib.Omega.{arith}
use borrow.Author.Tests.{ne_eqb, eqb-true, eqb-false}
use lib.Dec.{eqb}
use Rattle.spec_grammar.specs.Token.{Token}
use Rattle.base_codes.specs.Token.{NAME}
use Rattle.spec_grammar.specs.Tree.{Group}
use Rattle.spec_grammar.specs.Grammar.{NonTerminal, ports, more_ports, port, vars, Says, Sym, nt, Fun, Production, productions, ◌↠◌}
use Rattle.spec_grammar.specs.Derivation.{here, there}
use Rattle.spec_grammar.specs.Reader.{compose, elem, first, firsts, follow, nullable, nullables, chosen, pick}
use Rattle.spec_grammar.proofs.Steps.{Ok, ok_rule_lem}
use Rattle.spec_grammar.proofs.Tables.{inside_ok}
use Rattle.front_layout.specs.Tokens.{token_at, kind_in, Holds}
use Rattle.front_cursor.specs.declared.Unread.{Unread}
use Rattle.front_cursor.specs.Reading.{unread}
use Rattle.front_cursor.proofs.Steps.{unread_ends, kind_is, from_stays, rule_at, left_at, into_at, Into}
use Rattle.front_declarations.specs.Headers.{HeaderRead, header_at, heading_of, from_header, take_at, AsksHeader, MovesHeader}
use Rattle.front_layout.specs.Headings.{Heading, group_headings, groups_names, WroteNames}
use Rattle.front_declarations.specs.Rows.{declared_by}
use Rattle.front_declarations.specs.Readers.{AsksGroup, PortsOver, VariableOver, VariablesOver}
use Rattle.front_declarations.proofs.Steps.{halted, from_halted, asks_header, moves_header, stay_header, took_plain}
use Rattle.front_declarations.proofs.Groups.{port_ended}
use Rattle.front_declarations.proofs.Picks.{next_port_rule, pick_next_port}
use Rattle.front_declarations.proofs.Values.{Kept, took_kept, inside_token}
use Rattle.front_layout.proofs.NameRows.{names_wrote_none, names_wrote_then}

abbrev ports_rule : Production ports
ports_rule = nt port ∷ nt more_ports ∷ [] ↠ λ g gs. g ∷ gs

into_ports : (k : ℕ) → Into ports port (nt more_ports ∷ []) (λ g gs. g ∷ gs) k
unfolding pick productions chosen firsts nullables first nullable follow elem
into_ports k = go (eqb k NAME) refl
  where
    go : (u : Bool) → eqb k NAME ≡ u → Into ports port (nt more_ports ∷ []) (λ g gs. g ∷ gs) k
    go true u = inl (rw u)
    go false u = inr (rw u, rw u)

-- The loop over ports: what comes after the first group has grown by those read.
pub record PortsOn (ts : List Token) (p r : HeaderRead) (before after : List ℕ) : Type 0 where
  pub grow : List Group → List Group
  pub extra : List Heading
  pub grows : (gs : List Group) → groups_names (grow gs) ≡ extra ++ groups_names gs
  pub goes : (S : NonTerminal) (γ : List Sym) (φ : List Group → Fun γ (Says S)) → Ok (nt more_ports ∷ γ)
      → from_header ts S false p (nt more_ports ∷ γ) φ ≡ from_header ts S false r (nt more_ports ∷ γ) (λ gs. φ (grow gs))
  pub wrote : r.cursor.fault ≡ 0 → WroteNames ts (declared_by p) (declared_by r) before after extra

pub record PortsOnOver (kinds long : List ℕ) (n : ℕ) (p : HeaderRead) (before : List ℕ) (r : HeaderRead) (after : List ℕ) : Type 0 where
  pub moves : MovesHeader n p r
  pub none : r.cursor.fault ≡ 0 → r.waiting ≡ 0
  pub reads : (ts : List Token) → Holds ts kinds long n → PortsOn ts p r before after

pub ports_none : {kinds long : List ℕ} {n : ℕ} {p : HeaderRead} (l : List ℕ) → AsksGroup n p → PortsOnOver kinds long n p l p l
ports_none {p = p} l a = record {
  moves = stay_header a.asks;
  none = a.none;
  reads = λ ts holds. record { grow = λ gs. gs; extra = []; grows = λ gs. refl; goes = λ S γ φ o. refl; wrote = λ z. names_wrote_none ts (declared_by p) l };
}

-- after a token no name waits if none did before
pub took_group : (kinds long : List ℕ) {n : ℕ} (k : ℕ) {p r : HeaderRead} → 0 < k → AsksGroup n p → r ≡ take_at kinds long n k p → AsksGroup n r
took_group kinds long k pos a e = let t = took_kept kinds long k pos a.asks e in
    record { asks = asks_header a.asks t.moves; none = λ z. t.waiting ∙ a.none (t.moves.began z) }

-- a semicolon and a group more
pub ports_again : {kinds long : List ℕ} {n : ℕ} {p a b r : HeaderRead} {before middle after : List ℕ} → AsksHeader n p → PortsOnOver kinds long n p before a middle
    → kind_in kinds n a.cursor.at ≡ 7 → b ≡ take_at kinds long n 7 a → PortsOver port group_headings kinds long n b middle r after
    → PortsOnOver kinds long n p before r after
unfolding compose productions groups_names
ports_again {kinds} {long} {n} {p} {a} {b} {r} {before} {middle} {after} asks u e eb v = record {
  moves = moves_header u.moves (moves_header kb.moves v.moves);
  none = v.none;
  reads = λ ts holds.
      let x = u.reads ts holds in
      let y = v.reads ts holds in
      record {
        grow = λ gs. x.grow (y.value ∷ gs);
        extra = x.extra ++ group_headings y.value;
        grows = λ gs. x.grows (y.value ∷ gs) ∙ sym (append_assoc x.extra (group_headings y.value) (groups_names gs));
        goes = λ S γ φ o.
            let q : (token_at ts a.cursor.at).kind ≡ 7 = sym (kind_is holds a.cursor.at) ∙ e in
            let ok : Ok (nt port ∷ nt more_ports ∷ γ) = ok_rule_lem more_ports next_port_rule.rhs γ (inside_ok {r = next_port_rule} (there here)) o in
            x.goes S γ φ o
            ∙ (rule_at ts S 0 1 (heading_of false a) a.cursor 0 more_ports γ (λ gs. φ (x.grow gs)) next_port_rule
            (pick_next_port (token_at ts a.cursor.at).kind q) (inside_token ts a.cursor.at 7 (omega arith) q)
            ∙ (took_plain holds a_asks 7 (omega arith) eb S false (nt port ∷ nt more_ports ∷ γ) (λ _ g gs. φ (x.grow (g ∷ gs)))
            ∙ y.goes S (nt more_ports ∷ γ) (λ g gs. φ (x.grow (g ∷ gs))) ok));
        wrote = λ z. let zb = v.moves.began z in
            names_wrote_then (subst (λ (d : ℕ). WroteNames ts (declared_by p) d before middle x.extra) (sym same) (x.wrote (kb.moves.began zb)))
            (y.wrote z);
      };
}
  where
    a_asks : AsksHeader n a
    a_asks = asks_header asks u.moves

    kb : Kept n a b
    kb = took_kept kinds long 7 (omega arith) a_asks eb

    same : declared_by b ≡ declared_by a
    same = let k = kb in omega arith

-- the groups end where no semicolon stands, or where the reader has refused
ports_end : {ts : List Token} {kinds long : List ℕ} {n : ℕ} (holds : Holds ts kinds long n) (r : HeaderRead)
    → (r.cursor.fault ≡ 0 → kind_in kinds n r.cursor.at ≡ 7 → ⊥) → (S : NonTerminal) (γ : List Sym) (φ : List Group → Fun γ (Says S))
    → Ok (nt more_ports ∷ γ)
    → from_header ts S false r (nt more_ports ∷ γ) φ ≡ from_header ts S false r γ (φ [])
unfolding productions first elem
ports_end {ts} {kinds} {long} {n} holds r e S γ φ o = go (eqb r.cursor.fault 0) refl
  where
    go : (w : Bool) → eqb r.cursor.fault 0 ≡ w → from_header ts S false r (nt more_ports ∷ γ) φ ≡ from_header ts S false r γ (φ [])
    go true w = left_at ts S 0 1 (heading_of false r) r.cursor 0 more_ports γ φ o [] here
        (λ t. rw (ne_eqb (token_at ts r.cursor.at).kind 7
        (λ z. e (eqb-true r.cursor.fault 0 w) (kind_is holds r.cursor.at ∙ z)))
        at t)
    go false w = from_stays ts S 0 1 0 1 (heading_of false r) (heading_of false r) r.cursor r.cursor 0 0 (nt more_ports ∷ γ) γ φ (φ [])
        (eqb-false r.cursor.fault 0 w) refl refl

pub ports_read : {kinds long : List ℕ} {n : ℕ} {p a r : HeaderRead} {before middle after : List ℕ} → PortsOver port group_headings kinds long n p before a middle
    → PortsOnOver kinds long n a middle r after → (r.cursor.fault ≡ 0 → kind_in kinds n r.cursor.at ≡ 7 → ⊥)
    → PortsOver ports groups_names kinds long n p before r after
unfolding compose productions groups_names
ports_read {kinds} {long} {n} {p} {a} {r} {before} {middle} {after} u v e = record {
  moves = moves_header u.moves v.moves;
  further = λ z. let g = u.further (v.moves.began z) in let m = v.moves in omega arith;
  none = v.none;
  reads = λ ts holds.
      let x = u.reads ts holds in
      let y = v.reads ts holds in
      let all : groups_names (x.value ∷ y.grow []) ≡ group_headings x.value ++ y.extra =
      ap (λ (l : List Heading). group_headings x.value ++ l) (y.grows [] ∙ append-nil y.extra) in
      record {
        value = x.value ∷ y.grow [];
        goes = λ S γ κ o.
            let ok : Ok (nt port ∷ nt more_ports ∷ γ) = ok_rule_lem ports ports_rule.rhs γ (inside_ok {r = ports_rule} here) o in
            into_at ts S 0 1 (heading_of false p) p.cursor 0 ports port (nt more_ports ∷ []) (λ g gs. g ∷ gs) γ κ
            (into_ports (token_at ts p.cursor.at).kind)
            ∙ (x.goes S (nt more_ports ∷ γ) (λ g gs. κ (g ∷ gs)) ok
            ∙ (y.goes S γ (λ gs. κ (x.value ∷ gs)) ok.2
            ∙ ports_end holds r e S γ (λ gs. κ (x.value ∷ y.grow gs)) ok.2));
        wrote = λ z. subst (λ (l : List Heading). WroteNames ts (declared_by p) (declared_by r) before after l) (sym all)
            (names_wrote_then (x.wrote (v.moves.began z)) (y.wrote z));
      };
}

-- what has refused reads no group of ports
pub ports_ended : {kinds long : List ℕ} {n : ℕ} {p : HeaderRead} (l : List ℕ) → AsksGroup n p → (p.cursor.fault ≡ 0 → ⊥)
    → PortsOver ports groups_names kinds long n p l p l
ports_ended l a f = ports_read (port_ended l a f) (ports_none l a) (λ z. absurd (f z))

-- The loop over variables: the groups have grown by those read; the flag says whether there were any.
pub record VariablesOn (ts : List Token) (p r : HeaderRead) (before after : List ℕ) : Type 0 where
  pub flag : Bool
  pub grow : List Group → List Group
  pub extra : List Heading
  pub grows : (gs : List Group) → groups_names (grow gs) ≡ extra ++ groups_names gs
  pub goes : (S : NonTerminal) (γ : List Sym) (φ : List Group → Fun γ (Says S)) → Ok (nt vars ∷ γ)
      → from_header ts S false p (nt vars ∷ γ) φ ≡ from_header ts S flag r (nt vars ∷ γ) (λ gs. φ (grow gs))
  pub wrote : r.cursor.fault ≡ 0 → WroteNames ts (declared_by p) (declared_by r) before after extra

pub record VariablesOnOver (kinds long : List ℕ) (n : ℕ) (p : HeaderRead) (before : List ℕ) (r : HeaderRead) (after : List ℕ) : Type 0 where
  pub moves : MovesHeader n p r
  pub reads : (ts : List Token) → Holds ts kinds long n → VariablesOn ts p r before after

pub variables_none : {kinds long : List ℕ} {n : ℕ} {p : HeaderRead} (l : List ℕ) → AsksHeader n p → VariablesOnOver kinds long n p l p l
variables_none {p = p} l a = record {
  moves = stay_header a;
  reads = λ ts holds. record {
    flag = false;
    grow = λ gs. gs;
    extra = [];
    grows = λ gs. refl;
    goes = λ S γ φ o. refl;
    wrote = λ z. names_wrote_none ts
        (declared_by p) l;
  };
}

-- a group more
pub variables_again : {kinds long : List ℕ} {n : ℕ} {p a r : HeaderRead} {before middle after : List ℕ} → VariablesOnOver kinds long n p before a middle
    → VariableOver kinds long n a middle r after → VariablesOnOver kinds long n p before r after
unfolding groups_names
variables_again {kinds} {long} {n} {p} {a} {r} {before} {middle} {after} u v = record {
  moves = moves_header u.moves v.moves;
  reads = λ ts holds.
      let x = u.reads ts holds in
      let y = v.reads ts holds in
      record {
        flag = true;
        grow = λ gs. x.grow (y.value ∷ gs);
        extra = x.extra ++ group_headings y.value;
        grows = λ gs. x.grows (y.value ∷ gs) ∙ sym (append_assoc x.extra (group_headings y.value) (groups_names gs));
        goes = λ S γ φ o. x.goes S γ φ o ∙ y.goes x.flag S γ (λ gs. φ (x.grow gs)) o;
        wrote = λ z. names_wrote_then (x.wrote (v.moves.began z)) (y.wrote z);
      };
}

variables_end : {ts : List Token} {kinds long : List ℕ} {n : ℕ} (holds : Holds ts kinds long n) (r : HeaderRead)
    → (r.cursor.fault ≡ 0 → kind_in kinds n r.cursor.at ≡ 33 → ⊥) → (S : NonTerminal) (b : Bool) (γ : List Sym) (φ : List Group → Fun γ (Says S))
    → Ok (nt vars ∷ γ)
    → from_header ts S b r (nt vars ∷ γ) φ ≡ from_header ts S b r γ (φ [])
unfolding productions first elem
variables_end {ts} {kinds} {long} {n} holds r e S b γ φ o = go (eqb r.cursor.fault 0) refl
  where
    go : (w : Bool) → eqb r.cursor.fault 0 ≡ w → from_header ts S b r (nt vars ∷ γ) φ ≡ from_header ts S b r γ (φ [])
    go true w = left_at ts S 0 1 (heading_of b r) r.cursor 0 vars γ φ o [] here
        (λ t. rw (ne_eqb (token_at ts r.cursor.at).kind 33
        (λ z. e (eqb-true r.cursor.fault 0 w) (kind_is holds r.cursor.at ∙ z)))
        at t)
    go false w = from_stays ts S 0 1 0 1 (heading_of b r) (heading_of b r) r.cursor r.cursor 0 0 (nt vars ∷ γ) γ φ (φ [])
        (eqb-false r.cursor.fault 0 w) refl refl

pub variables_read : {kinds long : List ℕ} {n : ℕ} {p r : HeaderRead} {before after : List ℕ} → VariablesOnOver kinds long n p before r after
    → (r.cursor.fault ≡ 0 → kind_in kinds n r.cursor.at ≡ 33 → ⊥) → VariablesOver kinds long n p before r after
unfolding groups_names
variables_read {kinds} {long} {n} {p} {r} {before} {after} u e = record {
  moves = u.moves;
  reads = λ ts holds.
      let x = u.reads ts holds in
      let all : groups_names (x.grow []) ≡ x.extra = x.grows [] ∙ append-nil x.extra in
      record {
        flag = x.flag;
        reads = record {
          value = x.grow [];
          goes = λ S γ κ o. x.goes S γ κ o ∙ variables_end holds r e S x.flag γ (λ gs. κ (x.grow gs)) o;
          wrote = λ z. subst (λ (l : List Heading). WroteNames ts (declared_by p) (declared_by r) before after l) (sym all) (x.wrote z);
        };
      };
}

-- what has refused reads no group of variables
pub variables_ended : {kinds long : List ℕ} {n : ℕ} {p : HeaderRead} (l : List ℕ) → AsksHeader n p → (p.cursor.fault ≡ 0 → ⊥)
    → VariablesOver kinds long n p l p l
variables_ended l a f = variables_read (variables_none l a) (λ z. absurd (f z))

-- groups that were refused, whatever the counts are
pub variables_halted : {kinds long : List ℕ} {n : ℕ} {p : HeaderRead} {before after : List ℕ} (a : HeaderRead) (e : Unread)
    → AsksHeader n p
    → VariablesOver kinds long n p before (header_at (unread e) a) after → VariablesOver kinds long n p before (header_at (unread e) p) after
variables_halted {p = p} a e asks v = record {
  moves = halted a e asks v.moves;
  reads = λ ts holds.
      let x = v.reads ts holds in
      let y = x.reads in
      record {
        flag = x.flag;
        reads = record {
          value = y.value;
          goes = λ S γ κ o. y.goes S γ κ o ∙ from_halted ts S x.flag e a p γ (κ y.value);
          wrote = λ z. absurd (unread_ends e z);
        };
      };
}
