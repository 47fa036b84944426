-- Names with commas, as a loop: its invariant, and its returns. Assumes nothing.
use mathlib.Core.Path.{◌≡◌, refl, sym, ◌∙◌, ap}
use mathlib.Core.Bool.{Bool, true, false}
use mathlib.Core.Logic.{inl, inr}
use mathlib.Core.List.{List, [], ◌∷◌, ◌++◌, append_assoc, append-nil}
use Prim.Native.Nat.{ℕ, zero, suc, ◌+◌, ◌*◌, ◌<◌}
use native.Mathlib.Omega.{arith}
use native.Mathlib.Numerals.{add-one}
use borrow.Author.Tests.{ne_eqb, eqb-true, eqb-false}
use lib.Dec.{eqb}
use Rattle.spec_grammar.specs.Token.{Token}
use Rattle.base_codes.specs.Token.{NAME, COMMA}
use Rattle.spec_grammar.specs.Grammar.{NonTerminal, names, more_names, Says, declares, Sym, tk, nt, tok, Fun, Production, productions, ◌↠◌}
use Rattle.spec_grammar.specs.Derivation.{here}
use Rattle.spec_grammar.specs.Reader.{compose, elem, first, firsts, follow, nullable, nullables, chosen, pick, take, no_rule}
use Rattle.spec_grammar.proofs.Steps.{Ok, ok_rule_lem}
use Rattle.spec_grammar.proofs.Tables.{inside_ok}
use Rattle.front_layout.specs.Tokens.{token_at, kind_in, flag_in, Holds}
use Rattle.front_cursor.specs.declared.Unread.{Unread}
use Rattle.front_cursor.specs.Reading.{unread}
use Rattle.front_cursor.proofs.Steps.{unread_ends, kind_is, kind_inside, from_stays, rule_at, left_at}
use Rattle.front_declarations.specs.Headers.{HeaderRead, header_at, heading_of, from_header, name_at, take_at, take_name, names_from, AsksHeader, MovesHeader, Grown}
use Rattle.front_declarations.specs.Readers.{NamesOver}
use Rattle.front_declarations.proofs.Steps.{asks_header, moves_header, stay_header, took_one, took_moves, took_plain, named, Named, name_moves}
use Rattle.front_declarations.proofs.Steps.{grown_then, grown_none, halted, from_halted}
use Rattle.front_declarations.proofs.Picks.{Begins}
use Rattle.front_declarations.proofs.Values.{into_token, took_kept}

abbrev names_rule : Production names
names_rule = tk declares NAME ∷ nt more_names ∷ [] ↠ λ n ns. n ∷ ns

abbrev comma_rule : Production more_names
comma_rule = tok COMMA ∷ tk declares NAME ∷ nt more_names ∷ [] ↠ λ _ n ns. n ∷ ns

pick_names : (k : ℕ) → k ≡ NAME → pick (productions names) k ≡ take names_rule
unfolding pick productions chosen firsts nullables first nullable follow elem
pick_names k e = rw e

no_names : (k : ℕ) → (k ≡ NAME → ⊥) → pick (productions names) k ≡ no_rule
unfolding pick productions chosen firsts nullables first nullable follow elem
no_names k f = rw (ne_eqb k NAME f)

pick_comma : (k : ℕ) → k ≡ COMMA → pick (productions more_names) k ≡ take comma_rule
unfolding pick productions chosen firsts nullables first nullable follow elem
pick_comma k e = rw e

ok_names : (γ : List Sym) → Ok (nt names ∷ γ) → Ok (nt more_names ∷ γ)
unfolding productions
ok_names γ o = ok_rule_lem names (tk declares NAME ∷ nt more_names ∷ []) γ (inside_ok {r = names_rule} here) o

-- names begin with a name, or not at all
into_names : (ts : List Token) (S : NonTerminal) (b : Bool) (p : HeaderRead) (γ : List Sym) (κ : List Token → Fun γ (Says S))
    → from_header ts S b p (nt names ∷ γ) κ ≡ from_header ts S b p (tk declares NAME ∷ nt more_names ∷ γ) (λ x ns. κ (x ∷ ns))
unfolding compose
into_names ts S b p γ κ = into_token ts S b p names declares NAME (nt more_names ∷ []) (λ x ns. x ∷ ns) γ κ (omega arith) (begins (eqb k NAME) refl)
  where
    k : ℕ
    k = (token_at ts p.cursor.at).kind

    begins : (u : Bool) → eqb (token_at ts p.cursor.at).kind NAME ≡ u
        → Begins names declares NAME (nt more_names ∷ []) (λ x ns. x ∷ ns) (token_at ts p.cursor.at).kind
    begins true u = inl (eqb-true k NAME u, pick_names k (eqb-true k NAME u))
    begins false u = inr (eqb-false k NAME u, no_names k (eqb-false k NAME u))

one_add : {c : ℕ} → 1 + c ≡ suc c
one_add {c} = omega arith

names_snoc : (ts : List Token) (f c : ℕ) → names_from ts f (suc c) ≡ names_from ts f c ++ (token_at ts (f + 2 * c) ∷ [])
unfolding names_from
names_snoc ts f zero = ap (λ (k : ℕ). token_at ts k ∷ []) (omega arith)
names_snoc ts f (suc c) = ap (λ (l : List Token). token_at ts f ∷ l)
    (names_snoc ts (f + 2) c ∙ ap (λ (k : ℕ). names_from ts (f + 2) c ++ (token_at ts k ∷ [])) (omega arith))

-- The loop: what comes after the first name has grown by those read.
pub record NamesOn (ts : List Token) (b : Bool) (p r : HeaderRead) : Type 0 where
  pub grow : List Token → List Token
  pub count : ℕ
  pub goes : (S : NonTerminal) (γ : List Sym) (φ : List Token → Fun γ (Says S)) → Ok (nt more_names ∷ γ)
      → from_header ts S b p (nt more_names ∷ γ) φ ≡ from_header ts S b r (nt more_names ∷ γ) (λ ns. φ (grow ns))
  pub are : r.cursor.fault ≡ 0 → (ns : List Token) → grow ns ≡ names_from ts (p.cursor.at + 1) count ++ ns
  pub end : r.cursor.fault ≡ 0 → r.cursor.at ≡ p.cursor.at + 2 * count
  pub grown : r.cursor.fault ≡ 0 → Grown b p r count

pub record NamesOnOver (kinds long : List ℕ) (n : ℕ) (p : HeaderRead) (b : Bool) (r : HeaderRead) : Type 0 where
  pub moves : MovesHeader n p r
  pub reads : (ts : List Token) → Holds ts kinds long n → NamesOn ts b p r

pub names_none : {kinds long : List ℕ} {n : ℕ} {p : HeaderRead} {b : Bool} → AsksHeader n p → NamesOnOver kinds long n p b p
unfolding names_from
names_none {p = p} {b} a = record {
  moves = stay_header a;
  reads = λ ts holds. record { grow = λ ns. ns; count = 0; goes = λ S γ φ o. refl; are = λ z ns. refl; end = λ z. omega arith; grown = λ z. grown_none b p };
}

-- a comma and a name more
pub names_again : {kinds long : List ℕ} {n : ℕ} {p a c r : HeaderRead} {b : Bool} → AsksHeader n p → NamesOnOver kinds long n p b a
    → kind_in kinds n a.cursor.at ≡ 9 → a.cursor.fault ≡ 0 → c ≡ take_at kinds long n 9 a
    → r ≡ name_at (eqb (kind_in kinds n c.cursor.at) 1) (flag_in long c.cursor.at) b c → NamesOnOver kinds long n p b r
unfolding compose
names_again {kinds} {long} {n} {p} {a} {c} {r} {b} asks u e z ec er = record {
  moves = moves_header u.moves (moves_header tc nm.moves);
  reads = λ ts holds.
      let x = u.reads ts holds in
      record {
        grow = λ ns. x.grow (token_at ts c.cursor.at ∷ ns);
        count = suc x.count;
        goes = λ S γ φ o.
            let pk : pick (productions more_names) (token_at ts a.cursor.at).kind ≡ take comma_rule =
            pick_comma (token_at ts a.cursor.at).kind (sym (kind_is holds a.cursor.at) ∙ e) in
            x.goes S γ φ o
            ∙ (rule_at ts S 0 1 (heading_of b a) a.cursor 0 more_names γ (λ ns. φ (x.grow ns)) comma_rule pk
            (let g = holds.count in let i = kind_inside kinds n a.cursor.at 9 e (omega arith) in omega arith)
            ∙ (took_plain holds a_asks 9 (omega arith) ec S b (tk declares NAME ∷ nt more_names ∷ γ) (λ _ y ns. φ (x.grow (y ∷ ns)))
            ∙ named holds b c_asks er S (nt more_names ∷ γ) (λ y ns. φ (x.grow (y ∷ ns)))));
        are = λ w ns.
            let zc = nm.moves.began w in
            let at : c.cursor.at ≡ p.cursor.at + 1 + 2 * x.count = (let g = one zc in let h = x.end z in omega arith) in
            x.are z (token_at ts c.cursor.at ∷ ns)
            ∙ (ap (λ (k : ℕ). names_from ts (p.cursor.at + 1) x.count ++ (token_at ts k ∷ ns)) at
            ∙ (sym (append_assoc (names_from ts (p.cursor.at + 1) x.count) (token_at ts (p.cursor.at + 1 + 2 * x.count) ∷ []) ns)
            ∙ ap (λ (l : List Token). l ++ ns) (sym (names_snoc ts (p.cursor.at + 1) x.count))));
        end = λ w. let zc = nm.moves.began w in let g = one zc in let h = x.end z in let k = nm.one w in omega arith;
        grown = λ w. let g = grown_then b x.count 1 (taken (x.grown z)) (nm.grown w) in rw add-one at g;
      };
}
  where
    one : c.cursor.fault ≡ 0 → c.cursor.at ≡ a.cursor.at + 1
    one y = took_one kinds long n 9 a c ec y

    a_asks : AsksHeader n a
    a_asks = asks_header asks u.moves

    tc : MovesHeader n a c
    tc = took_moves kinds long 9 (omega arith) a_asks ec

    c_asks : AsksHeader n c
    c_asks = asks_header a_asks tc

    nm : Named n b c r
    nm = name_moves kinds long b c_asks er

    taken : {d : ℕ} → Grown b p a d → Grown b p c d
    taken g = let k = took_kept kinds long 9 (omega arith) a_asks ec in
        record { waiting = omega arith; inputs = omega arith; outputs = omega arith; vars = omega arith }

-- the names end where no comma stands, or where the reader has refused
names_end : {ts : List Token} {kinds long : List ℕ} {n : ℕ} (holds : Holds ts kinds long n) (r : HeaderRead)
    → (r.cursor.fault ≡ 0 → kind_in kinds n r.cursor.at ≡ 9 → ⊥) → (S : NonTerminal) (b : Bool) (γ : List Sym) (φ : List Token → Fun γ (Says S))
    → Ok (nt more_names ∷ γ)
    → from_header ts S b r (nt more_names ∷ γ) φ ≡ from_header ts S b r γ (φ [])
unfolding productions first elem
names_end {ts} {kinds} {long} {n} holds r e S b γ φ o = go (eqb r.cursor.fault 0) refl
  where
    go : (w : Bool) → eqb r.cursor.fault 0 ≡ w → from_header ts S b r (nt more_names ∷ γ) φ ≡ from_header ts S b r γ (φ [])
    go true w = left_at ts S 0 1 (heading_of b r) r.cursor 0 more_names γ φ o [] here
        (λ t. rw (ne_eqb (token_at ts r.cursor.at).kind 9
        (λ z. e (eqb-true r.cursor.fault 0 w) (kind_is holds r.cursor.at ∙ z)))
        at t)
    go false w = from_stays ts S 0 1 0 1 (heading_of b r) (heading_of b r) r.cursor r.cursor 0 0 (nt more_names ∷ γ) γ φ (φ [])
        (eqb-false r.cursor.fault 0 w) refl refl

pub names_read : {kinds long : List ℕ} {n : ℕ} {p a r : HeaderRead} {b : Bool} → AsksHeader n p → a ≡ take_name kinds long n b p → NamesOnOver kinds long n a b r
    → (r.cursor.fault ≡ 0 → kind_in kinds n r.cursor.at ≡ 9 → ⊥) → NamesOver kinds long n p b r
unfolding names_from
names_read {kinds} {long} {n} {p} {a} {r} {b} asks ea u e =
    let nm = name_moves kinds long b asks ea in
    record {
      moves = moves_header nm.moves u.moves;
      reads = λ ts holds.
          let x = u.reads ts holds in
          record {
            value = token_at ts p.cursor.at ∷ x.grow [];
            count = x.count;
            goes = λ S γ κ o.
                into_names ts S b p γ κ
                ∙ (named holds b asks ea S (nt more_names ∷ γ) (λ y ns. κ (y ∷ ns))
                ∙ (x.goes S γ (λ ns. κ (token_at ts p.cursor.at ∷ ns)) (ok_names γ o)
                ∙ names_end holds r e S b γ (λ ns. κ (token_at ts p.cursor.at ∷ x.grow ns)) (ok_names γ o)));
            are = λ z.
                let at : a.cursor.at + 1 ≡ p.cursor.at + 2 = (let g = nm.one (u.moves.began z) in omega arith) in
                ap (λ (l : List Token). token_at ts p.cursor.at ∷ l)
                (x.are z [] ∙ (append-nil (names_from ts (a.cursor.at + 1) x.count) ∙ ap (λ (k : ℕ). names_from ts k x.count) at));
            end = λ z. let g = nm.one (u.moves.began z) in let h = x.end z in omega arith;
            grown = λ z. let g = grown_then b 1 x.count (nm.grown (u.moves.began z)) (x.grown z) in rw one_add at g;
          };
    }

-- a comma and a name move the reader on
pub next_moves : (kinds long : List ℕ) {n : ℕ} {a r : HeaderRead} (b : Bool) → AsksHeader n a → r ≡ take_name kinds long n b (take_at kinds long n 9 a)
    → MovesHeader n a r × (r.cursor.fault ≡ 0 → a.cursor.at < r.cursor.at)
next_moves kinds long {n} {a} {r} b asks e =
    let c = take_at kinds long n 9 a in
    let tc = took_moves kinds long 9 (omega arith) asks refl in
    let nm = name_moves kinds long b (asks_header asks tc) e in
    (moves_header tc nm.moves, λ z. let g = took_one kinds long n 9 a c refl (nm.moves.began z) in let k = nm.one z in omega arith)

-- names that were refused, whatever the counts are
pub names_halted : {kinds long : List ℕ} {n : ℕ} {p : HeaderRead} {b : Bool} (a : HeaderRead) (e : Unread) → AsksHeader n p
    → NamesOver kinds long n p b (header_at (unread e) a) → NamesOver kinds long n p b (header_at (unread e) p)
names_halted {p = p} {b} a e asks v = record {
  moves = halted a e asks v.moves;
  reads = λ ts holds.
      let x = v.reads ts holds in
      record {
        value = x.value;
        count = x.count;
        goes = λ S γ κ o. x.goes S γ κ o ∙ from_halted ts S b e a p γ (κ x.value);
        are = λ z. absurd (unread_ends e z);
        end = λ z. absurd (unread_ends e z);
        grown = λ z. absurd (unread_ends e z);
      };
}

-- what has refused reads no name
pub names_ended : {kinds long : List ℕ} {n : ℕ} {p : HeaderRead} {b : Bool} → AsksHeader n p → (p.cursor.fault ≡ 0 → ⊥) → NamesOver kinds long n p b p
names_ended {p = p} {b} a f = record {
  moves = stay_header a;
  reads = λ ts holds. record {
    value = [];
    count = 0;
    goes = λ S γ κ o. from_stays ts S 0 1 0 1 (heading_of b p) (heading_of b p) p.cursor p.cursor 0 0 (nt names ∷ γ) γ κ (κ []) f refl refl;
    are = λ z. absurd (f z);
    end = λ z. absurd (f z);
    grown = λ z. absurd (f z);
  };
}
