-- The laws of a mode word, a type word and an initial value: what the grammar's reader makes of them where the reader stands. Assumes nothing.
use mathlib.Core.Path.{◌≡◌, refl, sym, ◌∙◌, ap, subst}
use mathlib.Core.Bool.{Bool, true, false, ◌||◌}
use mathlib.Core.Logic.{inl, inr}
use mathlib.Core.List.{List, [], ◌∷◌, ◌++◌}
use Prim.Native.Nat.{ℕ, ◌+◌, ◌<◌}
use native.Mathlib.Omega.{arith}
use native.Mathlib.Decide.{dec_lt}
use borrow.Author.Tests.{eq-eqb, ne_eqb, le-ltb, ltb-false, eqb-true, eqb-false}
use lib.Dec.{eqb, ltb}
use lib.ListN.{length, get_or-eq_default}
use Rattle.spec_grammar.specs.Token.{Token}
use Rattle.base_codes.specs.Token.{IN, OUT}
use Rattle.spec_grammar.specs.Tree.{Init, without, integer_literal, logic_literal, minus, Mode, input, output_port}
use Rattle.spec_grammar.specs.Grammar.{NonTerminal, mode, type, init, value, Says, Mark, plain, ins, outs, Sym, tk, nt, Fun, productions, ◌↠◌}
use Rattle.spec_grammar.specs.Meter.{InHeading, tick, over}
use Rattle.spec_grammar.specs.Derivation.{here, there}
use Rattle.spec_grammar.specs.Reader.{choose, compose, elem, first}
use Rattle.spec_grammar.proofs.Steps.{Ok, ok_rule_lem}
use Rattle.spec_grammar.proofs.Tables.{inside_ok}
use Rattle.front_cursor.specs.declared.Unread.{Unread}
use Rattle.front_cursor.specs.Reading.{Read, unread, meter, step, expect_one, follows_at}
use Rattle.front_layout.specs.Tokens.{token_at, no_token, kind_in, Holds}
use Rattle.front_cursor.proofs.Steps.{kind_is, kind_inside, from_stays, rule_at, left_at, refused_at_lem, token_not, token_over, token_taken, follows_true}
use Rattle.front_cursor.proofs.Steps.{follows_false, unread_ends, expect_ended, follows_ended}
use Rattle.front_declarations.specs.Headers.{HeaderRead, heading_of, header_at, from_header, refuse_header, take_at, inputs_at, outputs_at, mode_at, type_kind, literal_kind}
use Rattle.front_declarations.specs.Headers.{value_at, init_at, tail_at, AsksHeader, MovesHeader}
use Rattle.front_declarations.proofs.Steps.{asks_header, moves_header, stay_header, took_one, took_moves, took_plain}
use Rattle.front_declarations.proofs.Picks.{in_rule, out_rule, becomes_rule, Begins, pick_in, pick_out, no_mode, pick_logic, pick_integer, no_type}
use Rattle.front_declarations.proofs.Picks.{pick_becomes, pick_number, pick_minus, pick_zero, pick_one, no_value}

or_false : (b : Bool) → b || false ≡ b
or_false true = refl
or_false false = refl

pub type_pos : (k : ℕ) → 0 < type_kind k
type_pos k = go (eqb k 42)
  where
    go : (b : Bool) → 0 < choose b 42 43
    go true = omega arith
    go false = omega arith

pub literal_pos : (k : ℕ) → 0 < literal_kind k
literal_pos k = go (eqb k 3) (eqb k 4)
  where
    go : (b c : Bool) → 0 < choose b 3 (choose c 4 2)
    go true c = omega arith
    go false true = omega arith
    go false false = omega arith

pub inside_token : (ts : List Token) (at k : ℕ) → 0 < k → (token_at ts at).kind ≡ k → at < length ts
inside_token ts at k pos e = elim (dec_lt at (length ts)) [
  | yes i ↦ i
  | no i ↦ absurd (let z : 0 ≡ k = sym (ap (λ (y : Token). y.kind) (get_or-eq_default ts no_token {n = at} (omega arith))) ∙ e in omega arith)
]

-- where the reader has refused, what it would make of a value is the same for every value
pub same_value : {A : Type 0} (ts : List Token) (S : NonTerminal) (b : Bool) (r : HeaderRead) (γ : List Sym) (κ : A → Fun γ (Says S)) (x y : A)
    → (r.cursor.fault ≡ 0 → x ≡ y) → from_header ts S b r γ (κ x) ≡ from_header ts S b r γ (κ y)
same_value {A} ts S b r γ κ x y f = go (eqb r.cursor.fault 0) refl
  where
    go : (w : Bool) → eqb r.cursor.fault 0 ≡ w → from_header ts S b r γ (κ x) ≡ from_header ts S b r γ (κ y)
    go true w = ap (λ (v : A). from_header ts S b r γ (κ v)) (f (eqb-true r.cursor.fault 0 w))
    go false w = from_stays ts S 0 1 0 1 (heading_of b r) (heading_of b r) r.cursor r.cursor 0 0 γ γ (κ x) (κ y)
        (eqb-false r.cursor.fault 0 w) refl refl

-- a nonterminal whose production begins with a token
pub into_token : (ts : List Token) (S : NonTerminal) (b : Bool) (p : HeaderRead) (M : NonTerminal) (m : Mark) (k : ℕ) (δ : List Sym) (f : Fun (tk m k ∷ δ) (Says M))
    (γ : List Sym) (κ : Says M → Fun γ (Says S)) → 0 < k → Begins M m k δ f (token_at ts p.cursor.at).kind
    → from_header ts S b p (nt M ∷ γ) κ ≡ from_header ts S b p (tk m k ∷ (δ ++ γ)) (compose M S (tk m k ∷ δ) γ f κ)
into_token ts S b p M m k δ f γ κ pos (inl e) =
    rule_at ts S 0 1 (heading_of b p) p.cursor 0 M γ κ (tk m k ∷ δ ↠ f) e.1 (inside_token ts p.cursor.at k pos e.0)
into_token ts S b p M m k δ f γ κ pos (inr e) = go (eqb p.cursor.fault 0) refl
  where
    κ' : Fun (tk m k ∷ (δ ++ γ)) (Says S)
    κ' = compose M S (tk m k ∷ δ) γ f κ

    go : (w : Bool) → eqb p.cursor.fault 0 ≡ w → from_header ts S b p (nt M ∷ γ) κ ≡ from_header ts S b p (tk m k ∷ (δ ++ γ)) (compose M S (tk m k ∷ δ) γ f κ)
    go false w = from_stays ts S 0 1 0 1 (heading_of b p) (heading_of b p) p.cursor p.cursor 0 0 (nt M ∷ γ) (tk m k ∷ (δ ++ γ)) κ κ'
        (eqb-false p.cursor.fault 0 w) refl refl
    go true w =
        refused_at_lem ts S 0 1 (heading_of b p) p.cursor 0 M γ (tk m k ∷ (δ ++ γ)) κ κ' 0 1 0 (heading_of b p) e.1 (eqb-true p.cursor.fault 0 w)
        ∙ sym (token_not ts S 0 1 (heading_of b p) p.cursor 0 m k (δ ++ γ) (tk m k ∷ (δ ++ γ)) κ' κ' 0 1 0 (heading_of b p) e.0
        (eqb-true p.cursor.fault 0 w))

-- How these move: on, and the counts stay.
pub record Kept (n : ℕ) (p r : HeaderRead) : Type 0 where
  pub moves : MovesHeader n p r
  pub waiting : r.waiting ≡ p.waiting
  pub inputs : r.inputs ≡ p.inputs
  pub outputs : r.outputs ≡ p.outputs
  pub vars : r.vars ≡ p.vars

pub kept_then : {n : ℕ} {p a r : HeaderRead} → Kept n p a → Kept n a r → Kept n p r
kept_then u v = record {
  moves = moves_header u.moves v.moves;
  waiting = v.waiting ∙ u.waiting;
  inputs = v.inputs ∙ u.inputs;
  outputs = v.outputs
      ∙ u.outputs;
  vars = v.vars ∙ u.vars;
}

pub took_kept : (kinds long : List ℕ) {n : ℕ} (k : ℕ) {p r : HeaderRead} → 0 < k → AsksHeader n p → r ≡ take_at kinds long n k p → Kept n p r
took_kept kinds long k pos a e = record {
  moves = took_moves kinds long k pos a e;
  waiting = ap (λ (v : HeaderRead). v.waiting) e;
  inputs = ap
      (λ (v : HeaderRead). v.inputs) e;
  outputs = ap (λ (v : HeaderRead). v.outputs) e;
  vars = ap (λ (v : HeaderRead). v.vars) e;
}

pub value_moves : (kinds long : List ℕ) {n : ℕ} {p r : HeaderRead} → AsksHeader n p → r ≡ header_at (value_at kinds long n p.cursor) p → Kept n p r
unfolding value_at
value_moves kinds long {n} {p} {r} a e = go (eqb (kind_in kinds n p.cursor.at) 12) e
  where
    go : (u : Bool) → r ≡ header_at (choose u (expect_one kinds long n 2 (expect_one kinds long n 12 p.cursor))
        (expect_one kinds long n (literal_kind (kind_in kinds n p.cursor.at)) p.cursor)) p → Kept n p r
    go true z = let c = took_kept kinds long 12 (omega arith) a refl in kept_then c (took_kept kinds long 2 (omega arith) (asks_header a c.moves) z)
    go false z = took_kept kinds long (literal_kind (kind_in kinds n p.cursor.at)) (literal_pos (kind_in kinds n p.cursor.at)) a z

pub init_moves : (kinds long : List ℕ) {n : ℕ} {p r : HeaderRead} → AsksHeader n p → r ≡ header_at (init_at kinds long n p.cursor) p → Kept n p r
unfolding init_at
init_moves kinds long {n} {p} {r} a e = go (follows_at p.cursor.fault (kind_in kinds n p.cursor.at) 10) e
  where
    go : (u : Bool) → r ≡ header_at (choose u (value_at kinds long n (expect_one kinds long n 10 p.cursor)) p.cursor) p → Kept n p r
    go true z = let c = took_kept kinds long 10 (omega arith) a refl in kept_then c (value_moves kinds long (asks_header a c.moves) z)
    go false z = rw z (record { moves = stay_header a; waiting = refl; inputs = refl; outputs = refl; vars = refl })

pub tail_moves : (kinds long : List ℕ) {n : ℕ} {p r : HeaderRead} → AsksHeader n p → r ≡ header_at (tail_at kinds long n p.cursor) p → Kept n p r
unfolding tail_at
tail_moves kinds long {n} {p} {r} a e =
    let c = took_kept kinds long (type_kind (kind_in kinds n p.cursor.at)) (type_pos (kind_in kinds n p.cursor.at)) a refl in
    kept_then c (init_moves kinds long (asks_header a c.moves) e)

-- what has refused reads no value, no type and no mode
pub value_ended : (kinds long : List ℕ) (n : ℕ) (e : Unread) → unread e ≡ value_at kinds long n (unread e)
unfolding value_at
value_ended kinds long n e = go (eqb (kind_in kinds n (unread e).at) 12)
  where
    go : (b : Bool) → unread e ≡ choose b (expect_one kinds long n 2 (expect_one kinds long n 12 (unread e)))
        (expect_one kinds long n (literal_kind (kind_in kinds n (unread e).at)) (unread e))
    go true = expect_ended kinds long n 2 e ∙ ap (λ (q : Read). expect_one kinds long n 2 q) (expect_ended kinds long n 12 e)
    go false = expect_ended kinds long n (literal_kind (kind_in kinds n (unread e).at)) e

pub init_ended : (kinds long : List ℕ) (n : ℕ) (e : Unread) → unread e ≡ init_at kinds long n (unread e)
unfolding init_at
init_ended kinds long n e = rw (follows_ended e (kind_in kinds n (unread e).at) 10)

pub tail_ended : (kinds long : List ℕ) (n : ℕ) (e : Unread) → unread e ≡ tail_at kinds long n (unread e)
unfolding tail_at
tail_ended kinds long n e =
    init_ended kinds long n e ∙ ap (λ (q : Read). init_at kinds long n q) (expect_ended kinds long n (type_kind (kind_in kinds n (unread e).at)) e)

pub mode_ended : (k : ℕ) (e : Unread) (p : HeaderRead) → header_at (unread e) p ≡ mode_at k (header_at (unread e) p)
unfolding mode_at
mode_ended k e p = rw (ne_eqb (unread e).fault 0 (unread_ends e))

-- A type word.
pub type_at_lem : {ts : List Token} {kinds long : List ℕ} {n : ℕ} → Holds ts kinds long n → {p r : HeaderRead} → AsksHeader n p
    → r ≡ take_at kinds long n (type_kind (kind_in kinds n p.cursor.at)) p → (S : NonTerminal) (b : Bool) (γ : List Sym) (κ : Token → Fun γ (Says S))
    → from_header ts S b p (nt type ∷ γ) κ ≡ from_header ts S b r γ (κ (token_at ts p.cursor.at))
unfolding compose
type_at_lem {ts} {kinds} {long} {n} holds {p} {r} a e S b γ κ = go (eqb (kind_in kinds n p.cursor.at) 42) refl e
  where
    k : ℕ
    k = (token_at ts p.cursor.at).kind

    same : kind_in kinds n p.cursor.at ≡ (token_at ts p.cursor.at).kind
    same = kind_is holds p.cursor.at

    other : ((token_at ts p.cursor.at).kind ≡ 42 → ⊥) → (v : Bool) → eqb (token_at ts p.cursor.at).kind 43 ≡ v
        → Begins type plain 43 [] (λ x. x) (token_at ts p.cursor.at).kind
    other f true v = inl (eqb-true k 43 v, pick_integer k (eqb-true k 43 v))
    other f false v = inr (eqb-false k 43 v, no_type k f (eqb-false k 43 v))

    go : (u : Bool) → eqb (kind_in kinds n p.cursor.at) 42 ≡ u → r ≡ take_at kinds long n (choose u 42 43) p
        → from_header ts S b p (nt type ∷ γ) κ ≡ from_header ts S b r γ (κ (token_at ts p.cursor.at))
    go true u z = let q : (token_at ts p.cursor.at).kind ≡ 42 = sym same ∙ eqb-true (kind_in kinds n p.cursor.at) 42 u in
        into_token ts S b p type plain 42 [] (λ x. x) γ κ (omega arith) (inl (q, pick_logic k q)) ∙ took_plain holds a 42 (omega arith) z S b γ κ
    go false u z =
        into_token ts S b p type plain 43 [] (λ x. x) γ κ (omega arith)
        (other (λ q. eqb-false (kind_in kinds n p.cursor.at) 42 u (same ∙ q)) (eqb k 43) refl)
        ∙ took_plain holds a 43 (omega arith) z S b γ κ

-- An initial value that begins at a token, and what stands there where it may be missing.
abbrev pub value_by : ℕ → Token → Token → Init
value_by k x y = choose (eqb k 12) (minus x y) (choose (eqb k 3) (logic_literal x) (choose (eqb k 4) (logic_literal x) (integer_literal x)))

abbrev pub value_from : List Token → ℕ → Init
value_from ts at = value_by (token_at ts at).kind (token_at ts at) (token_at ts (at + 1))

abbrev pub init_from : List Token → ℕ → Init
init_from ts at = choose (eqb (token_at ts at).kind 10) (value_from ts (at + 1)) without

pub value_at_lem : {ts : List Token} {kinds long : List ℕ} {n : ℕ} → Holds ts kinds long n → {p r : HeaderRead} → AsksHeader n p
    → r ≡ header_at (value_at kinds long n p.cursor) p → (S : NonTerminal) (b : Bool) (γ : List Sym) (κ : Init → Fun γ (Says S))
    → from_header ts S b p (nt value ∷ γ) κ ≡ from_header ts S b r γ (κ (value_from ts p.cursor.at))
unfolding compose value_at
value_at_lem {ts} {kinds} {long} {n} holds {p} {r} a e S b γ κ =
    go (eqb (token_at ts p.cursor.at).kind 12) refl (eqb (token_at ts p.cursor.at).kind 3) refl (eqb (token_at ts p.cursor.at).kind 4) refl
    (e ∙ ap (λ (k : ℕ). header_at (choose (eqb k 12) (expect_one kinds long n 2 (expect_one kinds long n 12 p.cursor))
    (expect_one kinds long n (literal_kind k) p.cursor)) p) (kind_is holds p.cursor.at))
  where
    k : ℕ
    k = (token_at ts p.cursor.at).kind

    x : Token
    x = token_at ts p.cursor.at

    c : HeaderRead
    c = take_at kinds long n 12 p

    c_moves : MovesHeader n p c
    c_moves = took_moves kinds long 12 (omega arith) a refl

    number : ((token_at ts p.cursor.at).kind ≡ 12 → ⊥) → ((token_at ts p.cursor.at).kind ≡ 3 → ⊥) → ((token_at ts p.cursor.at).kind ≡ 4 → ⊥) → (v : Bool)
        → eqb (token_at ts p.cursor.at).kind 2 ≡ v → Begins value plain 2 [] (λ y. integer_literal y) (token_at ts p.cursor.at).kind
    number f g h true v = inl (eqb-true k 2 v, pick_number k (eqb-true k 2 v))
    number f g h false v = inr (eqb-false k 2 v, no_value k f g h (eqb-false k 2 v))

    go : (u : Bool) → eqb (token_at ts p.cursor.at).kind 12 ≡ u → (v : Bool) → eqb (token_at ts p.cursor.at).kind 3 ≡ v → (w : Bool)
        → eqb (token_at ts p.cursor.at).kind 4 ≡ w
        → r ≡ header_at (choose u (expect_one kinds long n 2 (expect_one kinds long n 12 p.cursor))
        (expect_one kinds long n (choose v 3 (choose w 4 2)) p.cursor)) p
        → from_header ts S b p (nt value ∷ γ) κ ≡ from_header ts S b r γ
        (κ (choose u (minus (token_at ts p.cursor.at) (token_at ts (p.cursor.at + 1)))
        (choose v (logic_literal (token_at ts p.cursor.at))
        (choose w (logic_literal (token_at ts p.cursor.at)) (integer_literal (token_at ts p.cursor.at))))))
    go true u v ev w ew z =
        let q : (token_at ts p.cursor.at).kind ≡ 12 = eqb-true k 12 u in
        into_token ts S b p value plain 12 (tk plain 2 ∷ []) (λ s y. minus s y) γ κ (omega arith) (inl (q, pick_minus k q))
        ∙ (took_plain holds a 12 (omega arith) refl S b (tk plain 2 ∷ γ) (λ s y. κ (minus s y))
        ∙ (took_plain holds (asks_header a c_moves) 2 (omega arith) z S b γ (λ y. κ (minus x y))
        ∙ same_value ts S b r γ (λ (i : ℕ). κ (minus x (token_at ts i))) c.cursor.at (p.cursor.at + 1)
        (λ f. took_one kinds long n 12 p c refl ((took_moves kinds long 2 (omega arith) (asks_header a c_moves) z).began f))))
    go false u true ev w ew z =
        let q : (token_at ts p.cursor.at).kind ≡ 3 = eqb-true k 3 ev in
        into_token ts S b p value plain 3 [] (λ y. logic_literal y) γ κ (omega arith) (inl (q, pick_zero k q))
        ∙ took_plain holds a 3 (omega arith) z S b γ (λ y. κ (logic_literal y))
    go false u false ev true ew z =
        let q : (token_at ts p.cursor.at).kind ≡ 4 = eqb-true k 4 ew in
        into_token ts S b p value plain 4 [] (λ y. logic_literal y) γ κ (omega arith) (inl (q, pick_one k q))
        ∙ took_plain holds a 4 (omega arith) z S b γ (λ y. κ (logic_literal y))
    go false u false ev false ew z =
        into_token ts S b p value plain 2 [] (λ y. integer_literal y) γ κ (omega arith)
        (number (eqb-false k 12 u) (eqb-false k 3 ev) (eqb-false k 4 ew) (eqb k 2) refl)
        ∙ took_plain holds a 2 (omega arith) z S b γ (λ y. κ (integer_literal y))

ok_value : (γ : List Sym) → Ok (nt init ∷ γ) → Ok (nt value ∷ γ)
unfolding productions
ok_value γ o = ok_rule_lem init (tk plain 10 ∷ nt value ∷ []) γ (inside_ok {r = becomes_rule} (there here)) o

-- Perhaps := and a value.
pub init_at_lem : {ts : List Token} {kinds long : List ℕ} {n : ℕ} → Holds ts kinds long n → {p r : HeaderRead} → AsksHeader n p
    → r ≡ header_at (init_at kinds long n p.cursor) p → (S : NonTerminal) (b : Bool) (γ : List Sym) (κ : Init → Fun γ (Says S)) → Ok (nt init ∷ γ)
    → from_header ts S b p (nt init ∷ γ) κ ≡ from_header ts S b r γ (κ (init_from ts p.cursor.at))
unfolding compose init_at productions first elem
init_at_lem {ts} {kinds} {long} {n} holds {p} {r} a e S b γ κ o = go (follows_at p.cursor.fault (kind_in kinds n p.cursor.at) 10) refl e
  where
    c : HeaderRead
    c = take_at kinds long n 10 p

    c_moves : MovesHeader n p c
    c_moves = took_moves kinds long 10 (omega arith) a refl

    To : HeaderRead → Type 0
    To v = from_header ts S b p (nt init ∷ γ) κ ≡ from_header ts S b v γ (κ (init_from ts p.cursor.at))

    given : (token_at ts p.cursor.at).kind ≡ 10 → init_from ts p.cursor.at ≡ value_from ts (p.cursor.at + 1)
    given q = rw (eq-eqb (token_at ts p.cursor.at).kind 10 q)

    missing : ((token_at ts p.cursor.at).kind ≡ 10 → ⊥) → init_from ts p.cursor.at ≡ without
    missing q = rw (ne_eqb (token_at ts p.cursor.at).kind 10 q)

    none : (w : Bool) → eqb p.cursor.fault 0 ≡ w → follows_at p.cursor.fault (kind_in kinds n p.cursor.at) 10 ≡ false → To p
    none true w u =
        let f : (token_at ts p.cursor.at).kind ≡ 10
        → ⊥ = (λ z. follows_false p.cursor.fault (kind_in kinds n p.cursor.at) 10 u (eqb-true p.cursor.fault 0 w)
        (kind_is holds p.cursor.at ∙ z)) in
        left_at ts S 0 1 (heading_of b p) p.cursor 0 init γ κ o without here (λ t. rw (ne_eqb (token_at ts p.cursor.at).kind 10 f) at t)
        ∙ ap (λ (i : Init). from_header ts S b p γ (κ i)) (sym (missing f))
    none false w u = from_stays ts S 0 1 0 1 (heading_of b p) (heading_of b p) p.cursor p.cursor 0 0 (nt init ∷ γ) γ κ (κ (init_from ts p.cursor.at))
        (eqb-false p.cursor.fault 0 w) refl refl

    go : (u : Bool) → follows_at p.cursor.fault (kind_in kinds n p.cursor.at) 10 ≡ u
        → r ≡ header_at (choose u (value_at kinds long n (expect_one kinds long n 10 p.cursor)) p.cursor) p
        → from_header ts S b p (nt init ∷ γ) κ ≡ from_header ts S b r γ (κ (init_from ts p.cursor.at))
    go true u z =
        let t = follows_true p.cursor.fault (kind_in kinds n p.cursor.at) 10 u in
        let q : (token_at ts p.cursor.at).kind ≡ 10 = sym (kind_is holds p.cursor.at) ∙ t.1 in
        rule_at ts S 0 1 (heading_of b p) p.cursor 0 init γ κ becomes_rule (pick_becomes (token_at ts p.cursor.at).kind q)
        (inside_token ts p.cursor.at 10 (omega arith) q)
        ∙ (took_plain holds a 10 (omega arith) refl S b (nt value ∷ γ) (λ _ i. κ i)
        ∙ (value_at_lem holds (asks_header a c_moves) z S b γ κ
        ∙ (same_value ts S b r γ (λ (i : ℕ). κ (value_from ts i)) c.cursor.at (p.cursor.at + 1)
        (λ f. took_one kinds long n 10 p c refl ((value_moves kinds long (asks_header a c_moves) z).moves.began f))
        ∙ ap (λ (i : Init). from_header ts S b r γ (κ i)) (sym (given q)))))
    go false u z = subst To (sym z) (none (eqb p.cursor.fault 0) refl u)

-- A type, and perhaps a value.
pub tail_at_lem : {ts : List Token} {kinds long : List ℕ} {n : ℕ} → Holds ts kinds long n → {p r : HeaderRead} → AsksHeader n p
    → r ≡ header_at (tail_at kinds long n p.cursor) p → (S : NonTerminal) (b : Bool) (γ : List Sym) (κ : Token → Init → Fun γ (Says S)) → Ok (nt init ∷ γ)
    → from_header ts S b p (nt type ∷ nt init ∷ γ) κ ≡ from_header ts S b r γ (κ (token_at ts p.cursor.at) (init_from ts (p.cursor.at + 1)))
unfolding tail_at
tail_at_lem {ts} {kinds} {long} {n} holds {p} {r} a e S b γ κ o =
    type_at_lem holds a refl S b (nt init ∷ γ) κ
    ∙ (init_at_lem holds (asks_header a c_kept.moves) e S b γ (κ (token_at ts p.cursor.at)) o
    ∙ same_value ts S b r γ (λ (i : ℕ). κ (token_at ts p.cursor.at) (init_from ts i)) c.cursor.at (p.cursor.at + 1)
    (λ f. took_one kinds long n k p c refl ((init_moves kinds long (asks_header a c_kept.moves) e).moves.began f)))
  where
    k : ℕ
    k = type_kind (kind_in kinds n p.cursor.at)

    c : HeaderRead
    c = take_at kinds long n (type_kind (kind_in kinds n p.cursor.at)) p

    c_kept : Kept n p c
    c_kept = took_kept kinds long k (type_pos (kind_in kinds n p.cursor.at)) a refl

-- A mode word: a word passes no limit by itself, only with the names that wait for it.
over_ins : {n : ℕ} {p : HeaderRead} (b : Bool) → AsksHeader n p → (x : Token) → x.kind ≡ 31
    → over (tick (meter p.cursor.items 0 0 1 (heading_of b p)) ins x) ≡ ltb 17 (p.inputs + p.waiting)
unfolding over tick
over_ins {p = p} b a x e = rw (le-ltb 64 p.cursor.items a.few, le-ltb 16 p.outputs a.outputs, le-ltb 32 p.vars a.vars, e)
    (or_false (ltb 17 (p.inputs + p.waiting)))

over_outs : {n : ℕ} {p : HeaderRead} (b : Bool) → AsksHeader n p → (x : Token) → x.kind ≡ 32
    → over (tick (meter p.cursor.items 0 0 1 (heading_of b p)) outs x) ≡ ltb 16 (p.outputs + p.waiting)
unfolding over tick
over_outs {p = p} b a x e = rw (le-ltb 64 p.cursor.items a.few, le-ltb 17 p.inputs a.inputs, le-ltb 32 p.vars a.vars, e)
    (or_false (ltb 16 (p.outputs + p.waiting)))

abbrev pub mode_from : List Token → ℕ → Mode
mode_from ts at = choose (eqb (token_at ts at).kind 31) input output_port

pub mode_at_lem : {ts : List Token} {kinds long : List ℕ} {n : ℕ} → Holds ts kinds long n → {p r : HeaderRead} → AsksHeader n p
    → r ≡ mode_at (kind_in kinds n p.cursor.at) p → (S : NonTerminal) (b : Bool) (γ : List Sym) (κ : Mode → Fun γ (Says S))
    → from_header ts S b p (nt mode ∷ γ) κ ≡ from_header ts S b r γ (κ (mode_from ts p.cursor.at))
unfolding compose mode_at tick
mode_at_lem {ts} {kinds} {long} {n} holds {p} {r} a e S b γ κ =
    go (eqb p.cursor.fault 0) refl (eqb (token_at ts p.cursor.at).kind 31) refl (eqb (token_at ts p.cursor.at).kind 32) refl
    (e ∙ ap (λ (j : ℕ). choose (eqb p.cursor.fault 0) (choose (eqb j 31) (inputs_at p) (choose (eqb j 32) (outputs_at p) (refuse_header 3 p))) p)
    (kind_is holds p.cursor.at))
  where
    k : ℕ
    k = (token_at ts p.cursor.at).kind

    x : Token
    x = token_at ts p.cursor.at

    h : InHeading
    h = heading_of b p

    To : Bool → HeaderRead → Type 0
    To u v = from_header ts S b p (nt mode ∷ γ) κ ≡ from_header ts S b v γ (κ (choose u input output_port))

    ins_to : (w : Bool) → ltb 17 (p.inputs + p.waiting) ≡ w → p.cursor.fault ≡ 0 → (token_at ts p.cursor.at).kind ≡ 31
        → To true (choose w (refuse_header 4 p) (record
        { cursor = step p.cursor; waiting = 0; inputs = p.inputs + p.waiting; outputs = p.outputs; vars = p.vars }))
    ins_to true w z q =
        rule_at ts S 0 1 h p.cursor 0 mode γ κ in_rule (pick_in k q) (inside_token ts p.cursor.at 31 (omega arith) q)
        ∙ token_over ts S 0 1 h p.cursor 0 ins IN γ γ (λ _. κ input) (κ input) 0 1 0 h q (inside_token ts p.cursor.at 31 (omega arith) q) z
        (over_ins b a x q ∙ w)
    ins_to false w z q =
        rule_at ts S 0 1 h p.cursor 0 mode γ κ in_rule (pick_in k q) (inside_token ts p.cursor.at 31 (omega arith) q)
        ∙ token_taken ts S 0 1 h p.cursor 0 ins IN γ (λ _. κ input) (step p.cursor) 0 1 0
        (heading_of b (record { cursor = step p.cursor; waiting = 0; inputs = p.inputs + p.waiting; outputs = p.outputs; vars = p.vars })) q
        (inside_token ts p.cursor.at 31 (omega arith) q) z (over_ins b a x q ∙ w) refl z refl

    outs_to : (w : Bool) → ltb 16 (p.outputs + p.waiting) ≡ w → p.cursor.fault ≡ 0 → (token_at ts p.cursor.at).kind ≡ 32
        → To false (choose w (refuse_header 4 p) (record
        { cursor = step p.cursor; waiting = 0; inputs = p.inputs; outputs = p.outputs + p.waiting; vars = p.vars }))
    outs_to true w z q =
        rule_at ts S 0 1 h p.cursor 0 mode γ κ out_rule (pick_out k q) (inside_token ts p.cursor.at 32 (omega arith) q)
        ∙ token_over ts S 0 1 h p.cursor 0 outs OUT γ γ (λ _. κ output_port) (κ output_port) 0 1 0 h q (inside_token ts p.cursor.at 32 (omega arith) q) z
        (over_outs b a x q ∙ w)
    outs_to false w z q =
        rule_at ts S 0 1 h p.cursor 0 mode γ κ out_rule (pick_out k q) (inside_token ts p.cursor.at 32 (omega arith) q)
        ∙ token_taken ts S 0 1 h p.cursor 0 outs OUT γ (λ _. κ output_port) (step p.cursor) 0 1 0
        (heading_of b (record { cursor = step p.cursor; waiting = 0; inputs = p.inputs; outputs = p.outputs + p.waiting; vars = p.vars })) q
        (inside_token ts p.cursor.at 32 (omega arith) q) z (over_outs b a x q ∙ w) refl z refl

    go : (f : Bool) → eqb p.cursor.fault 0 ≡ f → (u : Bool) → eqb (token_at ts p.cursor.at).kind 31 ≡ u → (v : Bool)
        → eqb (token_at ts p.cursor.at).kind 32 ≡ v
        → r ≡ choose f (choose u (inputs_at p) (choose v (outputs_at p) (refuse_header 3 p))) p
        → from_header ts S b p (nt mode ∷ γ) κ ≡ from_header ts S b r γ (κ (choose u input output_port))
    go false f u eu v ev z = subst (To u) (sym z)
        (from_stays ts S 0 1 0 1 h h p.cursor p.cursor 0 0 (nt mode ∷ γ) γ κ (κ (choose u input output_port))
        (eqb-false p.cursor.fault 0 f) refl refl)
    go true f true eu v ev z = subst (To true) (sym z) (ins_to (ltb 17 (p.inputs + p.waiting)) refl (eqb-true p.cursor.fault 0 f) (eqb-true k 31 eu))
    go true f false eu true ev z = subst (To false) (sym z)
        (outs_to (ltb 16 (p.outputs + p.waiting)) refl (eqb-true p.cursor.fault 0 f) (eqb-true k 32 ev))
    go true f false eu false ev z = subst (To false) (sym z)
        (refused_at_lem ts S 0 1 h p.cursor 0 mode γ γ κ (κ output_port) 0 1 0 h (no_mode k (eqb-false k 31 eu) (eqb-false k 32 ev))
        (eqb-true p.cursor.fault 0 f))

-- how a mode word moves: the names that waited are counted
pub record Moded (n : ℕ) (p r : HeaderRead) : Type 0 where
  pub moves : MovesHeader n p r
  pub one : r.cursor.fault ≡ 0 → r.cursor.at ≡ p.cursor.at + 1
  pub none : r.cursor.fault ≡ 0 → r.waiting ≡ 0
  pub total : r.cursor.fault ≡ 0 → r.inputs + r.outputs + r.vars ≡ p.inputs + p.outputs + p.vars + p.waiting

pub mode_moves : (kinds : List ℕ) {n : ℕ} {p r : HeaderRead} → AsksHeader n p → r ≡ mode_at (kind_in kinds n p.cursor.at) p → Moded n p r
unfolding mode_at
mode_moves kinds {n} {p} {r} a e = go (eqb p.cursor.fault 0) refl (eqb (kind_in kinds n p.cursor.at) 31) refl
    (eqb (kind_in kinds n p.cursor.at) 32) refl (ltb 17 (p.inputs + p.waiting)) refl (ltb 16 (p.outputs + p.waiting)) refl e
  where
    k : ℕ
    k = kind_in kinds n p.cursor.at

    Is : HeaderRead → Type 0
    Is v = Moded n p v

    halt : (j : ℕ) → (j ≡ 0 → ⊥) → p.cursor.fault ≡ 0 → Moded n p (refuse_header j p)
    halt j f z = record {
      moves = record {
        on = omega arith;
        inside = omega arith;
        few = omega arith;
        less = omega arith;
        wrote = λ w. absurd (f w);
        waiting = omega arith;
        inputs = omega arith;
        outputs = omega arith;
        vars = omega arith;
        began = λ w. z;
      };
      one = λ w. absurd (f w);
      none = λ w. absurd
          (f w);
      total = λ w. absurd (f w);
    }

    four : ◌≡◌ {A = ℕ} 4 0 → ⊥
    four z = omega arith

    three0 : ◌≡◌ {A = ℕ} 3 0 → ⊥
    three0 z = omega arith

    go : (f : Bool) → eqb p.cursor.fault 0 ≡ f → (u : Bool) → eqb (kind_in kinds n p.cursor.at) 31 ≡ u → (v : Bool)
        → eqb (kind_in kinds n p.cursor.at) 32 ≡ v → (s : Bool) → ltb 17 (p.inputs + p.waiting) ≡ s → (t : Bool) → ltb 16 (p.outputs + p.waiting) ≡ t
        → r ≡ choose f (choose u (choose s (refuse_header 4 p)
        (record { cursor = step p.cursor; waiting = 0; inputs = p.inputs + p.waiting; outputs = p.outputs; vars = p.vars }))
        (choose v (choose t (refuse_header 4 p) (record
        { cursor = step p.cursor; waiting = 0; inputs = p.inputs; outputs = p.outputs + p.waiting; vars = p.vars })) (refuse_header 3 p))) p → Moded n p r
    go false f u eu v ev s es t et z = subst Is (sym z)
        (record {
          moves = stay_header a;
          one = λ y. absurd (eqb-false p.cursor.fault 0 f y);
          none = λ y. absurd
              (eqb-false p.cursor.fault 0 f y);
          total = λ y. absurd (eqb-false p.cursor.fault 0 f y);
        })
    go true f true eu v ev true es t et z = subst Is (sym z) (halt 4 four (eqb-true p.cursor.fault 0 f))
    go true f true eu v ev false es t et z =
        let i = kind_inside kinds n p.cursor.at 31 (eqb-true k 31 eu) (omega arith) in
        let g = ltb-false 17 (p.inputs + p.waiting) es in
        subst Is (sym z) (record {
          moves = record {
            on = omega arith;
            inside = omega arith;
            few = omega arith;
            less = omega arith;
            wrote = λ y. refl;
            waiting = omega arith;
            inputs = omega arith;
            outputs = omega arith;
            vars = omega arith;
            began = λ y. y;
          };
          one = λ y. refl;
          none = λ y. refl;
          total = λ y. omega arith;
        })
    go true f false eu true ev s es true et z = subst Is (sym z) (halt 4 four (eqb-true p.cursor.fault 0 f))
    go true f false eu true ev s es false et z =
        let i = kind_inside kinds n p.cursor.at 32 (eqb-true k 32 ev) (omega arith) in
        let g = ltb-false 16 (p.outputs + p.waiting) et in
        subst Is (sym z) (record {
          moves = record {
            on = omega arith;
            inside = omega arith;
            few = omega arith;
            less = omega arith;
            wrote = λ y. refl;
            waiting = omega arith;
            inputs = omega arith;
            outputs = omega arith;
            vars = omega arith;
            began = λ y. y;
          };
          one = λ y. refl;
          none = λ y. refl;
          total = λ y. omega arith;
        })
    go true f false eu false ev s es t et z = subst Is (sym z) (halt 3 three0 (eqb-true p.cursor.fault 0 f))
