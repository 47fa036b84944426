-- The rows by position are those of the design's statements. Assumes nothing.
use mathlib.Core.Path.{◌≡◌, refl, ◌∙◌, ap}
use mathlib.Core.Bool.{Bool, true, false}
use mathlib.Core.Option.{Option, none, some}
use mathlib.Core.List.{List, [], ◌∷◌, ◌++◌, map}
use Prim.Native.Nat.{ℕ, zero, suc, ◌+◌, ◌*◌, ◌<◌}
use native.Mathlib.Omega.{arith}
use lib.Dec.{eqb}
use lib.ListN.{length, get_or, length-map}
use borrow.Author.Tests.{lt-ltb, eqb-true}
use Rattle.spec_grammar.specs.Token.{Token}
use Rattle.base_codes.specs.Token.{NAME}
use Rattle.spec_grammar.specs.Tree as T
use Rattle.spec_grammar.specs.Tree.{Body}
use Rattle.spec_grammar.specs.Reader.{choose}
use Rattle.spec_grammar.specs.Limits.{Each}
use Rattle.spec_grammar.proofs.Each.{each_join}
use Rattle.spec_language.specs.Lists.{each, unless}
use Rattle.spec_language.specs.Declarations.{Decl, scope_for, find, is_a, is_output, is_variable, within, statements}
use Rattle.spec_language.specs.Names.{names_in, names_of}
use Rattle.spec_language.specs.Elaboration.{position}
use Rattle.spec_language.proofs.Facts.{both_nil, each_nil, unless_nil}
use Rattle.front_layout.specs.Tokens.{token_at}
use Rattle.front_layout.specs.Entries.{stmt_entries, body_entries}
use Rattle.front_layout.specs.Entries as S
use Rattle.front_layout.specs.Rows as R
use Rattle.front_layout.specs.Arrays as A
use Rattle.front_layout.specs.Arrays.{TokensIn, OwnersIn}
use Rattle.front_offences.specs.Kinded.{KindedStmt, KindedBody}
use Rattle.front_offences.proofs.Tokens.{kind_inside}
use Rattle.base_ir.specs.Arrays.{Row, row_in, rows_from, rows_of}
use Rattle.front_elaborator.specs.Elaborated.{op_of, target_of, entry_of}
use Rattle.front_elaborator.specs.Positions.{number_at, slot_at, target_at, rows_at}
use Rattle.front_elaborator.specs.Sources.{SlotsIn}

-- the same six numbers
abbrev pub ir_row : R.Row → Row
ir_row r = record { kind = r.kind; target = r.index; from = r.from; to = r.to; other = r.other; end = r.end }

pub same_rows : (rows : List ℕ) (j c : ℕ) → rows_from rows j c ≡ map ir_row (A.rows_from rows j c)
unfolding rows_from A.rows_from
same_rows rows j zero = refl
same_rows rows j (suc c) = ap (λ (l : List Row). row_in rows j ∷ l) (same_rows rows (j + 1) c)

-- a target that is declared as what it must be
pub record Aimed (Δ : List Decl) (p : Decl → Bool) (x : Token) : Type 0 where
  pub named : x.kind ≡ NAME
  pub decl : Decl
  pub found : find Δ x.value ≡ some decl
  pub fits : p decl ≡ true

-- "<= wants an output, := a variable"
pub record Targets (Δ : List Decl) (e : S.Entry) : Type 0 where
  pub output : e.kind ≡ 1 → Aimed Δ (λ (d : Decl). is_output d.mode) e.token
  pub variable : e.kind ≡ 2 → Aimed Δ (λ (d : Decl). is_variable d.mode) e.token

-- ROWS BY POSITION

cons_head : {X : Type 0} {x y : X} {xs ys : List X} → x ∷ xs ≡ y ∷ ys → x ≡ y
cons_head e = cc

cons_tail : {X : Type 0} {x y : X} {xs ys : List X} → x ∷ xs ≡ y ∷ ys → xs ≡ ys
cons_tail e = cc

module _ (ts : List Token) (kinds places owners slots : List ℕ) (n : ℕ) (Δ : List Decl) (c : Option Token) (T : TokensIn ts kinds places n)
    (O : OwnersIn ts Δ owners n) (L : SlotsIn Δ (scope_for Δ c) c slots) where
  owner : (i : ℕ) → (token_at ts i).kind ≡ NAME → number_at owners i ≡ position Δ (token_at ts i).value
  owner i k =
      let l : i < n = kind_inside T i NAME k (omega arith) in
      let s = T.short in
      rw (lt-ltb i 16384 (omega arith)) (O.owner i l k)

  target_is : (i k : ℕ) (x : Token) → token_at ts i ≡ x → (k ≡ 1 → Aimed Δ (λ (d : Decl). is_output d.mode) x)
      → (k ≡ 2 → Aimed Δ (λ (d : Decl). is_variable d.mode) x)
      → target_at owners slots k i ≡ target_of (scope_for Δ c) k x.value
  unfolding target_of
  target_is i k x e f g = go (eqb k 1) refl (eqb k 2) refl
    where
      held : x.kind ≡ NAME → number_at owners i ≡ position Δ x.value
      held h = owner i (ap (λ (y : Token). y.kind) e ∙ h) ∙ ap (λ (y : Token). position Δ y.value) e

      go : (a : Bool) → eqb k 1 ≡ a → (b : Bool) → eqb k 2 ≡ b
          → choose a (slot_at slots (number_at owners i)) (choose b (slot_at slots (number_at owners i)) 0) ≡ choose a (position (scope_for Δ c).outputs x.value)
          (choose b (position (scope_for Δ c).variables x.value) 0)
      go true p b q = let m = f (eqb-true k 1 p) in rw (held m.named) (L.output x.value m.decl m.found m.fits)
      go false p true q = let m = g (eqb-true k 2 q) in rw (held m.named) (L.variable x.value m.decl m.found m.fits)
      go false p false q = refl

  -- the rows from j on
  pub rows_are : (rows : List ℕ) (j m q : ℕ) (es : List S.Entry) → map (R.seen ts) (A.rows_from rows j q) ≡ R.lines_from j m es → Each (Targets Δ) es
      → map ir_row (rows_at owners slots rows j q) ≡ rows_of j m (map (entry_of Δ (scope_for Δ c)) es)
  unfolding A.rows_from R.lines_from rows_at rows_of entry_of
  rows_are rows j m zero [] e f = refl
  rows_are rows j m zero (x ∷ es) e f = absurd (let z : ◌≡◌ {A = ℕ} 0 1 = cc in omega arith)
  rows_are rows j m (suc q) [] e f = absurd (let z : ◌≡◌ {A = ℕ} 0 1 = cc in omega arith)
  rows_are rows j m (suc q) (x ∷ es) e f =
      let h = cons_head e in
      let k : get_or rows (6 * j) 0 ≡ x.kind = ap (λ (l : R.Line). l.kind) h in
      let i : token_at ts (get_or rows (6 * j + 1) 0) ≡ x.token = ap (λ (l : R.Line). l.token) h in
      let a : get_or rows (6 * j + 2) 0 ≡ m = ap (λ (l : R.Line). l.from) h in
      let b : get_or rows (6 * j + 3) 0 ≡ m + length x.items = ap (λ (l : R.Line). l.to) h in
      let o : get_or rows (6 * j + 4) 0 ≡ j + 1 + x.part = ap (λ (l : R.Line). l.other) h in
      let z : get_or rows (6 * j + 5) 0 ≡ j + 1 + x.inside = ap (λ (l : R.Line). l.end) h in
      let t = target_is (get_or rows (6 * j + 1) 0) x.kind x.token i f.0.output f.0.variable in
      rw (k, a, b, o, z, t, length-map x.items (op_of Δ (scope_for Δ c)), rows_are rows (j + 1) (m + length x.items) q es (cons_tail e) f.1)

-- TARGETS OF AN ACCEPTED TREE

aimed : (Δ : List Decl) (p : Decl → Bool) (x : Token) (q : ℕ) → x.kind ≡ NAME → unless (is_a p (find Δ x.value)) q ≡ [] → Aimed Δ p x
unfolding is_a
aimed Δ p x q k u = go (find Δ x.value) refl (unless_nil (is_a p (find Δ x.value)) q u)
  where
    go : (o : Option Decl) → find Δ x.value ≡ o → is_a p o ≡ true → Aimed Δ p x
    go none f h = absurd (let z : ◌≡◌ {A = ℕ} 0 1 = cc in omega arith)
    go (some d) f h = record { named = k; decl = d; found = f; fits = h }

module _ (Δ : List Decl) where
  none_aimed : (k : ℕ) (x : Token) (is : List _) (a b : ℕ) → (k ≡ 1 → ⊥) → (k ≡ 2 → ⊥) → Targets Δ (S.entry k x is a b)
  none_aimed k x is a b f g = record { output = λ e. absurd (f e); variable = λ e. absurd (g e) }

  mutual
    unfolding stmt_entries within names_of each

    stmt_targets : (s : T.Stmt) → KindedStmt s → each (names_of Δ) (within s) ≡ [] → Each (Targets Δ) (stmt_entries s)
    stmt_targets (T.output x e) k u =
        let v = both_nil (names_of Δ (T.output x e)) [] u in
        let w = both_nil (unless (is_a (λ (d : Decl). is_output d.mode) (find Δ x.value)) x.place) (names_in Δ e) v.0 in
        (record { output = λ q. aimed Δ (λ (d : Decl). is_output d.mode) x x.place k.0 w.0; variable = λ q. absurd (omega arith) }, tt)
    stmt_targets (T.assign x e) k u =
        let v = both_nil (names_of Δ (T.assign x e)) [] u in
        let w = both_nil (unless (is_a (λ (d : Decl). is_variable d.mode) (find Δ x.value)) x.place) (names_in Δ e) v.0 in
        (record { output = λ q. absurd (omega arith); variable = λ q. aimed Δ (λ (d : Decl). is_variable d.mode) x x.place k.0 w.0 }, tt)
    stmt_targets T.null k u = (none_aimed _ _ _ _ _ (λ q. omega arith) (λ q. omega arith), tt)
    stmt_targets (T.wait x) k u = (none_aimed _ _ _ _ _ (λ q. omega arith) (λ q. omega arith), tt)
    stmt_targets (T.if_then i e a) k u =
        let v = both_nil (names_of Δ (T.if_then i e a)) (each (names_of Δ) (statements a)) u in
        (none_aimed _ _ _ _ _ (λ q. omega arith) (λ q. omega arith), body_targets a k.2 v.1)
    stmt_targets (T.if_else i e a b) k u =
        let v = both_nil (names_of Δ (T.if_else i e a b)) (each (names_of Δ) (statements a ++ statements b)) u in
        let w = each_nil (names_of Δ) (statements a) (statements b) v.1 in (
          none_aimed _ _ _ _ _ (λ q. omega arith) (λ q. omega arith),
          each_join (Targets Δ) (body_entries a) (body_entries b) (body_targets a k.2 w.0)
              (body_targets b k.3 w.1),
        )
    stmt_targets (T.while w e a) k u =
        let v = both_nil (names_of Δ (T.while w e a)) (each (names_of Δ) (statements a)) u in
        (none_aimed _ _ _ _ _ (λ q. omega arith) (λ q. omega arith), body_targets a k.2 v.1)

    -- every target of a body
    pub body_targets : (b : Body) → KindedBody b → each (names_of Δ) (statements b) ≡ [] → Each (Targets Δ) (body_entries b)
    body_targets (T.only s) k u = stmt_targets s k u
    body_targets (T.and_then s b) k u =
        let w = each_nil (names_of Δ) (within s) (statements b) u in
        each_join (Targets Δ) (stmt_entries s) (body_entries b) (stmt_targets s k.0 w.0) (body_targets b k.1 w.1)
