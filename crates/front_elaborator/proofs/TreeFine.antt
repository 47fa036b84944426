-- The items of an accepted tree: names that are not the clock's, numbers within the limit. Assumes nothing.
use mathlib.Core.Path.{◌≡◌, refl, sym, ◌∙◌}
use mathlib.Core.Bool.{false, not}
use mathlib.Core.Option.{Option, none, some}
use mathlib.Core.List.{List, [], ◌∷◌, ◌++◌}
use Prim.Native.Nat.{ℕ, ◌≤◌, ◌<◌}
use native.Mathlib.Omega.{arith}
use lib.Dec.{eqb}
use Rattle.base_codes.specs.Item as I
use Rattle.spec_grammar.specs.Token.{Token}
use Rattle.spec_grammar.specs.Tree as T
use Rattle.spec_grammar.specs.Tree.{Body}
use Rattle.spec_grammar.specs.Limits.{Each, expr_numbers, exprs_numbers, stmt_exprs, body_exprs}
use Rattle.spec_grammar.proofs.Each.{each_split, each_join}
use Rattle.spec_language.specs.Lists.{each}
use Rattle.spec_language.specs.Declarations.{within, statements, is_clock}
use Rattle.spec_language.specs.Clock.{reads_in, reads_of}
use Rattle.spec_language.proofs.Facts.{both_nil, each_nil, unless_nil, not-true}
use Rattle.spec_language.proofs.Expressions.{Unread}
use Rattle.base_codes.specs.Operation.{SIGN, NOT, operation_of}
use Rattle.base_codes.proofs.OperationLaws.{operation_none}
use Rattle.front_layout.specs.Postfix.{Item, item_of, postfix}
use Rattle.front_layout.proofs.Folds.{Steps, postfix_whole}
use Rattle.front_layout.specs.Entries.{Entry, stmt_entries, body_entries, entry_items}
use Rattle.front_layout.proofs.Lines.{entry_items_append}
use Rattle.front_offences.specs.Kinded.{KindedExpr, KindedStmt, KindedBody}
use Rattle.front_elaborator.specs.Sources.{Fine}

abbrev pub UnreadAll : Option Token → List T.Stmt → Type 0
UnreadAll none l = Unit {0}
UnreadAll (some w) l = each (reads_of w.value) l ≡ []

abbrev pub Small : List Token → Type 0
Small l = Each (λ (x : Token). x.value ≤ 2147483647) l

unread_name : (c : Option Token) (x : Token) → Unread c (T.name x) → is_clock c x.value ≡ false
unfolding is_clock reads_in
unread_name none x h = refl
unread_name (some w) x h = not-true _ (unless_nil (not (eqb x.value w.value)) x.place h)

unread_sign : (c : Option Token) (x : Token) (a : T.Expr) → Unread c (T.sign x a) → Unread c a
unfolding reads_in
unread_sign none x a h = tt
unread_sign (some w) x a h = h

unread_not : (c : Option Token) (x : Token) (a : T.Expr) → Unread c (T.negate x a) → Unread c a
unfolding reads_in
unread_not none x a h = tt
unread_not (some w) x a h = h

unread_parens : (c : Option Token) (a : T.Expr) → Unread c (T.parens a) → Unread c a
unfolding reads_in
unread_parens none a h = tt
unread_parens (some w) a h = h

unread_two : (c : Option Token) (x : Token) (a b : T.Expr) → Unread c (T.binary x a b) → Unread c a × Unread c b
unfolding reads_in
unread_two none x a b h = (tt, tt)
unread_two (some w) x a b h = both_nil (reads_in w.value a) (reads_in w.value b) h

unread_append : (c : Option Token) (a b : List T.Stmt) → UnreadAll c (a ++ b) → UnreadAll c a × UnreadAll c b
unread_append none a b h = (tt, tt)
unread_append (some w) a b h = each_nil (reads_of w.value) a b h

-- a statement with the expression e, and those behind it
unread_own : (c : Option Token) (s : T.Stmt) (e : T.Expr) (l : List T.Stmt) → ((w : ℕ) → reads_of w s ≡ reads_in w e) → UnreadAll c (s ∷ l)
    → Unread c e × UnreadAll c l
unfolding each
unread_own none s e l q h = (tt, tt)
unread_own (some w) s e l q h = let r = both_nil (reads_of w.value s) (each (reads_of w.value) l) h in (sym (q w.value) ∙ r.0, r.1)

exprs_append : (a b : List T.Expr) → Small (exprs_numbers (a ++ b)) → Small (exprs_numbers a) × Small (exprs_numbers b)
unfolding exprs_numbers
exprs_append [] b h = (tt, h)
exprs_append (e ∷ a) b h =
    let s = each_split (λ (x : Token). x.value ≤ 2147483647) (expr_numbers e) (exprs_numbers (a ++ b)) h in
    let r = exprs_append a b s.1 in
    (each_join (λ (x : Token). x.value ≤ 2147483647) (expr_numbers e) (exprs_numbers a) s.0 r.0, r.1)

exprs_first : (e : T.Expr) (l : List T.Expr) → Small (exprs_numbers (e ∷ l)) → Small (expr_numbers e) × Small (exprs_numbers l)
unfolding exprs_numbers
exprs_first e l h = each_split (λ (x : Token). x.value ≤ 2147483647) (expr_numbers e) (exprs_numbers l) h

module _ (c : Option Token) where
  operator_fine : (k : ℕ) (x : Token) → ((c : ℕ) → 0 < c → c ≤ 3 → k ≡ c → ⊥) → Fine c (item_of k x)
  operator_fine k x h =
      record {
        name = λ e. absurd (h I.NAME (omega arith) (omega arith) e);
        unclocked = λ e. absurd (h I.NAME (omega arith) (omega arith) e);
        number = λ e. absurd (h I.NUMBER (omega arith) (omega arith) e);
        small = λ e. absurd (h I.NUMBER (omega arith) (omega arith) e);
        bit = λ e. absurd (h I.BIT (omega arith) (omega arith) e);
      }

  number_fine : (x : Token) → KindedExpr (T.number x) → x.value ≤ 2147483647 → Fine c (item_of I.NUMBER x)
  number_fine x k s = record {
    name = λ e. absurd (omega arith);
    unclocked = λ e. absurd (omega arith);
    number = λ e. k;
    small = λ e. s;
    bit = λ e. absurd
        (omega arith);
  }

  bit_fine : (x : Token) → KindedExpr (T.bit x) → Fine c (item_of I.BIT x)
  bit_fine x k = record {
    name = λ e. absurd (omega arith);
    unclocked = λ e. absurd (omega arith);
    number = λ e. absurd (omega arith);
    small = λ e. absurd
        (omega arith);
    bit = λ e. k;
  }

  name_fine : (x : Token) → KindedExpr (T.name x) → Unread c (T.name x) → Fine c (item_of I.NAME x)
  name_fine x k u =
      record {
        name = λ e. k;
        unclocked = λ e. unread_name c x u;
        number = λ e. absurd (omega arith);
        small = λ e. absurd (omega arith);
        bit = λ e. absurd
            (omega arith);
      }

  fine_steps : Steps (λ (e : T.Expr) (w : Unit {0}). KindedExpr e × Unread c e × Small (expr_numbers e)) (λ (e : T.Expr) (w : Unit {0}). w)
      (λ (k : List Item) (w : Unit {0}). Each (Fine c) k)
  unfolding expr_numbers
  fine_steps =
      record {
        number = λ x w k f h. (number_fine x f.0 f.2.0, h);
        bit = λ x w k f h. (bit_fine x f.0, h);
        name = λ x w k f h. (name_fine x f.0 f.1, h);
        sign = λ x a w k f. ((f.0.1, unread_sign c x a f.1, f.2), λ h. (operator_fine SIGN x (λ c l m e. omega arith), h));
        negate = λ x a w k f. ((f.0.1, unread_not c x a f.1, f.2), λ h. (operator_fine NOT x (λ c l m e. omega arith), h));
        binary = λ x a b w k f.
            let v = unread_two c x a b f.1 in
            let q = each_split (λ (x : Token). x.value ≤ 2147483647) (expr_numbers a) (expr_numbers b) f.2 in (
              (f.0.1, v.0, q.0),
              (f.0.2, v.1, q.1),
              λ h.
                  (operator_fine (operation_of x.kind) x (λ c l m e. operation_none x.kind c l (omega arith) e), h),
            );
        parens = λ a w k f. ((f.0, unread_parens c a f.1, f.2), λ h. h);
      }

  expr_fine : (e : T.Expr) → KindedExpr e → Unread c e → Small (expr_numbers e) → Each (Fine c) (postfix e)
  expr_fine e k u s = postfix_whole fine_steps e tt (k, u, s) tt

  items_two : (a b : List Entry) → Each (Fine c) (entry_items a) → Each (Fine c) (entry_items b) → Each (Fine c) (entry_items (a ++ b))
  items_two a b h k = rw (entry_items_append a b) (each_join (Fine c) (entry_items a) (entry_items b) h k)

  -- a statement's own expression, and what holds of the statements inside it
  parts : (r : T.Stmt) (e : T.Expr) (l : List T.Stmt) (m : List T.Expr) → ((w : ℕ) → reads_of w r ≡ reads_in w e) → KindedExpr e → UnreadAll c (r ∷ l)
      → Small (exprs_numbers (e ∷ m))
      → Each (Fine c) (postfix e) × (UnreadAll c l × Small (exprs_numbers m))
  parts r e l m f k u s = let v = unread_own c r e l f u in let q = exprs_first e m s in (expr_fine e k v.0 q.0, (v.1, q.1))

  mutual
    unfolding stmt_entries entry_items stmt_exprs within reads_of

    stmt_fine : (s : T.Stmt) → KindedStmt s → UnreadAll c (within s) → Small (exprs_numbers (stmt_exprs s)) → Each (Fine c) (entry_items (stmt_entries s))
    stmt_fine (T.output x e) k u s = each_join (Fine c) (postfix e) [] (parts (T.output x e) e [] [] (λ w. refl) k.1 u s).0 tt
    stmt_fine (T.assign x e) k u s = each_join (Fine c) (postfix e) [] (parts (T.assign x e) e [] [] (λ w. refl) k.1 u s).0 tt
    stmt_fine T.null k u s = tt
    stmt_fine (T.wait x) k u s = tt
    stmt_fine (T.if_then i e a) k u s =
        let p = parts (T.if_then i e a) e (statements a) (body_exprs a) (λ w. refl) k.1 u s in
        each_join (Fine c) (postfix e) (entry_items (body_entries a)) p.0 (body_fine a k.2 p.1.0 p.1.1)
    stmt_fine (T.if_else i e a b) k u s =
        let p = parts (T.if_else i e a b) e (statements a ++ statements b) (body_exprs a ++ body_exprs b) (λ w. refl) k.1 u s in
        let v = unread_append c (statements a) (statements b) p.1.0 in
        let q = exprs_append (body_exprs a) (body_exprs b) p.1.1 in
        each_join (Fine c) (postfix e) (entry_items (body_entries a ++ body_entries b)) p.0
        (items_two (body_entries a) (body_entries b) (body_fine a k.2 v.0 q.0) (body_fine b k.3 v.1 q.1))
    stmt_fine (T.while w e a) k u s =
        let p = parts (T.while w e a) e (statements a) (body_exprs a) (λ w. refl) k.1 u s in
        each_join (Fine c) (postfix e) (entry_items (body_entries a)) p.0 (body_fine a k.2 p.1.0 p.1.1)

    -- every item of a body
    pub body_fine : (b : Body) → KindedBody b → UnreadAll c (statements b) → Small (exprs_numbers (body_exprs b)) → Each (Fine c) (entry_items (body_entries b))
    body_fine (T.only r) k u s = stmt_fine r k u s
    body_fine (T.and_then r b) k u s =
        let v = unread_append c (within r) (statements b) u in
        let q = exprs_append (stmt_exprs r) (body_exprs b) s in
        items_two (stmt_entries r) (body_entries b) (stmt_fine r k.0 v.0 q.0) (body_fine b k.1 v.1 q.1)
