-- THE LAW of the elaborator: for an accepted tree, the operations and rows that are stored lay out the body of its design, but for the types of operands.
-- Assumes nothing.
use mathlib.Core.Path.{◌≡◌, refl, sym, ◌∙◌, ap}
use mathlib.Core.Option.{Option, none, some}
use mathlib.Core.List.{List, [], ◌∷◌, map, map-append}
use Prim.Native.Nat.{ℕ, zero, suc, ◌+◌, ◌*◌, min, ◌≤◌, ◌<◌}
use native.Mathlib.Omega.{arith}
use lib.ListN.{length, get_or, set, length-set, length-map}
use lib.Seq.{sets, get_or-set_same, get_or-set_other}
use lib.IntN.{ℤ, pos}
use Rattle.spec_grammar.specs.Token.{Token}
use Rattle.spec_grammar.specs.Tree.{Stmt, Text}
use Rattle.spec_grammar.specs.Limits.{exprs_numbers, body_exprs}
use Rattle.spec_language.specs.Lists.{each, unless}
use Rattle.spec_language.specs.Declarations.{Decl, declared, find, is_a, statements, clock_of, clock_like, scope_for, scope_of}
use Rattle.spec_language.specs.Names.{names, names_of, differs, doubled}
use Rattle.spec_language.specs.Clock.{clock, clock_for, reads_of, strays}
use Rattle.spec_language.specs.Elaboration.{process_for, elaborate}
use Rattle.spec_language.proofs.Facts.{both_nil, unless_nil}
use Rattle.front_layout.specs.Entries.{body_entries, entry_items}
use Rattle.front_layout.specs.Entries as S
use Rattle.front_layout.specs.Rows.{Row, store_rows}
use Rattle.front_layout.specs.Arrays.{TokensIn, OwnersIn, ItemsIn}
use Rattle.front_layout.specs.Arrays as A
use Rattle.front_layout.specs.Headings.{headings, DeclsIn}
use Rattle.front_offences.specs.Kinded.{KindedBody}
use Rattle.front_layout.proofs.Stored.{rows_read}
use Rattle.base_ir.specs.Operations.{Op, bare_op}
use Rattle.base_ir.specs.Entries.{entries, entry_ops, bare_entry}
use Rattle.base_ir.specs.Arrays.{ops_from, rows_of, BareIn}
use Rattle.base_ir.proofs.Bare.{bare_ops, bare_rows}
use Rattle.front_limits.specs.Words.{WordsIn}
use Rattle.front_elaborator.specs.Elaborated.{op_of, entry_of}
use Rattle.front_elaborator.specs.Positions.{code_at, arg_at, ops_at, Elaborates, rows_at}
use Rattle.front_elaborator.specs.Sources.{SlotsIn}
use Rattle.front_elaborator.proofs.Trees.{entries_body, block}
use Rattle.front_elaborator.proofs.ItemHeld.{ops_are}
use Rattle.front_elaborator.proofs.TreeFine.{UnreadAll, Small, body_fine}
use Rattle.front_elaborator.proofs.RowHeld.{ir_row, same_rows, rows_are, body_targets}

-- READING BACK

abbrev codes_of : List Op → List ℕ
codes_of l = map (λ (o : Op). o.code) l

abbrev args_of : List Op → List ℤ
args_of l = map (λ (o : Op). o.arg) l

sets_before : {X : Type 0} (l : List X) (j : ℕ) (xs : List X) (i : ℕ) (d : X) → i < j → get_or (sets l j xs) i d ≡ get_or l i d
sets_before l j [] i d h = refl
sets_before l j (x ∷ xs) i d h = sets_before (set l j x) (suc j) xs i d (omega arith) ∙ get_or-set_other l j i x d (λ q. omega arith)

ops_read : (os : List Op) (l : List ℕ) (a : List ℤ) (j : ℕ) → j + length os ≤ length l → j + length os ≤ length a
    → ops_from (sets l j (codes_of os)) (sets a j (args_of os)) j (length os) ≡ os
unfolding ops_from
ops_read [] l a j h k = refl
ops_read (o ∷ os) l a j h k =
    let m = length-set l j o.code in
    let n = length-set a j o.arg in
    let c : get_or (sets (set l j o.code) (suc j) (codes_of os)) j 0 ≡ o.code = sets_before (set l j o.code) (suc j) (codes_of os) j 0 (omega arith)
    ∙ get_or-set_same l j o.code 0 (omega arith) in
    let g : get_or (sets (set a j o.arg) (suc j) (args_of os)) j (pos 0) ≡ o.arg = sets_before (set a j o.arg) (suc j) (args_of os) j (pos 0) (omega arith)
    ∙ get_or-set_same a j o.arg (pos 0) (omega arith) in
    let y : j + 1 ≡ suc j = omega arith in
    rw (c, g, y, ops_read os (set l j o.code) (set a j o.arg) (suc j) (omega arith) (omega arith))

rows_back : (rs : List Row) (out₀ out₁ : List ℕ) (s : ℕ) → length rs ≡ s → 6 * s ≤ length out₀ → out₁ ≡ store_rows 0 rs out₀ → A.rows_from out₁ 0 s ≡ rs
rows_back rs out₀ out₁ s c h e = rw (sym c, e) (rows_read 0 rs out₀ (omega arith))

rows_at_length : (owners slots rows : List ℕ) (j q : ℕ) → length (rows_at owners slots rows j q) ≡ q
unfolding rows_at
rows_at_length owners slots rows j zero = refl
rows_at_length owners slots rows j (suc q) = ap suc (rows_at_length owners slots rows (j + 1) q)

-- THE DESIGN'S OPERATIONS AND STATEMENTS

entry_ops_map : (Δ : List Decl) (Γ : _) (es : List S.Entry) → entry_ops (map (entry_of Δ Γ) es) ≡ map (op_of Δ Γ) (entry_items es)
unfolding entry_ops entry_items entry_of
entry_ops_map Δ Γ [] = refl
entry_ops_map Δ Γ (e ∷ es) = rw (entry_ops_map Δ Γ es) (sym (map-append (op_of Δ Γ) e.items (entry_items es)))

read : (Δ : List Decl) (l : List Stmt) (w : Token) → clock_for Δ l (some w) ≡ [] → each (reads_of w.value) l ≡ []
unfolding clock_for
read Δ l w e =
    let a = both_nil (unless (is_a clock_like (find Δ w.value)) w.place) _ e in
    let b = both_nil (each (strays w.value) l) _ a.1 in
    rw (unless_nil (is_a clock_like (find Δ w.value)) w.place a.0) at b.1

-- without an offence of the clock no name in an expression is the clock's
pub unread : (t : Text) → clock t ≡ [] → UnreadAll (clock_of t) (statements t.body)
unfolding clock
unread t h = go (clock_of t) h
  where
    go : (c : Option Token) → clock_for (declared t) (statements t.body) c ≡ [] → UnreadAll c (statements t.body)
    go none e = tt
    go (some w) e = read (declared t) (statements t.body) w e

-- without an offence of names the statements have none
named : (t : Text) → names t ≡ [] → each (names_of (declared t)) (statements t.body) ≡ []
unfolding names
named t h =
    let a = both_nil (differs t.end_of_entity t.entity) _ h in
    let b = both_nil (differs t.of_arch t.entity) _ a.1 in
    let c = both_nil (differs t.end_of_arch t.arch) _ b.1 in
    (both_nil (doubled (declared t)) _ c.1).1

-- THE LAW

module _ (text : List ℕ) (ts : List Token) (t : Text) (kinds starts sizes owners decls slots codes indices rows : List ℕ) (n d k s : ℕ)
    (T : TokensIn ts kinds starts n) (Z : WordsIn text ts sizes n) (O : OwnersIn ts (declared t) owners n) (D : DeclsIn ts (headings t) decls d)
    (L : SlotsIn (declared t) (scope_of t) (clock_of t) slots) (I : ItemsIn ts (entry_items (body_entries t.body)) codes indices k)
    (R : A.RowsIn ts (body_entries t.body) rows s) (K : KindedBody t.body) (small : Small (exprs_numbers (body_exprs t.body))) (five : names t ≡ [])
    (eight : clock t ≡ []) where
  -- the design's statements
  bare_body_lem : map bare_entry (entries (elaborate t).body) ≡ map (entry_of (declared t) (scope_for (declared t) (clock_of t))) (body_entries t.body)
  unfolding scope_of elaborate process_for
  bare_body_lem = entries_body (declared t) (scope_for (declared t) (clock_of t)) t.body K

  -- its operations are those of the items
  bare_items : map bare_op (entry_ops (entries (elaborate t).body)) ≡ map (op_of (declared t) (scope_for (declared t) (clock_of t)))
      (entry_items (body_entries t.body))
  bare_items = sym (bare_ops (entries (elaborate t).body))
      ∙ (ap entry_ops bare_body_lem ∙ entry_ops_map (declared t) (scope_for (declared t) (clock_of t)) (body_entries t.body))

  -- the operations that the items become
  ops_design : ops_at (code_at owners decls d) (arg_at text starts sizes kinds owners decls d slots) codes indices 0 k ≡ map bare_op
      (entry_ops (entries (elaborate t).body))
  unfolding scope_of
  ops_design =
      ops_are text ts kinds starts sizes owners decls slots n d t (clock_of t) T Z O D L codes indices 0 k (entry_items (body_entries t.body)) I.are
      (body_fine (clock_of t) t.body K (unread t eight) small)
      ∙ sym bare_items

  -- the rows that the statements become
  rows_design : map ir_row (rows_at owners slots rows 0 s) ≡ rows_of 0 0 (entries (elaborate t).body)
  unfolding scope_of
  rows_design =
      rows_are ts kinds starts owners slots n (declared t) (clock_of t) T O L rows 0 0 s (body_entries t.body) R.are
      (body_targets (declared t) t.body K (named t five))
      ∙ (ap (rows_of 0 0) (sym bare_body_lem) ∙ bare_rows 0 0 (entries (elaborate t).body))

  items_count : length (map bare_op (entry_ops (entries (elaborate t).body))) ≡ k
  items_count = ap length bare_items ∙ (length-map (entry_items (body_entries t.body)) (op_of (declared t) (scope_for (declared t) (clock_of t))) ∙ I.count)

  rows_count : length (entries (elaborate t).body) ≡ s
  rows_count =
      sym (length-map (entries (elaborate t).body) bare_entry)
      ∙ (ap length bare_body_lem ∙ (length-map (body_entries t.body) (entry_of (declared t) (scope_for (declared t) (clock_of t))) ∙ R.count))

  -- what the two passes leave lays out the body, but for the types of operands
  pub body_laid : (ops₀ ops₁ out₀ out₁ : List ℕ) (args₀ args₁ : List ℤ) → length ops₀ ≡ 16384 → length args₀ ≡ 16384 → length out₀ ≡ 3072
      → Elaborates (code_at owners decls d) (arg_at text starts sizes kinds owners decls d slots) codes indices k ops₀ ops₁ args₀ args₁
      → out₁ ≡ store_rows 0 (rows_at owners slots rows 0 (min s 512)) out₀ → BareIn (elaborate t) ops₁ args₁ out₁ k s
  unfolding elaborate process_for
  body_laid ops₀ ops₁ out₀ out₁ args₀ args₁ lo la lr e r =
      let ks = I.short in
      let ss = R.short in
      let km : min k 16384 ≡ k = omega arith in
      let sm : min s 512 ≡ s = omega arith in
      let os = map bare_op (entry_ops (entries (elaborate t).body)) in
      let od : ops_at (code_at owners decls d) (arg_at text starts sizes kinds owners decls d slots) codes indices 0 (min k 16384) ≡ os = rw km ops_design in
      let c = items_count in
      record {
        block = block (declared t) (scope_of t) t.body;
        code = record {
          count = c;
          short = ks;
          are = held c (e.ops ∙ ap (λ (l : List Op). sets ops₀ 0 (codes_of l)) od)
              (e.args ∙ ap (λ (l : List Op). sets args₀ 0 (args_of l)) od) (ops_read os ops₀ args₀ 0 (omega arith) (omega arith));
        };
        lines = record {
          count = rows_count;
          short = ss;
          are = same_rows out₁ 0 s
              ∙ (ap (map ir_row) (rows_back (rows_at owners slots rows 0 s) out₀ out₁ s (rows_at_length owners slots rows 0 s) (omega arith)
              (r ∙ ap (λ (q : ℕ). store_rows 0 (rows_at owners slots rows 0 q) out₀) sm)) ∙ rows_design);
        };
      }
    where
      held : {os : List Op} {q : ℕ} {x x' : List ℕ} {y y' : List ℤ} → length os ≡ q → x ≡ x' → y ≡ y' → ops_from x' y' 0 (length os) ≡ os → ops_from x y 0 q ≡ os
      held {os} a b c f = rw (sym a, b, c) f
