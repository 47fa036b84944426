-- The returns of the readers of statements that hold no others: each follows the grammar's reader by its laws. Assumes nothing.
use mathlib.Core.Path.{◌≡◌, refl, sym, ◌∙◌, ap, subst}
use mathlib.Core.List.{List, [], ◌∷◌}
use Prim.Native.Nat.{ℕ, ◌+◌, ◌<◌}
use native.Mathlib.Omega.{arith}
use native.Mathlib.Nat.{add-zero}
use lib.ListN.{length, get_or-eq_default}
use Rattle.spec_grammar.specs.Token.{Token}
use Rattle.base_codes.specs.Token.{NAME, ONE, SEMI, EQ, UNTIL}
use Rattle.spec_grammar.specs.Tree.{Stmt, null, wait}
use Rattle.spec_grammar.specs.Grammar.{statement, tok, productions}
use Rattle.spec_grammar.specs.Reader.{compose, pick}
use Rattle.front_layout.specs.Tokens.{token_at, no_token, kind_in, flag_in}
use Rattle.front_cursor.specs.Reading.{Read, expect_one}
use Rattle.front_cursor.proofs.Steps.{kind_is, kind_inside, rule_at}
use Rattle.front_layout.specs.Postfix.{Item}
use Rattle.front_layout.specs.Items.{Arrays, Wrote}
use Rattle.front_layout.proofs.ItemLists.{wrote_none}
use Rattle.front_layout.specs.Entries.{entry, stmt_entries}
use Rattle.front_layout.specs.Rows as R
use Rattle.front_layout.specs.Rows.{row, set_row, WroteLines}
use Rattle.front_statements.specs.Listings.{ListingRead, listing, begin_at, AsksListing}
use Rattle.front_statements.specs.Readers.{StatementOver}
use Rattle.front_layout.proofs.Lines.{lines_none, lines_row}
use Rattle.front_statements.proofs.Steps.{Stepped, Took, Begun, stepped_asks, stepped_then, took_steps, took_plain, begin_steps, begun_stmt}
use Rattle.front_statements.proofs.Picks.{null_rule, wait_rule, pick_null, pick_wait}

-- a statement that holds no others is written
pub wrote_simple : {ts : List Token} {m s m1 : ℕ} {a b : Arrays} {own : List Item} (k i : ℕ) (l l' : List ℕ) → Wrote ts m m1 a b own
    → l' ≡ set_row s (row k i m m1 (s + 1) (s + 1)) l
    → WroteLines ts m s m1 (s + 1) (R.output a l) (R.output b l') (entry k (token_at ts i) own 0 0 ∷ [])
wrote_simple {ts} {m} {s} {m1} {a} {b} {own} k i l l' w e =
    lines_row {a = R.output a l} {b = R.output b l} {c = R.output b l} k i 0 0 l' w refl (lines_none ts m1 (s + 1) (R.output b l)) (e ∙ rw add-zero)

module _ {kinds long : List ℕ} {n : ℕ} {p : ListingRead} {depth : ℕ} (asks : AsksListing n p) where
  -- null ;
  pub null_read : {a : ListingRead} {b : Read} {l l' : List ℕ} → kind_in kinds n p.cursor.at ≡ 34
      → a ≡ begin_at (flag_in long p.cursor.at) depth p.cursor.items p → b ≡ expect_one kinds long n 7 a.cursor
      → (b.fault ≡ 0 → l' ≡ set_row p.statements (row 4 16384 p.cursor.written p.cursor.written (p.statements + 1) (p.statements + 1)) l)
      → (x : Arrays) → StatementOver kinds long n p depth (R.output x l) (listing b a.statements) (R.output x l')
  unfolding compose stmt_entries
  null_read {a} {b} {l} {l'} e ea eb el x = record {
    moves = (stepped_then beg.steps end.steps).moves;
    further = λ z. let g = beg.one (end.steps.moves.began z) in let m = end.steps.moves in omega arith;
    reads = λ ts holds. record {
      value = null;
      goes = λ S h f γ κ o.
          let i : p.cursor.at < length ts = (let z = holds.count in let w = inside in omega arith) in
          rule_at ts S p.statements depth h p.cursor 0 statement γ κ null_rule
          (ap (pick (productions statement)) (sym (kind_is holds p.cursor.at) ∙ e) ∙ pick_null) i
          ∙ (begun_stmt holds asks 34 depth inside e S h f ea (tok SEMI ∷ γ) (λ _ _. κ null)
          ∙ took_plain holds a_asks 7 (omega arith) eb S h f depth γ (λ _. κ null));
      wrote = λ z.
          let g = beg.one (end.steps.moves.began z) in
          let none : token_at ts 16384 ≡ no_token = get_or-eq_default ts no_token {n = 16384} (let c = holds.count in let d = asks.short in omega arith) in
          let sn : b.written ≡ p.cursor.written = end.steps.same z ∙ beg.steps.same (end.steps.moves.began z) in
          let ss : a.statements ≡ p.statements + 1 = g.1 in
          rw (sn, ss) (subst (λ (t : Token). WroteLines ts p.cursor.written p.statements p.cursor.written (p.statements + 1) (R.output x l)
          (R.output x l') (entry 4 t [] 0 0 ∷ [])) none
          (wrote_simple 4 16384 l l' (wrote_none ts p.cursor.written p.cursor.written x refl) (el z)));
    };
  }
    where
      inside : p.cursor.at < n
      inside = kind_inside kinds n p.cursor.at 34 e (omega arith)

      beg : Begun n p a
      beg = begin_steps (flag_in long p.cursor.at) depth p.cursor.items asks inside asks.few ea

      a_asks : AsksListing n a
      a_asks = stepped_asks asks beg.steps

      end : Took n a (listing b a.statements)
      end = took_steps kinds long 7 (omega arith) a_asks eb

  -- wait until clk = '1' ;
  pub wait_read : {a : ListingRead} {b c d e f : Read} {l l' : List ℕ} → kind_in kinds n p.cursor.at ≡ 35
      → a ≡ begin_at (flag_in long p.cursor.at) depth p.cursor.items p → b ≡ expect_one kinds long n 36 a.cursor → c ≡ expect_one kinds long n 1 b
      → d ≡ expect_one kinds long n 13 c → e ≡ expect_one kinds long n 4 d → f ≡ expect_one kinds long n 7 e
      → (f.fault ≡ 0 → l' ≡ set_row p.statements (row 0 b.at p.cursor.written p.cursor.written (p.statements + 1) (p.statements + 1)) l)
      → (x : Arrays) → StatementOver kinds long n p depth (R.output x l) (listing f a.statements) (R.output x l')
  unfolding compose stmt_entries
  wait_read {a} {b} {c} {d} {e} {f} {l} {l'} k ea eb ec ed ee ef el x = record {
    moves = (stepped_then beg.steps rest).moves;
    further = λ z. let g = beg.one (rest.moves.began z) in let m = rest.moves in omega arith;
    reads = λ ts holds. record {
      value = wait (token_at ts b.at);
      goes = λ S h fh γ κ o.
          let i : p.cursor.at < length ts = (let z = holds.count in let w = inside in omega arith) in
          let v : Stmt = wait (token_at ts b.at) in
          rule_at ts S p.statements depth h p.cursor 0 statement γ κ wait_rule
          (ap (pick (productions statement)) (sym (kind_is holds p.cursor.at) ∙ k) ∙ pick_wait) i
          ∙ (begun_stmt holds asks 35 depth inside k S h fh ea (tok UNTIL ∷ tok NAME ∷ tok EQ ∷ tok ONE ∷ tok SEMI ∷ γ) (λ _ _ t _ _ _. κ (wait t))
          ∙ (took_plain holds a_asks 36 (omega arith) eb S h fh depth (tok NAME ∷ tok EQ ∷ tok ONE ∷ tok SEMI ∷ γ) (λ _ t _ _ _. κ (wait t))
          ∙ (took_plain holds b_asks 1 (omega arith) ec S h fh depth (tok EQ ∷ tok ONE ∷ tok SEMI ∷ γ) (λ t _ _ _. κ (wait t))
          ∙ (took_plain holds c_asks 13 (omega arith) ed S h fh depth (tok ONE ∷ tok SEMI ∷ γ) (λ _ _ _. κ v)
          ∙ (took_plain holds d_asks 4 (omega arith) ee S h fh depth (tok SEMI ∷ γ) (λ _ _. κ v)
          ∙ took_plain holds e_asks 7 (omega arith) ef S h fh depth γ (λ _. κ v))))));
      wrote = λ z.
          let g = beg.one (rest.moves.began z) in
          let sn : f.written ≡ p.cursor.written = rest.same z ∙ beg.steps.same (rest.moves.began z) in
          let ss : a.statements ≡ p.statements + 1 = g.1 in
          rw (sn, ss) (wrote_simple 0 b.at l l' (wrote_none ts p.cursor.written p.cursor.written x refl) (el z));
    };
  }
    where
      inside : p.cursor.at < n
      inside = kind_inside kinds n p.cursor.at 35 k (omega arith)

      beg : Begun n p a
      beg = begin_steps (flag_in long p.cursor.at) depth p.cursor.items asks inside asks.few ea

      a_asks : AsksListing n a
      a_asks = stepped_asks asks beg.steps

      tb : Took n a (listing b a.statements)
      tb = took_steps kinds long 36 (omega arith) a_asks eb

      b_asks : AsksListing n (listing b a.statements)
      b_asks = stepped_asks a_asks tb.steps

      tc : Took n (listing b a.statements) (listing c a.statements)
      tc = took_steps kinds long 1 (omega arith) b_asks ec

      c_asks : AsksListing n (listing c a.statements)
      c_asks = stepped_asks b_asks tc.steps

      td : Took n (listing c a.statements) (listing d a.statements)
      td = took_steps kinds long 13 (omega arith) c_asks ed

      d_asks : AsksListing n (listing d a.statements)
      d_asks = stepped_asks c_asks td.steps

      te : Took n (listing d a.statements) (listing e a.statements)
      te = took_steps kinds long 4 (omega arith) d_asks ee

      e_asks : AsksListing n (listing e a.statements)
      e_asks = stepped_asks d_asks te.steps

      tf : Took n (listing e a.statements) (listing f a.statements)
      tf = took_steps kinds long 7 (omega arith) e_asks ef

      rest : Stepped n a (listing f a.statements)
      rest = stepped_then tb.steps (stepped_then tc.steps (stepped_then td.steps (stepped_then te.steps tf.steps)))
