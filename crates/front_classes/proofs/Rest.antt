-- The loop over the statements of a list: what was passed and what is left make up the whole. Assumes nothing.
use mathlib.Core.Path.{◌≡◌, refl, sym, ◌∙◌, ap}
use mathlib.Core.Option.{Option, some}
use mathlib.Core.List.{List, [], ◌∷◌}
use Prim.Native.Nat.{ℕ, ◌+◌, ◌≤◌, ◌<◌, min, max}
use native.Mathlib.Omega.{arith}
use Rattle.std.specs.Prelude as P
use Rattle.front_classes.specs.declared.rules.Class as K
use Rattle.front_classes.specs.declared.rules.Class.TheVariants as V
use lib.ListN.{length, length-append}
use Rattle.spec_grammar.specs.Token.{Token}
use Rattle.spec_grammar.specs.Tree.{Stmt}
use Rattle.spec_design.specs.Statement.{Class, A, seq_class}
use Rattle.spec_language.specs.Lists.{each, lowest}
use Rattle.spec_language.specs.Declarations.{within}
use Rattle.spec_language.specs.Classes.{pair, class, loops_of}
use Rattle.front_layout.specs.Entries.{stmt_entries}
use Rattle.front_offences.specs.Lowest.{option_of, lowest_of, lower}
use Rattle.front_offences.proofs.Lowest.{lower_none, lower_assoc, lowest_append}
use Rattle.front_classes.specs.declared.Summary.{Summary}
use Rattle.front_classes.specs.Codes.{class_code, sequence_code}
use Rattle.front_classes.specs.Lists.{list_entries, list_class, list_offences, of_list}
use Rattle.front_classes.specs.Held.{number_of, RowsHeld, StatementFound, BlockFound}
use Rattle.front_classes.proofs.Codes.{sequence_is, sequence_first, sequence_last, sequence_assoc}
use Rattle.front_classes.proofs.Rows.{rows_append, statement_end, statement_some}
use Rattle.front_classes.proofs.Found.{same_summary}

-- for the statements l: which are left from row `at` on, and what class those before have
pub record Rest (rows places : List ℕ) (n at to : ℕ) (code : P.Option K.Class) (low : P.Option ℕ) (ts : List Token) (kinds : List ℕ) (l : List Stmt) : Type 0 where
  pub left : List Stmt
  pub passed : Option Class
  pub held : RowsHeld ts kinds places n rows at to (list_entries left)
  pub code_is : code ≡ class_code passed
  pub class_is : list_class l ≡ pair seq_class passed (list_class left)
  pub lowest_is : lowest_of (list_offences l) ≡ lower low (lowest_of (list_offences left))

pub record RestFound (rows places : List ℕ) (n from to at : ℕ) (code : P.Option K.Class) (low : P.Option ℕ) : Type 0 where
  pub behind : from ≤ at
  pub inside : at ≤ to
  pub rest : (ts : List Token) (kinds : List ℕ) (l : List Stmt) → RowsHeld ts kinds places n rows from to (list_entries l)
      → Rest rows places n at to code low ts kinds l

pub rest_first : {rows places : List ℕ} {n from to : ℕ} → from ≤ to → RestFound rows places n from to from (P.Some V.A) P.None
unfolding class_code lower
rest_first h = record {
  behind = omega arith;
  inside = h;
  rest = λ ts kinds l z. record { left = l; passed = some A; held = z; code_is = refl; class_is = sym (sequence_first (list_class l)); lowest_is = refl };
}

-- one statement more
again : {rows places : List ℕ} {n at to end : ℕ} {code code' : P.Option K.Class} {low' : P.Option ℕ} {f : Summary} {ts : List Token} {kinds : List ℕ} (l left : List Stmt) (passed : Option Class)
    (low : P.Option ℕ) → at < to → end ≡ max (at + 1) (min (number_of rows at 5) to)
    → StatementFound rows places n at end f → code' ≡ sequence_code code f.class → low' ≡ lower low f.lowest
    → RowsHeld ts kinds places n rows at to (list_entries left) → code ≡ class_code passed → list_class l ≡ pair seq_class passed (list_class left)
    → lowest_of (list_offences l) ≡ lower low (lowest_of (list_offences left))
    → Rest rows places n end to code' low' ts kinds l
unfolding list_entries list_class list_offences
again l [] passed low i e f u v h c k w = absurd (let z = h.count in omega arith)
again {rows} {at = at} {to} {end} {ts = ts} {kinds} l (s ∷ left) passed low i e f u v h c k w =
    let r = rows_append ts rows at (stmt_entries s) (list_entries left) h.are in
    let j = statement_end ts rows at s r.0 in
    let z = h.count in
    let y = length-append (stmt_entries s) (list_entries left) in
    let o = statement_some s in
    let g : end ≡ at + length (stmt_entries s) = omega arith in
    let q = f.is ts kinds s (record { tokens = h.tokens; are = r.0; count = g }) in
    record {
      left = left;
      passed = pair seq_class passed (class s);
      held = record { tokens = h.tokens; are = rw g r.1; count = omega arith };
      code_is = u ∙ (rw (q, c) (sequence_is passed (class s)));
      class_is = k ∙ sym (sequence_assoc passed (class s) (list_class left));
      lowest_is = w ∙ (ap (lower low) (lowest_append (each loops_of (within s)) (list_offences left))
          ∙ (sym (lower_assoc low (lowest_of (each loops_of (within s))) (lowest_of (list_offences left))) ∙ rw (v, q)));
    }

pub rest_again : {rows places : List ℕ} {n from to at end : ℕ} {code : P.Option K.Class} {low : P.Option ℕ} {code' : P.Option K.Class} {low' : P.Option ℕ} {f : Summary} → RestFound rows places n from to at code low → at < to → end
    ≡ max (at + 1) (min (number_of rows at 5) to)
    → StatementFound rows places n at end f → code' ≡ sequence_code code f.class → low' ≡ lower low f.lowest
    → RestFound rows places n from to end code' low'
rest_again {low = low} g i e f u v = record {
  behind = let a = g.behind in omega arith;
  inside = omega arith;
  rest = λ ts kinds l z. let r = g.rest ts kinds l z in again l r.left r.passed low i e f u v r.held r.code_is r.class_is r.lowest_is;
}

-- none is left
stop : {rows places : List ℕ} {n to : ℕ} {code : P.Option K.Class} {low : P.Option ℕ} {ts : List Token} {kinds : List ℕ} (at : ℕ) (l left : List Stmt) (passed : Option Class) → to ≤ at
    → RowsHeld ts kinds places n rows at to (list_entries left) → code ≡ class_code passed → list_class l ≡ pair seq_class passed (list_class left)
    → lowest_of (list_offences l) ≡ lower low (lowest_of (list_offences left))
    → record { class = code; lowest = low } ≡ of_list l
unfolding list_entries list_class list_offences lowest option_of
stop {low = low} at l [] passed i h c k w = same_summary (c ∙ ap class_code (sym (k ∙ sequence_last passed))) (sym (w ∙ lower_none low))
stop at l (s ∷ left) passed i h c k w = absurd
    (let z = h.count in let y = length-append (stmt_entries s) (list_entries left) in let o = statement_some s in omega arith)

pub rest_stop : {rows places : List ℕ} {n from to at : ℕ} {code : P.Option K.Class} {low : P.Option ℕ} → RestFound rows places n from to at code low → to ≤ at
    → BlockFound rows places n from to (record { class = code; lowest = low })
rest_stop {at = at} g i = record {
  is = λ ts kinds l z. let r = g.rest ts kinds l z in stop at l r.left r.passed i r.held r.code_is r.class_is
      r.lowest_is;
}
