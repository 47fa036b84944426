-- Items and parentheses of expressions: after every token the counts keep their limits exactly where the tree does. A machine keeps the two counts of the
-- expression
-- being read, and the highest value that each has had; by induction over the tree these are the highest over the tree's expressions. Assumes nothing.
use mathlib.Core.Path.{◌≡◌, refl, ap}
use mathlib.Core.Logic.{◌↔◌}
use mathlib.Core.List.{List, [], ◌∷◌, ◌++◌}
use Prim.Native.Nat.{ℕ, suc, pred, ◌+◌, ◌≤◌, max}
use native.Mathlib.Omega.{arith}
use Rattle.spec_grammar.specs.Token.{Token}
use Rattle.spec_grammar.specs.Tree.{Expr, number, bit, name, sign, negate, binary, parens, Stmt, output, assign, null, wait, if_then, if_else, while}
use Rattle.spec_grammar.specs.Tree.{Body, only, and_then, Text}
use Rattle.spec_grammar.specs.Grammar.{text, Mark, plain, item, opens, closes, fresh, stmt, stmt_fresh, deeper, shallower, declares, ins, outs, variables}
use Rattle.spec_grammar.specs.Meter.{Meter, zeroes, tick}
use Rattle.spec_grammar.specs.Limits.{Each, stmt_exprs, body_exprs, item_count, paren_depth}
use Rattle.spec_grammar.specs.Derivation.{Reads}
use Rattle.spec_grammar.proofs.Walk.{on_expr, on_stmt, on_body, on_text}
use Rattle.spec_grammar.proofs.Along.{Along, Follows, text_along, by_marks, follows_marks}
use Rattle.spec_grammar.proofs.Idle.{text_body}

record State : Type 0 where
  items : ℕ
  parens : ℕ
  most_items : ℕ
  most_parens : ℕ

cleared : State → State
cleared s = record { items = 0; parens = 0; most_items = s.most_items; most_parens = s.most_parens }

act : Mark → State → State
act plain s = s
act item s = record { items = suc s.items; parens = s.parens; most_items = max s.most_items (suc s.items); most_parens = s.most_parens }
act opens s = record { items = s.items; parens = suc s.parens; most_items = s.most_items; most_parens = max s.most_parens (suc s.parens) }
act closes s = record { items = s.items; parens = pred s.parens; most_items = s.most_items; most_parens = s.most_parens }
act fresh s = cleared s
act stmt s = s
act stmt_fresh s = cleared s
act deeper s = s
act shallower s = s
act declares s = s
act ins s = s
act outs s = s
act variables s = s

-- the machine's counts are the meter's
record Fits (c : Meter) (s : State) : Type 0 where
  items : c.expr.items ≡ s.items
  parens : c.expr.parens ≡ s.parens
  items_low : s.items ≤ s.most_items
  parens_low : s.parens ≤ s.most_parens

-- the counts keep the limits; so did all counts so far; so does the tree
abbrev pub Kept : Meter → Type 0
Kept c = (c.expr.items ≤ 64) × (c.expr.parens ≤ 16)

abbrev Well : State → Type 0
Well s = (s.most_items ≤ 64) × (s.most_parens ≤ 16)

abbrev pub Keeps : Text → Type 0
Keeps t = Each (λ (e : Expr). item_count e ≤ 64) (body_exprs t.body) × Each (λ (e : Expr). paren_depth e ≤ 16) (body_exprs t.body)

-- It follows the meter.
follows : (c : Meter) (s : State) → Fits c s → (m : Mark) (x : Token) → Follows Fits Kept Well s (act m s) (tick c m x)
unfolding act cleared tick
follows c s f plain x = omega arith
follows c s f item x = omega arith
follows c s f opens x = omega arith
follows c s f closes x =
    let e : pred c.expr.parens ≡ pred s.parens = ap pred f.parens in
    record {
      fits = record { items = f.items; parens = e; items_low = f.items_low; parens_low = lower f.parens_low };
      ends = λ w.
          (w, (omega arith, lower' e f.parens_low w.1));
      goes_on = λ w k. w;
    }
  where
    lower : {a b : ℕ} → a ≤ b → pred a ≤ b
    lower h = omega arith

    lower' : {d a b : ℕ} → d ≡ pred a → a ≤ b → b ≤ 16 → d ≤ 16
    lower' e h k = omega arith
follows c s f fresh x = omega arith
follows c s f stmt x = omega arith
follows c s f stmt_fresh x = omega arith
follows c s f deeper x = omega arith
follows c s f shallower x = omega arith
follows c s f declares x = omega arith
follows c s f ins x = omega arith
follows c s f outs x = omega arith
follows c s f variables x = omega arith

-- The machine after an expression, or part of one, with k items and d parentheses open at once.
record Read (k d : ℕ) (s s' : State) : Type 0 where
  items : s'.items ≡ s.items + k
  parens : s'.parens ≡ s.parens
  most_items : s'.most_items ≡ max s.most_items (s.items + k)
  most_parens : s'.most_parens ≡ max s.most_parens (s.parens + d)

abbrev Low : State → Type 0
Low s = s.parens ≤ s.most_parens

-- the machine after an operator, before its right operand
read_item : (k d : ℕ) (s t : State) → Read k d (act item s) t → Read (suc k) d s t
unfolding act
read_item k d s t h = record { items = omega arith; parens = h.parens; most_items = omega arith; most_parens = h.most_parens }

read_low : (k d : ℕ) (s t : State) → Read k d s t → Low s → Low t
read_low k d s t h l = omega arith

read_binary : (j k d e : ℕ) (s t u : State) → Read j d s t → Read k e (act item t) u → Read (suc (j + k)) (max d e) s u
unfolding act
read_binary j k d e s t u g h = record { items = omega arith; parens = omega arith; most_items = omega arith; most_parens = omega arith }

read_parens : (k d : ℕ) (s t : State) → Read k d (act opens s) t → Read k (suc d) s (act closes t)
unfolding act
read_parens k d s t h = record { items = h.items; parens = ap pred h.parens; most_items = h.most_items; most_parens = omega arith }

expr_read : (e : Expr) (s : State) → Low s → Read (item_count e) (paren_depth e) s (on_expr (by_marks act) e s)
unfolding on_expr item_count paren_depth act
expr_read (number x) s l = omega arith
expr_read (bit x) s l = omega arith
expr_read (name x) s l = omega arith
expr_read (sign x a) s l = read_item (item_count a) (paren_depth a) s (on_expr (by_marks act) a (act item s)) (expr_read a (act item s) l)
expr_read (negate x a) s l = read_item (item_count a) (paren_depth a) s (on_expr (by_marks act) a (act item s)) (expr_read a (act item s) l)
expr_read (binary x a b) s l =
    let t : State = on_expr (by_marks act) a s in
    let g : Read (item_count a) (paren_depth a) s t = expr_read a s l in
    let m : Low t = read_low (item_count a) (paren_depth a) s t g l in
    read_binary (item_count a) (item_count b) (paren_depth a) (paren_depth b) s t (on_expr (by_marks act) b (act item t)) g (expr_read b (act item t) m)
expr_read (parens a) s l = read_parens (item_count a) (paren_depth a) s (on_expr (by_marks act) a (act opens s)) (expr_read a (act opens s) (omega arith))

-- The highest of a list, which is within a limit exactly where each is.
highest : (Expr → ℕ) → List Expr → ℕ
highest f [] = 0
highest f (e ∷ es) = max (f e) (highest f es)

highest_append : (f : Expr → ℕ) (a b : List Expr) → highest f (a ++ b) ≡ max (highest f a) (highest f b)
unfolding highest
highest_append f [] b = omega arith
highest_append f (e ∷ a) b = let h = highest_append f a b in omega arith

each_highest : (f : Expr → ℕ) (n : ℕ) (l : List Expr) → highest f l ≤ n ↔ Each (λ (e : Expr). f e ≤ n) l
unfolding highest
each_highest f n [] = ((λ h. tt), λ h. omega arith)
each_highest f n (e ∷ l) = let k = each_highest f n l in ((λ h. (omega arith, k.0 (omega arith))), λ h. let g = k.1 h.1 in omega arith)

-- The machine after the expressions l.
record Peaks (l : List Expr) (s s' : State) : Type 0 where
  most_items : s'.most_items ≡ max s.most_items (highest item_count l)
  most_parens : s'.most_parens ≡ max s.most_parens (highest paren_depth l)

peaks_none : (s : State) → Peaks [] s s
unfolding highest
peaks_none s = omega arith

peaks_one : (e : Expr) (s : State) → Peaks (e ∷ []) s (on_expr (by_marks act) e (cleared s))
unfolding highest cleared
peaks_one e s = let h = expr_read e (cleared s) (omega arith) in record { most_items = omega arith; most_parens = omega arith }

peaks_append : (a b : List Expr) (s t u : State) → Peaks a s t → Peaks b t u → Peaks (a ++ b) s u
peaks_append a b s t u g h = record
    { most_items = omega (arith, highest_append item_count a b); most_parens = omega (arith, highest_append paren_depth a b) }

mutual
  unfolding on_stmt stmt_exprs act

  stmt_peaks : (s : Stmt) (c : State) → Peaks (stmt_exprs s) c (on_stmt (by_marks act) s c)
  stmt_peaks (output x e) c = peaks_one e c
  stmt_peaks (assign x e) c = peaks_one e c
  stmt_peaks null c = peaks_none c
  stmt_peaks (wait x) c = peaks_none c
  stmt_peaks (if_then i e a) c =
      let d : State = on_expr (by_marks act) e (cleared c) in
      peaks_append (e ∷ []) (body_exprs a) c d (on_body (by_marks act) a d) (peaks_one e c) (body_peaks a d)
  stmt_peaks (if_else i e a b) c =
      let d : State = on_expr (by_marks act) e (cleared c) in
      let r : State = on_body (by_marks act) a d in
      peaks_append (e ∷ []) (body_exprs a ++ body_exprs b) c d (on_body (by_marks act) b r) (peaks_one e c)
      (peaks_append (body_exprs a) (body_exprs b) d r (on_body (by_marks act) b r) (body_peaks a d) (body_peaks b r))
  stmt_peaks (while w e a) c =
      let d : State = on_expr (by_marks act) e (cleared c) in
      peaks_append (e ∷ []) (body_exprs a) c d (on_body (by_marks act) a d) (peaks_one e c) (body_peaks a d)

  body_peaks : (b : Body) (c : State) → Peaks (body_exprs b) c (on_body (by_marks act) b c)
  body_peaks (only s) c = stmt_peaks s c
  body_peaks (and_then s b) c =
      let d : State = on_stmt (by_marks act) s c in
      peaks_append (stmt_exprs s) (body_exprs b) c d (on_body (by_marks act) b d) (stmt_peaks s c) (body_peaks b d)

start : State
start = record { items = 0; parens = 0; most_items = 0; most_parens = 0 }

-- Declarations do not move it.
text_is : (t : Text) → on_text (by_marks act) t start ≡ on_body (by_marks act) t.body start
unfolding act
text_is t = text_body act (λ c. refl) (λ c. refl) (λ c. refl) (λ c. refl) (λ c. refl) t start

-- After every token of a text the counts of items and open parentheses keep their limits exactly where its tree does.
pub expressions_kept : (ts : List Token) (es : List Mark) (t : Text) → Reads text ts es t → Along Kept zeroes ts es ↔ Keeps t
unfolding start
expressions_kept ts es t r =
    let g : Peaks (body_exprs t.body) start (on_body (by_marks act) t.body start) = body_peaks t.body start in
    let k : Along Kept zeroes ts es ↔ Well (on_body (by_marks act) t.body start) =
    rw (text_is t) at (text_along (by_marks act) Fits Kept Well (follows_marks act Fits Kept Well follows) ts es t r start (omega arith) (omega arith)) in
    let i = each_highest item_count 64 (body_exprs t.body) in
    let j = each_highest paren_depth 16 (body_exprs t.body) in
    let ends : Well (on_body (by_marks act) t.body start) → Keeps t = λ w. (i.0 (omega arith), j.0 (omega arith)) in
    let back : Keeps t → Well (on_body (by_marks act) t.body start) = λ w. let a = i.1 w.0 in let b = j.1 w.1 in omega arith in
    ((λ a. ends (k.0 a)), λ w. k.1 (back w))
