-- The statements of a text and their depth: after every token the counts keep their limits exactly where the tree does. A machine keeps the statements so far,
-- the depth, and the depth of the deepest statement so far; by induction over the tree these end as the tree has them. Assumes nothing.
use mathlib.Core.Path.{◌≡◌, refl, ap}
use mathlib.Core.Logic.{◌↔◌}
use mathlib.Core.List.{List}
use Prim.Native.Nat.{ℕ, suc, pred, ◌+◌, ◌≤◌, max}
use native.Mathlib.Omega.{arith}
use Rattle.spec_grammar.specs.Token.{Token}
use Rattle.spec_grammar.specs.Tree.{Expr, Stmt, output, assign, null, wait, if_then, if_else, while, Body, only, and_then, Text}
use Rattle.spec_grammar.specs.Grammar.{text, Mark, plain, item, opens, closes, fresh, stmt, stmt_fresh, deeper, shallower, declares, ins, outs, variables}
use Rattle.spec_grammar.specs.Meter.{Meter, zeroes, tick}
use Rattle.spec_grammar.specs.Limits.{stmt_count, body_count, stmt_depth, body_depth}
use Rattle.spec_grammar.specs.Derivation.{Reads}
use Rattle.spec_grammar.proofs.Walk.{on_expr, on_stmt, on_body, on_text}
use Rattle.spec_grammar.proofs.Along.{Along, Follows, text_along, by_marks, follows_marks}
use Rattle.spec_grammar.proofs.Idle.{expr_idle, text_body}

record State : Type 0 where
  statements : ℕ
  depth : ℕ
  deepest : ℕ

begun : State → State
begun s = record { statements = suc s.statements; depth = s.depth; deepest = max s.deepest s.depth }

act : Mark → State → State
act plain s = s
act item s = s
act opens s = s
act closes s = s
act fresh s = s
act stmt s = begun s
act stmt_fresh s = begun s
act deeper s = record { statements = s.statements; depth = suc s.depth; deepest = s.deepest }
act shallower s = record { statements = s.statements; depth = pred s.depth; deepest = s.deepest }
act declares s = s
act ins s = s
act outs s = s
act variables s = s

-- the machine's counts are the meter's
record Fits (c : Meter) (s : State) : Type 0 where
  count : c.body.statements ≡ s.statements
  depth : c.body.depth ≡ s.depth

-- the counts keep the limits; so did all counts so far; so does the tree
abbrev pub Kept : Meter → Type 0
Kept c = (c.body.statements ≤ 512) × (c.body.begun ≤ 16)

abbrev Well : State → Type 0
Well s = (s.statements ≤ 512) × (s.deepest ≤ 16)

abbrev pub Keeps : Text → Type 0
Keeps t = (body_count t.body ≤ 512) × (body_depth 1 t.body ≤ 16)

-- It follows the meter.
follows : (c : Meter) (s : State) → Fits c s → (m : Mark) (x : Token) → Follows Fits Kept Well s (act m s) (tick c m x)
unfolding act begun tick
follows c s f plain x = omega arith
follows c s f item x = omega arith
follows c s f opens x = omega arith
follows c s f closes x = omega arith
follows c s f fresh x = omega arith
follows c s f stmt x = omega arith
follows c s f stmt_fresh x = omega arith
follows c s f deeper x = omega arith
follows c s f shallower x = record { fits = record { count = f.count; depth = ap pred f.depth }; ends = omega arith; goes_on = omega arith }
follows c s f declares x = omega arith
follows c s f ins x = omega arith
follows c s f outs x = omega arith
follows c s f variables x = omega arith

-- A statement is at least as deep as the list that it stands in.
mutual
  unfolding stmt_depth

  stmt_deep : (n : ℕ) (s : Stmt) → n ≤ stmt_depth n s
  stmt_deep n (output x e) = omega arith
  stmt_deep n (assign x e) = omega arith
  stmt_deep n null = omega arith
  stmt_deep n (wait x) = omega arith
  stmt_deep n (if_then i e a) = let h = body_deep (suc n) a in omega arith
  stmt_deep n (if_else i e a b) = let h = body_deep (suc n) a in omega arith
  stmt_deep n (while w e a) = let h = body_deep (suc n) a in omega arith

  body_deep : (n : ℕ) (b : Body) → n ≤ body_depth n b
  body_deep n (only s) = stmt_deep n s
  body_deep n (and_then s b) = let h = stmt_deep n s in omega arith

below : (n : ℕ) (a : Body) → n ≤ body_depth (suc n) a
below n a = omega (arith, body_deep (suc n) a)

-- The machine after statements that count k, of which the deepest is at d, in a list at depth n.
record Ends (n k d : ℕ) (s s' : State) : Type 0 where
  count : s'.statements ≡ s.statements + k
  depth : s'.depth ≡ n
  deepest : s'.deepest ≡ max s.deepest d

expr_same : (e : Expr) (s : State) → on_expr (by_marks act) e s ≡ s
unfolding act
expr_same e s = expr_idle act (λ c. refl) (λ c. refl) (λ c. refl) e s

-- one list after another at the same depth
ends_twice : (n j k d e : ℕ) (s t u : State) → Ends n j d s t → Ends n k e t u → Ends n (j + k) (max d e) s u
ends_twice n j k d e s t u g h = record { count = omega arith; depth = h.depth; deepest = omega arith }

-- a statement with lists one deeper
ends_deeper : (n k d : ℕ) (s t : State) → s.depth ≡ n → n ≤ d → Ends (suc n) k d (act deeper (begun s)) t → Ends n (suc k) d s (act shallower t)
unfolding act begun
ends_deeper n k d s t e l h = record { count = omega arith; depth = ap pred h.depth; deepest = omega arith }

mutual
  unfolding on_stmt stmt_count stmt_depth act begun

  stmt_ends : (s : Stmt) (n : ℕ) (c : State) → c.depth ≡ n → Ends n (stmt_count s) (stmt_depth n s) c (on_stmt (by_marks act) s c)
  stmt_ends (output x e) n c h = rw (expr_same e) (omega arith)
  stmt_ends (assign x e) n c h = rw (expr_same e) (omega arith)
  stmt_ends null n c h = omega arith
  stmt_ends (wait x) n c h = omega arith
  stmt_ends (if_then i e a) n c h = rw (expr_same e) (
      ends_deeper n (body_count a) (body_depth (suc n) a) c _ h (below n a) (body_ends a (suc n) (act deeper (begun c)) (ap suc h)))
  stmt_ends (if_else i e a b) n c h =
      let c1 : State = act deeper (begun c) in
      let c2 : State = on_body (by_marks act) a c1 in
      let g : Ends (suc n) (body_count a) (body_depth (suc n) a) c1 c2 = body_ends a (suc n) c1 (ap suc h) in
      let k : Ends (suc n) (body_count b) (body_depth (suc n) b) c2 (on_body (by_marks act) b c2) = body_ends b (suc n) c2 g.depth in
      rw (expr_same e) (ends_deeper n (body_count a + body_count b) (max (body_depth (suc n) a) (body_depth (suc n) b)) c (on_body (by_marks act) b c2) h
      (omega (arith, below n a))
      (ends_twice (suc n) (body_count a) (body_count b) (body_depth (suc n) a) (body_depth (suc n) b) c1 c2 (on_body (by_marks act) b c2) g k))
  stmt_ends (while w e a) n c h = rw (expr_same e) (
      ends_deeper n (body_count a) (body_depth (suc n) a) c _ h (below n a) (body_ends a (suc n) (act deeper (begun c)) (ap suc h)))

  body_ends : (b : Body) (n : ℕ) (c : State) → c.depth ≡ n → Ends n (body_count b) (body_depth n b) c (on_body (by_marks act) b c)
  body_ends (only s) n c h = stmt_ends s n c h
  body_ends (and_then s b) n c h =
      let g : Ends n (stmt_count s) (stmt_depth n s) c (on_stmt (by_marks act) s c) = stmt_ends s n c h in
      ends_twice n (stmt_count s) (body_count b) (stmt_depth n s) (body_depth n b) c (on_stmt (by_marks act) s c)
      (on_body (by_marks act) b (on_stmt (by_marks act) s c)) g
      (body_ends b n (on_stmt (by_marks act) s c) g.depth)

start : State
start = record { statements = 0; depth = 1; deepest = 0 }

-- Declarations do not move it.
text_is : (t : Text) → on_text (by_marks act) t start ≡ on_body (by_marks act) t.body start
unfolding act
text_is t = text_body act (λ c. refl) (λ c. refl) (λ c. refl) (λ c. refl) (λ c. refl) t start

-- After every token of a text the counts of statements and depth keep their limits exactly where its tree does.
pub statements_kept : (ts : List Token) (es : List Mark) (t : Text) → Reads text ts es t → Along Kept zeroes ts es ↔ Keeps t
unfolding start
statements_kept ts es t r =
    let g : Ends 1 (body_count t.body) (body_depth 1 t.body) start (on_body (by_marks act) t.body start) = body_ends t.body 1 start refl in
    let k : Along Kept zeroes ts es ↔ Well (on_body (by_marks act) t.body start) =
    rw (text_is t) at (text_along (by_marks act) Fits Kept Well (follows_marks act Fits Kept Well follows) ts es t r start (omega arith) (omega arith)) in
    let ends : Well (on_body (by_marks act) t.body start) ↔ Keeps t = ((λ w. omega arith), λ w. omega arith) in
    ((λ a. ends.0 (k.0 a)), λ w. k.1 (ends.1 w))
