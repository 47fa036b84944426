-- A text has at least one token for each statement and for each literal, name and operator of its expressions: a machine counts these tokens, and each
-- is one of the text's. Later the size of an image is bounded by it. Assumes nothing.
use mathlib.Core.Path.{◌≡◌, refl}
use mathlib.Core.Bool.{Bool, true, false, cond}
use mathlib.Core.List.{List, [], ◌∷◌}
use Prim.Native.Nat.{ℕ, suc, ◌+◌, ◌≤◌}
use native.Mathlib.Omega.{arith}
use lib.Dec.{eqb}
use lib.ListN.{length}
use Rattle.spec_grammar.specs.Token.{Token}
use Rattle.base_codes.specs.Token.{NAME, NUMBER}
use Rattle.spec_grammar.specs.Tree.{Expr, number, bit, name, sign, negate, binary, parens, Stmt, output, assign, null, wait, if_then, if_else, while}
use Rattle.spec_grammar.specs.Tree.{Body, only, and_then, Text}
use Rattle.spec_grammar.specs.Grammar.{text, Mark, plain, item, opens, closes, fresh, stmt, stmt_fresh, deeper, shallower, declares, ins, outs, variables}
use Rattle.spec_grammar.specs.Limits.{item_count, stmt_count, body_count}
use Rattle.spec_grammar.specs.Derivation.{Reads}
use Rattle.spec_grammar.proofs.Walk.{step, steps, on_expr, on_stmt, on_body, on_text, text_walked}
use Rattle.spec_grammar.proofs.Along.{by_marks}
use Rattle.spec_grammar.proofs.Idle.{text_body}

-- the items of all expressions
unfoldable mutual
  pub stmt_items : Stmt → ℕ
  stmt_items (output x e) = item_count e
  stmt_items (assign x e) = item_count e
  stmt_items null = 0
  stmt_items (wait x) = 0
  stmt_items (if_then i e a) = item_count e + body_items a
  stmt_items (if_else i e a b) = item_count e + (body_items a + body_items b)
  stmt_items (while w e a) = item_count e + body_items a

  pub body_items : Body → ℕ
  body_items (only s) = stmt_items s
  body_items (and_then s b) = stmt_items s + body_items b

-- counts an item, and the first token of a statement
act : Mark → ℕ → ℕ
act plain n = n
act item n = suc n
act opens n = n
act closes n = n
act fresh n = n
act stmt n = suc n
act stmt_fresh n = suc n
act deeper n = n
act shallower n = n
act declares n = n
act ins n = n
act outs n = n
act variables n = n

expr_counts : (e : Expr) (n : ℕ) → on_expr (by_marks act) e n ≡ n + item_count e
unfolding on_expr act item_count
expr_counts (number x) n = omega arith
expr_counts (bit x) n = omega arith
expr_counts (name x) n = omega arith
expr_counts (sign x a) n = let h = expr_counts a (suc n) in omega arith
expr_counts (negate x a) n = let h = expr_counts a (suc n) in omega arith
expr_counts (binary x a b) n =
    let h = expr_counts a n in
    let k = expr_counts b (suc (on_expr (by_marks act) a n)) in
    omega arith
expr_counts (parens a) n = let h = expr_counts a n in omega arith

mutual
  unfolding on_stmt act stmt_count stmt_items

  stmt_counts : (s : Stmt) (n : ℕ) → on_stmt (by_marks act) s n ≡ n + (stmt_count s + stmt_items s)
  stmt_counts (output x e) n = let h = expr_counts e (suc n) in omega arith
  stmt_counts (assign x e) n = let h = expr_counts e (suc n) in omega arith
  stmt_counts null n = omega arith
  stmt_counts (wait x) n = omega arith
  stmt_counts (if_then i e a) n = let h = expr_counts e (suc n) in let k = body_counts a (on_expr (by_marks act) e (suc n)) in omega arith
  stmt_counts (if_else i e a b) n =
      let h = expr_counts e (suc n) in
      let k = body_counts a (on_expr (by_marks act) e (suc n)) in
      let l = body_counts b (on_body (by_marks act) a (on_expr (by_marks act) e (suc n))) in
      omega arith
  stmt_counts (while w e a) n = let h = expr_counts e (suc n) in let k = body_counts a (on_expr (by_marks act) e (suc n)) in omega arith

  body_counts : (b : Body) (n : ℕ) → on_body (by_marks act) b n ≡ n + (body_count b + body_items b)
  body_counts (only s) n = stmt_counts s n
  body_counts (and_then s b) n = let h = stmt_counts s n in let k = body_counts b (on_stmt (by_marks act) s n) in omega arith

-- a token counts for at most one
act_one : (m : Mark) (n : ℕ) → act m n ≤ suc n
unfolding act
act_one plain n = omega arith
act_one item n = omega arith
act_one opens n = omega arith
act_one closes n = omega arith
act_one fresh n = omega arith
act_one stmt n = omega arith
act_one stmt_fresh n = omega arith
act_one deeper n = omega arith
act_one shallower n = omega arith
act_one declares n = omega arith
act_one ins n = omega arith
act_one outs n = omega arith
act_one variables n = omega arith

step_one : (m : Mark) (x : Token) (n : ℕ) → step (by_marks act) m x.kind x n ≤ suc n
step_one m x n = go (eqb x.kind NAME) (eqb x.kind NUMBER)
  where
    go : (a b : Bool) → cond a (act m n) (cond b (act m n) (act m n)) ≤ suc n
    go true b = act_one m n
    go false true = act_one m n
    go false false = act_one m n

steps_room : (ts : List Token) (es : List Mark) (n : ℕ) → steps (by_marks act) n ts es ≤ n + length ts
unfolding steps
steps_room [] es n = omega arith
steps_room (x ∷ ts) [] n = omega arith
steps_room (x ∷ ts) (e ∷ es) n = let h = step_one e x n in let k = steps_room ts es (step (by_marks act) e x.kind x n) in omega arith

pub tokens_room : (ts : List Token) (es : List Mark) (t : Text) → Reads text ts es t → body_count t.body + body_items t.body ≤ length ts
unfolding act
tokens_room ts es t r =
    let h = steps_room ts es 0 in
    let k : steps (by_marks act) 0 ts es ≡ on_text (by_marks act) t 0 = text_walked (by_marks act) ts es t r 0 in
    let b : on_text (by_marks act) t 0 ≡ on_body (by_marks act) t.body 0 = text_body act (λ c. refl) (λ c. refl) (λ c. refl) (λ c. refl) (λ c. refl) t 0 in
    let l = body_counts t.body 0 in
    omega arith
