-- Arrays that hold a statement hold its parts, each from its own row and operation on. Assumes nothing.
use mathlib.Core.Path.{◌≡◌, refl, sym, ◌∙◌, ap}
use mathlib.Core.List.{List, [], ◌∷◌, ◌++◌, append_assoc}
use Prim.Native.Nat.{ℕ, suc, ◌+◌}
use native.Mathlib.Omega.{arith}
use lib.ListN.{length, length-append}
use lib.IntN.{ℤ}
use Rattle.spec_design.specs.Expression.{Expr}
use Rattle.spec_design.specs.Statement.{output, variable, null, Stmt, act, wait, if_then, if_else, while, seq, size}
use Rattle.spec_design.specs.Process.{Process}
use Rattle.base_ir.specs.Operations.{Op, ops}
use Rattle.base_ir.specs.Entries.{Entry, entry, entries, entry_ops}
use Rattle.base_ir.specs.Arrays.{ops_from, Row, row_in, rows_from, rows_of, At, BodyIn}

-- as many entries as numbers
pub entries_size : (s : Stmt) → length (entries s) ≡ size s
unfolding entries size
entries_size (act (output k e)) = refl
entries_size (act (variable k e)) = refl
entries_size (act null) = refl
entries_size wait = refl
entries_size (if_then e a) = ap suc (entries_size a)
entries_size (if_else e a b) = ap suc (length-append (entries a) (entries b) ∙ rw (entries_size a, entries_size b))
entries_size (while e b) = ap suc (entries_size b)
entries_size (seq a b) = length-append (entries a) (entries b) ∙ rw (entries_size a, entries_size b)

-- the operations of two lists of statements
pub entry_ops_append : (xs ys : List Entry) → entry_ops (xs ++ ys) ≡ entry_ops xs ++ entry_ops ys
unfolding entry_ops
entry_ops_append [] ys = refl
entry_ops_append (e ∷ xs) ys = ap (λ (l : List Op). e.ops ++ l) (entry_ops_append xs ys) ∙ sym (append_assoc e.ops (entry_ops xs) (entry_ops ys))

-- equal lists whose first parts are equally long have equal parts
cons_head : {A : Type 0} {x y : A} {xs ys : List A} → x ∷ xs ≡ y ∷ ys → x ≡ y
cons_head e = cc

cons_tail : {A : Type 0} {x y : A} {xs ys : List A} → x ∷ xs ≡ y ∷ ys → xs ≡ ys
cons_tail e = cc

-- a list by position begins and goes on as one that it equals
ops_split : (codes : List ℕ) (args : List ℤ) (m : ℕ) (xs ys : List Op) → ops_from codes args m (length (xs ++ ys)) ≡ xs ++ ys
    → (ops_from codes args m (length xs) ≡ xs) × (ops_from codes args (m + length xs) (length ys) ≡ ys)
unfolding ops_from
ops_split codes args m [] ys e = (refl, (let z : m + 0 ≡ m = omega arith in rw z e))
ops_split codes args m (x ∷ xs) ys e =
    let r = ops_split codes args (m + 1) xs ys (cons_tail e) in
    let z : m + suc (length xs) ≡ m + 1 + length xs = omega arith in
    (rw (cons_head e, r.0), rw z r.1)

-- the rows of two lists of statements
rows_append : (s m : ℕ) (xs ys : List Entry) → rows_of s m (xs ++ ys) ≡ rows_of s m xs ++ rows_of (s + length xs) (m + length (entry_ops xs)) ys
unfolding rows_of entry_ops
rows_append s m [] ys = let z : s + 0 ≡ s = omega arith in let y : m + 0 ≡ m = omega arith in rw (z, y)
rows_append s m (e ∷ xs) ys =
    let z : s + suc (length xs) ≡ s + 1 + length xs = omega arith in
    let n = length-append e.ops (entry_ops xs) in
    let y : m + length (e.ops ++ entry_ops xs) ≡ m + length e.ops + length (entry_ops xs) = omega arith in
    rw (z, y, rows_append (s + 1) (m + length e.ops) xs ys)

rows_of_length : (s m : ℕ) (xs : List Entry) → length (rows_of s m xs) ≡ length xs
unfolding rows_of
rows_of_length s m [] = refl
rows_of_length s m (e ∷ xs) = ap suc (rows_of_length (s + 1) (m + length e.ops) xs)

rows_split : (rows : List ℕ) (j : ℕ) (xs ys : List Row) → rows_from rows j (length (xs ++ ys)) ≡ xs ++ ys
    → (rows_from rows j (length xs) ≡ xs) × (rows_from rows (j + length xs) (length ys) ≡ ys)
unfolding rows_from
rows_split rows j [] ys e = (refl, (let z : j + 0 ≡ j = omega arith in rw z e))
rows_split rows j (x ∷ xs) ys e =
    let r = rows_split rows (j + 1) xs ys (cons_tail e) in
    let z : j + suc (length xs) ≡ j + 1 + length xs = omega arith in
    (rw (cons_head e, r.0), rw z r.1)

-- lists of statements in the arrays
record Listed (codes : List ℕ) (args : List ℤ) (rows : List ℕ) (es : List Entry) (j m : ℕ) : Type 0 where
  pub lines : rows_from rows j (length es) ≡ rows_of j m es
  pub code : ops_from codes args m (length (entry_ops es)) ≡ entry_ops es

listed : {codes : List ℕ} {args : List ℤ} {rows : List ℕ} {s : Stmt} {j m : ℕ} → At codes args rows s j m → Listed codes args rows (entries s) j m
listed {s = s} a = record { lines = rw (entries_size s) a.lines; code = a.code }

unlisted : {codes : List ℕ} {args : List ℤ} {rows : List ℕ} {s : Stmt} {j m : ℕ} → Listed codes args rows (entries s) j m → At codes args rows s j m
unlisted {s = s} a = record { lines = rw (sym (entries_size s)) a.lines; code = a.code }

listed_split : {codes : List ℕ} {args : List ℤ} {rows : List ℕ} (xs ys : List Entry) {j m : ℕ} → Listed codes args rows (xs ++ ys) j m
    → Listed codes args rows xs j m × Listed codes args rows ys (j + length xs) (m + length (entry_ops xs))
listed_split {codes} {args} {rows} xs ys {j} {m} a =
    let n = rows_of_length j m xs in
    let n' = rows_of_length (j + length xs) (m + length (entry_ops xs)) ys in
    let l = rows_split rows j (rows_of j m xs) (rows_of (j + length xs) (m + length (entry_ops xs)) ys) (
    let w : length (rows_of j m xs ++ rows_of (j + length xs) (m + length (entry_ops xs)) ys) ≡ length (xs ++ ys) =
    length-append (rows_of j m xs) (rows_of (j + length xs) (m + length (entry_ops xs)) ys) ∙ (rw (n, n') (sym (length-append xs ys))) in
    rw w (a.lines ∙ rows_append j m xs ys)
    ) in
    let c = ops_split codes args m (entry_ops xs) (entry_ops ys) (rw (sym (entry_ops_append xs ys)) a.code) in
    (record { lines = rw n at l.0; code = c.0 }, record { lines = moved _ _ _ _ _ n n' l.1; code = c.1 })
  where
    moved : (q q' d d' : ℕ) (x : List Row) → q ≡ q' → d ≡ d' → rows_from rows (j + q) d ≡ x → rows_from rows (j + q') d' ≡ x
    moved q q' d d' x e g f = rw (sym e, sym g) f

-- the first statement of a list: its row, its operations, and the others
listed_cons : {codes : List ℕ} {args : List ℤ} {rows : List ℕ} (e : Entry) (es : List Entry) {j m : ℕ} → Listed codes args rows (e ∷ es) j m
    → (row_in rows j ≡ record { kind = e.kind; target = e.target; from = m; to = m + length e.ops; other = j + 1 + e.part; end = j + 1 + e.inside })
    × ((ops_from codes args m (length e.ops) ≡ e.ops) × Listed codes args rows es (j + 1) (m + length e.ops))
unfolding rows_from rows_of entry_ops
listed_cons {codes} {args} {rows} e es {j} {m} a =
    let c = ops_split codes args m e.ops (entry_ops es) a.code in
    (cons_head a.lines, (c.0, record { lines = cons_tail a.lines; code = c.1 }))

-- THE PARTS OF A STATEMENT

-- a statement's own row and operations
pub record Own (codes : List ℕ) (args : List ℤ) (rows : List ℕ) (kind target : ℕ) (own : List Op) (j m part inside : ℕ) : Type 0 where
  pub line : row_in rows j ≡ record { kind = kind; target = target; from = m; to = m + length own; other = j + 1 + part; end = j + 1 + inside }
  pub code : ops_from codes args m (length own) ≡ own

-- the whole body
pub at_whole : {p : Process} {codes : List ℕ} {args : List ℤ} {rows : List ℕ} {k s : ℕ} → BodyIn p codes args rows k s → At codes args rows p.body 0 0
at_whole {p} {codes} {args} {rows} {k} {s} b =
    let n : s ≡ size p.body = sym b.lines.count ∙ entries_size p.body in
    let c : k ≡ length (entry_ops (entries p.body)) = sym b.code.count in
    record { lines = rw n at b.lines.are; code = rw c at b.code.are }

-- a sequence: its first part, and the rest behind it
pub at_first : {codes : List ℕ} {args : List ℤ} {rows : List ℕ} {a b : Stmt} {j m : ℕ} → At codes args rows (seq a b) j m → At codes args rows a j m
unfolding entries
at_first {a = a} {b} h = unlisted (listed_split (entries a) (entries b) (listed h)).0

pub at_rest : {codes : List ℕ} {args : List ℤ} {rows : List ℕ} {a b : Stmt} {j m : ℕ} → At codes args rows (seq a b) j m
    → At codes args rows b (j + size a) (m + length (entry_ops (entries a)))
unfolding entries
at_rest {codes} {args} {rows} {a} {b} {j} {m} h = rw (entries_size a) at (unlisted {s = b} (listed_split (entries a) (entries b) (listed h)).1)

pub at_output : {codes : List ℕ} {args : List ℤ} {rows : List ℕ} {k : ℕ} {e : Expr} {j m : ℕ} → At codes args rows (act (output k e)) j m
    → Own codes args rows 1 k (ops e) j m 0 0
unfolding entries
at_output {k = k} {e} h = let r = listed_cons (entry 1 k (ops e) 0 0) [] (listed h) in record { line = r.0; code = r.1.0 }

pub at_variable : {codes : List ℕ} {args : List ℤ} {rows : List ℕ} {k : ℕ} {e : Expr} {j m : ℕ} → At codes args rows (act (variable k e)) j m
    → Own codes args rows 2 k (ops e) j m 0 0
unfolding entries
at_variable {k = k} {e} h = let r = listed_cons (entry 2 k (ops e) 0 0) [] (listed h) in record { line = r.0; code = r.1.0 }

pub at_null : {codes : List ℕ} {args : List ℤ} {rows : List ℕ} {j m : ℕ} → At codes args rows (act null) j m → Own codes args rows 4 0 [] j m 0 0
unfolding entries
at_null h = let r = listed_cons (entry 4 0 [] 0 0) [] (listed h) in record { line = r.0; code = r.1.0 }

pub at_wait : {codes : List ℕ} {args : List ℤ} {rows : List ℕ} {j m : ℕ} → At codes args rows wait j m → Own codes args rows 0 0 [] j m 0 0
unfolding entries
at_wait h = let r = listed_cons (entry 0 0 [] 0 0) [] (listed h) in record { line = r.0; code = r.1.0 }

-- an if without else; a while: the own row, and the statements inside
pub at_if : {codes : List ℕ} {args : List ℤ} {rows : List ℕ} {e : Expr} {a : Stmt} {j m : ℕ} → At codes args rows (if_then e a) j m
    → Own codes args rows 3 0 (ops e) j m (size a) (size a) × At codes args rows a (j + 1) (m + length (ops e))
unfolding entries
at_if {e = e} {a} h = let r = listed_cons (entry 3 0 (ops e) (size a) (size a)) (entries a) (listed h) in
    (record { line = r.0; code = r.1.0 }, unlisted r.1.1)

pub at_while : {codes : List ℕ} {args : List ℤ} {rows : List ℕ} {e : Expr} {a : Stmt} {j m : ℕ} → At codes args rows (while e a) j m
    → Own codes args rows 5 0 (ops e) j m (size a) (size a) × At codes args rows a (j + 1) (m + length (ops e))
unfolding entries
at_while {e = e} {a} h = let r = listed_cons (entry 5 0 (ops e) (size a) (size a)) (entries a) (listed h) in
    (record { line = r.0; code = r.1.0 }, unlisted r.1.1)

-- an if with else: the own row, and both parts
pub at_else : {codes : List ℕ} {args : List ℤ} {rows : List ℕ} {e : Expr} {a b : Stmt} {j m : ℕ} → At codes args rows (if_else e a b) j m
    → Own codes args rows 3 0 (ops e) j m (size a) (size a + size b)
    × (At codes args rows a (j + 1) (m + length (ops e)) × At codes args rows b (j + 1 + size a) (m + length (ops e) + length (entry_ops (entries a))))
unfolding entries
at_else {codes} {args} {rows} {e} {a} {b} {j} {m} h =
    let r = listed_cons (entry 3 0 (ops e) (size a) (size a + size b)) (entries a ++ entries b) (listed h) in
    let q = listed_split (entries a) (entries b) r.1.1 in
    (record { line = r.0; code = r.1.0 }, (unlisted q.0, rw (entries_size a) at (unlisted {s = b} q.1)))
