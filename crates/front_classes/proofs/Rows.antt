-- The rows of statements: those of the first of two lists and those of the second, and where a statement ends. Assumes nothing.
use mathlib.Core.Path.{◌≡◌, ap}
use mathlib.Core.List.{List, [], ◌∷◌, ◌++◌, map}
use Prim.Native.Nat.{ℕ, zero, suc, ◌+◌, ◌*◌, ◌<◌}
use native.Mathlib.Omega.{arith}
use native.Mathlib.Nat.{add-zero}
use lib.ListN.{length, length-append}
use Rattle.spec_grammar.specs.Token.{Token}
use Rattle.spec_grammar.specs.Tree.{Stmt, output, assign, null, wait, if_then, if_else, while}
use Rattle.front_layout.specs.Entries.{Entry, stmt_entries, body_entries}
use Rattle.front_layout.specs.Rows.{Line, seen, lines_from}
use Rattle.front_layout.specs.Arrays.{RowsIn, row_in, rows_from}
use Rattle.front_classes.specs.Held.{number_of, RowIs, RowsAre}

pub rows_append : (ts : List Token) (rows : List ℕ) (j : ℕ) (xs ys : List Entry) → RowsAre ts rows j (xs ++ ys)
    → RowsAre ts rows j xs × RowsAre ts rows (j + length xs) ys
rows_append ts rows j [] ys h = (tt, rw add-zero h)
rows_append ts rows j (x ∷ xs) ys h =
    let r = rows_append ts rows (j + 1) xs ys h.1 in
    let e : j + 1 + length xs ≡ j + suc (length xs) = omega arith in
    ((h.0, r.0), rw e at r.1)

-- the rows of the parsed text
row_is : {ts : List Token} {rows : List ℕ} {j m : ℕ} {e : Entry} → seen ts (row_in rows j)
    ≡ record { kind = e.kind; token = e.token; from = m; to = m + length e.items; other = j + 1 + e.part; end = j + 1 + e.inside } → RowIs ts rows j e
row_is {ts} {rows} {j} {m} {e} h =
    let z : 6 * j + 0 ≡ 6 * j = omega arith in
    record {
      kind = rw z (ap (λ (l : Line). l.kind) h);
      token = ap (λ (l : Line). l.token) h;
      other = ap (λ (l : Line). l.other) h;
      end = ap (λ (l : Line). l.end) h;
    }

rows_from_lem : (ts : List Token) (rows : List ℕ) (j m c : ℕ) (es : List Entry) → length es ≡ c → map (seen ts) (rows_from rows j c) ≡ lines_from j m es
    → RowsAre ts rows j es
unfolding rows_from lines_from
rows_from_lem ts rows j m c [] n h = tt
rows_from_lem ts rows j m zero (e ∷ es) n h = absurd (omega arith)
rows_from_lem ts rows j m (suc c) (e ∷ es) n h =
    let p : seen ts (row_in rows j)
    ≡ record { kind = e.kind; token = e.token; from = m; to = m + length e.items; other = j + 1 + e.part; end = j + 1 + e.inside } = cc in
    let q : map (seen ts) (rows_from rows (j + 1) c) ≡ lines_from (j + 1) (m + length e.items) es = cc in
    (row_is p, rows_from_lem ts rows (j + 1) (m + length e.items) c es (omega arith) q)

pub rows_of : {ts : List Token} {es : List Entry} {rows : List ℕ} {s : ℕ} → RowsIn ts es rows s → RowsAre ts rows 0 es
rows_of {ts} {es} {rows} {s} h = rows_from_lem ts rows 0 0 s es h.count h.are

-- the statement's own row says where it ends
pub statement_end : (ts : List Token) (rows : List ℕ) (j : ℕ) (s : Stmt) → RowsAre ts rows j (stmt_entries s) → number_of rows j 5 ≡ j + length (stmt_entries s)
unfolding stmt_entries
statement_end ts rows j (output x e) h = let z = h.0.end in omega arith
statement_end ts rows j (assign x e) h = let z = h.0.end in omega arith
statement_end ts rows j null h = let z = h.0.end in omega arith
statement_end ts rows j (wait x) h = let z = h.0.end in omega arith
statement_end ts rows j (if_then i e a) h = let z = h.0.end in omega arith
statement_end ts rows j (if_else i e a b) h = let z = h.0.end in let y = length-append (body_entries a) (body_entries b) in omega arith
statement_end ts rows j (while w e a) h = let z = h.0.end in omega arith

pub statement_some : (s : Stmt) → 0 < length (stmt_entries s)
unfolding stmt_entries
statement_some (output x e) = omega arith
statement_some (assign x e) = omega arith
statement_some null = omega arith
statement_some (wait x) = omega arith
statement_some (if_then i e a) = omega arith
statement_some (if_else i e a b) = omega arith
statement_some (while w e a) = omega arith
