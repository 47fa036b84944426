-- Refusal 8: "the first wait's name is no std_logic input, another wait differs, clock (if that input exists) read", at that name.
-- All offences of a tree. Assumes nothing.
use Rattle.std.specs.Prelude.{cond, not, List, [], ◌++◌, ℕ, eqb}
use Rattle.std.proofs.Math.Option.{Option, none, some}
use Rattle.spec_grammar.specs.Token.{Token}
use Rattle.spec_grammar.specs.Tree.{Expr, number, bit, name, sign, negate, binary, parens, Stmt, output, assign, null, wait, if_then, if_else, while, Text}
use Rattle.spec_language.specs.Lists.{unless, each}
use Rattle.spec_language.specs.Declarations.{Decl, declared, find, is_a, statements, clock_of, clock_like}

-- "clock read": the name c in an expression
unfoldable pub reads_in : ℕ → Expr → List ℕ
reads_in c (number x) = []
reads_in c (bit x) = []
reads_in c (name x) = unless (not (eqb x.value c)) x.place
reads_in c (sign x a) = reads_in c a
reads_in c (negate x a) = reads_in c a
reads_in c (binary x a b) = reads_in c a ++ reads_in c b
reads_in c (parens a) = reads_in c a

unfoldable pub reads_of : ℕ → Stmt → List ℕ
reads_of c (output x e) = reads_in c e
reads_of c (assign x e) = reads_in c e
reads_of c null = []
reads_of c (wait x) = []
reads_of c (if_then i e a) = reads_in c e
reads_of c (if_else i e a b) = reads_in c e
reads_of c (while w e a) = reads_in c e

-- "another wait differs": a wait with another name than c
unfoldable pub strays : ℕ → Stmt → List ℕ
strays c (output x e) = []
strays c (assign x e) = []
strays c null = []
strays c (wait x) = unless (eqb x.value c) x.place
strays c (if_then i e a) = []
strays c (if_else i e a b) = []
strays c (while w e a) = []

-- "(if that input exists)": without a std_logic input of the first wait's name no read is judged; without a wait nothing is
unfoldable pub clock_for : List Decl → List Stmt → Option Token → List ℕ
clock_for Δ l none = []
clock_for Δ l (some w) =
    let ok = is_a clock_like (find Δ w.value) in
    let reads = each (reads_of w.value) l in
    unless ok w.place ++ (each (strays w.value) l ++ cond ok reads [])

unfoldable pub clock : Text → List ℕ
clock t = clock_for (declared t) (statements t.body) (clock_of t)
