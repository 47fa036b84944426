-- The stage by position answers the lowest offence of refusal 9 of the tree that the arrays hold. Assumes nothing.
use mathlib.Core.Path.{◌≡◌, refl, ◌∙◌, ap}
use mathlib.Core.Bool.{Bool, true, false}
use mathlib.Core.Option.{Option}
use mathlib.Core.List.{List, [], ◌∷◌}
use Prim.Native.Nat.{ℕ, zero, suc, ◌+◌, ◌≤◌, ◌<◌, min}
use native.Mathlib.Omega.{arith}
use Rattle.std.specs.Prelude as P
use Rattle.front_classes.specs.declared.rules.Class as K
use Rattle.front_classes.specs.declared.rules.Class.TheVariants as V
use borrow.Author.Tests.{eqb-true, eqb-false, ltb-true, ltb-false}
use lib.Dec.{eqb, ltb}
use Rattle.spec_grammar.specs.Token.{Token}
use Rattle.spec_grammar.specs.Tree.{Text}
use Rattle.spec_grammar.specs.Reader.{choose}
use Rattle.spec_design.specs.Statement.{Class}
use Rattle.spec_language.specs.Lists.{unless, each, lowest}
use Rattle.spec_language.specs.Declarations.{statements}
use Rattle.spec_language.specs.Classes.{classes, is_c, loops_of, or_whole, loops}
use Rattle.front_offences.specs.Lowest.{option_of, lowest_of}
use Rattle.front_layout.specs.Arrays.{number_in}
use Rattle.front_offences.specs.declared.Shape.{Shape}
use Rattle.front_offences.proofs.Tokens.{place_is}
use Rattle.front_classes.specs.declared.Summary.{Summary}
use Rattle.front_classes.specs.Codes.{class_code}
use Rattle.front_classes.specs.Held.{number_of, StatementFound, BlockFound}
use Rattle.front_classes.specs.Positions.{summary, in_sequence, of_if, of_while, end_in, other_in, statement_of, run_in, block_in, statement_in, whole_place_in, lowest_in}
use Rattle.front_classes.specs.Judges.{Held}
use Rattle.std.specs.Option.{option_or}
use Rattle.front_classes.proofs.Codes.{whole_is}
use Rattle.front_classes.proofs.Rows.{rows_of}
use Rattle.front_classes.proofs.Found.{body_found, if_found, while_found, wait_found, plain_found}
use Rattle.front_classes.proofs.Rest.{RestFound, rest_first, rest_again, rest_stop}

-- Rows by position have what is to be found of them.
module _ (rows places : List ℕ) (n : ℕ) where
  statement_found : (f : ℕ) (block : ℕ → ℕ → Summary) → ((from to : ℕ) → from ≤ to → to ≤ from + f → BlockFound rows places n from to (block from to))
      → (at end : ℕ) → at < end → end ≤ at + 1 + f
      → StatementFound rows places n at end (statement_of rows places n block at end)
  unfolding statement_of
  statement_found f block h at end l m = go (eqb (number_of rows at 0) 3) (eqb (number_of rows at 0) 5) (eqb (number_of rows at 0) 0) refl refl refl
    where
      go : (i w k : Bool) → eqb (number_of rows at 0) 3 ≡ i → eqb (number_of rows at 0) 5 ≡ w → eqb (number_of rows at 0) 0 ≡ k
          → StatementFound rows places n at end
          (choose i (of_if (block (at + 1) (other_in rows places n at end)) (block (other_in rows places n at end) end))
          (choose w (of_while (number_in places n (number_of rows at 1)) (block (at + 1) end)) (choose k (summary (P.Some V.C) P.None) (summary (P.Some V.A) P.None))))
      go true w k p q r = if_found (eqb-true (number_of rows at 0) 3 p) refl (h (at + 1) (other_in rows places n at end) (omega arith) (omega arith))
          (h (other_in rows places n at end) end (omega arith) (omega arith)) refl refl
      go false true k p q r = while_found (eqb-true (number_of rows at 0) 5 q) (h (at + 1) end (omega arith) (omega arith)) refl refl refl refl refl
      go false false true p q r = wait_found (eqb-true (number_of rows at 0) 0 r)
      go false false false p q r = plain_found (eqb-false (number_of rows at 0) 3 p) (eqb-false (number_of rows at 0) 5 q) (eqb-false (number_of rows at 0) 0 r)

  run_found : (f from to at : ℕ) (code : P.Option K.Class) (low : P.Option ℕ) → RestFound rows places n from to at code low → to ≤ at + f
      → BlockFound rows places n from to (run_in rows places n f at to (summary code low))
  unfolding run_in
  run_found zero from to at code low g h = rest_stop g (omega arith)
  run_found (suc f) from to at code low g h = go (ltb at to) refl (λ x y k m. run_found f x y x (P.Some V.A) P.None (rest_first k) m)
      (λ c w r m. run_found f from to (end_in rows places n at to) c w r m)
    where
      go : (b : Bool) → ltb at to ≡ b → ((x y : ℕ) → x ≤ y → y ≤ x + f → BlockFound rows places n x y (block_in rows places n f x y))
          → ((c : P.Option K.Class) (w : P.Option ℕ) → RestFound rows places n from to (end_in rows places n at to) c w → to ≤ end_in rows places n at to + f
          → BlockFound rows places n from to (run_in rows places n f (end_in rows places n at to) to (summary c w)))
          → BlockFound rows places n from to
          (choose b (run_in rows places n f (end_in rows places n at to) to
          (in_sequence (summary code low) (statement_in rows places n f at (end_in rows places n at to)))) (summary code low))
      go true e block rest =
          let i : at < to = ltb-true at to e in
          rest _ _ (rest_again g i refl
          (statement_found f (block_in rows places n f) block at (end_in rows places n at to) (omega arith) (omega arith)) refl refl) (omega arith)
      go false e block rest = rest_stop g (ltb-false at to e)

-- "if none, process body not C"
or_whole_is : (l : List ℕ) (b : Bool) (p : ℕ) → option_or (lowest_of l) (lowest_of (unless b p)) ≡ lowest_of (or_whole l b p)
unfolding lowest option_of or_whole
or_whole_is [] b p = refl
or_whole_is (q ∷ l) b p = refl

whole_in : (a : Summary) (p : ℕ) (l : List ℕ) (x : Option Class) (q : ℕ) → a.class ≡ class_code x → a.lowest ≡ lowest_of l → p ≡ q → whole_place_in p a
    ≡ lowest_of (or_whole l (is_c x) q)
whole_in a p l x q c w e = rw (w, c, whole_is x, e) (or_whole_is l (is_c x) q)

-- THE LAW
pub exact : (starts : List ℕ) (p : Shape) (rows : List ℕ) (t : Text) → Held starts p rows t → lowest_in starts p rows ≡ lowest_of (loops t)
unfolding lowest_in loops
exact starts p rows t h =
    let s = h.of_rows.short in
    let c = h.of_rows.count in
    let found = run_found rows starts p.tokens (min p.statements 512) 0 (min p.statements 512) 0 (P.Some V.A) P.None (rest_first (omega arith)) (omega arith) in
    let w = body_found h.tokens h.kinds t.body found h.of_tokens (rows_of h.of_rows) (omega arith) in
    whole_in (block_in rows starts p.tokens (min p.statements 512) 0 (min p.statements 512)) (number_in starts p.tokens p.process)
    (each loops_of (statements t.body)) (classes t.body)
    t.process.place w.0 w.1 (place_is h.of_tokens p.process ∙ ap (λ (x : Token). x.place) h.process)
