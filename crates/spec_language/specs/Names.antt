-- Refusal 5: "name unknown, declared twice, end or of name differing, wrong kind as target, output read", at that name. All offences of a tree. Assumes nothing.
use Rattle.std.specs.Prelude.{Bool, true, not, List, [], ◌∷◌, ◌++◌, ℕ, eqb}
use Rattle.spec_grammar.specs.Token.{Token}
use Rattle.spec_grammar.specs.Tree.{Expr, number, bit, name, sign, negate, binary, parens, Stmt, output, assign, null, wait, if_then, if_else, while, Text}
use Rattle.spec_language.specs.Lists.{unless, each}
use Rattle.spec_language.specs.Declarations.{Decl, declared, is_output, is_variable, find, is_a, statements}

-- "declared twice": a later declaration of the name v
unfoldable pub again : ℕ → List Decl → List ℕ
again v ds = each (λ d. unless (not (eqb d.name.value v)) d.name.place) ds

unfoldable pub doubled : List Decl → List ℕ
doubled [] = []
doubled (d ∷ ds) = again d.name.value ds ++ doubled ds

-- "Inputs and variables may be read, outputs not."
unfoldable pub readable : Decl → Bool
readable d = not (is_output d.mode)

-- "name unknown", "output read"
unfoldable pub names_in : List Decl → Expr → List ℕ
names_in Δ (number x) = []
names_in Δ (bit x) = []
names_in Δ (name x) = unless (is_a readable (find Δ x.value)) x.place
names_in Δ (sign x a) = names_in Δ a
names_in Δ (negate x a) = names_in Δ a
names_in Δ (binary x a b) = names_in Δ a ++ names_in Δ b
names_in Δ (parens a) = names_in Δ a

-- "wrong kind as target": <= wants an output, := a variable; "A wait's name can meet 5 only by being unknown."
unfoldable pub names_of : List Decl → Stmt → List ℕ
names_of Δ (output x e) = unless (is_a (λ d. is_output d.mode) (find Δ x.value)) x.place ++ names_in Δ e
names_of Δ (assign x e) = unless (is_a (λ d. is_variable d.mode) (find Δ x.value)) x.place ++ names_in Δ e
names_of Δ null = []
names_of Δ (wait x) = unless (is_a (λ d. true) (find Δ x.value)) x.place
names_of Δ (if_then i e a) = names_in Δ e
names_of Δ (if_else i e a b) = names_in Δ e
names_of Δ (while w e a) = names_in Δ e

-- "end or of name differing": the name at x is not the one at y
unfoldable pub differs : Token → Token → List ℕ
differs x y = unless (eqb x.value y.value) x.place

unfoldable pub names : Text → List ℕ
names t =
    differs t.end_of_entity t.entity ++ (differs t.of_arch t.entity ++ (differs t.end_of_arch t.arch ++
    (doubled (declared t) ++ each (names_of (declared t)) (statements t.body))))
