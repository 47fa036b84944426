-- A body and the list of its statements: the same entries, class and offences. Assumes nothing.
use mathlib.Core.Path.{◌≡◌, refl, sym, ◌∙◌, ap}
use mathlib.Core.List.{List, [], ◌∷◌, ◌++◌, append-nil, append_assoc}
use Prim.Native.Nat.{ℕ}
use Rattle.spec_grammar.specs.Tree.{Body, only, and_then}
use Rattle.spec_design.specs.Statement.{seq_class}
use Rattle.spec_language.specs.Lists.{each}
use Rattle.spec_language.specs.Declarations.{within, statements}
use Rattle.spec_language.specs.Classes.{pair, class, classes, loops_of}
use Rattle.front_layout.specs.Entries.{Entry, stmt_entries, body_entries}
use Rattle.front_classes.specs.Lists.{members, list_entries, list_class, list_offences}
use Rattle.front_classes.proofs.Codes.{sequence_last}

pub each_append : {A : Type 0} (f : A → List ℕ) (xs ys : List A) → each f (xs ++ ys) ≡ each f xs ++ each f ys
unfolding each
each_append f [] ys = refl
each_append f (x ∷ xs) ys = ap (λ (l : List ℕ). f x ++ l) (each_append f xs ys) ∙ sym (append_assoc (f x) (each f xs) (each f ys))

pub members_entries : (b : Body) → list_entries (members b) ≡ body_entries b
unfolding list_entries members body_entries
members_entries (only s) = append-nil (stmt_entries s)
members_entries (and_then s b) = ap (λ (l : List Entry). stmt_entries s ++ l) (members_entries b)

pub members_class : (b : Body) → list_class (members b) ≡ classes b
unfolding list_class members classes
members_class (only s) = sequence_last (class s)
members_class (and_then s b) = ap (pair seq_class (class s)) (members_class b)

pub members_offences : (b : Body) → list_offences (members b) ≡ each loops_of (statements b)
unfolding list_offences members statements
members_offences (only s) = append-nil (each loops_of (within s))
members_offences (and_then s b) = ap (λ (l : List ℕ). each loops_of (within s) ++ l) (members_offences b) ∙ sym (each_append loops_of (within s) (statements b))
