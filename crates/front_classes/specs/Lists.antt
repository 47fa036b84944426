-- Lists of statements, which may be empty: the class and the offences of one, as of a body. Assumes nothing.
use Rattle.std.proofs.Math.Option.{Option, some}
use Rattle.std.specs.Prelude.{List, [], ◌∷◌, ◌++◌, ℕ}
use Rattle.spec_grammar.specs.Tree.{Stmt, Body, only, and_then}
use Rattle.spec_design.specs.Statement.{Class, A, seq_class}
use Rattle.spec_language.specs.Lists.{each}
use Rattle.spec_language.specs.Declarations.{within}
use Rattle.spec_language.specs.Classes.{pair, class, loops_of}
use Rattle.front_layout.specs.Entries.{Entry, stmt_entries}
use Rattle.front_offences.specs.Lowest.{lowest_of}
use Rattle.front_classes.specs.declared.Summary.{Summary}
use Rattle.front_classes.specs.Codes.{class_code}

-- the statements of a body, without those inside them
unfoldable pub members : Body → List Stmt
members (only s) = s ∷ []
members (and_then s b) = s ∷ members b

-- the entries of all statements, those inside them included
unfoldable pub list_entries : List Stmt → List Entry
list_entries [] = []
list_entries (s ∷ l) = stmt_entries s ++ list_entries l

-- the class of statements in sequence; of no statements it is that of null, as "a missing else counts as null"
unfoldable pub list_class : List Stmt → Option Class
list_class [] = some A
list_class (s ∷ l) = pair seq_class (class s) (list_class l)

-- the places of every "while with a classed body that is not C"
unfoldable pub list_offences : List Stmt → List ℕ
list_offences [] = []
list_offences (s ∷ l) = each loops_of (within s) ++ list_offences l

-- what is to be found of a statement and of a list: the class as a number, and the lowest offence
abbrev pub of_statement : Stmt → Summary
of_statement s = record { class = class_code (class s); lowest = lowest_of (each loops_of (within s)) }

abbrev pub of_list : List Stmt → Summary
of_list l = record { class = class_code (list_class l); lowest = lowest_of (list_offences l) }
