-- Document 01's examples and their neighbours, stage by stage, as one table; one test of it, computed; and the theorem that every one of them holds.
-- Those of tokens and of types stand in spec_language/proofs/ExamplesTable.antt. Assumes nothing.
use mathlib.Core.List.{List, ◌++◌}
use lib.Dec.{T}
use Rattle.spec_grammar.specs.Limits.{Each}
use Rattle.spec_language.proofs.Examples.{Example, Holds, passes, all_pass}
use Rattle.spec_language.proofs.ExamplesGrammar as Grammar
use Rattle.spec_language.proofs.ExamplesLimits as Limits
use Rattle.spec_language.proofs.ExamplesRules as Rules

abbrev pub examples : List Example
examples = Grammar.examples ++ (Limits.examples ++ (Rules.names ++ (Rules.operators ++ Rules.others)))

tested : T (passes examples)
unfolding passes
tested = tt

pub stages_hold : Each Holds examples
stages_hold = all_pass examples tested
