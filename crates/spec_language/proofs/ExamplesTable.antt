-- Examples of tokens and of types as one table; one test of it, computed; and the theorem that every one of them holds. The examples of the
-- other stages are computed in the crate spec_examples. Assumes nothing.
use mathlib.Core.List.{List, ◌++◌}
use lib.Dec.{T}
use Rattle.spec_grammar.specs.Limits.{Each}
use Rattle.spec_language.proofs.Examples.{Example, Holds, passes, all_pass}
use Rattle.spec_language.proofs.ExamplesTokens as Tokens
use Rattle.spec_language.proofs.ExamplesRules as Rules

abbrev pub examples : List Example
examples = Tokens.examples ++ Rules.types

tested : T (passes examples)
unfolding passes
tested = tt

pub examples_hold : Each Holds examples
examples_hold = all_pass examples tested
