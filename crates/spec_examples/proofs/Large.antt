-- Large texts: 16,384 bytes and 16,385; 512 statements and 513. One table, tested by computing, as in the crate spec_language. Assumes nothing.
use mathlib.Core.List.{List, [], ◌∷◌, ◌++◌}
use lib.Dec.{T}
use lib.ListN.{replicate}
use Rattle.spec_grammar.specs.Limits.{Each}
use Rattle.spec_language.specs.Bytes.{bytes}
use Rattle.spec_language.proofs.Examples.{Example, accepts, refused_at_lem, Holds, passes, all_pass, whole, std_ports, std_vars}
use Rattle.spec_language.proofs.ExamplesLimits.{times}

abbrev pub examples : List Example
examples =
    -- 1, "text too long": 16,385 spaces; 16,384 are no sentence. The token at place 0 is handed out where one starts there.
    refused_at_lem 1 (bytes "^" ++ replicate 16385 32) "" ∷
    refused_at_lem 3 (replicate 16384 32 ++ bytes "^") "" ∷
    refused_at_lem 1 (bytes "^entity" ++ replicate 16379 32) "entity" ∷
    refused_at_lem 3 (bytes "entity" ++ (replicate 16378 32 ++ bytes "^")) "" ∷
    -- "512 statements": at the first token of the 513th
    accepts (whole std_ports std_vars "process" (times 511 "null;" ++ bytes "wait until clk = '1';")) ∷
    refused_at_lem 4 (whole std_ports std_vars "process" (times 512 "null;" ++ bytes "^wait until clk = '1';")) "wait" ∷
    []

tested : T (passes examples)
unfolding passes
tested = tt

pub large_examples_hold : Each Holds examples
large_examples_hold = all_pass examples tested
