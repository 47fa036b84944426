-- Examples of refusal 2 and of what tokens are; those of refusal 1 stand in the crate spec_examples. Each refused text has its nearest accepted neighbour.
-- Assumes nothing.
use mathlib.Core.List.{List, [], ◌∷◌, ◌++◌}
use Rattle.spec_language.specs.Bytes.{bytes}
use Rattle.spec_language.proofs.Examples.{Example, accepts, refused_at_lem, whole, stmts, vars}

abbrev pub examples : List Example
examples =
    -- 2, "malformed word": a doubled, a last underscore; one underscore inside a word is fine
    refused_at_lem 2 (vars "variable ^a__b : integer := 0;") "" ∷
    refused_at_lem 2 (vars "variable ^a_ : integer := 0;") "" ∷
    refused_at_lem 2 (vars "variable ^process_ : integer := 0;") "" ∷
    accepts (vars "variable a_b, process_1 : integer := 0;") ∷
    -- "byte that begins no token"
    refused_at_lem 2 (vars "variable ^_a : integer := 0;") "" ∷
    refused_at_lem 2 (stmts "s := 1^#;") "" ∷
    refused_at_lem 2 (stmts "f := ^'2';") "" ∷
    refused_at_lem 2 (stmts "f := ^'0 ;") "" ∷
    refused_at_lem 2 (stmts "f := ^'';") "" ∷
    refused_at_lem 2 (stmts "s := 1^_000;") "" ∷
    refused_at_lem 2 (bytes "^" ++ (0 ∷ stmts "null;")) "" ∷
    refused_at_lem 2 (bytes "^" ++ (255 ∷ stmts "null;")) "" ∷
    refused_at_lem 2 (bytes "entity caf^" ++ (233 ∷ bytes " is")) "" ∷
    refused_at_lem 2 (bytes "^" ++ (11 ∷ stmts "null;")) "" ∷
    refused_at_lem 2 (bytes "^" ++ (12 ∷ stmts "null;")) "" ∷
    -- "Blanks are space, tab, LF, CR"; "-- opens a comment up to LF", in which any byte may stand
    accepts (9 ∷ 10 ∷ 13 ∷ 32 ∷ stmts "null;") ∷
    accepts (bytes "-- #" ++ (0 ∷ 13 ∷ 255 ∷ 10 ∷ stmts "null;")) ∷
    accepts (stmts "null;" ++ bytes " -- a comment up to the end") ∷
    accepts (stmts "s := 3--1;\n;") ∷
    -- "with no blank needed", "the longest taken first"
    accepts (stmts "s:=s-1;if s<=1then null;end if;while s>=5loop wait until clk='1';end loop;") ∷
    refused_at_lem 3 (stmts "s := ^= 1;") "=" ∷
    -- "Reserved words are compared without regard to case, and so are names."
    accepts (bytes "ENTITY e Is pOrT(CLK:IN STD_LOGIC;O:OUT INTEGER:=0);END E;Architecture T Of E IS BEGIN PROCESS VARIABLE S:Integer:=1;BEGIN " ++
    bytes "IF NOT(s=1)Then O<=S;ELSE NULL;END IF;WHILE (s<1 AND S>1)Or(S=1 XOR s=2)LOOP WAIT UNTIL Clk='1';END LOOP;wait Until cLK='1';END PROCESS;END T;") ∷
    -- `mod` and `rem` are reserved, in either case
    refused_at_lem 3 (vars "variable ^mod : integer := 0;") "mod" ∷
    refused_at_lem 3 (vars "variable ^REM : integer := 0;") "REM" ∷
    accepts (vars "variable mod_1, remx : integer := 0;") ∷
    -- words that document 01 does not show are names
    accepts (whole "clk : in std_logic" "variable elsif, mod_1, boolean, signal, remx : integer := 0;" "process" (bytes "elsif := mod_1; wait until clk = '1';")) ∷
    []
