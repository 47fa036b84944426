-- Examples of refusal 4: each limit just inside and just outside; 512 statements stand in the crate spec_examples. Assumes nothing.
use mathlib.Core.List.{List, [], ◌∷◌, ◌++◌}
use Prim.Native.Nat.{ℕ, zero, suc}
use Prim.Native.String.{String}
use Rattle.spec_language.specs.Bytes.{bytes}
use Rattle.spec_language.proofs.Examples.{Example, accepts, refused_at_lem, whole, std_ports, std_vars, stmts, ports, vars}

-- n copies
abbrev pub times : ℕ → String → List ℕ
times zero s = []
times (suc n) s = bytes s ++ times n s

-- the names x0, x00, x000, ..: n of them, with commas before
abbrev listed : ℕ → List ℕ → List ℕ
listed zero w = []
listed (suc n) w = bytes "," ++ (w ++ listed n (w ++ (48 ∷ [])))

-- statements, with the standard declarations around them
abbrev around : List ℕ → List ℕ
around b = whole std_ports std_vars "process" (b ++ bytes " wait until clk = '1';")

-- declarations of n names after the first, of a mode
abbrev ports_of : ℕ → String → List ℕ
ports_of n m = bytes "entity e is port(clk" ++ (listed n (120 ∷ []) ++ (bytes m ++ bytes ");end e;architecture t of e is begin process begin wait until clk='1';end process;end t;"))

abbrev outputs_of : ℕ → String → List ℕ
outputs_of n m = bytes "entity e is port(clk:in std_logic;x" ++ (listed n (120 ∷ 48 ∷ []) ++ (bytes m ++ bytes ");end e;architecture t of e is begin process begin wait until clk='1';end process;end t;"))

abbrev variables_of : List ℕ → List ℕ
variables_of l = bytes "entity e is port(clk:in std_logic);end e;architecture t of e is begin process variable x" ++ (l ++ bytes ":integer:=0;begin wait until clk='1';end process;end t;")

-- n ifs around the statements b
abbrev nested : ℕ → List ℕ → List ℕ
nested zero b = b
nested (suc n) b = bytes "if a=b then " ++ (nested n b ++ bytes "end if;")

abbrev pub examples : List Example
examples =
    -- "literal 2147483647": document 01's example; leading zeros are free; P9, for a variable and an output; ignored initial values too
    refused_at_lem 4 (stmts "s := ^2147483648;") "2147483648" ∷
    refused_at_lem 4 (stmts "s := ^99999999999999999999;") "99999999999999999999" ∷
    accepts (stmts "s := 0000000000002147483647;") ∷
    refused_at_lem 4 (vars "variable v : integer := -^2147483648;") "2147483648" ∷
    accepts (vars "variable v : integer := -2147483647;") ∷
    refused_at_lem 4 (ports "clk : in std_logic; p : out integer := -^2147483648") "2147483648" ∷
    accepts (ports "clk : in std_logic; p : out integer := -2147483647") ∷
    refused_at_lem 4 (ports "clk : in std_logic := ^2147483648") "2147483648" ∷
    -- "name 32 bytes", every name; 4 before 5
    refused_at_lem 4 (stmts "s := ^abcdefghijklmnopqrstuvwxyz1234567;") "abcdefghijklmnopqrstuvwxyz1234567" ∷
    refused_at_lem 5 (stmts "s := ^abcdefghijklmnopqrstuvwxyz123456;") "abcdefghijklmnopqrstuvwxyz123456" ∷
    accepts (vars "variable abcdefghijklmnopqrstuvwxyz123456 : integer := 0;") ∷
    refused_at_lem 4 (bytes "entity ^abcdefghijklmnopqrstuvwxyz1234567") "abcdefghijklmnopqrstuvwxyz1234567" ∷
    -- "17 in ports", "16 out": at the mode word that makes them too many
    accepts (ports_of 16 ":in std_logic") ∷
    refused_at_lem 4 (ports_of 17 ":^in std_logic") "in" ∷
    refused_at_lem 4 (ports_of 16 ":in std_logic;y:^in integer") "in" ∷
    accepts (outputs_of 15 ":out integer:=0") ∷
    refused_at_lem 4 (outputs_of 16 ":^out integer:=0") "out" ∷
    -- "32 variables": at the name
    accepts (variables_of (listed 31 (120 ∷ 48 ∷ []))) ∷
    refused_at_lem 4 (variables_of (listed 31 (120 ∷ 48 ∷ []) ++ bytes ",^y")) "y" ∷
    -- "statement depth 16 (process body is 1)": at the statement's first token
    accepts (around (nested 15 (bytes "null;"))) ∷
    refused_at_lem 4 (around (nested 16 (bytes "^null;"))) "null" ∷
    refused_at_lem 4 (around (nested 16 (bytes "^s := 1;"))) "s" ∷
    -- "64 literals, names and operators in an expression": sign and not count, parentheses do not
    accepts (around (bytes "s := -u" ++ (times 31 " + u" ++ bytes ";"))) ∷
    refused_at_lem 4 (around (bytes "s := -u" ++ (times 31 " + u" ++ bytes " ^+ u;"))) "+" ∷
    refused_at_lem 4 (around (bytes "s := u" ++ (times 31 " + u" ++ bytes " + ^u;"))) "u" ∷
    accepts (around (bytes "s := -u" ++ (times 31 " * u" ++ bytes ";"))) ∷
    refused_at_lem 4 (around (bytes "s := -u" ++ (times 31 " rem u" ++ bytes " ^mod u;"))) "mod" ∷
    accepts (around (bytes "q <= not ((a))" ++ (times 31 " and a" ++ bytes ";"))) ∷
    refused_at_lem 4 (around (bytes "q <= not (a)" ++ (times 31 " and a" ++ bytes " ^and a;"))) "and" ∷
    -- "16 open parentheses": at once, not in all
    accepts (around (bytes "s := " ++ (times 16 "(" ++ (bytes "u" ++ (times 16 ")" ++ bytes " + (u);"))))) ∷
    refused_at_lem 4 (around (bytes "s := " ++ (times 16 "(" ++ bytes "^((u;"))) "(" ∷
    -- "3 first at one token": the token that passes a limit cannot stand there
    refused_at_lem 3 (around (nested 16 (bytes "^2147483648;"))) "2147483648" ∷
    refused_at_lem 3 (around (bytes "s := " ++ (times 16 "(" ++ bytes "u ^(u;"))) "(" ∷
    -- the lower of 3 and 4
    refused_at_lem 4 (stmts "s := ^2147483648 2;") "2147483648" ∷
    refused_at_lem 3 (stmts "s := 2 ^2147483648;") "2147483648" ∷
    []
