-- Examples of refusals 5 to 9, clause by clause. Each refused text has its nearest accepted neighbour. Assumes nothing.
use mathlib.Core.List.{List, [], ◌∷◌, ◌++◌}
use Prim.Native.String.{String}
use Rattle.spec_language.specs.Bytes.{bytes}
use Rattle.spec_language.proofs.Examples.{Example, accepts, refuses, refused_at_lem, whole, std_ports, std_vars, body, stmts, ports, vars}

-- refusal 5
abbrev pub names : List Example
names =
    -- "wrong kind as target": document 01's example, then an output by :=, an input and the clock by either
    refused_at_lem 5 (stmts "^s <= 1;") "s" ∷
    accepts (stmts "o <= 1;") ∷
    refused_at_lem 5 (stmts "^o := 1;") "o" ∷
    accepts (stmts "s := 1;") ∷
    refused_at_lem 5 (stmts "^d <= 1;") "d" ∷
    refused_at_lem 5 (stmts "^d := 1;") "d" ∷
    refused_at_lem 5 (stmts "^clk <= '1';") "clk" ∷
    refused_at_lem 5 (stmts "^clk := '1';") "clk" ∷
    -- "name unknown": as target, in an expression, in a wait
    refused_at_lem 5 (stmts "^x := 1;") "x" ∷
    refused_at_lem 5 (stmts "^x <= 1;") "x" ∷
    refused_at_lem 5 (stmts "s := s + ^x;") "x" ∷
    refused_at_lem 5 (stmts "if a = ^x then null; end if;") "x" ∷
    refused_at_lem 5 (body "wait until ^x = '1';") "x" ∷
    refused_at_lem 5 (stmts "s := ^e;") "e" ∷
    accepts (stmts "S := s + U;") ∷
    -- "output read"
    refused_at_lem 5 (stmts "s := ^o;") "o" ∷
    refused_at_lem 5 (stmts "while ^O < 1 loop wait until clk = '1'; end loop;") "O" ∷
    accepts (stmts "s := d;") ∷
    -- "declared twice", at the second: in one group, in two, as port and variable, in another case
    refused_at_lem 5 (vars "variable v, ^v : integer := 0;") "v" ∷
    refused_at_lem 5 (vars "variable v : integer := 0; variable ^V : integer := 0;") "V" ∷
    refused_at_lem 5 (vars "variable ^d : integer := 0;") "d" ∷
    refused_at_lem 5 (ports "clk : in std_logic; ^CLK : out integer := 0") "CLK" ∷
    accepts (vars "variable v, w : integer := 0;") ∷
    -- entity and architecture names are no part of the set
    accepts (vars "variable e, t : integer := 0;") ∷
    -- "end or of name differing"
    refused_at_lem 5 (bytes "entity e is port(clk:in std_logic);end ^f;architecture t of e is begin process begin wait until clk='1';end process;end t;") "f" ∷
    refused_at_lem 5 (bytes "entity e is port(clk:in std_logic);end e;architecture t of ^f is begin process begin wait until clk='1';end process;end t;") "f" ∷
    refused_at_lem 5 (bytes "entity e is port(clk:in std_logic);end e;architecture t of e is begin process begin wait until clk='1';end process;end ^f;") "f" ∷
    accepts (bytes "entity e is port(clk:in std_logic);end E;architecture t of E is begin process begin wait until clk='1';end process;end T;") ∷
    -- "the lowest place first within a stage", whichever clause comes first; 5 before 6, wherever they stand
    refused_at_lem 5 (stmts "s := ^o; s <= 1;") "o" ∷
    refused_at_lem 5 (stmts "^s <= 1; s := o;") "s" ∷
    refused_at_lem 5 (stmts "s := '1'; s := ^x;") "x" ∷
    refused_at_lem 5 (stmts "s := ^x; s := '1';") "x" ∷
    []

-- refusal 6: an operator between two operands, as a condition that is not judged itself
abbrev between : String → String → String → Example
between x o y =
    refuses 6 (bytes "entity e is port(clk,a:in std_logic;d:in integer);end e;architecture t of e is begin process begin if " ++ (bytes x ++ (bytes " ^" ++ (bytes o ++
    (bytes " " ++ (bytes y ++ bytes " then null;end if;wait until clk='1';end process;end t;")))))) (bytes o)

-- "+ - and the orders take integers", * / mod rem too: all pairs but two integers are wrong
abbrev integers : String → List Example
integers o =
    between "a" o "a" ∷ between "a" o "d" ∷ between "a" o "(d=d)" ∷ between "d" o "a" ∷ between "d" o "(d=d)" ∷
    between "(d=d)" o "a" ∷ between "(d=d)" o "d" ∷ between "(d=d)" o "(d=d)" ∷ []

-- "= /= two integers or two std_logics"
abbrev alike : String → List Example
alike o =
    between "a" o "d" ∷ between "a" o "(d=d)" ∷ between "d" o "a" ∷ between "d" o "(d=d)" ∷
    between "(d=d)" o "a" ∷ between "(d=d)" o "d" ∷ between "(d=d)" o "(d=d)" ∷ []

-- "and or xor not booleans or std_logics"
abbrev logical : String → List Example
logical o =
    between "a" o "d" ∷ between "a" o "(d=d)" ∷ between "d" o "a" ∷ between "d" o "d" ∷ between "d" o "(d=d)" ∷
    between "(d=d)" o "a" ∷ between "(d=d)" o "d" ∷ []

abbrev pub operators : List Example
operators =
    integers "+" ++ (integers "-" ++ (integers "<" ++ (integers "<=" ++ (integers ">" ++ (integers ">=" ++ (alike "=" ++ (alike "/=" ++ (logical "and" ++ (logical "or" ++ (logical "xor" ++ (integers "*" ++ (integers "/" ++ (integers "mod" ++ (integers "rem" ++ (
    -- not stands on a primary: (not d) * u, (not a) * b
    refused_at_lem 6 (stmts "s := ^not d * u;") "not" ∷
    refused_at_lem 6 (stmts "q <= not a ^* b;") "*" ∷
    accepts (stmts "s := -d * u / 2 mod 3 rem u;") ∷
    refused_at_lem 6 (stmts "s := ^- a;") "-" ∷
    refused_at_lem 6 (stmts "s := ^- (a = b);") "-" ∷
    refused_at_lem 6 (stmts "q <= ^not d;") "not" ∷
    accepts (stmts "s := -d + 1 - u; q <= a and b; q <= not a or f; q <= a xor '1';") ∷
    accepts (stmts "if d < 1 and d <= 1 then null; end if; if d > 1 or d >= 1 then null; end if; if d = 1 xor d /= 1 then null; end if;") ∷
    accepts (stmts "if a = b and a /= '0' and not (d = 1) then null; end if;") ∷
    [])))))))))))))))

abbrev pub types : List Example
types =
    -- document 01's example
    refused_at_lem 6 (stmts "s := d ^+ '1';") "+" ∷
    accepts (stmts "s := d + 1;") ∷
    -- "what holds a wrong operator is untyped and not itself judged": neither the operators around it nor target or condition; its operands are
    refused_at_lem 6 (stmts "f := (d ^+ '1') and a;") "+" ∷
    refused_at_lem 6 (stmts "f := - (d ^+ '1');") "+" ∷
    refused_at_lem 6 (stmts "f := (a ^+ b) + (d + '1');") "+" ∷
    refused_at_lem 6 (stmts "s := not (d ^< '1') + 1;") "<" ∷
    -- "target"
    refused_at_lem 6 (stmts "^s := '1';") "s" ∷
    refused_at_lem 6 (stmts "^q <= d;") "q" ∷
    refused_at_lem 6 (stmts "^f := a = b;") "f" ∷
    accepts (stmts "s := 1; q <= a; f := '1';") ∷
    -- "condition", at `if` or `while`
    refused_at_lem 6 (stmts "^if a then null; end if;") "if" ∷
    refused_at_lem 6 (stmts "^If d then null; else null; end if;") "If" ∷
    refused_at_lem 6 (stmts "^while d loop wait until clk = '1'; end loop;") "while" ∷
    accepts (stmts "if a = '1' then null; end if; while d = 0 loop wait until clk = '1'; end loop;") ∷
    -- "initial value", at its first token; "Initial values of inputs are ignored, their type included."
    refused_at_lem 6 (vars "variable v : integer := ^'0';") "'0'" ∷
    refused_at_lem 6 (vars "variable v, w : std_logic := ^0; variable x : integer := '0';") "0" ∷
    refused_at_lem 6 (vars "variable v : std_logic := ^0;") "0" ∷
    refused_at_lem 6 (vars "variable v : std_logic := ^-1;") "-" ∷
    refused_at_lem 6 (ports "clk : in std_logic; p : out std_logic := ^1") "1" ∷
    accepts (vars "variable v : integer := -0; variable w : std_logic := '0';") ∷
    accepts (ports "clk : in std_logic := 5; p : in integer := '1'; r : in std_logic := -2; w : in integer") ∷
    -- 6 before 7, the lowest of 6 whether in declarations or statements
    refused_at_lem 6 (whole "clk : in std_logic; p : out integer" "variable v : integer := ^'0';" "process" (bytes "v := '1'; wait until clk = '1';")) "'0'" ∷
    []

-- refusals 7, 8 and 9
abbrev pub others : List Example
others =
    -- 7, "output or variable group without value", at its first name
    refused_at_lem 7 (vars "variable ^v : integer;") "v" ∷
    refused_at_lem 7 (vars "variable v : integer := 0; variable ^w, x : std_logic;") "w" ∷
    refused_at_lem 7 (ports "clk : in std_logic; ^p, r : out integer") "p" ∷
    accepts (ports "clk, a : in std_logic; p, r : out integer := 0") ∷
    -- 7 before 8
    refused_at_lem 7 (whole "clk : in integer; ^p : out integer" "" "process" (bytes "wait until clk = '1';")) "p" ∷
    -- 8, "the first wait's name is no std_logic input": an integer input, an output, a variable
    refused_at_lem 8 (body "wait until ^d = '1';") "d" ∷
    refused_at_lem 8 (body "wait until ^q = '1';") "q" ∷
    refused_at_lem 8 (body "wait until ^f = '1';") "f" ∷
    accepts (body "wait until a = '1';") ∷
    -- "another wait differs"
    refused_at_lem 8 (body "wait until clk = '1'; wait until ^a = '1';") "a" ∷
    accepts (body "wait until clk = '1'; wait until CLK = '1';") ∷
    -- "clock (if that input exists) read": document 01's example, before the first wait, in a condition; without such an input no read is judged
    refused_at_lem 8 (body "f := ^clk; wait until clk = '1';") "clk" ∷
    refused_at_lem 8 (body "wait until clk = '1'; if a = ^CLK then null; end if;") "CLK" ∷
    refused_at_lem 8 (body "s := d; wait until ^d = '1';") "d" ∷
    accepts (body "f := a; wait until clk = '1';") ∷
    -- 8 before 9
    refused_at_lem 8 (body "null; if a = b then wait until ^d = '1'; end if;") "d" ∷
    -- 9, P4: an if of C and A is B; of C and C it is C
    refused_at_lem 9 (whole std_ports std_vars "^process" (bytes "if '1' = '1' then wait until clk = '1'; end if;")) "process" ∷
    accepts (body "if '1' = '1' then wait until clk = '1'; else wait until clk = '1'; end if;") ∷
    refused_at_lem 9 (whole std_ports std_vars "^process" (bytes "if a = b then null; else wait until clk = '1'; end if;")) "process" ∷
    -- a text without a wait
    refused_at_lem 9 (whole std_ports std_vars "^process" (bytes "null;")) "process" ∷
    -- "while with a classed body that is not C": A, then B; "In sequence: C if either part is C"
    refused_at_lem 9 (stmts "^while '1' = '1' loop null; end loop;") "while" ∷
    refused_at_lem 9 (stmts "^while a = b loop if a = c then wait until clk = '1'; end if; end loop;") "while" ∷
    refused_at_lem 9 (stmts "^while a = b loop while a = c loop wait until clk = '1'; end loop; end loop;") "while" ∷
    accepts (stmts "while a = b loop if a = c then wait until clk = '1'; end if; wait until clk = '1'; end loop;") ∷
    accepts (stmts "while a = b loop null; wait until clk = '1'; null; end loop;") ∷
    -- the process body is a while, so B
    refused_at_lem 9 (whole std_ports std_vars "^process" (bytes "while a = b loop wait until clk = '1'; end loop;")) "process" ∷
    -- a bad while with a wait, inside an if, inside a while: the inner one is classed wrong, the outer unclassed
    refused_at_lem 9 (body "while a = b loop if a = c then ^while d = 0 loop if d = 1 then wait until clk = '1'; end if; end loop; end if; end loop;") "while" ∷
    -- two wrong ones: the lowest
    refused_at_lem 9 (stmts "^while a = b loop null; end loop; while a = c loop null; end loop;") "while" ∷
    []
