-- Examples of refusal 3: each "never", "at most" and "only" of the grammar. Each refused text has its nearest accepted neighbour. Assumes nothing.
use mathlib.Core.List.{List, [], ◌∷◌, ◌++◌}
use Rattle.spec_language.specs.Bytes.{bytes}
use Rattle.spec_language.proofs.Examples.{Example, accepts, refused_at_lem, body, stmts, ports, vars}

abbrev pub examples : List Example
examples =
    -- document 01's example, and the text's end
    refused_at_lem 3 (bytes "entity ^5") "5" ∷
    refused_at_lem 3 (bytes "^") "" ∷
    refused_at_lem 3 (bytes "entity  ^") "" ∷
    refused_at_lem 3 (bytes "entity e -- a comment is no token^") "" ∷
    refused_at_lem 3 (stmts "null;" ++ bytes " ^;") ";" ∷
    accepts (stmts "null;") ∷
    -- P5: "a chain of and, of or, or of xor, never mixed"
    refused_at_lem 3 (stmts "q <= a and b ^or c;") "or" ∷
    refused_at_lem 3 (stmts "q <= a and b and c ^or f;") "or" ∷
    refused_at_lem 3 (stmts "q <= a or b ^xor c;") "xor" ∷
    refused_at_lem 3 (stmts "q <= a xor b ^and c;") "and" ∷
    accepts (stmts "q <= (a and b) or c;") ∷
    accepts (stmts "q <= a and b and c and f;") ∷
    accepts (stmts "q <= a or b or c;") ∷
    accepts (stmts "q <= a xor b xor c;") ∷
    -- P6: "at most one - as sign before the first term"
    refused_at_lem 3 (stmts "s := s - ^-1;") "-" ∷
    refused_at_lem 3 (stmts "s := s + ^-u;") "-" ∷
    refused_at_lem 3 (stmts "s := - ^-u;") "-" ∷
    refused_at_lem 3 (stmts "s := ^+u;") "+" ∷
    refused_at_lem 3 (stmts "s := (^+u);") "+" ∷
    accepts (stmts "s := s - 1;") ∷
    accepts (stmts "s := s - (-1);") ∷
    accepts (stmts "s := -u - 1;") ∷
    accepts (stmts "if s = -u then null; end if;") ∷
    -- slip 2: "binding tighter than +", one sign before the first term only, `/=` the longest; grouping is free
    refused_at_lem 3 (stmts "s := s * ^-2;") "-" ∷
    refused_at_lem 3 (stmts "s := 7 mod ^-3;") "-" ∷
    refused_at_lem 3 (stmts "s := s *^* u;") "*" ∷
    refused_at_lem 3 (stmts "s := s / ^= 2;") "=" ∷
    refused_at_lem 3 (stmts "s := ^* u;") "*" ∷
    refused_at_lem 3 (stmts "s := s rem ^;") ";" ∷
    accepts (stmts "s := s * (-2);") ∷
    accepts (stmts "s := -7 mod 3 * s / 2 rem s - u*u;") ∷
    accepts (stmts "if s/=2 then null; end if;") ∷
    -- "not on a primary"
    refused_at_lem 3 (stmts "q <= not ^not a;") "not" ∷
    refused_at_lem 3 (stmts "s := not ^- s;") "-" ∷
    accepts (stmts "q <= not (not a);") ∷
    -- "then one of = /= < <= > >="
    refused_at_lem 3 (stmts "if a = b ^= c then null; end if;") "=" ∷
    refused_at_lem 3 (stmts "if s < u ^<= 1 then null; end if;") "<=" ∷
    accepts (stmts "if (s < u) and (u <= 1) then null; end if;") ∷
    accepts (stmts "if s < u and u <= 1 then null; end if;") ∷
    -- a primary is a literal, a name or ( e )
    refused_at_lem 3 (stmts "s := (^);") ")" ∷
    refused_at_lem 3 (stmts "s := (s^;") ";" ∷
    refused_at_lem 3 (stmts "s := s^);") ")" ∷
    refused_at_lem 3 (stmts "s := 1^e5;") "e5" ∷
    accepts (stmts "s := ((s));") ∷
    -- "S and STATEMENTS hold at least one."
    refused_at_lem 3 (body "^") "end" ∷
    refused_at_lem 3 (stmts "if a = b then ^end if;") "end" ∷
    refused_at_lem 3 (stmts "if a = b then null; else ^end if;") "end" ∷
    refused_at_lem 3 (stmts "while a = b loop ^end loop;") "end" ∷
    -- a wait has its one form
    refused_at_lem 3 (body "wait until clk = ^'0';") "'0'" ∷
    refused_at_lem 3 (body "wait until clk ^/= '1';") "/=" ∷
    refused_at_lem 3 (body "wait ^;") ";" ∷
    -- "(else optional)", once; no elsif
    refused_at_lem 3 (stmts "if a = b then null; else null; ^else null; end if;") "else" ∷
    refused_at_lem 3 (stmts "if a = b then null; elsif ^b = c then null; end if;") "b" ∷
    accepts (stmts "if a = b then null; else null; end if;") ∷
    -- ports: at least one group, no `;` before `)`; "in or out", a type, perhaps a literal
    refused_at_lem 3 (ports "^") ")" ∷
    refused_at_lem 3 (ports "clk : in std_logic; ^") ")" ∷
    refused_at_lem 3 (ports "clk : ^inout std_logic") "inout" ∷
    refused_at_lem 3 (ports "clk : in ^bit") "bit" ∷
    refused_at_lem 3 (ports "clk ^in std_logic") "in" ∷
    refused_at_lem 3 (ports "clk, ^: in std_logic") ":" ∷
    accepts (ports "clk : in std_logic") ∷
    -- "An initial value is a literal; a number may have -."
    refused_at_lem 3 (vars "variable v : integer := ^v;") "v" ∷
    refused_at_lem 3 (vars "variable v : std_logic := -^'0';") "'0'" ∷
    refused_at_lem 3 (vars "variable v : integer := - ^-1;") "-" ∷
    refused_at_lem 3 (vars "variable v : integer := 1 ^+ 1;") "+" ∷
    accepts (vars "variable v : integer := -1; variable w : std_logic := '0';") ∷
    -- names of entity and architecture are needed, reserved words are no names
    refused_at_lem 3 (bytes "entity ^is") "is" ∷
    refused_at_lem 3 (vars "variable ^loop : integer := 0;") "loop" ∷
    []
