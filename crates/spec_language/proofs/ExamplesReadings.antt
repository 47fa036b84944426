-- What some texts say: P7, chains of - from the left, and the readings and processes of document 01's tally and of document 000's GCD (figure 4.1,
-- with integer for positive). Each is computed. Assumes nothing.
use mathlib.Core.Path.{◌≡◌, refl, ap}
use mathlib.Core.Bool.{true, false}
use mathlib.Core.Option.{Option, none, some}
use mathlib.Core.List.{List, [], ◌∷◌, ◌++◌}
use Prim.Native.Nat.{ℕ}
use Prim.Native.String.{String}
use native.Mathlib.Omega.{arith}
use lib.IntN.{pos}
use Rattle.base_codes.specs.Token.{PLUS, MINUS, LT, NE}
use Rattle.spec_grammar.specs.Tree.{input, output_port, variable_mode}
use Rattle.spec_design.specs.Types.{Ty, std_logic, integer, plain}
use Rattle.spec_design.specs.Expression.{Expr, leaf, int, bit, binary, plus, minus, unequal, less}
use Rattle.spec_design.specs.Expression as E
use Rattle.spec_design.specs.Statement.{Stmt, act, wait, if_else, while, seq}
use Rattle.spec_design.specs.Statement as D
use Rattle.spec_design.specs.Process.{Process}
use Rattle.spec_language.specs.Bytes.{bytes}
use Rattle.spec_language.specs.Words.{folded}
use Rattle.spec_language.specs.Reading.{Reading, ExprReading, StmtReading, BodyReading, DeclReading, only, and_then}
use Rattle.spec_language.specs.Reading as R
use Rattle.spec_language.specs.Verdict.{accepted, verdict}
use Rattle.spec_language.proofs.Computing.{computed, on_answer, on_lexed, reading_of}
use Rattle.spec_language.proofs.Examples.{stmts}

-- a name's folded number
abbrev pub named : String → ℕ
named s = folded 0 (bytes s)

-- P7: not a = b is (not a) = b
p7 : reading_of (stmts "if not a = b then null; end if;") ≡ reading_of (stmts "if (not a) = b then null; end if;")
unfolding computed on_answer on_lexed reading_of
p7 = refl

-- and not (a = b) is another: there the first statement's condition is a not
abbrev condition : ExprReading → ℕ
condition (R.number v) = 0
condition (R.bit v) = 0
condition (R.name v) = 0
condition (R.sign a) = 0
condition (R.negate a) = 1
condition (R.binary k a b) = 0

abbrev first_of : StmtReading → ℕ
first_of (R.output v e) = 0
first_of (R.assign v e) = 0
first_of R.null = 0
first_of (R.wait v) = 0
first_of (R.if_then e a) = condition e
first_of (R.if_else e a b) = 0
first_of (R.while e a) = 0

abbrev first_in : BodyReading → ℕ
first_in (only s) = first_of s
first_in (and_then s b) = first_of s

abbrev is_not : Option Reading → ℕ
is_not none = 2
is_not (some r) = first_in r.body

p7_other : reading_of (stmts "if not (a = b) then null; end if;") ≡ reading_of (stmts "if not a = b then null; end if;") → ⊥
unfolding computed on_answer on_lexed reading_of
p7_other e = let z : ◌≡◌ {A = ℕ} 1 0 = ap is_not e in omega arith

-- a - b - c reads (a - b) - c, and so with + and with chains of and
left : reading_of (stmts "s := s - u - d;") ≡ reading_of (stmts "s := (s - u) - d;")
unfolding computed on_answer on_lexed reading_of
left = refl

left_mixed : reading_of (stmts "s := - s - u + d - 1;") ≡ reading_of (stmts "s := (((- s) - u) + d) - 1;")
unfolding computed on_answer on_lexed reading_of
left_mixed = refl

left_chain : reading_of (stmts "q <= a and b and c;") ≡ reading_of (stmts "Q <= ((a) AND b) and (C);")
unfolding computed on_answer on_lexed reading_of
left_chain = refl

-- groups, case, places and initial values of inputs make no difference
grouped : reading_of (bytes "entity e is port(clk:in std_logic;a:in std_logic:='1');end e;architecture t of e is begin process variable u:integer:=0;variable v:integer:=-0;begin wait until clk='1';end process;end t;")
    ≡ reading_of (bytes "ENTITY E is port ( CLK, a : in std_logic ); end e; architecture t of e is begin process variable u, v : integer := 0; begin wait until Clk = '1'; end process; end t;")
unfolding computed on_answer on_lexed reading_of
grouped = refl

-- Document 01's tally.
abbrev pub tally_text : List ℕ
tally_text =
    bytes "entity tally is\n  port ( clk : in std_logic; d : in integer; total : out integer := 0 );\nend tally;\n" ++
    (bytes "architecture a of tally is\nbegin process\n  variable s : integer := 0;\nbegin\n  while s < 10 loop\n    s := s + d;\n    wait until clk = '1';\n  end loop;\n" ++
    bytes "  total <= s;\n  s := 0;\n  wait until clk = '1';\nend process;\nend a;\n")

abbrev decl : String → Ty → DeclReading
decl s t = record { name = named s; mode = input; type = t; initial = none }

tally_reads : reading_of tally_text ≡ some (record {
  entity = named "tally";
  architecture = named "a";
  ports = decl "clk" std_logic ∷ decl "d" integer ∷ record { name = named "total"; mode = output_port; type = integer; initial = some (pos 0) } ∷ [];
  variables = record { name = named "s"; mode = variable_mode; type = integer; initial = some (pos 0) } ∷ [];
  body =
      and_then (R.while (R.binary LT (R.name (named "s")) (R.number 10))
      (and_then (R.assign (named "s") (R.binary PLUS (R.name (named "s")) (R.name (named "d")))) (only (R.wait (named "clk")))))
      (and_then (R.output (named "total") (R.name (named "s"))) (and_then (R.assign (named "s") (R.number 0)) (only (R.wait (named "clk")))));
})
unfolding computed on_answer on_lexed reading_of
tally_reads = refl

-- d is input 0: the clock is left out
abbrev pub tally : Process
tally = record {
  inputs = record { name = named "d"; type = integer } ∷ [];
  outputs = record { name = named "total"; type = integer; initial = pos 0 } ∷ [];
  variables = record { name = named "s"; type = integer; initial = pos 0 } ∷ [];
  body =
      seq (while (binary less (plain integer) (leaf (E.variable 0)) (leaf (int (pos 10))))
      (seq (act (D.Act.variable 0 (binary plus (plain integer) (leaf (E.variable 0)) (leaf (E.input 0))))) wait))
      (seq (act (D.Act.output 0 (leaf (E.variable 0)))) (seq (act (D.Act.variable 0 (leaf (int (pos 0))))) wait));
}

pub tally_means : verdict tally_text ≡ accepted tally
unfolding computed
tally_means = refl

-- Document 000's GCD.
abbrev pub gcd_text : List ℕ
gcd_text =
    bytes "entity gcd is port ( clk : in std_logic; a, b : in integer; start : in std_logic; ready : out std_logic := '0'; result : out integer := 0 ); end gcd;\n" ++
    (bytes "architecture behavior of gcd is begin process\n  variable x, y, z : integer := 0;\nbegin\n  while start /= '1' loop\n    wait until clk = '1';\n  end loop;\n" ++
    (bytes "  ready <= '0';\n  if (a < b) then\n    x := b; y := a;\n  else\n    x := a; y := b;\n  end if;\n" ++
    (bytes "  while (y /= 0) loop\n    z := x - y;\n    wait until clk = '1';\n    x := y;\n    y := z;\n  end loop;\n" ++
    bytes "  ready <= '1';\n  result <= x;\n  wait until clk = '1';\nend process; end behavior;\n")))

abbrev name : String → ExprReading
name s = R.name (named s)

abbrev sets : String → ExprReading → StmtReading
sets v e = R.assign (named v) e

gcd_reads : reading_of gcd_text ≡ some (record {
  entity = named "gcd";
  architecture = named "behavior";
  ports =
      decl "clk" std_logic ∷ decl "a" integer ∷ decl "b" integer ∷ decl "start" std_logic ∷
      record { name = named "ready"; mode = output_port; type = std_logic; initial = some (pos 0) } ∷
      record { name = named "result"; mode = output_port; type = integer; initial = some (pos 0) } ∷ [];
  variables =
      record { name = named "x"; mode = variable_mode; type = integer; initial = some (pos 0) } ∷
      record { name = named "y"; mode = variable_mode; type = integer; initial = some (pos 0) } ∷
      record { name = named "z"; mode = variable_mode; type = integer; initial = some (pos 0) } ∷ [];
  body =
      and_then (R.while (R.binary NE (name "start") (R.bit 1)) (only (R.wait (named "clk"))))
      (and_then (R.output (named "ready") (R.bit 0))
      (and_then (R.if_else (R.binary LT (name "a") (name "b")) (and_then (sets "x" (name "b")) (only (sets "y" (name "a")))) (and_then (sets "x" (name "a")) (only (sets "y" (name "b")))))
      (and_then (R.while (R.binary NE (name "y") (R.number 0))
      (and_then (sets "z" (R.binary MINUS (name "x") (name "y"))) (and_then (R.wait (named "clk")) (and_then (sets "x" (name "y")) (only (sets "y" (name "z")))))))
      (and_then (R.output (named "ready") (R.bit 1)) (and_then (R.output (named "result") (name "x")) (only (R.wait (named "clk"))))))));
})
unfolding computed on_answer on_lexed reading_of
gcd_reads = refl

-- a, b and start are the inputs 0, 1 and 2; ready and result the outputs 0 and 1; x, y and z the variables 0, 1 and 2
abbrev var : ℕ → Expr
var k = leaf (E.variable k)

abbrev inp : ℕ → Expr
inp k = leaf (E.input k)

abbrev store : ℕ → Expr → Stmt
store k e = act (D.Act.variable k e)

abbrev pub gcd : Process
gcd = record {
  inputs = record { name = named "a"; type = integer } ∷ record { name = named "b"; type = integer } ∷ record { name = named "start"; type = std_logic } ∷ [];
  outputs = record { name = named "ready"; type = std_logic; initial = pos 0 } ∷ record { name = named "result"; type = integer; initial = pos 0 } ∷ [];
  variables =
      record { name = named "x"; type = integer; initial = pos 0 } ∷ record { name = named "y"; type = integer; initial = pos 0 } ∷
      record { name = named "z"; type = integer; initial = pos 0 } ∷ [];
  body =
      seq (while (binary unequal (plain std_logic) (inp 2) (leaf (bit true))) wait)
      (seq (act (D.Act.output 0 (leaf (bit false))))
      (seq (if_else (binary less (plain integer) (inp 0) (inp 1)) (seq (store 0 (inp 1)) (store 1 (inp 0))) (seq (store 0 (inp 0)) (store 1 (inp 1))))
      (seq (while (binary unequal (plain integer) (var 1) (leaf (int (pos 0))))
      (seq (store 2 (binary minus (plain integer) (var 0) (var 1))) (seq wait (seq (store 0 (var 1)) (store 1 (var 2))))))
      (seq (act (D.Act.output 0 (leaf (bit true)))) (seq (act (D.Act.output 1 (var 0))) wait)))));
}

pub gcd_means : verdict gcd_text ≡ accepted gcd
unfolding computed
gcd_means = refl
