-- Operations of postfix code by number (document 01, "Image, form 1"; document 02, slip 2): literals and names, then the operators; which operator a code and
-- a token stand for, how many operands an operation takes, how many bytes it has. Assumes nothing.
use Rattle.std.specs.Prelude.{cond, ℕ, eqb}
use Rattle.std.proofs.Math.Option.{Option, none, some}
use Rattle.spec_design.specs.Expression.{Unary, sign, invert, Binary, plus, minus, equal, unequal, less, at_most, greater, at_least, and, or, xor, times, divide, modulo, remainder}
use Rattle.base_codes.specs.Token as Token

-- "1 integer (4 bytes), 2 std_logic (1 byte), 3 input, 4 variable (1-byte index)"
abbrev pub INTEGER : ℕ
INTEGER = 1

abbrev pub STD_LOGIC : ℕ
STD_LOGIC = 2

abbrev pub INPUT : ℕ
INPUT = 3

abbrev pub VARIABLE : ℕ
VARIABLE = 4

-- "16 sign, 17 not"
abbrev pub SIGN : ℕ
SIGN = 16

abbrev pub NOT : ℕ
NOT = 17

-- "18 +, 19 -, 20 =, 21 /=, 22 <, 23 <=, 24 >, 25 >=, 26 and, 27 or, 28 xor"
abbrev pub PLUS : ℕ
PLUS = 18

abbrev pub MINUS : ℕ
MINUS = 19

abbrev pub EQ : ℕ
EQ = 20

abbrev pub NE : ℕ
NE = 21

abbrev pub LT : ℕ
LT = 22

abbrev pub LE : ℕ
LE = 23

abbrev pub GT : ℕ
GT = 24

abbrev pub GE : ℕ
GE = 25

abbrev pub AND : ℕ
AND = 26

abbrev pub OR : ℕ
OR = 27

abbrev pub XOR : ℕ
XOR = 28

-- "Codes are 29 to 32 in the order named": * / mod rem
abbrev pub TIMES : ℕ
TIMES = 29

abbrev pub DIVIDE : ℕ
DIVIDE = 30

abbrev pub MOD : ℕ
MOD = 31

abbrev pub REM : ℕ
REM = 32

-- the code of an operator of one operand, and of two
abbrev pub unary_code : Unary → ℕ
unary_code sign = SIGN
unary_code invert = NOT

abbrev pub binary_code : Binary → ℕ
binary_code plus = PLUS
binary_code minus = MINUS
binary_code equal = EQ
binary_code unequal = NE
binary_code less = LT
binary_code at_most = LE
binary_code greater = GT
binary_code at_least = GE
binary_code and = AND
binary_code or = OR
binary_code xor = XOR
binary_code times = TIMES
binary_code divide = DIVIDE
binary_code modulo = MOD
binary_code remainder = REM

-- the operator that has a code
abbrev pub unary_for : ℕ → Option Unary
unary_for k = cond (eqb k SIGN) (some sign) (cond (eqb k NOT) (some invert) none)

abbrev pub binary_for : ℕ → Option Binary
binary_for k =
    cond (eqb k PLUS) (some plus) (cond (eqb k MINUS) (some minus) (cond (eqb k EQ) (some equal) (cond (eqb k NE) (some unequal)
    (cond (eqb k LT) (some less) (cond (eqb k LE) (some at_most) (cond (eqb k GT) (some greater) (cond (eqb k GE) (some at_least)
    (cond (eqb k AND) (some and) (cond (eqb k OR) (some or) (cond (eqb k XOR) (some xor)
    (cond (eqb k TIMES) (some times) (cond (eqb k DIVIDE) (some divide) (cond (eqb k MOD) (some modulo) (cond (eqb k REM) (some remainder) none))))))))))))))

-- the operator of two operands that a token is, by its kind
unfoldable pub operator_of : ℕ → Option Binary
operator_of k =
    cond (eqb k Token.PLUS) (some plus) (cond (eqb k Token.MINUS) (some minus) (cond (eqb k Token.EQ) (some equal) (cond (eqb k Token.NE) (some unequal)
    (cond (eqb k Token.LT) (some less) (cond (eqb k Token.LE) (some at_most) (cond (eqb k Token.GT) (some greater) (cond (eqb k Token.GE) (some at_least)
    (cond (eqb k Token.AND) (some and) (cond (eqb k Token.OR) (some or) (cond (eqb k Token.XOR) (some xor)
    (cond (eqb k Token.TIMES) (some times) (cond (eqb k Token.DIVIDE) (some divide)
    (cond (eqb k Token.MOD) (some modulo) (cond (eqb k Token.REM) (some remainder) none))))))))))))))

-- the code of that operator; 0 for a token that is none
unfoldable pub code_or : Option Binary → ℕ
code_or none = 0
code_or (some o) = binary_code o

unfoldable pub operation_of : ℕ → ℕ
operation_of k = code_or (operator_of k)

-- how many operands the operation with a code takes; 0 for one that is pushed, and for what is no operation
unfoldable pub count_or : Option Unary → Option Binary → ℕ
count_or (some o) b = 1
count_or none (some o) = 2
count_or none none = 0

unfoldable pub operands_of : ℕ → ℕ
operands_of k = count_or (unary_for k) (binary_for k)

-- how many bytes the operation with a code has
unfoldable pub width_of : ℕ → ℕ
width_of k = cond (eqb k INTEGER) 5 (cond (eqb k STD_LOGIC) 2 (cond (eqb k INPUT) 2 (cond (eqb k VARIABLE) 2 1)))
