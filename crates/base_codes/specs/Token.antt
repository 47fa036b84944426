-- The 47 kinds of token by number, in the order in which document 01 and its change requests name them. Assumes nothing.
use Rattle.std.specs.Prelude.{Bool, false, ◌||◌, List, [], ◌∷◌, ℕ, eqb}

-- a name: a word that is not reserved
abbrev pub NAME : ℕ
NAME = 1

-- "Literals: digits only, or '0', '1'."
abbrev pub NUMBER : ℕ
NUMBER = 2

abbrev pub ZERO : ℕ
ZERO = 3

abbrev pub ONE : ℕ
ONE = 4

-- marks: ( ) ; : , :=
abbrev pub LP : ℕ
LP = 5

abbrev pub RP : ℕ
RP = 6

abbrev pub SEMI : ℕ
SEMI = 7

abbrev pub COLON : ℕ
COLON = 8

abbrev pub COMMA : ℕ
COMMA = 9

abbrev pub BECOMES : ℕ
BECOMES = 10

-- operators: + - = /= < <= > >= and or xor not
abbrev pub PLUS : ℕ
PLUS = 11

abbrev pub MINUS : ℕ
MINUS = 12

abbrev pub EQ : ℕ
EQ = 13

abbrev pub NE : ℕ
NE = 14

abbrev pub LT : ℕ
LT = 15

abbrev pub LE : ℕ
LE = 16

abbrev pub GT : ℕ
GT = 17

abbrev pub GE : ℕ
GE = 18

abbrev pub AND : ℕ
AND = 19

abbrev pub OR : ℕ
OR = 20

abbrev pub XOR : ℕ
XOR = 21

abbrev pub NOT : ℕ
NOT = 22

-- the other reserved words, each under its own name
abbrev pub ENTITY : ℕ
ENTITY = 23

abbrev pub IS : ℕ
IS = 24

abbrev pub PORT : ℕ
PORT = 25

abbrev pub END : ℕ
END = 26

abbrev pub ARCHITECTURE : ℕ
ARCHITECTURE = 27

abbrev pub OF : ℕ
OF = 28

abbrev pub BEGIN : ℕ
BEGIN = 29

abbrev pub PROCESS : ℕ
PROCESS = 30

abbrev pub IN : ℕ
IN = 31

abbrev pub OUT : ℕ
OUT = 32

abbrev pub VARIABLE : ℕ
VARIABLE = 33

abbrev pub NULL : ℕ
NULL = 34

abbrev pub WAIT : ℕ
WAIT = 35

abbrev pub UNTIL : ℕ
UNTIL = 36

abbrev pub IF : ℕ
IF = 37

abbrev pub THEN : ℕ
THEN = 38

abbrev pub ELSE : ℕ
ELSE = 39

abbrev pub WHILE : ℕ
WHILE = 40

abbrev pub LOOP : ℕ
LOOP = 41

abbrev pub STD_LOGIC : ℕ
STD_LOGIC = 42

abbrev pub INTEGER : ℕ
INTEGER = 43

-- operators: * / mod rem
abbrev pub TIMES : ℕ
TIMES = 44

abbrev pub DIVIDE : ℕ
DIVIDE = 45

abbrev pub MOD : ℕ
MOD = 46

abbrev pub REM : ℕ
REM = 47

-- the index of a token that is not there: a text has no token so late
abbrev pub NOWHERE : ℕ
NOWHERE = 16384

-- k is one of these
unfoldable pub one_of : ℕ → List ℕ → Bool
one_of k [] = false
one_of k (x ∷ l) = eqb k x || one_of k l

-- The classes of kinds: names and literals; + -; * / mod rem; = /= < <= > >=; and or xor.
abbrev pub operands : List ℕ
operands = NAME ∷ NUMBER ∷ ZERO ∷ ONE ∷ []

abbrev pub adding : List ℕ
adding = PLUS ∷ MINUS ∷ []

abbrev pub multiplying : List ℕ
multiplying = TIMES ∷ DIVIDE ∷ MOD ∷ REM ∷ []

abbrev pub relational : List ℕ
relational = EQ ∷ NE ∷ LT ∷ LE ∷ GT ∷ GE ∷ []

abbrev pub logical : List ℕ
logical = AND ∷ OR ∷ XOR ∷ []

-- the operators that stand between two operands
abbrev pub operators : List ℕ
operators = PLUS ∷ MINUS ∷ EQ ∷ NE ∷ LT ∷ LE ∷ GT ∷ GE ∷ AND ∷ OR ∷ XOR ∷ TIMES ∷ DIVIDE ∷ MOD ∷ REM ∷ []
