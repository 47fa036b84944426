-- What holds of each of the kinds of operators with two operands holds of every kind that is one. Assumes nothing.
use Prim.Native.Nat.{ℕ}
use Rattle.base_codes.specs.Token.{operators, PLUS, MINUS, EQ, NE, LT, LE, GT, GE, AND, OR, XOR, TIMES, DIVIDE, MOD, REM}
use Rattle.base_codes.proofs.TokenLaws.{each}
use Rattle.front_offences.specs.Kinded.{OperatorKind}

-- in the order of their kinds: + - = /= < <= > >= and or xor, then * / mod rem
pub each_operator : (P : ℕ → Type 0) → P PLUS → P MINUS → P EQ → P NE → P LT → P LE → P GT → P GE → P AND → P OR → P XOR → P TIMES → P DIVIDE → P MOD → P REM
    → (k : ℕ) → OperatorKind k → P k
each_operator P a b c d e f g h i j l t u v w = each P operators (a, (b, (c, (d, (e, (f, (g, (h, (i, (j, (l, (t, (u, (v, (w, tt)))))))))))))))
