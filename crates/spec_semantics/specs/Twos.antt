-- 32-bit integers in two's complement. Assumes nothing.
use Rattle.std.specs.Prelude.{cond, ℕ, ◌-◌, ℤ, pos, negsuc, ltb}

-- the integer of a number below 2^32; negsuc n is -(n + 1)
abbrev pub signed32 : ℕ → ℤ
signed32 n = cond (ltb n 2147483648) (pos n) (negsuc (4294967295 - n))

-- the number of an integer
abbrev pub unsigned32 : ℤ → ℕ
unsigned32 (pos n) = n
unsigned32 (negsuc n) = 4294967295 - n
